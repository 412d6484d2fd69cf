-- What a sound state shows: its register, and the digit that it expects. Assumes nothing.
use Rattle.std.proofs.Common.{◌≡◌, ℕ, suc, ◌≤◌, List, ◌++◌, take, drop, sym, ap, ◌∙◌, subst, ap₂, arith, length-drop, get_or-drop, get_or-take}
use Rattle.std.proofs.lemmas.List.{length-take-le}
use Rattle.field.specs.Meaning.{Meaning, Negates}
use Rattle.field.specs.Operations.{negative}
use Rattle.field.proofs.Unique.{negates_is}
use Rattle.register.specs.Strings.{at}
use Rattle.massey.specs.Steps.{steps}
use Rattle.massey.specs.Theorems.{register_of, expected, Expected}
use Rattle.massey.proofs.Expects.{expects}
use Rattle.massey.proofs.Registers.{register_is, register_length}
use Rattle.synthesis.specs.Cells.{feedback_of_row}
use Rattle.synthesis.specs.Kept.{kept}
use Rattle.synthesis.specs.Sound.{Sound, overwritten}
use Rattle.synthesis.specs.declared.state.State.{State}
use Rattle.synthesis.proofs.Soundness.{kept_at, sound_laws, sound_digits, c_at, length_is, feedback_is}

module _ (m : Meaning) (st : State) (x : Sound m st) where
  pub expected_is : (r : ℕ) → Negates m (feedback_of_row m st.digits st.c st.progress.length st.progress.taken) r → r ≡ expected m (kept st)
  unfolding expected
  expected_is r n =
      negates_is m (sound_laws m st x).ring _ r n
      ∙ ap (negative m) (feedback_is m st x st.digits (kept_at st))

  pub expected_holds : (r : ℕ) → Negates m (feedback_of_row m st.digits st.c st.progress.length st.progress.taken) r → Expected m (kept st) r
  expected_holds r n = subst (Expected m (kept st)) (sym (expected_is r n)) (expects m (sound_laws m st x) (kept st) (sound_digits m st x))

  tap_cells : take st.progress.length (drop 1 st.c) ≡ register_of (steps m (kept st))
  tap_cells =
      let l : ℕ = st.progress.length in
      let e : l ≡ (steps m (kept st)).l = length_is m st x in
      let few : l ≤ 256 = omega (arith, st.progress.short, st.progress.few) in
      register_is (steps m (kept st)) (take l (drop 1 st.c))
      (length-take-le l (drop 1 st.c) (omega (arith, length-drop 1 st.c, st.wide)) ∙ e)
      (λ i h.
      get_or-take l (drop 1 st.c) i 0 (omega arith) ∙ get_or-drop 1 st.c i 0 ∙ ap (at st.c) (omega arith)
      ∙ c_at m st x (suc i) (omega arith))

  pub taps_are : (cells : List ℕ) → take st.progress.length (drop 1 st.c) ++ drop st.progress.length cells ≡ overwritten (register_of (steps m (kept st))) cells
  taps_are cells = ap₂ (λ taps n. taps ++ drop n cells) tap_cells (length_is m st x ∙ sym (register_length (steps m (kept st))))
