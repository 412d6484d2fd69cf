-- The digit that the register of the steps expects next. Assumes nothing.
use Rattle.std.proofs.Common.{◌≡◌, ℕ, suc, ◌-◌, ◌≤◌, List, [], ◌∷◌, ◌++◌, length, sym, refl, ◌∙◌, ap₂, arith}
use Rattle.std.proofs.lemmas.List.{get_or_append_left, get_or_push}
use Rattle.field.specs.Laws.{FieldLaws}
use Rattle.field.specs.Meaning.{Meaning, add}
use Rattle.field.specs.Operations.{operations, negative}
use Rattle.field.proofs.Totals.{add_comm, cancel}
use Rattle.register.specs.Rule.{feedback}
use Rattle.register.specs.Strings.{at, Digits, discrepancy_at}
use Rattle.register.proofs.Sums.{feedback_cong}
use Rattle.massey.specs.Steps.{State, taps_of, steps}
use Rattle.massey.specs.Theorems.{register_of, expected, Expected}
use Rattle.field.proofs.Unique.{negative_lt, add_negative}
use Rattle.massey.proofs.Registers.{register_discrepancy, generates_push}
use Rattle.massey.proofs.Strings.{shortest, bounds}

-- what the register of a state makes of a string
abbrev pub feedback_of : Meaning → List ℕ → State ℕ → ℕ
feedback_of m w st = feedback (operations m) (at w) st.l (taps_of st.C) (length w)

-- the discrepancy at one digit more
pub next_digit : (m : Meaning) (w : List ℕ) (st : State ℕ) (y : ℕ) → st.l ≤ length w → discrepancy_at m (register_of st) (w ++ y ∷ []) (length w) ≡ add m y (feedback_of m w st)
next_digit m w st y within =
    register_discrepancy st m (w ++ y ∷ []) (length w)
    ∙ ap₂ (add m) (get_or_push w y 0 (length w) refl)
    (feedback_cong (operations m) (at (w ++ y ∷ [])) (at w) st.l (taps_of st.C) (taps_of st.C) (length w)
    (λ i h. refl) (λ i h. get_or_append_left w (y ∷ []) 0 (length w - suc i) (omega arith)))

module _ (m : Meaning) (laws : FieldLaws m) (w : List ℕ) (dw : Digits m w) where
  pub expects : Expected m w (expected m w)
  unfolding expected
  expects =
      let st : State ℕ = steps m w in
      let x : ℕ = feedback_of m w st in
      let within : st.l ≤ length w = (bounds m laws w dw).within in
      let cancels : add m x (negative m x) ≡ 0 = add_negative m laws.ring x in
      let none = next_digit m w st (negative m x) within ∙ add_comm m laws.ring (negative m x) x ∙ cancels in
      record {
        digit = negative_lt m laws.ring x;
        leaves_none = none;
        only = λ y h e.
            cancel m laws.ring x y (negative m x) h (negative_lt m laws.ring x)
            (add_comm m laws.ring x y ∙ sym (next_digit m w st y within) ∙ e ∙ sym cancels);
        generates = generates_push m (register_of st) w (negative m x) (shortest m laws w dw).generates none;
      }
