-- The steps go by the digits that they have taken. Assumes nothing.
use Rattle.std.proofs.Common.{◌≡◌, ℕ, zero, suc, ◌-◌, ◌*◌, ◌<◌, ◌≤◌, leb, List, [], ◌∷◌, ◌++◌, length, refl, ap, ◌∙◌, ap₂, add-one, arith}
use Rattle.std.proofs.lemmas.List.{get_or_append_left, length_push}
use Rattle.field.specs.Meaning.{Meaning}
use Rattle.field.specs.Operations.{Operations, operations}
use Rattle.register.specs.Rule.{discrepancy}
use Rattle.register.specs.Strings.{at}
use Rattle.register.proofs.Sums.{feedback_cong}
use Rattle.massey.specs.Steps.{State, taps_of, advance, step, run, steps}
use Rattle.massey.proofs.Taken.{run_k}

module _ {K : Type 0} (o : Operations K) (s r : ℕ → K) where
  -- a discrepancy goes by the digits up to its place
  pub discrepancy_cong : (l : ℕ) (t u : ℕ → K) (n : ℕ) → ((i : ℕ) → i < l → t i ≡ u i) → ((i : ℕ) → i ≤ n → s i ≡ r i) → discrepancy o s l t n ≡ discrepancy o r l u n
  discrepancy_cong l t u n taps digits = ap₂ o.◌⊕◌ (digits n (omega arith)) (feedback_cong o s r l t u n taps (λ i h. digits (n - suc i) (omega arith)))

  step_cong : (st : State K) → ((i : ℕ) → i ≤ st.k → s i ≡ r i) → step o s st ≡ step o r st
  unfolding step
  step_cong st same =
      ap (λ d. advance o st d (o.is_zero d) (leb (2 * st.l) st.k)) (discrepancy_cong st.l (taps_of st.C) (taps_of st.C) st.k (λ i h. refl) same)

  pub run_cong : (k : ℕ) → ((i : ℕ) → i < k → s i ≡ r i) → run o s k ≡ run o r k
  unfolding run
  run_cong zero same = refl
  run_cong (suc k) same =
      step_cong (run o s k) (λ i h. same i (omega (arith, run_k o s k)))
      ∙ ap (step o r) (run_cong k (λ i h. same i (omega arith)))

-- the steps over a string and one digit more
pub steps_push : (m : Meaning) (w : List ℕ) (x : ℕ) → steps m (w ++ x ∷ []) ≡ step (operations m) (at (w ++ x ∷ [])) (steps m w)
unfolding run
steps_push m w x =
    ap (run (operations m) (at (w ++ x ∷ []))) (length_push w x ∙ add-one _)
    ∙ ap (step (operations m) (at (w ++ x ∷ []))) (run_cong (operations m) (at (w ++ x ∷ [])) (at w) (length w) (λ i h. get_or_append_left w (x ∷ []) 0 i h))
