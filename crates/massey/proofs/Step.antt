-- One step, by its discrepancy and its tests. Assumes nothing.
use Rattle.std.proofs.Common.{◌≡◌, ℕ, ◌*◌, Bool, leb, ap, ◌∙◌, ap₂}
use Rattle.field.specs.Operations.{Operations}
use Rattle.massey.specs.Steps.{State, advance, next_discrepancy, step}

pub step_is : {K : Type 0} (o : Operations K) (s : ℕ → K) (st : State K) (d : K) (none short : Bool) → next_discrepancy o s st ≡ d → o.is_zero d ≡ none → leb (2 * st.l) st.k ≡ short → step o s st ≡ advance o st d none short
unfolding step
step_is o s st d none short e p q = ap (λ x. advance o st x (o.is_zero x) (leb (2 * st.l) st.k)) e ∙ ap₂ (advance o st d) p q
