-- What an operand counts as. Assumes nothing.
use Rattle.std.proofs.Common.{◌≡◌, ℕ, ◌<◌, ltb}
use Rattle.field.specs.Meaning.{Meaning, digit}
use Rattle.std.proofs.lemmas.Bool.{ltb-true, cond_both, cond-true, lt-ltb}

pub digit_lt : (m : Meaning) (a : ℕ) → 0 < m.order → digit m a < m.order
digit_lt m a h = cond_both (ltb a m.order) a 0 (λ x. x < m.order) (λ e. ltb-true a m.order e) (λ e. h)

pub digit_same : (m : Meaning) (a : ℕ) → a < m.order → digit m a ≡ a
digit_same m a h = cond-true (ltb a m.order) a 0 (lt-ltb a m.order h)
