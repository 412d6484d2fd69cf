-- When two fields have the same arithmetic. Assumes nothing.
--   Agree m n   as many digits, and the same sum, product and inverse at any operands
use Rattle.std.specs.Prelude.{◌≡◌, ℕ}
use Rattle.field.specs.Meaning.{Meaning, add, multiply}
use Rattle.field.specs.Operations.{inverse}

pub record Agree (m n : Meaning) : Type 0 where
  pub orders : m.order ≡ n.order
  pub sums : (a b : ℕ) → add m a b ≡ add n a b
  pub products : (a b : ℕ) → multiply m a b ≡ multiply n a b
  pub inverses : (a : ℕ) → inverse m a ≡ inverse n a
