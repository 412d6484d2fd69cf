-- What a finite field means. Assumes nothing.
--   Meaning          the order q, and a sum and a product for each pair of digits; the digits are 0 .. q - 1
--   digit m a        what an operand counts as: itself where it is a digit, else 0
--   add m a b        the sum of what two operands count as
--   multiply m a b   the product of what two operands count as
--   Negates m a r    r is the negative of what a counts as
--   Inverts m a r    r is the inverse of what a counts as, or nothing where that is 0
use Rattle.std.specs.Prelude.{◌≡◌, ℕ, ◌<◌, cond, Some, None, Option, nat_lt}

pub record Meaning : Type 0 where
  pub order : ℕ
  pub sum : ℕ → ℕ → ℕ
  pub product : ℕ → ℕ → ℕ

abbrev pub digit : Meaning → ℕ → ℕ
digit m a = cond (nat_lt a m.order) a 0

unfoldable pub add : Meaning → ℕ → ℕ → ℕ
add m a b = m.sum (digit m a) (digit m b)

unfoldable pub multiply : Meaning → ℕ → ℕ → ℕ
multiply m a b = m.product (digit m a) (digit m b)

pub record Negates (m : Meaning) (a r : ℕ) : Type 0 where
  pub within : r < m.order
  pub cancels : m.sum (digit m a) r ≡ 0

abbrev pub Inverts : Meaning → ℕ → Option ℕ → Type 0
Inverts m a None = digit m a ≡ 0
Inverts m a (Some r) = (0 < digit m a) × (r < m.order) × (m.product (digit m a) r ≡ 1)
