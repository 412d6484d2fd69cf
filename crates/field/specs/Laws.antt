-- The laws of a ring and of a field, over the digits. Assumes nothing.
--   RingLaws m    sums and products are digits, commutative and associative; 0 and 1 are neutral; the product distributes; every digit has a negative
--   FieldLaws m   these, and every digit but 0 has an inverse
use Rattle.std.specs.Prelude.{◌≡◌, ℕ, ◌<◌, ◌≤◌}
use Rattle.field.specs.Meaning.{Meaning}

-- 0 and 1 are different digits, and a digit fits its 16-bit cell
pub record RingLaws (m : Meaning) : Type 0 where
  pub least : 2 ≤ m.order
  pub most : m.order ≤ 65536
  pub sum_digit : (a b : ℕ) → a < m.order → b < m.order → m.sum a b < m.order
  pub sum_comm : (a b : ℕ) → a < m.order → b < m.order → m.sum a b ≡ m.sum b a
  pub sum_assoc : (a b c : ℕ) → a < m.order → b < m.order → c < m.order → m.sum (m.sum a b) c ≡ m.sum a (m.sum b c)
  pub sum_zero : (a : ℕ) → a < m.order → m.sum a 0 ≡ a
  pub negative : (a : ℕ) → a < m.order → (b : ℕ) × (b < m.order) × (m.sum a b ≡ 0)
  pub product_digit : (a b : ℕ) → a < m.order → b < m.order → m.product a b < m.order
  pub product_comm : (a b : ℕ) → a < m.order → b < m.order → m.product a b ≡ m.product b a
  pub product_assoc : (a b c : ℕ) → a < m.order → b < m.order → c < m.order → m.product (m.product a b) c ≡ m.product a (m.product b c)
  pub product_one : (a : ℕ) → a < m.order → m.product a 1 ≡ a
  pub distributes : (a b c : ℕ) → a < m.order → b < m.order → c < m.order → m.product a (m.sum b c) ≡ m.sum (m.product a b) (m.product a c)

pub record FieldLaws (m : Meaning) : Type 0 where
  pub ring : RingLaws m
  pub inverse : (a : ℕ) → 0 < a → a < m.order → (b : ℕ) × (b < m.order) × (m.product a b ≡ 1)
