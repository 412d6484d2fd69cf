-- The laws with no condition on the operands, since what is no digit counts as 0. Assumes nothing.
use Rattle.std.proofs.Common.{◌≡◌, ℕ, ◌<◌, sym, ap, ◌∙◌, ap₂, arith}
use Rattle.field.specs.Meaning.{Meaning, digit, add, multiply}
use Rattle.field.specs.Laws.{RingLaws}
use Rattle.field.proofs.Digits.{digit_lt, digit_same}

module _ (m : Meaning) (laws : RingLaws m) where
  infixl 60 ◌⊕◌
  infixl 70 ◌⊗◌
  abbrev ◌⊕◌ : ℕ → ℕ → ℕ
  ◌⊕◌ = add m

  abbrev ◌⊗◌ : ℕ → ℕ → ℕ
  ◌⊗◌ = multiply m

  pub positive : 0 < m.order
  positive = omega (arith, laws.least)

  lt : (a : ℕ) → digit m a < m.order
  lt a = digit_lt m a positive

  pub add_lt : (a b : ℕ) → a ⊕ b < m.order
  unfolding add
  add_lt a b = laws.sum_digit (digit m a) (digit m b) (lt a) (lt b)

  pub mul_lt : (a b : ℕ) → a ⊗ b < m.order
  unfolding multiply
  mul_lt a b = laws.product_digit (digit m a) (digit m b) (lt a) (lt b)

  pub add_comm : (a b : ℕ) → a ⊕ b ≡ b ⊕ a
  unfolding add
  add_comm a b = laws.sum_comm (digit m a) (digit m b) (lt a) (lt b)

  pub add_assoc : (a b c : ℕ) → a ⊕ b ⊕ c ≡ a ⊕ (b ⊕ c)
  unfolding add
  add_assoc a b c =
      ap (λ x. m.sum x (digit m c)) (digit_same m (a ⊕ b) (add_lt a b))
      ∙ laws.sum_assoc (digit m a) (digit m b) (digit m c) (lt a) (lt b) (lt c)
      ∙ sym (ap (m.sum (digit m a)) (digit_same m (b ⊕ c) (add_lt b c)))

  pub add_left_comm : (a b c : ℕ) → a ⊕ (b ⊕ c) ≡ b ⊕ (a ⊕ c)
  add_left_comm a b c = sym (add_assoc a b c) ∙ ap (λ x. x ⊕ c) (add_comm a b) ∙ add_assoc b a c

  pub mul_comm : (a b : ℕ) → a ⊗ b ≡ b ⊗ a
  unfolding multiply
  mul_comm a b = laws.product_comm (digit m a) (digit m b) (lt a) (lt b)

  pub mul_assoc : (a b c : ℕ) → a ⊗ b ⊗ c ≡ a ⊗ (b ⊗ c)
  unfolding multiply
  mul_assoc a b c =
      ap (λ x. m.product x (digit m c)) (digit_same m (a ⊗ b) (mul_lt a b))
      ∙ laws.product_assoc (digit m a) (digit m b) (digit m c) (lt a) (lt b) (lt c)
      ∙ sym (ap (m.product (digit m a)) (digit_same m (b ⊗ c) (mul_lt b c)))

  pub mul_add : (a b c : ℕ) → a ⊗ (b ⊕ c) ≡ a ⊗ b ⊕ a ⊗ c
  unfolding add multiply
  mul_add a b c =
      ap (m.product (digit m a)) (digit_same m (b ⊕ c) (add_lt b c))
      ∙ laws.distributes (digit m a) (digit m b) (digit m c) (lt a) (lt b) (lt c)
      ∙ sym (ap₂ m.sum (digit_same m (a ⊗ b) (mul_lt a b)) (digit_same m (a ⊗ c) (mul_lt a c)))

  pub add_zero : (a : ℕ) → a < m.order → a ⊕ 0 ≡ a
  unfolding add
  add_zero a h = ap₂ m.sum (digit_same m a h) (digit_same m 0 positive) ∙ laws.sum_zero a h

  pub mul_one : (a : ℕ) → a < m.order → a ⊗ 1 ≡ a
  unfolding multiply
  mul_one a h = ap₂ m.product (digit_same m a h) (digit_same m 1 laws.least) ∙ laws.product_one a h

  -- a negative of what x counts as
  minus : (x : ℕ) → (y : ℕ) × (x ⊕ y ≡ 0)
  unfolding add
  minus x =
      let n = laws.negative (digit m x) (lt x) in
      (n.0, ap (m.sum (digit m x)) (digit_same m n.0 n.1) ∙ n.2)

  pub cancel : (x a b : ℕ) → a < m.order → b < m.order → x ⊕ a ≡ x ⊕ b → a ≡ b
  cancel x a b h l e =
      let y : ℕ = (minus x).0 in
      let back : (c : ℕ) → c < m.order → c ≡ y ⊕ (x ⊕ c) = λ c k.
      sym (sym (add_assoc y x c) ∙ ap (λ z. z ⊕ c) (add_comm y x ∙ (minus x).1) ∙ add_comm 0 c ∙ add_zero c k)
      in
      back a h ∙ ap (λ z. y ⊕ z) e ∙ sym (back b l)

  pub mul_zero : (a : ℕ) → a ⊗ 0 ≡ 0
  mul_zero a =
      cancel (a ⊗ 0) (a ⊗ 0) 0 (mul_lt a 0) positive
      (sym (mul_add a 0 0) ∙ ap (λ x. a ⊗ x) (add_zero 0 positive) ∙ sym (add_zero (a ⊗ 0) (mul_lt a 0)))
