-- The laws of a field over any elements, with no condition on them, and what sums and products keep. Assumes nothing.
use Rattle.std.proofs.Common.{◌≡◌, true, false, sym, ap, ◌∙◌, ap₂}
use Rattle.field.specs.Operations.{Operations}

pub record IsField {K : Type 0} (o : Operations K) : Type 0 where
  pub add_assoc : (a b c : K) → o.◌⊕◌ (o.◌⊕◌ a b) c ≡ o.◌⊕◌ a (o.◌⊕◌ b c)
  pub add_comm : (a b : K) → o.◌⊕◌ a b ≡ o.◌⊕◌ b a
  pub add_zero : (a : K) → o.◌⊕◌ a o.𝟘 ≡ a
  pub add_negative : (a : K) → o.◌⊕◌ a (o.⊖ a) ≡ o.𝟘
  pub mul_assoc : (a b c : K) → o.◌⊗◌ (o.◌⊗◌ a b) c ≡ o.◌⊗◌ a (o.◌⊗◌ b c)
  pub mul_comm : (a b : K) → o.◌⊗◌ a b ≡ o.◌⊗◌ b a
  pub mul_one : (a : K) → o.◌⊗◌ a o.𝟙 ≡ a
  pub distributes : (a b c : K) → o.◌⊗◌ a (o.◌⊕◌ b c) ≡ o.◌⊕◌ (o.◌⊗◌ a b) (o.◌⊗◌ a c)
  pub mul_inverse : (a : K) → o.is_zero a ≡ false → o.◌⊗◌ a (o.inv a) ≡ o.𝟙
  pub zero_is_zero : o.is_zero o.𝟘 ≡ true
  pub only_zero : (a : K) → o.is_zero a ≡ true → a ≡ o.𝟘
  pub one_is_not : o.is_zero o.𝟙 ≡ false

module _ {K : Type 0} {o : Operations K} (F : IsField o) where
  open o use {𝟘, 𝟙, ◌⊕◌, ◌⊗◌, ⊖}

  infixl 60 ◌⊕◌
  infixl 70 ◌⊗◌
  pub zero_add : (a : K) → 𝟘 ⊕ a ≡ a
  zero_add a = F.add_comm 𝟘 a ∙ F.add_zero a

  pub add_left_comm : (a b c : K) → a ⊕ (b ⊕ c) ≡ b ⊕ (a ⊕ c)
  add_left_comm a b c = sym (F.add_assoc a b c) ∙ ap (λ x. x ⊕ c) (F.add_comm a b) ∙ F.add_assoc b a c

  pub one_mul : (a : K) → 𝟙 ⊗ a ≡ a
  one_mul a = F.mul_comm 𝟙 a ∙ F.mul_one a

  pub distributes_right : (a b c : K) → (a ⊕ b) ⊗ c ≡ a ⊗ c ⊕ b ⊗ c
  distributes_right a b c = F.mul_comm (a ⊕ b) c ∙ F.distributes c a b ∙ ap₂ ◌⊕◌ (F.mul_comm c a) (F.mul_comm c b)

  pub interchange : (a b c d : K) → (a ⊕ b) ⊕ (c ⊕ d) ≡ (a ⊕ c) ⊕ (b ⊕ d)
  interchange a b c d = simp (F.add_assoc, add_left_comm)

  pub cancel : (a b c : K) → a ⊕ c ≡ b ⊕ c → a ≡ b
  cancel a b c e =
      let back : (x : K) → (x ⊕ c) ⊕ ⊖ c ≡ x = λ x. F.add_assoc x c (⊖ c) ∙ ap (λ y. x ⊕ y) (F.add_negative c) ∙ F.add_zero x in
      sym (back a) ∙ ap (λ x. x ⊕ ⊖ c) e ∙ back b

  pub mul_zero : (a : K) → a ⊗ 𝟘 ≡ 𝟘
  mul_zero a = sym (cancel 𝟘 (a ⊗ 𝟘) (a ⊗ 𝟘) (zero_add (a ⊗ 𝟘) ∙ ap (λ x. a ⊗ x) (sym (F.add_zero 𝟘)) ∙ F.distributes a 𝟘 𝟘))

  pub zero_mul : (a : K) → 𝟘 ⊗ a ≡ 𝟘
  zero_mul a = F.mul_comm 𝟘 a ∙ mul_zero a

  -- what has the sum 0 with a is its negative
  pub negative_is : (a b : K) → a ⊕ b ≡ 𝟘 → b ≡ ⊖ a
  negative_is a b e = cancel b (⊖ a) a (F.add_comm b a ∙ e ∙ sym (F.add_comm (⊖ a) a ∙ F.add_negative a))

  pub negative_zero : ⊖ 𝟘 ≡ 𝟘
  negative_zero = sym (negative_is 𝟘 𝟘 (F.add_zero 𝟘))

  pub negative_add : (a b : K) → ⊖ (a ⊕ b) ≡ ⊖ a ⊕ ⊖ b
  negative_add a b =
      sym (negative_is (a ⊕ b) (⊖ a ⊕ ⊖ b) (interchange a b (⊖ a) (⊖ b) ∙ ap₂ ◌⊕◌ (F.add_negative a) (F.add_negative b) ∙ F.add_zero 𝟘))

  pub negative_mul : (a b : K) → ⊖ (a ⊗ b) ≡ ⊖ a ⊗ b
  negative_mul a b =
      sym (negative_is (a ⊗ b) (⊖ a ⊗ b) (sym (distributes_right a (⊖ a) b) ∙ ap (λ x. x ⊗ b) (F.add_negative a) ∙ zero_mul b))

  -- a difference is 0 where the two are the same
  pub same_from : (a b : K) → a ⊕ ⊖ b ≡ 𝟘 → a ≡ b
  same_from a b e = cancel a b (⊖ b) (e ∙ sym (F.add_negative b))

  pub same_difference : (a b : K) → a ≡ b → a ⊕ ⊖ b ≡ 𝟘
  same_difference a b e = ap (λ x. x ⊕ ⊖ b) e ∙ F.add_negative b
