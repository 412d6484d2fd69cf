-- Rows of coefficients without end, as power series, and their product. Assumes nothing.
--   tail f             the row from coefficient 1 on
--   product o f g n    the coefficient n of the product of f and g
--   first o l t        the first l entries of t, and then 0
use Rattle.std.proofs.Common.{◌≡◌, ℕ, zero, suc, ◌+◌, ◌-◌, ◌<◌, ◌≤◌, sym, refl, ap, ◌∙◌, ap₂, arith}
use mathlib.Core.Path.{fun_ext}
use Rattle.field.specs.Operations.{Operations}
use Rattle.register.specs.Rule.{Sum}
use Rattle.register.specs.Rows.{shifted}
use Rattle.massey.proofs.Fields.{IsField, distributes_right, interchange, zero_add, zero_mul, negative_add, negative_mul}

abbrev pub tail : {K : Type 0} → (ℕ → K) → ℕ → K
tail f i = f (suc i)

unfoldable pub product : {K : Type 0} → Operations K → (ℕ → K) → (ℕ → K) → ℕ → K
product o f g zero = o.◌⊗◌ (f 0) (g 0)
product o f g (suc n) = o.◌⊕◌ (o.◌⊗◌ (f 0) (g (suc n))) (product o (tail f) g n)

unfoldable pub first : {K : Type 0} → Operations K → ℕ → (ℕ → K) → ℕ → K
first o zero t i = o.𝟘
first o (suc l) t zero = t 0
first o (suc l) t (suc i) = first o l (tail t) i

pub first_past : {K : Type 0} (o : Operations K) (l : ℕ) (t : ℕ → K) (i : ℕ) → l ≤ i → first o l t i ≡ o.𝟘
unfolding first
first_past o zero t i h = refl
first_past o (suc l) t zero h = absurd (omega arith)
first_past o (suc l) t (suc i) h = first_past o l (tail t) i (omega arith)

pub first_below : {K : Type 0} (o : Operations K) (l : ℕ) (t : ℕ → K) (i : ℕ) → i < l → first o l t i ≡ t i
unfolding first
first_below o zero t i h = absurd (omega arith)
first_below o (suc l) t zero h = refl
first_below o (suc l) t (suc i) h = first_below o l (tail t) i (omega arith)

module _ {K : Type 0} {o : Operations K} (F : IsField o) where
  open o use {𝟘, ◌⊕◌, ◌⊗◌, ⊖}

  infixl 60 ◌⊕◌
  infixl 70 ◌⊗◌
  pub product_add : (f g h : ℕ → K) (n : ℕ) → product o (λ i. f i ⊕ g i) h n ≡ product o f h n ⊕ product o g h n
  unfolding product
  product_add f g h zero = distributes_right F (f 0) (g 0) (h 0)
  product_add f g h (suc n) =
      ap₂ ◌⊕◌ (distributes_right F (f 0) (g 0) (h (suc n))) (product_add (tail f) (tail g) h n) ∙ interchange F _ _ _ _

  pub product_scale : (a : K) (f h : ℕ → K) (n : ℕ) → product o (λ i. a ⊗ f i) h n ≡ a ⊗ product o f h n
  unfolding product
  product_scale a f h zero = F.mul_assoc a (f 0) (h 0)
  product_scale a f h (suc n) =
      ap₂ ◌⊕◌ (F.mul_assoc a (f 0) (h (suc n))) (product_scale a (tail f) h n) ∙ sym (F.distributes a _ _)

  pub product_negative : (f h : ℕ → K) (n : ℕ) → product o (λ i. ⊖ (f i)) h n ≡ ⊖ (product o f h n)
  unfolding product
  product_negative f h zero = sym (negative_mul F (f 0) (h 0))
  product_negative f h (suc n) =
      ap₂ ◌⊕◌ (sym (negative_mul F (f 0) (h (suc n)))) (product_negative (tail f) h n) ∙ sym (negative_add F _ _)

  -- the product, taken from the other end
  product_last : (f g : ℕ → K) (n : ℕ) → product o f g (suc n) ≡ product o f (tail g) n ⊕ f (suc n) ⊗ g 0
  unfolding product
  product_last f g zero = refl
  product_last f g (suc n) = ap (λ x. f 0 ⊗ g (suc (suc n)) ⊕ x) (product_last (tail f) g n) ∙ sym (F.add_assoc _ _ _)

  product_comm : (f g : ℕ → K) (n : ℕ) → product o f g n ≡ product o g f n
  unfolding product
  product_comm f g zero = F.mul_comm (f 0) (g 0)
  product_comm f g (suc n) =
      ap₂ ◌⊕◌ (F.mul_comm (f 0) (g (suc n))) (product_comm (tail f) g n) ∙ F.add_comm _ _ ∙ sym (product_last g f n)

  product_assoc : (f g h : ℕ → K) (n : ℕ) → product o (product o f g) h n ≡ product o f (product o g h) n
  unfolding product
  product_assoc f g h zero = F.mul_assoc (f 0) (g 0) (h 0)
  product_assoc f g h (suc n) =
      ap₂ ◌⊕◌ (F.mul_assoc (f 0) (g 0) (h (suc n)))
      (product_add (λ i. f 0 ⊗ g (suc i)) (product o (tail f) g) h n
      ∙ ap₂ ◌⊕◌ (product_scale (f 0) (tail g) h n) (product_assoc (tail f) g h n))
      ∙ sym (F.add_assoc _ _ _)
      ∙ ap (λ x. x ⊕ product o (tail f) (product o g h) n) (sym (F.distributes (f 0) _ _))

  pub product_swap : (f g h : ℕ → K) (n : ℕ) → product o f (product o g h) n ≡ product o g (product o f h) n
  product_swap f g h n =
      sym (product_assoc f g h n) ∙ ap (λ x. product o x h n) (fun_ext (product_comm f g)) ∙ product_assoc g f h n

  -- a product whose every part is 0
  pub product_none : (f g : ℕ → K) (n : ℕ) → ((i j : ℕ) → i + j ≡ n → f i ⊗ g j ≡ 𝟘) → product o f g n ≡ 𝟘
  unfolding product
  product_none f g zero h = h 0 0 refl
  product_none f g (suc n) h =
      ap₂ ◌⊕◌ (h 0 (suc n) (omega arith)) (product_none (tail f) g n (λ i j e. h (suc i) j (omega arith))) ∙ F.add_zero 𝟘

  -- a product whose every part but the first is 0
  pub product_head : (f g : ℕ → K) (n : ℕ) → ((i j : ℕ) → suc i + j ≡ n → f (suc i) ⊗ g j ≡ 𝟘) → product o f g n ≡ f 0 ⊗ g n
  unfolding product
  product_head f g zero h = refl
  product_head f g (suc n) h =
      ap (λ x. f 0 ⊗ g (suc n) ⊕ x) (product_none (tail f) g n (λ i j e. h i j (omega arith))) ∙ F.add_zero _

  pub product_shifted : (j : ℕ) (f g : ℕ → K) (n : ℕ) → product o (shifted o j f) g n ≡ shifted o j (product o f g) n
  unfolding product shifted
  product_shifted zero f g n = refl
  product_shifted (suc j) f g zero = zero_mul F (g 0)
  product_shifted (suc j) f g (suc n) = ap₂ ◌⊕◌ (zero_mul F (g (suc n))) (product_shifted j f g n) ∙ zero_add F _

  -- a sum, taken from the other end
  sum_head : (n : ℕ) (f : ℕ → K) → Sum o (suc n) f ≡ f 0 ⊕ Sum o n (tail f)
  unfolding Sum
  sum_head zero f = F.add_comm 𝟘 (f 0)
  sum_head (suc n) f = ap (λ x. x ⊕ f (suc n)) (sum_head n f) ∙ F.add_assoc _ _ _

  -- a product with finitely many parts is a sum of them
  pub product_sum : (l : ℕ) (t s : ℕ → K) (n : ℕ) → l ≤ suc n → product o (first o l t) s n ≡ Sum o l (λ i. t i ⊗ s (n - i))
  unfolding product first Sum
  product_sum zero t s n h = product_none (first o 0 t) s n (λ i j e. zero_mul F (s j))
  product_sum (suc zero) t s zero h = sym (zero_add F _)
  product_sum (suc (suc l)) t s zero h = absurd (omega arith)
  product_sum (suc l) t s (suc n) h =
      ap₂ ◌⊕◌ (ap (λ i. t 0 ⊗ s i) (omega arith))
      (product_sum l (tail t) s n (omega arith) ∙ ap (Sum o l) (fun_ext (λ i. ap (λ j. t (suc i) ⊗ s j) (omega arith))))
      ∙ sym (sum_head l (λ i. t i ⊗ s (suc n - i)))
