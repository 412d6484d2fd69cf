-- What correcting a row makes of its coefficients and of its product with a string. Assumes nothing.
use Rattle.std.proofs.Common.{◌≡◌, ℕ, false, ap, ◌∙◌}
use Rattle.field.specs.Operations.{Operations}
use Rattle.register.specs.Rows.{shifted, corrected}
use Rattle.massey.proofs.Fields.{IsField, mul_zero, negative_zero}
use Rattle.massey.proofs.Series.{product, product_add, product_negative, product_scale, product_shifted}

module _ {K : Type 0} {o : Operations K} (F : IsField o) where
  open o use {𝟘, ◌⊕◌, ◌⊗◌, ⊖, inv, is_zero}

  infixl 60 ◌⊕◌
  infixl 70 ◌⊗◌
  -- where the shifted row has 0, the corrected one is as it was
  pub corrected_same : (e : K) (j : ℕ) (C B : ℕ → K) (i : ℕ) → shifted o j B i ≡ 𝟘 → corrected o e j C B i ≡ C i
  corrected_same e j C B i z = ap (λ x. C i ⊕ ⊖ (e ⊗ x)) z ∙ ap (λ x. C i ⊕ ⊖ x) (mul_zero F e) ∙ ap (λ x. C i ⊕ x) (negative_zero F) ∙ F.add_zero (C i)

  -- with e = d / b, what is corrected away of d by b is all of d
  pub quotient_cancels : (d b : K) → is_zero b ≡ false → d ⊕ ⊖ (d ⊗ inv b ⊗ b) ≡ 𝟘
  quotient_cancels d b some =
      ap (λ x. d ⊕ ⊖ x) (F.mul_assoc d (inv b) b ∙ ap (λ x. d ⊗ x) (F.mul_comm (inv b) b ∙ F.mul_inverse b some) ∙ F.mul_one d)
      ∙ F.add_negative d

  -- the product of a corrected row is the product, corrected
  pub product_corrected : (s : ℕ → K) (e : K) (j : ℕ) (C B : ℕ → K) (n : ℕ) → product o (corrected o e j C B) s n ≡ corrected o e j (product o C s) (product o B s) n
  product_corrected s e j C B n =
      product_add F C (λ i. ⊖ (e ⊗ shifted o j B i)) s n
      ∙ ap (λ x. product o C s n ⊕ x)
      (product_negative F (λ i. e ⊗ shifted o j B i) s n
      ∙ ap ⊖ (product_scale F e (shifted o j B) s n ∙ ap (λ x. e ⊗ x) (product_shifted F j B s n)))
