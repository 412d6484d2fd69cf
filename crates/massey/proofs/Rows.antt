-- Registers as rows, and Massey's lemma. Assumes nothing.
--   IsRow o l C            row C has 1 first, and 0 past l
--   Vanishes o s l k C     the product of C and s is 0 from coefficient l up to k - 1
--   row_of o l t            the row of the register of l taps t
use Rattle.std.proofs.Common.{◌≡◌, ℕ, zero, suc, ◌+◌, ◌<◌, ◌≤◌, ◌⊎◌, sym, refl, ap, ◌∙◌, ap₂, inl, inr, arith}
use mathlib.Core.Path.{fun_ext}
use Rattle.field.specs.Operations.{Operations}
use Rattle.register.specs.Rule.{Sum, feedback, discrepancy, Rule}
use Rattle.massey.proofs.Fields.{IsField, zero_mul, mul_zero, one_mul}
use Rattle.register.proofs.Shifts.{below_or_after}
use Rattle.massey.proofs.Series.{tail, product, first, first_past, first_below, product_sum, product_none, product_head, product_swap}

pub record IsRow {K : Type 0} (o : Operations K) (l : ℕ) (C : ℕ → K) : Type 0 where
  pub one : C 0 ≡ o.𝟙
  pub past : (i : ℕ) → l < i → C i ≡ o.𝟘

abbrev pub Vanishes : {K : Type 0} → Operations K → (ℕ → K) → ℕ → ℕ → (ℕ → K) → Type 0
Vanishes o s l k C = (n : ℕ) → l ≤ n → n < k → product o C s n ≡ o.𝟘

unfoldable pub row_of : {K : Type 0} → Operations K → ℕ → (ℕ → K) → ℕ → K
row_of o l t zero = o.𝟙
row_of o l t (suc i) = first o l t i

module _ {K : Type 0} (o : Operations K) (l : ℕ) where
  pub row_is : (t : ℕ → K) → IsRow o l (row_of o l t)
  unfolding row_of
  row_is t = record { one = refl; past = past }
    where
      past : (i : ℕ) → l < i → row_of o l t i ≡ o.𝟘
      past zero h = absurd (omega arith)
      past (suc i) h = first_past o l t i (omega arith)

  pub row_tap : (t : ℕ → K) (i : ℕ) → i < l → row_of o l t (suc i) ≡ t i
  unfolding row_of
  row_tap t i h = first_below o l t i h

  -- a row is the row of its own taps
  row_own : (C : ℕ → K) → IsRow o l C → row_of o l (tail C) ≡ C
  unfolding row_of
  row_own C r = fun_ext at
    where
      taps : (i : ℕ) → (i < l) ⊎ ((j : ℕ) × (j + l ≡ i)) → first o l (tail C) i ≡ C (suc i)
      taps i (inl h) = first_below o l (tail C) i h
      taps i (inr (j, e)) = first_past o l (tail C) i (omega arith) ∙ sym (r.past (suc i) (omega arith))

      at : (i : ℕ) → row_of o l (tail C) i ≡ C i
      at zero = sym r.one
      at (suc i) = taps i (below_or_after i l)

module _ {K : Type 0} {o : Operations K} (F : IsField o) (s : ℕ → K) where
  open o use {𝟘, ◌⊕◌, ◌⊗◌}

  infixl 60 ◌⊕◌
  infixl 70 ◌⊗◌
  -- a discrepancy is a coefficient of a product
  product_discrepancy : (l : ℕ) (t : ℕ → K) (n : ℕ) → l ≤ n → product o (row_of o l t) s n ≡ discrepancy o s l t n
  unfolding row_of product feedback Sum
  product_discrepancy zero t zero h = one_mul F (s 0) ∙ sym (F.add_zero (s 0))
  product_discrepancy (suc l) t zero h = absurd (omega arith)
  product_discrepancy l t (suc n) h =
      ap₂ ◌⊕◌ (one_mul F (s (suc n)))
      (product_sum F l t s n (omega arith) ∙ ap (Sum o l) (fun_ext (λ i. ap (λ j. t i ⊗ s j) (omega arith))))

  pub row_discrepancy : (l : ℕ) (C : ℕ → K) → IsRow o l C → (n : ℕ) → l ≤ n → product o C s n ≡ discrepancy o s l (tail C) n
  row_discrepancy l C r n h = ap (λ D. product o D s n) (sym (row_own o l C r)) ∙ product_discrepancy l (tail C) n h

  pub vanishes_rule : (l k : ℕ) (C : ℕ → K) → IsRow o l C → Vanishes o s l k C → Rule o s k l (tail C)
  vanishes_rule l k C r v n from to = sym (row_discrepancy l C r n from) ∙ v n from to

  pub rule_vanishes : (l k : ℕ) (t : ℕ → K) → Rule o s k l t → Vanishes o s l k (row_of o l t)
  rule_vanishes l k t rule n from to = product_discrepancy l t n from ∙ rule n from to

  -- Massey's lemma: if a register R of u taps generates k + 1 digits, a row C of length l that vanishes up to k does so at k too, where l + u ≤ k
  pub massey : (k l u : ℕ) (C R : ℕ → K) → ((i : ℕ) → l < i → C i ≡ 𝟘) → Vanishes o s l k C
      → IsRow o u R → Vanishes o s u (suc k) R → l + u ≤ k → product o C s k ≡ 𝟘
  massey k l u C R past vanishes r vanishes-R short =
      sym (one_mul F (product o C s k)) ∙ ap (λ x. x ⊗ product o C s k) (sym r.one)
      ∙ sym (product_head F R (product o C s) k (λ i n e. head i n e (below_or_after u (suc i))))
      ∙ product_swap F R C s k
      ∙ product_none F C (product o R s) k (λ i n e. none i n e (below_or_after l i))
    where
      head : (i n : ℕ) → suc i + n ≡ k → (u < suc i) ⊎ ((x : ℕ) × (x + suc i ≡ u)) → R (suc i) ⊗ product o C s n ≡ 𝟘
      head i n e (inl h) = ap (λ x. x ⊗ product o C s n) (r.past (suc i) h) ∙ zero_mul F _
      head i n e (inr (x, h)) = ap (λ y. R (suc i) ⊗ y) (vanishes n (omega arith) (omega arith)) ∙ mul_zero F _

      none : (i n : ℕ) → i + n ≡ k → (l < i) ⊎ ((x : ℕ) × (x + i ≡ l)) → C i ⊗ product o R s n ≡ 𝟘
      none i n e (inl h) = ap (λ x. x ⊗ product o R s n) (past i h) ∙ zero_mul F _
      none i n e (inr (x, h)) = ap (λ y. C i ⊗ y) (vanishes-R n (omega arith) (omega arith)) ∙ mul_zero F _
