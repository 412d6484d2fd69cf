-- Products by logarithms are those of the bit polynomials. Assumes nothing.
use Rattle.std.specs.Prelude.{◌≡◌, ℕ, ◌+◌, ◌-◌, ◌<◌, cond, ◌==◌, bit_xor}
use Rattle.std.proofs.Common.{sym, ap, ap₂, ◌∙◌, ⊎_elim, arith, lit<}
use Rattle.std.proofs.lemmas.Bool.{cond-true, cond-false, eq-eqb, ne_eqb, cases_lt}
use Rattle.bit_polynomials.specs.Polynomials.{field_of, product as times}
use Rattle.bit_polynomials.specs.Linear.{times_zero}
use Rattle.field.specs.Laws.{FieldLaws}
use Rattle.table.specs.Logarithms.{power, logarithm, wrapped, product, by_logarithms}
use Rattle.table.specs.Agreement.{Agree}
use Rattle.table.specs.Exponents.{laws, raised, raised_lt, raised_sum, raised_255, power_wrapped, logarithm_lt, raised_logarithm}
use Rattle.table.specs.Transfer.{laws_transfer, agree}

abbrev by_powers : ℕ → ℕ → ℕ
by_powers a b = power (wrapped (logarithm a + logarithm b))

module _ (a b : ℕ) (h : a < 256) (l : b < 256) where
  zero_left : a ≡ 0 → product a b ≡ times 8 285 a b
  zero_left e =
      cond-true (a == 0) 0 (cond (b == 0) 0 (by_powers a b)) (eq-eqb a 0 e) ∙ sym (ap (λ x. times 8 285 x b) e ∙ times_zero 8 285 8 b)

  nonzero_left : 0 < a → product a b ≡ cond (b == 0) 0 (by_powers a b)
  nonzero_left p = cond-false (a == 0) 0 (cond (b == 0) 0 (by_powers a b)) (ne_eqb a 0 (λ e. omega arith))

  zero_right : b ≡ 0 → cond (b == 0) 0 (by_powers a b) ≡ times 8 285 a b
  zero_right e =
      cond-true (b == 0) 0 (by_powers a b) (eq-eqb b 0 e)
      ∙ sym (laws.ring.product_comm a b h l ∙ ap (λ x. times 8 285 x a) e ∙ times_zero 8 285 8 a)

  nonzero_right : 0 < a → 0 < b → cond (b == 0) 0 (by_powers a b) ≡ times 8 285 a b
  nonzero_right p r =
      cond-false (b == 0) 0 (by_powers a b) (ne_eqb b 0 (λ e. omega arith))
      ∙ power_wrapped (logarithm a + logarithm b) (omega (arith, logarithm_lt a p h, logarithm_lt b r l))
      ∙ sym (raised_sum (logarithm a) (logarithm b))
      ∙ ap₂ (times 8 285) (raised_logarithm a p h) (raised_logarithm b r l)

  products_agree : product a b ≡ times 8 285 a b
  products_agree = ⊎_elim
      (λ p. nonzero_left p ∙ ⊎_elim (nonzero_right p) (λ z. zero_right (omega arith)) (cases_lt 0 b))
      (λ z. zero_left (omega arith))
      (cases_lt 0 a)

pub field_laws : FieldLaws by_logarithms
field_laws = laws_transfer 256 bit_xor product (times 8 285) products_agree laws

pub agreement : Agree by_logarithms (field_of 256)
agreement = agree 256 bit_xor product (times 8 285) products_agree (lit< tt)

-- the inverse is the power of what the logarithm lacks to 255
module _ (a : ℕ) (positive : 0 < a) (within : a < 256) where
  lacking : power (wrapped (255 - logarithm a)) ≡ raised (255 - logarithm a)
  lacking = power_wrapped (255 - logarithm a) (omega arith)

  pub inverse_lt : power (wrapped (255 - logarithm a)) < 256
  inverse_lt = omega (arith, lacking, raised_lt (255 - logarithm a))

  pub inverse_product : product a (power (wrapped (255 - logarithm a))) ≡ 1
  inverse_product =
      let whole : logarithm a + (255 - logarithm a) ≡ 255 = omega (arith, logarithm_lt a positive within) in
      products_agree a (power (wrapped (255 - logarithm a))) within inverse_lt
      ∙ ap₂ (times 8 285) (sym (raised_logarithm a positive within)) lacking
      ∙ raised_sum (logarithm a) (255 - logarithm a)
      ∙ ap raised whole
      ∙ raised_255
