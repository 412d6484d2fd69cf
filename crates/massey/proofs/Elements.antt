-- The digits of a field as elements of their own, whose operations keep every law with no condition. Assumes nothing.
use Rattle.std.proofs.Common.{◌≡◌, ℕ, ◌<◌, eqb, sym, refl, ap, ◌∙◌, subst, arith}
use Prim.Native.Nat.{Fin}
use Rattle.std.proofs.lemmas.Bool.{eqb-true, eqb-false}
use Rattle.field.specs.Meaning.{Meaning, digit, add, multiply}
use Rattle.field.specs.Laws.{RingLaws, FieldLaws}
use Rattle.field.specs.Operations.{Operations, negative, inverse}
use Rattle.field.proofs.Digits.{digit_same}
use Rattle.field.proofs.Totals as totals
use Rattle.field.proofs.Unique.{the_lt, negative_lt, add_negative, inverts_some}
use Rattle.massey.proofs.Fields.{IsField}

module _ (m : Meaning) (laws : RingLaws m) where
  pub inverse_lt : (a : ℕ) → inverse m a < m.order
  unfolding inverse
  inverse_lt a = the_lt m.order _ (totals.positive m laws)

  -- the operations, on digits alone
  abbrev pub elements : Operations (Fin m.order)
  elements = record {
    𝟘 = (0, totals.positive m laws);
    𝟙 = (1, laws.least);
    ◌⊕◌ = λ a b. (add m a.0 b.0, totals.add_lt m laws a.0 b.0);
    ◌⊗◌ = λ a b. (multiply m a.0 b.0, totals.mul_lt m laws a.0 b.0);
    ⊖ = λ a. (negative m a.0, negative_lt m laws a.0);
    inv = λ a. (inverse m a.0, inverse_lt a.0);
    is_zero = λ a. eqb a.0 0;
  }

module _ (m : Meaning) (laws : FieldLaws m) where
  pub mul_inverse : (a : ℕ) → a < m.order → 0 < a → multiply m a (inverse m a) ≡ 1
  unfolding multiply
  mul_inverse a h some =
      let same = digit_same m a h in
      let n = laws.inverse a some h in
      let e : m.product (digit m a) n.0 ≡ 1 = ap (λ x. m.product x n.0) same ∙ n.2 in
      ap (multiply m a) (sym (inverts_some m laws a n.0 (subst (λ x. 0 < x) (sym same) some, n.1, e)))
      ∙ ap (m.product (digit m a)) (digit_same m n.0 n.1) ∙ e

  pub elements_field : IsField (elements m laws.ring)
  elements_field =
      let ring = laws.ring in
      record {
        add_assoc = λ a b c. native.Mathlib.Fin.val_path (totals.add_assoc m ring a.0 b.0 c.0);
        add_comm = λ a b. native.Mathlib.Fin.val_path (totals.add_comm m ring a.0 b.0);
        add_zero = λ a. native.Mathlib.Fin.val_path (totals.add_zero m ring a.0 a.1);
        add_negative = λ a. native.Mathlib.Fin.val_path (add_negative m ring a.0);
        mul_assoc = λ a b c. native.Mathlib.Fin.val_path (totals.mul_assoc m ring a.0 b.0 c.0);
        mul_comm = λ a b. native.Mathlib.Fin.val_path (totals.mul_comm m ring a.0 b.0);
        mul_one = λ a. native.Mathlib.Fin.val_path (totals.mul_one m ring a.0 a.1);
        distributes = λ a b c. native.Mathlib.Fin.val_path (totals.mul_add m ring a.0 b.0 c.0);
        mul_inverse = λ a n. let some : 0 < a.0 = omega (arith, eqb-false a.0 0 n) in native.Mathlib.Fin.val_path (mul_inverse a.0 a.1 some);
        zero_is_zero = refl;
        only_zero = λ a e. native.Mathlib.Fin.val_path (eqb-true a.0 0 e);
        one_is_not = refl;
      }
