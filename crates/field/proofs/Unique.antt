-- The laws leave one negative and one inverse. Assumes nothing.
use Rattle.std.proofs.Common.{◌≡◌, ℕ, zero, suc, ◌-◌, ◌<◌, ◌≤◌, Bool, true, false, eqb, Some, None, Option, sym, refl, ap, ◌∙◌, ⊎_elim, arith}
use Rattle.std.proofs.lemmas.Bool.{cond_both, cond-true, cond-false, cases_Bool, eqb-true, eq-eqb, ne_eqb, cases_order}
use Rattle.std.specs.Option.{unwrap_or}
use Rattle.field.specs.Meaning.{Meaning, digit, add, multiply, Negates, Inverts}
use Rattle.field.specs.Laws.{RingLaws, FieldLaws}
use Rattle.field.specs.Operations.{the, negative, inverse}
use Rattle.field.proofs.Digits.{digit_lt, digit_same}
use Rattle.field.proofs.Totals.{positive, add_comm, add_zero, mul_comm, mul_assoc, mul_one, mul_zero, cancel}

the_most : (q : ℕ) (test : ℕ → Bool) → the q test ≤ q - 1
unfolding the
the_most zero test = omega arith
the_most (suc q) test = cond_both (test q) q (the q test) (λ x. x ≤ suc q - 1) (λ _. omega arith) (λ _. omega (arith, the_most q test))

pub the_lt : (q : ℕ) (test : ℕ → Bool) → 0 < q → the q test < q
the_lt q test h = omega (arith, the_most q test)

pub the_none : (q : ℕ) (test : ℕ → Bool) → ((x : ℕ) → x < q → test x ≡ false) → the q test ≡ 0
unfolding the
the_none zero test none = refl
the_none (suc q) test none = cond-false (test q) q (the q test) (none q (omega arith)) ∙ the_none q test (λ x h. none x (omega arith))

pub the_is : (q : ℕ) (test : ℕ → Bool) (b : ℕ) → b < q → test b ≡ true → ((x : ℕ) → x < q → test x ≡ true → x ≡ b) → the q test ≡ b
unfolding the
the_is zero test b h t only = absurd (omega arith)
the_is (suc q) test b h t only = ⊎_elim
    (λ e. cond-true (test q) q (the q test) (ap test (sym e) ∙ t) ∙ sym e)
    (λ l. ⊎_elim
    (λ p. cond-true (test q) q (the q test) p ∙ only q (omega arith) p)
    (λ f. cond-false (test q) q (the q test) f ∙ the_is q test b (omega arith) t (λ x k. only x (omega arith)))
    (cases_Bool (test q)))
    (cases_order b q)

module _ (m : Meaning) (laws : RingLaws m) where
  pub negates_is : (a r : ℕ) → Negates m a r → r ≡ negative m a
  unfolding negative add
  negates_is a r n =
      let e : add m a r ≡ 0 = ap (m.sum (digit m a)) (digit_same m r n.within) ∙ n.cancels in
      sym (the_is m.order (λ b. eqb (add m a b) 0) r n.within (eq-eqb (add m a r) 0 e)
      (λ x h t. cancel m laws a x r h n.within (eqb-true (add m a x) 0 t ∙ sym e)))

  pub negative_zero : negative m 0 ≡ 0
  unfolding negative
  negative_zero =
      let h = positive m laws in
      the_is m.order (λ b. eqb (add m 0 b) 0) 0 h (eq-eqb (add m 0 0) 0 (add_zero m laws 0 h))
      (λ x l t. sym (add_comm m laws 0 x ∙ add_zero m laws x l) ∙ eqb-true (add m 0 x) 0 t)

  pub negative_lt : (a : ℕ) → negative m a < m.order
  unfolding negative
  negative_lt a = the_lt m.order _ (positive m laws)

  pub add_negative : (a : ℕ) → add m a (negative m a) ≡ 0
  unfolding add
  add_negative a =
      let n = laws.negative (digit m a) (digit_lt m a (positive m laws)) in
      ap (add m a) (sym (negates_is a n.0 (record { within = n.1; cancels = n.2 })))
      ∙ ap (m.sum (digit m a)) (digit_same m n.0 n.1) ∙ n.2

  -- taking e times 0 away leaves a digit as it is
  pub subtract_none : (a e : ℕ) → a < m.order → add m a (negative m (multiply m e 0)) ≡ a
  subtract_none a e h = ap (λ x. add m a (negative m x)) (mul_zero m laws e) ∙ ap (add m a) negative_zero ∙ add_zero m laws a h

module _ (m : Meaning) (laws : FieldLaws m) where
  -- the inverse is the only one: x = x · (a · r) = (a · x) · r = r
  only_inverse : (a r x : ℕ) → r < m.order → x < m.order → multiply m a r ≡ 1 → multiply m a x ≡ 1 → x ≡ r
  only_inverse a r x hr hx er ex =
      let ring = laws.ring in
      sym (mul_one m ring x hx) ∙ ap (multiply m x) (sym er) ∙ sym (mul_assoc m ring x a r) ∙ ap (λ y. multiply m y r) (mul_comm m ring x a ∙ ex)
      ∙ mul_comm m ring 1 r ∙ mul_one m ring r hr

  pub inverts_some : (a r : ℕ) → Inverts m a (Some r) → r ≡ inverse m a
  unfolding inverse multiply
  inverts_some a r (some, within, e) =
      let p : multiply m a r ≡ 1 = ap (m.product (digit m a)) (digit_same m r within) ∙ e in
      sym (the_is m.order (λ b. eqb (multiply m a b) 1) r within (eq-eqb (multiply m a r) 1 p)
      (λ x h t. only_inverse a r x within h p (eqb-true (multiply m a x) 1 t)))

  inverts_none : (a : ℕ) → Inverts m a None → 0 ≡ inverse m a
  unfolding inverse multiply
  inverts_none a e =
      let zero-product : (x : ℕ) → multiply m a x ≡ 0 = λ x.
      ap (λ y. m.product y (digit m x)) (e ∙ sym (digit_same m 0 (positive m laws.ring))) ∙ mul_comm m laws.ring 0 x ∙ mul_zero m laws.ring x
      in
      sym (the_none m.order (λ b. eqb (multiply m a b) 1) (λ x h. ne_eqb (multiply m a x) 1 (λ p. let z = zero-product x in omega arith)))

  pub inverts_is : (a : ℕ) (r : Option ℕ) → Inverts m a r → unwrap_or r 0 ≡ inverse m a
  inverts_is a (Some r) = inverts_some a r
  inverts_is a None = inverts_none a
