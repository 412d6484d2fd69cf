-- The product of the squares of a digit, and a turn of each loop. Assumes nothing.
use Rattle.std.specs.Prelude.{◌≡◌, ℕ, zero, suc, ◌+◌, ◌*◌, ◌/◌, ◌%◌, ◌^◌, ◌<◌, ◌≤◌, bit_xor}
use Rattle.std.proofs.Common.{sym, ap, ◌∙◌, ⊎_elim, zero-mul, one-mul, arith}
use Rattle.std.specs.Int.Bits.{xor_zero_r, xor_assoc}
use Rattle.std.proofs.lemmas.Nat.{xor_lt}
use Rattle.std.proofs.lemmas.Bool.{cases_lt}
use Rattle.bit_polynomials.specs.Polynomials.{double, times, product}
use Rattle.bit_polynomials.specs.Reduced.{times_lt}

-- r times n squares: s to the 2, to the 4, and so on
unfoldable pub squares : ℕ → ℕ → ℕ → ℕ → ℕ → ℕ
squares k m zero s r = r
squares k m (suc n) s r = squares k m n (product k m s s) (product k m r (product k m s s))

module _ (k m : ℕ) where
  pub squares_step : (n j s r : ℕ) → n ≡ j + 1 → squares k m n s r ≡ squares k m j (product k m s s) (product k m r (product k m s s))
  unfolding squares
  squares_step zero j s r l = absurd (omega arith)
  squares_step (suc n) j s r l =
      let e : n ≡ j = omega arith in ap (λ i. squares k m i (product k m s s) (product k m r (product k m s s))) e

  pub squares_none : (n s r : ℕ) → n ≡ 0 → squares k m n s r ≡ r
  unfolding squares
  squares_none n s r e = ap (λ i. squares k m i s r) e

  times_step : (n j a b : ℕ) → n ≡ j + 1 → times k m n a b ≡ bit_xor (b % 2 * a) (times k m j (double k m a) (b / 2))
  unfolding times
  times_step zero j a b l = absurd (omega arith)
  times_step (suc n) j a b l =
      let e : n ≡ j = omega arith in ap (λ i. bit_xor (b % 2 * a) (times k m i (double k m a) (b / 2))) e

  pub times_none : (n r a b : ℕ) → n ≡ 0 → bit_xor r (times k m n a b) ≡ r
  unfolding times
  times_none n r a b e = ap (λ i. bit_xor r (times k m i a b)) e ∙ xor_zero_r r

  -- the lowest bit of b decides whether a counts
  bit_term : (r s a b : ℕ) → (b % 2 ≡ 1 → s ≡ bit_xor r a) → (b % 2 ≡ 0 → s ≡ r) → s ≡ bit_xor r (b % 2 * a)
  bit_term r s a b one none = ⊎_elim
      (λ l. let z : b % 2 ≡ 0 = omega arith in none z ∙ sym (ap (λ i. bit_xor r (i * a)) z ∙ ap (bit_xor r) (zero-mul a) ∙ xor_zero_r r))
      (λ l. let o : b % 2 ≡ 1 = omega arith in one o ∙ sym (ap (λ i. bit_xor r (i * a)) o ∙ ap (bit_xor r) (one-mul a)))
      (cases_lt (b % 2) 1)

  pub times_turn : (n j r s a b : ℕ) → n ≡ j + 1 → (b % 2 ≡ 1 → s ≡ bit_xor r a) → (b % 2 ≡ 0 → s ≡ r)
      → bit_xor s (times k m j (double k m a) (b / 2)) ≡ bit_xor r (times k m n a b)
  times_turn n j r s a b l one none =
      ap (λ z. bit_xor z (times k m j (double k m a) (b / 2))) (bit_term r s a b one none)
      ∙ xor_assoc r (b % 2 * a) (times k m j (double k m a) (b / 2))
      ∙ ap (bit_xor r) (sym (times_step n j a b l))

  pub turn_lt : (q r s a b : ℕ) → q ≡ 2 ^ k → r < q → a < q → (b % 2 ≡ 1 → s ≡ bit_xor r a) → (b % 2 ≡ 0 → s ≡ r) → s < q
  turn_lt q r s a b e h l one none = ⊎_elim
      (λ i. let z : b % 2 ≡ 0 = omega arith in omega (arith, none z))
      (λ i. let o : b % 2 ≡ 1 = omega arith in omega (arith, one o, xor_lt k r a (omega arith) (omega arith)))
      (cases_lt (b % 2) 1)

module _ (k m : ℕ) (low : 2 ^ k ≤ m) (high : m < 2 * 2 ^ k) where
  pub squares_lt : (n s r : ℕ) → s < 2 ^ k → r < 2 ^ k → squares k m n s r < 2 ^ k
  unfolding squares
  squares_lt zero s r h l = l
  squares_lt (suc n) s r h l = squares_lt n (product k m s s) (product k m r (product k m s s)) (times_lt k m low high k s s h) (times_lt k m low high k r (product k m s s) l)
