-- What the modulus is taken out of is a digit again. Assumes nothing.
use Rattle.std.specs.Prelude.{◌≡◌, ℕ, zero, suc, ◌+◌, ◌-◌, ◌*◌, ◌/◌, ◌%◌, ◌^◌, ◌<◌, ◌≤◌, bit_xor}
use Rattle.std.proofs.Common.{sym, ap, ap₂, ◌∙◌, subst, ⊎_elim, mod-lt, zero-mul, one-mul, arith, lit<}
use Rattle.std.proofs.Math.Nat.{div-eq_of_lt, div-eq_of_lt-le}
use Rattle.std.specs.Int.Bits.{xor_zero_r, xor_lt}
use Rattle.std.proofs.lemmas.Nat.{xor_block}
use Rattle.std.proofs.lemmas.Bool.{cases_lt}
use Rattle.bit_polynomials.specs.Polynomials.{double, times}

module _ (k m : ℕ) where
  pub double_low : (a : ℕ) → 2 * a < 2 ^ k → double k m a ≡ 2 * a
  unfolding double
  double_low a h = ap (λ z. bit_xor (2 * a) (z % 2 * m)) (div-eq_of_lt h) ∙ ap (bit_xor (2 * a)) (zero-mul m) ∙ xor_zero_r (2 * a)

  pub double_high : (a : ℕ) → 2 ^ k ≤ 2 * a → a < 2 ^ k → double k m a ≡ bit_xor (2 * a) m
  unfolding double
  double_high a h l =
      let one : 2 * a / 2 ^ k ≡ 1 = div-eq_of_lt-le (2 ^ k) (omega arith) (omega arith) in
      ap (λ z. bit_xor (2 * a) (z % 2 * m)) one ∙ ap (bit_xor (2 * a)) (one-mul m)

  -- doubled by a comparison
  pub double_is : (q a r : ℕ) → q ≡ 2 ^ k → a < q → (2 * a < q → r ≡ 2 * a) → (q ≤ 2 * a → r ≡ bit_xor (2 * a) m) → r ≡ double k m a
  double_is q a r e h low high = ⊎_elim
      (λ l. low l ∙ sym (double_low a (omega arith)))
      (λ l. high l ∙ sym (double_high a (omega arith) (omega arith)))
      (cases_lt (2 * a) q)

module _ (k m : ℕ) (low : 2 ^ k ≤ m) (high : m < 2 * 2 ^ k) where
  -- the leading bits of both go
  pub reduced : (d : ℕ) → 2 ^ k ≤ d → d < 2 * 2 ^ k → bit_xor d m < 2 ^ k
  reduced d h l =
      let split : (x : ℕ) → 2 ^ k ≤ x → 1 * 2 ^ k + (x - 2 ^ k) ≡ x = λ x u. omega arith in
      let e : bit_xor d m ≡ bit_xor (d - 2 ^ k) (m - 2 ^ k) =
      sym (ap₂ bit_xor (split d h) (split m low))
      ∙ xor_block k 1 1 (d - 2 ^ k) (m - 2 ^ k) (omega arith) (omega arith)
      ∙ omega arith
      in
      subst (λ z. z < 2 ^ k) (sym e) (xor_lt k (d - 2 ^ k) (m - 2 ^ k) (omega arith) (omega arith))

  pub double_lt : (a : ℕ) → a < 2 ^ k → double k m a < 2 ^ k
  double_lt a h = ⊎_elim
      (λ l. subst (λ z. z < 2 ^ k) (sym (double_low k m a l)) l)
      (λ l. subst (λ z. z < 2 ^ k) (sym (double_high k m a l h)) (reduced (2 * a) l (omega arith)))
      (cases_lt (2 * a) (2 ^ k))

  bit_lt : (s a : ℕ) → s < 2 → a < 2 ^ k → s * a < 2 ^ k
  bit_lt zero a h l = subst (λ z. z < 2 ^ k) (sym (zero-mul a)) (omega arith)
  bit_lt (suc zero) a h l = subst (λ z. z < 2 ^ k) (sym (one-mul a)) l
  bit_lt (suc (suc s)) a h l = absurd (omega arith)

  pub times_lt : (n a b : ℕ) → a < 2 ^ k → times k m n a b < 2 ^ k
  unfolding times
  times_lt zero a b h = omega arith
  times_lt (suc n) a b h =
      xor_lt k (b % 2 * a) (times k m n (double k m a) (b / 2)) (bit_lt (b % 2) a (mod-lt b (lit< tt)) h) (times_lt n (double k m a) (b / 2) (double_lt a h))
