-- The product is linear over the exclusive or in each factor, and what follows. Assumes nothing.
use Rattle.std.specs.Prelude.{◌≡◌, ℕ, zero, suc, ◌+◌, ◌*◌, ◌/◌, ◌%◌, ◌^◌, ◌<◌}
use Rattle.std.proofs.Common.{refl, sym, ap, ap₂, ◌∙◌, mod-lt, zero-mul, mul-zero, one-mul, arith, lit<}
use Rattle.std.proofs.Math.Nat.{zero-div}
use Rattle.std.specs.Int.Bits.{bit_xor, xor_assoc, xor_self, xor_zero_l, xor_zero_r}
use Rattle.std.proofs.lemmas.Nat.{xor_comm, xor_shr, xor_mod, xor_block}
use Rattle.bit_polynomials.specs.Polynomials.{double, times}

-- the two in the middle change places
xor_swap : (a b c d : ℕ) → bit_xor (bit_xor a b) (bit_xor c d) ≡ bit_xor (bit_xor a c) (bit_xor b d)
xor_swap a b c d =
    xor_assoc a b (bit_xor c d)
    ∙ ap (bit_xor a) (sym (xor_assoc b c d) ∙ ap (λ x. bit_xor x d) (xor_comm b c) ∙ xor_assoc c b d)
    ∙ sym (xor_assoc a c (bit_xor b d))

-- a bit times what is joined
bit_times_xor : (s a b : ℕ) → s < 2 → s * bit_xor a b ≡ bit_xor (s * a) (s * b)
bit_times_xor zero a b h = zero-mul (bit_xor a b) ∙ sym (ap₂ bit_xor (zero-mul a) (zero-mul b))
bit_times_xor (suc zero) a b h = one-mul (bit_xor a b) ∙ sym (ap₂ bit_xor (one-mul a) (one-mul b))
bit_times_xor (suc (suc n)) a b h = absurd (omega arith)

bits_xor : (s t x : ℕ) → s < 2 → t < 2 → bit_xor s t * x ≡ bit_xor (s * x) (t * x)
bits_xor zero t x h k = ap (λ y. y * x) (xor_zero_l t) ∙ sym (ap (λ y. bit_xor y (t * x)) (zero-mul x) ∙ xor_zero_l (t * x))
bits_xor (suc zero) zero x h k = sym (ap (bit_xor (1 * x)) (zero-mul x) ∙ xor_zero_r (1 * x))
bits_xor (suc zero) (suc zero) x h k = zero-mul x ∙ sym (xor_self (1 * x))
bits_xor (suc zero) (suc (suc t)) x h k = absurd (omega arith)
bits_xor (suc (suc s)) t x h k = absurd (omega arith)

twice_xor : (a b : ℕ) → 2 * bit_xor a b ≡ bit_xor (2 * a) (2 * b)
twice_xor a b =
    let shifted : (x : ℕ) → x * 2 + 0 ≡ 2 * x = λ x. omega arith in
    sym (shifted (bit_xor a b)) ∙ sym (xor_block 1 a b 0 0 (lit< tt) (lit< tt)) ∙ ap₂ bit_xor (shifted a) (shifted b)

bit : (n : ℕ) → n % 2 < 2
bit n = mod-lt n (lit< tt)

module _ (k m : ℕ) where
  pub double_xor : (a b : ℕ) → double k m (bit_xor a b) ≡ bit_xor (double k m a) (double k m b)
  unfolding double
  double_xor a b =
      ap₂ bit_xor (twice_xor a b)
      (ap (λ x. x / 2 ^ k % 2 * m) (twice_xor a b)
      ∙ ap (λ x. x % 2 * m) (xor_shr (2 * a) (2 * b) k)
      ∙ ap (λ x. x * m) (xor_mod (2 * a / 2 ^ k) (2 * b / 2 ^ k) 1)
      ∙ bits_xor (2 * a / 2 ^ k % 2) (2 * b / 2 ^ k % 2) m (bit (2 * a / 2 ^ k)) (bit (2 * b / 2 ^ k)))
      ∙ xor_swap (2 * a) (2 * b) (2 * a / 2 ^ k % 2 * m) (2 * b / 2 ^ k % 2 * m)

  pub double_zero : double k m 0 ≡ 0
  unfolding double
  double_zero = ap (λ x. bit_xor 0 (x % 2 * m)) (zero-div (2 ^ k)) ∙ ap (bit_xor 0) (zero-mul m)

  pub double_bit : (s x : ℕ) → s < 2 → double k m (s * x) ≡ s * double k m x
  double_bit zero x h = ap (double k m) (zero-mul x) ∙ double_zero ∙ sym (zero-mul (double k m x))
  double_bit (suc zero) x h = ap (double k m) (one-mul x) ∙ sym (one-mul (double k m x))
  double_bit (suc (suc s)) x h = absurd (omega arith)

  -- linear in the first factor
  pub times_xor : (n a b y : ℕ) → times k m n (bit_xor a b) y ≡ bit_xor (times k m n a y) (times k m n b y)
  unfolding times
  times_xor zero a b y = refl
  times_xor (suc n) a b y =
      ap₂ bit_xor (bit_times_xor (y % 2) a b (bit y)) (ap (λ x. times k m n x (y / 2)) (double_xor a b) ∙ times_xor n (double k m a) (double k m b) (y / 2))
      ∙ xor_swap (y % 2 * a) (y % 2 * b) (times k m n (double k m a) (y / 2)) (times k m n (double k m b) (y / 2))

  pub times_zero : (n y : ℕ) → times k m n 0 y ≡ 0
  unfolding times
  times_zero zero y = refl
  times_zero (suc n) y = ap₂ bit_xor (mul-zero (y % 2)) (ap (λ x. times k m n x (y / 2)) double_zero ∙ times_zero n (y / 2))

  pub times_bit : (n s x y : ℕ) → s < 2 → times k m n (s * x) y ≡ s * times k m n x y
  times_bit n zero x y h = ap (λ z. times k m n z y) (zero-mul x) ∙ times_zero n y ∙ sym (zero-mul (times k m n x y))
  times_bit n (suc zero) x y h = ap (λ z. times k m n z y) (one-mul x) ∙ sym (one-mul (times k m n x y))
  times_bit n (suc (suc s)) x y h = absurd (omega arith)

  -- and in the second
  pub times_xor_right : (n x a b : ℕ) → times k m n x (bit_xor a b) ≡ bit_xor (times k m n x a) (times k m n x b)
  unfolding times
  times_xor_right zero x a b = refl
  times_xor_right (suc n) x a b =
      ap₂ bit_xor
      (ap (λ z. z * x) (xor_mod a b 1) ∙ bits_xor (a % 2) (b % 2) x (bit a) (bit b))
      (ap (times k m n (double k m x)) (xor_shr a b 1) ∙ times_xor_right n (double k m x) (a / 2) (b / 2))
      ∙ xor_swap (a % 2 * x) (b % 2 * x) (times k m n (double k m x) (a / 2)) (times k m n (double k m x) (b / 2))

  -- a doubled factor doubles the product
  pub times_double : (n x y : ℕ) → times k m n (double k m x) y ≡ double k m (times k m n x y)
  unfolding times
  times_double zero x y = sym double_zero
  times_double (suc n) x y =
      ap₂ bit_xor (sym (double_bit (y % 2) x (bit y))) (times_double n (double k m x) (y / 2))
      ∙ sym (double_xor (y % 2 * x) (times k m n (double k m x) (y / 2)))

  -- x y z is x z y
  pub times_swap : (n l x y z : ℕ) → times k m n (times k m l x y) z ≡ times k m l (times k m n x z) y
  unfolding times
  times_swap zero l x y z = sym (times_zero l y)
  times_swap (suc n) l x y z =
      ap₂ bit_xor (sym (times_bit l (z % 2) x y (bit z)))
      (ap (λ w. times k m n w (z / 2)) (sym (times_double l x y)) ∙ times_swap n l (double k m x) y (z / 2))
      ∙ sym (times_xor l (z % 2 * x) (times k m n (double k m x) (z / 2)) y)
