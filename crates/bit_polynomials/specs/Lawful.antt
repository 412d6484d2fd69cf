-- The laws, by two tests of the modulus. Assumes nothing.
--   each n f    the test f passes at each number below n
--   neutral     1 times a is a
--   inverted    a is 0, or the product of a to the 2, the 4, .. and the 2 ^ (k - 1) is its inverse
--   Sound k m   m has the degree k, and each digit passes the two tests
use Rattle.std.specs.Prelude.{◌≡◌, ℕ, zero, suc, ◌-◌, ◌*◌, ◌^◌, ◌<◌, ◌≤◌, Bool, true, ◌&&◌, ◌||◌, ◌==◌}
use Rattle.std.proofs.Common.{sym, ap, ◌∙◌, ⊎_elim, arith, pow_mono}
use Rattle.std.proofs.lemmas.Nat.{xor_comm, xor_lt}
use Rattle.std.specs.Int.Bits.{xor_assoc, xor_self, xor_zero_r}
use Rattle.std.proofs.lemmas.Bool.{and_parts, or_cases, eqb-true, cases_order}
use Rattle.field.specs.Laws.{RingLaws, FieldLaws}
use Rattle.bit_polynomials.specs.Polynomials.{product, polynomials}
use Rattle.bit_polynomials.specs.Linear.{times_swap, times_xor_right}
use Rattle.bit_polynomials.specs.Reduced.{times_lt}
use Rattle.bit_polynomials.specs.Powers.{squares, squares_lt}

unfoldable pub each : ℕ → (ℕ → Bool) → Bool
each zero f = true
each (suc n) f = f n && each n f

abbrev pub neutral : ℕ → ℕ → ℕ → Bool
neutral k m a = product k m 1 a == a

abbrev pub inverted : ℕ → ℕ → ℕ → Bool
inverted k m a = a == 0 || product k m a (squares k m (k - 1) a 1) == 1

pub record Sound (k m : ℕ) : Type 0 where
  pub least : 1 ≤ k
  pub most : k ≤ 8
  pub low : 2 ^ k ≤ m
  pub high : m < 2 * 2 ^ k
  pub neutrals : each (2 ^ k) (neutral k m) ≡ true
  pub inverses : each (2 ^ k) (inverted k m) ≡ true

pub each_at : (n : ℕ) (f : ℕ → Bool) → each n f ≡ true → (i : ℕ) → i < n → f i ≡ true
unfolding each
each_at zero f t i h = absurd (omega arith)
each_at (suc n) f t i h =
    let both = and_parts (f n) (each n f) t in
    ⊎_elim (λ e. ap f e ∙ both.0) (⊎_elim (λ l. each_at n f both.1 i l) (λ g. absurd (omega arith))) (cases_order i n)

module _ (k m : ℕ) (sound : Sound k m) where
  infixl 70 ◌·◌
  abbrev ◌·◌ : ℕ → ℕ → ℕ
  ◌·◌ = product k m

  pub least : 2 ≤ 2 ^ k
  least = omega (arith, pow_mono {i = 1} {j = k} sound.least)

  pub product_lt : (a b : ℕ) → a < 2 ^ k → a · b < 2 ^ k
  product_lt a b h = times_lt k m sound.low sound.high k a b h

  one_product : (a : ℕ) → a < 2 ^ k → 1 · a ≡ a
  one_product a h = eqb-true (1 · a) a (each_at (2 ^ k) (neutral k m) sound.neutrals a h)

  product_comm : (a b : ℕ) → a < 2 ^ k → b < 2 ^ k → a · b ≡ b · a
  product_comm a b h l = ap (λ x. x · b) (sym (one_product a h)) ∙ times_swap k m k k 1 a b ∙ ap (λ x. x · a) (one_product b l)

  product_assoc : (a b c : ℕ) → a < 2 ^ k → b < 2 ^ k → c < 2 ^ k → a · b · c ≡ a · (b · c)
  product_assoc a b c h l n = ap (λ x. x · c) (product_comm a b h l) ∙ times_swap k m k k b a c ∙ product_comm (b · c) a (product_lt b c l) h

  pub inverse_lt : (a : ℕ) → a < 2 ^ k → squares k m (k - 1) a 1 < 2 ^ k
  inverse_lt a h = squares_lt k m sound.low sound.high (k - 1) a 1 h least

  pub inverse_product : (a : ℕ) → 0 < a → a < 2 ^ k → a · squares k m (k - 1) a 1 ≡ 1
  inverse_product a h l =
      ⊎_elim (λ e. absurd (omega (arith, eqb-true a 0 e))) (λ e. eqb-true (a · squares k m (k - 1) a 1) 1 e)
      (or_cases (a == 0) ((a · squares k m (k - 1) a 1) == 1) (each_at (2 ^ k) (inverted k m) sound.inverses a l))

  ring_laws : RingLaws (polynomials k m)
  ring_laws = record {
    least = least;
    most = omega (arith, pow_mono {i = k} {j = 8} sound.most);
    sum_digit = λ a b h l. xor_lt k a b h l;
    sum_comm = λ a b h l. xor_comm a b;
    sum_assoc = λ a b c h l n. xor_assoc a b c;
    sum_zero = λ a h. xor_zero_r a;
    negative = λ a h. (a, h, xor_self a);
    product_digit = λ a b h l. product_lt a b h;
    product_comm = product_comm;
    product_assoc = product_assoc;
    product_one = λ a h. product_comm a 1 h least ∙ one_product a h;
    distributes = λ a b c h l n. times_xor_right k m k a b c;
  }

  pub field_laws : FieldLaws (polynomials k m)
  field_laws = record {
    ring = ring_laws;
    inverse = λ a h l. (squares k m (k - 1) a 1, inverse_lt a l, inverse_product a h l);
  }
