-- Polynomials over the bits, in binary: bit i is the coefficient of x to the i. Assumes nothing.
--   double k m a      x times a, modulo m: m, of degree k, is taken out where x to the k comes up
--   times k m n a b   a times the n lowest terms of b: the constant one gives a, the next one x times a, and so on
--   product k m a b   a times b, modulo m
--   polynomials k m   the polynomials below degree k, whose sum is the exclusive or, and whose product is that modulo m
--   listed q          the kind has a field of q digits
--   degree_of q       the degree of its modulus, for a listed q
--   modulus_of q      its modulus, for a listed q: x^2 + x + 1, x^4 + x + 1 or x^8 + x^4 + x^3 + x^2 + 1
--   field_of q        the field
use Rattle.std.specs.Prelude.{ℕ, zero, suc, ◌*◌, ◌/◌, ◌%◌, ◌^◌, Bool, cond, ◌||◌, ◌==◌, bit_xor}
use Rattle.field.specs.Meaning.{Meaning}

unfoldable pub double : ℕ → ℕ → ℕ → ℕ
double k m a = bit_xor (2 * a) (2 * a / 2 ^ k % 2 * m)

unfoldable pub times : ℕ → ℕ → ℕ → ℕ → ℕ → ℕ
times k m zero a b = 0
times k m (suc n) a b = bit_xor (b % 2 * a) (times k m n (double k m a) (b / 2))

abbrev pub product : ℕ → ℕ → ℕ → ℕ → ℕ
product k m a b = times k m k a b

abbrev pub polynomials : ℕ → ℕ → Meaning
polynomials k m = record {
  order = 2 ^ k;
  sum = bit_xor;
  product = product k m;
}

abbrev pub listed : ℕ → Bool
listed q = q == 4 || (q == 16 || q == 256)

abbrev pub degree_of : ℕ → ℕ
degree_of q = cond (q == 4) 2 (cond (q == 16) 4 8)

abbrev pub modulus_of : ℕ → ℕ
modulus_of q = cond (q == 4) 7 (cond (q == 16) 19 285)

abbrev pub field_of : ℕ → Meaning
field_of q = polynomials (degree_of q) (modulus_of q)
