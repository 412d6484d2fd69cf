-- The field of 256 digits by the powers of 2 and their logarithms. Assumes nothing.
--   doubled a             a doubled, with 285 taken out by exclusive or where the double is 256 or more
--   doublings n a         n numbers from a on, each next one the last doubled
--   powers                the 255 powers of 2, from 1 on
--   power i               the power i of 2, for i below 255
--   place a xs            the place where a stands first in xs, or their number where it does not
--   logarithm a           the place of a in the powers: the i of which a is the power, or 255 for 0, which is none
--   logarithms_from n a   those of the n numbers from a on
--   logarithms            those of 0 .. 255
--   wrapped i             i, less 255 where it is 255 or more
--   product a b           the power of the wrapped sum of the logarithms, or 0 where one of the two is 0
--   by_logarithms         the 256 digits, whose sum is the exclusive or, and whose product is that
--   listed q              a field of q digits is made
use Rattle.std.specs.Prelude.{ℕ, zero, suc, ◌+◌, ◌-◌, ◌*◌, Bool, cond, List, [], ◌∷◌, ◌==◌, bit_xor, nat_lt, slice_index}
use Rattle.field.specs.Meaning.{Meaning}

abbrev pub doubled : ℕ → ℕ
doubled a = cond (nat_lt (2 * a) 256) (2 * a) (bit_xor (2 * a) 285)

abbrev pub doublings : ℕ → ℕ → List ℕ
doublings zero a = []
doublings (suc n) a = a ∷ doublings n (doubled a)

abbrev pub powers : List ℕ
powers = doublings 255 1

unfoldable pub power : ℕ → ℕ
power i = slice_index powers i

abbrev pub place : ℕ → List ℕ → ℕ
place a [] = 0
place a (x ∷ xs) = cond (x == a) 0 (suc (place a xs))

unfoldable pub logarithm : ℕ → ℕ
logarithm a = place a powers

abbrev pub logarithms_from : ℕ → ℕ → List ℕ
logarithms_from zero a = []
logarithms_from (suc n) a = place a powers ∷ logarithms_from n (suc a)

abbrev pub logarithms : List ℕ
logarithms = logarithms_from 256 0

abbrev pub wrapped : ℕ → ℕ
wrapped i = cond (nat_lt i 255) i (i - 255)

abbrev pub product : ℕ → ℕ → ℕ
product a b = cond (a == 0) 0 (cond (b == 0) 0 (power (wrapped (logarithm a + logarithm b))))

abbrev pub by_logarithms : Meaning
by_logarithms = record {
  order = 256;
  sum = bit_xor;
  product = product;
}

abbrev pub listed : ℕ → Bool
listed q = q == 256
