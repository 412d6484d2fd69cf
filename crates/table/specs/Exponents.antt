-- Powers multiply by adding their exponents. Assumes nothing.
use Rattle.std.specs.Prelude.{◌≡◌, ℕ, zero, suc, ◌+◌, ◌-◌, ◌*◌, ◌<◌, ◌≤◌, Bool, true, ◌&&◌, ◌||◌, ◌==◌, bit_xor, nat_lt, slice_index, refl}
use Rattle.std.proofs.Common.{sym, ap, ◌∙◌, ⊎_elim, add-zero, add-suc, arith, lit≤, lit<}
use Rattle.std.proofs.lemmas.Bool.{and_parts, or_cases, eqb-true, ltb-true, lt-ltb, le-ltb, cond-true, cond-false, cases_lt}
use Rattle.bit_polynomials.specs.Polynomials.{double, polynomials, product as times}
use Rattle.bit_polynomials.specs.Linear.{times_double}
use Rattle.bit_polynomials.specs.Reduced.{double_is, double_lt}
use Rattle.bit_polynomials.specs.Lawful.{each, each_at}
use Rattle.bit_polynomials.specs.Moduli.{listed_laws}
use Rattle.field.specs.Laws.{FieldLaws}
use Rattle.table.specs.Logarithms.{doubled, doublings, power, logarithms_from, logarithm, logarithms, wrapped}

pub laws : FieldLaws (polynomials 8 285)
laws = listed_laws 256 refl

doubled_is : (a : ℕ) → a < 256 → doubled a ≡ double 8 285 a
doubled_is a h = double_is 8 285 256 a (doubled a) refl h
    (λ l. cond-true (nat_lt (2 * a) 256) (2 * a) (bit_xor (2 * a) 285) (lt-ltb (2 * a) 256 l))
    (λ l. cond-false (nat_lt (2 * a) 256) (2 * a) (bit_xor (2 * a) 285) (le-ltb (2 * a) 256 l))

-- x to the i
unfoldable pub raised : ℕ → ℕ
raised zero = 1
raised (suc i) = double 8 285 (raised i)

pub raised_lt : (i : ℕ) → raised i < 256
unfolding raised
raised_lt zero = lit< tt
raised_lt (suc i) = double_lt 8 285 (lit≤ tt) (lit< tt) (raised i) (raised_lt i)

doublings_at : (n j i : ℕ) → i < n → slice_index (doublings n (raised j)) i ≡ raised (j + i)
unfolding raised
doublings_at zero j i h = absurd (omega arith)
doublings_at (suc n) j zero h = ap raised (sym (add-zero j))
doublings_at (suc n) j (suc i) h =
    ap (λ a. slice_index (doublings n a) i) (doubled_is (raised j) (raised_lt j)) ∙ doublings_at n (suc j) i (omega arith) ∙ ap raised (omega arith)

pub power_is : (i : ℕ) → i < 255 → power i ≡ raised i
unfolding power raised
power_is i h = doublings_at 255 0 i h ∙ ap raised (omega arith)

pub raised_sum : (i j : ℕ) → times 8 285 (raised i) (raised j) ≡ raised (i + j)
unfolding raised
raised_sum i zero = laws.ring.product_one (raised i) (raised_lt i) ∙ ap raised (sym (add-zero i))
raised_sum i (suc j) =
    laws.ring.product_comm (raised i) (raised (suc j)) (raised_lt i) (raised_lt (suc j))
    ∙ times_double 8 285 8 (raised j) (raised i)
    ∙ ap (double 8 285) (laws.ring.product_comm (raised j) (raised i) (raised_lt j) (raised_lt i) ∙ raised_sum i j)
    ∙ ap raised (sym (add-suc i j))

-- 255 turns round
pub raised_255 : raised 255 ≡ 1
unfolding raised double
raised_255 = refl

wrapped_low : (i : ℕ) → i < 255 → wrapped i ≡ i
wrapped_low i h = cond-true (nat_lt i 255) i (i - 255) (lt-ltb i 255 h)

wrapped_high : (i : ℕ) → 255 ≤ i → wrapped i ≡ i - 255
wrapped_high i h = cond-false (nat_lt i 255) i (i - 255) (le-ltb i 255 h)

pub power_wrapped : (i : ℕ) → i < 510 → power (wrapped i) ≡ raised i
power_wrapped i h = ⊎_elim
    (λ l. ap power (wrapped_low i l) ∙ power_is i l)
    (λ l.
    let less = i - 255 in
    let back : less + 255 ≡ i = omega arith in
    ap power (wrapped_high i l)
    ∙ power_is less (omega arith)
    ∙ sym (laws.ring.product_one (raised less) (raised_lt less))
    ∙ ap (times 8 285 (raised less)) (sym raised_255)
    ∙ raised_sum less 255
    ∙ ap raised back)
    (cases_lt i 255)

logarithms_at : (n b i : ℕ) → i < n → slice_index (logarithms_from n b) i ≡ logarithm (b + i)
unfolding logarithm
logarithms_at zero b i h = absurd (omega arith)
logarithms_at (suc n) b zero h = ap logarithm (sym (add-zero b))
logarithms_at (suc n) b (suc i) h = logarithms_at n (suc b) i (omega arith) ∙ ap logarithm (omega arith)

pub logarithm_at : (a : ℕ) → a < 256 → slice_index logarithms a ≡ logarithm a
logarithm_at a h = logarithms_at 256 0 a h ∙ ap logarithm (omega arith)

-- a is 0, or the power of its logarithm
abbrev undone : ℕ → Bool
undone a = a == 0 || (nat_lt (logarithm a) 255 && power (logarithm a) == a)

all_undone : each 256 undone ≡ true
unfolding each logarithm power
all_undone = refl

module _ (a : ℕ) (positive : 0 < a) (within : a < 256) where
  both : (nat_lt (logarithm a) 255 ≡ true) × ((power (logarithm a) == a) ≡ true)
  both = ⊎_elim
      (λ e. absurd (omega (arith, eqb-true a 0 e)))
      (λ t. and_parts (nat_lt (logarithm a) 255) (power (logarithm a) == a) t)
      (or_cases (a == 0) (nat_lt (logarithm a) 255 && power (logarithm a) == a) (each_at 256 undone all_undone a within))

  pub logarithm_lt : logarithm a < 255
  logarithm_lt = ltb-true (logarithm a) 255 both.0

  pub raised_logarithm : raised (logarithm a) ≡ a
  raised_logarithm = sym (power_is (logarithm a) logarithm_lt) ∙ eqb-true (power (logarithm a)) a both.1
