-- The listed moduli are sound, by tests that antt computes. Assumes nothing.
use Rattle.std.specs.Prelude.{◌≡◌, ℕ, true, ◌==◌, refl}
use Rattle.std.proofs.Common.{sym, subst, ⊎_elim, lit≤, lit<}
use Rattle.std.proofs.lemmas.Bool.{or_cases, eqb-true}
use Rattle.field.specs.Laws.{FieldLaws}
use Rattle.bit_polynomials.specs.declared.bit_polynomials.BitPolynomials.{BitPolynomials}
use Rattle.bit_polynomials.specs.Polynomials.{double, times, listed, degree_of, modulus_of, field_of}
use Rattle.bit_polynomials.specs.Powers.{squares}
use Rattle.bit_polynomials.specs.Lawful.{each, Sound, field_laws}

sound_7 : Sound 2 7
unfolding double times squares each
sound_7 = record { least = lit≤ tt; most = lit≤ tt; low = lit≤ tt; high = lit< tt; neutrals = refl; inverses = refl }

sound_19 : Sound 4 19
unfolding double times squares each
sound_19 = record { least = lit≤ tt; most = lit≤ tt; low = lit≤ tt; high = lit< tt; neutrals = refl; inverses = refl }

sound_285 : Sound 8 285
unfolding double times squares each
sound_285 = record { least = lit≤ tt; most = lit≤ tt; low = lit≤ tt; high = lit< tt; neutrals = refl; inverses = refl }

listed_sound : (q : ℕ) → listed q ≡ true → Sound (degree_of q) (modulus_of q)
listed_sound q t =
    ⊎_elim (is 4 sound_7) (λ t. ⊎_elim (is 16 sound_19) (is 256 sound_285) (or_cases _ _ t)) (or_cases _ _ t)
  where
    is : (n : ℕ) → Sound (degree_of n) (modulus_of n) → (q == n) ≡ true → Sound (degree_of q) (modulus_of q)
    is n s e = subst (λ i. Sound (degree_of i) (modulus_of i)) (sym (eqb-true q n e)) s

pub listed_laws : (q : ℕ) → listed q ≡ true → FieldLaws (field_of q)
listed_laws q t = field_laws (degree_of q) (modulus_of q) (listed_sound q t)

pub sound : (f : BitPolynomials) → Sound f.degree f.modulus
sound f =
    subst (λ i. Sound i f.modulus) (sym f.exponent)
    (subst (λ i. Sound (degree_of f.order) i) (sym f.reduction) (listed_sound f.order f.known))
