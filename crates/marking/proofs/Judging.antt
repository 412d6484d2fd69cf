-- What the steps decide is what a verdict says, and no claim has two verdicts. Assumes nothing.
use Rattle.std.proofs.Common.{◌≡◌, ℕ, ◌+◌, ◌-◌, ◌<◌, List, length, Some, None, Option, sym, refl, ap, ◌∙◌, subst, ⊎_elim, cond, arith}
use Rattle.std.proofs.lemmas.Bool.{cases_order}
use Rattle.field.specs.Laws.{FieldLaws}
use Rattle.field.specs.Meaning.{Meaning}
use Rattle.register.specs.Strings.{Digits, Generates, Breaks}
use Rattle.massey.specs.Steps.{steps}
use Rattle.massey.specs.Theorems.{register_of, Shortest, ShortestLength}
use Rattle.massey.proofs.Registers.{register_length, breaks_not}
use Rattle.massey.proofs.Shortest.{shortest_from, shortest_length, another_shortest}
use Rattle.massey.proofs.Strings.{shortest}
use Rattle.marking.specs.Marks.{Tested, Judged, Decided, DecidedBy, beats, Better}
use Rattle.marking.specs.declared.verdict.Verdict.{Verdict}
use Rattle.marking.specs.declared.verdict.Verdict.TheVariants.{Wrong, Long, Only, Several}

pub shortest_length_of : (m : Meaning) (laws : FieldLaws m) (w : List ℕ) (dw : Digits m w) (l : ℕ) → l ≡ (steps m w).l → ShortestLength m w l
shortest_length_of m laws w dw l e = record { taps = register_of (steps m w); shortest = shortest m laws w dw; long = register_length (steps m w) ∙ sym e }

module _ (m : Meaning) (laws : FieldLaws m) (w claim : List ℕ) (dw : Digits m w) (dc : Digits m claim) (l : ℕ) (e : l ≡ (steps m w).l) where
  decided : Generates m claim w → (v : Verdict) → Decided (length claim) l (length w) v → Judged m w claim v
  decided g (Wrong place) d = absurd d
  decided g (Long excess) d = (g, d.0, (l, shortest_length_of m laws w dw l e, d.1))
  decided g Only d =
      let x = shortest_from m laws w dw claim dc g (omega arith) in
      let long = shortest_length m laws w dw claim x in
      (x, λ a. omega (arith, (another_shortest m laws w dw claim x).0 a))
  decided g Several d =
      let x = shortest_from m laws w dw claim dc g (omega arith) in
      let long = shortest_length m laws w dw claim x in
      (x, (another_shortest m laws w dw claim x).1 (omega arith))

-- so a claim that was tested is judged
pub judged : (m : Meaning) (laws : FieldLaws m) (w claim : List ℕ) (l : ℕ) (broken : Option ℕ) (v : Verdict) → DecidedBy (length claim) l (length w) broken v → Tested m w claim broken → l ≡ (steps m w).l → Judged m w claim v
judged m laws w claim l None v d t e = decided m laws w claim t.given t.claimed l e t.place v d.says
judged m laws w claim l (Some j) v q t e = subst (Judged m w claim) (sym q.says) t.place

-- and of two the one that counts is told by their verdicts
pub better : (m : Meaning) (laws : FieldLaws m) (w first second taps : List ℕ) (l : ℕ) (broken other : Option ℕ) (v u : Verdict) → DecidedBy (length first) l (length w) broken v → DecidedBy (length second) l (length w) other u
    → Tested m w first broken → Tested m w second other → l ≡ (steps m w).l → taps ≡ cond (beats u v) second first → Better m w first second taps
better m laws w first second taps l broken other v u d b t s e chosen = record {
  first_verdict = v;
  second_verdict = u;
  first_judged = judged m laws w first l broken v d t e;
  second_judged = judged m laws w second l other u b s e;
  chosen = chosen;
}

module _ (m : Meaning) (w claim : List ℕ) where
  one_place : (j i : ℕ) → Breaks m claim w j → Breaks m claim w i → j ≡ i
  one_place j i b d = ⊎_elim
      (λ same. same)
      (⊎_elim (λ less. absurd (b.here (d.before (j - 1) (omega (arith, b.past)) (omega (arith, b.past))))) (λ more. absurd (d.here (b.before (i - 1) (omega (arith, d.past)) (omega (arith, d.past))))))
      (cases_order j i)

  one_length : (k l : ℕ) → ShortestLength m w k → ShortestLength m w l → k ≡ l
  one_length k l x y = omega (arith, x.shortest.least y.taps y.shortest.digits y.shortest.generates, y.shortest.least x.taps x.shortest.digits x.shortest.generates, x.long, y.long)

  -- a shortest register is not long
  not_long : {X : Type 0} (l excess : ℕ) → ShortestLength m w l → 0 < excess → l + excess ≡ length claim → Shortest m w claim → X
  not_long l excess x some long s = absurd (omega (arith, s.least x.taps x.shortest.digits x.shortest.generates, x.long))

  pub one_verdict : (v u : Verdict) → Judged m w claim v → Judged m w claim u → v ≡ u
  one_verdict (Wrong j) (Wrong i) x y = ap Wrong (one_place j i x y)
  one_verdict (Wrong j) (Long i) x y = absurd (breaks_not m claim w j x y.0)
  one_verdict (Wrong j) Only x y = absurd (breaks_not m claim w j x y.0.generates)
  one_verdict (Wrong j) Several x y = absurd (breaks_not m claim w j x y.0.generates)
  one_verdict (Long j) (Wrong i) x y = absurd (breaks_not m claim w i y x.0)
  one_verdict (Long j) (Long i) x y = ap Long (omega (arith, one_length x.2.0 y.2.0 x.2.1 y.2.1))
  one_verdict (Long j) Only x y = not_long x.2.0 j x.2.1 x.1 x.2.2 y.0
  one_verdict (Long j) Several x y = not_long x.2.0 j x.2.1 x.1 x.2.2 y.0
  one_verdict Only (Wrong i) x y = absurd (breaks_not m claim w i y x.0.generates)
  one_verdict Only (Long i) x y = not_long y.2.0 i y.2.1 y.1 y.2.2 x.0
  one_verdict Only Only x y = refl
  one_verdict Only Several x y = absurd (x.1 y.1)
  one_verdict Several (Wrong i) x y = absurd (breaks_not m claim w i y x.0.generates)
  one_verdict Several (Long i) x y = not_long y.2.0 i y.2.1 y.1 y.2.2 x.0
  one_verdict Several Only x y = absurd (y.1 x.1)
  one_verdict Several Several x y = refl
