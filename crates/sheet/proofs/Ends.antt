-- The end of the sheet.
use Rattle.std.proofs.Common.{◌≡◌, ℕ, ◌&&◌, eqb, List, [], ◌∷◌, ◌++◌, length, Ok, Err, Result, refl, ap, ◌∙◌, arith}
use Rattle.std.proofs.lemmas.Bool.{eq-eqb, eqb-true, cond_both, both_ways, and_from, and_parts}
use Rattle.std.proofs.lemmas.List.{nil_from_length}
use Rattle.sheet.proofs.Cuts.{goes_on}
use Rattle.sheet.specs.Form.{behind}
use Rattle.sheet.specs.Lines.{ended}
use Rattle.sheet.specs.Reading.{spot}
use Rattle.sheet.specs.Split.{split}
use Rattle.sheet.specs.declared.fault.SheetFault.{SheetFault}
use Rattle.sheet.specs.declared.fault.SheetFault.TheVariants.{Order}

pub more_left : (line byte : ℕ) (xs : List ℕ) → (xs ≡ [] → ⊥) → ended line byte (split 10 xs) ≡ Err (Order (spot line byte))
more_left line byte [] some = absurd (some refl)
more_left line byte (b ∷ bs) some = goes_on line byte (b ∷ bs) (omega arith)

-- where it ends nothing is left, and where it goes on something is
abbrev pub EndTold : ℕ → ℕ → List ℕ → Result (Unit {0}) SheetFault → Type 0
EndTold line byte left (Ok u) = left ≡ []
EndTold line byte left (Err e) = (left ≡ [] → ⊥) × (e ≡ Order (spot line byte))

none_left : (m : List ℕ) (ls : List (List ℕ)) → m ++ behind 10 ls ≡ [] → (length m ≡ 0) × (length ls ≡ 0)
none_left [] [] e = (refl, refl)
none_left [] (x ∷ ls) e = absurd (let long = ap length e in omega arith)
none_left (b ∷ m) ls e = absurd (let long = ap length e in omega arith)

pub ended_told : (line byte : ℕ) (m : List ℕ) (ls : List (List ℕ)) → EndTold line byte (m ++ behind 10 ls) (ended line byte (m ∷ ls))
ended_told line byte m ls =
    cond_both (eqb (length m) 0 && eqb (length ls) 0) (Ok tt) (Err (Order (spot line byte))) (EndTold line byte (m ++ behind 10 ls))
    (λ t. let r = and_parts _ _ t in ap (λ v. v ++ behind 10 ls) (nil_from_length m (eqb-true _ _ r.0)) ∙ ap (behind 10) (nil_from_length ls (eqb-true _ _ r.1)))
    (λ f. (λ none. both_ways _ f (and_from _ _ (eq-eqb _ _ (none_left m ls none).0) (eq-eqb _ _ (none_left m ls none).1)), refl))
