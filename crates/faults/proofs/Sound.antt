-- Where the reading stops, that is what is wrong.
use Rattle.std.proofs.Common.{◌≡◌, ℕ, ◌+◌, true, List, [], length, Ok, Err, refl, sym, subst, arith}
use Rattle.faults.proofs.Beginnings.{place_said}
use Rattle.faults.proofs.Inverts.{NumbersTold, numbers_told, NameTold, name_told, PlacesTold, places_told}
use Rattle.faults.specs.Faulty.{Breaks, Faulty, too_long, unclosed, unknown_word, out_of_order, in_line, behind_tail}
use Rattle.sheet.proofs.Joins.{lacks_behind}
use Rattle.sheet.proofs.Walk.{WordsFail, holds_at_all}
use Rattle.sheet.specs.Begins.{closed, may_come, NextLine}
use Rattle.sheet.specs.Form.{Entry, places}
use Rattle.sheet.specs.Lines.{Due, Outcome, reading}
use Rattle.sheet.specs.Names.{keyword}
use Rattle.sheet.specs.Reading.{spot}
use Rattle.sheet.specs.declared.fault.SheetFault.{SheetFault}
use Rattle.sheet.specs.declared.names.Keyword.{Keyword}
use Rattle.sheet.specs.declared.names.Keyword.TheVariants.{Field, Digits, Claim, Tail}

-- what an outcome of the reading tells of what is wrong
abbrev pub Told : List ℕ → Outcome → Type 0
Told sheet (Ok ts) = Unit {0}
Told sheet (Err s) = Faulty sheet s.tasks s.fault

-- words that cannot be read break a rule of their line
broken : (k : Keyword) (ps : List ℕ) (l stop : ℕ) (ws : List (List ℕ)) (e : SheetFault) → WordsFail k ps l stop ws e → (said : List ℕ) × Breaks k ps ws said (spot l (stop + length said)) e
broken Field ps l stop ws e p = subst (NameTold l stop ws) p (name_told l stop ws)
broken Digits ps l stop ws e p = subst (NumbersTold l stop [] ws) p (numbers_told l stop [] ws)
broken Claim ps l stop ws e p = subst (NumbersTold l stop [] ws) p (numbers_told l stop [] ws)
broken Tail ps l stop ws e p = subst (PlacesTold l stop ps ws) p (places_told l stop ps ws)

line_broken : (sheet : List ℕ) (ts : List Entry) (due : Due) (before : List ℕ) (k : Keyword) (ws : List (List ℕ)) (more : List ℕ) → NextLine sheet ts due before (keyword k) ws more
    → may_come due (length ts) k ≡ true → (e : SheetFault) → WordsFail k (places ts) (closed before + 1) (length before + length (keyword k)) ws e → Faulty sheet ts e
line_broken sheet ts due before k ws more h may e p =
    let b = broken k (places ts) (closed before + 1) (length before + length (keyword k)) ws e p in
    let place = place_said before k (places ts) ws b.0 _ e (lacks_behind 10 32 ws (λ z. omega arith) h.not_closed.1) b.1 in
    in_line due before k ws more b.0 h may (subst (λ a. Breaks k (places ts) ws b.0 a e) (sym place) b.1)

pub told : (sheet : List ℕ) → Told sheet (reading sheet)
told sheet = holds_at_all sheet (Told sheet) (record {
  long = λ long. too_long long refl refl;
  no_line = λ ts due before rest r lack. unclosed due before rest r lack refl;
  first_word = λ ts due before w ws more h never. unknown_word due before w ws more h never refl;
  misplaced = λ ts due before k ws more h f. out_of_order due before k ws more h f refl;
  words = line_broken sheet;
  goes_on = λ ts before ws more h numbers some. behind_tail before ws more h numbers some refl;
  whole = λ ts h. tt;
})
