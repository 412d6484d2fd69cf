-- What is read has the form, and where the reading stops, the sheet begins with the tasks read so far.
use Rattle.std.proofs.Common.{◌≡◌, ℕ, List, ◌++◌, Ok, Err, refl, ap, ◌∙◌, subst, append_assoc, sym}
use Rattle.sheet.proofs.Walk.{tasks_then, holds_at_all}
use Rattle.sheet.specs.Begins.{Reached}
use Rattle.sheet.specs.Form.{Entry, Tasks, HasForm}
use Rattle.sheet.specs.Lines.{Due, Stopped, Outcome, reading}

-- what an outcome of the reading tells of the form
abbrev Told : List ℕ → Outcome → Type 0
Told sheet (Ok ts) = HasForm sheet ts
Told sheet (Err s) = (rest : List ℕ) × Tasks 0 s.tasks sheet rest

begins : (sheet : List ℕ) (ts : List Entry) (due : Due) (before rest : List ℕ) → Reached sheet ts due before rest → (rest : List ℕ) × Tasks 0 ts sheet rest
begins sheet ts due before rest r =
    let text : sheet ≡ r.tasks ++ (r.begun ++ rest) = r.whole ∙ ap (λ v. v ++ rest) r.before_is ∙ append_assoc r.tasks r.begun rest in
    (r.begun ++ rest, subst (λ v. Tasks 0 ts v (r.begun ++ rest)) (sym text) (tasks_then 0 ts r.tasks (r.begun ++ rest) r.body))

told : (sheet : List ℕ) → Told sheet (reading sheet)
told sheet = holds_at_all sheet (Told sheet) (record {
  long = λ long. (sheet, refl);
  no_line = λ ts due before rest r lack. begins sheet ts due before rest r;
  first_word = λ ts due before w ws more h never. begins sheet ts due before _ h.reached;
  misplaced = λ ts due before k ws more h f. begins sheet ts due before _ h.reached;
  words = λ ts due before k ws more h may e fails. begins sheet ts due before _ h.reached;
  goes_on = λ ts before ws more h numbers some. begins sheet ts _ before _ h.reached;
  whole = λ ts h. h;
})

pub sound : (bytes : List ℕ) (ts : List Entry) → reading bytes ≡ Ok ts → HasForm bytes ts
sound bytes ts p = subst (Told bytes) p (told bytes)

pub begun : (bytes : List ℕ) (s : Stopped) → reading bytes ≡ Err s → (rest : List ℕ) × Tasks 0 s.tasks bytes rest
begun bytes s p = subst (Told bytes) p (told bytes)
