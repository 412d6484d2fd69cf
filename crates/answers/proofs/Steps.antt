-- A sheet, task by task. Assumes nothing.
--   SoFar sheet r ps list   the tasks read so far have the places ps and the answers of the list, and the reading goes on from r
use Rattle.std.proofs.Common.{◌≡◌, ℕ, ◌+◌, List, [], ◌∷◌, ◌++◌, length, sym, refl, ap, ◌∙◌, subst, length-append}
use Rattle.sheet.specs.Form.{Entry, places}
use Rattle.sheet.specs.Lines.{reading}
use Rattle.sheet.specs.Exact.{ReadsExactly}
use Rattle.sheet.specs.Views.{remaining}
use Rattle.sheet.specs.Faults.{fault_of}
use Rattle.sheet.specs.Calls.{Opens, NextTask, NoTask, Refuses}
use Rattle.faults.specs.Exact.{FaultsExactly}
use Rattle.sheet.specs.declared.fault.Fault.{Fault}
use Rattle.sheet.specs.declared.fault.SheetFault.{SheetFault}
use Rattle.sheet.specs.declared.reader.Reader.{Reader}
use Rattle.answers.specs.Answers.{Answer, Answered, AllAnswered, GoodSheet, FaultySheet, OneFault}

pub record SoFar (sheet : List ℕ) (r : Reader) (ps : List ℕ) (list : List Answer) : Type 0 where
  pub tasks : List Entry
  pub exact : ReadsExactly sheet
  pub rest : reading sheet ≡ remaining r tasks
  pub places_are : places tasks ≡ ps
  pub answered : AllAnswered tasks list

pub push_long : {X : Type 0} (xs ys : List X) (x : X) → ys ≡ xs ++ x ∷ [] → length ys ≡ length xs + 1
push_long xs ys x e = ap length e ∙ length-append xs (x ∷ [])

answered_push : (ts : List Entry) (list : List Answer) (t : Entry) (a : Answer) → AllAnswered ts list → Answered t a → AllAnswered (ts ++ t ∷ []) (list ++ a ∷ [])
answered_push [] [] t a all one = (one, tt)
answered_push [] (b ∷ list) t a all one = absurd all
answered_push (s ∷ ts) [] t a all one = absurd all
answered_push (s ∷ ts) (b ∷ list) t a all one = (all.0, answered_push ts list t a all.1 one)

pub so_far_none : (sheet : List ℕ) (r : Reader) → Opens sheet r → SoFar sheet r [] []
so_far_none sheet r o = record { tasks = []; exact = o.exact; rest = o.first; places_are = refl; answered = tt }

pub so_far_more : (sheet : List ℕ) (r r' : Reader) (ps ps' : List ℕ) (list list' : List Answer) (t : Entry) (a : Answer)
    → SoFar sheet r ps list → NextTask r ps t r' ps' → Answered t a → list' ≡ list ++ a ∷ [] → SoFar sheet r' ps' list'
so_far_more sheet r r' ps ps' list list' t a s n one e = record {
  tasks = s.tasks ++ t ∷ [];
  exact = s.exact;
  rest = s.rest ∙ n.read s.tasks s.places_are;
  places_are = n.noted s.tasks s.places_are;
  answered = subst (AllAnswered (s.tasks ++ t ∷ [])) (sym e) (answered_push s.tasks list t a s.answered one);
}

pub so_far_good : (sheet : List ℕ) (r : Reader) (ps ps' : List ℕ) (list : List Answer) → SoFar sheet r ps list → NoTask r ps ps' → GoodSheet sheet list
so_far_good sheet r ps ps' list s n = record {
  tasks = s.tasks;
  form = s.exact.sound s.tasks (s.rest ∙ n.read s.tasks s.places_are);
  answered = s.answered;
}

pub so_far_faulty : (sheet : List ℕ) (r : Reader) (ps ps' : List ℕ) (list : List Answer) (e : SheetFault) → SoFar sheet r ps list → Refuses r ps e ps' → FaultySheet sheet (fault_of e)
so_far_faulty sheet r ps ps' list e s f =
    let first = s.rest ∙ f.fails s.tasks s.places_are in
    record { tasks = s.tasks; fault = e; first = first; reported = refl; begun = s.exact.begun (record { tasks = s.tasks; fault = e }) first; no_form = s.exact.refused (record { tasks = s.tasks; fault = e }) first }

pub one_fault : (sheet : List ℕ) → FaultsExactly sheet → (f : Fault) → FaultySheet sheet f → OneFault sheet f
one_fault sheet x f s =
    let told = x.faulty s.tasks s.fault s.first in
    record { tasks = s.tasks; fault = s.fault; faulty = told; reported = s.reported; only = λ ts e h. s.reported ∙ ap fault_of (x.one_fault s.tasks ts s.fault e told h) }
