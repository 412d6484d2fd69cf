-- The answer to a whole sheet. Assumes nothing.
--   AnsweredOver m w claim a   a is the answer to a claim on the string w: its mark, or why marking refuses it
--   Answered t a               a is the answer to the task t
--   AllAnswered ts list        the answers, one for each task, in their order
--   GoodSheet sheet list       the sheet has the form with tasks of which these are the answers
--   FaultySheet sheet f        f is the fault where the reading of the sheet stops, which has no form
--   SheetAnswered sheet r      the answers to the tasks of a sheet that has the form, or the first fault of one that has not
--   OneFault sheet f           f is what is wrong with the sheet, and nothing else is
use Rattle.std.specs.Prelude.{◌≡◌, ℕ, List, [], ◌∷◌, Some, None, Ok, Err, Result}
use Rattle.field.specs.Meaning.{Meaning}
use Rattle.field.specs.declared.refusal.Refusal.{Refusal}
use Rattle.synthesis.specs.Scratch.{scratch_cells_for}
use Rattle.marking.specs.Marks.{Marked, mark_refusal}
use Rattle.marking.specs.declared.verdict.Mark.{Mark}
use Rattle.faults.specs.Faulty.{Faulty}
use Rattle.sheet.specs.Faults.{fault_of}
use Rattle.sheet.specs.Form.{Entry, Tasks, HasForm}
use Rattle.sheet.specs.Lines.{stopped, reading}
use Rattle.sheet.specs.declared.fault.Fault.{Fault}
use Rattle.sheet.specs.declared.fault.SheetFault.{SheetFault}
use Rattle.answers.specs.Fields.{meaning_of}

-- the mark of a task, or why marking refuses it
abbrev pub Answer : Type 0
Answer = Result Mark Refusal

-- the scratch never wants for cells
abbrev pub AnsweredOver : Meaning → List ℕ → List ℕ → Answer → Type 0
AnsweredOver m w claim (Ok k) = (mark_refusal m w claim (scratch_cells_for 256) ≡ None) × Marked m w claim k
AnsweredOver m w claim (Err e) = mark_refusal m w claim (scratch_cells_for 256) ≡ Some e

abbrev pub Answered : Entry → Answer → Type 0
Answered t a = AnsweredOver (meaning_of t.field) t.digits t.claim a

abbrev pub AllAnswered : List Entry → List Answer → Type 0
AllAnswered [] [] = Unit {0}
AllAnswered [] (a ∷ rest) = ⊥
AllAnswered (t ∷ ts) [] = ⊥
AllAnswered (t ∷ ts) (a ∷ rest) = Answered t a × AllAnswered ts rest

pub record GoodSheet (sheet : List ℕ) (list : List Answer) : Type 0 where
  pub tasks : List Entry
  pub form : HasForm sheet tasks
  pub answered : AllAnswered tasks list

-- the first fault, behind the tasks with which the sheet begins
pub record FaultySheet (sheet : List ℕ) (f : Fault) : Type 0 where
  pub tasks : List Entry
  pub fault : SheetFault
  pub first : reading sheet ≡ stopped tasks fault
  pub reported : f ≡ fault_of fault
  pub begun : (rest : List ℕ) × Tasks 0 tasks sheet rest
  pub no_form : (ts : List Entry) → HasForm sheet ts → ⊥

abbrev pub SheetAnswered : List ℕ → Result (List Answer) Fault → Type 0
SheetAnswered sheet (Ok list) = GoodSheet sheet list
SheetAnswered sheet (Err f) = FaultySheet sheet f

pub record OneFault (sheet : List ℕ) (f : Fault) : Type 0 where
  pub tasks : List Entry
  pub fault : SheetFault
  pub faulty : Faulty sheet tasks fault
  pub reported : f ≡ fault_of fault
  pub only : (ts : List Entry) (e : SheetFault) → Faulty sheet ts e → f ≡ fault_of e
