-- What the calls of the reader promise. Assumes nothing.
--   Opens sheet r              r stands at the first byte of the sheet, and the reading of the sheet agrees with its form
--   TaskDue r l first          first begins the next task that r reads, and l stands behind it
--   NextTask r0 ps0 t r1 ps1   behind any tasks with the places ps0, of which there are at most 31, reading from r0 is reading from r1 with the task t appended
--   NoTask r ps0 ps1           behind any tasks with the places ps0, r is at the tail, and the tasks are all that the sheet has
--   Refuses r ps0 e ps1        behind any tasks with the places ps0, reading from r stops with the fault e
use Rattle.std.specs.Prelude.{◌≡◌, ℕ, ◌<◌, List, [], ◌∷◌, ◌++◌, ◌≢◌, length, Ok}
use Rattle.sheet.specs.Exact.{ReadsExactly}
use Rattle.sheet.specs.Form.{Entry, places}
use Rattle.sheet.specs.Lines.{stopped, reading}
use Rattle.sheet.specs.Steps.{from_line}
use Rattle.sheet.specs.Views.{remaining, unread}
use Rattle.sheet.specs.declared.fault.SheetFault.{SheetFault}
use Rattle.sheet.specs.declared.line.Line.{Line}
use Rattle.sheet.specs.declared.lines.Lines.{Lines}
use Rattle.sheet.specs.declared.names.Keyword.TheVariants.{Tail}
use Rattle.sheet.specs.declared.reader.Reader.{Reader}

pub record Opens (sheet : List ℕ) (r : Reader) : Type 0 where
  pub sheet_is : r.sheet.now ≡ sheet
  pub first : reading sheet ≡ remaining r []
  pub exact : ReadsExactly sheet

pub record TaskDue (r : Reader) (l : Lines) (first : Line) : Type 0 where
  pub read : (ts : List Entry) → remaining r ts ≡ from_line first l ts
  pub task : first.keyword ≢ Tail
  pub sheet : l.sheet.now ≡ r.sheet.now
  pub onward : r.place < l.at.byte

pub record NextTask (r0 : Reader) (ps0 : List ℕ) (t : Entry) (r1 : Reader) (ps1 : List ℕ) : Type 0 where
  pub read : (ts : List Entry) → places ts ≡ ps0 → remaining r0 ts ≡ remaining r1 (ts ++ t ∷ [])
  pub noted : (ts : List Entry) → places ts ≡ ps0 → places (ts ++ t ∷ []) ≡ ps1
  pub place : ps1 ≡ ps0 ++ t.byte ∷ []
  pub room : length ps0 < 32
  pub onward : unread r1 < unread r0

-- the places stay
pub record NoTask (r : Reader) (ps0 ps1 : List ℕ) : Type 0 where
  pub read : (ts : List Entry) → places ts ≡ ps0 → remaining r ts ≡ Ok ts
  pub places_stay : ps1 ≡ ps0

-- the places stay
pub record Refuses (r : Reader) (ps0 : List ℕ) (e : SheetFault) (ps1 : List ℕ) : Type 0 where
  pub fails : (ts : List Entry) → places ts ≡ ps0 → remaining r ts ≡ stopped ts e
  pub places_stay : ps1 ≡ ps0
