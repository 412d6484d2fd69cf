-- What the reader, its lines and its task stand for. Assumes nothing.
--   entry_of t       the task that t holds
--   empty_entry      a task with no numbers, at byte 0, over the default field
--   noted p          the places in p, in their order
--   remaining r ts   what is read from r's place on, behind the tasks ts; a sheet that is too long has that fault before any other
--   unread r         how many bytes are left at r's place
--   from r ts due    what is read from the lines r on, behind the tasks ts
--   ending r         no byte is left at the lines r, or the fault there
use Rattle.std.specs.Prelude.{ℕ, ◌-◌, List, [], length, Result}
use Rattle.sheet.specs.Form.{Entry}
use Rattle.sheet.specs.Lines.{entry, Due, Outcome, read_from, end_from, reading_from}
use Rattle.sheet.specs.Names.{the_default_field}
use Rattle.sheet.specs.declared.fault.SheetFault.{SheetFault}
use Rattle.sheet.specs.declared.lines.Lines.{Lines}
use Rattle.sheet.specs.declared.places.Places.{Places}
use Rattle.sheet.specs.declared.reader.Reader.{Reader}
use Rattle.sheet.specs.declared.task.Task.{Task}

abbrev pub entry_of : Task → Entry
entry_of t = entry t.byte t.field t.digits.items t.claim.items

abbrev pub empty_entry : Entry
empty_entry = entry 0 the_default_field [] []

abbrev pub noted : Places → List ℕ
noted p = p.list.items

abbrev pub remaining : Reader → List Entry → Outcome
remaining r = reading_from r.sheet.now r.line r.place

abbrev pub unread : Reader → ℕ
unread r = length r.sheet.now - r.place

abbrev pub from : Lines → List Entry → Due → Outcome
from r = read_from r.sheet.now r.at.line r.at.byte

abbrev pub ending : Lines → Result (Unit {0}) SheetFault
ending r = end_from r.sheet.now r.at.line r.at.byte
