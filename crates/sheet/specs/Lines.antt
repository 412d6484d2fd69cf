-- What is read from the lines of a sheet, up to its end or to the first fault. Assumes nothing.
--   Stopped                     the tasks read before the first fault, and that fault
--   Outcome                     the tasks of the sheet, or where reading stopped
--   Due                         what is due: a task or the tail, the digits of a task, its claim
--   place_due_of a w p          the word w at a is the place p, or the fault
--   places_after l b ps ws      the words ws are the places ps, or the fault; the last word ended at the byte b of the line l
--   ended l b ls                nothing follows, or the fault at the first byte of the lines ls
--   turn .. k stop ws           what a line with the keyword k and the words ws leads to; its first word ends at the byte stop
--   lines_after l b ls ts due   what is read from the lines ls behind the tasks ts; the first of them is line l and begins at the byte b
--   read_from sheet l b         the same of the sheet from the byte b on
--   reading_from sheet l b ts   the same where a task or the tail is due; a sheet that is too long has that fault before any other
--   reading sheet               what is read from the whole sheet
use Rattle.std.specs.Prelude.{ℕ, ◌+◌, cond, ◌&&◌, List, [], ◌∷◌, ◌++◌, length, drop, Ok, Err, Result, ◌==◌, nat_lt}
use Rattle.sheet.specs.Form.{Entry, places}
use Rattle.sheet.specs.Names.{the_default_field}
use Rattle.sheet.specs.Reading.{spot, and_then, number_due_of, numbers_after, field_after, Opened, opened}
use Rattle.sheet.specs.Split.{split}
use Rattle.sheet.specs.declared.fault.At.{At}
use Rattle.sheet.specs.declared.fault.LineFault.{LineFault}
use Rattle.sheet.specs.declared.fault.SheetFault.{SheetFault}
use Rattle.sheet.specs.declared.fault.SheetFault.TheVariants.{Order, Place, Line}
use Rattle.sheet.specs.declared.names.Keyword.{Keyword}
use Rattle.sheet.specs.declared.names.Keyword.TheVariants.{Field, Digits, Claim, Tail}
use Rattle.sheet.specs.declared.names.FieldName.{FieldName}

abbrev pub entry : ℕ → FieldName → List ℕ → List ℕ → Entry
entry b f ds cs = record { byte = b; field = f; digits = ds; claim = cs }

pub record Stopped : Type 0 where
  pub tasks : List Entry
  pub fault : SheetFault

abbrev pub Outcome : Type 0
Outcome = Result (List Entry) Stopped

abbrev pub stopped : List Entry → SheetFault → Outcome
stopped ts e = Err (record { tasks = ts; fault = e })

-- go on with what was read, or stop behind the tasks ts
abbrev pub or_stop : {X : Type 0} → List Entry → Result X SheetFault → (X → Outcome) → Outcome
or_stop ts (Ok x) f = f x
or_stop ts (Err e) f = stopped ts e

abbrev pub as_sheet : {X : Type 0} → Result X LineFault → Result X SheetFault
as_sheet (Ok x) = Ok x
as_sheet (Err e) = Err (Line e)

abbrev pub place_due_of : At → List ℕ → ℕ → Result (Unit {0}) SheetFault
place_due_of a w p = and_then (as_sheet (number_due_of a w)) (λ n. cond (n == p) (Ok tt) (Err (Place a)))

abbrev pub places_after : ℕ → ℕ → List ℕ → List (List ℕ) → Result (Unit {0}) SheetFault
places_after line byte [] [] = Ok tt
places_after line byte [] (w ∷ ws) = and_then (as_sheet (number_due_of (spot line (byte + 1)) w)) (λ n. Err (Place (spot line (byte + 1))))
places_after line byte (p ∷ ps) [] = Err (Place (spot line byte))
places_after line byte (p ∷ ps) (w ∷ ws) = and_then (place_due_of (spot line (byte + 1)) w p) (λ _. places_after line (byte + 1 + length w) ps ws)

abbrev pub ended : ℕ → ℕ → List (List ℕ) → Result (Unit {0}) SheetFault
ended line byte [] = Ok tt
ended line byte (l ∷ ls) = cond (length l == 0 && length ls == 0) (Ok tt) (Err (Order (spot line byte)))

pub data Due : Type 0 where
  start : Due
  digits_of : ℕ → FieldName → Due
  claim_of : ℕ → FieldName → List ℕ → Due

-- `next` goes on with the lines behind this one, and `end` says whether there are none
abbrev pub turn : ℕ → ℕ → List Entry → Due → (List Entry → Due → Outcome) → Result (Unit {0}) SheetFault → Keyword → ℕ → List (List ℕ) → Outcome
turn line byte ts start next end Field stop ws =
    cond (nat_lt (length ts) 32) (or_stop ts (as_sheet (field_after line stop ws)) (λ f. next ts (digits_of byte f))) (stopped ts (Order (spot line byte)))
turn line byte ts start next end Digits stop ws =
    cond (nat_lt (length ts) 32) (or_stop ts (as_sheet (numbers_after line stop [] ws)) (λ ds. next ts (claim_of byte the_default_field ds))) (stopped ts (Order (spot line byte)))
turn line byte ts start next end Claim stop ws = stopped ts (Order (spot line byte))
turn line byte ts start next end Tail stop ws = or_stop ts (places_after line stop (places ts) ws) (λ _. or_stop ts end (λ _. Ok ts))
turn line byte ts (digits_of b f) next end Field stop ws = stopped ts (Order (spot line byte))
turn line byte ts (digits_of b f) next end Digits stop ws = or_stop ts (as_sheet (numbers_after line stop [] ws)) (λ ds. next ts (claim_of b f ds))
turn line byte ts (digits_of b f) next end Claim stop ws = stopped ts (Order (spot line byte))
turn line byte ts (digits_of b f) next end Tail stop ws = stopped ts (Order (spot line byte))
turn line byte ts (claim_of b f ds) next end Field stop ws = stopped ts (Order (spot line byte))
turn line byte ts (claim_of b f ds) next end Digits stop ws = stopped ts (Order (spot line byte))
turn line byte ts (claim_of b f ds) next end Claim stop ws = or_stop ts (as_sheet (numbers_after line stop [] ws)) (λ cs. next (ts ++ entry b f ds cs ∷ []) start)
turn line byte ts (claim_of b f ds) next end Tail stop ws = stopped ts (Order (spot line byte))

-- the last of the pieces is no closed line
abbrev pub opened_of : ℕ → ℕ → List ℕ → List (List ℕ) → Result Opened SheetFault
opened_of line byte l [] = Err (Order (spot line byte))
opened_of line byte l (m ∷ ls) = as_sheet (opened line byte (split 32 l))

unfoldable pub lines_after : ℕ → ℕ → List (List ℕ) → List Entry → Due → Outcome
lines_after line byte [] ts due = stopped ts (Order (spot line byte))
lines_after line byte (l ∷ ls) ts due =
    or_stop ts (opened_of line byte l ls)
    (λ o. turn line byte ts due (lines_after (line + 1) (byte + length l + 1) ls) (ended (line + 1) (byte + length l + 1) ls) o.keyword o.stop o.words)

abbrev pub read_from : List ℕ → ℕ → ℕ → List Entry → Due → Outcome
read_from sheet line byte = lines_after line byte (split 10 (drop byte sheet))

-- the end of the sheet is due at the byte
abbrev pub end_from : List ℕ → ℕ → ℕ → Result (Unit {0}) SheetFault
end_from sheet line byte = ended line byte (split 10 (drop byte sheet))

abbrev pub reading_from : List ℕ → ℕ → ℕ → List Entry → Outcome
reading_from sheet line byte ts = cond (nat_lt 32768 (length sheet)) (stopped ts (Order (spot 1 0))) (read_from sheet line byte ts start)

abbrev pub reading : List ℕ → Outcome
reading sheet = reading_from sheet 1 0 []
