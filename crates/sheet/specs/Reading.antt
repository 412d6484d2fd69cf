-- What is read from the words of a line, or the first fault. Assumes nothing.
--   spot l b                  the byte b in the line l
--   and_then r f              go on with what was read, or keep the fault
--   number_by a k             the number that a word of the kind k at a is
--   number_due_by a w k       the same of the word w where a number is due, which may not be empty
--   number_of, number_due_of  the same of the word w, told by its bytes
--   numbers_after l b ns ws   ns, and then the numbers that the words ws are; the last word ended at the byte b of the line l
--   field_after l b ws        the field that the one word in ws names
--   opened l b ws             a line, from the byte b on, with its first word known
use Rattle.std.specs.Prelude.{ℕ, ◌+◌, cond, List, [], ◌∷◌, ◌++◌, length, Ok, Err, Result, ◌==◌}
use Rattle.std.specs.Option.{ok_or}
use Rattle.sheet.specs.Words.{Kind, kind_of, as_keyword, as_name, as_number}
use Rattle.sheet.specs.declared.fault.At.{At}
use Rattle.sheet.specs.declared.fault.NumberFault.{NumberFault}
use Rattle.sheet.specs.declared.fault.LineFault.{LineFault}
use Rattle.sheet.specs.declared.fault.LineFault.TheVariants.{BadWord, Number}
use Rattle.sheet.specs.declared.names.FieldName.{FieldName}
use Rattle.sheet.specs.declared.names.Keyword.{Keyword}

abbrev pub spot : ℕ → ℕ → At
spot l b = record { line = l; byte = b }

abbrev pub and_then : {X Y E : Type 0} → Result X E → (X → Result Y E) → Result Y E
and_then (Ok x) f = f x
and_then (Err e) f = Err e

abbrev pub as_line : {X : Type 0} → Result X NumberFault → Result X LineFault
as_line (Ok x) = Ok x
as_line (Err e) = Err (Number e)

abbrev pub number_by : At → Kind → Result ℕ NumberFault
number_by a k = ok_or (as_number k) (record { at = a })

abbrev pub number_of : At → List ℕ → Result ℕ NumberFault
number_of a w = number_by a (kind_of w)

abbrev pub number_due_by : At → List ℕ → Kind → Result ℕ LineFault
number_due_by a w k = cond (length w == 0) (Err (BadWord a)) (as_line (number_by a k))

abbrev pub number_due_of : At → List ℕ → Result ℕ LineFault
number_due_of a w = number_due_by a w (kind_of w)

abbrev pub numbers_after : ℕ → ℕ → List ℕ → List (List ℕ) → Result (List ℕ) LineFault
numbers_after line byte ns [] = Ok ns
numbers_after line byte ns (w ∷ ws) = and_then (number_due_of (spot line (byte + 1)) w) (λ n. numbers_after line (byte + 1 + length w) (ns ++ n ∷ []) ws)

-- no word is left, or the fault stands at the next
abbrev pub no_more : {X : Type 0} → ℕ → ℕ → List (List ℕ) → X → Result X LineFault
no_more line byte [] x = Ok x
no_more line byte (w ∷ ws) x = Err (BadWord (spot line (byte + 1)))

abbrev pub field_after : ℕ → ℕ → List (List ℕ) → Result FieldName LineFault
field_after line byte [] = Err (BadWord (spot line byte))
field_after line byte (w ∷ ws) = and_then (ok_or (as_name (kind_of w)) (BadWord (spot line (byte + 1)))) (no_more line (byte + 1 + length w) ws)

-- a line whose first word ends at the byte stop, and the words behind it
pub record Opened : Type 0 where
  pub keyword : Keyword
  pub stop : ℕ
  pub words : List (List ℕ)

abbrev pub opened : ℕ → ℕ → List (List ℕ) → Result Opened LineFault
opened line byte [] = Err (BadWord (spot line byte))
opened line byte (w ∷ ws) = and_then (ok_or (as_keyword (kind_of w)) (BadWord (spot line byte))) (λ k. Ok (record { keyword = k; stop = byte + length w; words = ws }))
