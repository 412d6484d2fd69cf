-- The refusals. Assumes nothing.
--   refusal_number e   the number of a refusal
--   refusal_of r       why a call was refused, or nothing where it was not
use Rattle.std.specs.Prelude.{ℕ, Some, None, Ok, Err, Option, Result}
use Rattle.field.specs.declared.refusal.Refusal.{Refusal}
use Rattle.field.specs.declared.refusal.Refusal.TheVariants.{NotADigit, TooManyDigits, TooFewCells, PastTheDigits, StartLength, TooManyTaps, RowsDiffer, NoSuchField}

abbrev pub refusal_number : Refusal → ℕ
refusal_number NotADigit = 1
refusal_number TooManyDigits = 2
refusal_number TooFewCells = 3
refusal_number PastTheDigits = 4
refusal_number StartLength = 5
refusal_number TooManyTaps = 6
refusal_number RowsDiffer = 7
refusal_number NoSuchField = 12

abbrev pub refusal_of : {X : Type 0} → Result X Refusal → Option Refusal
refusal_of (Ok x) = None
refusal_of (Err e) = Some e
