-- Results, case by case.
use Rattle.std.proofs.Common.{◌≡◌, List, Ok, Err, Result, sym, refl, ap}
use Rattle.sheet.proofs.Inverts.{no_err}
use Rattle.sheet.specs.Form.{Entry}
use Rattle.sheet.specs.Lines.{Outcome, stopped, or_stop, as_sheet}
use Rattle.sheet.specs.Reading.{and_then}
use Rattle.sheet.specs.declared.fault.LineFault.{LineFault}
use Rattle.sheet.specs.declared.fault.SheetFault.{SheetFault}
use Rattle.sheet.specs.declared.fault.SheetFault.TheVariants.{Line}

pub same_err : {X E : Type 0} (d e : E) → ◌≡◌ {A = Result X E} (Err d) (Err e) → d ≡ e
same_err d e p = cc

-- what holds of a result that goes on, and of one that stops, holds of what comes of it
pub line_by : {X Y : Type 0} (P : Result Y SheetFault → Type 0) (r : Result X LineFault) (f : X → Result Y LineFault) → ((x : X) → r ≡ Ok x → P (as_sheet (f x))) → ((e : LineFault) → r ≡ Err e → P (Err (Line e))) → P (as_sheet (and_then r f))
line_by P (Ok x) f good bad = good x refl
line_by P (Err e) f good bad = bad e refl

pub then_by : {X Y : Type 0} (P : Result Y SheetFault → Type 0) (r : Result X SheetFault) (f : X → Result Y SheetFault) → ((x : X) → r ≡ Ok x → P (f x)) → ((e : SheetFault) → r ≡ Err e → P (Err e)) → P (and_then r f)
then_by P (Ok x) f good bad = good x refl
then_by P (Err e) f good bad = bad e refl

-- what has stopped stays so
pub line_stop : {X Y : Type 0} (r : Result X LineFault) (f : X → Result Y LineFault) (e : SheetFault) → as_sheet r ≡ Err e → as_sheet (and_then r f) ≡ Err e
line_stop (Ok x) f e p = absurd (no_err e x (sym p))
line_stop (Err d) f e p = ap Err (same_err (Line d) e p)

pub then_stop : {X Y : Type 0} (r : Result X SheetFault) (f : X → Result Y SheetFault) (e : SheetFault) → r ≡ Err e → and_then r f ≡ Err e
then_stop (Ok x) f e p = absurd (no_err e x (sym p))
then_stop (Err d) f e p = ap Err (same_err d e p)

pub stop_at : {X : Type 0} (ts : List Entry) (r : Result X SheetFault) (f : X → Outcome) (e : SheetFault) → r ≡ Err e → or_stop ts r f ≡ stopped ts e
stop_at ts (Ok x) f e p = absurd (no_err e x (sym p))
stop_at ts (Err d) f e p = ap (stopped ts) (same_err d e p)
