-- What is wrong with a text that is no sheet agrees with the reading of it. Assumes nothing.
--   FaultsExactly bytes   the reading stops with the fault e behind the tasks ts exactly where e is what is wrong with the bytes, which is one fault, and
--                         never in a sheet
use Rattle.std.specs.Prelude.{◌≡◌, ℕ, List}
use Rattle.faults.specs.Faulty.{Faulty}
use Rattle.sheet.specs.Form.{Entry, HasForm}
use Rattle.sheet.specs.Lines.{stopped, reading}
use Rattle.sheet.specs.declared.fault.SheetFault.{SheetFault}

pub record FaultsExactly (bytes : List ℕ) : Type 0 where
  pub faulty : (ts : List Entry) (e : SheetFault) → reading bytes ≡ stopped ts e → Faulty bytes ts e
  pub first : (ts : List Entry) (e : SheetFault) → Faulty bytes ts e → reading bytes ≡ stopped ts e
  pub one_fault : (ts us : List Entry) (d e : SheetFault) → Faulty bytes ts d → Faulty bytes us e → d ≡ e
  pub no_form : (ts us : List Entry) (e : SheetFault) → Faulty bytes ts e → HasForm bytes us → ⊥
