-- The faults of a word. Assumes nothing.
--   bad_word a    the fault of a word at a that its line cannot have
--   no_number a   that of a word at a that is no number where one is due
use Rattle.sheet.specs.declared.fault.At.{At}
use Rattle.sheet.specs.declared.fault.LineFault.TheVariants.{BadWord, Number}
use Rattle.sheet.specs.declared.fault.SheetFault.{SheetFault}
use Rattle.sheet.specs.declared.fault.SheetFault.TheVariants.{Line}

abbrev pub bad_word : At → SheetFault
bad_word a = Line (BadWord a)

abbrev pub no_number : At → SheetFault
no_number a = Line (Number (record { at = a }))
