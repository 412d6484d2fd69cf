-- The number of each fault, and what is written of it. Assumes nothing.
--   fault_at n l a   the fault with this number, layer and place
--   fault_of e       8 no number; 9 a word that its line cannot have; 10 a line that the sheet cannot have there; 11 a false place
--   layer_word_of l  the word for a layer
--   fault_text f     `fault`, number, layer, line and byte
use Rattle.std.specs.Prelude.{ℕ, List, ◌++◌, codes, decimal}
use Rattle.sheet.specs.declared.fault.At.{At}
use Rattle.sheet.specs.declared.fault.Fault.{Fault}
use Rattle.sheet.specs.declared.fault.Layer.{Layer}
use Rattle.sheet.specs.declared.fault.Layer.TheVariants.{Number as InNumber, Line as InLine, Sheet as InSheet}
use Rattle.sheet.specs.declared.fault.LineFault.TheVariants.{BadWord, Number}
use Rattle.sheet.specs.declared.fault.SheetFault.{SheetFault}
use Rattle.sheet.specs.declared.fault.SheetFault.TheVariants.{Order, Place, Line}

abbrev pub fault_at : ℕ → Layer → At → Fault
fault_at n l a = record { number = n; layer = l; line = a.line; byte = a.byte }

abbrev pub fault_of : SheetFault → Fault
fault_of (Line (Number e)) = fault_at 8 InNumber e.at
fault_of (Line (BadWord a)) = fault_at 9 InLine a
fault_of (Order a) = fault_at 10 InSheet a
fault_of (Place a) = fault_at 11 InSheet a

abbrev pub layer_word_of : Layer → List ℕ
layer_word_of InNumber = codes "number"
layer_word_of InLine = codes "line"
layer_word_of InSheet = codes "sheet"

abbrev pub fault_text : Fault → List ℕ
fault_text f = codes "fault " ++ (decimal f.number ++ (codes " " ++ (layer_word_of f.layer ++ (codes " " ++ (decimal f.line ++ (codes " " ++ decimal f.byte))))))
