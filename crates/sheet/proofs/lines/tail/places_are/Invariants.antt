use Rattle.sheet.proofs.Noted.{Found}
use Rattle.sheet.proofs.lines.tail.places_are.Given as goal

abbrev pub invariant-loop-place : goal.invariant-loop-place
invariant-loop-place l = Found l.initial.words l.places l.place-index l.words
