use Rattle.std.proofs.Common.{◌≡◌, ◌^◌, ◌<◌, drop}
use Rattle.sheet.specs.Numeral.{figures_after}
use Rattle.sheet.proofs.numeral.figures.Given as goal

abbrev pub invariant-loop-b : goal.invariant-loop-b
invariant-loop-b l = (l.value < 10 ^ l.b-index) × (figures_after 0 l.word ≡ figures_after l.value (drop l.b-index l.word))
