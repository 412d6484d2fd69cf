use Rattle.std.proofs.Common.{◌≡◌, length}
use Rattle.sheet.specs.Views.{noted, unread}
use Rattle.answers.proofs.Steps.{SoFar}
use Rattle.answers.proofs.sheets.answer_tasks.Given as goal

abbrev pub invariant-loop-answers : goal.invariant-loop-answers
invariant-loop-answers l =
    (SoFar l.sheet l.reader (noted l.places) l.answers) × (length l.answers ≡ length (noted l.places)) × (length l.scratch ≡ 771)

abbrev pub decreases-loop-answers : goal.decreases-loop-answers
decreases-loop-answers l = unread l.reader
