use Rattle.marking.proofs.Judging.{one_verdict}
use Rattle.marking.proofs.marks.one_verdict.Goals as goal

pub returns : goal.returns
returns c = one_verdict
