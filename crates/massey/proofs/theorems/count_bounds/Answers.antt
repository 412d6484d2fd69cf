use Rattle.massey.proofs.Count.{count_within}
use Rattle.massey.proofs.theorems.count_bounds.Goals as goal

pub returns : goal.returns
returns c = count_within
