use Rattle.massey.proofs.Strings.{bounds}
use Rattle.massey.proofs.theorems.state_bounds.Goals as goal

pub returns : goal.returns
returns c = bounds
