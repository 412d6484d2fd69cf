use Rattle.massey.proofs.Shortest.{another_shortest}
use Rattle.massey.proofs.theorems.another_shortest.Goals as goal

pub returns : goal.returns
returns c = another_shortest
