use Rattle.massey.proofs.Strings.{shortest}
use Rattle.massey.proofs.theorems.shortest_register.Goals as goal

pub returns : goal.returns
returns c = shortest
