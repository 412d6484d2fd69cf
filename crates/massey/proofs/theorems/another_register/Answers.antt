use Rattle.massey.proofs.Shortest.{another_register}
use Rattle.massey.proofs.theorems.another_register.Goals as goal

pub returns : goal.returns
returns c = another_register
