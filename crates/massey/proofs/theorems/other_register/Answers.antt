use Rattle.massey.proofs.Strings.{other}
use Rattle.massey.proofs.theorems.other_register.Goals as goal

pub returns : goal.returns
returns c = other
