use Rattle.massey.proofs.Expects.{expects}
use Rattle.massey.proofs.theorems.expected_digit.Goals as goal

pub returns : goal.returns
returns c = expects
