use Rattle.known_answers.proofs.Computed.{all_known}
use Rattle.known_answers.proofs.theorem.known_answers.Goals as goal

pub returns : goal.returns
returns c = all_known
