use Rattle.register.proofs.Cells.{zeros}
use Rattle.register.proofs.register.Register.new.Goals as goal

pub invariant_of-result-clause-zero : goal.invariant_of-result-clause-zero
invariant_of-result-clause-zero c = λ i h. zeros 256 i
