use Rattle.std.proofs.Common.{rules}
use Rattle.synthesis.proofs.Promise.{sound_found}
use Rattle.synthesis.proofs.analyser.Analyser.report.Goals as goal

pub returns-clause-found : goal.returns-clause-found
returns-clause-found g c x =
    sound_found _ c.args.self.now.state x _ c.args.cells.now c.show.new.cells c.args.others.now c.other.new.cells (search rules)
