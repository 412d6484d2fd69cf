use Rattle.std.proofs.Common.{◌≡◌, take}
use Rattle.synthesis.specs.Kept.{kept}
use Rattle.synthesis.specs.Runs.{performed}
use Rattle.synthesis.specs.Sound.{Sound}
use Rattle.synthesis.proofs.analyser.Analyser.perform.Given as goal

abbrev pub invariant-loop-call : goal.invariant-loop-call
invariant-loop-call g l =
    (l.self.field ≡ l.initial.self.field)
    × (kept l.self.state ≡ performed (g.F.Field.means l.initial.self.field).order (kept l.initial.self.state) (take l.call-index l.calls))
    × (g.F.Field.made l.initial.self.field → Sound (g.F.Field.means l.initial.self.field) l.initial.self.state → Sound (g.F.Field.means l.initial.self.field) l.self.state)
