use Rattle.synthesis.specs.Joins.{Joined}
use Rattle.synthesis.proofs.other.join_taps.Given as goal

abbrev pub invariant-loop-i : goal.invariant-loop-i
invariant-loop-i g l = Joined (g.F.Field.means l.field) l.c l.b l.shift l.i l.taps
