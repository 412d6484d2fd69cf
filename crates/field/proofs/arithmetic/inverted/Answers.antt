use Rattle.std.proofs.Common.{◌∙◌}
use Rattle.field.proofs.Unique.{inverts_is}
use Rattle.field.proofs.arithmetic.inverted.Goals as goal

pub returns : goal.returns
returns g c = λ made. c.unwrap_or.ensures ∙ inverts_is _ (g.met.F.Field.lawful _ made) c.args.a c.invert.result (c.invert.ensures made)
