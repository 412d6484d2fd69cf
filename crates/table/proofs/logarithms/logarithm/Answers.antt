use Rattle.std.proofs.Common.{get_or, ap, ◌∙◌, arith}
use Rattle.table.specs.Exponents.{logarithm_at, logarithm_lt}
use Rattle.table.proofs.logarithms.logarithm.Goals as goal

pub returns-clause-within : goal.returns-clause-within
returns-clause-within c =
    let a = c.args.a in
    omega (arith, ap (λ xs. get_or xs a 0) c.logarithms.ensures ∙ logarithm_at a (omega arith), logarithm_lt a c.requires (omega arith))
