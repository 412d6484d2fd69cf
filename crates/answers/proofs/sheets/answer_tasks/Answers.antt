use Rattle.std.proofs.Common.{arith, rules}
use Rattle.std.proofs.lemmas.Bool.{MatchBool-at_true, MatchBool-at_false}
use Rattle.std.proofs.lemmas.Result.{err_from_is_err_and}
use Rattle.answers.proofs.Steps.{push_long, so_far_more, so_far_good, so_far_faulty}
use Rattle.answers.proofs.sheets.answer_tasks.Goals as goal

pub loop-answers-preserved : goal.loop-answers-preserved
loop-answers-preserved c =
    let next = MatchBool-at_true _ _ c.if-branch.true c.in_ok-read_task.ensures.read in (
      so_far_more _ _ _ _ _ _ _ _ _ c.loop-answers.invariant.0 next c.answer_task.ensures c.push.ensures,
      omega (arith, push_long _ _ _ next.place, push_long _ _ _ c.push.ensures, c.loop-answers.invariant.1),
      search rules,
    )

pub returns : goal.returns
returns c = so_far_good _ _ _ _ _ c.loop-answers.invariant.0 (MatchBool-at_false _ _ c.if-branch.false c.in_ok-read_task.ensures.read)

pub returns-in_err-read_task : goal.returns-in_err-read_task
returns-in_err-read_task c =
    let p = err_from_is_err_and c.from_residual.result c.from_residual.ensures.1 in
    rw (p.1, p.2) (so_far_faulty _ _ _ _ _ _ c.loop-answers.invariant.0 c.in_err-read_task.ensures.read)
