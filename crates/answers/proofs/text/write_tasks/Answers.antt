use Rattle.std.proofs.Common.{sym, refl, ap}
use Rattle.std.proofs.Output.{writes_in_calls_nil, has_written_append, has_written_of_eq}
use Rattle.std.proofs.lemmas.List.{take_all}
use Rattle.answers.specs.Text.{tasks_text}
use Rattle.answers.proofs.Texts.{tasks_more}
use Rattle.answers.proofs.text.write_tasks.Goals as goal

pub loop-i-init : goal.loop-i-init
loop-i-init g c = λ p. record { wrote = writes_in_calls_nil _ _; plain = p }

pub loop-i-preserved : goal.loop-i-preserved
loop-i-preserved g c = λ p.
    let sofar = c.loop-i.invariant p in
    has_written_of_eq _ _ _ _ _ (sym (tasks_more c.loop-i.i c.args.answers.now _ c.loop-i-test.true))
    (has_written_append _ _ _ _ _ _ sofar (c.in_ok-writeln.ensures.writes sofar.plain refl))

pub returns : goal.returns
returns g c = λ p q. has_written_of_eq _ _ _ _ _ (ap (tasks_text 1) (take_all c.loop-i.i c.args.answers.now c.loop-i-test.false)) (c.loop-i.invariant p)
