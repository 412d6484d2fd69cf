use Rattle.std.proofs.Common.{refl, ◌∙◌, arith}
use Rattle.synthesis.proofs.Soundness.{push_sound, push_discrepancy, length_is}
use Rattle.synthesis.proofs.Tracking.{step_tracks}
use Rattle.synthesis.proofs.analyser.Analyser.push.Goals as goal

pub returns-clause-sound : goal.returns-clause-sound
returns-clause-sound g c made h x =
    let st = c.args.self.now.state in
    let r = c.step.ensures in
    push_sound st c.args.s (omega arith) _ refl r.taken _ x h
    (λ t. step_tracks _ (g.met.F.Field.lawful _ made).ring _ _ _ st.progress t (omega arith) (omega arith) c.step.result _ _ _ (r.stepped made) r.held.size)

pub returns-clause-discrepancy : goal.returns-clause-discrepancy
returns-clause-discrepancy g c made x =
    (c.step.ensures.stepped made).discrepancy ∙ push_discrepancy c.args.self.now.state c.args.s (omega arith) _ x

pub returns-clause-length : goal.returns-clause-length
returns-clause-length g c made h x = length_is _ _ (returns-clause-sound g c made h x)
