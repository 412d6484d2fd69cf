use Rattle.massey.proofs.Expects.{expects}
use Rattle.synthesis.proofs.Joining.{joined_are}
use Rattle.synthesis.proofs.Promise.{sound_promised, sound_rival}
use Rattle.synthesis.proofs.Shows.{expected_is, taps_are}
use Rattle.synthesis.proofs.Soundness.{sound_laws, sound_digits, length_is, shift_is, count_is}
use Rattle.synthesis.specs.Kept.{kept}
use Rattle.synthesis.proofs.analyser.Analyser.steps_known.Goals as goal

pub returns : goal.returns
returns g c x =
    let m = g.F.Field.means c.args.self.now.field in
    let st = c.args.self.now.state in
    record {
      length_is = length_is m st x;
      shift_is = shift_is m st x;
      count_is = count_is m st x;
      register = taps_are m st x;
      promised = sound_promised m st x;
      next = expected_is m st x;
      expected = expects m (sound_laws m st x) (kept st) (sound_digits m st x);
      other = joined_are m st x;
      rival = sound_rival m st x;
    }
