-- The reading and the form agree. Assumes nothing.
use Rattle.std.proofs.Common.{ℕ, List, sym, ◌∙◌}
use Rattle.sheet.proofs.Complete.{complete}
use Rattle.sheet.proofs.Inverts.{no_err, same_ok}
use Rattle.sheet.proofs.Sound.{sound, begun}
use Rattle.sheet.specs.Exact.{ReadsExactly}
use Rattle.sheet.specs.Lines.{Stopped}

pub reads_exactly : (bytes : List ℕ) → ReadsExactly bytes
reads_exactly bytes = record {
  sound = sound bytes;
  complete = complete bytes;
  only = λ ts us h k. same_ok {E = Stopped} ts us (sym (complete bytes ts h) ∙ complete bytes us k);
  refused = λ s p ts h. no_err s ts (sym p ∙ complete bytes ts h);
  begun = begun bytes;
}
