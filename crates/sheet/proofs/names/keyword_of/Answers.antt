use Rattle.std.proofs.Common.{◌≡◌, codes, refl, arith}
use Rattle.std.proofs.lemmas.Slice.Eq.{text_from_reads}
use Rattle.sheet.proofs.names.keyword_of.Goals as goal

-- six bytes are more than the tactics try
pub returns-in-digits : goal.returns-in-digits
returns-in-digits c =
    let text : c.args.word.now ≡ codes "digits" = text_from_reads _ (codes "digits") (omega arith) (omega arith, (omega arith, (omega arith, (omega arith, (omega arith, (omega arith, tt)))))) in
    rw text refl
