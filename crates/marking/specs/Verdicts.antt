-- The verdicts on a claim. Assumes nothing.
--   verdict_number v   1 wrong, 2 long, 3 only, 4 several
--   detail v           the broken place, the excess, or 0
--   verdict_word_of v  the word for it
use Rattle.std.specs.Prelude.{ℕ, List, codes}
use Rattle.marking.specs.declared.verdict.Verdict.{Verdict}
use Rattle.marking.specs.declared.verdict.Verdict.TheVariants.{Wrong, Long, Only, Several}

abbrev pub verdict_number : Verdict → ℕ
verdict_number (Wrong place) = 1
verdict_number (Long excess) = 2
verdict_number Only = 3
verdict_number Several = 4

abbrev pub detail : Verdict → ℕ
detail (Wrong place) = place
detail (Long excess) = excess
detail Only = 0
detail Several = 0

abbrev pub verdict_word_of : Verdict → List ℕ
verdict_word_of (Wrong place) = codes "wrong"
verdict_word_of (Long excess) = codes "long"
verdict_word_of Only = codes "only"
verdict_word_of Several = codes "several"
