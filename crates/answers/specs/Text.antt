-- The lines of output. Assumes nothing.
--   line_text n a         the line of task n: its number, the verdict, the shortest length, the count and the detail; or its number, `refused`, the refusal's number, 0 and 0
--   tasks_text n list     the lines of a list of answers, each closed by byte 10; the first is that of task n
use Rattle.std.specs.Prelude.{ℕ, ◌+◌, List, [], ◌∷◌, ◌++◌, codes, decimal, Ok, Err}
use Rattle.field.specs.Refusals.{refusal_number}
use Rattle.marking.specs.Verdicts.{detail, verdict_word_of}
use Rattle.answers.specs.Answers.{Answer}

abbrev pub line_text : ℕ → Answer → List ℕ
line_text n (Ok k) =
    decimal n ++ (codes " " ++ (verdict_word_of k.verdict ++ (codes " " ++ (decimal k.length ++ (codes " " ++ (decimal k.count ++ (codes " " ++ decimal (detail k.verdict))))))))
line_text n (Err e) = decimal n ++ (codes " refused " ++ (decimal (refusal_number e) ++ codes " 0 0"))

abbrev pub tasks_text : ℕ → List Answer → List ℕ
tasks_text n [] = []
tasks_text n (a ∷ rest) = (line_text n a ++ 10 ∷ []) ++ tasks_text (n + 1) rest
