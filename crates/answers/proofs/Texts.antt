-- The lines of a list of answers, one more at a time. Assumes nothing.
use Rattle.std.proofs.Common.{◌≡◌, ℕ, zero, suc, ◌+◌, ◌<◌, List, [], ◌∷◌, ◌++◌, length, get_or, take, sym, ap, ◌∙◌, append_assoc, append-nil, add-one, arith}
use Rattle.answers.specs.Answers.{Answer}
use Rattle.answers.specs.Text.{line_text, tasks_text}

lines_more : (n i : ℕ) (list : List Answer) (d : Answer) → i < length list → tasks_text n (take (suc i) list) ≡ tasks_text n (take i list) ++ (line_text (n + i) (get_or list i d) ++ 10 ∷ [])
lines_more n i [] d h = absurd (omega arith)
lines_more n zero (a ∷ list) d h = append-nil _ ∙ ap (λ k. line_text k a ++ 10 ∷ []) (omega arith)
lines_more n (suc i) (a ∷ list) d h =
    ap (λ t. (line_text n a ++ 10 ∷ []) ++ t) (lines_more (n + 1) i list d (omega arith) ∙ ap (λ k. tasks_text (n + 1) (take i list) ++ (line_text k (get_or list i d) ++ 10 ∷ [])) (omega arith))
    ∙ sym (append_assoc (line_text n a ++ 10 ∷ []) (tasks_text (n + 1) (take i list)) (line_text (n + suc i) (get_or list i d) ++ 10 ∷ []))

pub tasks_more : (i : ℕ) (list : List Answer) (d : Answer) → i < length list → tasks_text 1 (take (i + 1) list) ≡ tasks_text 1 (take i list) ++ (line_text (i + 1) (get_or list i d) ++ 10 ∷ [])
tasks_more i list d h =
    ap (λ k. tasks_text 1 (take k list)) (add-one i)
    ∙ lines_more 1 i list d h
    ∙ ap (λ k. tasks_text 1 (take i list) ++ (line_text k (get_or list i d) ++ 10 ∷ [])) (omega arith)
