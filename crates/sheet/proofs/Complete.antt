-- What has the form is read.
use Rattle.std.proofs.Common.{◌≡◌, ℕ, ◌+◌, List, [], ◌∷◌, ◌++◌, length, Ok, sym, refl, ap, ◌∙◌, append_assoc, append-nil, arith}
use Rattle.sheet.proofs.Inverts.{places_complete}
use Rattle.sheet.proofs.Joins.{numbers_lack}
use Rattle.sheet.proofs.Reaches.{line_forward, reached_reads}
use Rattle.sheet.specs.Begins.{closed}
use Rattle.sheet.specs.Form.{Entry, places, NumberLine, Tasks, HasForm}
use Rattle.sheet.specs.Lines.{start, or_stop, lines_after, reading}
use Rattle.sheet.specs.Names.{keyword}
use Rattle.sheet.specs.Split.{split}
use Rattle.sheet.specs.declared.names.Keyword.TheVariants.{Tail}

-- the text of the tasks, without what follows
parted : (b : ℕ) (ts : List Entry) (text rest : List ℕ) → Tasks b ts text rest → (front : List ℕ) × (text ≡ front ++ rest) × Tasks b ts front []
parted b [] text rest h = ([], h, refl)
parted b (t ∷ ts) text rest (own, more, whole, place, task, h) =
    let p = parted (b + length own) ts more rest h in
    (own ++ p.0, whole ∙ ap (λ v. own ++ v) p.1 ∙ sym (append_assoc own p.0 rest), (own, p.0, refl, place, task, p.2))

tail_forward : (l b : ℕ) (tail : List ℕ) (ts : List Entry) → NumberLine Tail tail (places ts) → lines_after l b (split 10 (tail ++ 10 ∷ [])) ts start ≡ Ok ts
tail_forward l b tail ts h =
    line_forward l b Tail h.words tail [] ts start h.text (numbers_lack 32 h.words (places ts) (omega arith) h.numbers) (numbers_lack 10 h.words (places ts) (omega arith) h.numbers)
    ∙ ap (λ r. or_stop ts r (λ _. Ok ts)) (places_complete l (b + length (keyword Tail)) (places ts) h.words h.numbers)

pub complete : (bytes : List ℕ) (tasks : List Entry) → HasForm bytes tasks → reading bytes ≡ Ok tasks
complete bytes tasks h =
    let p = parted 0 tasks bytes (h.tail ++ 10 ∷ []) h.body in
    reached_reads bytes tasks start p.0 (h.tail ++ 10 ∷ []) (record {
      short = h.short;
      whole = p.1;
      tasks = p.0;
      begun = [];
      before_is = sym (append-nil p.0);
      body = p.2;
      lines = refl;
      room = h.few;
    })
    ∙ tail_forward (closed p.0 + 1) (length p.0) h.tail tasks h.tail_line
