-- The reading of a sheet, line by line from its first: what holds of each way in which it can end holds of its outcome.
use Rattle.std.proofs.Common.{◌≡◌, ℕ, ◌+◌, ◌<◌, true, false, ltb, List, [], ◌∷◌, ◌++◌, length, Ok, Err, Result, sym, refl, ap, ◌∙◌, subst, append_assoc, append-nil, arith, length-append}
use Rattle.std.proofs.lemmas.Bool.{cond_both, ltb-true, ltb-false}
use Rattle.sheet.proofs.Beginnings.{closed_line, length_line, split_lack, split_lack_too}
use Rattle.sheet.proofs.Ends.{EndTold, ended_told}
use Rattle.sheet.proofs.Inverts.{sheet_ok, numbers_sound, field_line_sound, places_sound, OpenTold, open_told}
use Rattle.sheet.proofs.Joins.{rejoin, rejoin_split}
use Rattle.sheet.proofs.Splits.{split_some}
use Rattle.sheet.specs.Begins.{closed, place_behind, Opening, Begun, Room, may_come, Reached, NextLine}
use Rattle.sheet.specs.Form.{Entry, places, behind, AreNumbers, NumberLine, plain, named, TaskText, Tasks, HasForm}
use Rattle.sheet.specs.Lines.{Due, start, digits_of, claim_of, entry, Outcome, stopped, or_stop, as_sheet, turn, places_after, ended, lines_after, read_from, reading}
use Rattle.sheet.specs.Names.{keyword, the_default_field}
use Rattle.sheet.specs.Reading.{spot, numbers_after, field_after, Opened, opened}
use Rattle.sheet.specs.Split.{split, AllLack, lacks}
use Rattle.sheet.specs.declared.fault.LineFault.TheVariants.{BadWord}
use Rattle.sheet.specs.declared.fault.SheetFault.{SheetFault}
use Rattle.sheet.specs.declared.fault.SheetFault.TheVariants.{Order, Line}
use Rattle.sheet.specs.declared.names.FieldName.{FieldName}
use Rattle.sheet.specs.declared.names.Keyword.{Keyword}
use Rattle.sheet.specs.declared.names.Keyword.TheVariants.{Field, Digits, Claim, Tail}

-- the words of a line with the keyword k have the fault e
abbrev pub WordsFail : Keyword → List ℕ → ℕ → ℕ → List (List ℕ) → SheetFault → Type 0
WordsFail Field ps l stop ws e = as_sheet (field_after l stop ws) ≡ Err e
WordsFail Digits ps l stop ws e = as_sheet (numbers_after l stop [] ws) ≡ Err e
WordsFail Claim ps l stop ws e = as_sheet (numbers_after l stop [] ws) ≡ Err e
WordsFail Tail ps l stop ws e = places_after l stop ps ws ≡ Err e

-- P holds of the outcome in each way in which the reading can end
pub record HoldsAtEnds (sheet : List ℕ) (P : Outcome → Type 0) : Type 0 where
  pub long : 32768 < length sheet → P (stopped [] (Order (spot 1 0)))
  pub no_line : (ts : List Entry) (due : Due) (before rest : List ℕ) → Reached sheet ts due before rest → lacks 10 rest ≡ true → P (stopped ts (Order (place_behind before)))
  pub first_word : (ts : List Entry) (due : Due) (before w : List ℕ) (ws : List (List ℕ)) (more : List ℕ) → NextLine sheet ts due before w ws more
      → ((k : Keyword) → w ≡ keyword k → ⊥) → P (stopped ts (Line (BadWord (place_behind before))))
  pub misplaced : (ts : List Entry) (due : Due) (before : List ℕ) (k : Keyword) (ws : List (List ℕ)) (more : List ℕ) → NextLine sheet ts due before (keyword k) ws more
      → may_come due (length ts) k ≡ false → P (stopped ts (Order (place_behind before)))
  pub words : (ts : List Entry) (due : Due) (before : List ℕ) (k : Keyword) (ws : List (List ℕ)) (more : List ℕ) → NextLine sheet ts due before (keyword k) ws more
      → may_come due (length ts) k ≡ true → (e : SheetFault) → WordsFail k (places ts) (closed before + 1) (length before + length (keyword k)) ws e → P (stopped ts e)
  pub goes_on : (ts : List Entry) (before : List ℕ) (ws : List (List ℕ)) (more : List ℕ) → NextLine sheet ts start before (keyword Tail) ws more
      → AreNumbers ws (places ts) → (more ≡ [] → ⊥) → P (stopped ts (Order (place_behind (before ++ ((keyword Tail ++ behind 32 ws) ++ 10 ∷ [])))))
  pub whole : (ts : List Entry) → HasForm sheet ts → P (Ok ts)

-- what holds of a result that goes on, and of one that stops, holds of what comes of it
stop_by : {X : Type 0} (P : Outcome → Type 0) (ts : List Entry) (r : Result X SheetFault) (f : X → Outcome) → ((x : X) → r ≡ Ok x → P (f x)) → ((e : SheetFault) → r ≡ Err e → P (stopped ts e)) → P (or_stop ts r f)
stop_by P ts (Ok x) f good bad = good x refl
stop_by P ts (Err e) f good bad = bad e refl

-- the text goes on behind the tasks
pub tasks_then : (b : ℕ) (ts : List Entry) (text rest : List ℕ) → Tasks b ts text [] → Tasks b ts (text ++ rest) rest
tasks_then b [] text rest none = ap (λ v. v ++ rest) none
tasks_then b (t ∷ ts) text rest (own, more, whole, place, task, h) =
    (own, more ++ rest, ap (λ v. v ++ rest) whole ∙ append_assoc own more rest, place, task, tasks_then (b + length own) ts more rest h)

-- one task more
tasks_more : (b : ℕ) (ts : List Entry) (text : List ℕ) (t : Entry) (own : List ℕ) → Tasks b ts text [] → t.byte ≡ b + length text → TaskText t own → Tasks b (ts ++ t ∷ []) (text ++ own) []
tasks_more b [] text t own none place h = (own, [], ap (λ v. v ++ own) none ∙ sym (append-nil own), place ∙ (let long = ap length none in omega arith), h, refl)
tasks_more b (u ∷ ts) text t own (first, more, whole, start_is, task, rest) place h =
    let sum = ap length whole ∙ length-append first more in
    (first, more ++ own, ap (λ v. v ++ own) whole ∙ append_assoc first more own, start_is, task, tasks_more (b + length first) ts more t own rest (omega arith) h)

module _ (sheet before s more : List ℕ) (free : lacks 10 s ≡ true) where
  abbrev after_line : List ℕ
  after_line = before ++ (s ++ 10 ∷ [])

  module _ (ts : List Entry) (due : Due) (r : Reached sheet ts due before (s ++ 10 ∷ more)) where
    -- the line is one of the task that is begun
    onward : (next : Due) → Begun (length r.tasks) next (r.begun ++ (s ++ 10 ∷ [])) → Room next (length ts) → Reached sheet ts next after_line more
    onward next lines room = record {
      short = r.short;
      whole = r.whole ∙ simp append_assoc;
      tasks = r.tasks;
      begun = r.begun ++ (s ++ 10 ∷ []);
      before_is = ap (λ v. v ++ (s ++ 10 ∷ [])) r.before_is ∙ append_assoc r.tasks r.begun (s ++ 10 ∷ []);
      body = r.body;
      lines = lines;
      room = room;
    }

    -- the line ends the task
    ends_task : (f : FieldName) (ds cs : List ℕ) → Opening f ds r.begun → NumberLine Claim s cs → length ts < 32 → Reached sheet (ts ++ entry (length r.tasks) f ds cs ∷ []) start after_line more
    ends_task f ds cs o line few =
        let own : List ℕ = r.begun ++ (s ++ 10 ∷ []) in
        record {
          short = r.short;
          whole = r.whole ∙ simp append_assoc;
          tasks = r.tasks ++ own;
          begun = [];
          before_is = ap (λ v. v ++ (s ++ 10 ∷ [])) r.before_is ∙ append_assoc r.tasks r.begun (s ++ 10 ∷ []) ∙ sym (append-nil (r.tasks ++ own));
          body = tasks_more 0 ts r.tasks (entry (length r.tasks) f ds cs) own r.body (omega arith) (record {
            naming = o.naming;
            digits = o.digits;
            claim = s;
            whole = ap (λ v. v ++ (s ++ 10 ∷ [])) o.whole ∙ simp append_assoc;
            field_line = o.field_line;
            digits_line = o.digits_line;
            claim_line = line;
          });
          lines = refl;
          room = simp length-append (omega arith);
        }

  -- the line has the keyword k and then the words ws
  record Words (k : Keyword) (ws : List (List ℕ)) : Type 0 where
    text : s ≡ keyword k ++ behind 32 ws
    no_blank : AllLack 32 (keyword k ∷ ws)
    not_closed : AllLack 10 (keyword k ∷ ws)

  next_line : (k : Keyword) (ws : List (List ℕ)) → Words k ws → (ts : List Entry) (due : Due) → Reached sheet ts due before (s ++ 10 ∷ more) → NextLine sheet ts due before (keyword k) ws more
  next_line k ws h ts due r = record { reached = subst (λ v. Reached sheet ts due before (v ++ 10 ∷ more)) h.text r; no_blank = h.no_blank; not_closed = h.not_closed }

  module _ (P : Outcome → Type 0) (all : HoldsAtEnds sheet P) where
    -- the numbers of the line lead on, or one is none
    numbers_then : (k : Keyword) (ws : List (List ℕ)) → Words k ws → (ts : List Entry) → (f : List ℕ → Outcome) → ((ns : List ℕ) → NumberLine k s ns → P (f ns))
        → ((e : SheetFault) → as_sheet (numbers_after (closed before + 1) (length before + length (keyword k)) [] ws) ≡ Err e → P (stopped ts e))
        → P (or_stop ts (as_sheet (numbers_after (closed before + 1) (length before + length (keyword k)) [] ws)) f)
    numbers_then k ws h ts f good bad =
        let read = numbers_after (closed before + 1) (length before + length (keyword k)) [] ws in
        stop_by P ts (as_sheet read) f
        (λ ns p. let t = numbers_sound (closed before + 1) (length before + length (keyword k)) [] ws ns (sheet_ok read ns p) in good ns (record { words = ws; text = h.text; numbers = subst (AreNumbers ws) (sym t.1) t.2 }))
        bad

    module _ (next : List Entry → Due → Outcome) (end : Result (Unit {0}) SheetFault)
        (ih : (ts : List Entry) (due : Due) → Reached sheet ts due after_line more → P (next ts due))
        (ih-end : EndTold (closed before + 1 + 1) (length before + length s + 1) more end) where
      tail_read : (ts : List Entry) (ws : List (List ℕ)) → Words Tail ws → Reached sheet ts start before (s ++ 10 ∷ more) → AreNumbers ws (places ts) → P (or_stop ts end (λ _. Ok ts))
      tail_read ts ws h r numbers =
          stop_by P ts end (λ _. Ok ts)
          (λ u p.
          let none : more ≡ [] = subst (EndTold (closed before + 1 + 1) (length before + length s + 1) more) p ih-end in
          let text : sheet ≡ r.tasks ++ (s ++ 10 ∷ []) = r.whole ∙ ap (λ v. v ++ (s ++ 10 ∷ more)) (r.before_is ∙ ap (λ v. r.tasks ++ v) r.lines ∙ append-nil r.tasks) ∙ ap (λ v. r.tasks ++ (s ++ 10 ∷ v)) none in
          all.whole ts (record {
            short = r.short;
            few = r.room;
            tail = s;
            body = subst (λ v. Tasks 0 ts v (s ++ 10 ∷ [])) (sym text) (tasks_then 0 ts r.tasks (s ++ 10 ∷ []) r.body);
            tail_line = record { words = ws; text = h.text; numbers = numbers };
          }))
          (λ e p.
          let t = subst (EndTold (closed before + 1 + 1) (length before + length s + 1) more) p ih-end in
          let place : e ≡ Order (place_behind (before ++ ((keyword Tail ++ behind 32 ws) ++ 10 ∷ []))) =
          t.1
          ∙ ap (λ n. Order (spot (n + 1) (length before + length s + 1))) (sym (closed_line before s free))
          ∙ ap (λ n. Order (spot (closed after_line + 1) n)) (sym (length_line before s))
          ∙ ap (λ v. Order (place_behind (before ++ (v ++ 10 ∷ [])))) h.text in
          subst (λ e. P (stopped ts e)) (sym place) (all.goes_on ts before ws more (next_line Tail ws h ts start r) numbers t.0))

      line_read : (ts : List Entry) (due : Due) (k : Keyword) (ws : List (List ℕ)) → Words k ws → Reached sheet ts due before (s ++ 10 ∷ more) → P (turn (closed before + 1) (length before) ts due next end k (length before + length (keyword k)) ws)
      line_read ts start Field ws h r =
          let l = closed before + 1 in
          let stop = length before + length (keyword Field) in
          cond_both (ltb (length ts) 32) (or_stop ts (as_sheet (field_after l stop ws)) (λ f. next ts (digits_of (length before) f))) (stopped ts (Order (spot l (length before)))) P
          (λ t.
          stop_by P ts (as_sheet (field_after l stop ws)) (λ f. next ts (digits_of (length before) f))
          (λ f p.
          let one = field_line_sound l stop ws f (sheet_ok (field_after l stop ws) f p) in
          ih ts (digits_of (length before) f)
          (onward ts start r (digits_of (length before) f)
          (ap length (r.before_is ∙ ap (λ v. r.tasks ++ v) r.lines ∙ append-nil r.tasks), ap (λ v. v ++ (s ++ 10 ∷ [])) r.lines ∙ ap (λ v. v ++ 10 ∷ []) (h.text ∙ ap (λ vs. keyword Field ++ behind 32 vs) one))
          (ltb-true _ _ t)))
          (λ e p. all.words ts start before Field ws more (next_line Field ws h ts start r) t e p))
          (λ f. all.misplaced ts start before Field ws more (next_line Field ws h ts start r) f)
      line_read ts start Digits ws h r =
          let l = closed before + 1 in
          cond_both (ltb (length ts) 32) (or_stop ts (as_sheet (numbers_after l (length before + length (keyword Digits)) [] ws)) (λ ds. next ts (claim_of (length before) the_default_field ds))) (stopped ts (Order (spot l (length before)))) P
          (λ t.
          numbers_then Digits ws h ts (λ ds. next ts (claim_of (length before) the_default_field ds))
          (λ ds line.
          ih ts (claim_of (length before) the_default_field ds)
          (onward ts start r (claim_of (length before) the_default_field ds)
          (ap length (r.before_is ∙ ap (λ v. r.tasks ++ v) r.lines ∙ append-nil r.tasks), record { naming = []; digits = s; whole = ap (λ v. v ++ (s ++ 10 ∷ [])) r.lines; field_line = plain refl refl; digits_line = line })
          (ltb-true _ _ t)))
          (λ e p. all.words ts start before Digits ws more (next_line Digits ws h ts start r) t e p))
          (λ f. all.misplaced ts start before Digits ws more (next_line Digits ws h ts start r) f)
      line_read ts start Claim ws h r = all.misplaced ts start before Claim ws more (next_line Claim ws h ts start r) refl
      line_read ts start Tail ws h r =
          let l = closed before + 1 in
          let stop = length before + length (keyword Tail) in
          stop_by P ts (places_after l stop (places ts) ws) (λ _. or_stop ts end (λ _. Ok ts))
          (λ u p. tail_read ts ws h r (places_sound l stop (places ts) ws p))
          (λ e p. all.words ts start before Tail ws more (next_line Tail ws h ts start r) refl e p)
      line_read ts (digits_of b f) Field ws h r = all.misplaced ts (digits_of b f) before Field ws more (next_line Field ws h ts (digits_of b f) r) refl
      line_read ts (digits_of b f) Digits ws h r =
          numbers_then Digits ws h ts (λ ds. next ts (claim_of b f ds))
          (λ ds line.
          ih ts (claim_of b f ds)
          (onward ts (digits_of b f) r (claim_of b f ds) (r.lines.0, record { naming = r.begun; digits = s; whole = refl; field_line = named r.lines.1; digits_line = line }) r.room))
          (λ e p. all.words ts (digits_of b f) before Digits ws more (next_line Digits ws h ts (digits_of b f) r) refl e p)
      line_read ts (digits_of b f) Claim ws h r = all.misplaced ts (digits_of b f) before Claim ws more (next_line Claim ws h ts (digits_of b f) r) refl
      line_read ts (digits_of b f) Tail ws h r = all.misplaced ts (digits_of b f) before Tail ws more (next_line Tail ws h ts (digits_of b f) r) refl
      line_read ts (claim_of b f ds) Field ws h r = all.misplaced ts (claim_of b f ds) before Field ws more (next_line Field ws h ts (claim_of b f ds) r) refl
      line_read ts (claim_of b f ds) Digits ws h r = all.misplaced ts (claim_of b f ds) before Digits ws more (next_line Digits ws h ts (claim_of b f ds) r) refl
      line_read ts (claim_of b f ds) Claim ws h r =
          numbers_then Claim ws h ts (λ cs. next (ts ++ entry b f ds cs ∷ []) start)
          (λ cs line.
          ih (ts ++ entry b f ds cs ∷ []) start
          (subst (λ n. Reached sheet (ts ++ entry n f ds cs ∷ []) start after_line more) (sym r.lines.0) (ends_task ts (claim_of b f ds) r f ds cs r.lines.1 line r.room)))
          (λ e p. all.words ts (claim_of b f ds) before Claim ws more (next_line Claim ws h ts (claim_of b f ds) r) refl e p)
      line_read ts (claim_of b f ds) Tail ws h r = all.misplaced ts (claim_of b f ds) before Tail ws more (next_line Tail ws h ts (claim_of b f ds) r) refl

parts_of : (ps : List (List ℕ)) → 0 < length ps → (w : List ℕ) × (ws : List (List ℕ)) × (ps ≡ w ∷ ws)
parts_of [] h = absurd (omega arith)
parts_of (w ∷ ws) h = (w, ws, refl)

lines_read : (sheet : List ℕ) (P : Outcome → Type 0) → HoldsAtEnds sheet P → (ls : List (List ℕ)) (before : List ℕ) (l b : ℕ) (ts : List Entry) (due : Due) → AllLack 10 ls → l ≡ closed before + 1 → b ≡ length before → Reached sheet ts due before (rejoin 10 ls) → P (lines_after l b ls ts due)
unfolding lines_after
lines_read sheet P all [] before l b ts due lack l-is b-is r = subst (λ e. P (stopped ts e)) (sym (ap (λ n. Order (spot n b)) l-is ∙ ap (λ n. Order (spot (closed before + 1) n)) b-is)) (all.no_line ts due before [] r refl)
lines_read sheet P all (s ∷ []) before l b ts due lack l-is b-is r = subst (λ e. P (stopped ts e)) (sym (ap (λ n. Order (spot n b)) l-is ∙ ap (λ n. Order (spot (closed before + 1) n)) b-is)) (all.no_line ts due before s (subst (Reached sheet ts due before) (append-nil s) r) lack.0)
lines_read sheet P all (s ∷ m ∷ ls) before l b ts due lack l-is b-is r =
    let more : List ℕ = rejoin 10 (m ∷ ls) in
    let parts = parts_of (split 32 s) (split_some 32 s) in
    let w : List ℕ = parts.0 in
    let ws : List (List ℕ) = parts.1 in
    let text : s ≡ w ++ behind 32 ws = sym (rejoin_split 32 s) ∙ ap (rejoin 32) parts.2 in
    let no_blank : AllLack 32 (w ∷ ws) = subst (AllLack 32) parts.2 (split_lack 32 s) in
    let not_closed : AllLack 10 (w ∷ ws) = subst (AllLack 10) parts.2 (split_lack_too 10 32 s lack.0) in
    let next : ℕ → ℕ → List Entry → Due → Outcome = λ l b. lines_after (l + 1) (b + length s + 1) (m ∷ ls) in
    let end : ℕ → ℕ → Result (Unit {0}) SheetFault = λ l b. ended (l + 1) (b + length s + 1) (m ∷ ls) in
    let go : ℕ → ℕ → List (List ℕ) → Outcome = λ l b ps. or_stop ts (as_sheet (opened l b ps)) (λ o. turn l b ts due (next l b) (end l b) o.keyword o.stop o.words) in
    let l0 : ℕ = closed before + 1 in
    let b0 : ℕ = length before in
    let here : P (go l0 b0 (w ∷ ws)) =
    stop_by P ts (as_sheet (opened l0 b0 (w ∷ ws))) (λ o. turn l0 b0 ts due (next l0 b0) (end l0 b0) o.keyword o.stop o.words)
    (λ o p.
    let t = subst (OpenTold l0 b0 w ws) p (open_told l0 b0 w ws) in
    let k : Keyword = t.0 in
    subst (λ (o : Opened). P (turn l0 b0 ts due (next l0 b0) (end l0 b0) o.keyword o.stop o.words)) (sym t.2)
    (line_read sheet before s more lack.0 P all (next l0 b0) (end l0 b0)
    (λ us d reached. lines_read sheet P all (m ∷ ls) (before ++ (s ++ 10 ∷ [])) (l0 + 1) (b0 + length s + 1) us d lack.1 (let c = closed_line before s lack.0 in omega arith) (sym (length_line before s)) reached)
    (ended_told (l0 + 1) (b0 + length s + 1) m ls)
    ts due k ws
    (record { text = text ∙ ap (λ v. v ++ behind 32 ws) t.1; no_blank = subst (λ v. AllLack 32 (v ∷ ws)) t.1 no_blank; not_closed = subst (λ v. AllLack 10 (v ∷ ws)) t.1 not_closed })
    r))
    (λ e p.
    let t = subst (OpenTold l0 b0 w ws) p (open_told l0 b0 w ws) in
    subst (λ e. P (stopped ts e)) (sym t.1)
    (all.first_word ts due before w ws more (record { reached = subst (λ v. Reached sheet ts due before (v ++ 10 ∷ more)) text r; no_blank = no_blank; not_closed = not_closed }) t.0)) in
    subst (λ n. P (go n b (split 32 s))) (sym l-is)
    (subst (λ n. P (go l0 n (split 32 s))) (sym b-is)
    (subst (λ ps. P (go l0 b0 ps)) (sym parts.2) here))

pub holds_at_all : (sheet : List ℕ) (P : Outcome → Type 0) → HoldsAtEnds sheet P → P (reading sheet)
holds_at_all sheet P all =
    cond_both (ltb 32768 (length sheet)) (stopped [] (Order (spot 1 0))) (read_from sheet 1 0 [] start) P
    (λ t. all.long (ltb-true _ _ t))
    (λ f.
    lines_read sheet P all (split 10 sheet) [] 1 0 [] start (split_lack 10 sheet) refl refl
    (record {
      short = ltb-false _ _ f;
      whole = sym (rejoin_split 10 sheet);
      tasks = [];
      begun = [];
      before_is = refl;
      body = refl;
      lines = refl;
      room = omega arith;
    }))
