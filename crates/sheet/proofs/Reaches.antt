-- What is in order is read.
use Rattle.std.proofs.Common.{◌≡◌, ℕ, ◌+◌, ◌<◌, ◌≤◌, true, ltb, List, [], ◌∷◌, ◌++◌, length, Result, sym, refl, ap, ◌∙◌, subst, append_assoc, append-nil, arith, length-append}
use Rattle.std.proofs.lemmas.Bool.{cond-true, cond-false, lt-ltb, le-ltb}
use Rattle.sheet.proofs.Beginnings.{closed_append, closed_line}
use Rattle.sheet.specs.Begins.{naming_line, closed, Begun, Room, Reached}
use Rattle.sheet.proofs.Cuts.{lines_step, not_last}
use Rattle.sheet.proofs.Inverts.{numbers_complete, field_line_complete, opened_complete}
use Rattle.sheet.proofs.Joins.{lacks_append, lacks_behind, numbers_lack, split_cut, split_behind}
use Rattle.sheet.proofs.Known.{keyword_is, name_is}
use Rattle.sheet.specs.Form.{Entry, behind, NumberLine, Naming, plain, named, TaskText, Tasks}
use Rattle.sheet.specs.Lines.{Due, start, digits_of, claim_of, entry, Outcome, stopped, or_stop, as_sheet, turn, ended, lines_after, reading}
use Rattle.sheet.specs.Names.{keyword, field_name_of, the_default_field}
use Rattle.sheet.specs.Reading.{spot, Opened, opened}
use Rattle.sheet.specs.Split.{split, AllLack, lacks}
use Rattle.sheet.specs.declared.fault.SheetFault.{SheetFault}
use Rattle.sheet.specs.declared.fault.SheetFault.TheVariants.{Order}
use Rattle.sheet.specs.declared.names.FieldName.{FieldName}
use Rattle.sheet.specs.declared.names.Keyword.{Keyword}
use Rattle.sheet.specs.declared.names.Keyword.TheVariants.{Field, Digits, Claim}

-- one line
pub line_forward : (l b : ℕ) (k : Keyword) (ws : List (List ℕ)) (s more : List ℕ) (ts : List Entry) (due : Due) → s ≡ keyword k ++ behind 32 ws → AllLack 32 ws → AllLack 10 ws → lines_after l b (split 10 (s ++ 10 ∷ more)) ts due ≡ turn l b ts due (lines_after (l + 1) (b + length s + 1) (split 10 more)) (ended (l + 1) (b + length s + 1) (split 10 more)) k (b + length (keyword k)) ws
line_forward l b k ws s more ts due e no32 no10 =
    let after_open : Opened → Outcome = λ o. turn l b ts due (lines_after (l + 1) (b + length s + 1) (split 10 more)) (ended (l + 1) (b + length s + 1) (split 10 more)) o.keyword o.stop o.words in
    let free : lacks 10 s ≡ true = ap (lacks 10) e ∙ lacks_append 10 (keyword k) (behind 32 ws) (keyword_is k).1 (lacks_behind 10 32 ws (λ e. omega arith) no10) in
    let words : split 32 s ≡ keyword k ∷ ws = ap (split 32) e ∙ split_behind 32 (keyword k) ws (keyword_is k).0 no32 in
    ap (λ ps. lines_after l b ps ts due) (split_cut 10 s more free)
    ∙ lines_step l b s (split 10 more) ts due
    ∙ ap (λ r. or_stop ts r after_open) (not_last l b s 10 more ∙ ap (λ ps. as_sheet (opened l b ps)) words ∙ ap as_sheet (opened_complete l b k ws))

-- from the byte b on the text is read, and leads from one state to another
abbrev Reads : ℕ → List ℕ → List Entry → Due → List Entry → Due → Type 0
Reads b text ts due us next = (l : ℕ) (more : List ℕ) → lines_after l b (split 10 (text ++ more)) ts due ≡ lines_after (l + closed text) (b + length text) (split 10 more) us next

reads_none : (b : ℕ) (text : List ℕ) (ts : List Entry) (due : Due) → text ≡ [] → Reads b text ts due ts due
reads_none b text ts due e l more =
    ap (λ t. lines_after l b (split 10 (t ++ more)) ts due) e
    ∙ ap (λ n. lines_after n b (split 10 more) ts due) (let none = ap closed e in omega arith)
    ∙ ap (λ n. lines_after (l + closed text) n (split 10 more) ts due) (let none = ap length e in omega arith)

reads_then : (b : ℕ) (t u : List ℕ) (ts ts1 ts2 : List Entry) (due due1 due2 : Due) → Reads b t ts due ts1 due1 → Reads (b + length t) u ts1 due1 ts2 due2 → Reads b (t ++ u) ts due ts2 due2
reads_then b t u ts ts1 ts2 due due1 due2 one two l more =
    ap (λ v. lines_after l b (split 10 v) ts due) (append_assoc t u more)
    ∙ one l (u ++ more)
    ∙ two (l + closed t) more
    ∙ ap (λ n. lines_after n (b + length t + length u) (split 10 more) ts2 due2) (let sum = closed_append t u in omega arith)
    ∙ ap (λ n. lines_after (l + closed (t ++ u)) n (split 10 more) ts2 due2) (let sum = length-append t u in omega arith)

reads_line : (b : ℕ) (k : Keyword) (ws : List (List ℕ)) (s : List ℕ) (ts us : List Entry) (due next : Due) → s ≡ keyword k ++ behind 32 ws → AllLack 32 ws → AllLack 10 ws
    → ((l : ℕ) (go : List Entry → Due → Outcome) (end : Result (Unit {0}) SheetFault) → turn l b ts due go end k (b + length (keyword k)) ws ≡ go us next) → Reads b (s ++ 10 ∷ []) ts due us next
reads_line b k ws s ts us due next e no32 no10 leads l more =
    let free : lacks 10 s ≡ true = ap (lacks 10) e ∙ lacks_append 10 (keyword k) (behind 32 ws) (keyword_is k).1 (lacks_behind 10 32 ws (λ e. omega arith) no10) in
    ap (λ v. lines_after l b (split 10 v) ts due) (append_assoc s (10 ∷ []) more)
    ∙ line_forward l b k ws s more ts due e no32 no10
    ∙ leads l (lines_after (l + 1) (b + length s + 1) (split 10 more)) (ended (l + 1) (b + length s + 1) (split 10 more))
    ∙ ap (λ n. lines_after n (b + length s + 1) (split 10 more) us next) (let one = closed_line [] s free in omega arith)
    ∙ ap (λ n. lines_after (l + closed (s ++ 10 ∷ [])) n (split 10 more) us next) (let long = length-append s (10 ∷ []) in omega arith)

reads_numbers : (b : ℕ) (k : Keyword) (s ns : List ℕ) (ts us : List Entry) (due next : Due) (h : NumberLine k s ns)
    → ((l : ℕ) (go : List Entry → Due → Outcome) (end : Result (Unit {0}) SheetFault) → turn l b ts due go end k (b + length (keyword k)) h.words ≡ go us next) → Reads b (s ++ 10 ∷ []) ts due us next
reads_numbers b k s ns ts us due next h leads = reads_line b k h.words s ts us due next h.text (numbers_lack 32 h.words ns (omega arith) h.numbers) (numbers_lack 10 h.words ns (omega arith) h.numbers) leads

reads_field : (b : ℕ) (f : FieldName) (ts : List Entry) → length ts < 32 → Reads b (naming_line f ++ 10 ∷ []) ts start ts (digits_of b f)
reads_field b f ts few =
    reads_line b Field (field_name_of f ∷ []) (naming_line f) ts ts start (digits_of b f) refl ((name_is f).0, tt) ((name_is f).1, tt)
    (λ l go end. cond-true (ltb (length ts) 32) _ (stopped ts (Order (spot l b))) (lt-ltb _ _ few)
    ∙ ap (λ r. or_stop ts (as_sheet r) (λ f. go ts (digits_of b f))) (field_line_complete l (b + length (keyword Field)) f))

reads_digits : (b b0 : ℕ) (f : FieldName) (s ds : List ℕ) (ts : List Entry) → NumberLine Digits s ds → Reads b (s ++ 10 ∷ []) ts (digits_of b0 f) ts (claim_of b0 f ds)
reads_digits b b0 f s ds ts h =
    reads_numbers b Digits s ds ts ts (digits_of b0 f) (claim_of b0 f ds) h
    (λ l go end. ap (λ r. or_stop ts (as_sheet r) (λ ds. go ts (claim_of b0 f ds))) (numbers_complete l (b + length (keyword Digits)) [] h.words ds h.numbers))

reads_plain : (b : ℕ) (s ds : List ℕ) (ts : List Entry) → length ts < 32 → NumberLine Digits s ds → Reads b (s ++ 10 ∷ []) ts start ts (claim_of b the_default_field ds)
reads_plain b s ds ts few h =
    reads_numbers b Digits s ds ts ts start (claim_of b the_default_field ds) h
    (λ l go end. cond-true (ltb (length ts) 32) _ (stopped ts (Order (spot l b))) (lt-ltb _ _ few)
    ∙ ap (λ r. or_stop ts (as_sheet r) (λ ds. go ts (claim_of b the_default_field ds))) (numbers_complete l (b + length (keyword Digits)) [] h.words ds h.numbers))

reads_claim : (b b0 : ℕ) (f : FieldName) (ds s cs : List ℕ) (ts : List Entry) → NumberLine Claim s cs → Reads b (s ++ 10 ∷ []) ts (claim_of b0 f ds) (ts ++ entry b0 f ds cs ∷ []) start
reads_claim b b0 f ds s cs ts h =
    reads_numbers b Claim s cs ts (ts ++ entry b0 f ds cs ∷ []) (claim_of b0 f ds) start h
    (λ l go end. ap (λ r. or_stop ts (as_sheet r) (λ cs. go (ts ++ entry b0 f ds cs ∷ []) start)) (numbers_complete l (b + length (keyword Claim)) [] h.words cs h.numbers))

reads_named : (b : ℕ) (f : FieldName) (naming s ds : List ℕ) (ts : List Entry) → length ts < 32 → Naming f naming → NumberLine Digits s ds → Reads b (naming ++ (s ++ 10 ∷ [])) ts start ts (claim_of b f ds)
reads_named b f naming s ds ts few (plain none is) h =
    subst (λ f. Reads b (naming ++ (s ++ 10 ∷ [])) ts start ts (claim_of b f ds)) (sym is)
    (subst (λ t. Reads b (t ++ (s ++ 10 ∷ [])) ts start ts (claim_of b the_default_field ds)) (sym none) (reads_plain b s ds ts few h))
reads_named b f naming s ds ts few (named line) h =
    subst (λ t. Reads b (t ++ (s ++ 10 ∷ [])) ts start ts (claim_of b f ds)) (sym line)
    (reads_then b (naming_line f ++ 10 ∷ []) (s ++ 10 ∷ []) ts ts ts start (digits_of b f) (claim_of b f ds) (reads_field b f ts few) (reads_digits _ b f s ds ts h))

reads_task : (b : ℕ) (t : Entry) (own : List ℕ) (ts : List Entry) → length ts < 32 → t.byte ≡ b → TaskText t own → Reads b own ts start (ts ++ t ∷ []) start
reads_task b t own ts few place h =
    let opening : List ℕ = h.naming ++ (h.digits ++ 10 ∷ []) in
    let is : entry b t.field t.digits t.claim ≡ t = ap (λ n. entry n t.field t.digits t.claim) (sym place) in
    let text : own ≡ opening ++ (h.claim ++ 10 ∷ []) = h.whole ∙ simp append_assoc in
    subst (λ v. Reads b v ts start (ts ++ t ∷ []) start) (sym text)
    (subst (λ e. Reads b (opening ++ (h.claim ++ 10 ∷ [])) ts start (ts ++ e ∷ []) start) is
    (reads_then b opening (h.claim ++ 10 ∷ []) ts ts _ start (claim_of b t.field t.digits) start
    (reads_named b t.field h.naming h.digits t.digits ts few h.field_line h.digits_line)
    (reads_claim _ b t.field t.digits h.claim t.claim ts h.claim_line)))

reads_tasks : (b : ℕ) (new : List Entry) (text : List ℕ) (ts : List Entry) → length (ts ++ new) ≤ 32 → Tasks b new text [] → Reads b text ts start (ts ++ new) start
reads_tasks b [] text ts few h = subst (λ us. Reads b text ts start us start) (sym (append-nil ts)) (reads_none b text ts start h)
reads_tasks b (t ∷ new) text ts few (own, more, whole, place, task, rest) =
    let room : length ts < 32 = omega (arith, simp length-append at few) in
    let shift = append_assoc ts (t ∷ []) new in
    subst (λ v. Reads b v ts start (ts ++ t ∷ new) start) (sym whole)
    (subst (λ us. Reads b (own ++ more) ts start us start) shift
    (reads_then b own more ts (ts ++ t ∷ []) _ start start start (reads_task b t own ts room place task)
    (reads_tasks (b + length own) new more (ts ++ t ∷ []) (subst (λ (us : List Entry). length us ≤ 32) (sym shift) few) rest)))

reads_begun : (b : ℕ) (due : Due) (text : List ℕ) (ts : List Entry) → Room due (length ts) → Begun b due text → Reads b text ts start ts due
reads_begun b start text ts few e = reads_none b text ts start e
reads_begun b (digits_of from f) text ts few (is, e) =
    subst (λ n. Reads b text ts start ts (digits_of n f)) (sym is) (subst (λ t. Reads b t ts start ts (digits_of b f)) (sym e) (reads_field b f ts few))
reads_begun b (claim_of from f ds) text ts few (is, o) =
    subst (λ n. Reads b text ts start ts (claim_of n f ds)) (sym is)
    (subst (λ t. Reads b t ts start ts (claim_of b f ds)) (sym o.whole) (reads_named b f o.naming o.digits ds ts few o.field_line o.digits_line))

at_most : (due : Due) (n : ℕ) → Room due n → n ≤ 32
at_most start n h = h
at_most (digits_of b f) n h = omega arith
at_most (claim_of b f ds) n h = omega arith

pub reading_short : (sheet : List ℕ) → length sheet ≤ 32768 → reading sheet ≡ lines_after 1 0 (split 10 sheet) [] start
reading_short sheet h = cond-false (ltb 32768 (length sheet)) _ _ (le-ltb _ _ h)

pub reached_reads : (sheet : List ℕ) (ts : List Entry) (due : Due) (before rest : List ℕ) → Reached sheet ts due before rest → reading sheet ≡ lines_after (closed before + 1) (length before) (split 10 rest) ts due
reached_reads sheet ts due before rest r =
    let all : Reads 0 (r.tasks ++ r.begun) [] start ts due = reads_then 0 r.tasks r.begun [] ts ts start start due
    (reads_tasks 0 ts r.tasks [] (at_most due (length ts) r.room) r.body)
    (subst (λ n. Reads n r.begun ts start ts due) (omega arith) (reads_begun (length r.tasks) due r.begun ts r.room r.lines)) in
    let whole : Reads 0 before [] start ts due = subst (λ t. Reads 0 t [] start ts due) (sym r.before_is) all in
    reading_short sheet r.short
    ∙ ap (λ t. lines_after 1 0 (split 10 t) [] start) r.whole
    ∙ whole 1 rest
    ∙ ap (λ n. lines_after n (0 + length before) (split 10 rest) ts due) (omega arith)
    ∙ ap (λ n. lines_after (closed before + 1) n (split 10 rest) ts due) (omega arith)
