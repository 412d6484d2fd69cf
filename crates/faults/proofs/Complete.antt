-- What is wrong is found.
use Rattle.std.proofs.Common.{◌≡◌, ℕ, ◌+◌, true, false, ltb, List, [], ◌∷◌, ◌++◌, length, Ok, Result, sym, refl, ap, ◌∙◌, subst, arith}
use Rattle.std.proofs.lemmas.Bool.{cond-true, cond-false, lt-ltb, both_ways}
use Rattle.faults.proofs.Beginnings.{place_said}
use Rattle.sheet.proofs.Beginnings.{closed_line, length_line}
use Rattle.sheet.proofs.Ends.{more_left}
use Rattle.faults.proofs.Inverts.{numbers_stop, name_stop, places_stop, open_stop}
use Rattle.faults.proofs.Outcomes.{stop_at}
use Rattle.sheet.proofs.Reaches.{line_forward, reached_reads}
use Rattle.sheet.specs.Begins.{closed, place_behind, may_come, Reached, NextLine}
use Rattle.faults.specs.Faulty.{Faulty, too_long, unclosed, unknown_word, out_of_order, in_line, behind_tail, Breaks}
use Rattle.faults.specs.Parts.{bad_word}
use Rattle.sheet.proofs.Cuts.{lines_step, not_last}
use Rattle.sheet.proofs.Inverts.{places_complete}
use Rattle.sheet.proofs.Joins.{lacks_append, lacks_behind, split_cut, split_whole, split_behind}
use Rattle.sheet.specs.Form.{Entry, places, behind}
use Rattle.sheet.specs.Lines.{Due, start, digits_of, claim_of, Outcome, stopped, or_stop, as_sheet, turn, ended, lines_after, reading}
use Rattle.sheet.specs.Names.{keyword}
use Rattle.sheet.specs.Reading.{spot, numbers_after, field_after, opened}
use Rattle.sheet.specs.Split.{split, lacks}
use Rattle.sheet.specs.declared.fault.SheetFault.{SheetFault}
use Rattle.sheet.specs.declared.fault.SheetFault.TheVariants.{Order}
use Rattle.sheet.specs.declared.names.Keyword.{Keyword}
use Rattle.sheet.specs.declared.names.Keyword.TheVariants.{Field, Digits, Claim, Tail}

module _ (sheet : List ℕ) (ts : List Entry) (due : Due) (before : List ℕ) where
  no_line_left : (rest : List ℕ) → Reached sheet ts due before rest → lacks 10 rest ≡ true → reading sheet ≡ stopped ts (Order (place_behind before))
  no_line_left rest r lack =
      reached_reads sheet ts due before rest r
      ∙ ap (λ ps. lines_after (closed before + 1) (length before) ps ts due) (split_whole 10 rest lack)
      ∙ lines_step (closed before + 1) (length before) rest [] ts due

  module _ (w : List ℕ) (ws : List (List ℕ)) (more : List ℕ) (h : NextLine sheet ts due before w ws more) where
    text_free : lacks 10 (w ++ behind 32 ws) ≡ true
    text_free = lacks_append 10 w (behind 32 ws) h.not_closed.0 (lacks_behind 10 32 ws (λ e. omega arith) h.not_closed.1)

    first_word : ((k : Keyword) → w ≡ keyword k → ⊥) → reading sheet ≡ stopped ts (bad_word (place_behind before))
    first_word never =
        let s : List ℕ = w ++ behind 32 ws in
        reached_reads sheet ts due before (s ++ 10 ∷ more) h.reached
        ∙ ap (λ ps. lines_after (closed before + 1) (length before) ps ts due) (split_cut 10 s more text_free)
        ∙ lines_step (closed before + 1) (length before) s (split 10 more) ts due
        ∙ stop_at ts _ _ _ (not_last (closed before + 1) (length before) s 10 more
        ∙ ap (λ ps. as_sheet (opened (closed before + 1) (length before) ps)) (split_behind 32 w ws h.no_blank.0 h.no_blank.1)
        ∙ open_stop (closed before + 1) (length before) w ws never)

  -- a line with a keyword leads on as `turn` says
  turned : (k : Keyword) (ws : List (List ℕ)) (more : List ℕ) → NextLine sheet ts due before (keyword k) ws more
      → (x : Outcome)
      → ((go : List Entry → Due → Outcome) → turn (closed before + 1) (length before) ts due go (ended (closed before + 1 + 1) (length before + length (keyword k ++ behind 32 ws) + 1) (split 10 more)) k (length before + length (keyword k)) ws ≡ x)
      → reading sheet ≡ x
  turned k ws more h x leads =
      let s : List ℕ = keyword k ++ behind 32 ws in
      reached_reads sheet ts due before (s ++ 10 ∷ more) h.reached
      ∙ line_forward (closed before + 1) (length before) k ws s more ts due refl h.no_blank.1 h.not_closed.1
      ∙ leads (lines_after (closed before + 1 + 1) (length before + length s + 1) (split 10 more))

out_of_turn : (line byte : ℕ) (ts : List Entry) (due : Due) (go : List Entry → Due → Outcome) (end : Result (Unit {0}) SheetFault) (k : Keyword) (stop : ℕ) (ws : List (List ℕ)) → may_come due (length ts) k ≡ false → turn line byte ts due go end k stop ws ≡ stopped ts (Order (spot line byte))
out_of_turn line byte ts start go end Field stop ws f = cond-false (ltb (length ts) 32) _ _ f
out_of_turn line byte ts start go end Digits stop ws f = cond-false (ltb (length ts) 32) _ _ f
out_of_turn line byte ts start go end Claim stop ws f = refl
out_of_turn line byte ts start go end Tail stop ws f = absurd (both_ways true f refl)
out_of_turn line byte ts (digits_of b g) go end Field stop ws f = refl
out_of_turn line byte ts (digits_of b g) go end Digits stop ws f = absurd (both_ways true f refl)
out_of_turn line byte ts (digits_of b g) go end Claim stop ws f = refl
out_of_turn line byte ts (digits_of b g) go end Tail stop ws f = refl
out_of_turn line byte ts (claim_of b g ds) go end Field stop ws f = refl
out_of_turn line byte ts (claim_of b g ds) go end Digits stop ws f = refl
out_of_turn line byte ts (claim_of b g ds) go end Claim stop ws f = absurd (both_ways true f refl)
out_of_turn line byte ts (claim_of b g ds) go end Tail stop ws f = refl

broken_turn : (line byte : ℕ) (ts : List Entry) (due : Due) (go : List Entry → Due → Outcome) (end : Result (Unit {0}) SheetFault) (k : Keyword) (stop : ℕ) (ws : List (List ℕ)) (said : List ℕ) (e : SheetFault) → may_come due (length ts) k ≡ true → Breaks k (places ts) ws said (spot line (stop + length said)) e → turn line byte ts due go end k stop ws ≡ stopped ts e
broken_turn line byte ts start go end Field stop ws said e t b = cond-true (ltb (length ts) 32) _ _ t ∙ stop_at ts (as_sheet (field_after line stop ws)) _ e (name_stop line stop ws said e b)
broken_turn line byte ts start go end Digits stop ws said e t b = cond-true (ltb (length ts) 32) _ _ t ∙ stop_at ts (as_sheet (numbers_after line stop [] ws)) _ e (numbers_stop line stop [] ws said e b)
broken_turn line byte ts start go end Claim stop ws said e t b = absurd (both_ways false refl t)
broken_turn line byte ts start go end Tail stop ws said e t b = stop_at ts _ _ e (places_stop line stop (places ts) ws said e b)
broken_turn line byte ts (digits_of b0 g) go end Field stop ws said e t b = absurd (both_ways false refl t)
broken_turn line byte ts (digits_of b0 g) go end Digits stop ws said e t b = stop_at ts (as_sheet (numbers_after line stop [] ws)) _ e (numbers_stop line stop [] ws said e b)
broken_turn line byte ts (digits_of b0 g) go end Claim stop ws said e t b = absurd (both_ways false refl t)
broken_turn line byte ts (digits_of b0 g) go end Tail stop ws said e t b = absurd (both_ways false refl t)
broken_turn line byte ts (claim_of b0 g ds) go end Field stop ws said e t b = absurd (both_ways false refl t)
broken_turn line byte ts (claim_of b0 g ds) go end Digits stop ws said e t b = absurd (both_ways false refl t)
broken_turn line byte ts (claim_of b0 g ds) go end Claim stop ws said e t b = stop_at ts (as_sheet (numbers_after line stop [] ws)) _ e (numbers_stop line stop [] ws said e b)
broken_turn line byte ts (claim_of b0 g ds) go end Tail stop ws said e t b = absurd (both_ways false refl t)

pub first : (sheet : List ℕ) (ts : List Entry) (e : SheetFault) → Faulty sheet ts e → reading sheet ≡ stopped ts e
first sheet ts e (too_long long none is) = cond-true (ltb 32768 (length sheet)) _ _ (lt-ltb _ _ long) ∙ ap (λ us. stopped us (Order (spot 1 0))) (sym none) ∙ ap (stopped ts) (sym is)
first sheet ts e (unclosed due before rest r lack is) = no_line_left sheet ts due before rest r lack ∙ ap (stopped ts) (sym is)
first sheet ts e (unknown_word due before w ws more h never is) = first_word sheet ts due before w ws more h never ∙ ap (stopped ts) (sym is)
first sheet ts e (out_of_order due before k ws more h f is) =
    turned sheet ts due before k ws more h _ (λ go. out_of_turn _ _ ts due go _ k _ ws f) ∙ ap (stopped ts) (sym is)
first sheet ts e (in_line due before k ws more said h t b) =
    let free = lacks_behind 10 32 ws (λ e. omega arith) h.not_closed.1 in
    let place = place_said before k (places ts) ws said _ e free b in
    turned sheet ts due before k ws more h _ (λ go. broken_turn _ _ ts due go _ k _ ws said e t (subst (λ a. Breaks k (places ts) ws said a e) place b))
first sheet ts e (behind_tail before ws more h all some is) =
    let s : List ℕ = keyword Tail ++ behind 32 ws in
    let free : lacks 10 s ≡ true = text_free sheet ts start before (keyword Tail) ws more h in
    let place : spot (closed before + 1 + 1) (length before + length s + 1) ≡ place_behind (before ++ (s ++ 10 ∷ [])) = ap (λ n. spot (n + 1) (length before + length s + 1)) (sym (closed_line before s free)) ∙ ap (spot (closed (before ++ (s ++ 10 ∷ [])) + 1)) (sym (length_line before s)) in
    turned sheet ts start before Tail ws more h _
    (λ go. ap (λ r. or_stop ts r (λ _. or_stop ts (ended (closed before + 1 + 1) (length before + length s + 1) (split 10 more)) (λ _. Ok ts))) (places_complete _ _ (places ts) ws all)
    ∙ stop_at ts _ _ _ (more_left _ _ more some))
    ∙ ap (λ a. stopped ts (Order a)) place
    ∙ ap (stopped ts) (sym is)
