-- What the reading of a line's words tells, and the other way round.
use Rattle.std.proofs.Common.{◌≡◌, ℕ, ◌+◌, cond, eqb, List, [], ◌∷◌, ◌++◌, length, Some, None, Ok, Err, Option, Result, sym, refl, ap, ◌∙◌, subst, append_assoc, arith, length-append}
use Rattle.std.proofs.lemmas.Bool.{eq-eqb, ne_eqb, eqb-true, eqb-false, cond-true, cond-false, cond_both}
use Rattle.std.proofs.lemmas.List.{nil_from_length}
use Rattle.std.specs.Option.{ok_or}
use Rattle.std.proofs.lemmas.Option.{none-some}
use Rattle.faults.proofs.Outcomes.{line_by, then_by, line_stop, then_stop}
use Rattle.faults.specs.Faulty.{NoNumber, empty_word, not_number, NoPlace, no_number_at, false_place, BadName, no_name, unknown_name, second_name, BadNumber, BadPlace, at_word, too_few}
use Rattle.faults.specs.Parts.{bad_word}
use Rattle.sheet.proofs.Figures.{numeral_sound, numeral_complete}
use Rattle.sheet.proofs.Inverts.{due_complete, place_complete}
use Rattle.sheet.proofs.Known.{number_kind, keyword_sound, field_sound, name_is}
use Rattle.sheet.specs.Form.{behind, AreNumbers}
use Rattle.sheet.specs.Lines.{as_sheet, place_due_of, places_after}
use Rattle.sheet.specs.Names.{keyword, field_name_of}
use Rattle.sheet.specs.Numeral.{Number}
use Rattle.sheet.specs.Reading.{spot, and_then, number_of, as_line, number_due_of, numbers_after, no_more, field_after, opened}
use Rattle.sheet.specs.Words.{kind_of, as_keyword, as_name, as_number}
use Rattle.sheet.specs.declared.fault.At.{At}
use Rattle.sheet.specs.declared.fault.LineFault.{LineFault}
use Rattle.sheet.specs.declared.fault.LineFault.TheVariants.{BadWord}
use Rattle.sheet.specs.declared.fault.SheetFault.{SheetFault}
use Rattle.sheet.specs.declared.fault.SheetFault.TheVariants.{Place}
use Rattle.sheet.specs.declared.names.FieldName.{FieldName}
use Rattle.sheet.specs.declared.names.Keyword.{Keyword}

-- one byte more on a line
moved : (line byte : ℕ) (v said : List ℕ) → spot line (byte + 1 + length v + length said) ≡ spot line (byte + length (32 ∷ (v ++ said)))
moved line byte v said = ap (spot line) (simp length-append (omega arith))

moved_back : (line byte : ℕ) (v : List ℕ) (good : List (List ℕ)) → spot line (byte + length (behind 32 (v ∷ good) ++ 32 ∷ [])) ≡ spot line (byte + 1 + length v + length (behind 32 good ++ 32 ∷ []))
moved_back line byte v good = ap (spot line) (simp length-append (omega arith))

-- A number where one is due.
abbrev DueTold : At → List ℕ → Result ℕ SheetFault → Type 0
DueTold a w (Ok n) = Number w n
DueTold a w (Err e) = NoNumber w a e

kind_told : (a : At) (w : List ℕ) (o : Option ℕ) → (w ≡ [] → ⊥) → as_number (kind_of w) ≡ o → DueTold a w (as_sheet (as_line (ok_or o (record { at = a }))))
kind_told a w None some p = not_number some (λ n h. none-some n (sym p ∙ number_kind w ∙ numeral_complete w n h)) refl
kind_told a w (Some n) some p = numeral_sound w n (sym (number_kind w) ∙ p)

due_told : (a : At) (w : List ℕ) → DueTold a w (as_sheet (number_due_of a w))
due_told a w =
    cond_both (eqb (length w) 0) (Err (BadWord a)) (as_line (number_of a w)) (λ r. DueTold a w (as_sheet r))
    (λ t. empty_word (nil_from_length w (eqb-true _ _ t)) refl)
    (λ f. kind_told a w (as_number (kind_of w)) (λ e. eqb-false _ _ f (ap length e)) refl)

due_is : (a : At) (w : List ℕ) (r : Result ℕ LineFault) → number_due_of a w ≡ r → DueTold a w (as_sheet r)
due_is a w r p = subst (λ r. DueTold a w (as_sheet r)) p (due_told a w)

no_kind : (w : List ℕ) (o : Option ℕ) → ((n : ℕ) → Number w n → ⊥) → as_number (kind_of w) ≡ o → o ≡ None
no_kind w None never p = refl
no_kind w (Some n) never p = absurd (never n (numeral_sound w n (sym (number_kind w) ∙ p)))

due_stops : (a : At) (w : List ℕ) (e : SheetFault) → NoNumber w a e → as_sheet (number_due_of a w) ≡ Err e
due_stops a w e (empty_word none is) = ap as_sheet (cond-true (eqb (length w) 0) (Err (BadWord a)) (as_line (number_of a w)) (eq-eqb (length w) 0 (ap length none))) ∙ ap Err (sym is)
due_stops a w e (not_number some never is) =
    ap as_sheet (cond-false (eqb (length w) 0) (Err (BadWord a)) (as_line (number_of a w)) (ne_eqb (length w) 0 (λ z. some (nil_from_length w z))))
    ∙ ap (λ o. as_sheet (as_line (ok_or o (record { at = a })))) (no_kind w (as_number (kind_of w)) never refl)
    ∙ ap Err (sym is)

-- Numbers.
abbrev pub NumbersTold : ℕ → ℕ → List ℕ → List (List ℕ) → Result (List ℕ) SheetFault → Type 0
NumbersTold line byte acc ws (Ok out) = Unit {0}
NumbersTold line byte acc ws (Err e) = (said : List ℕ) × BadNumber ws said (spot line (byte + length said)) e

number_before : (line byte : ℕ) (v : List ℕ) (n : ℕ) (ws : List (List ℕ)) (acc : List ℕ) (r : Result (List ℕ) SheetFault) → Number v n → NumbersTold line (byte + 1 + length v) (acc ++ n ∷ []) ws r → NumbersTold line byte acc (v ∷ ws) r
number_before line byte v n ws acc (Ok out) h u = tt
number_before line byte v n ws acc (Err e) h (said, b) = (
  32 ∷ (v ++ said),
  record {
    good = v ∷ b.good;
    ns = n ∷ b.ns;
    w = b.w;
    more = b.more;
    words = ap (λ vs. v ∷ vs) b.words;
    numbers = (h, b.numbers);
    said_is = ap (λ t. 32 ∷ (v ++ t)) b.said_is ∙ simp append_assoc;
    broken = subst (λ a. NoNumber b.w a e) (moved line byte v said) b.broken;
  },
)

pub numbers_told : (line byte : ℕ) (acc : List ℕ) (ws : List (List ℕ)) → NumbersTold line byte acc ws (as_sheet (numbers_after line byte acc ws))
numbers_told line byte acc [] = tt
numbers_told line byte acc (w ∷ ws) =
    line_by (NumbersTold line byte acc (w ∷ ws)) (number_due_of (spot line (byte + 1)) w) (λ n. numbers_after line (byte + 1 + length w) (acc ++ n ∷ []) ws)
    (λ n p. number_before line byte w n ws acc _ (due_is _ w (Ok n) p) (numbers_told line (byte + 1 + length w) (acc ++ n ∷ []) ws))
    (λ e p. (32 ∷ [], record { good = []; ns = []; w = w; more = ws; words = refl; numbers = tt; said_is = refl; broken = due_is (spot line (byte + 1)) w (Err e) p }))

numbers_stop_at : (line byte : ℕ) (acc : List ℕ) (good : List (List ℕ)) (ns w : List ℕ) (more : List (List ℕ)) (e : SheetFault) → AreNumbers good ns → NoNumber w (spot line (byte + length (behind 32 good ++ 32 ∷ []))) e → as_sheet (numbers_after line byte acc (good ++ w ∷ more)) ≡ Err e
numbers_stop_at line byte acc [] ns w more e h b = line_stop (number_due_of (spot line (byte + 1)) w) (λ n. numbers_after line (byte + 1 + length w) (acc ++ n ∷ []) more) e (due_stops (spot line (byte + 1)) w e b)
numbers_stop_at line byte acc (v ∷ good) [] w more e h b = absurd h
numbers_stop_at line byte acc (v ∷ good) (n ∷ ns) w more e h b =
    ap (λ r. as_sheet (and_then r (λ n. numbers_after line (byte + 1 + length v) (acc ++ n ∷ []) (good ++ w ∷ more)))) (due_complete (spot line (byte + 1)) v n h.0)
    ∙ numbers_stop_at line (byte + 1 + length v) (acc ++ n ∷ []) good ns w more e h.1
    (subst (λ a. NoNumber w a e) (moved_back line byte v good) b)

pub numbers_stop : (line byte : ℕ) (acc : List ℕ) (ws : List (List ℕ)) (said : List ℕ) (e : SheetFault) → BadNumber ws said (spot line (byte + length said)) e → as_sheet (numbers_after line byte acc ws) ≡ Err e
numbers_stop line byte acc ws said e b =
    ap (λ vs. as_sheet (numbers_after line byte acc vs)) b.words
    ∙ numbers_stop_at line byte acc b.good b.ns b.w b.more e b.numbers (subst (λ t. NoNumber b.w (spot line (byte + length t)) e) b.said_is b.broken)

-- One field name.
abbrev pub NameTold : ℕ → ℕ → List (List ℕ) → Result FieldName SheetFault → Type 0
NameTold line byte ws (Ok f) = Unit {0}
NameTold line byte ws (Err e) = (said : List ℕ) × BadName ws said (spot line (byte + length said)) e

name_only : (line byte : ℕ) (f : FieldName) (w : List ℕ) (ws : List (List ℕ)) → w ≡ field_name_of f → NameTold line byte (w ∷ ws) (as_sheet (no_more line (byte + 1 + length w) ws f))
name_only line byte f w [] is = tt
name_only line byte f w (v ∷ ws) is =
    let said : List ℕ = behind 32 (field_name_of f ∷ []) ++ 32 ∷ [] in
    let place : byte + 1 + length w + 1 ≡ byte + length said = ap (λ t. byte + 1 + length t + 1) is ∙ simp length-append (omega arith) in
    (said, second_name f v ws (ap (λ u. u ∷ v ∷ ws) is) refl (ap (λ n. bad_word (spot line n)) place))

name_kind : (line byte : ℕ) (w : List ℕ) (ws : List (List ℕ)) (o : Option FieldName) → as_name (kind_of w) ≡ o → NameTold line byte (w ∷ ws) (as_sheet (and_then (ok_or o (BadWord (spot line (byte + 1)))) (no_more line (byte + 1 + length w) ws)))
name_kind line byte w ws None p = (32 ∷ [], unknown_name w ws refl (λ f is. none-some f (sym p ∙ ap (λ v. as_name (kind_of v)) is ∙ (name_is f).2)) refl refl)
name_kind line byte w ws (Some f) p = name_only line byte f w ws (field_sound w f p)

pub name_told : (line byte : ℕ) (ws : List (List ℕ)) → NameTold line byte ws (as_sheet (field_after line byte ws))
name_told line byte [] = ([], no_name refl refl (ap (λ n. bad_word (spot line n)) (omega arith)))
name_told line byte (w ∷ ws) = name_kind line byte w ws (as_name (kind_of w)) refl

unnamed : (w : List ℕ) (o : Option FieldName) → ((f : FieldName) → w ≡ field_name_of f → ⊥) → as_name (kind_of w) ≡ o → o ≡ None
unnamed w None never p = refl
unnamed w (Some f) never p = absurd (never f (field_sound w f p))

pub name_stop : (line byte : ℕ) (ws : List (List ℕ)) (said : List ℕ) (e : SheetFault) → BadName ws said (spot line (byte + length said)) e → as_sheet (field_after line byte ws) ≡ Err e
name_stop line byte ws said e (no_name none here is) =
    ap (λ vs. as_sheet (field_after line byte vs)) none
    ∙ ap (λ n. Err (bad_word (spot line n))) (let long = ap length here in omega arith)
    ∙ ap Err (sym is)
name_stop line byte ws said e (unknown_name w more words never here is) =
    ap (λ vs. as_sheet (field_after line byte vs)) words
    ∙ ap (λ o. as_sheet (and_then (ok_or o (BadWord (spot line (byte + 1)))) (no_more line (byte + 1 + length w) more))) (unnamed w (as_name (kind_of w)) never refl)
    ∙ ap (λ (t : List ℕ). Err (bad_word (spot line (byte + length t)))) (sym here)
    ∙ ap Err (sym is)
name_stop line byte ws said e (second_name f w more words here is) =
    let place : byte + 1 + length (field_name_of f) + 1 ≡ byte + length said = let long = ap length here in omega (arith, simp length-append at long) in
    ap (λ vs. as_sheet (field_after line byte vs)) words
    ∙ ap (λ o. as_sheet (and_then (ok_or o (BadWord (spot line (byte + 1)))) (no_more line (byte + 1 + length (field_name_of f)) (w ∷ more)))) (name_is f).2
    ∙ ap (λ n. Err (bad_word (spot line n))) place
    ∙ ap Err (sym is)

-- The tail.
abbrev pub PlacesTold : ℕ → ℕ → List ℕ → List (List ℕ) → Result (Unit {0}) SheetFault → Type 0
PlacesTold line byte ps ws (Ok u) = Unit {0}
PlacesTold line byte ps ws (Err e) = (said : List ℕ) × BadPlace ps ws said (spot line (byte + length said)) e

-- the word is not the first place
here_false : (line byte : ℕ) (ps w : List ℕ) (ws : List (List ℕ)) (e : SheetFault) → NoPlace w ps (spot line (byte + 1)) e → PlacesTold line byte ps (w ∷ ws) (Err e)
here_false line byte ps w ws e b = (32 ∷ [], at_word (record { good = []; first = []; left = ps; w = w; more = ws; places_are = refl; words = refl; numbers = tt; said_is = refl; broken = b }))

place_before : (line byte p : ℕ) (v : List ℕ) (ps : List ℕ) (ws : List (List ℕ)) (r : Result (Unit {0}) SheetFault) → Number v p → PlacesTold line (byte + 1 + length v) ps ws r → PlacesTold line byte (p ∷ ps) (v ∷ ws) r
place_before line byte p v ps ws (Ok u) h all = tt
place_before line byte p v ps ws (Err e) h (said, at_word b) = (
  32 ∷ (v ++ said),
  at_word (record {
    good = v ∷ b.good;
    first = p ∷ b.first;
    left = b.left;
    w = b.w;
    more = b.more;
    places_are = ap (λ qs. p ∷ qs) b.places_are;
    words = ap (λ vs. v ∷ vs) b.words;
    numbers = (h, b.numbers);
    said_is = ap (λ t. 32 ∷ (v ++ t)) b.said_is ∙ simp append_assoc;
    broken = subst (λ a. NoPlace b.w b.left a e) (moved line byte v said) b.broken;
  }),
)
place_before line byte p v ps ws (Err e) h (said, too_few first q left are numbers here is) =
    (32 ∷ (v ++ said), too_few (p ∷ first) q left (ap (λ qs. p ∷ qs) are) (h, numbers) (ap (λ t. 32 ∷ (v ++ t)) here) (is ∙ ap Place (moved line byte v said)))

abbrev PlaceTold : At → List ℕ → ℕ → List ℕ → Result (Unit {0}) SheetFault → Type 0
PlaceTold a w p ps (Ok u) = Number w p
PlaceTold a w p ps (Err e) = NoPlace w (p ∷ ps) a e

place_told : (a : At) (w : List ℕ) (p : ℕ) (ps : List ℕ) → PlaceTold a w p ps (place_due_of a w p)
place_told a w p ps =
    then_by (PlaceTold a w p ps) (as_sheet (number_due_of a w)) (λ n. cond (eqb n p) (Ok tt) (Err (Place a)))
    (λ n is.
    let h : Number w n = subst (DueTold a w) is (due_told a w) in
    cond_both (eqb n p) (Ok tt) (Err (Place a)) (PlaceTold a w p ps)
    (λ t. subst (Number w) (eqb-true _ _ t) h)
    (λ f. false_place n h (λ rest e. eqb-false _ _ f (let same : p ≡ n = cc in sym same)) refl))
    (λ e is. no_number_at (subst (DueTold a w) is (due_told a w)))

pub places_told : (line byte : ℕ) (ps : List ℕ) (ws : List (List ℕ)) → PlacesTold line byte ps ws (places_after line byte ps ws)
places_told line byte [] [] = tt
places_told line byte [] (w ∷ ws) =
    let a = spot line (byte + 1) in
    then_by (PlacesTold line byte [] (w ∷ ws)) (as_sheet (number_due_of a w)) (λ n. Err (Place a))
    (λ n is. here_false line byte [] w ws (Place a) (false_place n (subst (DueTold a w) is (due_told a w)) (λ rest e. let z : ◌≡◌ {A = ℕ} 0 1 = cc in omega arith) refl))
    (λ e is. here_false line byte [] w ws e (no_number_at (subst (DueTold a w) is (due_told a w))))
places_told line byte (p ∷ ps) [] = ([], too_few [] p ps refl tt refl (ap (λ n. Place (spot line n)) (omega arith)))
places_told line byte (p ∷ ps) (w ∷ ws) =
    let a = spot line (byte + 1) in
    then_by (PlacesTold line byte (p ∷ ps) (w ∷ ws)) (place_due_of a w p) (λ _. places_after line (byte + 1 + length w) ps ws)
    (λ u is. place_before line byte p w ps ws (places_after line (byte + 1 + length w) ps ws) (subst (PlaceTold a w p ps) is (place_told a w p ps)) (places_told line (byte + 1 + length w) ps ws))
    (λ e is. here_false line byte (p ∷ ps) w ws e (subst (PlaceTold a w p ps) is (place_told a w p ps)))

place_stop : (line byte : ℕ) (ps w : List ℕ) (more : List (List ℕ)) (e : SheetFault) → NoPlace w ps (spot line (byte + 1)) e → places_after line byte ps (w ∷ more) ≡ Err e
place_stop line byte [] w more e (no_number_at b) = then_stop _ (λ n. Err (Place (spot line (byte + 1)))) e (due_stops (spot line (byte + 1)) w e b)
place_stop line byte [] w more e (false_place n h differs is) = ap (λ r. and_then (as_sheet r) (λ n. Err (Place (spot line (byte + 1))))) (due_complete (spot line (byte + 1)) w n h) ∙ ap Err (sym is)
place_stop line byte (p ∷ ps) w more e (no_number_at b) =
    then_stop _ (λ _. places_after line (byte + 1 + length w) ps more) e
    (then_stop _ (λ n. cond (eqb n p) (Ok tt) (Err (Place (spot line (byte + 1))))) e (due_stops (spot line (byte + 1)) w e b))
place_stop line byte (p ∷ ps) w more e (false_place n h differs is) =
    let a = spot line (byte + 1) in
    then_stop _ (λ _. places_after line (byte + 1 + length w) ps more) e
    (ap (λ r. and_then (as_sheet r) (λ n. cond (eqb n p) (Ok tt) (Err (Place a)))) (due_complete a w n h)
    ∙ cond-false (eqb n p) _ _ (ne_eqb n p (λ same. differs ps (ap (λ m. m ∷ ps) (sym same))))
    ∙ ap Err (sym is))

places_stop_at : (line byte : ℕ) (good : List (List ℕ)) (first left w : List ℕ) (more : List (List ℕ)) (e : SheetFault) → AreNumbers good first → NoPlace w left (spot line (byte + length (behind 32 good ++ 32 ∷ []))) e → places_after line byte (first ++ left) (good ++ w ∷ more) ≡ Err e
places_stop_at line byte [] [] left w more e h b = place_stop line byte left w more e b
places_stop_at line byte [] (p ∷ first) left w more e h b = absurd h
places_stop_at line byte (v ∷ good) [] left w more e h b = absurd h
places_stop_at line byte (v ∷ good) (p ∷ first) left w more e h b =
    ap (λ r. and_then r (λ _. places_after line (byte + 1 + length v) (first ++ left) (good ++ w ∷ more))) (place_complete (spot line (byte + 1)) v p h.0)
    ∙ places_stop_at line (byte + 1 + length v) good first left w more e h.1 (subst (λ a. NoPlace w left a e) (moved_back line byte v good) b)

places_end_at : (line byte : ℕ) (ws : List (List ℕ)) (first : List ℕ) (p : ℕ) (left : List ℕ) → AreNumbers ws first → places_after line byte (first ++ p ∷ left) ws ≡ Err (Place (spot line (byte + length (behind 32 ws))))
places_end_at line byte [] [] p left h = ap (λ n. Err (Place (spot line n))) (omega arith)
places_end_at line byte [] (q ∷ first) p left h = absurd h
places_end_at line byte (v ∷ ws) [] p left h = absurd h
places_end_at line byte (v ∷ ws) (q ∷ first) p left h =
    ap (λ r. and_then r (λ _. places_after line (byte + 1 + length v) (first ++ p ∷ left) ws)) (place_complete (spot line (byte + 1)) v q h.0)
    ∙ places_end_at line (byte + 1 + length v) ws first p left h.1
    ∙ ap (λ a. Err (Place a)) (moved line byte v (behind 32 ws))

pub places_stop : (line byte : ℕ) (ps : List ℕ) (ws : List (List ℕ)) (said : List ℕ) (e : SheetFault) → BadPlace ps ws said (spot line (byte + length said)) e → places_after line byte ps ws ≡ Err e
places_stop line byte ps ws said e (at_word b) =
    ap (λ qs. places_after line byte qs ws) b.places_are
    ∙ ap (places_after line byte (b.first ++ b.left)) b.words
    ∙ places_stop_at line byte b.good b.first b.left b.w b.more e b.numbers (subst (λ t. NoPlace b.w b.left (spot line (byte + length t)) e) b.said_is b.broken)
places_stop line byte ps ws said e (too_few first p left are numbers here is) =
    ap (λ qs. places_after line byte qs ws) are
    ∙ places_end_at line byte ws first p left numbers
    ∙ ap (λ (t : List ℕ). Err (Place (spot line (byte + length t)))) (sym here)
    ∙ ap Err (sym is)

-- The first word.
no_keyword : (w : List ℕ) (o : Option Keyword) → ((k : Keyword) → w ≡ keyword k → ⊥) → as_keyword (kind_of w) ≡ o → o ≡ None
no_keyword w None never p = refl
no_keyword w (Some k) never p = absurd (never k (keyword_sound w k p))

pub open_stop : (line byte : ℕ) (w : List ℕ) (ws : List (List ℕ)) → ((k : Keyword) → w ≡ keyword k → ⊥) → as_sheet (opened line byte (w ∷ ws)) ≡ Err (bad_word (spot line byte))
open_stop line byte w ws never = ap (λ o. as_sheet (and_then (ok_or o (BadWord (spot line byte))) (λ k. Ok (record { keyword = k; stop = byte + length w; words = ws })))) (no_keyword w (as_keyword (kind_of w)) never refl)
