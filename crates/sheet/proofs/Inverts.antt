-- What is known of the words of a line that was read.
use Rattle.std.proofs.Common.{◌≡◌, ℕ, ◌+◌, Bool, true, false, cond, eqb, List, [], ◌∷◌, ◌++◌, length, Some, None, Ok, Err, Option, Result, sym, refl, ap, ◌∙◌, subst, append_assoc, append-nil, arith}
use Rattle.std.specs.Option.{ok_or}
use Rattle.std.proofs.lemmas.Option.{none-some}
use Rattle.std.proofs.lemmas.Bool.{eq-eqb, ne_eqb, eqb-true, cond-true, cond-false}
use Rattle.sheet.proofs.Figures.{numeral_sound, numeral_complete}
use Rattle.sheet.proofs.Known.{number_kind, keyword_sound, field_sound, keyword_is, name_is}
use Rattle.sheet.specs.Form.{AreNumbers}
use Rattle.sheet.specs.Lines.{as_sheet, place_due_of, places_after}
use Rattle.sheet.specs.Names.{keyword, field_name_of}
use Rattle.sheet.specs.Numeral.{Number}
use Rattle.sheet.specs.Words.{kind_of, as_keyword, as_name, as_number}
use Rattle.sheet.specs.Reading.{spot, and_then, number_of, as_line, number_due_of, numbers_after, no_more, field_after, Opened, opened}
use Rattle.sheet.specs.declared.fault.At.{At}
use Rattle.sheet.specs.declared.fault.NumberFault.{NumberFault}
use Rattle.sheet.specs.declared.fault.LineFault.{LineFault}
use Rattle.sheet.specs.declared.fault.LineFault.TheVariants.{BadWord, Number as NoNumber}
use Rattle.sheet.specs.declared.fault.SheetFault.{SheetFault}
use Rattle.sheet.specs.declared.fault.SheetFault.TheVariants.{Place, Line}
use Rattle.sheet.specs.declared.names.Keyword.{Keyword}
use Rattle.sheet.specs.declared.names.FieldName.{FieldName}

pub no_err : {X E : Type 0} (e : E) (x : X) → Err e ≡ Ok x → ⊥
no_err e x p = let z : ◌≡◌ {A = ℕ} 0 1 = cc in omega arith

pub same_ok : {X E : Type 0} (x y : X) → ◌≡◌ {A = Result X E} (Ok x) (Ok y) → x ≡ y
same_ok x y p = cc

pub bind_ok : {X Y E : Type 0} (r : Result X E) (f : X → Result Y E) (y : Y) → and_then r f ≡ Ok y → (x : X) × (r ≡ Ok x) × (f x ≡ Ok y)
bind_ok (Ok x) f y p = (x, refl, p)
bind_ok (Err e) f y p = absurd (no_err e y p)

pub sheet_ok : {X : Type 0} (r : Result X LineFault) (x : X) → as_sheet r ≡ Ok x → r ≡ Ok x
sheet_ok (Ok y) x p = ap Ok (same_ok y x p)
sheet_ok (Err e) x p = absurd (no_err (Line e) x p)

line_ok : {X : Type 0} (r : Result X NumberFault) (x : X) → as_line r ≡ Ok x → r ≡ Ok x
line_ok (Ok y) x p = ap Ok (same_ok y x p)
line_ok (Err e) x p = absurd (no_err (NoNumber e) x p)

pub some_ok : {X E : Type 0} (o : Option X) (e : E) (x : X) → ok_or o e ≡ Ok x → o ≡ Some x
some_ok None e x p = absurd (no_err e x p)
some_ok (Some y) e x p = ap Some (same_ok y x p)

pub cond_ok : {X E : Type 0} (b : Bool) (r : Result X E) (e : E) (x : X) → cond b r (Err e) ≡ Ok x → (b ≡ true) × (r ≡ Ok x)
cond_ok true r e x p = (refl, p)
cond_ok false r e x p = absurd (no_err e x p)

cond_no : {X E : Type 0} (b : Bool) (e : E) (r : Result X E) (x : X) → cond b (Err e) r ≡ Ok x → (b ≡ false) × (r ≡ Ok x)
cond_no true e r x p = absurd (no_err e x p)
cond_no false e r x p = (refl, p)

-- A number where one is due.
pub due_sound : (a : At) (w : List ℕ) (n : ℕ) → number_due_of a w ≡ Ok n → Number w n
due_sound a w n p =
    let q = cond_no (eqb (length w) 0) (BadWord a) (as_line (number_of a w)) n p in
    numeral_sound w n (sym (number_kind w) ∙ some_ok (as_number (kind_of w)) (record { at = a }) n (line_ok (number_of a w) n q.1))

pub due_complete : (a : At) (w : List ℕ) (n : ℕ) → Number w n → number_due_of a w ≡ Ok n
due_complete a w n h =
    let some = h.some in
    cond-false (eqb (length w) 0) (Err (BadWord a)) (as_line (number_of a w)) (ne_eqb (length w) 0 (λ e. omega arith))
    ∙ ap (λ o. as_line (ok_or o (record { at = a }))) (number_kind w ∙ numeral_complete w n h)

pub numbers_sound : (line byte : ℕ) (acc : List ℕ) (ws : List (List ℕ)) (out : List ℕ) → numbers_after line byte acc ws ≡ Ok out → (ns : List ℕ) × (out ≡ acc ++ ns) × AreNumbers ws ns
numbers_sound line byte acc [] out p = ([], sym (same_ok acc out p) ∙ sym (append-nil acc), tt)
numbers_sound line byte acc (w ∷ ws) out p =
    let q = bind_ok (number_due_of (spot line (byte + 1)) w) (λ n. numbers_after line (byte + 1 + length w) (acc ++ n ∷ []) ws) out p in
    let r = numbers_sound line (byte + 1 + length w) (acc ++ q.0 ∷ []) ws out q.2 in
    (q.0 ∷ r.0, r.1 ∙ append_assoc acc (q.0 ∷ []) r.0, (due_sound _ w q.0 q.1, r.2))

pub numbers_complete : (line byte : ℕ) (acc : List ℕ) (ws : List (List ℕ)) (ns : List ℕ) → AreNumbers ws ns → numbers_after line byte acc ws ≡ Ok (acc ++ ns)
numbers_complete line byte acc [] [] h = ap Ok (sym (append-nil acc))
numbers_complete line byte acc [] (n ∷ ns) h = absurd h
numbers_complete line byte acc (w ∷ ws) [] h = absurd h
numbers_complete line byte acc (w ∷ ws) (n ∷ ns) h =
    ap (λ r. and_then r (λ n. numbers_after line (byte + 1 + length w) (acc ++ n ∷ []) ws)) (due_complete (spot line (byte + 1)) w n h.0)
    ∙ numbers_complete line (byte + 1 + length w) (acc ++ n ∷ []) ws ns h.1
    ∙ ap Ok (append_assoc acc (n ∷ []) ns)

-- One field name.
no_more_ok : {X : Type 0} (line byte : ℕ) (ws : List (List ℕ)) (x y : X) → no_more line byte ws x ≡ Ok y → (ws ≡ []) × (x ≡ y)
no_more_ok line byte [] x y p = (refl, same_ok x y p)
no_more_ok line byte (w ∷ ws) x y p = absurd (no_err (BadWord (spot line (byte + 1))) y p)

pub field_line_sound : (line byte : ℕ) (ws : List (List ℕ)) (f : FieldName) → field_after line byte ws ≡ Ok f → ws ≡ field_name_of f ∷ []
field_line_sound line byte [] f p = absurd (no_err (BadWord (spot line byte)) f p)
field_line_sound line byte (w ∷ ws) f p =
    let q = bind_ok (ok_or (as_name (kind_of w)) (BadWord (spot line (byte + 1)))) (no_more line (byte + 1 + length w) ws) f p in
    let r = no_more_ok line (byte + 1 + length w) ws q.0 f q.2 in
    let s = field_sound w q.0 (some_ok (as_name (kind_of w)) (BadWord (spot line (byte + 1))) q.0 q.1) in
    ap (λ v. v ∷ ws) (s ∙ ap field_name_of r.1) ∙ ap (λ vs. field_name_of f ∷ vs) r.0

pub field_line_complete : (line byte : ℕ) (f : FieldName) → field_after line byte (field_name_of f ∷ []) ≡ Ok f
field_line_complete line byte f = ap (λ o. and_then (ok_or o (BadWord (spot line (byte + 1)))) (no_more line (byte + 1 + length (field_name_of f)) [])) (name_is f).2

-- The tail.
place_sound : (a : At) (w : List ℕ) (b : ℕ) → place_due_of a w b ≡ Ok tt → Number w b
place_sound a w b p =
    let q = bind_ok (as_sheet (number_due_of a w)) (λ n. cond (eqb n b) (Ok tt) (Err (Place a))) tt p in
    let r = cond_ok (eqb q.0 b) (Ok tt) (Place a) tt q.2 in
    subst (Number w) (eqb-true _ _ r.0) (due_sound a w q.0 (sheet_ok (number_due_of a w) q.0 q.1))

pub place_complete : (a : At) (w : List ℕ) (b : ℕ) → Number w b → place_due_of a w b ≡ Ok tt
place_complete a w b h =
    ap (λ r. and_then (as_sheet r) (λ n. cond (eqb n b) (Ok tt) (Err (Place a)))) (due_complete a w b h)
    ∙ cond-true (eqb b b) _ _ (eq-eqb b b refl)

pub places_sound : (line byte : ℕ) (ps : List ℕ) (ws : List (List ℕ)) → places_after line byte ps ws ≡ Ok tt → AreNumbers ws ps
places_sound line byte [] [] p = tt
places_sound line byte [] (w ∷ ws) p =
    let q = bind_ok (as_sheet (number_due_of (spot line (byte + 1)) w)) (λ n. Err (Place (spot line (byte + 1)))) tt p in
    absurd (no_err (Place (spot line (byte + 1))) tt q.2)
places_sound line byte (b ∷ ps) [] p = absurd (no_err (Place (spot line byte)) tt p)
places_sound line byte (b ∷ ps) (w ∷ ws) p =
    let q = bind_ok (place_due_of (spot line (byte + 1)) w b) (λ _. places_after line (byte + 1 + length w) ps ws) tt p in
    (place_sound (spot line (byte + 1)) w b q.1, places_sound line (byte + 1 + length w) ps ws q.2)

pub places_complete : (line byte : ℕ) (ps : List ℕ) (ws : List (List ℕ)) → AreNumbers ws ps → places_after line byte ps ws ≡ Ok tt
places_complete line byte [] [] h = refl
places_complete line byte [] (w ∷ ws) h = absurd h
places_complete line byte (b ∷ ps) [] h = absurd h
places_complete line byte (b ∷ ps) (w ∷ ws) h =
    ap (λ r. and_then r (λ _. places_after line (byte + 1 + length w) ps ws)) (place_complete (spot line (byte + 1)) w b h.0)
    ∙ places_complete line (byte + 1 + length w) ps ws h.1

-- The first word.
abbrev pub OpenTold : ℕ → ℕ → List ℕ → List (List ℕ) → Result Opened SheetFault → Type 0
OpenTold line byte w ws (Ok o) = (k : Keyword) × (w ≡ keyword k) × (o ≡ record { keyword = k; stop = byte + length (keyword k); words = ws })
OpenTold line byte w ws (Err e) = ((k : Keyword) → w ≡ keyword k → ⊥) × (e ≡ Line (BadWord (spot line byte)))

open_kind : (line byte : ℕ) (w : List ℕ) (ws : List (List ℕ)) (o : Option Keyword) → as_keyword (kind_of w) ≡ o → OpenTold line byte w ws (as_sheet (and_then (ok_or o (BadWord (spot line byte))) (λ k. Ok (record { keyword = k; stop = byte + length w; words = ws }))))
open_kind line byte w ws None p = (λ k is. none-some k (sym p ∙ ap (λ v. as_keyword (kind_of v)) is ∙ (keyword_is k).2), refl)
open_kind line byte w ws (Some k) p = let is = keyword_sound w k p in (k, is, ap (λ (v : List ℕ). record { keyword = k; stop = byte + length v; words = ws }) is)

pub open_told : (line byte : ℕ) (w : List ℕ) (ws : List (List ℕ)) → OpenTold line byte w ws (as_sheet (opened line byte (w ∷ ws)))
open_told line byte w ws = open_kind line byte w ws (as_keyword (kind_of w)) refl

pub opened_complete : (line byte : ℕ) (k : Keyword) (ws : List (List ℕ)) → opened line byte (keyword k ∷ ws) ≡ Ok (record { keyword = k; stop = byte + length (keyword k); words = ws })
opened_complete line byte k ws = ap (λ o. and_then (ok_or o (BadWord (spot line byte))) (λ k2. Ok (record { keyword = k2; stop = byte + length (keyword k); words = ws }))) (keyword_is k).2
