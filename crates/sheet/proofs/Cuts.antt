-- One line cut off the rest of the sheet, and the end of the sheet.
use Rattle.std.proofs.Common.{◌≡◌, ℕ, ◌+◌, ◌<◌, ◌≤◌, ◌&&◌, eqb, List, [], ◌∷◌, ◌++◌, length, drop, Ok, Err, Result, sym, refl, ap, ◌∙◌, ⊎_elim, arith}
use Rattle.std.proofs.lemmas.List.{drop_all, drop-drop, length-drop}
use Rattle.std.proofs.Math.Seq.{drop-append_seam}
use Rattle.std.proofs.lemmas.Bool.{ne_eqb, le-ltb, cond-true, cond-false, cases_Bool, cond_both, and_left}
use Rattle.sheet.proofs.Splits.{after_drop, after_none, split_some}
use Rattle.sheet.specs.Form.{Entry}
use Rattle.sheet.specs.Lines.{Due, Outcome, stopped, or_stop, as_sheet, turn, ended, opened_of, lines_after, read_from, end_from, reading_from, start}
use Rattle.sheet.specs.Reading.{spot, Opened, opened}
use Rattle.sheet.specs.Split.{prepend, split, after}
use Rattle.sheet.specs.declared.fault.LineFault.{LineFault}
use Rattle.sheet.specs.declared.fault.SheetFault.{SheetFault}
use Rattle.sheet.specs.declared.fault.SheetFault.TheVariants.{Order}

-- what an opened line leads to
abbrev goes_to : ℕ → ℕ → List Entry → Due → (List Entry → Due → Outcome) → Result (Unit {0}) SheetFault → Result Opened LineFault → Outcome
goes_to line byte ts due next end r = or_stop ts (as_sheet r) (λ o. turn line byte ts due next end o.keyword o.stop o.words)

pub lines_step : (line byte : ℕ) (l : List ℕ) (ls : List (List ℕ)) (ts : List Entry) (due : Due) → lines_after line byte (l ∷ ls) ts due ≡ or_stop ts (opened_of line byte l ls) (λ o. turn line byte ts due (lines_after (line + 1) (byte + length l + 1) ls) (ended (line + 1) (byte + length l + 1) ls) o.keyword o.stop o.words)
unfolding lines_after
lines_step line byte l ls ts due = refl

prepended : (line byte : ℕ) (l : List ℕ) (b : ℕ) (ws : List (List ℕ)) → opened_of line byte l (prepend b ws) ≡ as_sheet (opened line byte (split 32 l))
prepended line byte l b [] = refl
prepended line byte l b (w ∷ ws) = refl

-- a split has pieces, so the line before it is closed
pub not_last : (line byte : ℕ) (l : List ℕ) (stop : ℕ) (xs : List ℕ) → opened_of line byte l (split stop xs) ≡ as_sheet (opened line byte (split 32 l))
not_last line byte l stop [] = refl
not_last line byte l stop (b ∷ bs) =
    ⊎_elim
    (λ t. ap (opened_of line byte l) (cond-true _ ([] ∷ split stop bs) (prepend b (split stop bs)) t))
    (λ f. ap (opened_of line byte l) (cond-false _ ([] ∷ split stop bs) (prepend b (split stop bs)) f) ∙ prepended line byte l b (split stop bs))
    (cases_Bool (eqb b stop))

-- text is the line at the byte b0, and behind is what follows it
pub record Cut (sheet : List ℕ) (b0 : ℕ) (text behind : List ℕ) : Type 0 where
  pub whole : drop b0 sheet ≡ text ++ behind
  pub pieces : split 10 (drop b0 sheet) ≡ text ∷ after 10 behind

module _ {sheet : List ℕ} {b0 : ℕ} {text behind : List ℕ} (h : Cut sheet b0 text behind) (l0 : ℕ) (ts : List Entry) (due : Due) where
  pub no_line : length behind ≡ 0 → read_from sheet l0 b0 ts due ≡ stopped ts (Order (spot l0 b0))
  no_line e =
      ap (λ ps. lines_after l0 b0 ps ts due) (h.pieces ∙ ap (λ ps. text ∷ ps) (after_none 10 behind e))
      ∙ lines_step l0 b0 text [] ts due

  -- the lines behind begin at the next byte
  behind_is : 0 < length behind → after 10 behind ≡ split 10 (drop (b0 + length text + 1) sheet)
  behind_is some =
      after_drop 10 behind some
      ∙ ap (split 10)
      (ap (drop 1) (sym (drop-append_seam text behind) ∙ ap (drop (length text)) (sym h.whole) ∙ drop-drop (length text) b0 sheet) ∙ drop-drop 1 (b0 + length text) sheet)

  pub line_is : 0 < length behind → (r : Result Opened LineFault) → opened l0 b0 (split 32 text) ≡ r → read_from sheet l0 b0 ts due ≡ goes_to l0 b0 ts due (read_from sheet (l0 + 1) (b0 + length text + 1)) (end_from sheet (l0 + 1) (b0 + length text + 1)) r
  line_is some r e =
      ap (λ ps. lines_after l0 b0 ps ts due) (h.pieces ∙ ap (λ ps. text ∷ ps) (behind_is some))
      ∙ lines_step l0 b0 text (split 10 (drop (b0 + length text + 1) sheet)) ts due
      ∙ ap (λ o. or_stop ts o (λ o. turn l0 b0 ts due (read_from sheet (l0 + 1) (b0 + length text + 1)) (end_from sheet (l0 + 1) (b0 + length text + 1)) o.keyword o.stop o.words))
      (not_last l0 b0 text 10 (drop (b0 + length text + 1) sheet))
      ∙ ap (goes_to l0 b0 ts due (read_from sheet (l0 + 1) (b0 + length text + 1)) (end_from sheet (l0 + 1) (b0 + length text + 1))) e

-- The end of the sheet.
prepend_goes_on : (line byte : ℕ) (b : ℕ) (ws : List (List ℕ)) → ended line byte (prepend b ws) ≡ Err (Order (spot line byte))
prepend_goes_on line byte b [] = refl
prepend_goes_on line byte b (w ∷ ws) = cond-false (eqb (length (b ∷ w)) 0 && eqb (length ws) 0) (Ok tt) (Err (Order (spot line byte))) (and_left _ _ (ne_eqb (length (b ∷ w)) 0 (λ e. omega arith)))

pub goes_on : (line byte : ℕ) (xs : List ℕ) → 0 < length xs → ended line byte (split 10 xs) ≡ Err (Order (spot line byte))
goes_on line byte [] h = absurd (omega arith)
goes_on line byte (b ∷ bs) h =
    cond_both (eqb b 10) ([] ∷ split 10 bs) (prepend b (split 10 bs)) (λ ps. ended line byte ps ≡ Err (Order (spot line byte)))
    (λ t. let some = split_some 10 bs in cond-false (eqb (length (split 10 bs)) 0) (Ok tt) (Err (Order (spot line byte))) (ne_eqb (length (split 10 bs)) 0 (λ e. omega arith)))
    (λ f. prepend_goes_on line byte b (split 10 bs))

pub ends_at : (sheet : List ℕ) (l b : ℕ) → length sheet ≤ b → end_from sheet l b ≡ Ok tt
ends_at sheet l b h = ap (λ xs. ended l b (split 10 xs)) (drop_all b sheet h)

pub goes_on_at : (sheet : List ℕ) (l b : ℕ) → b < length sheet → end_from sheet l b ≡ Err (Order (spot l b))
goes_on_at sheet l b h = goes_on l b (drop b sheet) (simp length-drop (omega arith))

-- a sheet that is not too long is read
pub short_is : (sheet : List ℕ) (l b : ℕ) (ts : List Entry) → length sheet ≤ 32768 → reading_from sheet l b ts ≡ read_from sheet l b ts start
short_is sheet l b ts h = cond-false _ _ _ (le-ltb 32768 (length sheet) h)
