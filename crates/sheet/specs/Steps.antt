-- What each part of the reader promises: reading from where it began comes to reading from where it ended, or to the fault. Assumes nothing.
--   words_left v              the words of what is left of a line
--   places_left v ps          the words left are the places ps, or the fault
--   from_line l r ts          what is read from the opened line l and then from r on, where a task or the tail is due
--   IsDue k due               a line of numbers that begins with the keyword k is due
--   behind_numbers go ts due ns   what is read once the numbers ns of the line that is due are
--   NextWord, NoWord          one word of a line, or its end
--   LineOpened, LineRead      the line is opened; the next line of the sheet is
--   NumbersRead               the line of numbers that is due is read
--   OpeningRead, TaskRead     the lines up to the digits, the whole task is read
--   PlaceHolds                the next word is the place
--   TailRead                  the tail line is true, and nothing follows
--   .. Fail, .. Fails         the fault there
use Rattle.std.specs.Prelude.{◌≡◌, ℕ, ◌+◌, ◌<◌, ◌≤◌, List, [], ◌∷◌, ◌++◌, length, Ok, Err, Result, ◌≢◌}
use Rattle.sheet.specs.Form.{Entry, places}
use Rattle.sheet.specs.Lines.{entry, Due, start, digits_of, claim_of, Outcome, stopped, turn, places_after}
use Rattle.sheet.specs.Reading.{spot, opened}
use Rattle.sheet.specs.Split.{split, after}
use Rattle.sheet.specs.Views.{from, ending}
use Rattle.sheet.specs.Words.{kind_of, kind_in, text_of, place_of}
use Rattle.sheet.specs.declared.fault.At.{At}
use Rattle.sheet.specs.declared.fault.SheetFault.{SheetFault}
use Rattle.sheet.specs.declared.line.Line.{Line}
use Rattle.sheet.specs.declared.line.Words.{Words}
use Rattle.sheet.specs.declared.lines.Lines.{Lines}
use Rattle.sheet.specs.declared.names.FieldName.{FieldName}
use Rattle.sheet.specs.declared.names.Keyword.{Keyword}
use Rattle.sheet.specs.declared.names.Keyword.TheVariants.{Digits, Claim, Tail}
use Rattle.sheet.specs.declared.word.Word.{Word}

abbrev pub words_left : Words → List (List ℕ)
words_left v = after 32 v.rest.now

pub record NextWord (v0 : Words) (w : Word) (v1 : Words) : Type 0 where
  pub words : words_left v0 ≡ text_of w ∷ words_left v1
  pub kind : kind_in w ≡ kind_of (text_of w)
  pub place : place_of w ≡ spot v0.at.line (v0.at.byte + 1)
  pub stop : v1.at ≡ spot v0.at.line (v0.at.byte + 1 + length (text_of w))
  pub shorter : length v1.rest.now < length v0.rest.now

pub record NoWord (v0 v1 : Words) : Type 0 where
  pub words : words_left v0 ≡ []
  pub stop : v1.at ≡ v0.at

-- the text at a is the line l
pub record LineOpened (text : List ℕ) (a : At) (l : Line) : Type 0 where
  pub opens : opened a.line a.byte (split 32 text) ≡ Ok (record { keyword = l.keyword; stop = l.words.at.byte; words = words_left l.words })
  pub place : l.at ≡ a

pub record LineRead (r0 : Lines) (l : Line) (r1 : Lines) : Type 0 where
  pub read : (ts : List Entry) (due : Due) → from r0 ts due ≡ turn l.at.line l.at.byte ts due (from r1) (ending r1) l.keyword l.words.at.byte (words_left l.words)
  pub sheet : r1.sheet.now ≡ r0.sheet.now
  pub onward : r0.at.byte < r1.at.byte

pub record LineFails (r : Lines) (e : SheetFault) : Type 0 where
  pub fails : (ts : List Entry) (due : Due) → from r ts due ≡ stopped ts e

abbrev pub IsDue : Keyword → Due → Type 0
IsDue k start = ⊥
IsDue k (digits_of b f) = k ≡ Digits
IsDue k (claim_of b f ds) = k ≡ Claim

abbrev pub behind_numbers : (List Entry → Due → Outcome) → List Entry → Due → List ℕ → Outcome
behind_numbers go ts start ns = go ts start
behind_numbers go ts (digits_of b f) ns = go ts (claim_of b f ns)
behind_numbers go ts (claim_of b f ds) ns = go (ts ++ entry b f ds ns ∷ []) start

pub record NumbersRead (k : Keyword) (r0 : Lines) (ns : List ℕ) (r1 : Lines) : Type 0 where
  pub read : (ts : List Entry) (due : Due) → IsDue k due → from r0 ts due ≡ behind_numbers (from r1) ts due ns
  pub sheet : r1.sheet.now ≡ r0.sheet.now
  pub onward : r0.at.byte < r1.at.byte

pub record NumbersFail (k : Keyword) (r : Lines) (e : SheetFault) : Type 0 where
  pub fails : (ts : List Entry) (due : Due) → IsDue k due → from r ts due ≡ stopped ts e

abbrev pub from_line : Line → Lines → List Entry → Outcome
from_line l r ts = turn l.at.line l.at.byte ts start (from r) (ending r) l.keyword l.words.at.byte (words_left l.words)

pub record OpeningRead (l : Line) (r0 : Lines) (ps : List ℕ) (f : FieldName) (ds : List ℕ) (r1 : Lines) : Type 0 where
  pub read : (ts : List Entry) → places ts ≡ ps → from_line l r0 ts ≡ from r1 ts (claim_of l.at.byte f ds)
  pub room : length ps < 32
  pub sheet : r1.sheet.now ≡ r0.sheet.now
  pub onward : r0.at.byte ≤ r1.at.byte

pub record TaskRead (l : Line) (r0 : Lines) (ps : List ℕ) (t : Entry) (r1 : Lines) : Type 0 where
  pub read : (ts : List Entry) → places ts ≡ ps → from_line l r0 ts ≡ from r1 (ts ++ t ∷ []) start
  pub room : length ps < 32
  pub sheet : r1.sheet.now ≡ r0.sheet.now
  pub onward : r0.at.byte ≤ r1.at.byte

pub record TaskFails (l : Line) (r : Lines) (ps : List ℕ) (e : SheetFault) : Type 0 where
  pub fails : (ts : List Entry) → places ts ≡ ps → (l.keyword ≢ Tail) → from_line l r ts ≡ stopped ts e

abbrev pub places_left : Words → List ℕ → Result (Unit {0}) SheetFault
places_left v ps = places_after v.at.line v.at.byte ps (words_left v)

pub record PlaceHolds (v0 : Words) (p : ℕ) (v1 : Words) : Type 0 where
  pub holds : (ps : List ℕ) → places_left v0 (p ∷ ps) ≡ places_left v1 ps

pub record PlaceFails (v : Words) (p : ℕ) (e : SheetFault) : Type 0 where
  pub fails : (ps : List ℕ) → places_left v (p ∷ ps) ≡ Err e

pub record TailRead (l : Line) (r : Lines) (ps : List ℕ) : Type 0 where
  pub read : (ts : List Entry) → places ts ≡ ps → l.keyword ≡ Tail → from_line l r ts ≡ Ok ts

pub record TailFails (l : Line) (r : Lines) (ps : List ℕ) (e : SheetFault) : Type 0 where
  pub fails : (ts : List Entry) → places ts ≡ ps → l.keyword ≡ Tail → from_line l r ts ≡ stopped ts e
