-- What is wrong with a text that is no sheet, and where: the first rule that it breaks. Assumes nothing.
-- In each relation a is the place of the fault, and `said` is what stands on its line between the keyword and that place.
--   NoNumber w a e            the word w is empty, or it is no number
--   NoPlace w ps a e          the word w is no number, or it is not the first of the places ps
--   BadName ws said a e       the words of a `field` line are not one name
--   BadNumber ws said a e     the words begin with numbers, and the next is none
--   BadPlaceAt ps ws said a e a word that is not the next place stands behind the first of the places ps
--   BadPlace ps ws said a e   the words begin with the first of the places ps, and then one is not the next place, or too many or too few
--   Breaks k ps ws said a e   one of these, for a line with the keyword k
--   Faulty sheet ts e         the sheet is in order up to the place of e, which stands behind the tasks ts, and there breaks the rule that e tells
use Rattle.std.specs.Prelude.{◌≡◌, ℕ, ◌<◌, true, false, List, [], ◌∷◌, ◌++◌, length, ◌≢◌}
use Rattle.sheet.specs.Begins.{place_behind, may_come, Reached, NextLine}
use Rattle.faults.specs.Parts.{bad_word, no_number}
use Rattle.sheet.specs.Form.{Entry, places, behind, AreNumbers}
use Rattle.sheet.specs.Lines.{Due, start}
use Rattle.sheet.specs.Names.{keyword, field_name_of}
use Rattle.sheet.specs.Numeral.{Number}
use Rattle.sheet.specs.declared.fault.At.{At}
use Rattle.sheet.specs.declared.fault.SheetFault.{SheetFault}
use Rattle.sheet.specs.declared.fault.SheetFault.TheVariants.{Order, Place}
use Rattle.sheet.specs.declared.names.FieldName.{FieldName}
use Rattle.sheet.specs.declared.names.Keyword.{Keyword}
use Rattle.sheet.specs.declared.names.Keyword.TheVariants.{Field, Digits, Claim, Tail}
use Rattle.sheet.specs.Split.{lacks}

pub data NoNumber (w : List ℕ) (a : At) (e : SheetFault) : Type 0 where
  empty_word : w ≡ [] → e ≡ bad_word a → NoNumber w a e
  not_number : (w ≢ []) → ((n : ℕ) → Number w n → ⊥) → e ≡ no_number a → NoNumber w a e

pub data NoPlace (w ps : List ℕ) (a : At) (e : SheetFault) : Type 0 where
  no_number_at : NoNumber w a e → NoPlace w ps a e
  false_place : (n : ℕ) → Number w n → ((rest : List ℕ) → ps ≢ n ∷ rest) → e ≡ Place a → NoPlace w ps a e

pub data BadName (ws : List (List ℕ)) (said : List ℕ) (a : At) (e : SheetFault) : Type 0 where
  no_name : ws ≡ [] → said ≡ [] → e ≡ bad_word a → BadName ws said a e
  unknown_name : (w : List ℕ) (more : List (List ℕ)) → ws ≡ w ∷ more → ((f : FieldName) → w ≢ field_name_of f) → said ≡ 32 ∷ [] → e ≡ bad_word a → BadName ws said a e
  second_name : (f : FieldName) (w : List ℕ) (more : List (List ℕ)) → ws ≡ field_name_of f ∷ w ∷ more → said ≡ behind 32 (field_name_of f ∷ []) ++ 32 ∷ [] → e ≡ bad_word a → BadName ws said a e

pub record BadNumber (ws : List (List ℕ)) (said : List ℕ) (a : At) (e : SheetFault) : Type 0 where
  pub good : List (List ℕ)
  pub ns : List ℕ
  pub w : List ℕ
  pub more : List (List ℕ)
  pub words : ws ≡ good ++ w ∷ more
  pub numbers : AreNumbers good ns
  pub said_is : said ≡ behind 32 good ++ 32 ∷ []
  pub broken : NoNumber w a e

pub record BadPlaceAt (ps : List ℕ) (ws : List (List ℕ)) (said : List ℕ) (a : At) (e : SheetFault) : Type 0 where
  pub good : List (List ℕ)
  pub first : List ℕ
  pub left : List ℕ
  pub w : List ℕ
  pub more : List (List ℕ)
  pub places_are : ps ≡ first ++ left
  pub words : ws ≡ good ++ w ∷ more
  pub numbers : AreNumbers good first
  pub said_is : said ≡ behind 32 good ++ 32 ∷ []
  pub broken : NoPlace w left a e

pub data BadPlace (ps : List ℕ) (ws : List (List ℕ)) (said : List ℕ) (a : At) (e : SheetFault) : Type 0 where
  at_word : BadPlaceAt ps ws said a e → BadPlace ps ws said a e
  too_few : (first : List ℕ) (p : ℕ) (left : List ℕ) → ps ≡ first ++ p ∷ left → AreNumbers ws first → said ≡ behind 32 ws → e ≡ Place a → BadPlace ps ws said a e

abbrev pub Breaks : Keyword → List ℕ → List (List ℕ) → List ℕ → At → SheetFault → Type 0
Breaks Field ps ws said a e = BadName ws said a e
Breaks Digits ps ws said a e = BadNumber ws said a e
Breaks Claim ps ws said a e = BadNumber ws said a e
Breaks Tail ps ws said a e = BadPlace ps ws said a e

pub data Faulty (sheet : List ℕ) (ts : List Entry) (e : SheetFault) : Type 0 where
  too_long : 32768 < length sheet → ts ≡ [] → e ≡ Order (place_behind []) → Faulty sheet ts e
  -- no line is left, or the last is not closed
  unclosed : (due : Due) (before rest : List ℕ) → Reached sheet ts due before rest → lacks 10 rest ≡ true → e ≡ Order (place_behind before) → Faulty sheet ts e
  unknown_word : (due : Due) (before w : List ℕ) (ws : List (List ℕ)) (more : List ℕ) → NextLine sheet ts due before w ws more
      → ((k : Keyword) → w ≢ keyword k) → e ≡ bad_word (place_behind before) → Faulty sheet ts e
  out_of_order : (due : Due) (before : List ℕ) (k : Keyword) (ws : List (List ℕ)) (more : List ℕ) → NextLine sheet ts due before (keyword k) ws more
      → may_come due (length ts) k ≡ false → e ≡ Order (place_behind before) → Faulty sheet ts e
  in_line : (due : Due) (before : List ℕ) (k : Keyword) (ws : List (List ℕ)) (more said : List ℕ) → NextLine sheet ts due before (keyword k) ws more
      → may_come due (length ts) k ≡ true → Breaks k (places ts) ws said (place_behind (before ++ (keyword k ++ said))) e → Faulty sheet ts e
  behind_tail : (before : List ℕ) (ws : List (List ℕ)) (more : List ℕ) → NextLine sheet ts start before (keyword Tail) ws more
      → AreNumbers ws (places ts) → (more ≢ []) → e ≡ Order (place_behind (before ++ ((keyword Tail ++ behind 32 ws) ++ 10 ∷ []))) → Faulty sheet ts e
