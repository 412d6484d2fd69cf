-- The form of a sheet, as a grammar: the text that a list of tasks may have. Assumes nothing.
--   Entry                     a task: the byte where its first line begins, its field, its digits and its claim
--   places ts                 the bytes where the tasks begin
--   behind stop words         the stop and a word, again and again
--   AreNumbers words ns       the words are the numbers ns
--   NumberLine k line ns      the line is the keyword k and the numbers ns, each behind one blank
--   Naming f text             the text is the closed `field` line of the field f; or nothing, and f is the default field
--   TaskText t text           the text is the closed lines of the task t
--   Tasks byte ts text rest   the text is that of the tasks ts, one behind the other from the byte on, and then the rest
--   HasForm bytes ts          the bytes are a sheet with the tasks ts: their texts and the tail line with their places
use Rattle.std.specs.Prelude.{◌≡◌, ℕ, ◌+◌, ◌≤◌, List, [], ◌∷◌, ◌++◌, length}
use Rattle.sheet.specs.Names.{keyword, field_name_of, the_default_field}
use Rattle.sheet.specs.Numeral.{Number}
use Rattle.sheet.specs.declared.names.FieldName.{FieldName}
use Rattle.sheet.specs.declared.names.Keyword.{Keyword}
use Rattle.sheet.specs.declared.names.Keyword.TheVariants.{Field, Digits, Claim, Tail}

pub record Entry : Type 0 where
  pub byte : ℕ
  pub field : FieldName
  pub digits : List ℕ
  pub claim : List ℕ

abbrev pub places : List Entry → List ℕ
places [] = []
places (t ∷ ts) = t.byte ∷ places ts

abbrev pub behind : ℕ → List (List ℕ) → List ℕ
behind stop [] = []
behind stop (w ∷ ws) = stop ∷ (w ++ behind stop ws)

abbrev pub AreNumbers : List (List ℕ) → List ℕ → Type 0
AreNumbers [] [] = Unit {0}
AreNumbers [] (n ∷ ns) = ⊥
AreNumbers (w ∷ ws) [] = ⊥
AreNumbers (w ∷ ws) (n ∷ ns) = Number w n × AreNumbers ws ns

pub record NumberLine (k : Keyword) (line : List ℕ) (ns : List ℕ) : Type 0 where
  pub words : List (List ℕ)
  pub text : line ≡ keyword k ++ behind 32 words
  pub numbers : AreNumbers words ns

pub data Naming (f : FieldName) (text : List ℕ) : Type 0 where
  plain : text ≡ [] → f ≡ the_default_field → Naming f text
  named : text ≡ (keyword Field ++ behind 32 (field_name_of f ∷ [])) ++ 10 ∷ [] → Naming f text

pub record TaskText (t : Entry) (text : List ℕ) : Type 0 where
  pub naming : List ℕ
  pub digits : List ℕ
  pub claim : List ℕ
  pub whole : text ≡ naming ++ (digits ++ 10 ∷ (claim ++ 10 ∷ []))
  pub field_line : Naming t.field naming
  pub digits_line : NumberLine Digits digits t.digits
  pub claim_line : NumberLine Claim claim t.claim

abbrev pub Tasks : ℕ → List Entry → List ℕ → List ℕ → Type 0
Tasks byte [] text rest = text ≡ rest
Tasks byte (t ∷ ts) text rest = (own : List ℕ) × (more : List ℕ) × (text ≡ own ++ more) × (t.byte ≡ byte) × TaskText t own × Tasks (byte + length own) ts more rest

pub record HasForm (bytes : List ℕ) (ts : List Entry) : Type 0 where
  pub short : length bytes ≤ 32768
  pub few : length ts ≤ 32
  pub tail : List ℕ
  pub body : Tasks 0 ts bytes (tail ++ 10 ∷ [])
  pub tail_line : NumberLine Tail tail (places ts)
