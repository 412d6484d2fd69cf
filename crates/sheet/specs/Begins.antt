-- A sheet that is in order up to where a line begins. Assumes nothing.
--   naming_line f       the `field` line that names f
--   closed text         how many lines the text closes
--   place_behind text   the place right behind a text with which the sheet begins
--   Opening f ds text   the text is the closed lines of a task before its claim: its field is f and its digits are ds
--   Begun b due text    the text is the closed lines of a task that begins at the byte b, up to what is due
--   Room due n          n whole tasks leave room for the one that is begun
--   may_come due n k    a line with the keyword k may come where this is due, behind n whole tasks
--   Reached sheet ts due before rest   `before` is the tasks ts and the lines of a task that is begun, all in order; the rest follows
--   NextLine .. before w ws more       behind that comes a closed line, with the first word w and then the words ws; more follows
use Rattle.std.specs.Prelude.{◌≡◌, ℕ, ◌+◌, ◌<◌, ◌≤◌, Bool, true, false, cond, List, [], ◌∷◌, ◌++◌, length, ◌==◌, nat_lt}
use Rattle.sheet.specs.Form.{Entry, behind, NumberLine, Naming, Tasks}
use Rattle.sheet.specs.Lines.{Due, start, digits_of, claim_of}
use Rattle.sheet.specs.Names.{keyword, field_name_of}
use Rattle.sheet.specs.Reading.{spot}
use Rattle.sheet.specs.declared.fault.At.{At}
use Rattle.sheet.specs.declared.names.FieldName.{FieldName}
use Rattle.sheet.specs.declared.names.Keyword.{Keyword}
use Rattle.sheet.specs.declared.names.Keyword.TheVariants.{Field, Digits, Claim, Tail}
use Rattle.sheet.specs.Split.{AllLack}

abbrev pub naming_line : FieldName → List ℕ
naming_line f = keyword Field ++ behind 32 (field_name_of f ∷ [])

abbrev pub closed : List ℕ → ℕ
closed [] = 0
closed (b ∷ bs) = cond (b == 10) (1 + closed bs) (closed bs)

abbrev pub place_behind : List ℕ → At
place_behind text = spot (closed text + 1) (length text)

pub record Opening (f : FieldName) (ds text : List ℕ) : Type 0 where
  pub naming : List ℕ
  pub digits : List ℕ
  pub whole : text ≡ naming ++ (digits ++ 10 ∷ [])
  pub field_line : Naming f naming
  pub digits_line : NumberLine Digits digits ds

abbrev pub Begun : ℕ → Due → List ℕ → Type 0
Begun b start text = text ≡ []
Begun b (digits_of from f) text = (from ≡ b) × (text ≡ naming_line f ++ 10 ∷ [])
Begun b (claim_of from f ds) text = (from ≡ b) × Opening f ds text

abbrev pub Room : Due → ℕ → Type 0
Room start n = n ≤ 32
Room (digits_of b f) n = n < 32
Room (claim_of b f ds) n = n < 32

abbrev pub may_come : Due → ℕ → Keyword → Bool
may_come start n Field = nat_lt n 32
may_come start n Digits = nat_lt n 32
may_come start n Claim = false
may_come start n Tail = true
may_come (digits_of b f) n Field = false
may_come (digits_of b f) n Digits = true
may_come (digits_of b f) n Claim = false
may_come (digits_of b f) n Tail = false
may_come (claim_of b f ds) n Field = false
may_come (claim_of b f ds) n Digits = false
may_come (claim_of b f ds) n Claim = true
may_come (claim_of b f ds) n Tail = false

pub record Reached (sheet : List ℕ) (ts : List Entry) (due : Due) (before rest : List ℕ) : Type 0 where
  pub short : length sheet ≤ 32768
  pub whole : sheet ≡ before ++ rest
  pub tasks : List ℕ
  pub begun : List ℕ
  pub before_is : before ≡ tasks ++ begun
  pub body : Tasks 0 ts tasks []
  pub lines : Begun (length tasks) due begun
  pub room : Room due (length ts)

-- no word has a blank or a closing byte in it
pub record NextLine (sheet : List ℕ) (ts : List Entry) (due : Due) (before w : List ℕ) (ws : List (List ℕ)) (more : List ℕ) : Type 0 where
  pub reached : Reached sheet ts due before ((w ++ behind 32 ws) ++ 10 ∷ more)
  pub no_blank : AllLack 32 (w ∷ ws)
  pub not_closed : AllLack 10 (w ∷ ws)
