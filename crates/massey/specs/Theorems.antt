-- What holds of the steps over every string, over every field that keeps the laws. Assumes nothing.
-- A register is the list of its taps, and its length is that of the list.
--   register_of st         the register of a state: the taps of row C
--   other_of m st          the register of the row C + x^j · B, with as many taps
--   expected m w           the digit that the register of the steps over w gives next: the negative of its feedback
--   Shortest m w taps      a register that generates w, as no shorter one does
--   ShortestLength m w l   the length of such a register
--   Another m w taps       some other register of the same length generates w
--   IsOther m w st         other_of generates w, and first differs from register_of at tap j
--   Expected m w x         with x after w, and with no other digit, the register of the steps over w leaves no discrepancy
--   CountWithin l k n      n multiplications are within the bounds for k digits and l taps
--   InBounds m k st        with k digits taken the cells of a state are digits, its rows begin with 1, and end where its length and shift say
use Rattle.std.specs.Prelude.{◌≡◌, ℕ, suc, ◌+◌, ◌-◌, ◌*◌, ◌<◌, ◌≤◌, ◌↔◌, List, [], ◌∷◌, ◌++◌, map, length}
use Rattle.std.specs.List.{range_with_len}
use Rattle.field.specs.Laws.{FieldLaws}
use Rattle.field.specs.Meaning.{Meaning, add}
use Rattle.field.specs.Operations.{operations, negative}
use Rattle.register.specs.Rows.{shifted}
use Rattle.register.specs.Rule.{feedback}
use Rattle.register.specs.Strings.{at, Digits, discrepancy_at, Generates}
use Rattle.massey.specs.Steps.{State, taps_of, steps}

unfoldable pub register_of : State ℕ → List ℕ
register_of st = map (taps_of st.C) (range_with_len 0 st.l)

unfoldable pub other_of : Meaning → State ℕ → List ℕ
other_of m st = map (taps_of (λ i. add m (st.C i) (shifted (operations m) st.j st.B i))) (range_with_len 0 st.l)

unfoldable pub expected : Meaning → List ℕ → ℕ
expected m w = let st = steps m w in negative m (feedback (operations m) (at w) st.l (taps_of st.C) (length w))

pub record Shortest (m : Meaning) (w taps : List ℕ) : Type 0 where
  pub digits : Digits m taps
  pub generates : Generates m taps w
  pub least : (t : List ℕ) → Digits m t → Generates m t w → length taps ≤ length t

pub record ShortestLength (m : Meaning) (w : List ℕ) (l : ℕ) : Type 0 where
  pub taps : List ℕ
  pub shortest : Shortest m w taps
  pub long : length taps ≡ l

pub record Another (m : Meaning) (w taps : List ℕ) : Type 0 where
  pub other : List ℕ
  pub digits : Digits m other
  pub generates : Generates m other w
  pub as_long : length other ≡ length taps
  pub differs : other ≡ taps → ⊥

-- entry j - 1 is the tap j
pub record IsOther (m : Meaning) (w : List ℕ) (st : State ℕ) : Type 0 where
  pub digits : Digits m (other_of m st)
  pub generates : Generates m (other_of m st) w
  pub as_long : length (other_of m st) ≡ st.l
  pub j_least : 1 ≤ st.j
  pub j_most : st.j ≤ st.l
  pub before : (i : ℕ) → suc i < st.j → at (other_of m st) i ≡ at (register_of st) i
  pub differs : at (other_of m st) (st.j - 1) ≡ at (register_of st) (st.j - 1) → ⊥

pub record Expected (m : Meaning) (w : List ℕ) (x : ℕ) : Type 0 where
  pub digit : x < m.order
  pub leaves_none : discrepancy_at m (register_of (steps m w)) (w ++ x ∷ []) (length w) ≡ 0
  pub only : (y : ℕ) → y < m.order → discrepancy_at m (register_of (steps m w)) (w ++ y ∷ []) (length w) ≡ 0 → y ≡ x
  pub generates : Generates m (register_of (steps m w)) (w ++ x ∷ [])

pub record CountWithin (l k count : ℕ) : Type 0 where
  pub short : 2 * l ≤ k → count ≤ l * (k + 1)
  pub long : k < 2 * l → count ≤ l * (2 * k + 1 - 2 * l)

pub record InBounds (m : Meaning) (k : ℕ) (st : State ℕ) : Type 0 where
  pub taken : st.k ≡ k
  pub C_digit : (i : ℕ) → st.C i < m.order
  pub C_one : st.C 0 ≡ 1
  pub C_past : (i : ℕ) → st.l < i → st.C i ≡ 0
  pub B_digit : (i : ℕ) → st.B i < m.order
  pub B_one : st.B 0 ≡ 1
  pub B_past : (i : ℕ) → k + 1 < i + st.j + st.l → st.B i ≡ 0
  pub b_digit : st.b < m.order
  pub b_some : 0 < st.b
  pub j_some : 0 < st.j
  pub room : st.j + st.l ≤ k + 1
  pub within : st.l ≤ k

-- the register of the steps is a shortest one
abbrev pub ShortestRegister : Type 0
ShortestRegister = (m : Meaning) → FieldLaws m → (w : List ℕ) → Digits m w → Shortest m w (register_of (steps m w))

-- there is another just where twice the length passes the string's
abbrev pub AnotherRegister : Type 0
AnotherRegister = (m : Meaning) → FieldLaws m → (w : List ℕ) → Digits m w → Another m w (register_of (steps m w)) ↔ (length w < 2 * (steps m w).l)

-- the same of any shortest register, whoever found it
abbrev pub AnotherShortest : Type 0
AnotherShortest = (m : Meaning) → FieldLaws m → (w : List ℕ) → Digits m w → (taps : List ℕ) → Shortest m w taps → Another m w taps ↔ (length w < 2 * length taps)

-- where twice the length passes the string's, other_of is another
abbrev pub OtherRegister : Type 0
OtherRegister = (m : Meaning) → FieldLaws m → (w : List ℕ) → Digits m w → length w < 2 * (steps m w).l → IsOther m w (steps m w)

-- of all digits the expected one alone continues the string with no discrepancy
abbrev pub ExpectedDigit : Type 0
ExpectedDigit = (m : Meaning) → FieldLaws m → (w : List ℕ) → Digits m w → Expected m w (expected m w)

-- the count needs no laws
abbrev pub CountBounds : Type 0
CountBounds = (m : Meaning) (w : List ℕ) → CountWithin (steps m w).l (length w) (steps m w).count

-- the state that the steps end with is in its bounds
abbrev pub StateBounds : Type 0
StateBounds = (m : Meaning) → FieldLaws m → (w : List ℕ) → Digits m w → InBounds m (length w) (steps m w)
