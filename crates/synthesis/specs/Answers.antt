-- What an analyser answers, by the digits kept. Assumes nothing.
--   ShownOf m w t             the length, the digits and the count shown are those of the steps over w
--   other_taps_of m w         how many taps the other register for w has to write: none where there is no other
--   other_answer m w          the first tap that differs, or nothing where there is no other
--   OtherWritten m w c c' o   the other register for w stands in front in the cells c', or they are c where there is none
--   Promised m w taps n       a shortest register for w, beside which there is another just where twice its length passes that of w, and n
--                             multiplications are within the bounds
--   Rival m w taps j other    another register of that length generates w, and first differs at tap j
use Rattle.std.specs.Prelude.{◌≡◌, ℕ, suc, ◌-◌, ◌*◌, ◌<◌, ◌≤◌, cond, ◌↔◌, List, length, Some, None, Option, nat_le}
use Rattle.field.specs.Meaning.{Meaning}
use Rattle.register.specs.Strings.{at, Digits, Generates}
use Rattle.massey.specs.Steps.{steps}
use Rattle.massey.specs.Theorems.{other_of, Shortest, Another, CountWithin}
use Rattle.synthesis.specs.Sound.{overwritten}
use Rattle.synthesis.specs.declared.shown.Shown.{Shown}

pub record ShownOf (m : Meaning) (w : List ℕ) (t : Shown) : Type 0 where
  pub length_is : t.length ≡ (steps m w).l
  pub digits_are : t.digits ≡ length w
  pub count_is : t.count ≡ (steps m w).count

abbrev pub other_taps_of : Meaning → List ℕ → ℕ
other_taps_of m w = cond (nat_le (2 * (steps m w).l) (length w)) 0 (steps m w).l

abbrev pub other_answer : Meaning → List ℕ → Option ℕ
other_answer m w = cond (nat_le (2 * (steps m w).l) (length w)) None (Some (steps m w).j)

abbrev pub OtherWritten : Meaning → List ℕ → List ℕ → List ℕ → Option ℕ → Type 0
OtherWritten m w cells cells' None = cells' ≡ cells
OtherWritten m w cells cells' (Some j) = cells' ≡ overwritten (other_of m (steps m w)) cells

pub record Promised (m : Meaning) (w taps : List ℕ) (count : ℕ) : Type 0 where
  pub shortest : Shortest m w taps
  pub another : Another m w taps ↔ (length w < 2 * length taps)
  pub count_within : CountWithin (length taps) (length w) count

-- entry j - 1 is the tap j
pub record Rival (m : Meaning) (w taps : List ℕ) (j : ℕ) (other : List ℕ) : Type 0 where
  pub digits : Digits m other
  pub generates : Generates m other w
  pub as_long : length other ≡ length taps
  pub least : 1 ≤ j
  pub most : j ≤ length taps
  pub before : (i : ℕ) → suc i < j → at other i ≡ at taps i
  pub differs : at other (j - 1) ≡ at taps (j - 1) → ⊥
