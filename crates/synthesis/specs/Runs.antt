-- Whole runs of calls, and what they promise. Assumes nothing.
--   called q w call          the digits kept once a call was made
--   performed q w calls      the digits kept once all were made, whatever they answered
--   run_refusal m w n o      why a run that leaves w is not reported in n cells and o others
--   Reported ..              what is reported of w, by the steps over it
--   OtherFound ..            there is a rival, which stands in the first cells, or there is none and no cell has changed
--   Found ..                 the promise: what is reported of w, in terms of all the registers that generate it
--   FoundOr ..               the same of a run that was not refused, and of one that was, that it changed no cell
use Rattle.std.specs.Prelude.{◌≡◌, ℕ, ◌*◌, ◌<◌, ◌≤◌, cond, List, length, take, drop, Some, None, Ok, Err, Option, Result, nat_lt}
use Rattle.std.specs.List.{fold}
use Rattle.field.specs.Meaning.{Meaning}
use Rattle.field.specs.declared.refusal.Refusal.{Refusal}
use Rattle.field.specs.declared.refusal.Refusal.TheVariants.{TooFewCells}
use Rattle.massey.specs.Steps.{steps}
use Rattle.massey.specs.Theorems.{register_of}
use Rattle.synthesis.specs.Answers.{ShownOf, other_taps_of, other_answer, OtherWritten, Promised, Rival}
use Rattle.synthesis.specs.Kept.{fed, trimmed, room_refusal}
use Rattle.synthesis.specs.Sound.{overwritten}
use Rattle.synthesis.specs.declared.call.Call.{Call}
use Rattle.synthesis.specs.declared.call.Call.TheVariants.{Feed, Expect, Show, Other, Trim}
use Rattle.synthesis.specs.declared.report.Report.{Report}

abbrev pub called : ℕ → List ℕ → Call → List ℕ
called q w (Feed s) = fed q w s
called q w Expect = w
called q w Show = w
called q w Other = w
called q w (Trim t) = trimmed w t

abbrev pub performed : ℕ → List ℕ → List Call → List ℕ
performed q w calls = fold (called q) w calls

abbrev pub run_refusal : Meaning → List ℕ → ℕ → ℕ → Option Refusal
run_refusal m w cells others = cond (nat_lt others (other_taps_of m w)) (Some TooFewCells) (room_refusal (steps m w).l cells)

pub record Reported (m : Meaning) (w : List ℕ) (t : Report) (cells cells' others others' : List ℕ) : Type 0 where
  pub shown : ShownOf m w t.shown
  pub register : cells' ≡ overwritten (register_of (steps m w)) cells
  pub answer : t.other ≡ other_answer m w
  pub other : OtherWritten m w others others' t.other

abbrev pub OtherFound : Meaning → List ℕ → List ℕ → List ℕ → List ℕ → Option ℕ → Type 0
OtherFound m w taps others others' None = (2 * length taps ≤ length w) × (others' ≡ others)
OtherFound m w taps others others' (Some j) = (length w < 2 * length taps)
    × Rival m w taps j (take (length taps) others')
    × (drop (length taps) others' ≡ drop (length taps) others)

pub record Found (m : Meaning) (w : List ℕ) (t : Report) (cells cells' others others' : List ℕ) : Type 0 where
  pub promised : Promised m w (take t.shown.length cells') t.shown.count
  pub as_long : length (take t.shown.length cells') ≡ t.shown.length
  pub rest : drop t.shown.length cells' ≡ drop t.shown.length cells
  pub digits_are : t.shown.digits ≡ length w
  pub count_is : t.shown.count ≡ (steps m w).count
  pub other : OtherFound m w (take t.shown.length cells') others others' t.other

-- a refusal leaves the cells as they were
abbrev pub FoundOr : Meaning → List ℕ → List ℕ → List ℕ → List ℕ → List ℕ → Result Report Refusal → Type 0
FoundOr m w cells cells' others others' (Ok t) = Found m w t cells cells' others others'
FoundOr m w cells cells' others others' (Err e) = (cells' ≡ cells) × (others' ≡ others)
