-- The mark of a claim on a string. Assumes nothing.
--   Tested m w claim broken        the claim and w are digits, and it breaks the rule first at that place, or generates w
--   Judged m w claim v             what the verdict v says of the claim: it breaks the rule at that place and not before; it generates w and is so much
--                                  longer than a shortest register; it is a shortest one and no other of its length generates w, or another does
--   Marked m w claim k             the mark k has such a verdict, the length of a shortest register, and the count of Massey's steps over w
--   Decided ..                     the verdict on a claim that generates w, by lengths
--   DecidedBy ..                   the verdict on a claim, by that where it generates w, and otherwise by the place that it breaks
--   OneVerdict                     no claim has two verdicts
--   claim_refusal m w claim        why a claim is refused: too many taps, too many digits, a tap or a digit that is none
--   mark_refusal m w claim cells   why marking in that many cells is refused: that, or too few cells
--   beats v u                      a claim with the verdict v counts before one with the verdict u
--   Better m w first second taps   the taps of the claim that counts: the second where its verdict beats the first's, else the first
--   better_refusal ..              why this is refused: as marking refuses the first claim, then the second
use Rattle.std.specs.Prelude.{◌≡◌, ℕ, ◌+◌, ◌*◌, ◌<◌, ◌≤◌, Bool, true, false, cond, ◌&&◌, List, length, Some, None, Option, MatchOption, nat_le, nat_lt}
use Rattle.field.specs.Meaning.{Meaning}
use Rattle.field.specs.declared.refusal.Refusal.{Refusal}
use Rattle.field.specs.declared.refusal.Refusal.TheVariants.{TooManyDigits, NotADigit, TooFewCells, TooManyTaps}
use Rattle.register.specs.Strings.{Digits, are_all_digits, Generates, Breaks}
use Rattle.massey.specs.Steps.{steps}
use Rattle.massey.specs.Theorems.{Shortest, ShortestLength, Another}
use Rattle.synthesis.specs.Scratch.{scratch_cells_for}
use Rattle.marking.specs.declared.verdict.Verdict.{Verdict}
use Rattle.marking.specs.declared.verdict.Verdict.TheVariants.{Wrong, Long, Only, Several}
use Rattle.marking.specs.declared.verdict.Mark.{Mark}

pub record Tested (m : Meaning) (w claim : List ℕ) (broken : Option ℕ) : Type 0 where
  pub claimed : Digits m claim
  pub given : Digits m w
  pub place : MatchOption broken (Generates m claim w) (λ j. Breaks m claim w j)

abbrev pub Judged : Meaning → List ℕ → List ℕ → Verdict → Type 0
Judged m w claim (Wrong place) = Breaks m claim w place
Judged m w claim (Long excess) = Generates m claim w × (0 < excess) × ((l : ℕ) × ShortestLength m w l × (l + excess ≡ length claim))
Judged m w claim Only = Shortest m w claim × (Another m w claim → ⊥)
Judged m w claim Several = Shortest m w claim × Another m w claim

pub record Marked (m : Meaning) (w claim : List ℕ) (k : Mark) : Type 0 where
  pub judged : Judged m w claim k.verdict
  pub shortest : ShortestLength m w k.length
  pub length_is : k.length ≡ (steps m w).l
  pub count_is : k.count ≡ (steps m w).count

-- what the steps decide: the claim's length beside the shortest, and twice that beside the number of digits
abbrev pub Decided : ℕ → ℕ → ℕ → Verdict → Type 0
Decided claimed shortest digits (Wrong place) = ⊥
Decided claimed shortest digits (Long excess) = (0 < excess) × (shortest + excess ≡ claimed)
Decided claimed shortest digits Only = (claimed ≤ shortest) × (2 * shortest ≤ digits)
Decided claimed shortest digits Several = (claimed ≤ shortest) × (digits < 2 * shortest)

-- the verdict on a claim that breaks the rule first at that place, or nowhere
pub record DecidedBy (claimed shortest digits : ℕ) (broken : Option ℕ) (v : Verdict) : Type 0 where
  pub says : MatchOption broken (Decided claimed shortest digits v) (λ j. v ≡ Wrong j)

-- no claim has two verdicts
abbrev pub OneVerdict : Type 0
OneVerdict = (m : Meaning) (w claim : List ℕ) (v u : Verdict) → Judged m w claim v → Judged m w claim u → v ≡ u

abbrev pub claim_refusal : Meaning → List ℕ → List ℕ → Option Refusal
claim_refusal m w claim =
    cond (nat_lt 256 (length claim)) (Some TooManyTaps)
    (cond (nat_lt 256 (length w)) (Some TooManyDigits) (cond (are_all_digits m claim && are_all_digits m w) None (Some NotADigit)))

abbrev or_else : Option Refusal → Option Refusal → Option Refusal
or_else None e = e
or_else (Some d) e = Some d

abbrev pub mark_refusal : Meaning → List ℕ → List ℕ → ℕ → Option Refusal
mark_refusal m w claim cells = or_else (claim_refusal m w claim) (cond (nat_le (scratch_cells_for (length w)) cells) None (Some TooFewCells))

abbrev generating : Verdict → Bool
generating (Wrong place) = false
generating (Long excess) = true
generating Only = true
generating Several = true

-- a shortest register, or one with a smaller excess
abbrev within : Verdict → ℕ → Bool
within (Wrong place) excess = false
within (Long less) excess = nat_lt less excess
within Only excess = true
within Several excess = true

-- the shortest before the long, a smaller excess before a larger, and all before the wrong
abbrev pub beats : Verdict → Verdict → Bool
beats v (Wrong place) = generating v
beats v (Long excess) = within v excess
beats v Only = false
beats v Several = false

pub record Better (m : Meaning) (w first second taps : List ℕ) : Type 0 where
  pub first_verdict : Verdict
  pub second_verdict : Verdict
  pub first_judged : Judged m w first first_verdict
  pub second_judged : Judged m w second second_verdict
  pub chosen : taps ≡ cond (beats second_verdict first_verdict) second first

abbrev pub better_refusal : Meaning → List ℕ → List ℕ → List ℕ → ℕ → Option Refusal
better_refusal m w first second cells = or_else (mark_refusal m w first cells) (mark_refusal m w second cells)
