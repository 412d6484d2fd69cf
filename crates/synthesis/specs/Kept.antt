-- The digits that an analyser keeps, and why its calls are refused. Assumes nothing.
--   kept st                the digits that a state keeps
--   the_default_field      what the field of an analyser made with no named field means
--   fed q w s              the digits kept once s was fed: s is kept where it is a digit, one of q, and there is room
--   trimmed w t            the digits kept once the string was trimmed to t
--   feed_refusal q w s     why s is not taken after w: no room, no digit
--   trim_refusal w t       why w is not trimmed to t: it has fewer digits
--   room_refusal n cells   why n taps are not written into so many cells
use Rattle.std.specs.Prelude.{ℕ, cond, List, [], ◌∷◌, ◌++◌, length, take, Some, None, Option, nat_le, nat_lt}
use Rattle.field.specs.Meaning.{Meaning}
use Rattle.field.specs.declared.refusal.Refusal.{Refusal}
use Rattle.field.specs.declared.refusal.Refusal.TheVariants.{NotADigit, TooManyDigits, TooFewCells, PastTheDigits}
use Rattle.residues.specs.Modulo.{modulo}
use Rattle.synthesis.specs.declared.state.State.{State}

abbrev pub kept : State → List ℕ
kept st = take st.progress.taken st.digits

abbrev pub the_default_field : Meaning
the_default_field = modulo 2

abbrev pub fed : ℕ → List ℕ → ℕ → List ℕ
fed q w s = cond (nat_lt (length w) 256) (cond (nat_lt s q) (w ++ s ∷ []) w) w

abbrev pub feed_refusal : ℕ → List ℕ → ℕ → Option Refusal
feed_refusal q w s = cond (nat_lt (length w) 256) (cond (nat_lt s q) None (Some NotADigit)) (Some TooManyDigits)

abbrev pub trimmed : List ℕ → ℕ → List ℕ
trimmed w t = cond (nat_le t (length w)) (take t w) w

abbrev pub trim_refusal : List ℕ → ℕ → Option Refusal
trim_refusal w t = cond (nat_le t (length w)) None (Some PastTheDigits)

abbrev pub room_refusal : ℕ → ℕ → Option Refusal
room_refusal n cells = cond (nat_lt cells n) (Some TooFewCells) None
