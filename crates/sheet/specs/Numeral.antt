-- A number of a sheet: 1 to 5 figures, no leading zero unless it is 0, at most 65,535. Assumes nothing.
--   Figure b          the byte b is one of 0 to 9
--   Figures w         each byte of w is a figure
--   value_after n w   the number that the figures w write behind others of value n
--   Number w n        the word w is the number n
--   numeral w         the number that w is, if it is one, by a computation
use Rattle.std.specs.Prelude.{◌≡◌, ℕ, ◌+◌, ◌-◌, ◌*◌, ◌≤◌, Bool, cond, ◌&&◌, ◌||◌, List, [], ◌∷◌, length, Some, None, Option, ◌==◌, nat_le, nat_lt, slice_index, slice_index_or}

abbrev pub Figure : ℕ → Type 0
Figure b = (48 ≤ b) × (b ≤ 57)

abbrev pub Figures : List ℕ → Type 0
Figures [] = Unit {0}
Figures (b ∷ bs) = Figure b × Figures bs

abbrev pub value_after : ℕ → List ℕ → ℕ
value_after n [] = n
value_after n (b ∷ bs) = value_after (n * 10 + (b - 48)) bs

pub record Number (w : List ℕ) (n : ℕ) : Type 0 where
  pub some : 1 ≤ length w
  pub few : length w ≤ 5
  pub figures : Figures w
  pub plain : slice_index_or w 0 0 ≡ 48 → length w ≡ 1
  pub value : n ≡ value_after 0 w
  pub fits : n ≤ 65535

abbrev pub is_figure : ℕ → Bool
is_figure b = nat_le 48 b && nat_le b 57

abbrev pub figures_after : ℕ → List ℕ → Option ℕ
figures_after n [] = Some n
figures_after n (b ∷ bs) = cond (is_figure b) (figures_after (n * 10 + (b - 48)) bs) None

-- none or too many figures, or a leading zero
abbrev pub misshapen : List ℕ → Bool
misshapen w = length w == 0 || (nat_lt 5 (length w) || (slice_index w 0 == 48 && nat_lt 1 (length w)))

-- no number past 65,535
abbrev pub at_most : Option ℕ → Option ℕ
at_most None = None
at_most (Some n) = cond (nat_le n 65535) (Some n) None

abbrev pub numeral : List ℕ → Option ℕ
numeral w = cond (misshapen w) None (at_most (figures_after 0 w))
