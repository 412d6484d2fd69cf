-- A text in pieces, each parted from the next by one byte, the stop. Empty pieces are kept. Assumes nothing.
--   split stop text   the pieces of the text
--   after stop rest   the pieces of what follows a piece: none, or the stop and then pieces
--   lacks stop text   no byte of the text is the stop
--   AllLack stop ws   that of each of the pieces ws
use Rattle.std.specs.Prelude.{◌≡◌, ℕ, Bool, true, false, cond, List, [], ◌∷◌, ◌==◌}

-- the byte before the first piece
abbrev pub prepend : ℕ → List (List ℕ) → List (List ℕ)
prepend b [] = (b ∷ []) ∷ []
prepend b (w ∷ ws) = (b ∷ w) ∷ ws

abbrev pub split : ℕ → List ℕ → List (List ℕ)
split stop [] = [] ∷ []
split stop (b ∷ bs) = cond (b == stop) ([] ∷ split stop bs) (prepend b (split stop bs))

abbrev pub after : ℕ → List ℕ → List (List ℕ)
after stop [] = []
after stop (b ∷ bs) = split stop bs

abbrev pub lacks : ℕ → List ℕ → Bool
lacks stop [] = true
lacks stop (b ∷ bs) = cond (b == stop) false (lacks stop bs)

abbrev pub AllLack : ℕ → List (List ℕ) → Type 0
AllLack stop [] = Unit {0}
AllLack stop (w ∷ ws) = (lacks stop w ≡ true) × AllLack stop ws
