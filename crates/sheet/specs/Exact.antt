-- The reading of a sheet and its form agree. Assumes nothing.
--   ReadsExactly bytes   the reading answers the tasks ts exactly where the bytes have the form with the tasks ts; no two lists of tasks have the same bytes;
--                        where it stops, no tasks have this text, and it begins with the tasks read so far
use Rattle.std.specs.Prelude.{◌≡◌, ℕ, List, Ok, Err}
use Rattle.sheet.specs.Form.{Entry, Tasks, HasForm}
use Rattle.sheet.specs.Lines.{Stopped, reading}

pub record ReadsExactly (bytes : List ℕ) : Type 0 where
  pub sound : (ts : List Entry) → reading bytes ≡ Ok ts → HasForm bytes ts
  pub complete : (ts : List Entry) → HasForm bytes ts → reading bytes ≡ Ok ts
  pub only : (ts us : List Entry) → HasForm bytes ts → HasForm bytes us → ts ≡ us
  pub refused : (s : Stopped) → reading bytes ≡ Err s → (ts : List Entry) → HasForm bytes ts → ⊥
  pub begun : (s : Stopped) → reading bytes ≡ Err s → (rest : List ℕ) × Tasks 0 s.tasks bytes rest
