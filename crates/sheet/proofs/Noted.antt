-- The places of tasks.
use Rattle.std.proofs.Common.{◌≡◌, ℕ, suc, ◌+◌, ◌<◌, ◌≤◌, List, [], ◌∷◌, ◌++◌, length, get_or, drop, Err, refl, ap, ◌∙◌}
use Rattle.std.proofs.lemmas.List.{drop_more, drop_all}
use Rattle.sheet.specs.Form.{Entry, places}
use Rattle.sheet.specs.Steps.{places_left, PlaceHolds, PlaceFails}
use Rattle.sheet.specs.declared.fault.SheetFault.{SheetFault}
use Rattle.sheet.specs.declared.line.Words.{Words}

pub length_places : (ts : List Entry) → length (places ts) ≡ length ts
length_places [] = refl
length_places (t ∷ ts) = ap suc (length_places ts)

pub places_push : (ts : List Entry) (t : Entry) → places (ts ++ t ∷ []) ≡ places ts ++ t.byte ∷ []
places_push [] t = refl
places_push (u ∷ ts) t = ap (λ ps. u.byte ∷ ps) (places_push ts t)

-- the first i places were found at the words from v0 up to v
pub record Found (v0 : Words) (ps : List ℕ) (i : ℕ) (v : Words) : Type 0 where
  pub same : places_left v0 ps ≡ places_left v (drop i ps)

module _ {v0 : Words} {ps : List ℕ} {i : ℕ} {v : Words} (h : Found v0 ps i v) where
  next_is : i < length ps → places_left v0 ps ≡ places_left v (get_or ps i 0 ∷ drop (i + 1) ps)
  next_is lt = h.same ∙ ap (places_left v) (drop_more ps i 0 lt)

  pub found_more : {v1 : Words} → i < length ps → PlaceHolds v (get_or ps i 0) v1 → Found v0 ps (i + 1) v1
  found_more lt p = record { same = next_is lt ∙ p.holds (drop (i + 1) ps) }

  pub found_false : {e : SheetFault} → i < length ps → PlaceFails v (get_or ps i 0) e → places_left v0 ps ≡ Err e
  found_false lt p = next_is lt ∙ p.fails (drop (i + 1) ps)

  pub found_all : length ps ≤ i → places_left v0 ps ≡ places_left v []
  found_all le = h.same ∙ ap (places_left v) (drop_all i ps le)
