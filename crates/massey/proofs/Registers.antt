-- Registers as lists of taps. Assumes nothing.
use Rattle.std.proofs.Common.{◌≡◌, ℕ, suc, ◌-◌, ◌<◌, List, [], ◌∷◌, ◌++◌, length, sym, refl, ap, ◌∙◌, arith}
use native.Mathlib.Decide.{dec_lt}
use Rattle.std.proofs.lemmas.List.FromFn.{length-map-range_with_len, get_or-map-range_with_len, fill_by_all}
use Rattle.std.proofs.lemmas.List.{get_or_past, get_or_append_left, length_push}
use Rattle.field.specs.Meaning.{Meaning, add}
use Rattle.field.specs.Operations.{operations}
use Rattle.register.specs.Rows.{shifted}
use Rattle.register.specs.Rule.{discrepancy, Rule}
use Rattle.register.specs.Strings.{at, Digits, discrepancy_at, Generates, Breaks}
use Rattle.massey.specs.Steps.{State, taps_of}
use Rattle.massey.specs.Theorems.{register_of, other_of}
use Rattle.massey.proofs.Prefix.{discrepancy_cong}

-- the taps of a state's register
module _ (st : State ℕ) where
  pub register_length : length (register_of st) ≡ st.l
  unfolding register_of
  register_length = length-map-range_with_len (taps_of st.C) 0 st.l

  pub register_at : (i : ℕ) → i < st.l → at (register_of st) i ≡ st.C (suc i)
  unfolding register_of
  register_at i h = get_or-map-range_with_len (taps_of st.C) 0 st.l i i 0 h (omega arith)

  pub register_is : (taps : List ℕ) → length taps ≡ st.l → ((i : ℕ) → i < st.l → at taps i ≡ st.C (suc i)) → taps ≡ register_of st
  unfolding register_of
  register_is taps e same = fill_by_all (taps_of st.C) taps st.l 0 e same

  -- what the register leaves, by the row
  pub register_discrepancy : (m : Meaning) (w : List ℕ) (n : ℕ) → discrepancy_at m (register_of st) w n ≡ discrepancy (operations m) (at w) st.l (taps_of st.C) n
  register_discrepancy m w n =
      ap (λ l. discrepancy (operations m) (at w) l (at (register_of st)) n) register_length
      ∙ discrepancy_cong (operations m) (at w) (at w) st.l (at (register_of st)) (taps_of st.C) n register_at (λ i h. refl)

-- and of the other one
module _ (m : Meaning) (st : State ℕ) where
  abbrev other_taps_of : ℕ → ℕ
  other_taps_of = taps_of (λ i. add m (st.C i) (shifted (operations m) st.j st.B i))

  pub other_length : length (other_of m st) ≡ st.l
  unfolding other_of
  other_length = length-map-range_with_len other_taps_of 0 st.l

  pub other_at : (i : ℕ) → i < st.l → at (other_of m st) i ≡ add m (st.C (suc i)) (shifted (operations m) st.j st.B (suc i))
  unfolding other_of
  other_at i h = get_or-map-range_with_len other_taps_of 0 st.l i i 0 h (omega arith)

  pub other_is : (taps : List ℕ) → length taps ≡ st.l → ((i : ℕ) → i < st.l → at taps i ≡ add m (st.C (suc i)) (shifted (operations m) st.j st.B (suc i))) → taps ≡ other_of m st
  unfolding other_of
  other_is taps e same = fill_by_all other_taps_of taps st.l 0 e same

-- past its end a list counts as 0
pub every_digit : (m : Meaning) → 0 < m.order → (w : List ℕ) → Digits m w → (i : ℕ) → at w i < m.order
every_digit m some w digits i =
    elim (dec_lt i (length w)) [
      | yes h ↦ digits i h
      | no h ↦ let e : at w i ≡ 0 = get_or_past w i 0 (omega arith) in omega arith
    ]

-- taps that are those of a function keep its rule
pub rule_generates : (m : Meaning) (w taps : List ℕ) (l : ℕ) (t : ℕ → ℕ) → length taps ≡ l → ((i : ℕ) → i < l → at taps i ≡ t i)
    → Rule (operations m) (at w) (length w) l t → Generates m taps w
rule_generates m w taps l t e same rule n from to =
    ap (λ u. discrepancy (operations m) (at w) u (at taps) n) e
    ∙ discrepancy_cong (operations m) (at w) (at w) l (at taps) t n same (λ i h. refl)
    ∙ rule n (omega arith) to

-- a string and one digit more
module _ (m : Meaning) (taps w : List ℕ) (x : ℕ) where
  discrepancy_before : (n : ℕ) → n < length w → discrepancy_at m taps (w ++ x ∷ []) n ≡ discrepancy_at m taps w n
  discrepancy_before n h =
      discrepancy_cong (operations m) (at (w ++ x ∷ [])) (at w) (length taps) (at taps) (at taps) n (λ i l. refl)
      (λ i l. get_or_append_left w (x ∷ []) 0 i (omega arith))

  pub generates_push : Generates m taps w → discrepancy_at m taps (w ++ x ∷ []) (length w) ≡ 0 → Generates m taps (w ++ x ∷ [])
  generates_push g none n from to =
      elim (dec_lt n (length w)) [
        | yes h ↦ discrepancy_before n h ∙ g n from h
        | no h ↦ let e : n ≡ length w = omega (arith, length_push w x) in ap (discrepancy_at m taps (w ++ x ∷ [])) e ∙ none
      ]

  pub generates_prefix : Generates m taps (w ++ x ∷ []) → Generates m taps w
  generates_prefix g n from to = sym (discrepancy_before n to) ∙ g n from (omega (arith, length_push w x))

pub breaks_not : (m : Meaning) (taps w : List ℕ) (j : ℕ) → Breaks m taps w j → Generates m taps w → ⊥
breaks_not m taps w j b g = b.here (g (j - 1) (omega (arith, b.past)) (omega (arith, b.past, b.inside)))
