-- The theorems, of strings of digits. Assumes nothing.
use Rattle.std.proofs.Common.{◌≡◌, ℕ, suc, ◌-◌, ◌*◌, ◌<◌, ◌≤◌, List, length, sym, ap, ◌∙◌, subst, arith}
use Prim.Native.Nat.{Fin}
use Rattle.std.proofs.lemmas.List.{ext_get_or}
use Rattle.std.proofs.lemmas.Bool.{eqb-false}
use Rattle.field.specs.Laws.{FieldLaws}
use Rattle.field.specs.Meaning.{Meaning, add}
use Rattle.field.specs.Operations.{Operations}
use Rattle.field.proofs.Totals.{positive}
use Rattle.register.specs.Strings.{at, Digits, Generates}
use Rattle.massey.specs.Steps.{State, run, steps}
use Rattle.massey.specs.Theorems.{register_of, other_of, Shortest, IsOther, InBounds}
use Rattle.massey.proofs.Taken.{run_k}
use Rattle.massey.proofs.Fields.{IsField}
use Rattle.massey.proofs.Elements.{elements, elements_field}
use Rattle.massey.proofs.Series.{tail}
use Rattle.massey.proofs.Rows.{IsRow, Vanishes, row_of, row_is, row_tap, vanishes_rule, rule_vanishes}
use Rattle.massey.proofs.Invariant.{Invariant, run_keeps}
use Rattle.massey.proofs.Unique.{only_row}
use Rattle.massey.proofs.Other.{other_row_of, other_before, other_differs, other_row, other_vanishes}
use Rattle.massey.proofs.Values.{values, state_values, discrepancy_value, shifted_value, run_value}
use Rattle.massey.proofs.Registers.{register_length, register_at, other_length, other_at, every_digit, rule_generates}

module _ (m : Meaning) (laws : FieldLaws m) (w : List ℕ) (dw : Digits m w) where
  abbrev o : Operations (Fin m.order)
  o = elements m laws.ring

  abbrev F : IsField o
  F = elements_field m laws

  -- the entries of a list of digits, as elements
  elements_of : (t : List ℕ) → Digits m t → ℕ → Fin m.order
  elements_of t d i = (at t i, every_digit m (positive m laws.ring) t d i)

  s : ℕ → Fin m.order
  s = elements_of w dw

  st : State (Fin m.order)
  st = run o s (length w)

  same : state_values st ≡ steps m w
  unfolding st s elements_of
  same = run_value m laws.ring s (length w)

  invariant : Invariant o s st
  unfolding st
  invariant = run_keeps F s (length w)

  taken : st.k ≡ length w
  unfolding st
  taken = run_k o s (length w)

  -- from lists to rows of elements, and back
  register_vanishes : (t : List ℕ) (d : Digits m t) → Generates m t w → Vanishes o s (length t) st.k (row_of o (length t) (elements_of t d))
  unfolding s elements_of
  register_vanishes t d g =
      rule_vanishes F s (length t) st.k (elements_of t d)
      (λ n from to. native.Mathlib.Fin.val_path (discrepancy_value m laws.ring s (length t) (elements_of t d) n ∙ g n from (omega (arith, taken))))

  row_generates : (R : ℕ → Fin m.order) → IsRow o st.l R → Vanishes o s st.l st.k R
      → (taps : List ℕ) → length taps ≡ st.l → ((i : ℕ) → i < st.l → at taps i ≡ (R (suc i)).0) → Generates m taps w
  unfolding s elements_of
  row_generates R r q taps e at_taps =
      rule_generates m w taps st.l (values (tail R)) e at_taps
      (λ n from to.
      sym (discrepancy_value m laws.ring s st.l (tail R) n)
      ∙ ap (λ x. x.0) (vanishes_rule F s st.l st.k R r q n from (omega (arith, taken))))

  shortest_values : Shortest m w (register_of (state_values st))
  shortest_values = record {
    digits = λ i h. let e = register_at (state_values st) i (omega (arith, register_length (state_values st))) in subst (λ x. x < m.order) (sym e) (st.C (suc i)).1;
    generates = row_generates st.C invariant.C_row invariant.C_vanishes (register_of (state_values st)) (register_length (state_values st)) (register_at (state_values st));
    least = λ t d g.
        let le = invariant.least (length t) _ (row_is o (length t) (elements_of t d)) (register_vanishes t d g) in
        omega (arith, register_length (state_values st));
  }

  pub shortest : Shortest m w (register_of (steps m w))
  shortest = subst (λ x. Shortest m w (register_of x)) same shortest_values

  bounds_values : InBounds m (length w) (state_values st)
  bounds_values = record {
    taken = taken;
    C_digit = λ i. (st.C i).1;
    C_one = ap (λ x. x.0) invariant.C_row.one;
    C_past = λ i h. ap (λ x. x.0) (invariant.C_row.past i h);
    B_digit = λ i. (st.B i).1;
    B_one = ap (λ x. x.0) invariant.B_one;
    B_past = λ i h. ap (λ x. x.0) (invariant.B_past i (omega (arith, taken)));
    b_digit = st.b.1;
    b_some = omega (arith, eqb-false st.b.0 0 invariant.b_some);
    j_some = invariant.j_some;
    room = omega (arith, taken, invariant.room);
    within = omega (arith, taken, invariant.room, invariant.j_some);
  }

  pub bounds : InBounds m (length w) (steps m w)
  bounds = subst (InBounds m (length w)) same bounds_values

  -- the taps of the other row
  other_tap : (i : ℕ) → i < st.l → at (other_of m (state_values st)) i ≡ (other_row_of o st (suc i)).0
  other_tap i h = other_at m (state_values st) i h ∙ ap (add m (st.C (suc i)).0) (sym (shifted_value m laws.ring st.j st.B (suc i)))

  other_values : length w < 2 * st.l → IsOther m w (state_values st)
  other_values h =
      let long : st.k < 2 * st.l = omega (arith, taken) in
      let least : 1 ≤ st.j = omega (arith, invariant.j_some) in
      let most : st.j ≤ st.l = omega (arith, taken, invariant.room) in
      let last : st.j - 1 < st.l = omega arith in
      let tap_j : suc (st.j - 1) ≡ st.j = omega arith in
      record {
        digits = λ i l. let e = other_tap i (omega (arith, other_length m (state_values st))) in subst (λ x. x < m.order) (sym e) (other_row_of o st (suc i)).1;
        generates = row_generates (other_row_of o st) (other_row F s st invariant long) (other_vanishes F s st invariant long) (other_of m (state_values st)) (other_length m (state_values st)) other_tap;
        as_long = other_length m (state_values st);
        j_least = least;
        j_most = most;
        before = λ i l. other_tap i (omega arith) ∙ ap (λ x. x.0) (other_before F s st invariant (suc i) l) ∙ sym (register_at (state_values st) i (omega arith));
        differs = λ e.
            other_differs F s st invariant
            (subst (λ n. other_row_of o st n ≡ st.C n) tap_j
            (native.Mathlib.Fin.val_path (sym (other_tap (st.j - 1) last) ∙ e ∙ register_at (state_values st) (st.j - 1) last)));
      }

  pub other : length w < 2 * (steps m w).l → IsOther m w (steps m w)
  other = subst (λ x. length w < 2 * x.l → IsOther m w x) same other_values

  only_values : 2 * st.l ≤ length w → (t : List ℕ) → Digits m t → Generates m t w → length t ≡ st.l → t ≡ register_of (state_values st)
  unfolding elements_of
  only_values short t d g e =
      ext_get_or 0 t (register_of (state_values st)) (e ∙ sym (register_length (state_values st)))
      (λ i h.
      let below : i < st.l = omega arith in
      ap (λ x. x.0)
      (sym (row_tap o st.l (elements_of t d) i below)
      ∙ only_row F s st invariant (omega (arith, taken)) (row_of o st.l (elements_of t d))
      (row_is o st.l (elements_of t d))
      (subst (λ l. Vanishes o s l st.k (row_of o l (elements_of t d))) e (register_vanishes t d g)) (suc i))
      ∙ sym (register_at (state_values st) i below))

  -- a register of that length is that of the steps
  pub only : 2 * (steps m w).l ≤ length w → (t : List ℕ) → Digits m t → Generates m t w → length t ≡ (steps m w).l → t ≡ register_of (steps m w)
  only = subst (λ x. 2 * x.l ≤ length w → (t : List ℕ) → Digits m t → Generates m t w → length t ≡ x.l → t ≡ register_of x) same only_values
