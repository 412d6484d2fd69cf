-- The steps over the digits as elements of their own, and those over numbers, have the same values. Assumes nothing.
use Rattle.std.proofs.Common.{◌≡◌, ℕ, zero, suc, ◌-◌, ◌*◌, Bool, true, false, leb, refl, ap, ◌∙◌}
use mathlib.Core.Path.{fun_ext}
use Prim.Native.Nat.{Fin}
use Rattle.field.specs.Meaning.{Meaning, add, multiply}
use Rattle.field.specs.Laws.{RingLaws}
use Rattle.field.specs.Operations.{operations, negative, inverse}
use Rattle.register.specs.Rule.{Sum, feedback, discrepancy}
use Rattle.register.specs.Rows.{shifted}
use Rattle.massey.specs.Steps.{State, taps_of, unit, next_row, advance, next_discrepancy, step, run}
use Rattle.massey.proofs.Elements.{elements}

abbrev pub values : {q : ℕ} → (ℕ → Fin q) → ℕ → ℕ
values f i = (f i).0

abbrev pub state_values : {q : ℕ} → State (Fin q) → State ℕ
state_values st = record {
  C = values st.C;
  B = values st.B;
  l = st.l;
  b = st.b.0;
  j = st.j;
  k = st.k;
  count = st.count;
}

-- the state with another row in place of C
abbrev with_row : State ℕ → (ℕ → ℕ) → State ℕ
with_row st row = record { C = row; B = st.B; l = st.l; b = st.b; j = st.j; k = st.k; count = st.count }

module _ (m : Meaning) (laws : RingLaws m) where
  sum_value : (n : ℕ) (f : ℕ → Fin m.order) → (Sum (elements m laws) n f).0 ≡ Sum (operations m) n (values f)
  unfolding Sum
  sum_value zero f = refl
  sum_value (suc n) f = ap (λ x. add m x (f n).0) (sum_value n f)

  pub discrepancy_value : (s : ℕ → Fin m.order) (l : ℕ) (t : ℕ → Fin m.order) (n : ℕ) → (discrepancy (elements m laws) s l t n).0 ≡ discrepancy (operations m) (values s) l (values t) n
  unfolding feedback
  discrepancy_value s l t n = ap (λ x. add m (s n).0 x) (sum_value l (λ i. (elements m laws).◌⊗◌ (t i) (s (n - suc i))))

  pub shifted_value : (j : ℕ) (f : ℕ → Fin m.order) (n : ℕ) → (shifted (elements m laws) j f n).0 ≡ shifted (operations m) j (values f) n
  unfolding shifted
  shifted_value zero f n = refl
  shifted_value (suc j) f zero = refl
  shifted_value (suc j) f (suc n) = shifted_value j f n

  next_row_value : (st : State (Fin m.order)) (d : Fin m.order) → values (next_row (elements m laws) st d) ≡ next_row (operations m) (state_values st) d.0
  next_row_value st d =
      fun_ext (λ i. ap (λ x. add m (st.C i).0 (negative m (multiply m (multiply m d.0 (inverse m st.b.0)) x))) (shifted_value st.j st.B i))

  advance_value : (st : State (Fin m.order)) (d : Fin m.order) (x y : Bool) → state_values (advance (elements m laws) st d x y) ≡ advance (operations m) (state_values st) d.0 x y
  advance_value st d true y = refl
  advance_value st d false false = ap (with_row (advance (operations m) (state_values st) d.0 false false)) (next_row_value st d)
  advance_value st d false true = ap (with_row (advance (operations m) (state_values st) d.0 false true)) (next_row_value st d)

  step_value : (s : ℕ → Fin m.order) (st : State (Fin m.order)) → state_values (step (elements m laws) s st) ≡ step (operations m) (values s) (state_values st)
  unfolding step
  step_value s st =
      let d = next_discrepancy (elements m laws) s st in
      advance_value st d ((operations m).is_zero d.0) (leb (2 * st.l) st.k)
      ∙ ap (λ x. advance (operations m) (state_values st) x ((operations m).is_zero x) (leb (2 * st.l) st.k)) (discrepancy_value s st.l (taps_of st.C) st.k)

  unit_value : values (unit (elements m laws)) ≡ unit (operations m)
  unit_value = fun_ext go
    where
      go : (i : ℕ) → (unit (elements m laws) i).0 ≡ unit (operations m) i
      go zero = refl
      go (suc i) = refl

  pub run_value : (s : ℕ → Fin m.order) (n : ℕ) → state_values (run (elements m laws) s n) ≡ run (operations m) (values s) n
  unfolding run
  run_value s zero = ap (λ row. record { C = row; B = row; l = 0; b = 1; j = 1; k = 0; count = 0 }) unit_value
  run_value s (suc n) = step_value s (run (elements m laws) s n) ∙ ap (step (operations m) (values s)) (run_value s n)
