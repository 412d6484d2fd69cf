-- How many multiplications the steps count. Assumes nothing.
use Rattle.std.proofs.Common.{◌≡◌, ℕ, zero, suc, ◌+◌, ◌-◌, ◌*◌, ◌<◌, ◌≤◌, Bool, true, false, leb, List, length, sym, refl, ap, subst, mul-le-mul_left, arith}
use native.Mathlib.Decide.{dec_le}
use Rattle.std.proofs.lemmas.Bool.{leb-true, leb-false}
use Rattle.field.specs.Meaning.{Meaning}
use Rattle.field.specs.Operations.{Operations, operations}
use Rattle.register.specs.Strings.{at}
use Rattle.massey.specs.Steps.{State, correcting, advance, next_discrepancy, step, run, steps}
use Rattle.massey.specs.Theorems.{CountWithin}
use Rattle.massey.proofs.Taken.{run_k}

-- all that is used of what a correction adds
correcting_le : (l : ℕ) → correcting l ≤ l
correcting_le l = omega arith

-- the bounds on the count w after k digits, with no difference in them
record Bounds (l k w : ℕ) : Type 0 where
  within : l ≤ k
  short : 2 * l ≤ k → w ≤ l * (k + 1)
  long : k < 2 * l → w + l * (2 * l) ≤ l * (2 * k + 1)

unchanged : (l k w : ℕ) → Bounds l k w → Bounds l (k + 1) (w + l)
unchanged l k w b = record { within = omega (arith, b.within); short = λ h. go h (dec_le (2 * l) k); long = λ h. let a = b.long (omega arith) in omega arith }
  where
    go : 2 * l ≤ k + 1 → Dec (2 * l ≤ k) → w + l ≤ l * (k + 1 + 1)
    go h (yes g) = let a = b.short g in omega arith
    go h (no g) =
        let a = b.long (omega arith) in
        let e : l * (2 * l) ≡ l * (k + 1) = ap (λ x. l * x) (omega arith) in
        omega arith

corrected : (l k w c : ℕ) → c ≤ l → k < 2 * l → Bounds l k w → Bounds l (k + 1) (w + l + c)
corrected l k w c le far b = let a = b.long far in record {
  within = omega (arith, b.within);
  short = λ h. let e : l * (2 * l) ≡ l * (k + 1) = ap (λ x. l * x) (omega arith) in omega arith;
  long = λ h. omega arith;
}

grown : (l u w c : ℕ) → c ≤ u → l + 1 ≤ u → w ≤ l * (l + u) → w + l + c + u * (2 * u) ≤ u * (2 * (l + u) + 1)
grown l u w c le h b = omega (arith, mul-le-mul_left l h)

lengthened : (l k w c : ℕ) → c ≤ k + 1 - l → 2 * l ≤ k → Bounds l k w → Bounds (k + 1 - l) (k + 1) (w + l + c)
lengthened l k w c le near b =
    let u : ℕ = k + 1 - l in
    let e : k + 1 ≡ l + u = omega arith in
    record {
      within = omega arith;
      short = λ h. absurd (omega arith);
      long = λ h. subst (λ x. w + l + c + u * (2 * u) ≤ u * (2 * x + 1)) (sym e) (grown l u w c le (omega arith) (subst (λ x. w ≤ l * x) e (b.short near)));
    }

-- the second bound with its difference
long_bound : (l k w : ℕ) → Bounds l k w → k < 2 * l → w ≤ l * (2 * k + 1 - 2 * l)
long_bound l k w b h =
    let u : ℕ = 2 * k + 1 - 2 * l in
    let e : 2 * k + 1 ≡ 2 * l + u = omega (arith, b.within) in
    let a : w + l * (2 * l) ≤ l * (2 * l + u) = subst (λ x. w + l * (2 * l) ≤ l * x) e (b.long h) in
    omega (arith, a)

module _ {K : Type 0} (o : Operations K) (s : ℕ → K) where
  advance_bounds : (st : State K) (d : K) (x y : Bool) → leb (2 * st.l) st.k ≡ y → Bounds st.l st.k st.count
      → let t = advance o st d x y in Bounds t.l t.k t.count
  advance_bounds st d true y e b = unchanged st.l st.k st.count b
  advance_bounds st d false false e b =
      corrected st.l st.k st.count (correcting st.l) (correcting_le st.l) (leb-false (2 * st.l) st.k e) b
  advance_bounds st d false true e b =
      let u = st.k + 1 - st.l in lengthened st.l st.k st.count (correcting u) (correcting_le u) (leb-true (2 * st.l) st.k e) b

  run_bounds : (n : ℕ) → let t = run o s n in Bounds t.l t.k t.count
  unfolding run step
  run_bounds zero = record { within = omega arith; short = λ h. omega arith; long = λ h. omega arith }
  run_bounds (suc n) =
      let t = run o s n in
      advance_bounds t (next_discrepancy o s t) (o.is_zero (next_discrepancy o s t)) (leb (2 * t.l) t.k) refl (run_bounds n)

pub count_within : (m : Meaning) (w : List ℕ) → CountWithin (steps m w).l (length w) (steps m w).count
count_within m w =
    let t = steps m w in
    let b : Bounds t.l (length w) t.count = subst (λ k. Bounds t.l k t.count) (run_k (operations m) (at w) (length w)) (run_bounds (operations m) (at w) (length w)) in
    record { short = b.short; long = long_bound t.l (length w) t.count b }
