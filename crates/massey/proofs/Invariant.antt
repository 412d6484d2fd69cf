-- What every step keeps. Assumes nothing.
use Rattle.std.proofs.Common.{◌≡◌, ℕ, zero, suc, ◌+◌, ◌-◌, ◌*◌, ◌<◌, ◌≤◌, Bool, true, false, leb, ◌⊎◌, sym, refl, ap, ◌∙◌, inl, inr, arith}
use native.Mathlib.Decide.{dec_lt}
use Rattle.std.proofs.lemmas.Bool.{leb-true, leb-false, both_ways}
use Rattle.field.specs.Operations.{Operations}
use Rattle.register.specs.Rows.{shifted, corrected}
use Rattle.massey.specs.Steps.{State, unit, begin, next_row, advance, next_discrepancy, step, run}
use Rattle.massey.proofs.Fields.{IsField}
use Rattle.register.proofs.Shifts.{below_or_after, shifted_below, shifted_at}
use Rattle.massey.proofs.Series.{product}
use Rattle.massey.proofs.Rows.{IsRow, Vanishes, row_discrepancy, massey}
use Rattle.massey.proofs.Corrections.{corrected_same, quotient_cancels, product_corrected}

-- C generates the k digits with l taps, and no register of fewer does; B, j places on, vanishes with C up to k, and is b there
pub record Invariant {K : Type 0} (o : Operations K) (s : ℕ → K) (st : State K) : Type 0 where
  pub C_row : IsRow o st.l st.C
  pub C_vanishes : Vanishes o s st.l st.k st.C
  pub B_one : st.B 0 ≡ o.𝟙
  pub B_past : (i : ℕ) → st.k + 1 < i + st.j + st.l → st.B i ≡ o.𝟘
  pub B_vanishes : (n : ℕ) → n + st.j < st.k → st.k < n + st.j + st.l → product o st.B s n ≡ o.𝟘
  pub B_is_b : (n : ℕ) → n + st.j ≡ st.k → product o st.B s n ≡ st.b
  pub b_some : o.is_zero st.b ≡ false
  pub j_some : 0 < st.j
  pub room : st.j + st.l ≤ st.k + 1
  pub least : (u : ℕ) (R : ℕ → K) → IsRow o u R → Vanishes o s u st.k R → st.l ≤ u

below_or_last : (n k : ℕ) → n < k + 1 → (n < k) ⊎ (n ≡ k)
below_or_last n k h = go (dec_lt n k)
  where
    go : Dec (n < k) → (n < k) ⊎ (n ≡ k)
    go (yes g) = inl g
    go (no g) = inr (omega arith)

-- B, j places on
module _ {K : Type 0} {o : Operations K} (s : ℕ → K) (st : State K) (v : Invariant o s st) where
  pub shifted_first : shifted o st.j st.B 0 ≡ o.𝟘
  shifted_first = shifted_below o st.j st.B 0 v.j_some

  pub shifted_past : (i : ℕ) → st.k + 1 < i + st.l → shifted o st.j st.B i ≡ o.𝟘
  shifted_past i h = go (below_or_after i st.j)
    where
      go : (i < st.j) ⊎ ((n : ℕ) × (n + st.j ≡ i)) → shifted o st.j st.B i ≡ o.𝟘
      go (inl g) = shifted_below o st.j st.B i g
      go (inr (n, e)) = shifted_at o st.j st.B i n e ∙ v.B_past n (omega arith)

  pub shifted_vanishes : (n : ℕ) → n < st.k → st.k < n + st.l → shifted o st.j (product o st.B s) n ≡ o.𝟘
  shifted_vanishes n below h = go (below_or_after n st.j)
    where
      go : (n < st.j) ⊎ ((i : ℕ) × (i + st.j ≡ n)) → shifted o st.j (product o st.B s) n ≡ o.𝟘
      go (inl g) = shifted_below o st.j (product o st.B s) n g
      go (inr (i, e)) = shifted_at o st.j (product o st.B s) n i e ∙ v.B_vanishes i (omega arith) (omega arith)

  shifted_is_b : 0 < st.l → shifted o st.j (product o st.B s) st.k ≡ st.b
  shifted_is_b some = go (below_or_after st.k st.j)
    where
      go : (st.k < st.j) ⊎ ((i : ℕ) × (i + st.j ≡ st.k)) → shifted o st.j (product o st.B s) st.k ≡ st.b
      go (inl g) = absurd (omega (arith, v.room))
      go (inr (i, e)) = shifted_at o st.j (product o st.B s) st.k i e ∙ v.B_is_b i e

module _ {K : Type 0} {o : Operations K} (F : IsField o) (s : ℕ → K) where
  open o use {𝟘, ◌⊕◌, ◌⊗◌, ⊖, inv, is_zero}

  infixl 60 ◌⊕◌
  infixl 70 ◌⊗◌
  module _ (st : State K) (v : Invariant o s st) where
    C_discrepancy : product o st.C s st.k ≡ next_discrepancy o s st
    C_discrepancy = row_discrepancy F s st.l st.C v.C_row st.k (omega arith)

    -- the corrected row, as that of a register of l taps
    next_is_row : (d : K) (l : ℕ) → st.l ≤ l → st.k + 1 ≤ l + st.l → IsRow o l (next_row o st d)
    next_is_row d l longer far = record {
      one = corrected_same F _ st.j st.C st.B 0 (shifted_first s st v) ∙ v.C_row.one;
      past = λ i h. corrected_same F _ st.j st.C st.B i (shifted_past s st v i (omega arith)) ∙ v.C_row.past i (omega arith);
    }

    next_vanishes : (d : K) → product o st.C s st.k ≡ d → (l : ℕ) → st.l ≤ l → st.k + 1 ≤ l + st.l
        → Vanishes o s l (st.k + 1) (next_row o st d)
    next_vanishes d is l longer far n from to =
        product_corrected F s e st.j st.C st.B n ∙ go (below_or_last n st.k to)
      where
        e : K
        e = d ⊗ inv st.b

        go : (n < st.k) ⊎ (n ≡ st.k) → corrected o e st.j (product o st.C s) (product o st.B s) n ≡ 𝟘
        go (inl h) =
            corrected_same F e st.j (product o st.C s) (product o st.B s) n (shifted_vanishes s st v n h (omega arith))
            ∙ v.C_vanishes n (omega arith) h
        go (inr same) =
            ap (corrected o e st.j (product o st.C s) (product o st.B s)) same
            ∙ ap (λ x. x ⊕ ⊖ (e ⊗ shifted o st.j (product o st.B s) st.k)) is
            ∙ ap (λ x. d ⊕ ⊖ (e ⊗ x)) (shifted_is_b s st v (omega arith))
            ∙ quotient_cancels F d st.b v.b_some

    still_least : (u : ℕ) (R : ℕ → K) → IsRow o u R → Vanishes o s u (st.k + 1) R → st.l ≤ u
    still_least u R r q = v.least u R r (λ n from to. q n from (omega arith))

    advance_keeps : (d : K) → product o st.C s st.k ≡ d → (x : Bool) → is_zero d ≡ x → (y : Bool) → leb (2 * st.l) st.k ≡ y
        → Invariant o s (advance o st d x y)
    advance_keeps d is true z y t = record {
      C_row = v.C_row;
      C_vanishes = λ n from to. go n from (below_or_last n st.k to);
      B_one = v.B_one;
      B_past = λ i h. v.B_past i (omega arith);
      B_vanishes = λ n h g. v.B_vanishes n (omega arith) (omega arith);
      B_is_b = λ n e. v.B_is_b n (omega arith);
      b_some = v.b_some;
      j_some = omega arith;
      room = omega (arith, v.room);
      least = still_least;
    }
      where
        go : (n : ℕ) → st.l ≤ n → (n < st.k) ⊎ (n ≡ st.k) → product o st.C s n ≡ 𝟘
        go n from (inl g) = v.C_vanishes n from g
        go n from (inr e) = ap (product o st.C s) e ∙ is ∙ F.only_zero d z
    advance_keeps d is false z false t =
        let far : st.k < 2 * st.l = leb-false (2 * st.l) st.k t in
        record {
          C_row = next_is_row d st.l (omega arith) (omega arith);
          C_vanishes = next_vanishes d is st.l (omega arith) (omega arith);
          B_one = v.B_one;
          B_past = λ i h. v.B_past i (omega arith);
          B_vanishes = λ n h g. v.B_vanishes n (omega arith) (omega arith);
          B_is_b = λ n e. v.B_is_b n (omega arith);
          b_some = v.b_some;
          j_some = omega arith;
          room = omega (arith, v.room);
          least = still_least;
        }
    advance_keeps d is false z true t =
        let short : 2 * st.l ≤ st.k = leb-true (2 * st.l) st.k t in
        record {
          C_row = next_is_row d (st.k + 1 - st.l) (omega arith) (omega arith);
          C_vanishes = next_vanishes d is (st.k + 1 - st.l) (omega arith) (omega arith);
          B_one = v.C_row.one;
          B_past = λ i h. v.C_row.past i (omega arith);
          B_vanishes = λ n h g. v.C_vanishes n (omega arith) (omega arith);
          B_is_b = λ n e. let same : n ≡ st.k = omega arith in ap (product o st.C s) same ∙ is;
          b_some = z;
          j_some = omega arith;
          room = omega arith;
          least = λ u R r q. go u R r q (dec_lt st.k (st.l + u));
        }
      where
        -- by Massey's lemma a register of fewer taps would leave no discrepancy
        go : (u : ℕ) (R : ℕ → K) → IsRow o u R → Vanishes o s u (st.k + 1) R → Dec (st.k < st.l + u) → st.k + 1 - st.l ≤ u
        go u R r q (yes h) = omega arith
        go u R r q (no h) =
            let none : d ≡ 𝟘 = sym is ∙ massey F s st.k st.l u st.C R v.C_row.past v.C_vanishes r (λ n from to. q n from (omega arith)) (omega arith) in
            absurd (both_ways (is_zero d) z (ap is_zero none ∙ F.zero_is_zero))

  step_keeps : (st : State K) → Invariant o s st → Invariant o s (step o s st)
  unfolding step
  step_keeps st v = advance_keeps st v (next_discrepancy o s st) (C_discrepancy st v) _ refl _ refl

  begin_keeps : Invariant o s (begin o)
  begin_keeps = record {
    C_row = unit_row;
    C_vanishes = λ n h g. absurd (omega arith);
    B_one = refl;
    B_past = λ i h. unit_row.past i (omega arith);
    B_vanishes = λ n h g. absurd (omega arith);
    B_is_b = λ n e. absurd (omega arith);
    b_some = F.one_is_not;
    j_some = omega arith;
    room = omega arith;
    least = λ u R r q. omega arith;
  }
    where
      past : (i : ℕ) → 0 < i → unit o i ≡ 𝟘
      past zero h = absurd (omega arith)
      past (suc i) h = refl

      unit_row : IsRow o 0 (unit o)
      unit_row = record { one = refl; past = past }

  pub run_keeps : (n : ℕ) → Invariant o s (run o s n)
  unfolding run
  run_keeps zero = begin_keeps
  run_keeps (suc n) = step_keeps (run o s n) (run_keeps n)
