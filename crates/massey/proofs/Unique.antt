-- Where twice the length does not pass the digits, no other register of that length generates them. Assumes nothing.
use Rattle.std.proofs.Common.{◌≡◌, ℕ, zero, suc, ◌+◌, ◌-◌, ◌*◌, ◌<◌, ◌≤◌, Bool, true, false, ◌⊎◌, sym, refl, ap, ◌∙◌, ap₂, inl, inr, arith}
use mathlib.Core.Path.{fun_ext}
use native.Mathlib.Decide.{dec_lt, dec_le}
use Rattle.field.specs.Operations.{Operations}
use Rattle.register.specs.Rows.{shifted}
use Rattle.massey.specs.Steps.{State}
use Rattle.massey.proofs.Fields.{IsField, mul_zero, negative_zero, same_from, same_difference}
use Rattle.register.proofs.Shifts.{below_or_after, shifted_below, shifted_at}
use Rattle.massey.proofs.Series.{product, product_add, product_negative, product_scale, product_shifted}
use Rattle.massey.proofs.Rows.{IsRow, Vanishes, massey}
use Rattle.massey.proofs.Invariant.{Invariant}

module _ {K : Type 0} {o : Operations K} (F : IsField o) (s : ℕ → K) where
  open o use {𝟘, ◌⊕◌, ◌⊗◌, ⊖, inv, is_zero}

  infixl 60 ◌⊕◌
  infixl 70 ◌⊗◌
  -- the product of a row that begins with j times 0, j places back
  product_back : (D : ℕ → K) (j : ℕ) → ((i : ℕ) → i < j → D i ≡ 𝟘) → (n : ℕ) → product o (λ i. D (i + j)) s n ≡ product o D s (n + j)
  product_back D j none n =
      sym (ap (λ G. product o G s (n + j)) (fun_ext (λ i. same i (below_or_after i j))) ∙ product_shifted F j back s (n + j) ∙ shifted_at o j (product o back s) (n + j) n refl)
    where
      back : ℕ → K
      back i = D (i + j)

      same : (i : ℕ) → (i < j) ⊎ ((u : ℕ) × (u + j ≡ i)) → D i ≡ shifted o j back i
      same i (inl h) = none i h ∙ sym (shifted_below o j back i h)
      same i (inr (u, e)) = sym (shifted_at o j back i u e ∙ ap D e)

  module _ (st : State K) (v : Invariant o s st) (short : 2 * st.l ≤ st.k) (R : ℕ → K) (r : IsRow o st.l R) (q : Vanishes o s st.l st.k R) where
    D : ℕ → K
    D i = R i ⊕ ⊖ (st.C i)

    D_vanishes : Vanishes o s st.l st.k D
    unfolding D
    D_vanishes n from to =
        product_add F R (λ i. ⊖ (st.C i)) s n
        ∙ ap₂ ◌⊕◌ (q n from to) (product_negative F st.C s n ∙ ap ⊖ (v.C_vanishes n from to) ∙ negative_zero F)
        ∙ F.add_zero 𝟘

    -- if the two agreed before tap u and differed there, their difference, u places back and divided by its first coefficient, were a register of l - u taps
    never : (u : ℕ) → 0 < u → u ≤ st.l → ((i : ℕ) → i < u → D i ≡ 𝟘) → is_zero (D u) ≡ false → ⊥
    unfolding D
    never u some within agree differ = let z : st.l ≤ st.l - u = v.least (st.l - u) E E_row (E_vanishes st.k (omega arith)) in omega arith
      where
        E : ℕ → K
        E i = inv (D u) ⊗ D (i + u)

        E_past : (i : ℕ) → st.l - u < i → E i ≡ 𝟘
        E_past i h =
            ap (λ x. inv (D u) ⊗ x) (same_difference F (R (i + u)) (st.C (i + u)) (r.past (i + u) (omega arith) ∙ sym (v.C_row.past (i + u) (omega arith))))
            ∙ mul_zero F _

        E_row : IsRow o (st.l - u) E
        E_row = record {
          one = ap (λ x. inv (D u) ⊗ D x) (omega arith) ∙ F.mul_comm (inv (D u)) (D u) ∙ F.mul_inverse (D u) differ;
          past = E_past;
        }

        -- it vanishes where the difference does, and from there on by Massey's lemma
        E_at : (p : ℕ) → suc p ≤ st.k → st.l - u ≤ p → Vanishes o s (st.l - u) p E → Dec (p + u < st.k) → product o E s p ≡ 𝟘
        E_at p h from vanishes (yes g) =
            product_scale F (inv (D u)) (λ i. D (i + u)) s p
            ∙ ap (λ x. inv (D u) ⊗ x) (product_back D u agree p ∙ D_vanishes (p + u) (omega arith) g)
            ∙ mul_zero F _
        E_at p h from vanishes (no g) =
            massey F s p (st.l - u) st.l E st.C E_past vanishes v.C_row (λ n a b. v.C_vanishes n a (omega arith)) (omega arith)

        E_vanishes : (p : ℕ) → p ≤ st.k → Vanishes o s (st.l - u) p E
        E_vanishes zero h n from to = absurd (omega arith)
        E_vanishes (suc p) h n from to =
            elim (dec_lt n p) [
              | yes g ↦ E_vanishes p (omega arith) n from g
              | no g ↦ let e : n ≡ p = omega arith in ap (product o E s) e ∙ E_at p h (omega arith) (E_vanishes p (omega arith)) (dec_lt (p + u) st.k)
            ]

    agrees_at : (u : ℕ) → ((i : ℕ) → i < u → R i ≡ st.C i) → Dec (0 < u) → Dec (u ≤ st.l) → (x : Bool) → is_zero (D u) ≡ x → R u ≡ st.C u
    unfolding D
    agrees_at u before (no g) w x e = let z : u ≡ 0 = omega arith in ap R z ∙ r.one ∙ sym (ap st.C z ∙ v.C_row.one)
    agrees_at u before (yes g) (no w) x e = r.past u (omega arith) ∙ sym (v.C_row.past u (omega arith))
    agrees_at u before (yes g) (yes w) true e = same_from F (R u) (st.C u) (F.only_zero (D u) e)
    agrees_at u before (yes g) (yes w) false e = absurd (never u g w (λ i h. same_difference F (R i) (st.C i) (before i h)) e)

    agrees : (u : ℕ) → (i : ℕ) → i < u → R i ≡ st.C i
    agrees zero i h = absurd (omega arith)
    agrees (suc u) i h =
        elim (dec_lt i u) [
          | yes g ↦ agrees u i g
          | no g ↦ let e : i ≡ u = omega arith in ap R e ∙ agrees_at u (agrees u) (dec_lt 0 u) (dec_le u st.l) (is_zero (D u)) refl ∙ ap st.C (sym e)
        ]

  pub only_row : (st : State K) → Invariant o s st → 2 * st.l ≤ st.k → (R : ℕ → K) → IsRow o st.l R → Vanishes o s st.l st.k R
      → (i : ℕ) → R i ≡ st.C i
  only_row st v short R r q i = agrees st v short R r q (suc i) i (omega arith)
