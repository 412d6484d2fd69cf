-- The row C + x^j · B: another shortest register where twice the length passes the digits. Assumes nothing.
use Rattle.std.proofs.Common.{◌≡◌, ℕ, ◌*◌, ◌<◌, sym, ap, ◌∙◌, ap₂, arith}
use Rattle.std.proofs.lemmas.Bool.{both_ways}
use Rattle.field.specs.Operations.{Operations}
use Rattle.register.specs.Rows.{shifted}
use Rattle.massey.specs.Steps.{State}
use Rattle.massey.proofs.Fields.{IsField, zero_add, cancel}
use Rattle.register.proofs.Shifts.{shifted_below, shifted_at}
use Rattle.massey.proofs.Series.{product_add, product_shifted}
use Rattle.massey.proofs.Rows.{IsRow, Vanishes}
use Rattle.massey.proofs.Invariant.{Invariant, shifted_first, shifted_past, shifted_vanishes}

abbrev pub other_row_of : {K : Type 0} → Operations K → State K → ℕ → K
other_row_of o st i = o.◌⊕◌ (st.C i) (shifted o st.j st.B i)

module _ {K : Type 0} {o : Operations K} (F : IsField o) (s : ℕ → K) (st : State K) (v : Invariant o s st) where
  open o use {𝟘, 𝟙, ◌⊕◌, is_zero}

  infixl 60 ◌⊕◌
  pub other_before : (i : ℕ) → i < st.j → other_row_of o st i ≡ st.C i
  other_before i h = ap (λ x. st.C i ⊕ x) (shifted_below o st.j st.B i h) ∙ F.add_zero _

  pub other_differs : other_row_of o st st.j ≡ st.C st.j → ⊥
  other_differs e =
      let one : shifted o st.j st.B st.j ≡ 𝟙 = shifted_at o st.j st.B st.j 0 (omega arith) ∙ v.B_one in
      let z : 𝟙 ≡ 𝟘 = cancel F 𝟙 𝟘 (st.C st.j) (F.add_comm 𝟙 _ ∙ ap (λ x. st.C st.j ⊕ x) (sym one) ∙ e ∙ sym (zero_add F _)) in
      both_ways (is_zero 𝟙) F.one_is_not (ap is_zero z ∙ F.zero_is_zero)

  module _ (long : st.k < 2 * st.l) where
    pub other_row : IsRow o st.l (other_row_of o st)
    other_row = record {
      one = ap₂ ◌⊕◌ v.C_row.one (shifted_first s st v) ∙ F.add_zero 𝟙;
      past = λ i h. ap₂ ◌⊕◌ (v.C_row.past i h) (shifted_past s st v i (omega arith)) ∙ F.add_zero 𝟘;
    }

    pub other_vanishes : Vanishes o s st.l st.k (other_row_of o st)
    other_vanishes n from to =
        product_add F st.C (shifted o st.j st.B) s n
        ∙ ap₂ ◌⊕◌ (v.C_vanishes n from to) (product_shifted F st.j st.B s n ∙ shifted_vanishes s st v n to (omega arith))
        ∙ F.add_zero 𝟘
