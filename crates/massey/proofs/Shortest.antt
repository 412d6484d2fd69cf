-- Shortest registers beside that of the steps. Assumes nothing.
use Rattle.std.proofs.Common.{◌≡◌, ℕ, ◌-◌, ◌*◌, ◌<◌, ◌≤◌, ◌↔◌, List, length, sym, ap, ◌∙◌, subst, arith}
use native.Mathlib.Decide.{dec_lt, ℕ_discrete}
use Rattle.field.specs.Laws.{FieldLaws}
use Rattle.field.specs.Meaning.{Meaning}
use Rattle.register.specs.Strings.{at, Digits, Generates}
use Rattle.massey.specs.Steps.{State, steps}
use Rattle.massey.specs.Theorems.{register_of, other_of, Shortest, Another, IsOther}
use Rattle.massey.proofs.Registers.{register_length}
use Rattle.massey.proofs.Strings.{shortest, other, only}

module _ (m : Meaning) (laws : FieldLaws m) (w : List ℕ) (dw : Digits m w) where
  -- no register that generates the string is shorter than that of the steps
  pub length_least : (taps : List ℕ) → Digits m taps → Generates m taps w → (steps m w).l ≤ length taps
  length_least taps d g = omega (arith, (shortest m laws w dw).least taps d g, register_length (steps m w))

  pub shortest_length : (taps : List ℕ) → Shortest m w taps → length taps ≡ (steps m w).l
  shortest_length taps x =
      let found = shortest m laws w dw in
      omega (arith, x.least (register_of (steps m w)) found.digits found.generates, length_least taps x.digits x.generates, register_length (steps m w))

  -- and one that is as short is a shortest one
  pub shortest_from : (taps : List ℕ) → Digits m taps → Generates m taps w → length taps ≤ (steps m w).l → Shortest m w taps
  shortest_from taps d g short = record { digits = d; generates = g; least = λ t e h. omega (arith, length_least t e h) }

  pub another_shortest : (taps : List ℕ) → Shortest m w taps → Another m w taps ↔ (length w < 2 * length taps)
  another_shortest taps x = (λ a. far a (dec_lt (length w) (2 * length taps)), near)
    where
      st : State ℕ
      st = steps m w

      e : length taps ≡ st.l
      e = shortest_length taps x

      far : Another m w taps → Dec (length w < 2 * length taps) → length w < 2 * length taps
      far a (yes h) = h
      far a (no h) =
          let short : 2 * st.l ≤ length w = omega (arith, e) in
          absurd
          (a.differs
          (only m laws w dw short a.other a.digits a.generates (a.as_long ∙ e)
          ∙ sym (only m laws w dw short taps x.digits x.generates e)))

      -- of the two that differ at tap j, one is not this one
      beside : IsOther m w st → Dec (at taps (st.j - 1) ≡ at (register_of st) (st.j - 1)) → Another m w taps
      beside o (yes p) = record {
        other = other_of m st;
        digits = o.digits;
        generates = o.generates;
        as_long = o.as_long ∙ sym e;
        differs = λ q. o.differs (ap (λ t. at t (st.j - 1)) q ∙ p);
      }
      beside o (no n) = record {
        other = register_of st;
        digits = (shortest m laws w dw).digits;
        generates = (shortest m laws w dw).generates;
        as_long = register_length st ∙ sym e;
        differs = λ q. n (ap (λ t. at t (st.j - 1)) (sym q));
      }

      near : length w < 2 * length taps → Another m w taps
      near h = beside (other m laws w dw (omega (arith, e))) (ℕ_discrete (at taps (st.j - 1)) (at (register_of st) (st.j - 1)))

  pub another_register : Another m w (register_of (steps m w)) ↔ (length w < 2 * (steps m w).l)
  another_register =
      subst (λ l. Another m w (register_of (steps m w)) ↔ (length w < 2 * l)) (register_length (steps m w))
      (another_shortest (register_of (steps m w)) (shortest m laws w dw))
