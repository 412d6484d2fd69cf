-- What is reported of a string, in terms of all the registers that generate it. Assumes nothing.
use Rattle.std.proofs.Common.{◌≡◌, ℕ, ◌*◌, ◌<◌, ◌≤◌, cond, List, length, take, drop, Some, None, Option, sym, ap, ◌∙◌, subst, arith, le-leb}
use native.Mathlib.Decide.{dec_le}
use borrow.Author.Tests.{lt-leb}
use Rattle.std.proofs.lemmas.List.{take_at, drop_at}
use Rattle.field.specs.Laws.{FieldLaws}
use Rattle.field.specs.Meaning.{Meaning}
use Rattle.register.specs.Strings.{Digits}
use Rattle.massey.specs.Steps.{State as Steps, steps}
use Rattle.massey.specs.Theorems.{register_of, other_of, CountWithin, IsOther}
use Rattle.massey.proofs.Count.{count_within}
use Rattle.massey.proofs.Registers.{register_length}
use Rattle.massey.proofs.Shortest.{another_shortest}
use Rattle.massey.proofs.Strings.{shortest, other}
use Rattle.synthesis.specs.Answers.{other_answer, OtherWritten, Promised, Rival}
use Rattle.synthesis.specs.Kept.{kept}
use Rattle.synthesis.specs.Runs.{Reported, OtherFound, Found}
use Rattle.synthesis.specs.Sound.{Sound, overwritten}
use Rattle.synthesis.specs.declared.report.Report.{Report}
use Rattle.synthesis.specs.declared.state.State.{State}
use Rattle.synthesis.proofs.Soundness.{sound_laws, sound_digits, length_is, shift_is}

-- the front and the rest of cells that were written
overwritten_front : (taps cells cells' : List ℕ) (n : ℕ) → length taps ≡ n → cells' ≡ overwritten taps cells → take n cells' ≡ taps
overwritten_front taps cells cells' n long e = ap (take n) e ∙ take_at taps (drop (length taps) cells) n long

overwritten_rest : (taps cells cells' : List ℕ) (n : ℕ) → length taps ≡ n → cells' ≡ overwritten taps cells → drop n cells' ≡ drop n cells
overwritten_rest taps cells cells' n long e = ap (drop n) e ∙ drop_at taps (drop (length taps) cells) n long ∙ ap (λ k. drop k cells) long

module _ (m : Meaning) (laws : FieldLaws m) (w : List ℕ) (dw : Digits m w) where
  abbrev S : Steps ℕ
  S = steps m w

  abbrev R : List ℕ
  R = register_of (steps m w)

  abbrev O : List ℕ
  O = other_of m (steps m w)

  rival : IsOther m w (steps m w) → Rival m w (register_of (steps m w)) (steps m w).j (other_of m (steps m w))
  rival x = record {
    digits = x.digits;
    generates = x.generates;
    as_long = x.as_long ∙ sym (register_length S);
    least = x.j_least;
    most = omega (arith, x.j_most, register_length S);
    before = x.before;
    differs = x.differs;
  }

  none_found : (others others' : List ℕ) (o : Option ℕ) → o ≡ None → 2 * (steps m w).l ≤ length w → OtherWritten m w others others' o → OtherFound m w (register_of (steps m w)) others others' o
  none_found others others' None e h x = (omega (arith, register_length S), x)
  none_found others others' (Some j) e h x = let z : ◌≡◌ {A = ℕ} 0 1 = cc in absurd (omega arith)

  some_found : (others others' : List ℕ) (o : Option ℕ) → o ≡ Some (steps m w).j → length w < 2 * (steps m w).l → OtherWritten m w others others' o → OtherFound m w (register_of (steps m w)) others others' o
  some_found others others' None e far x = let z : ◌≡◌ {A = ℕ} 0 1 = cc in absurd (omega arith)
  some_found others others' (Some j) e far x =
      let is : j ≡ S.j = cc in
      let i = other m laws w dw far in
      let long : length O ≡ length R = (rival i).as_long in (
        omega (arith, register_length S),
        subst (λ k. Rival m w R k (take (length R) others')) (sym is)
            (subst (Rival m w R S.j) (sym (overwritten_front O others others' (length R) long x)) (rival i)),
        overwritten_rest O others others' (length R) long x,
      )

  other_found : (others others' : List ℕ) (o : Option ℕ) → o ≡ other_answer m w → OtherWritten m w others others' o → Dec (2 * (steps m w).l ≤ length w) → OtherFound m w (register_of (steps m w)) others others' o
  other_found others others' o e x (yes h) =
      none_found others others' o (e ∙ ap (λ t. cond t None (Some S.j)) (le-leb (2 * S.l) (length w) h)) h x
  other_found others others' o e x (no h) =
      let far : length w < 2 * S.l = omega arith in
      some_found others others' o (e ∙ ap (λ t. cond t None (Some S.j)) (lt-leb (2 * S.l) (length w) far)) far x

  pub promised : Promised m w (register_of (steps m w)) (steps m w).count
  promised = record {
    shortest = shortest m laws w dw;
    another = another_shortest m laws w dw R (shortest m laws w dw);
    count_within = subst (λ l. CountWithin l (length w) S.count) (sym (register_length S)) (count_within m w);
  }

  module _ (t : Report) (cells cells' others others' : List ℕ) (r : Reported m w t cells cells' others others') where
    abbrev n : ℕ
    n = t.shown.length

    long : length (register_of (steps m w)) ≡ t.shown.length
    long = register_length S ∙ sym r.shown.length_is

    front : take t.shown.length cells' ≡ register_of (steps m w)
    front = overwritten_front R cells cells' n long r.register

    pub found : Found m w t cells cells' others others'
    found = record {
      promised = subst (λ taps. Promised m w taps t.shown.count) (sym front) (subst (Promised m w R) (sym r.shown.count_is) promised);
      as_long = ap length front ∙ long;
      rest = overwritten_rest R cells cells' n long r.register;
      digits_are = r.shown.digits_are;
      count_is = r.shown.count_is;
      other = subst (λ taps. OtherFound m w taps others others' t.other) (sym front)
          (other_found others others' t.other r.answer r.other (dec_le (2 * S.l) (length w)));
    }

module _ (m : Meaning) (st : State) (x : Sound m st) where
  pub sound_promised : Promised m (kept st) (register_of (steps m (kept st))) (steps m (kept st)).count
  sound_promised = promised m (sound_laws m st x) (kept st) (sound_digits m st x)

  pub sound_rival : st.progress.taken < 2 * st.progress.length → Rival m (kept st) (register_of (steps m (kept st))) st.progress.shift (other_of m (steps m (kept st)))
  sound_rival h =
      subst (λ j. Rival m (kept st) (register_of (steps m (kept st))) j (other_of m (steps m (kept st)))) (sym (shift_is m st x))
      (rival m laws (kept st) digits (other m laws (kept st) digits (omega (arith, st.long, length_is m st x))))
    where
      laws : FieldLaws m
      laws = sound_laws m st x

      digits : Digits m (kept st)
      digits = sound_digits m st x

  pub sound_found : (t : Report) (cells cells' others others' : List ℕ) → Reported m (kept st) t cells cells' others others' → Found m (kept st) t cells cells' others others'
  sound_found t cells cells' others others' h = found m (sound_laws m st x) (kept st) (sound_digits m st x) t cells cells' others others' h
