-- Steps of the loop over a word's figures.
use Rattle.std.proofs.Common.{◌≡◌, ℕ, ◌+◌, ◌-◌, ◌*◌, ◌^◌, ◌<◌, ◌≤◌, true, false, leb, List, [], ◌∷◌, length, get_or, drop, Some, None, Option, sym, ap, ◌∙◌, ⊎_elim, pow-suc, add-one, arith}
use Rattle.std.proofs.lemmas.Option.{none-some}
use Rattle.std.proofs.lemmas.List.{at_drop_more, at_drop_all}
use Rattle.std.proofs.lemmas.Bool.{le-leb, leb-true, eqb-false, ltb-false, ne_eqb, le-ltb, cond-true, cond-false, cases_lt, cases_eq, cases_Bool, and_parts, and_cases, and_from, and_left, and_right, or_parts, or_from}
use Rattle.sheet.specs.Numeral.{Figures, value_after, Number, is_figure, figures_after, misshapen, at_most, numeral}

pub figure : (b : ℕ) → 48 ≤ b → b ≤ 57 → is_figure b ≡ true
figure b l h = and_from _ _ (le-leb 48 b l) (le-leb b 57 h)

module _ (w : List ℕ) (i n : ℕ) (in-w : i < length w) where
  pub figure_more : is_figure (get_or w i 0) ≡ true → figures_after n (drop i w) ≡ figures_after (n * 10 + (get_or w i 0 - 48)) (drop (i + 1) w)
  figure_more t = at_drop_more (figures_after n) w i 0 in-w ∙ cond-true _ _ _ t

  pub figure_stop : is_figure (get_or w i 0) ≡ false → figures_after n (drop i w) ≡ None
  figure_stop f = at_drop_more (figures_after n) w i 0 in-w ∙ cond-false _ _ _ f

pub figure_all : (w : List ℕ) (i n : ℕ) → length w ≤ i → figures_after n (drop i w) ≡ Some n
figure_all w i n h = at_drop_all (figures_after n) w i h

pub ten_more : (i : ℕ) → 10 ^ (i + 1) ≡ 10 ^ i * 10
ten_more i = ap (λ k. 10 ^ k) (add-one i) ∙ pow-suc 10 i

-- The computation and the relation.
pub record Read (m : ℕ) (w : List ℕ) (n : ℕ) : Type 0 where
  pub figures : Figures w
  pub value : n ≡ value_after m w

read_sound : (m : ℕ) (w : List ℕ) (n : ℕ) → figures_after m w ≡ Some n → Read m w n
read_sound m [] n e = record { figures = tt; value = let same : m ≡ n = cc in sym same }
read_sound m (b ∷ bs) n e =
    ⊎_elim
    (λ t.
    let c = cond-true _ (figures_after (m * 10 + (b - 48)) bs) None t in
    let p = and_parts _ _ t in
    let r = read_sound (m * 10 + (b - 48)) bs n (cc) in
    record { figures = ((leb-true _ _ p.0, leb-true _ _ p.1), r.figures); value = r.value })
    (λ f. let c = cond-false _ (figures_after (m * 10 + (b - 48)) bs) None f in absurd (none-some n (cc)))
    (cases_Bool (is_figure b))

read_complete : (m : ℕ) (w : List ℕ) (n : ℕ) → Figures w → n ≡ value_after m w → figures_after m w ≡ Some n
read_complete m [] n f v = ap Some (sym v)
read_complete m (b ∷ bs) n f v = cond-true _ _ _ (figure b f.0.0 f.0.1) ∙ read_complete (m * 10 + (b - 48)) bs n f.1 v

at_most_sound : (o : Option ℕ) (n : ℕ) → at_most o ≡ Some n → (o ≡ Some n) × (n ≤ 65535)
at_most_sound None n e = absurd (none-some n e)
at_most_sound (Some m) n e =
    ⊎_elim
    (λ t. let c = cond-true _ (Some m) None t in let same : m ≡ n = cc in let le = leb-true _ _ t in (ap Some same, omega arith))
    (λ f. let c = cond-false _ (Some m) None f in absurd (none-some n (cc)))
    (cases_Bool (leb m 65535))

pub numeral_sound : (w : List ℕ) (n : ℕ) → numeral w ≡ Some n → Number w n
numeral_sound w n e =
    ⊎_elim
    (λ t. let c = cond-true _ None (at_most (figures_after 0 w)) t in absurd (none-some n (cc)))
    (λ f.
    let c = cond-false _ None (at_most (figures_after 0 w)) f in
    let small = at_most_sound (figures_after 0 w) n (cc) in
    let r = read_sound 0 w n small.0 in
    let p = or_parts _ _ f in
    let q = or_parts _ _ p.1 in
    let some = eqb-false _ _ p.0 in
    let few = ltb-false _ _ q.0 in
    record {
      some = ⊎_elim (λ h. absurd (some (omega arith))) (λ h. h) (cases_lt (length w) 1);
      few = few;
      figures = r.figures;
      plain = λ z. ⊎_elim (λ g. absurd (eqb-false _ _ g z)) (λ g. let le = ltb-false _ _ g in ⊎_elim (λ h. absurd (some (omega arith))) (λ h. omega arith) (cases_lt (length w) 1)) (and_cases _ _ q.1);
      value = r.value;
      fits = small.1;
    })
    (cases_Bool (misshapen w))

pub numeral_complete : (w : List ℕ) (n : ℕ) → Number w n → numeral w ≡ Some n
numeral_complete w n h =
    let some = h.some in
    let few = h.few in
    let shaped : misshapen w ≡ false = or_from _ _ (ne_eqb (length w) 0 (λ e. omega arith)) (or_from _ _ (le-ltb 5 (length w) few)
    (⊎_elim (λ z. and_right _ _ (let one = h.plain z in le-ltb 1 (length w) (omega arith))) (λ z. and_left _ _ (ne_eqb _ _ z)) (cases_eq (get_or w 0 0) 48))) in
    cond-false _ _ _ shaped ∙ ap at_most (read_complete 0 w n h.figures h.value) ∙ cond-true _ _ _ (le-leb n 65535 h.fits)
