-- Pieces joined are split again, and the other way round.
use Rattle.std.proofs.Common.{◌≡◌, ℕ, ◌<◌, true, false, eqb, List, [], ◌∷◌, ◌++◌, length, sym, refl, ap, ◌∙◌, ⊎_elim, append-nil, arith}
use Rattle.std.proofs.lemmas.Bool.{eq-eqb, ne_eqb, eqb-true, cond-true, cond-false, cond_both, cases_Bool, both_ways}
use Rattle.sheet.proofs.Splits.{split_some}
use Rattle.sheet.specs.Form.{behind, AreNumbers}
use Rattle.sheet.specs.Numeral.{Figures}
use Rattle.sheet.specs.Split.{prepend, split, lacks, AllLack}

pub lacks_head : (stop b : ℕ) (bs : List ℕ) → lacks stop (b ∷ bs) ≡ true → (eqb b stop ≡ false) × (lacks stop bs ≡ true)
lacks_head stop b bs h =
    ⊎_elim
    (λ t. absurd (both_ways (lacks stop (b ∷ bs)) (cond-true (eqb b stop) false (lacks stop bs) t) h))
    (λ f. (f, sym (cond-false (eqb b stop) false (lacks stop bs) f) ∙ h))
    (cases_Bool (eqb b stop))

pub lacks_more : (stop b : ℕ) (bs : List ℕ) → (b ≡ stop → ⊥) → lacks stop bs ≡ true → lacks stop (b ∷ bs) ≡ true
lacks_more stop b bs ne h = cond-false (eqb b stop) false (lacks stop bs) (ne_eqb b stop ne) ∙ h

pub lacks_append : (stop : ℕ) (xs ys : List ℕ) → lacks stop xs ≡ true → lacks stop ys ≡ true → lacks stop (xs ++ ys) ≡ true
lacks_append stop [] ys hx hy = hy
lacks_append stop (x ∷ xs) ys hx hy =
    let p = lacks_head stop x xs hx in
    cond-false (eqb x stop) false (lacks stop (xs ++ ys)) p.0 ∙ lacks_append stop xs ys p.1 hy

pub split_cut : (stop : ℕ) (w rest : List ℕ) → lacks stop w ≡ true → split stop (w ++ stop ∷ rest) ≡ w ∷ split stop rest
split_cut stop [] rest h = cond-true (eqb stop stop) _ _ (eq-eqb stop stop refl)
split_cut stop (b ∷ bs) rest h =
    let p = lacks_head stop b bs h in
    cond-false (eqb b stop) _ _ p.0 ∙ ap (prepend b) (split_cut stop bs rest p.1)

pub split_whole : (stop : ℕ) (w : List ℕ) → lacks stop w ≡ true → split stop w ≡ w ∷ []
split_whole stop [] h = refl
split_whole stop (b ∷ bs) h =
    let p = lacks_head stop b bs h in
    cond-false (eqb b stop) _ _ p.0 ∙ ap (prepend b) (split_whole stop bs p.1)

pub split_behind : (stop : ℕ) (w : List ℕ) (ws : List (List ℕ)) → lacks stop w ≡ true → AllLack stop ws → split stop (w ++ behind stop ws) ≡ w ∷ ws
split_behind stop w [] h hs = ap (split stop) (append-nil w) ∙ split_whole stop w h
split_behind stop w (v ∷ vs) h hs = split_cut stop w (v ++ behind stop vs) h ∙ ap (λ ps. w ∷ ps) (split_behind stop v vs hs.0 hs.1)

pub lacks_behind : (s stop : ℕ) (ws : List (List ℕ)) → (stop ≡ s → ⊥) → AllLack s ws → lacks s (behind stop ws) ≡ true
lacks_behind s stop [] ne hs = refl
lacks_behind s stop (w ∷ ws) ne hs = lacks_more s stop _ ne (lacks_append s w (behind stop ws) hs.0 (lacks_behind s stop ws ne hs.1))

-- numbers have neither blanks nor line ends
figures_lack : (stop : ℕ) (w : List ℕ) → stop < 48 → Figures w → lacks stop w ≡ true
figures_lack stop [] lt f = refl
figures_lack stop (b ∷ bs) lt f = let low = f.0.0 in lacks_more stop b bs (λ e. omega arith) (figures_lack stop bs lt f.1)

pub numbers_lack : (stop : ℕ) (ws : List (List ℕ)) (ns : List ℕ) → stop < 48 → AreNumbers ws ns → AllLack stop ws
numbers_lack stop [] [] lt h = tt
numbers_lack stop [] (n ∷ ns) lt h = absurd h
numbers_lack stop (w ∷ ws) [] lt h = absurd h
numbers_lack stop (w ∷ ws) (n ∷ ns) lt h = (figures_lack stop w lt h.0.figures, numbers_lack stop ws ns lt h.1)

-- the text of pieces
abbrev pub rejoin : ℕ → List (List ℕ) → List ℕ
rejoin stop [] = []
rejoin stop (w ∷ ws) = w ++ behind stop ws

behind_rejoin : (stop : ℕ) (ps : List (List ℕ)) → 0 < length ps → behind stop ps ≡ stop ∷ rejoin stop ps
behind_rejoin stop [] h = absurd (omega arith)
behind_rejoin stop (w ∷ ws) h = refl

rejoin_prepend : (stop b : ℕ) (ps : List (List ℕ)) → rejoin stop (prepend b ps) ≡ b ∷ rejoin stop ps
rejoin_prepend stop b [] = refl
rejoin_prepend stop b (w ∷ ws) = refl

pub rejoin_split : (stop : ℕ) (xs : List ℕ) → rejoin stop (split stop xs) ≡ xs
rejoin_split stop [] = refl
rejoin_split stop (b ∷ bs) =
    cond_both (eqb b stop) ([] ∷ split stop bs) (prepend b (split stop bs)) (λ ps. rejoin stop ps ≡ b ∷ bs)
    (λ t. behind_rejoin stop (split stop bs) (split_some stop bs) ∙ ap (λ xs. stop ∷ xs) (rejoin_split stop bs) ∙ ap (λ c. c ∷ bs) (sym (eqb-true b stop t)))
    (λ f. rejoin_prepend stop b (split stop bs) ∙ ap (λ xs. b ∷ xs) (rejoin_split stop bs))
