-- How many lines a text closes, and what its pieces lack.
use Rattle.std.proofs.Common.{◌≡◌, ℕ, ◌+◌, true, eqb, List, [], ◌∷◌, ◌++◌, length, refl, ◌∙◌, arith, length-append}
use Rattle.std.proofs.lemmas.Bool.{cond-true, cond-false, cond_both, eqb-false}
use Rattle.sheet.proofs.Joins.{lacks_head, lacks_more}
use Rattle.sheet.specs.Begins.{closed}
use Rattle.sheet.specs.Split.{prepend, split, AllLack, lacks}

pub closed_append : (xs ys : List ℕ) → closed (xs ++ ys) ≡ closed xs + closed ys
closed_append [] ys = omega arith
closed_append (b ∷ xs) ys =
    cond_both (eqb b 10) (1 + closed (xs ++ ys)) (closed (xs ++ ys)) (λ n. n ≡ closed (b ∷ xs) + closed ys)
    (λ t. let is = cond-true (eqb b 10) (1 + closed xs) (closed xs) t in let more = closed_append xs ys in omega arith)
    (λ f. let is = cond-false (eqb b 10) (1 + closed xs) (closed xs) f in let more = closed_append xs ys in omega arith)

pub closed_none : (xs : List ℕ) → lacks 10 xs ≡ true → closed xs ≡ 0
closed_none [] h = refl
closed_none (b ∷ xs) h = let p = lacks_head 10 b xs h in cond-false (eqb b 10) (1 + closed xs) (closed xs) p.0 ∙ closed_none xs p.1

-- the place of the next line
pub closed_line : (before s : List ℕ) → lacks 10 s ≡ true → closed (before ++ (s ++ 10 ∷ [])) ≡ closed before + 1
closed_line before s h =
    let whole = closed_append before (s ++ 10 ∷ []) in
    let line = closed_append s (10 ∷ []) in
    let none = closed_none s h in
    omega arith

pub length_line : (before s : List ℕ) → length (before ++ (s ++ 10 ∷ [])) ≡ length before + length s + 1
length_line before s = simp length-append (omega arith)

-- the pieces of a text lack what it lacks, and what parts them
prepend_lack : (s b : ℕ) (ps : List (List ℕ)) → (b ≡ s → ⊥) → AllLack s ps → AllLack s (prepend b ps)
prepend_lack s b [] ne h = (lacks_more s b [] ne refl, tt)
prepend_lack s b (w ∷ ws) ne h = (lacks_more s b w ne h.0, h.1)

pub split_lack : (stop : ℕ) (xs : List ℕ) → AllLack stop (split stop xs)
split_lack stop [] = (refl, tt)
split_lack stop (b ∷ xs) =
    cond_both (eqb b stop) ([] ∷ split stop xs) (prepend b (split stop xs)) (AllLack stop)
    (λ t. (refl, split_lack stop xs))
    (λ f. prepend_lack stop b (split stop xs) (eqb-false _ _ f) (split_lack stop xs))

pub split_lack_too : (s stop : ℕ) (xs : List ℕ) → lacks s xs ≡ true → AllLack s (split stop xs)
split_lack_too s stop [] h = (refl, tt)
split_lack_too s stop (b ∷ xs) h =
    let p = lacks_head s b xs h in
    cond_both (eqb b stop) ([] ∷ split stop xs) (prepend b (split stop xs)) (AllLack s)
    (λ t. (refl, split_lack_too s stop xs p.1))
    (λ f. prepend_lack s b (split stop xs) (eqb-false _ _ p.0) (split_lack_too s stop xs p.1))
