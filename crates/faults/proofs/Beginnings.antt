-- What stands where in a line.
use Rattle.std.proofs.Common.{◌≡◌, ℕ, ◌+◌, true, List, [], ◌∷◌, ◌++◌, length, sym, refl, ap, ◌∙◌, subst, append_assoc, append-nil, arith, length-append}
use Rattle.std.proofs.lemmas.Bool.{eqb-false}
use Rattle.sheet.specs.Begins.{closed, place_behind}
use Rattle.faults.specs.Faulty.{no_name, unknown_name, second_name, at_word, too_few, Breaks}
use Rattle.sheet.proofs.Beginnings.{closed_append, closed_none}
use Rattle.sheet.proofs.Joins.{lacks_head, lacks_more, lacks_append}
use Rattle.sheet.proofs.Known.{keyword_is}
use Rattle.sheet.specs.Form.{behind}
use Rattle.sheet.specs.Names.{keyword, field_name_of}
use Rattle.sheet.specs.Reading.{spot}
use Rattle.sheet.specs.Split.{lacks}
use Rattle.sheet.specs.declared.fault.At.{At}
use Rattle.sheet.specs.declared.fault.SheetFault.{SheetFault}
use Rattle.sheet.specs.declared.names.Keyword.{Keyword}
use Rattle.sheet.specs.declared.names.Keyword.TheVariants.{Field, Digits, Claim, Tail}

pub lacks_front : (stop : ℕ) (xs ys : List ℕ) → lacks stop (xs ++ ys) ≡ true → lacks stop xs ≡ true
lacks_front stop [] ys h = refl
lacks_front stop (b ∷ xs) ys h = let p = lacks_head stop b (xs ++ ys) h in lacks_more stop b xs (eqb-false _ _ p.0) (lacks_front stop xs ys p.1)

-- a place on a line
pub place_in : (before text : List ℕ) → lacks 10 text ≡ true → place_behind (before ++ text) ≡ spot (closed before + 1) (length before + length text)
place_in before text h =
    ap (λ n. spot (n + 1) (length (before ++ text))) (closed_append before text ∙ let none = closed_none text h in omega arith)
    ∙ ap (spot (closed before + 1)) (length-append before text)

behind_append : (stop : ℕ) (xs ys : List (List ℕ)) → behind stop (xs ++ ys) ≡ behind stop xs ++ behind stop ys
behind_append stop [] ys = refl
behind_append stop (x ∷ xs) ys = ap (λ t. stop ∷ (x ++ t)) (behind_append stop xs ys) ∙ ap (λ t. stop ∷ t) (sym (append_assoc x (behind stop xs) (behind stop ys)))

behind_word : (good : List (List ℕ)) (w : List ℕ) (more ws : List (List ℕ)) (said : List ℕ) → ws ≡ good ++ w ∷ more → said ≡ behind 32 good ++ 32 ∷ [] → behind 32 ws ≡ said ++ (w ++ behind 32 more)
behind_word good w more ws said words is =
    ap (behind 32) words
    ∙ behind_append 32 good (w ∷ more)
    ∙ sym (append_assoc (behind 32 good) (32 ∷ []) (w ++ behind 32 more))
    ∙ ap (λ t. t ++ (w ++ behind 32 more)) (sym is)

-- what stands before a fault is the front of its line
said_front : (k : Keyword) (ps : List ℕ) (ws : List (List ℕ)) (said : List ℕ) (a : At) (e : SheetFault) → Breaks k ps ws said a e → (rest : List ℕ) × (behind 32 ws ≡ said ++ rest)
said_front Field ps ws said a e (no_name none here is) = (behind 32 ws, ap (λ t. t ++ behind 32 ws) (sym here))
said_front Field ps ws said a e (unknown_name w more words never here is) = (w ++ behind 32 more, behind_word [] w more ws said words here)
said_front Field ps ws said a e (second_name f w more words here is) = (w ++ behind 32 more, behind_word (field_name_of f ∷ []) w more ws said words here)
said_front Digits ps ws said a e b = (b.w ++ behind 32 b.more, behind_word b.good b.w b.more ws said b.words b.said_is)
said_front Claim ps ws said a e b = (b.w ++ behind 32 b.more, behind_word b.good b.w b.more ws said b.words b.said_is)
said_front Tail ps ws said a e (at_word b) = (b.w ++ behind 32 b.more, behind_word b.good b.w b.more ws said b.words b.said_is)
said_front Tail ps ws said a e (too_few first p left are numbers here is) = ([], sym (ap (λ t. t ++ []) here ∙ append-nil (behind 32 ws)))

-- and so its place is one on that line
pub place_said : (before : List ℕ) (k : Keyword) (ps : List ℕ) (ws : List (List ℕ)) (said : List ℕ) (a : At) (e : SheetFault) → lacks 10 (behind 32 ws) ≡ true → Breaks k ps ws said a e → place_behind (before ++ (keyword k ++ said)) ≡ spot (closed before + 1) (length before + length (keyword k) + length said)
place_said before k ps ws said a e lack b =
    let front = said_front k ps ws said a e b in
    let free : lacks 10 said ≡ true = lacks_front 10 said front.0 (subst (λ t. lacks 10 t ≡ true) front.1 lack) in
    place_in before (keyword k ++ said) (lacks_append 10 (keyword k) said (keyword_is k).1 free)
    ∙ ap (spot (closed before + 1)) (simp length-append (omega arith))
