-- What is known of a word's kind.
use Rattle.std.proofs.Common.{◌≡◌, ℕ, true, List, [], ◌∷◌, Some, None, Option, sym, refl, ap, ◌∙◌, ⊎_elim}
use Rattle.std.proofs.lemmas.Option.{none-some}
use Rattle.std.specs.Str.{bytes_eq}
use Rattle.std.proofs.lemmas.Slice.Eq.{bytes_eq-Decides}
use Rattle.std.proofs.lemmas.Bool.{cond-true, cond-false, cases_Bool}
use Rattle.sheet.specs.Split.{lacks}
use Rattle.sheet.specs.Names.{keyword, field_name_of, keywords, fields, first_of, keyword_for, field_of}
use Rattle.sheet.specs.Numeral.{numeral}
use Rattle.sheet.specs.Words.{kind_by, kind_of, as_keyword, as_name, as_number}
use Rattle.sheet.specs.declared.names.Keyword.{Keyword}
use Rattle.sheet.specs.declared.names.Keyword.TheVariants.{Field, Digits, Claim, Tail}
use Rattle.sheet.specs.declared.names.FieldName.{FieldName}
use Rattle.sheet.specs.declared.names.FieldName.TheVariants.{P2, P3, P5, P7, P17, P31, P127, P251, B4, B16, B256, T256}

first_sound : {X : Type 0} (text : X → List ℕ) (xs : List X) (w : List ℕ) (y : X) → first_of text xs w ≡ Some y → w ≡ text y
first_sound text [] w y p = absurd (none-some y p)
first_sound text (x ∷ xs) w y p =
    ⊎_elim
    (λ t. let same : x ≡ y = let c = cond-true (bytes_eq w (text x)) (Some x) (first_of text xs w) t in cc in (bytes_eq-Decides w (text x)).0 t ∙ ap text same)
    (λ f. first_sound text xs w y (sym (cond-false (bytes_eq w (text x)) (Some x) (first_of text xs w) f) ∙ p))
    (cases_Bool (bytes_eq w (text x)))

-- what was found first tells the kind
number_found : (n : Option ℕ) (k : Option Keyword) (f : Option FieldName) → as_number (kind_by n k f) ≡ n
number_found (Some n) k f = refl
number_found None (Some k) f = refl
number_found None None (Some f) = refl
number_found None None None = refl

keyword_found : (n : Option ℕ) (k : Option Keyword) (f : Option FieldName) (y : Keyword) → as_keyword (kind_by n k f) ≡ Some y → k ≡ Some y
keyword_found (Some n) k f y p = absurd (none-some y p)
keyword_found None (Some k) f y p = p
keyword_found None None (Some f) y p = absurd (none-some y p)
keyword_found None None None y p = absurd (none-some y p)

name_found : (n : Option ℕ) (k : Option Keyword) (f : Option FieldName) (y : FieldName) → as_name (kind_by n k f) ≡ Some y → f ≡ Some y
name_found (Some n) k f y p = absurd (none-some y p)
name_found None (Some k) f y p = absurd (none-some y p)
name_found None None (Some f) y p = p
name_found None None None y p = absurd (none-some y p)

pub number_kind : (w : List ℕ) → as_number (kind_of w) ≡ numeral w
unfolding kind_of
number_kind w = number_found (numeral w) (keyword_for w) (field_of w)

pub keyword_sound : (w : List ℕ) (k : Keyword) → as_keyword (kind_of w) ≡ Some k → w ≡ keyword k
unfolding kind_of
keyword_sound w k p = first_sound keyword keywords w k (keyword_found (numeral w) (keyword_for w) (field_of w) k p)

pub field_sound : (w : List ℕ) (f : FieldName) → as_name (kind_of w) ≡ Some f → w ≡ field_name_of f
unfolding kind_of
field_sound w f p = first_sound field_name_of fields w f (name_found (numeral w) (keyword_for w) (field_of w) f p)

-- a keyword has neither blanks nor line ends, and is found
pub keyword_is : (k : Keyword) → (lacks 32 (keyword k) ≡ true) × (lacks 10 (keyword k) ≡ true) × (as_keyword (kind_of (keyword k)) ≡ Some k)
unfolding kind_of
keyword_is Field = (refl, refl, refl)
keyword_is Digits = (refl, refl, refl)
keyword_is Claim = (refl, refl, refl)
keyword_is Tail = (refl, refl, refl)

-- and so is a field's name
pub name_is : (f : FieldName) → (lacks 32 (field_name_of f) ≡ true) × (lacks 10 (field_name_of f) ≡ true) × (as_name (kind_of (field_name_of f)) ≡ Some f)
unfolding kind_of
name_is P2 = (refl, refl, refl)
name_is P3 = (refl, refl, refl)
name_is P5 = (refl, refl, refl)
name_is P7 = (refl, refl, refl)
name_is P17 = (refl, refl, refl)
name_is P31 = (refl, refl, refl)
name_is P127 = (refl, refl, refl)
name_is P251 = (refl, refl, refl)
name_is B4 = (refl, refl, refl)
name_is B16 = (refl, refl, refl)
name_is B256 = (refl, refl, refl)
name_is T256 = (refl, refl, refl)
