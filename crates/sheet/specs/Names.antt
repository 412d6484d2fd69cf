-- The keywords and the field names that a sheet knows. Assumes nothing.
--   keyword k, field_name_of f   the bytes of a keyword, of a field's name
--   the_default_field            the field of a task that names none
--   keywords, fields             all of them
--   first_of text xs w           the first of xs whose text is w
--   keyword_for w, field_of w    the keyword, the field with the bytes w
use Rattle.std.specs.Prelude.{ℕ, cond, List, [], ◌∷◌, Some, None, codes, Option}
use Rattle.std.specs.Str.{bytes_eq}
use Rattle.sheet.specs.declared.names.Keyword.{Keyword}
use Rattle.sheet.specs.declared.names.Keyword.TheVariants.{Field, Digits, Claim, Tail}
use Rattle.sheet.specs.declared.names.FieldName.{FieldName}
use Rattle.sheet.specs.declared.names.FieldName.TheVariants.{P2, P3, P5, P7, P17, P31, P127, P251, B4, B16, B256, T256}

abbrev pub keyword : Keyword → List ℕ
keyword Field = codes "field"
keyword Digits = codes "digits"
keyword Claim = codes "claim"
keyword Tail = codes "tail"

abbrev pub field_name_of : FieldName → List ℕ
field_name_of P2 = codes "p2"
field_name_of P3 = codes "p3"
field_name_of P5 = codes "p5"
field_name_of P7 = codes "p7"
field_name_of P17 = codes "p17"
field_name_of P31 = codes "p31"
field_name_of P127 = codes "p127"
field_name_of P251 = codes "p251"
field_name_of B4 = codes "b4"
field_name_of B16 = codes "b16"
field_name_of B256 = codes "b256"
field_name_of T256 = codes "t256"

abbrev pub the_default_field : FieldName
the_default_field = P2

abbrev pub first_of : {X : Type 0} → (X → List ℕ) → List X → List ℕ → Option X
first_of text [] w = None
first_of text (x ∷ xs) w = cond (bytes_eq w (text x)) (Some x) (first_of text xs w)

abbrev pub keywords : List Keyword
keywords = Field ∷ Digits ∷ Claim ∷ Tail ∷ []

abbrev pub fields : List FieldName
fields = P2 ∷ P3 ∷ P5 ∷ P7 ∷ P17 ∷ P31 ∷ P127 ∷ P251 ∷ B4 ∷ B16 ∷ B256 ∷ T256 ∷ []

abbrev pub keyword_for : List ℕ → Option Keyword
keyword_for = first_of keyword keywords

abbrev pub field_of : List ℕ → Option FieldName
field_of = first_of field_name_of fields
