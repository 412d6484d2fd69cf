-- The kind of a word. Assumes nothing.
--   Kind                             a keyword, a field's name, a number, or none of these
--   kind_by n k f                    the kind of what is the number n, the keyword k or the field's name f
--   kind_of w                        the kind of the bytes w
--   as_keyword, as_name, as_number   what a word of that kind tells
--   kind_in, text_of, place_of       the kind, the bytes and the place that the reader's word tells
use Rattle.std.specs.Prelude.{ℕ, List, Some, None, Option}
use Rattle.sheet.specs.Names.{keyword_for, field_of}
use Rattle.sheet.specs.Numeral.{numeral}
use Rattle.sheet.specs.declared.fault.At.{At}
use Rattle.sheet.specs.declared.names.FieldName.{FieldName}
use Rattle.sheet.specs.declared.names.Keyword.{Keyword as Key}
use Rattle.sheet.specs.declared.word.Word.{Word}
use Rattle.sheet.specs.declared.word.Word.TheVariants.{Keyword, Name, Number, Unknown}

pub data Kind : Type 0 where
  a_keyword : Key → Kind
  a_name : FieldName → Kind
  a_number : ℕ → Kind
  unknown : Kind

-- the kind of what was found, or else the next
abbrev pub or_else : {X : Type 0} → Option X → (X → Kind) → Kind → Kind
or_else None kind next = next
or_else (Some x) kind next = kind x

abbrev pub kind_by : Option ℕ → Option Key → Option FieldName → Kind
kind_by n k f = or_else n a_number (or_else k a_keyword (or_else f a_name unknown))

unfoldable pub kind_of : List ℕ → Kind
kind_of w = kind_by (numeral w) (keyword_for w) (field_of w)

abbrev pub as_keyword : Kind → Option Key
as_keyword (a_keyword k) = Some k
as_keyword (a_name f) = None
as_keyword (a_number n) = None
as_keyword unknown = None

abbrev pub as_name : Kind → Option FieldName
as_name (a_keyword k) = None
as_name (a_name f) = Some f
as_name (a_number n) = None
as_name unknown = None

abbrev pub as_number : Kind → Option ℕ
as_number (a_keyword k) = None
as_number (a_name f) = None
as_number (a_number n) = Some n
as_number unknown = None

abbrev pub kind_in : Word → Kind
kind_in (Keyword k text a) = a_keyword k
kind_in (Name f text a) = a_name f
kind_in (Number n text a) = a_number n
kind_in (Unknown text a) = unknown

abbrev pub text_of : Word → List ℕ
text_of (Keyword k text a) = text.now
text_of (Name f text a) = text.now
text_of (Number n text a) = text.now
text_of (Unknown text a) = text.now

abbrev pub place_of : Word → At
place_of (Keyword k text a) = a
place_of (Name f text a) = a
place_of (Number n text a) = a
place_of (Unknown text a) = a
