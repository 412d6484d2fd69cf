-- What the making of a field answers. Assumes nothing.
--   Makes known m means r   where `known`, since the kind has that size, a field that means m, which has the laws; else that there is no such field
use Rattle.std.specs.Prelude.{◌≡◌, Bool, true, false, Ok, Err, Result}
use Rattle.field.specs.declared.refusal.Refusal.{Refusal}
use Rattle.field.specs.declared.refusal.Refusal.TheVariants.{NoSuchField}
use Rattle.field.specs.Meaning.{Meaning}
use Rattle.field.specs.Laws.{FieldLaws}

abbrev pub Makes : {F : Type 0} → Bool → Meaning → (F → Meaning) → Result F Refusal → Type 0
Makes known m means (Ok f) = (known ≡ true) × (means f ≡ m) × FieldLaws m
Makes known m means (Err e) = (known ≡ false) × (e ≡ NoSuchField)
