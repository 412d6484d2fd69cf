-- What the fields mean that a sheet names. Assumes nothing.
--   meaning_of f   what the field with the name f means
use Rattle.field.specs.Meaning.{Meaning}
use Rattle.residues.specs.Modulo.{modulo}
use Rattle.bit_polynomials.specs.Polynomials.{field_of}
use Rattle.table.specs.Logarithms.{by_logarithms}
use Rattle.sheet.specs.declared.names.FieldName.{FieldName}
use Rattle.sheet.specs.declared.names.FieldName.TheVariants.{P2, P3, P5, P7, P17, P31, P127, P251, B4, B16, B256, T256}

abbrev pub meaning_of : FieldName → Meaning
meaning_of P2 = modulo 2
meaning_of P3 = modulo 3
meaning_of P5 = modulo 5
meaning_of P7 = modulo 7
meaning_of P17 = modulo 17
meaning_of P31 = modulo 31
meaning_of P127 = modulo 127
meaning_of P251 = modulo 251
meaning_of B4 = field_of 4
meaning_of B16 = field_of 16
meaning_of B256 = field_of 256
meaning_of T256 = by_logarithms
