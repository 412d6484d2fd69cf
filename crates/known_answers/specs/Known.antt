-- Strings whose shortest registers are known, and what the steps over each come to. Assumes nothing.
--   p2, p5, p251, b256, t256   the fields that the strings are over, by their names on a sheet
--   Answer                     a length, taps, a count, and the taps that `other` writes, or nothing
--   KnownAnswer                a field, digits of it, and the answer
--   answer_for m w             the answer, from the steps over w
--   Known a                    the answer is that of the steps
--   AllKnown answers           so is each of a list
--   known m w l taps n other   an entry of the list: field, digits, and the answer's four parts
--   known_answer_list          the list
use Rattle.std.specs.Prelude.{◌≡◌, ℕ, List, [], ◌∷◌, Some, None, Option}
use Rattle.std.specs.List.{All}
use Rattle.std.specs.Option.{option_and}
use Rattle.field.specs.Meaning.{Meaning}
use Rattle.residues.specs.Modulo.{modulo}
use Rattle.bit_polynomials.specs.Polynomials.{field_of}
use Rattle.table.specs.Logarithms.{by_logarithms}
use Rattle.massey.specs.Steps.{steps}
use Rattle.massey.specs.Theorems.{register_of, other_of}
use Rattle.synthesis.specs.Answers.{other_answer}

abbrev pub p2 : Meaning
p2 = modulo 2

abbrev pub p5 : Meaning
p5 = modulo 5

abbrev pub p251 : Meaning
p251 = modulo 251

abbrev pub b256 : Meaning
b256 = field_of 256

abbrev pub t256 : Meaning
t256 = by_logarithms

pub record Answer : Type 0 where
  pub length : ℕ
  pub taps : List ℕ
  pub count : ℕ
  pub other : Option (List ℕ)

pub record KnownAnswer : Type 0 where
  pub field : Meaning
  pub digits : List ℕ
  pub answer : Answer

abbrev pub answer_for : Meaning → List ℕ → Answer
answer_for m w = record {
  length = (steps m w).l;
  taps = register_of (steps m w);
  count = (steps m w).count;
  other = option_and (other_answer m w) (Some (other_of m (steps m w)));
}

abbrev pub Known : KnownAnswer → Type 0
Known a = answer_for a.field a.digits ≡ a.answer

abbrev pub AllKnown : List KnownAnswer → Type 0
AllKnown answers = All Known answers

abbrev pub known : Meaning → List ℕ → ℕ → List ℕ → ℕ → Option (List ℕ) → KnownAnswer
known m w l taps n other = record {
  field = m;
  digits = w;
  answer = record {
    length = l;
    taps = taps;
    count = n;
    other = other;
  };
}

abbrev pub known_answer_list : List KnownAnswer
known_answer_list =
    known p2 [] 0 [] 0 None
    ∷ known p2 (0 ∷ 0 ∷ 0 ∷ []) 0 [] 0 None
    ∷ known p2 (1 ∷ []) 1 (1 ∷ []) 1 (Some (0 ∷ []))
    ∷ known p2 (1 ∷ 1 ∷ 0 ∷ []) 2 (1 ∷ 1 ∷ []) 5 (Some (0 ∷ 0 ∷ []))
    ∷ known p2 (0 ∷ 0 ∷ 1 ∷ 1 ∷ []) 3 (1 ∷ 0 ∷ 1 ∷ []) 9 (Some (1 ∷ 1 ∷ 1 ∷ []))
    ∷ known p2 (0 ∷ 0 ∷ 0 ∷ 1 ∷ []) 4 (0 ∷ 0 ∷ 0 ∷ 1 ∷ []) 4 (Some (1 ∷ 0 ∷ 0 ∷ 1 ∷ []))
    ∷ known p5 (1 ∷ 3 ∷ []) 1 (2 ∷ []) 3 None
    ∷ known p5 (1 ∷ 2 ∷ 4 ∷ []) 1 (3 ∷ []) 4 None
    ∷ known p5 (1 ∷ 2 ∷ 4 ∷ 0 ∷ []) 3 (3 ∷ 0 ∷ 3 ∷ []) 8 (Some (4 ∷ 3 ∷ 3 ∷ []))
    ∷ known p251 (1 ∷ 2 ∷ 4 ∷ []) 1 (249 ∷ []) 4 None
    ∷ known t256 (1 ∷ 2 ∷ 4 ∷ []) 1 (2 ∷ []) 4 None
    ∷ known b256 (128 ∷ 29 ∷ []) 1 (2 ∷ []) 3 None
    ∷ []
