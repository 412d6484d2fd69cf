-- The known answers, by computing with the definitions.
use Rattle.std.proofs.Common.{◌≡◌, List, map, get_or, sym, refl, ap, ◌∙◌}
use Rattle.std.proofs.lemmas.List.{get_or-map}
use Rattle.field.specs.Meaning.{add, multiply}
use Rattle.field.specs.Operations.{the, negative, inverse}
use Rattle.register.specs.Rule.{Sum, feedback}
use Rattle.register.specs.Rows.{shifted}
use Rattle.bit_polynomials.specs.Polynomials.{double, times}
use Rattle.table.specs.Logarithms.{power, logarithm}
use Rattle.massey.specs.Steps.{step, run}
use Rattle.massey.specs.Theorems.{register_of, other_of}
use Rattle.known_answers.specs.Known.{Answer, KnownAnswer, answer_for, AllKnown, known_answer_list}

abbrev listed : KnownAnswer → Answer
listed a = a.answer

abbrev derived : KnownAnswer → Answer
derived a = answer_for a.field a.digits

each : (answers : List KnownAnswer) → map derived answers ≡ map listed answers → AllKnown answers
each answers same k d h =
    sym (get_or-map derived answers k d (listed d) h) ∙ ap (λ found. get_or found k (listed d)) same ∙ get_or-map listed answers k d (listed d) h

pub all_known : AllKnown known_answer_list
unfolding add multiply the negative inverse Sum feedback shifted double times power logarithm step run register_of other_of
all_known = each known_answer_list refl
