use Rattle.std.proofs.Common.{◌≡◌, ◌*◌, ◌≤◌, [], length}
use Rattle.sheet.specs.Reading.{numbers_after}
use Rattle.sheet.specs.Steps.{words_left}
use Rattle.sheet.proofs.contents.numbers.Given as goal

-- each number took two bytes at least
abbrev pub invariant-loop-word : goal.invariant-loop-word
invariant-loop-word l =
    (2 * length l.list.items ≤ l.word-iterator.at.byte)
    × (numbers_after l.fn.words.at.line l.fn.words.at.byte [] (words_left l.fn.words)
    ≡ numbers_after l.word-iterator.at.line l.word-iterator.at.byte l.list.items (words_left l.word-iterator))
