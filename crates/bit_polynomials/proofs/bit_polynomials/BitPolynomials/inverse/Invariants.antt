use Rattle.std.proofs.Common.{◌≡◌, ◌-◌, ◌<◌}
use Rattle.bit_polynomials.specs.Powers.{squares}
use Rattle.bit_polynomials.proofs.bit_polynomials.BitPolynomials.inverse.Given as goal

abbrev pub invariant-loop : goal.invariant-loop
invariant-loop l =
    (l.square < l.self.order) × (l.r < l.self.order)
    × (squares l.self.degree l.self.modulus (l.self.degree - l.counter) l.square l.r ≡ squares l.self.degree l.self.modulus (l.self.degree - 1) l.a 1)
