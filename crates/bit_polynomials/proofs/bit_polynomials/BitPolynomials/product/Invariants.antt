use Rattle.std.proofs.Common.{◌≡◌, ◌-◌, ◌<◌}
use Rattle.std.specs.Int.Bits.{bit_xor}
use Rattle.bit_polynomials.specs.Polynomials.{times, product}
use Rattle.bit_polynomials.proofs.bit_polynomials.BitPolynomials.product.Given as goal

abbrev pub invariant-loop : goal.invariant-loop
invariant-loop l =
    (l.x < l.self.order) × (l.r < l.self.order)
    × (bit_xor l.r (times l.self.degree l.self.modulus (l.self.degree - l.counter) l.x l.y) ≡ product l.self.degree l.self.modulus l.a l.b)
