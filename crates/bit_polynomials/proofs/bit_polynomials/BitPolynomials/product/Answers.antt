use Rattle.std.proofs.Common.{rules, ◌≡◌, ◌+◌, ◌-◌, ◌/◌, ◌%◌, ap, ◌∙◌, arith}
use Rattle.std.specs.Int.Bits.{bit_xor}
use Rattle.bit_polynomials.specs.Polynomials.{times}
use Rattle.bit_polynomials.specs.Powers.{times_turn, turn_lt}
use Rattle.bit_polynomials.proofs.bit_polynomials.BitPolynomials.product.Goals as goal

pub loop-preserved : goal.loop-preserved
loop-preserved c =
    let f = c.args.self.now in
    let k = f.degree in
    let m = f.modulus in
    let x = c.loop.x in
    let y = c.loop.y in
    let s = c.if-y-eq1.r in
    let j = k - (c.loop.counter + 1) in
    let one : y % 2 ≡ 1 → s ≡ bit_xor c.loop.r x = search rules in
    let none : y % 2 ≡ 0 → s ≡ c.loop.r = search rules in (
      c.doubled-x.ensures.within,
      turn_lt k m f.order c.loop.r s x y f.power c.loop.invariant.1 c.loop.invariant.0 one none,
      ap (λ z. bit_xor s (times k m j z (y / 2))) c.doubled-x.ensures.is
          ∙ times_turn k m (k - c.loop.counter) j c.loop.r s x y (omega arith) one none
          ∙ c.loop.invariant.2,
    )
