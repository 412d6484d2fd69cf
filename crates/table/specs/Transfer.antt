-- Two fields with the same sums and products of digits. Assumes nothing.
use Rattle.std.specs.Prelude.{◌≡◌, ℕ, zero, suc, ◌<◌, Bool, cond, nat_eq, refl}
use Rattle.std.proofs.Common.{sym, ap, ap₂, ◌∙◌, arith}
use Rattle.field.specs.Meaning.{Meaning, digit, add, multiply}
use Rattle.field.specs.Laws.{FieldLaws}
use Rattle.field.specs.Operations.{the, inverse}
use Rattle.field.proofs.Digits.{digit_lt}
use Rattle.table.specs.Agreement.{Agree}

the_same : (q : ℕ) (f g : ℕ → Bool) → ((x : ℕ) → f x ≡ g x) → the q f ≡ the q g
unfolding the
the_same zero f g e = refl
the_same (suc q) f g e = ap₂ (λ b x. cond b q x) (e q) (the_same q f g e)

-- the product is another one, with the same answers on digits
module _ (q : ℕ) (sum p r : ℕ → ℕ → ℕ) (same : (a b : ℕ) → a < q → b < q → p a b ≡ r a b) where
  abbrev m : Meaning
  m = record { order = q; sum = sum; product = p }

  abbrev n : Meaning
  n = record { order = q; sum = sum; product = r }

  pub laws_transfer : FieldLaws n → FieldLaws m
  laws_transfer laws =
      let ring = laws.ring in
      let lt : (a b : ℕ) → a < q → b < q → r a b < q = ring.product_digit in
      record {
        ring = record {
          least = ring.least;
          most = ring.most;
          sum_digit = ring.sum_digit;
          sum_comm = ring.sum_comm;
          sum_assoc = ring.sum_assoc;
          sum_zero = ring.sum_zero;
          negative = ring.negative;
          product_digit = λ a b h l. let e = same a b h l in let k = lt a b h l in omega arith;
          product_comm = λ a b h l. same a b h l ∙ ring.product_comm a b h l ∙ sym (same b a l h);
          product_assoc = λ a b c h l k.
              ap (λ x. p x c) (same a b h l)
              ∙ same (r a b) c (lt a b h l) k
              ∙ ring.product_assoc a b c h l k
              ∙ sym (ap (p a) (same b c l k) ∙ same a (r b c) h (lt b c l k));
          product_one = λ a h. same a 1 h ring.least ∙ ring.product_one a h;
          distributes = λ a b c h l k.
              same a (sum b c) h (ring.sum_digit b c l k) ∙ ring.distributes a b c h l k ∙ sym (ap₂ sum (same a b h l) (same a c h k));
        };
        inverse = λ a h l. let i = laws.inverse a h l in (i.0, i.1, same a i.0 l i.1 ∙ i.2);
      }

  pub agree : 0 < q → Agree m n
  unfolding add multiply inverse
  agree h =
      let products : (a b : ℕ) → multiply m a b ≡ multiply n a b = λ a b. same (digit m a) (digit m b) (digit_lt m a h) (digit_lt m b h) in
      record {
        orders = refl;
        sums = λ a b. refl;
        products = products;
        inverses = λ a. the_same q (λ b. nat_eq (multiply m a b) 1) (λ b. nat_eq (multiply n a b) 1) (λ b. ap (λ x. nat_eq x 1) (products a b));
      }
