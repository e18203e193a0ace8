-- The ceiling of a linear part whose factors are all 1.
use Rattle.std.proofs.Common.{◌≡◌, ℕ, suc, ◌+◌, ◌*◌, ◌<◌, ◌≤◌, Bool, true, false, cond, ◌&&◌, T, eqb, ltb, length, get_or, Some, None, ap, ◌∙◌, add-mul, one-mul, arith, eqb→eq, ltb→lt}
use Rattle.terms.specs.Terms.{Term, Terms, Term.var, Term.app, Terms.none, Terms.more, count, size, size_all, over, over_all}
use Rattle.terms.proofs.Booleans.{fst_of, snd_of}
use Rattle.algebras.specs.Meanings.{Within}
use Rattle.interpretations.specs.Numbers.{total, every}
use Rattle.interpretations.specs.Parts.{Part, value, products, zeros, height}
use Rattle.interpretations.specs.Orders.{all_ones, largest_constant, linear_ceiling}
use Rattle.interpretations.specs.Laws.{Ceiled}
use Rattle.interpretations.proofs.Tests.{every-at, largest-at}

module _ (P : Part) (one : P.dim ≡ 1) where
  -- in dimension 1 a matrix is a factor
  lone : (f : ℕ → ℕ) → total P.dim f ≡ f 0
  lone f = ap (λ n. total n f) one ∙ (let z : f 0 + 0 ≡ f 0 = omega arith in z)

  module _ (ones : T (all_ones P)) where
    one_at : (f k : ℕ) → f < length P.sig → k < get_or P.sig f 0 → P.entry f k 0 0 ≡ 1
    one_at f k h l = eqb→eq (P.entry f k 0 0) 1
        (every-at (get_or P.sig f 0) (λ k. eqb (P.entry f k 0 0) 1) (every-at (length P.sig) (λ f. every (get_or P.sig f 0) (λ k. eqb (P.entry f k 0 0) 1)) ones f h) k l)

    mutual
      low : (t : Term) → T (over P.sig t) → value P zeros t 0 ≤ size t * largest_constant P
      low (var v) o = omega arith
      low (app f ts) o =
          let head = ltb f (length P.sig) && eqb (count ts) (get_or P.sig f 0) in
          let known = ltb→lt f (length P.sig) (fst_of (ltb f (length P.sig)) _ (fst_of head (over_all P.sig ts) o)) in
          let arity = eqb→eq (count ts) (get_or P.sig f 0) (snd_of (ltb f (length P.sig)) _ (fst_of head (over_all P.sig ts) o)) in
          let a = lows f 0 ts known (omega arith) (snd_of head (over_all P.sig ts) o) in
          let b = largest-at (length P.sig) (λ f. P.constant f 0) f known in
          let e = add-mul 1 (size_all ts) (largest_constant P) in
          omega arith

      lows : (f k : ℕ) (ts : Terms) → f < length P.sig → k + count ts ≤ get_or P.sig f 0 → T (over_all P.sig ts) → products P zeros f k ts 0 ≤ size_all ts * largest_constant P
      lows f k none h l o = omega arith
      lows f k (more t ts) h l o =
          let a = low t (fst_of (over P.sig t) _ o) in
          let b = lows f (suc k) ts h (omega arith) (snd_of (over P.sig t) _ o) in
          let e = one_at f k h (omega arith) in
          let x = value P zeros t 0 in
          let m : total P.dim (λ j. P.entry f k 0 j * value P zeros t j) ≡ x = lone (λ j. P.entry f k 0 j * value P zeros t j) ∙ ap (λ n. n * x) e ∙ one-mul x in
          let d = add-mul (size t) (size_all ts) (largest_constant P) in
          omega arith

  pub linear_ceiled : Ceiled P (linear_ceiling P)
  linear_ceiled t o = go (all_ones P) (λ h. low h t o)
    where
      go : (b : Bool) → (T b → height P t ≤ size t * largest_constant P) → Within (height P t) (cond b (Some (size t * largest_constant P)) None)
      go true h = h tt
      go false h = tt
