-- The empty part is lawful, and a sum is by the laws of the two below.
use Rattle.std.specs.Prelude.{ℕ, ◌+◌, ◌&&◌, ◌||◌, Some, None, Option}
use Rattle.std.proofs.Common.{inl, inr, arith, leb→le}
use Rattle.terms.specs.Terms.{size}
use Rattle.terms.proofs.Booleans.{fst_of, snd_of, one_of}
use Rattle.algebras.specs.Meanings.{Meaning, Lawful, Within, reach}
use Rattle.algebras.specs.Layers.{empty_means, sum_means, add_ceilings}

pub empty_lawful : Lawful empty_means
empty_lawful = record {
  reached = λ sig f t o g. omega arith;
  strict_weak = λ sig f r ok s. tt;
  keeps = λ sig f r ok w c σ l r'. omega arith;
  lowers = λ sig f r ok s c σ l r'. absurd s;
  ceiled = λ sig f t o. omega arith;
}

within_sum : (g h : ℕ) (c d : Option ℕ) → Within g c → Within h d → Within (g + h) (add_ceilings c d)
within_sum g h None d x y = tt
within_sum g h (Some c) None x y = tt
within_sum g h (Some c) (Some d) x y = omega arith

pub sum_lawful : (A B : Meaning) → Lawful A → Lawful B → Lawful (sum_means A B)
sum_lawful A B a b = record {
  reached = λ sig f t o g. leb→le (A.height t + B.height t) reach (snd_of (A.given t && B.given t) _ g);
  strict_weak = λ sig f r ok s. fst_of (A.weak r && B.weak r) (A.strict r || B.strict r) s;
  keeps = λ sig f r ok w c σ l r'.
      let x = a.keeps sig (fst_of (A.fits sig) _ f) r ok (fst_of (A.weak r) _ w) c σ l r' in
      let y = b.keeps sig (snd_of (A.fits sig) _ f) r ok (snd_of (A.weak r) _ w) c σ l r' in
      omega arith;
  lowers = λ sig f r ok s c σ l r'.
      let fa = fst_of (A.fits sig) _ f in
      let fb = snd_of (A.fits sig) _ f in
      let w = fst_of (A.weak r && B.weak r) (A.strict r || B.strict r) s in
      let x = a.keeps sig fa r ok (fst_of (A.weak r) _ w) c σ l r' in
      let y = b.keeps sig fb r ok (snd_of (A.weak r) _ w) c σ l r' in
      elim (one_of (A.strict r) (B.strict r) (snd_of (A.weak r && B.weak r) (A.strict r || B.strict r) s)) [
        | inl p ↦ (let z = a.lowers sig fa r ok p c σ l r' in omega arith)
        | inr q ↦ (let z = b.lowers sig fb r ok q c σ l r' in omega arith)
      ];
  ceiled = λ sig f t o.
      within_sum (A.height t) (B.height t) (A.ceiling (size t)) (B.ceiling (size t)) (a.ceiled sig (fst_of (A.fits sig) _ f) t o) (b.ceiled sig (snd_of (A.fits sig) _ f) t o);
}
