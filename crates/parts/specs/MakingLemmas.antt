-- A part is monotone exactly if its top left entries are positive, and what a signature bounds.
use Rattle.std.specs.Prelude.{◌≡◌, ℕ, ◌<◌, ◌≤◌, min, Bool, false, T, List, [], length, nat_lt, slice_index, slice_index_or}
use Rattle.std.proofs.Common.{sym, ap, ◌∙◌, subst, arith, ltb→lt, lt→ltb}
use Rattle.std.specs.List.{list_all, zip}
use Rattle.terms.specs.declared.signature.Signature.{Signature}
use Rattle.terms.specs.Models.{arities_of}
use Rattle.terms.proofs.Scans.{few_symbols, few_arguments}
use Rattle.interpretations.specs.Numbers.{every}
use Rattle.interpretations.specs.Parts.{Part}
use Rattle.interpretations.specs.Laws.{Monotone}
use Rattle.interpretations.proofs.Tests.{every-at, every_from, every_same, list_all-zip}
use Rattle.forms.specs.Faithful.{Limited}
use Rattle.parts.specs.declared.linear.LinearSymbol.{LinearSymbol}
use Rattle.parts.specs.declared.matrix.MatrixSymbol.{MatrixSymbol}
use Rattle.parts.specs.Kinds.{linear_part, matrix_part, matrix_row, positive}

pub monotone_from : (P : Part) → 0 < P.dim → T (positive P) → Monotone P
unfolding positive
monotone_from P some h = record {
  some = some;
  tops = λ f k a b. ltb→lt 0 (P.entry f k 0 0) (every-at (slice_index P.sig f) (λ k. nat_lt 0 (P.entry f k 0 0)) (every-at (length P.sig) (λ f. every (slice_index P.sig f) (λ k. nat_lt 0 (P.entry f k 0 0))) h f a) k b);
}

pub positive_from : (P : Part) → Monotone P → T (positive P)
unfolding positive
positive_from P m =
    every_from (length P.sig) (λ f. every (slice_index P.sig f) (λ k. nat_lt 0 (P.entry f k 0 0)))
    (λ f a. every_from (slice_index P.sig f) (λ k. nat_lt 0 (P.entry f k 0 0)) (λ k b. lt→ltb 0 (P.entry f k 0 0) (m.tops f k a b)))

pub positive_is : (P : Part) (b : Bool) → b ≡ every (length P.sig) (λ f. every (slice_index P.sig f) (λ k. nat_lt 0 (P.entry f k 0 0))) → b ≡ positive P
unfolding positive
positive_is P b e = e

pub not_monotone : (P : Part) → false ≡ positive P → Monotone P → ⊥
not_monotone P e m = subst (λ b. T b) (sym e) (positive_from P m)

module _ (s : Signature) where
  pub few : length (arities_of s) ≤ 32
  few = few_symbols (arities_of s) s.limited

  pub low : (f : ℕ) → slice_index (arities_of s) f ≤ 4
  low f = few_arguments (arities_of s) s.limited f

  pub limited_from : (P : Part) → P.sig ≡ arities_of s → 0 < P.dim → P.dim ≤ 4 → Limited P
  limited_from P e some narrow = record { some = some; narrow = narrow; arities = λ f. subst (λ l. slice_index l f ≤ 4) (sym e) (low f) }

-- a test of each symbol's arguments, by its arity, is one of each argument of the signature
pub each_argument : {S : Type 0} (s : Signature) (symbols : List S) (d : S) (test : S → ℕ → Bool) → length symbols ≡ 32
    → list_all (λ x. every (min x.0 4) (test x.1)) (zip (arities_of s) symbols)
    ≡ every (length (arities_of s)) (λ f. every (slice_index (arities_of s) f) (test (slice_index_or symbols f d)))
each_argument s symbols d test long =
    list_all-zip (λ x. every (min x.0 4) (test x.1)) 0 d (arities_of s) symbols (omega (arith, few s))
    ∙ every_same (length (arities_of s)) (λ f. every (min (slice_index (arities_of s) f) 4) (test (slice_index_or symbols f d))) (λ f. every (slice_index (arities_of s) f) (test (slice_index_or symbols f d)))
    (λ f h. let within : min (slice_index (arities_of s) f) 4 ≡ slice_index (arities_of s) f = omega (arith, low s f) in ap (λ n. every n (test (slice_index_or symbols f d))) within)

-- so the test that a part is made by tells whether its top left entries are positive
pub linear_positive : (s : Signature) (symbols : List LinearSymbol) (b : Bool) → length symbols ≡ 32
    → b ≡ list_all (λ x. every (min x.0 4) (λ k. nat_lt 0 (slice_index x.1.factors k))) (zip (arities_of s) symbols) → b ≡ positive (linear_part (arities_of s) symbols)
linear_positive s symbols b long told =
    positive_is (linear_part (arities_of s) symbols) b (told ∙ each_argument s symbols record { constant = 0; factors = [] } (λ symbol k. nat_lt 0 (slice_index symbol.factors k)) long)

pub matrix_positive : (s : Signature) (dimension : ℕ) (symbols : List MatrixSymbol) (b : Bool) → length symbols ≡ 32
    → b ≡ list_all (λ x. every (min x.0 4) (λ k. nat_lt 0 (slice_index (matrix_row x.1 k 0) 0))) (zip (arities_of s) symbols) → b ≡ positive (matrix_part (arities_of s) dimension symbols)
matrix_positive s dimension symbols b long told =
    positive_is (matrix_part (arities_of s) dimension symbols) b (told ∙ each_argument s symbols record { constant = []; matrices = [] } (λ symbol k. nat_lt 0 (slice_index (matrix_row symbol k 0) 0)) long)
