-- Tests of a whole list, element by element.
use Rattle.std.proofs.Common.{ℕ, zero, suc, ◌≤◌, T, leb, List, [], ◌∷◌, length, get_or, arith, leb→le}
use Rattle.terms.specs.Shapes.{all_within, is_signature}
use Rattle.terms.proofs.Booleans.{fst_of, snd_of}

-- what holds of all holds of each
pub within_at : (most : ℕ) (xs : List ℕ) (i : ℕ) → T (all_within most xs) → get_or xs i 0 ≤ most
within_at most [] i h = omega arith
within_at most (x ∷ xs) zero h = leb→le x most (fst_of (leb x most) _ h)
within_at most (x ∷ xs) (suc i) h = within_at most xs i (snd_of (leb x most) _ h)

module _ (sig : List ℕ) (ok : T (is_signature sig)) where
  pub few_symbols : length sig ≤ 32
  few_symbols = leb→le (length sig) 32 (fst_of (leb (length sig) 32) _ ok)

  pub few_arguments : (f : ℕ) → get_or sig f 0 ≤ 4
  few_arguments f = within_at 4 sig f (snd_of (leb (length sig) 32) _ ok)
