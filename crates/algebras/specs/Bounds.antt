-- The bound on derivations that an algebra gives.
use Rattle.std.specs.Prelude.{ℕ, zero, suc, ◌+◌, ◌≤◌, Bool, true, cond, ◌&&◌, T, List, [], ◌∷◌, length}
use Rattle.terms.specs.Terms.{Term, size}
use Rattle.terms.specs.Rules.{Rule}
use Rattle.terms.specs.Steps.{Derivation}
use Rattle.algebras.specs.Meanings.{Meaning, Lawful, Within}

-- whether a test holds of all rules
abbrev pub all_rules_are : (Rule → Bool) → List Rule → Bool
all_rules_are test [] = true
all_rules_are test (r ∷ rs) = test r && all_rules_are test rs

-- 1 if the rule of a number is strict, else 0
abbrev pub strict_at : Meaning → List Rule → ℕ → ℕ
strict_at B [] n = 0
strict_at B (r ∷ rs) zero = cond (B.strict r) 1 0
strict_at B (r ∷ rs) (suc n) = strict_at B rs n

-- how many of a derivation's steps are by strict rules
abbrev pub strict_steps : Meaning → List Rule → List ℕ → ℕ
strict_steps B rules [] = 0
strict_steps B rules (n ∷ ns) = strict_at B rules n + strict_steps B rules ns

-- what strict rules promise of every derivation from a term over the signature
pub record Bounded (sig : List ℕ) (rules : List Rule) (A : Meaning) (t : Term) : Type 0 where
  -- no derivation is longer than the height, less what is left of it at the end
  pub lengths : (ns : List ℕ) (u : Term) → Derivation rules t ns u → length ns + A.height u ≤ A.height t
  -- nor longer than the ceiling at the term's size, where there is one
  pub within : Within (A.height t) (A.ceiling (size t))
  -- and any lawful algebra that finds all rules weak bounds the steps by rules that are strict in it
  pub others : (B : Meaning) → Lawful B → T (B.fits sig) → T (all_rules_are B.weak rules)
      → (ns : List ℕ) (u : Term) → Derivation rules t ns u → strict_steps B rules ns + B.height u ≤ B.height t
