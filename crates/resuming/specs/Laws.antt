-- The law: below the place that is climbed to, a step makes no new redex.
use Rattle.std.specs.Prelude.{◌≡◌, ℕ, ◌+◌, ◌<◌, Bool, true, false, T, List, length, take, Some, None, Option}
use Rattle.terms.specs.Codes.{is_term, term_of}
use Rattle.resuming.specs.Shapes.{shallow}
use Rattle.terms.specs.Terms.{Term}
use Rattle.terms.specs.Rules.{Rule}
use Rattle.terms.specs.Steps.{Step}

-- whatever a step at p leads to: a step from there at a place below q was there before, by the same rule at the same place
abbrev pub NoneNew : List Rule → Term → ℕ → ℕ → Type 0
NoneNew rules t p q = (n : ℕ) (u : Term) → Step rules n p t u → (m i : ℕ) (w : Term) → i < q → Step rules m i u w → (v : Term) × Step rules m i t v

-- so it is at every place behind codes of a term, where left sides have at most so many levels and no variable twice
abbrev pub ClimbsEnough : List ℕ → ℕ → List ℕ → ℕ → Type 0
ClimbsEnough sig d before q =
    (cs : List ℕ) (p : ℕ) (rules : List Rule) → T (is_term sig cs) → p < length cs → before ≡ take p cs → T (shallow (d + 1) rules) → NoneNew rules (term_of sig cs) p q

-- a term has no redex below a place
abbrev pub NoneBelow : List Rule → Term → ℕ → Type 0
NoneBelow rules t q = (m i : ℕ) (w : Term) → i < q → Step rules m i t w → ⊥

-- nor has what a step at p leads to
abbrev pub NoneBelowAfter : List Rule → Term → ℕ → ℕ → Type 0
NoneBelowAfter rules t p q = (n : ℕ) (u : Term) → Step rules n p t u → NoneBelow rules u q

-- the lowest rule that makes a step at a place, or that none does
pub record Lowest (rules : List Rule) (t : Term) (p k : ℕ) : Type 0 where
  pub next : Term
  pub step : Step rules k p t next
  pub no_rule_below : (n : ℕ) (u : Term) → n < k → Step rules n p t u → ⊥

abbrev pub LowestAt : List Rule → Term → ℕ → Option ℕ → Type 0
LowestAt rules t p None = (n : ℕ) (u : Term) → Step rules n p t u → ⊥
LowestAt rules t p (Some k) = Lowest rules t p k

-- a test says whether there is a step
abbrev pub MakesStep : List Rule → Term → ℕ → ℕ → Bool → Type 0
MakesStep rules t n p true = (u : Term) × Step rules n p t u
MakesStep rules t n p false = (u : Term) → Step rules n p t u → ⊥

-- where a test fails there is no step
abbrev pub Begins : List Rule → Term → ℕ → ℕ → Bool → Type 0
Begins rules t n p true = Unit {0}
Begins rules t n p false = (u : Term) → Step rules n p t u → ⊥
