-- What the evaluator's answer means: the value of the one term that the codes are, and none exactly if there is none.
use Rattle.std.specs.Prelude.{◌≡◌, ℕ, ◌<◌, ◌≤◌, true, false, ◌⊎◌, List, length, Some, None, Option}
use Rattle.terms.specs.Laws.{Reading}
use Rattle.evaluation.specs.Subterms.{OfSubterms, OfSubterm}
use Rattle.evaluation.specs.Structures.{Structure, value}

-- a value is that of the one term that the codes are, and no subterm's value is out of the bound
pub record Valued {V : Type 0} (s : Structure V) (sig cs : List ℕ) (v : V) : Type 0 where
  pub reading : Reading sig cs
  pub same : v ≡ value s reading.term
  pub near : OfSubterms (λ u. s.within (value s u) ≡ true) reading.term

-- an answer: some value only if there is a place for each code; none if there is not, or if the codes are no term, or
-- if they are one and the value of some subterm is out of the bound
abbrev pub Evaluates : {V : Type 0} → Structure V → List ℕ → List ℕ → ℕ → Option V → Type 0
Evaluates s sig cs places (Some v) = (length cs ≤ places) × Valued s sig cs v
Evaluates s sig cs places None = (places < length cs) ⊎ ((x : Reading sig cs) → OfSubterm (λ u. s.within (value s u) ≡ false) x.term)
