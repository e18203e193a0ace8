-- What the answers mean in terms of the rewrite relation.
use Rattle.std.specs.Prelude.{◌≡◌, ℕ, ◌<◌, ◌≤◌, Bool, List, length, Ok, Err, Decides, Result}
use Rattle.rewriting.specs.declared.fault.RewriteFault.{RewriteFault}
use Rattle.rewriting.specs.declared.fault.RewriteFault.TheVariants as fault
use Rattle.terms.specs.Limits.{most_term}
use Rattle.terms.specs.Terms.{Term, size, under}
use Rattle.terms.specs.Contexts.{Occurrence}
use Rattle.terms.specs.Rules.{Rule}
use Rattle.terms.specs.Steps.{Step}
use Rattle.terms.specs.Laws.{Reading}

-- a pattern matches at a place exactly if some substitution makes it the subterm there
pub record MatchExactly (sig pattern cs : List ℕ) (at : ℕ) (b : Bool) : Type 0 where
  pub left : Reading sig pattern
  pub subject : Reading sig cs
  pub here : Occurrence subject.term at
  pub decides : Decides b ((σ : ℕ → Term) × (under σ left.term ≡ here.part))

abbrev pub Matched : List ℕ → List ℕ → List ℕ → ℕ → Result Bool RewriteFault → Type 0
Matched sig pattern cs at (Ok b) = MatchExactly sig pattern cs at b
Matched sig pattern cs at (Err fault.Malformed) = Reading sig pattern → Reading sig cs → ⊥
Matched sig pattern cs at (Err fault.NoRule) = ⊥
Matched sig pattern cs at (Err fault.NoPlace) = (t : Reading sig cs) × (size t.term ≤ at)
Matched sig pattern cs at (Err fault.NoMatch) = ⊥
Matched sig pattern cs at (Err fault.TooLong) = ⊥

-- whether some step leads on from t by a rule number at a place, or why none does
abbrev pub RedexTold : List Rule → Term → ℕ → ℕ → Result (Unit {0}) RewriteFault → Type 0
RedexTold rules t n at (Ok x) = (u : Term) × Step rules n at t u
RedexTold rules t n at (Err fault.Malformed) = ⊥
RedexTold rules t n at (Err fault.NoRule) = length rules ≤ n
RedexTold rules t n at (Err fault.NoPlace) = size t ≤ at
RedexTold rules t n at (Err fault.NoMatch) = (u : Term) → Step rules n at t u → ⊥
RedexTold rules t n at (Err fault.TooLong) = ⊥

-- what the answer of a rewrite of t by a rule number at a place says, where u is the term afterwards
abbrev pub Told : List Rule → Term → ℕ → ℕ → Result (Unit {0}) RewriteFault → Term → Type 0
Told rules t n at (Ok x) u = Step rules n at t u
Told rules t n at (Err fault.Malformed) u = ⊥
Told rules t n at (Err fault.NoRule) u = (u ≡ t) × (length rules ≤ n)
Told rules t n at (Err fault.NoPlace) u = (u ≡ t) × (size t ≤ at)
Told rules t n at (Err fault.NoMatch) u = (u ≡ t) × ((v : Term) → Step rules n at t v → ⊥)
Told rules t n at (Err fault.TooLong) u = (u ≡ t) × ((v : Term) × Step rules n at t v × (most_term < size v))

-- and every step whose result fits is made: there is just one by a rule number at a place
pub record Rewrites (rules : List Rule) (t : Term) (n at : ℕ) (r : Result (Unit {0}) RewriteFault) (u : Term) : Type 0 where
  pub told : Told rules t n at r u
  pub made : (v : Term) → Step rules n at t v → size v ≤ most_term → (r ≡ Ok tt) × (u ≡ v)
