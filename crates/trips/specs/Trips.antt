-- What a trip is: steps at first redexes, one behind the other.
use Rattle.std.specs.Prelude.{◌≡◌, ℕ, ◌<◌, List, length, Option, Some, None, Result, Ok, Err}
use Rattle.terms.specs.Limits.{most_term}
use Rattle.terms.specs.Terms.{Term, size}
use Rattle.terms.specs.Rules.{Rule}
use Rattle.terms.specs.Steps.{Step, Derivation, Normal, First}
use Rattle.rewriting.specs.declared.fault.RewriteFault.{RewriteFault}
use Rattle.rewriting.specs.declared.fault.RewriteFault.TheVariants.{TooLong}
use Rattle.trips.specs.declared.End.{End}
use Rattle.trips.specs.declared.End.TheVariants as end
use Rattle.trips.specs.declared.Trip.{Trip}

-- a step from t by its first redex would lead to a term that is too long
abbrev pub Overlong : List Rule → Term → Type 0
Overlong rules t = (at n : ℕ) × (v : Term) × First rules t at n × Step rules n at t v × (most_term < size v)

-- from t to u by the first redex, or not at all
abbrev pub Advanced : List Rule → Term → Result (Option (ℕ × ℕ)) RewriteFault → Term → Type 0
Advanced rules t (Ok (Some (at, n))) u = First rules t at n × Step rules n at t u
Advanced rules t (Ok None) u = (u ≡ t) × Normal rules t
Advanced rules t (Err fault) u = (fault ≡ TooLong) × (u ≡ t) × Overlong rules t

-- how many steps a trip has at most
abbrev pub most_steps : ℕ
most_steps = 1000000

-- what the end of a trip says of its last term, after so many steps
abbrev pub Ended : List Rule → Term → ℕ → End → Type 0
Ended rules u steps end.Normal = Normal rules u
Ended rules u steps end.More = steps ≡ most_steps
Ended rules u steps end.TooLong = Overlong rules u

-- some derivation leads from a term to another
pub record Reached (rules : List Rule) (t u : Term) : Type 0 where
  pub numbers : List ℕ
  pub derivation : Derivation rules t numbers u

-- a derivation from the first term to the last, with as many steps as were counted
pub record Followed (rules : List Rule) (t : Term) (trip : Trip) (u : Term) : Type 0 where
  pub numbers : List ℕ
  pub derivation : Derivation rules t numbers u
  pub counted : length numbers ≡ trip.steps
  pub ended : Ended rules u trip.steps trip.end
