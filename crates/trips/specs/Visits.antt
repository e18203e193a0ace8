-- What a trip shows its visitor.
use Rattle.std.specs.Prelude.{◌≡◌, ℕ, List, [], ◌∷◌, ◌++◌, length, ⊤, Some, Result, Ok, Err}
use Rattle.std.specs.List.{FoldsTo}
use Rattle.terms.specs.Terms.{Term}
use Rattle.terms.specs.Rules.{Rule}
use Rattle.trips.specs.declared.Trip.{Trip}
use Rattle.trips.specs.Trips.{Advanced}

-- from a term to another by these places and rules, each the first redex of the term that it rewrites
abbrev pub Leads : List Rule → Term → List (ℕ × ℕ) → Term → Type 0
Leads rules = FoldsTo (λ t redex u. Advanced rules t (Ok (Some redex)) u)

module _ {V E : Type 0} (call : V → ℕ → ℕ → Result ⊤ E → V → Type 0) where
  -- the visitor ran once at each place and rule, in this order, and went on after each
  abbrev pub Shown : V → List (ℕ × ℕ) → V → Type 0
  Shown = FoldsTo (λ v redex w. call v redex.0 redex.1 (Ok tt) w)

  -- a trip that ends has shown each step that it counts; one that the visitor stops has shown each, the last being the one
  -- that it answered by the fault
  abbrev pub Visited : List Rule → Term → V → Result Trip E → Term → Type 0
  Visited rules t v (Ok trip) u = (redexes : List (ℕ × ℕ)) × (w : V) × Leads rules t redexes u × Shown v redexes w × (length redexes ≡ trip.steps)
  Visited rules t v (Err fault) u =
      (redexes : List (ℕ × ℕ)) × (at n : ℕ) × (before after : V) × Leads rules t (redexes ++ (at, n) ∷ []) u × Shown v redexes before × call before at n (Err fault) after
