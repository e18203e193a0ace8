-- The search for the first redex: place by place, and at each place rule by rule.
use Rattle.std.specs.Prelude.{ℕ, ◌+◌, List, [], ◌∷◌, position, Some, None, Option}
use Rattle.terms.specs.Terms.{Term}
use Rattle.terms.specs.Rules.{Rule}
use Rattle.terms.specs.Codes.{stack, top}
use Rattle.rewriting.specs.Matching.{matches}

-- the lowest rule that matches a term
abbrev pub lowest_rule : List Rule → Term → Option ℕ
lowest_rule rules t = position (λ r. matches r.left t) rules

abbrev pub found : ℕ → Option ℕ → Option (ℕ × ℕ) → Option (ℕ × ℕ)
found i None later = later
found i (Some n) later = Some (i, n)

-- the first match in codes whose places are numbered from i on
abbrev pub first_from : List ℕ → List Rule → ℕ → List ℕ → Option (ℕ × ℕ)
first_from sig rules i [] = None
first_from sig rules i (c ∷ cs) = found i (lowest_rule rules (top (stack sig (c ∷ cs)))) (first_from sig rules (i + 1) cs)

abbrev pub first_redex : List ℕ → List Rule → List ℕ → Option (ℕ × ℕ)
first_redex sig rules cs = first_from sig rules 0 cs
