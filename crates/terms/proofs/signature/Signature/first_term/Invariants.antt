use Rattle.std.proofs.Common.{◌≡◌, ◌+◌, ◌*◌, ◌≤◌, drop}
use Rattle.std.specs.Option.{option_map}
use Rattle.terms.specs.Codes.{first_terms}
use Rattle.terms.specs.Models.{arities_of}
use Rattle.terms.proofs.signature.Signature.first_term.Given as goal

abbrev pub invariant-loop-taken : goal.invariant-loop-taken
invariant-loop-taken l =
    (l.need ≤ 1 + 4 * l.taken)
    × (first_terms (arities_of l.self) 1 l.codes ≡ option_map (λ n. l.taken + n) (first_terms (arities_of l.self) l.need (drop l.taken l.codes)))
