use Rattle.std.proofs.Common.{◌≡◌, ◌+◌, ◌*◌, ◌≤◌, drop}
use Rattle.terms.specs.Codes.{counts}
use Rattle.terms.specs.Models.{arities_of}
use Rattle.terms.proofs.signature.Signature.is_term.Given as goal

abbrev pub invariant-loop-code : goal.invariant-loop-code
invariant-loop-code l =
    (l.awaited ≤ 1 + 4 * l.code-index)
    × (counts (arities_of l.self) 1 l.codes ≡ counts (arities_of l.self) l.awaited (drop l.code-index l.codes))
