use Rattle.std.proofs.Common.{ℕ, ◌<◌}
use Rattle.terms.specs.Terms.{Term}
use Rattle.terms.specs.Steps.{Step}
use Rattle.rewriting.specs.Subjects.{rules_in, term_in}
use Rattle.resuming.proofs.search.Search.lowest_rule.Given as goal

abbrev pub invariant-loop-rule : goal.invariant-loop-rule
invariant-loop-rule l = record {
  below : (n : ℕ) (u : Term) → n < l.rule → Step (rules_in l.self.subject) n l.place (term_in l.self.subject) u → ⊥;
}
