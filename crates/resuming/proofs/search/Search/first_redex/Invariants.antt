use Rattle.rewriting.specs.Subjects.{rules_in, term_in}
use Rattle.resuming.specs.Laws.{NoneBelow}
use Rattle.resuming.proofs.search.Search.first_redex.Given as goal

abbrev pub invariant-loop-place : goal.invariant-loop-place
invariant-loop-place l = record {
  passed : NoneBelow (rules_in l.self.subject) (term_in l.self.subject) l.place;
}
