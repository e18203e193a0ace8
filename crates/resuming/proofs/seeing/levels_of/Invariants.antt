use Rattle.std.proofs.Common.{ℕ, ◌<◌, ◌≤◌}
use Rattle.terms.specs.Rules.{Rule, Numbered}
use Rattle.terms.specs.Systems.{rules_of}
use Rattle.resuming.proofs.Resuming.{Shallow}
use Rattle.resuming.proofs.seeing.levels_of.Given as goal

abbrev pub invariant-loop-rule : goal.invariant-loop-rule
invariant-loop-rule l = record {
  some : 1 ≤ l.most;
  seen : (n : ℕ) (r : Rule) → n < l.rule-index → Numbered (rules_of l.system) n r → Shallow l.most r;
}
