use Rattle.std.proofs.Common.{◌≡◌}
use Rattle.evaluation.proofs.Filling.{Behind}
use Rattle.evaluation.proofs.fold.Given as goal

abbrev pub invariant-loop-code : goal.invariant-loop-code
invariant-loop-code g l = record {
  read : Behind (g.I.Interpretation.structure l.interpretation) (g.I.Interpretation.arities l.interpretation) l.codes l.code-iterator.iter.rest.now l.fn.memory l.waiting;
  lender : l.waiting.slots.ghost_name ≡ l.initial.waiting.slots.ghost_name;
}
