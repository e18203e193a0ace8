use Rattle.trips.proofs.Following.{Following}
use Rattle.trips.proofs.follow_with.Given as goal

abbrev pub invariant-loop-steps : goal.invariant-loop-steps
invariant-loop-steps g l = record {
  callable : goal.F-IsAlwaysCallable g l.visit;
  following : Following (goal.F-step g) l.initial.subject l.subject l.initial.visit l.visit l.steps;
}
