use Rattle.std.proofs.Common.{◌≡◌, ◌+◌, ◌≤◌, length, drop}
use Rattle.terms.specs.Models.{arities_of}
use Rattle.resuming.specs.Climbing.{climb}
use Rattle.resuming.proofs.climbing.climb.Given as goal

abbrev pub invariant-loop-place : goal.invariant-loop-place
invariant-loop-place l = record {
  within : l.terms + l.place ≤ length l.before;
  climbs : climb (arities_of l.signature) l.fn.levels (drop l.place l.before) ≡ record { levels = l.left; terms = l.terms; place = 0 };
}

abbrev pub decreases-loop-place : goal.decreases-loop-place
decreases-loop-place l = l.place
