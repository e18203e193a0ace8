use Rattle.std.proofs.Common.{◌≡◌, ◌+◌}
use Rattle.pools.specs.Grants.{total}
use Rattle.pools.proofs.ledger.Ledger.close.Given as goal

abbrev pub invariant-loop-grant : goal.invariant-loop-grant
invariant-loop-grant l = record {
  balanced : total l.out.items + l.pool.free ≡ l.pool.size;
  size : l.pool.size ≡ l.initial.pool.size;
  last : l.pool.last ≡ l.initial.pool.last;
}

abbrev pub decreases-loop-grant : goal.decreases-loop-grant
decreases-loop-grant l = goal.left-loop-grant l
