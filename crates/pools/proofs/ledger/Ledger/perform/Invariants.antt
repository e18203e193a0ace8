use Rattle.std.proofs.Common.{◌≡◌, ◌≤◌, ◌+◌, length, vec_len, vec_capacity}
use Rattle.pools.specs.Ledgers.{ledger_of}
use Rattle.pools.proofs.Running.{Running}
use Rattle.pools.proofs.ledger.Ledger.perform.Given as goal

abbrev pub invariant-loop-call : goal.invariant-loop-call
invariant-loop-call l = record {
  running : Running (ledger_of l.initial.self) l.calls l.call-index (ledger_of l.self) l.replies.items;
  room : vec_len l.self.out + length l.calls ≤ vec_capacity l.self.out + l.call-index;
  counted : vec_len l.replies ≡ l.call-index;
  enough : length l.calls ≤ vec_capacity l.replies;
}
