use Rattle.std.proofs.Common.{◌≡◌, List, sym, subst, ap, ◌∙◌}
use Rattle.pools.specs.declared.grant.Grant.{Grant}
use Rattle.pools.specs.declared.ledger.PoolReply.{PoolReply}
use Rattle.pools.specs.Ledgers.{ledger_of}
use Rattle.pools.specs.Runs.{Ledger, run}
use Rattle.pools.specs.RunLaws.{Lawful}
use Rattle.pools.proofs.Settlings.{in_order}
use Rattle.pools.proofs.Histories.{lawful}
use Rattle.pools.proofs.Running.{ends}
use Rattle.pools.proofs.ledger.Ledger.perform.Goals as goal

pub returns-clause-means : goal.returns-clause-means
returns-clause-means c =
    let s = c.args.self.now in
    let l = ledger_of s in
    let calls = c.args.calls.now in
    let at : List Grant → List PoolReply × Ledger = λ gs. run (record { pool = l.pool; out = gs }) calls in
    let told : (c.loop-call.replies.items, ledger_of c.loop-call.self) ≡ run l calls = ends c.loop-call.invariant.running c.loop-call-test.false ∙ ap at c.try_reserve.ensures.items in
    subst (λ (q : List PoolReply × Ledger). Lawful l calls q.0 q.1) (sym told) (lawful l (in_order s) calls)
