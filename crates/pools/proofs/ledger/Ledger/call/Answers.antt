use Rattle.std.proofs.Common.{◌≡◌, List, [], ◌∷◌, sym, subst, ap, ◌∙◌}
use Rattle.pools.specs.declared.grant.Grant.{Grant}
use Rattle.pools.specs.declared.ledger.PoolReply.{PoolReply}
use Rattle.pools.specs.Ledgers.{ledger_of}
use Rattle.pools.specs.Runs.{Ledger, performing}
use Rattle.pools.specs.RunLaws.{Lawful}
use Rattle.pools.proofs.Settlings.{in_order}
use Rattle.pools.proofs.Histories.{lawful}
use Rattle.pools.proofs.ledger.Ledger.call.Goals as goal

pub returns-clause-means : goal.returns-clause-means
returns-clause-means c =
    let s = c.args.self.now in
    let l = ledger_of s in
    let at : List Grant → PoolReply × Ledger = λ gs. performing (record { pool = l.pool; out = gs }) c.args.call in
    let told : (c.step.result, ledger_of c.step.new.self) ≡ performing l c.args.call = c.step.ensures.value ∙ ap at c.try_reserve.ensures.items in
    subst (λ (q : PoolReply × Ledger). Lawful l (c.args.call ∷ []) (q.0 ∷ []) q.1) (sym told) (lawful l (in_order s) (c.args.call ∷ []))
