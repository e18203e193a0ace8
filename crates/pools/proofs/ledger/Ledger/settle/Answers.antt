use Rattle.std.proofs.Common.{sym, ap, rules}
use Rattle.pools.specs.Views.{state_of}
use Rattle.pools.specs.Grants.{has_number}
use Rattle.pools.specs.Ledgers.{ledger_of}
use Rattle.pools.specs.Runs.{settling_found}
use Rattle.pools.proofs.Places.{none_found}
use Rattle.pools.proofs.Settlings.{settled_in_order, settled_is}
use Rattle.pools.proofs.ledger.Ledger.settle.Goals as goal

pub returns-in_default-clause-value : goal.returns-in_default-clause-value
returns-in_default-clause-value c =
    let l = ledger_of c.args.self.now in
    sym (ap (settling_found l c.args.number) (none_found (has_number c.args.number) l.out (search rules)))

pub invariant_of-self : goal.invariant_of-self
invariant_of-self c =
    let after = settled_in_order c.args.self.now c.args.number c.in-Some.at c.remove-grant.result c.remove-grant.new.self.items c.settle.result (state_of c.settle.new.self) (search rules) c.remove-grant.ensures.value c.remove-grant.ensures.items c.settle.ensures.value in
    record { balanced = after.balanced; numbered = after.numbered; given = after.given }

pub returns-clause-value : goal.returns-clause-value
returns-clause-value c =
    settled_is c.args.self.now c.args.number c.in-Some.at c.remove-grant.result c.remove-grant.new.self.items c.settle.result (state_of c.settle.new.self) (search rules) c.remove-grant.ensures.value c.remove-grant.ensures.items c.settle.ensures.value
