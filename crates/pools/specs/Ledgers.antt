-- The ledger that one of the code stands for.
use Rattle.pools.specs.declared.ledger.Ledger as code
use Rattle.pools.specs.Views.{state_of}
use Rattle.pools.specs.Runs.{Ledger}

abbrev pub ledger_of : code.Ledger → Ledger
ledger_of l = record { pool = state_of l.pool; out = l.out.items }
