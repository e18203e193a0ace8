-- The numbers of a pool of the code.
use Rattle.std.specs.Prelude.{Ok, Err, Result}
use Rattle.pools.specs.declared.fault.PoolFault.{PoolFault}
use Rattle.pools.specs.declared.pool.Pool.{Pool}
use Rattle.pools.specs.Pools.{State}

abbrev pub state_of : Pool → State
state_of p = record { size = p.size; free = p.free; last = p.last }

-- those of a pool that was to be made
abbrev pub state_made : Result Pool PoolFault → Result State PoolFault
state_made (Ok p) = Ok (state_of p)
state_made (Err fault) = Err fault
