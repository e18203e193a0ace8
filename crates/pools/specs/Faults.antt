-- Each fault's number, layer and place.
use Rattle.refusals.specs.declared.Refusal.{Refusal}
use Rattle.refusals.specs.declared.Layer.TheVariants.{Pool}
use Rattle.pools.specs.declared.fault.PoolFault.{PoolFault}
use Rattle.pools.specs.declared.fault.PoolFault.TheVariants.{OutOfRange, AboveFree, NumbersGiven, AboveSize}

abbrev pub pool_refusal : PoolFault → Refusal
pool_refusal OutOfRange = record { number = 24; layer = Pool; place = 0 }
pool_refusal AboveFree = record { number = 47; layer = Pool; place = 0 }
pool_refusal NumbersGiven = record { number = 48; layer = Pool; place = 0 }
pool_refusal AboveSize = record { number = 46; layer = Pool; place = 0 }
