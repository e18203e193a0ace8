-- What the calls on a pool mean. The cases exclude each other: each says exactly why it came.
use Rattle.std.specs.Prelude.{◌≡◌, ◌≢◌, ℕ, ◌+◌, ◌<◌, ◌≤◌, Ok, Err, Result}
use Rattle.pools.specs.declared.fault.PoolFault.{PoolFault}
use Rattle.pools.specs.declared.fault.PoolFault.TheVariants.{OutOfRange, AboveFree, NumbersGiven, AboveSize}
use Rattle.pools.specs.declared.grant.Grant.{Grant}
use Rattle.pools.specs.declared.pool.Unsettled.{Unsettled}
use Rattle.pools.specs.Pools.{State, most_steps, last_number}

-- the amount is out of what was free, under a number above all that were given
pub record Given (p : State) (amount : ℕ) (g : Grant) (q : State) : Type 0 where
  pub whole : g.amount ≡ amount
  pub taken : q.free + amount ≡ p.free
  pub new : p.last < g.number
  pub last : q.last ≡ g.number
  pub size : q.size ≡ p.size

-- a refusal leaves the pool as it was
abbrev pub Reserved : State → ℕ → Result Grant PoolFault → State → Type 0
Reserved p amount (Ok g) q = Given p amount g q
Reserved p amount (Err OutOfRange) q = (q ≡ p) × (most_steps < amount)
Reserved p amount (Err NumbersGiven) q = (q ≡ p) × (amount ≤ most_steps) × (p.last ≡ last_number)
Reserved p amount (Err AboveFree) q = (q ≡ p) × (amount ≤ most_steps) × (p.last ≢ last_number) × (p.free < amount)
Reserved p amount (Err AboveSize) q = ⊥

-- the amount is free again
pub record Returned (p : State) (g : Grant) (q : State) : Type 0 where
  pub returned : q.free ≡ p.free + g.amount
  pub within : q.free ≤ q.size
  pub last : q.last ≡ p.last
  pub size : q.size ≡ p.size

-- a refusal leaves the pool as it was, and hands the grant back
abbrev pub Settled : State → Grant → Result (Unit {0}) Unsettled → State → Type 0
Settled p g (Ok x) q = Returned p g q
Settled p g (Err u) q = (q ≡ p) × (u ≡ record { fault = AboveSize; grant = g }) × (p.size < p.free + g.amount)
