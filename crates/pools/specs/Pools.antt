-- A pool by its numbers, and what each call answers and leaves, with the tests in the order of the refusals.
use Rattle.std.specs.Prelude.{ℕ, ◌+◌, ◌-◌, cond, ◌||◌, Ok, Err, Result, ◌==◌, nat_lt}
use Rattle.pools.specs.declared.fault.PoolFault.{PoolFault}
use Rattle.pools.specs.declared.fault.PoolFault.TheVariants.{OutOfRange, AboveFree, NumbersGiven, AboveSize}
use Rattle.pools.specs.declared.grant.Grant.{Grant}
use Rattle.pools.specs.declared.pool.Unsettled.{Unsettled}

pub record State : Type 0 where
  pub size : ℕ
  pub free : ℕ
  pub last : ℕ

-- no pool is larger
abbrev pub most_steps : ℕ
most_steps = 281474976710655

-- the last number that can be given
abbrev pub last_number : ℕ
last_number = 4294967295

-- a pool is made all free
abbrev pub opening : ℕ → ℕ → Result State PoolFault
opening size first = cond (nat_lt most_steps size || first == 0) (Err OutOfRange) (Ok (record { size = size; free = size; last = first - 1 }))

-- the amount goes out of what is free, under the next number
abbrev pub reserving : State → ℕ → Result Grant PoolFault × State
reserving p amount =
    cond (nat_lt most_steps amount) (Err OutOfRange, p)
    (cond (p.last == last_number) (Err NumbersGiven, p)
    (cond (nat_lt p.free amount) (Err AboveFree, p)
    (Ok (record { number = p.last + 1; amount = amount }), record { size = p.size; free = p.free - amount; last = p.last + 1 })))

-- the amount comes back where there is room for it
abbrev pub settling : State → Grant → Result (Unit {0}) Unsettled × State
settling p g =
    cond (nat_lt p.size (p.free + g.amount)) (Err (record { fault = AboveSize; grant = g }), p)
    (Ok tt, record { size = p.size; free = p.free + g.amount; last = p.last })
