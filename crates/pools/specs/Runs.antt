-- Calls on a pool whose grants are kept: what each answers and leaves, one after another.
use Rattle.std.specs.Prelude.{ℕ, List, [], ◌∷◌, ◌++◌, Some, None, Ok, Err, Option, Result, find, fold}
use Rattle.std.specs.List.{scan}
use Rattle.pools.specs.declared.fault.PoolFault.{PoolFault}
use Rattle.pools.specs.declared.grant.Grant.{Grant}
use Rattle.pools.specs.declared.pool.Unsettled.{Unsettled}
use Rattle.pools.specs.declared.ledger.PoolCall.{PoolCall}
use Rattle.pools.specs.declared.ledger.PoolCall.TheVariants as call
use Rattle.pools.specs.declared.ledger.PoolReply.{PoolReply}
use Rattle.pools.specs.declared.ledger.PoolReply.TheVariants as reply
use Rattle.pools.specs.Pools.{State, reserving, settling}
use Rattle.pools.specs.Grants.{has_number, others}

-- a pool, and the grants that it gave and that are not yet settled
pub record Ledger : Type 0 where
  pub pool : State
  pub out : List Grant

-- a grant that was given is kept
abbrev pub kept : Ledger → Result Grant PoolFault × State → PoolReply × Ledger
kept l (Ok g, p) = (reply.Given g.number, record { pool = p; out = l.out ++ g ∷ [] })
kept l (Err fault, p) = (reply.Refused fault, record { pool = p; out = l.out })

-- a grant that is settled is no longer out
abbrev pub returned : Ledger → ℕ → Result (Unit {0}) Unsettled × State → PoolReply × Ledger
returned l n (Ok x, p) = (reply.Settled, record { pool = p; out = others n l.out })
returned l n (Err u, p) = (reply.Refused u.fault, record { pool = p; out = l.out })

-- only a grant that is out can be settled
abbrev pub settling_found : Ledger → ℕ → Option Grant → PoolReply × Ledger
settling_found l n None = (reply.NotOut, l)
settling_found l n (Some g) = returned l n (settling l.pool g)

-- one call
abbrev pub performing : Ledger → PoolCall → PoolReply × Ledger
performing l (call.Reserve amount) = kept l (reserving l.pool amount)
performing l (call.Settle n) = settling_found l n (find (has_number n) l.out)

-- what calls answer, one after another
abbrev pub replies : Ledger → List PoolCall → List PoolReply
replies = scan (λ l c. (performing l c).1) (λ l c. (performing l c).0)

-- and what they leave
abbrev pub after : Ledger → List PoolCall → Ledger
after = fold (λ l c. (performing l c).1)

abbrev pub run : Ledger → List PoolCall → List PoolReply × Ledger
run l calls = (replies l calls, after l calls)

-- with every grant settled, all is free
abbrev pub closed : Ledger → State
closed l = record { size = l.pool.size; free = l.pool.size; last = l.pool.last }
