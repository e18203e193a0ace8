-- What the commands on pools answer and leave.
use Rattle.std.specs.Prelude.{ℕ, Bool, false, cond, [], length, Some, None, Ok, Err, Option, Result, find, nat_lt}
use Rattle.pools.specs.declared.fault.PoolFault.{PoolFault}
use Rattle.pools.specs.declared.grant.Grant.{Grant}
use Rattle.pools.specs.declared.ledger.PoolCall.{PoolCall}
use Rattle.pools.specs.declared.ledger.PoolReply.{PoolReply}
use Rattle.pools.specs.declared.ledger.PoolReply.TheVariants as answer
use Rattle.pools.specs.Faults.{pool_refusal}
use Rattle.pools.specs.Grants.{has_number}
use Rattle.pools.specs.Pools.{State, opening}
use Rattle.pools.specs.Runs.{Ledger, performing}
use Rattle.sessions.specs.declared.fault.CommandFault.{CommandFault}
use Rattle.sessions.specs.declared.fault.CommandFault.TheVariants.{NoPool, NoGrant, GrantsOut, Refused}
use Rattle.sessions.specs.declared.reply.Reply.{Reply}
use Rattle.sessions.specs.declared.reply.Reply.TheVariants as reply
use Rattle.sessions.specs.Sessions.{Session, with_ledger}

-- whether grants are out
abbrev pub has_grants : Option Ledger → Bool
has_grants None = false
has_grants (Some l) = nat_lt 0 (length l.out)

-- a pool that was made takes the place of the last one
abbrev pub replaced : Session → ℕ → Result State PoolFault → Result Reply CommandFault × Session
replaced s size (Ok p) = (Ok (reply.Pool size), with_ledger s record { pool = p; out = [] })
replaced s size (Err f) = (Err (Refused (pool_refusal f)), s)

abbrev pub pool_answer : Session → ℕ → ℕ → Result Reply CommandFault × Session
pool_answer s size first = cond (has_grants s.ledger) (Err GrantsOut, s) (replaced s size (opening size first))

-- what a call on a pool comes to; a grant has the amount that was asked for
abbrev pub told : ℕ → PoolReply → Result Reply CommandFault
told amount (answer.Given n) = Ok (reply.Granted n amount)
told amount answer.Settled = Ok reply.Settled
told amount answer.NotOut = Err NoGrant
told amount (answer.Refused f) = Err (Refused (pool_refusal f))

-- a call on the pool, if there is one
abbrev pub call_answer : Session → PoolCall → ℕ → Option Ledger → Result Reply CommandFault × Session
call_answer s c amount None = (Err NoPool, s)
call_answer s c amount (Some l) = (told amount (performing l c).0, with_ledger s (performing l c).1)

abbrev pub free_answer : Option Ledger → Result Reply CommandFault
free_answer None = Err NoPool
free_answer (Some l) = Ok (reply.Free l.pool.free l.pool.size)

-- a grant that is out
abbrev pub or_no_grant : Option Grant → Result Grant CommandFault
or_no_grant None = Err NoGrant
or_no_grant (Some g) = Ok g

-- the grant of a number, if there is a pool and it is out
abbrev pub granted : Option Ledger → ℕ → Result Grant CommandFault
granted None n = Err NoPool
granted (Some l) n = or_no_grant (find (has_number n) l.out)
