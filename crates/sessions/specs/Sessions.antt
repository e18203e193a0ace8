-- What commands change.
use Rattle.std.specs.Prelude.{Some, Option}
use Rattle.std.specs.Option.{option_map}
use Rattle.pools.specs.Runs.{Ledger}
use Rattle.pools.specs.Ledgers.{ledger_of}
use Rattle.job_calls.specs.Calls.{State}
use Rattle.jobs.specs.Views.{state_of}
use Rattle.jobs.specs.Fulls.{state_in}
use Rattle.sessions.specs.declared.opened.Opened as code
use Rattle.sessions.specs.declared.opened.Opened.TheVariants as opened
use Rattle.sessions.specs.declared.session.Session as held

-- a job, and how it was opened
pub data Opened : Type 0 where
  full : State → Opened
  short : State → Opened

abbrev pub opened_of : code.Opened → Opened
opened_of (opened.Full f) = full (state_in f)
opened_of (opened.Short j) = short (state_of j)

-- what it holds
abbrev pub held_in : Opened → State
held_in (full s) = s
held_in (short s) = s

-- the same job, in another state
abbrev pub now_in : Opened → State → Opened
now_in (full s) t = full t
now_in (short s) t = short t

-- an answer, with the job in the state that it leaves
abbrev pub answered_in : {X : Type 0} → Opened → X × State → X × Opened
answered_in o r = (r.0, now_in o r.1)

-- a pool with the grants that are out, and a job, where there are these
pub record Session : Type 0 where
  pub ledger : Option Ledger
  pub job : Option Opened

abbrev pub session_of : held.Session → Session
session_of s = record { ledger = option_map ledger_of s.ledger; job = option_map opened_of s.job }

abbrev pub with_ledger : Session → Ledger → Session
with_ledger s l = record { ledger = Some l; job = s.job }

abbrev pub with_job : Session → Opened → Session
with_job s o = record { ledger = s.ledger; job = Some o }
