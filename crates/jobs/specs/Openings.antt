-- What an opening answers, with the tests in the order in which they are made.
use Rattle.std.specs.Prelude.{ℕ, cond, List, Ok, Err, Result, nat_eq}
use Rattle.terms.specs.declared.malformed.Malformed.{Malformed}
use Rattle.terms.specs.declared.malformed.Malformed.TheVariants as malformed
use Rattle.terms.specs.Codes.{is_term}
use Rattle.terms.specs.Systems.{System, rules_from}
use Rattle.pools.specs.declared.grant.Grant.{Grant}
use Rattle.job_calls.specs.declared.fault.JobFault.{JobFault}
use Rattle.job_calls.specs.declared.fault.JobFault.TheVariants.{OtherGrant}
use Rattle.job_calls.specs.Calls.{State}

-- a job of no steps
abbrev pub fresh : System → List ℕ → Grant → State
fresh s cs g = record { arities = s.arities; rules = rules_from s.arities s.rules; number = g.number; reserve = g.amount; codes = cs; count = 0 }

-- an opening without a pile
abbrev pub short_reply : System → List ℕ → Grant → Result State Malformed
short_reply s cs g = cond (is_term s.arities cs) (Ok (fresh s cs g)) (Err malformed.Term)

-- whether a grant is the job's, by its number
abbrev pub checked : State → ℕ → Result (Unit {0}) JobFault
checked s g = cond (nat_eq g s.number) (Ok tt) (Err OtherGrant)
