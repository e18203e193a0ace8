-- What the commands on jobs answer and leave.
use Rattle.std.specs.Prelude.{ℕ, List, Some, None, Ok, Err, Option, Result}
use Rattle.terms.specs.Replies.{viewed, malformed_refusal}
use Rattle.pools.specs.declared.grant.Grant.{Grant}
use Rattle.job_calls.specs.declared.fault.JobFault.{JobFault}
use Rattle.job_calls.specs.Words.{job_refusal}
use Rattle.job_calls.specs.Calls.{State, step_reply, sweep_reply, look_reply, copy_to_reply}
use Rattle.jobs.specs.Faults.{open_refusal}
use Rattle.jobs.specs.Openings.{short_reply}
use Rattle.jobs.specs.FullOpenings.{full_reply}
use Rattle.commands.specs.declared.command.Opening.{Opening}
use Rattle.commands.specs.declared.command.Opening.TheVariants as opening
use Rattle.sessions.specs.declared.fault.CommandFault.{CommandFault}
use Rattle.sessions.specs.declared.fault.CommandFault.TheVariants.{NoJob}
use Rattle.sessions.specs.declared.reply.Reply.{Reply}
use Rattle.sessions.specs.declared.reply.Reply.TheVariants as reply
use Rattle.sessions.specs.Settings.{Setting, or_refused, asked_term}
use Rattle.sessions.specs.Sessions.{Session, Opened, Opened.full, Opened.short, held_in, now_in, with_job}
use Rattle.sessions.specs.Pools.{granted}

-- a job on codes, with a grant
abbrev pub opened_with : Setting → Opening → List ℕ → Grant → Result Opened CommandFault
opened_with S opening.Full cs g = viewed full (or_refused open_refusal (full_reply S.pile S.system cs g))
opened_with S opening.Short cs g = viewed short (or_refused malformed_refusal (short_reply S.system cs g))

-- it takes the place of the last one only if it opens
abbrev pub opened_or : Session → Result Opened CommandFault → Result Reply CommandFault × Session
opened_or s (Ok o) = (Ok reply.Opened, with_job s o)
opened_or s (Err e) = (Err e, s)

-- the term after the grant
abbrev pub open_on : Setting → Session → Opening → Grant → Result (List ℕ) CommandFault → Result Reply CommandFault × Session
open_on S s o g (Ok cs) = opened_or s (opened_with S o cs g)
open_on S s o g (Err e) = (Err e, s)

abbrev pub open_with : Setting → Session → Opening → Option (List ℕ) → Result Grant CommandFault → Result Reply CommandFault × Session
open_with S s o text (Ok g) = open_on S s o g (asked_term S text)
open_with S s o text (Err e) = (Err e, s)

abbrev pub open_answer : Setting → Session → Opening → ℕ → Option (List ℕ) → Result Reply CommandFault × Session
open_answer S s o n text = open_with S s o text (granted s.ledger n)

-- an answer of the job, with the state that it leaves
abbrev pub answered : {X : Type 0} → (X → Reply) → Session → Opened → Result X JobFault × State → Result Reply CommandFault × Session
answered f s o r = (viewed f (or_refused job_refusal r.0), with_job s (now_in o r.1))

-- a call that needs a grant: the grant that is out, then the job that there is
abbrev pub on_job : {X : Type 0} → (X → Reply) → Session → Result Grant CommandFault → Option Opened → (State → ℕ → Result X JobFault × State) → Result Reply CommandFault × Session
on_job f s (Err e) job ask = (Err e, s)
on_job f s (Ok g) None ask = (Err NoJob, s)
on_job f s (Ok g) (Some o) ask = answered f s o (ask (held_in o) g.number)

abbrev pub step_answer : Session → ℕ → ℕ → ℕ → Result Reply CommandFault × Session
step_answer s n rule place = on_job (λ x. reply.Stepped) s (granted s.ledger n) s.job (λ t g. step_reply t g rule place)

abbrev pub sweep_answer : Session → ℕ → ℕ → Result Reply CommandFault × Session
sweep_answer s n most = on_job reply.Swept s (granted s.ledger n) s.job (λ t g. sweep_reply t g most)

abbrev pub look_answer : Option Opened → Result Reply CommandFault
look_answer None = Err NoJob
look_answer (Some o) = Ok (reply.Looked (look_reply (held_in o)))

-- a copy to the first `room` places of a memory: how many codes, and the memory
abbrev pub copy_answer : Option Opened → ℕ → List ℕ → Result ℕ CommandFault × List ℕ
copy_answer None room m = (Err NoJob, m)
copy_answer (Some o) room m = let r = copy_to_reply (held_in o).codes room m in (or_refused job_refusal r.0, r.1)
