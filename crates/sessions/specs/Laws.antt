-- The law: what holds of every command at every session.
use Rattle.std.specs.Prelude.{◌≡◌, ℕ, ◌+◌, List, [], ◌∷◌, length, IfOk, OnErr, Some, None, Ok, Option, Result, option_copied}
use Rattle.terms.specs.Replies.{viewed}
use Rattle.terms.specs.Systems.{rules_from}
use Rattle.pools.specs.declared.grant.Grant.{Grant}
use Rattle.pools.specs.Grants.{total}
use Rattle.pools.specs.Runs.{Ledger}
use Rattle.job_calls.specs.declared.answer.Answer.{Answer}
use Rattle.job_calls.specs.declared.answer.Answer.TheVariants as answer
use Rattle.job_calls.specs.Words.{job_refusal}
use Rattle.job_calls.specs.Calls.{State, Asked, Asked.step, Asked.sweep, Asked.look, Asked.copy_out}
use Rattle.job_calls.specs.Runs.{LawfulRun}
use Rattle.jobs.specs.Openings.{fresh}
use Rattle.jobs.specs.FullOpenings.{Covered}
use Rattle.commands.specs.declared.command.Command.{Command}
use Rattle.commands.specs.declared.command.Command.TheVariants as command
use Rattle.commands.specs.declared.command.Opening.TheVariants as opening
use Rattle.sessions.specs.declared.fault.CommandFault.{CommandFault}
use Rattle.sessions.specs.declared.reply.Reply.{Reply}
use Rattle.sessions.specs.declared.reply.Reply.TheVariants as reply
use Rattle.sessions.specs.Settings.{Setting, or_refused, asked_term}
use Rattle.sessions.specs.Sessions.{Session, Opened.full}
use Rattle.sessions.specs.Pools.{granted}
use Rattle.sessions.specs.Commands.{Got}

-- what is free and the grants that are out make the pool's size
abbrev pub Balanced : Option Ledger → Type 0
Balanced None = Unit {0}
Balanced (Some l) = total l.out + l.pool.free ≡ l.pool.size

-- the reply that shows a job's answer; a copy is shown as codes or as a term
abbrev pub shown : (ℕ → Reply) → Answer → Result Reply CommandFault
shown copy (answer.Stepped r) = viewed (λ x. reply.Stepped) (or_refused job_refusal r)
shown copy (answer.Swept r) = viewed reply.Swept (or_refused job_refusal r)
shown copy (answer.Looked l) = Ok (reply.Looked l)
shown copy (answer.Copied r) = viewed copy (or_refused job_refusal r)

-- a call on a job that was opened in full: what is shown is the answer of the plain job, and it is no cut-off; the job is
-- still one that was opened in full
pub record Called (s : State) (m : List ℕ) (a : Asked) (copy : ℕ → Reply) (got : Got) : Type 0 where
  pub answer : Answer
  pub after : State
  pub lawful : LawfulRun s m (a ∷ []) record { answers = answer ∷ []; memory = got.memory; state = after }
  pub shown_as : got.reply ≡ shown copy answer
  pub kept : got.session.job ≡ Some (full after)

-- which call a command makes; a step and a sweep are made exactly if the grant of their number is out
abbrev pub CallsFull : Session → State → List ℕ → Command → Got → Type 0
CallsFull d s m (command.Step n rule place) got = IfOk (granted d.ledger n) (λ g. Called s m (step g.number rule place) reply.Copied got)
CallsFull d s m (command.Sweep n most) got = IfOk (granted d.ledger n) (λ g. Called s m (sweep g.number most) reply.Copied got)
CallsFull d s m command.Look got = Called s m look reply.Copied got
CallsFull d s m (command.Copy room) got = Called s m (copy_out room) reply.Copied got
CallsFull d s m command.Term got = Called s m (copy_out (length m)) reply.Term got
CallsFull d s m (command.Measure text) got = Unit {0}
CallsFull d s m (command.Compare n) got = Unit {0}
CallsFull d s m (command.Ceiling n) got = Unit {0}
CallsFull d s m (command.Pool size first) got = Unit {0}
CallsFull d s m (command.Reserve amount) got = Unit {0}
CallsFull d s m (command.Settle n) got = Unit {0}
CallsFull d s m command.Free got = Unit {0}
CallsFull d s m (command.Open o n text) got = Unit {0}
CallsFull d s m command.Help got = Unit {0}

-- a job that was opened in full: its grant is out, every rule is strict, and the grant covers the term's height
pub record OpenedFull (S : Setting) (d : Session) (n : ℕ) (text : Option (List ℕ)) (got : Got) : Type 0 where
  pub grant : Grant
  pub codes : List ℕ
  pub out : granted d.ledger n ≡ Ok grant
  pub term : asked_term S text ≡ Ok codes
  pub covered : Covered S.pile S.system.arities (rules_from S.system.arities S.system.rules) codes grant.amount
  pub job : got.session.job ≡ Some (full (fresh S.system codes grant))

abbrev pub OpensFull : Setting → Session → Command → Got → Type 0
OpensFull S d (command.Open opening.Full n text) got = IfOk got.reply (λ r. OpenedFull S d n (option_copied text) got)
OpensFull S d (command.Open opening.Short n text) got = Unit {0}
OpensFull S d (command.Step n rule place) got = Unit {0}
OpensFull S d (command.Sweep n most) got = Unit {0}
OpensFull S d command.Look got = Unit {0}
OpensFull S d (command.Copy room) got = Unit {0}
OpensFull S d command.Term got = Unit {0}
OpensFull S d (command.Measure text) got = Unit {0}
OpensFull S d (command.Compare n) got = Unit {0}
OpensFull S d (command.Ceiling n) got = Unit {0}
OpensFull S d (command.Pool size first) got = Unit {0}
OpensFull S d (command.Reserve amount) got = Unit {0}
OpensFull S d (command.Settle n) got = Unit {0}
OpensFull S d command.Free got = Unit {0}
OpensFull S d command.Help got = Unit {0}

pub record LawfulCommand (S : Setting) (d : Session) (m : List ℕ) (c : Command) (got : Got) : Type 0 where
  -- what is refused changes nothing
  pub unchanged : OnErr got.reply ((got.session ≡ d) × (got.memory ≡ m))
  -- the pool is in balance
  pub balanced : Balanced got.session.ledger
  -- no job that was opened in full is cut off
  pub plain : (s : State) → d.job ≡ Some (full s) → CallsFull d s m c got
  -- and what such an opening has made sure of
  pub opened : OpensFull S d c got
