-- What each command answers, what it leaves in the memory that it is lent, and the session after it.
use Rattle.std.specs.Prelude.{ℕ, List, length, Ok, Result, option_copied}
use Rattle.terms.specs.Replies.{viewed}
use Rattle.pools.specs.declared.ledger.PoolCall.TheVariants as call
use Rattle.commands.specs.declared.command.Command.{Command}
use Rattle.commands.specs.declared.command.Command.TheVariants as command
use Rattle.sessions.specs.declared.fault.CommandFault.{CommandFault}
use Rattle.sessions.specs.declared.reply.Reply.{Reply}
use Rattle.sessions.specs.declared.reply.Reply.TheVariants as reply
use Rattle.sessions.specs.Settings.{Setting}
use Rattle.sessions.specs.Queries.{measure_answer, compare_answer, ceiling_answer}
use Rattle.sessions.specs.Sessions.{Session}
use Rattle.sessions.specs.Pools.{pool_answer, call_answer, free_answer}
use Rattle.sessions.specs.Jobs.{open_answer, step_answer, sweep_answer, look_answer, copy_answer}

pub record Got : Type 0 where
  pub reply : Result Reply CommandFault
  pub memory : List ℕ
  pub session : Session

-- a question changes nothing
abbrev pub asked : Session → List ℕ → Result Reply CommandFault → Got
asked s m r = record { reply = r; memory = m; session = s }

-- an answer, with the session after it
abbrev pub done : List ℕ → Result Reply CommandFault × Session → Got
done m r = record { reply = r.0; memory = m; session = r.1 }

-- a copy, shown as codes or as a term
abbrev pub copied : Session → (ℕ → Reply) → Result ℕ CommandFault × List ℕ → Got
copied s f r = record { reply = viewed f r.0; memory = r.1; session = s }

abbrev pub performing : Setting → Session → List ℕ → Command → Got
performing S s m (command.Measure text) = asked s m (measure_answer S (option_copied text))
performing S s m (command.Compare n) = asked s m (compare_answer S n)
performing S s m (command.Ceiling n) = asked s m (ceiling_answer S n)
performing S s m (command.Pool size first) = done m (pool_answer s size first)
performing S s m (command.Reserve amount) = done m (call_answer s (call.Reserve amount) amount s.ledger)
performing S s m (command.Settle n) = done m (call_answer s (call.Settle n) 0 s.ledger)
performing S s m command.Free = asked s m (free_answer s.ledger)
performing S s m (command.Open opening n text) = done m (open_answer S s opening n (option_copied text))
performing S s m (command.Step n rule place) = done m (step_answer s n rule place)
performing S s m (command.Sweep n most) = done m (sweep_answer s n most)
performing S s m command.Look = asked s m (look_answer s.job)
performing S s m (command.Copy room) = copied s reply.Copied (copy_answer s.job room m)
performing S s m command.Term = copied s reply.Term (copy_answer s.job (length m) m)
performing S s m command.Help = asked s m (Ok reply.Help)
