-- The lines that answers are shown as.
use Rattle.std.specs.Prelude.{ℕ, List, ◌++◌, take, Some, None, Option, codes, decimal}
use Rattle.refusals.specs.Lines.{line}
use Rattle.algebras.specs.Words.{order_word}
use Rattle.job_calls.specs.declared.answer.Look.{Look}
use Rattle.job_calls.specs.Words.{end_word}
use Rattle.terms.specs.Lines.{codes_text}
use Rattle.vocabulary.specs.Naming.{Naming}
use Rattle.printing.specs.Replies.{displayed}
use Rattle.commands.specs.declared.help.TheConstants.{HELP}
use Rattle.sessions.specs.declared.fault.CommandFault.{CommandFault}
use Rattle.sessions.specs.declared.fault.CommandFault.TheVariants.{NoPool, NoGrant, NoJob, NoRule, GrantsOut, Refused}
use Rattle.sessions.specs.declared.reply.Reply.{Reply}
use Rattle.sessions.specs.declared.reply.Reply.TheVariants as reply

abbrev pub fault_text : CommandFault → List ℕ
fault_text NoPool = codes "no pool"
fault_text NoGrant = codes "no grant"
fault_text NoJob = codes "no job"
fault_text NoRule = codes "no rule"
fault_text GrantsOut = codes "grants out"
fault_text (Refused r) = line r

-- a number behind a word
abbrev pub counted : List ℕ → ℕ → List ℕ
counted word n = word ++ decimal n

-- the first redex, or that there is none
abbrev pub first_text : Option (ℕ × ℕ) → List ℕ
first_text None = codes "normal"
first_text (Some redex) = counted (codes "redex ") redex.0 ++ counted (codes " ") redex.1

abbrev pub look_text : Look → List ℕ
look_text l = first_text l.first ++ (counted (codes " size ") l.size ++ (counted (codes " count ") l.count ++ counted (codes " left ") l.left))

abbrev pub ceiling_text : Option ℕ → List ℕ
ceiling_text None = codes "none"
ceiling_text (Some c) = decimal c

-- with the names of the setting, and the memory that was lent
abbrev pub reply_text : Naming → List ℕ → Reply → List ℕ
reply_text names m (reply.Height h) = counted (codes "height ") h
reply_text names m (reply.Order o) = order_word o
reply_text names m (reply.Ceiling c) = ceiling_text c
reply_text names m (reply.Pool size) = counted (codes "pool ") size
reply_text names m (reply.Granted n amount) = counted (codes "grant ") n ++ counted (codes " ") amount
reply_text names m reply.Settled = codes "settled"
reply_text names m (reply.Free free size) = counted (codes "free ") free ++ counted (codes " of ") size
reply_text names m reply.Opened = codes "opened"
reply_text names m reply.Stepped = codes "stepped"
reply_text names m (reply.Swept s) = end_word s.end ++ counted (codes " ") s.steps
reply_text names m (reply.Looked l) = look_text l
reply_text names m (reply.Copied n) = codes "codes" ++ codes_text (take n m)
reply_text names m (reply.Term n) = displayed names (take n m)
reply_text names m reply.Help = HELP.now
