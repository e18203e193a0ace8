-- What the pile answers: heights, orders, ceilings.
use Rattle.std.specs.Prelude.{ℕ, List, Some, None, Ok, Err, Option, Result, slice_get}
use Rattle.terms.specs.Models.{Sides}
use Rattle.terms.specs.Replies.{viewed}
use Rattle.algebras.specs.Replies.{measured, compared, ceiling_reply, algebra_refusal}
use Rattle.sessions.specs.declared.fault.CommandFault.{CommandFault}
use Rattle.sessions.specs.declared.fault.CommandFault.TheVariants.{NoRule}
use Rattle.sessions.specs.declared.reply.Reply.{Reply}
use Rattle.sessions.specs.declared.reply.Reply.TheVariants as reply
use Rattle.sessions.specs.Settings.{Setting, or_refused, asked_term}

-- the height of a term that was read
abbrev pub height_answer : Setting → Result (List ℕ) CommandFault → Result Reply CommandFault
height_answer S (Ok cs) = viewed reply.Height (or_refused algebra_refusal (measured S.pile S.system.arities cs))
height_answer S (Err e) = Err e

abbrev pub measure_answer : Setting → Option (List ℕ) → Result Reply CommandFault
measure_answer S text = height_answer S (asked_term S text)

-- the order of a rule, if there is one
abbrev pub order_answer : Setting → Option Sides → Result Reply CommandFault
order_answer S None = Err NoRule
order_answer S (Some r) = viewed reply.Order (or_refused algebra_refusal (compared S.pile S.system.arities r.left r.right))

abbrev pub compare_answer : Setting → ℕ → Result Reply CommandFault
compare_answer S n = order_answer S (slice_get S.system.rules n)

abbrev pub ceiling_answer : Setting → ℕ → Result Reply CommandFault
ceiling_answer S n = viewed reply.Ceiling (or_refused algebra_refusal (ceiling_reply S.pile n))
