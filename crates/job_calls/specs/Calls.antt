-- What each call on a job answers, and what it leaves.
use Rattle.std.specs.Prelude.{ℕ, zero, suc, ◌+◌, ◌-◌, cond, List, [], ◌∷◌, ◌++◌, length, take, drop, Some, None, Ok, Err, Option, Result, nat_eq, nat_lt}
use Rattle.rewriting.specs.declared.fault.RewriteFault.{RewriteFault}
use Rattle.rewriting.specs.declared.fault.RewriteFault.TheVariants as fault
use Rattle.terms.specs.Rules.{Rule}
use Rattle.rewriting.specs.Replies.{rewritten}
use Rattle.rewriting.specs.Searching.{first_redex}
use Rattle.job_calls.specs.declared.fault.JobFault.{JobFault}
use Rattle.job_calls.specs.declared.fault.JobFault.TheVariants.{OtherGrant, Rewrite, Spent, ShortMemory}
use Rattle.job_calls.specs.declared.answer.End.{End}
use Rattle.job_calls.specs.declared.answer.End.TheVariants as end
use Rattle.job_calls.specs.declared.answer.Sweep.{Sweep}
use Rattle.job_calls.specs.declared.answer.Look.{Look}
use Rattle.job_calls.specs.declared.answer.Answer.{Answer}
use Rattle.job_calls.specs.declared.answer.Answer.TheVariants as answer

-- what a job holds: a system's arities and rules, its grant's number and amount (the reserve), the term's codes, and how
-- many steps were made
pub record State : Type 0 where
  pub arities : List ℕ
  pub rules : List Rule
  pub number : ℕ
  pub reserve : ℕ
  pub codes : List ℕ
  pub count : ℕ

-- after one step more, with other codes
abbrev pub moved : State → List ℕ → State
moved s cs = record { arities = s.arities; rules = s.rules; number = s.number; reserve = s.reserve; codes = cs; count = s.count + 1 }

-- the codes after a step by a rule number at a place
abbrev pub following : State → ℕ → ℕ → Result (List ℕ) RewriteFault
following s n at = rewritten s.arities s.rules s.codes n at

-- a step against the reserve: where that is used up, a step that could be made is refused
abbrev pub against : State → Result (List ℕ) RewriteFault → Result (Unit {0}) JobFault × State
against s (Ok cs) = cond (nat_eq s.count s.reserve) (Err Spent, s) (Ok tt, moved s cs)
against s (Err fault.Malformed) = (Err (Rewrite fault.Malformed), s)
against s (Err fault.NoRule) = (Err (Rewrite fault.NoRule), s)
against s (Err fault.NoPlace) = (Err (Rewrite fault.NoPlace), s)
against s (Err fault.NoMatch) = (Err (Rewrite fault.NoMatch), s)
against s (Err fault.TooLong) = cond (nat_eq s.count s.reserve) (Err Spent, s) (Err (Rewrite fault.TooLong), s)

-- a step with the grant of a number, by a rule number at a place
abbrev pub step_reply : State → ℕ → ℕ → ℕ → Result (Unit {0}) JobFault × State
step_reply s g n at = cond (nat_eq g s.number) (against s (following s n at)) (Err OtherGrant, s)

-- the first redex, as its place and rule
abbrev pub first : State → Option (ℕ × ℕ)
first s = first_redex s.arities s.rules s.codes

-- a sweep's next step from a state, or its end before one
abbrev pub made : State → Result (List ℕ) RewriteFault → Result State End
made s (Ok cs) = Ok (moved s cs)
made s (Err e) = Err end.TooLong

abbrev pub at_first : State → Option (ℕ × ℕ) → Result State End
at_first s None = Err end.Normal
at_first s (Some redex) = cond (nat_eq s.count s.reserve) (Err end.Spent) (made s (following s redex.1 redex.0))

abbrev pub advanced : State → Result State End
advanced s = at_first s (first s)

-- how a sweep ends when no more steps are asked for
abbrev pub stop : Option (ℕ × ℕ) → End
stop None = end.Normal
stop (Some redex) = end.More

-- a sweep that has made k steps, for up to n more: its end, and the state then
abbrev pub goes_on : ℕ → State → (State → Sweep × State) → Result State End → Sweep × State
goes_on k s on (Ok t) = on t
goes_on k s on (Err e) = (record { end = e; steps = k }, s)

abbrev pub swept_from : ℕ → ℕ → State → Sweep × State
swept_from zero k s = (record { end = stop (first s); steps = k }, s)
swept_from (suc n) k s = goes_on k s (swept_from n (suc k)) (advanced s)

-- a sweep with the grant of a number, for up to n steps
abbrev pub told : Sweep × State → Result Sweep JobFault × State
told r = (Ok r.0, r.1)

abbrev pub sweep_reply : State → ℕ → ℕ → Result Sweep JobFault × State
sweep_reply s g n = cond (nat_eq g s.number) (told (swept_from n 0 s)) (Err OtherGrant, s)

abbrev pub look_reply : State → Look
look_reply s = record { first = first s; size = length s.codes; count = s.count; left = s.reserve - s.count }

-- codes copied to the front of a memory, where they fit
abbrev pub copy_reply : List ℕ → List ℕ → Result ℕ JobFault × List ℕ
copy_reply cs m = cond (nat_lt (length m) (length cs)) (Err ShortMemory, m) (Ok (length cs), cs ++ drop (length cs) m)

-- the same to the first `room` places of a memory
abbrev pub copy_to_reply : List ℕ → ℕ → List ℕ → Result ℕ JobFault × List ℕ
copy_to_reply cs room m = ((copy_reply cs (take room m)).0, (copy_reply cs (take room m)).1 ++ drop room m)

-- a call by its arguments: grants by their numbers
pub data Asked : Type 0 where
  step : ℕ → ℕ → ℕ → Asked
  sweep : ℕ → ℕ → Asked
  look : Asked
  copy_out : ℕ → Asked

-- what a call answers, what it leaves in the memory that it is lent, and the state after it
pub record Got : Type 0 where
  pub answer : Answer
  pub memory : List ℕ
  pub state : State

abbrev pub performed : State → List ℕ → Asked → Got
performed s m (step g n at) = record { answer = answer.Stepped (step_reply s g n at).0; memory = m; state = (step_reply s g n at).1 }
performed s m (sweep g n) = record { answer = answer.Swept (sweep_reply s g n).0; memory = m; state = (sweep_reply s g n).1 }
performed s m look = record { answer = answer.Looked (look_reply s); memory = m; state = s }
performed s m (copy_out room) = record { answer = answer.Copied (copy_to_reply s.codes room m).0; memory = (copy_to_reply s.codes room m).1; state = s }

-- the calls of a list in turn
pub record Ran : Type 0 where
  pub answers : List Answer
  pub memory : List ℕ
  pub state : State

abbrev pub behind : Answer → Ran → Ran
behind a r = record { answers = a ∷ r.answers; memory = r.memory; state = r.state }

abbrev pub run : State → List ℕ → List Asked → Ran
run s m [] = record { answers = []; memory = m; state = s }
run s m (c ∷ cs) = let g = performed s m c in behind g.answer (run g.state g.memory cs)
