-- The law over runs of a job that was opened in full.
use Rattle.std.specs.Prelude.{◌≡◌, ℕ, ◌+◌, ◌≤◌, List, [], ◌∷◌, length, T, Ok, Err, Result}
use Rattle.terms.specs.Limits.{most_symbols}
use Rattle.terms.specs.Terms.{Term, codes}
use Rattle.terms.specs.Rules.{rules_over}
use Rattle.terms.specs.Codes.{is_term, term_of}
use Rattle.terms.specs.Steps.{Derivation}
use Rattle.job_calls.specs.declared.fault.JobFault.{JobFault}
use Rattle.job_calls.specs.declared.fault.JobFault.TheVariants.{OtherGrant, Rewrite, Spent, ShortMemory}
use Rattle.job_calls.specs.declared.answer.End.{End}
use Rattle.job_calls.specs.declared.answer.End.TheVariants as end
use Rattle.job_calls.specs.declared.answer.Sweep.{Sweep}
use Rattle.job_calls.specs.declared.answer.Answer.{Answer}
use Rattle.job_calls.specs.declared.answer.Answer.TheVariants as answer
use Rattle.job_calls.specs.Calls.{State, Asked, Asked.step, Asked.sweep, Asked.look, Asked.copy_out, Ran}
use Rattle.job_calls.specs.Plain.{Given, Of, Replays}

-- the term whose codes a state holds
abbrev pub term_in : State → Term
term_in s = term_of s.arities s.codes

-- what every job is: a term under a signature, rules over it, and no more steps than the reserve
pub record Sound (s : State) : Type 0 where
  pub few : length s.arities ≤ most_symbols
  pub rules_fine : T (rules_over s.arities s.rules)
  pub term : T (is_term s.arities s.codes)
  pub within : s.count ≤ s.reserve

-- no derivation from the term is longer than what is left of the reserve
abbrev pub Lasts : State → Type 0
Lasts s = (ns : List ℕ) (u : Term) → Derivation s.rules (term_in s) ns u → s.count + length ns ≤ s.reserve

-- what a state was opened with, from a term on
abbrev pub given : State → Term → Given
given s start = record { rules = s.rules; start = start; number = s.number; amount = s.reserve }

-- a plain job has the term and the count of a state
pub record Agrees (s : State) (start : Term) (p : Of (given s start)) : Type 0 where
  pub last : p.last ≡ term_in s
  pub count : length p.numbers ≡ s.count

-- no answer is a cut-off
abbrev pub Uncut : JobFault → Type 0
Uncut OtherGrant = Unit {0}
Uncut (Rewrite f) = Unit {0}
Uncut Spent = ⊥
Uncut ShortMemory = Unit {0}

abbrev pub UncutEnd : End → Type 0
UncutEnd end.Normal = Unit {0}
UncutEnd end.More = Unit {0}
UncutEnd end.Spent = ⊥
UncutEnd end.TooLong = Unit {0}

abbrev pub UncutSweep : Result Sweep JobFault → Type 0
UncutSweep (Ok s) = UncutEnd s.end
UncutSweep (Err e) = Uncut e

abbrev pub UncutResult : {X : Type 0} → Result X JobFault → Type 0
UncutResult (Ok x) = Unit {0}
UncutResult (Err e) = Uncut e

abbrev pub UncutAnswer : Answer → Type 0
UncutAnswer (answer.Stepped r) = UncutResult r
UncutAnswer (answer.Swept r) = UncutSweep r
UncutAnswer (answer.Looked l) = Unit {0}
UncutAnswer (answer.Copied r) = UncutResult r

abbrev pub AllUncut : List Answer → Type 0
AllUncut [] = Unit {0}
AllUncut (a ∷ rest) = UncutAnswer a × AllUncut rest

-- a sweep for at least the reserve that is not refused ends in a normal form, or because the next term is too long
abbrev pub Final : End → Type 0
Final end.Normal = Unit {0}
Final end.More = ⊥
Final end.Spent = ⊥
Final end.TooLong = Unit {0}

abbrev pub FinalSweep : Result Sweep JobFault → Type 0
FinalSweep (Ok s) = Final s.end
FinalSweep (Err e) = Unit {0}

abbrev pub FinalAnswer : Answer → Type 0
FinalAnswer (answer.Stepped r) = Unit {0}
FinalAnswer (answer.Swept r) = FinalSweep r
FinalAnswer (answer.Looked l) = Unit {0}
FinalAnswer (answer.Copied r) = Unit {0}

abbrev pub Ends : ℕ → Asked → Answer → Type 0
Ends reserve (step g n at) a = Unit {0}
Ends reserve (sweep g n) a = reserve ≤ n → FinalAnswer a
Ends reserve look a = Unit {0}
Ends reserve (copy_out room) a = Unit {0}

abbrev pub AllEnd : ℕ → List Asked → List Answer → Type 0
AllEnd reserve [] answers = Unit {0}
AllEnd reserve (c ∷ cs) [] = ⊥
AllEnd reserve (c ∷ cs) (a ∷ answers) = Ends reserve c a × AllEnd reserve cs answers

-- some run of a plain job has these answers, this memory, this term and this count
pub record Follows (s : State) (m : List ℕ) (calls : List Asked) (r : Ran) (start : Term) (p : Of (given s start)) : Type 0 where
  pub plain : Of (given s start)
  pub replays : Replays (given s start) p m calls r.answers r.memory plain
  pub last : plain.last ≡ term_in r.state
  pub same_codes : codes plain.last ≡ r.state.codes
  pub count : length plain.numbers ≡ r.state.count

-- what runs of a job that was opened in full come to
pub record LawfulRun (s : State) (m : List ℕ) (calls : List Asked) (r : Ran) : Type 0 where
  -- answers, memory, term and count are those of the plain job
  pub plain : (start : Term) (p : Of (given s start)) → Agrees s start p → Follows s m calls r start p
  -- and the plain job has no others
  pub only : (start : Term) (p : Of (given s start)) → Agrees s start p
      → (answers : List Answer) (memory : List ℕ) (q : Of (given s start)) → Replays (given s start) p m calls answers memory q
      → (answers ≡ r.answers) × (memory ≡ r.memory) × (q.last ≡ term_in r.state) × (length q.numbers ≡ r.state.count)
  -- no answer and no end is a cut-off
  pub uncut : AllUncut r.answers
  -- sweeps for at least the reserve end
  pub ends : AllEnd s.reserve calls r.answers
