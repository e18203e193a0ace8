-- What an opening in full answers, and what that means.
use Rattle.std.specs.Prelude.{◌≡◌, ℕ, ◌<◌, ◌≤◌, cond, false, T, List, Ok, Err, Result, nat_lt}
use Rattle.terms.specs.declared.malformed.Malformed.TheVariants as malformed
use Rattle.terms.specs.Rules.{Rule}
use Rattle.terms.specs.Codes.{is_term}
use Rattle.terms.specs.Systems.{System}
use Rattle.terms.specs.Laws.{Reading}
use Rattle.algebras.specs.declared.fault.AlgebraFault.{AlgebraFault}
use Rattle.algebras.specs.declared.reviewing.ReviewFault.{ReviewFault}
use Rattle.algebras.specs.Meanings.{Meaning}
use Rattle.algebras.specs.Bounds.{Bounded}
use Rattle.algebras.specs.Replies.{measured}
use Rattle.algebras.specs.Reviews.{review_reply, Passed, Reviewed}
use Rattle.pools.specs.declared.grant.Grant.{Grant}
use Rattle.job_calls.specs.Calls.{State}
use Rattle.job_calls.specs.Plain.{opened}
use Rattle.job_calls.specs.Runs.{Agrees}
use Rattle.terms.specs.Terms.{Term}
use Rattle.jobs.specs.declared.fault.OpenFault.{OpenFault}
use Rattle.jobs.specs.declared.fault.OpenFault.TheVariants as fault
use Rattle.jobs.specs.Openings.{fresh}

-- where every rule is strict: the height has to be given, and at most the grant's amount
abbrev pub by_height : System → List ℕ → Grant → Result ℕ AlgebraFault → Result State OpenFault
by_height s cs g (Ok h) = cond (nat_lt g.amount h) (Err fault.BelowHeight) (Ok (fresh s cs g))
by_height s cs g (Err e) = Err (fault.Algebra e)

-- where the codes are a term: the pile has to fit, and every rule has to be strict
abbrev pub by_review : Meaning → System → List ℕ → Grant → Result (Unit {0}) ReviewFault → Result State OpenFault
by_review A s cs g (Ok x) = by_height s cs g (measured A s.arities cs)
by_review A s cs g (Err e) = Err (fault.Review e)

-- the term first, then the pile's fit, the rules in their order, the height, and the grant
abbrev pub full_reply : Meaning → System → List ℕ → Grant → Result State OpenFault
full_reply A s cs g = cond (is_term s.arities cs) (by_review A s cs g (review_reply A s.arities s.rules)) (Err (fault.Malformed malformed.Term))

-- a term under a system whose rules are all strict in a pile, with its bounds
pub record Reviewing (A : Meaning) (sig : List ℕ) (rules : List Rule) (cs : List ℕ) : Type 0 where
  pub read : Reading sig cs
  pub passed : Passed A sig rules

-- and with a height that the amount covers: so no derivation is longer than the amount
pub record Covered (A : Meaning) (sig : List ℕ) (rules : List Rule) (cs : List ℕ) (amount : ℕ) : Type 0 where
  pub read : Reading sig cs
  pub passed : Passed A sig rules
  pub given : T (A.given read.term)
  pub covered : A.height read.term ≤ amount
  pub bounded : Bounded sig rules A read.term

-- the cases exclude each other: each says exactly what was found
abbrev pub OpenTold : {X : Type 0} → Meaning → List ℕ → List Rule → List ℕ → ℕ → Result X OpenFault → Type 0
OpenTold A sig rules cs amount (Ok x) = Covered A sig rules cs amount
OpenTold A sig rules cs amount (Err (fault.Text e)) = ⊥
OpenTold A sig rules cs amount (Err (fault.Certificate e)) = ⊥
OpenTold A sig rules cs amount (Err (fault.Malformed e)) = Reading sig cs → ⊥
OpenTold A sig rules cs amount (Err (fault.Review e)) = Reading sig cs × Reviewed A sig rules (Err e)
OpenTold A sig rules cs amount (Err (fault.Algebra e)) = (r : Reviewing A sig rules cs) × (A.given r.read.term ≡ false)
OpenTold A sig rules cs amount (Err fault.BelowHeight) = (r : Reviewing A sig rules cs) × (amount < A.height r.read.term)

-- the plain job of no steps has the job's term and count
abbrev pub PlainOpened : State → Term → Type 0
PlainOpened s start = Agrees s start (opened s.rules start)
