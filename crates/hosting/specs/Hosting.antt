-- What a hosted job has come to.
use Rattle.std.specs.Prelude.{◌≡◌, ℕ, ◌<◌, List, length}
use Rattle.terms.specs.Limits.{most_term}
use Rattle.terms.specs.Terms.{Term, size}
use Rattle.terms.specs.Rules.{Rule}
use Rattle.terms.specs.Codes.{term_of}
use Rattle.terms.specs.Steps.{Step, Derivation, Normal, First}
use Rattle.terms.specs.declared.system.System.{System}
use Rattle.terms.specs.Systems.{signature_of, rules_of}
use Rattle.job_calls.specs.declared.answer.End.{End}
use Rattle.job_calls.specs.declared.answer.End.TheVariants as end
use Rattle.job_calls.specs.Runs.{term_in}
use Rattle.jobs.specs.Fulls.{state_in}
use Rattle.hosting.specs.declared.Hosted.{Hosted}

-- a normal form, or a first redex whose step leads to a term that is too long; nothing else
abbrev pub EndsAs : List Rule → Term → End → Type 0
EndsAs rules u end.Normal = Normal rules u
EndsAs rules u end.More = ⊥
EndsAs rules u end.Spent = ⊥
EndsAs rules u end.TooLong = (at n : ℕ) × (v : Term) × First rules u at n × Step rules n at u v × (most_term < size v)

-- a derivation from the term to the job's, with as many steps as the sweep has made, and why it made no more
pub record Ended (system : System) (cs : List ℕ) (h : Hosted) : Type 0 where
  pub numbers : List ℕ
  pub derivation : Derivation (rules_of system) (term_of (signature_of system) cs) numbers (term_in (state_in h.job))
  pub counted : length numbers ≡ h.sweep.steps
  pub ended : EndsAs (rules_of system) (term_in (state_in h.job)) h.sweep.end
