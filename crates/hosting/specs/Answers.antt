-- What a host's answers say.
use Rattle.std.specs.Prelude.{ℕ, List, Ok, Err, Result}
use Rattle.terms.specs.declared.system.System.{System}
use Rattle.terms.specs.Systems.{signature_of, rules_of}
use Rattle.algebras.specs.Meanings.{Meaning}
use Rattle.algebras.specs.Laws.{HeightTold}
use Rattle.algebras.specs.Reviews.{Reviewed}
use Rattle.pools.specs.declared.fault.PoolFault.{PoolFault}
use Rattle.pools.specs.Pools.{State}
use Rattle.pools.specs.Laws.{Reserved}
use Rattle.jobs.specs.declared.fault.OpenFault.{OpenFault}
use Rattle.jobs.specs.declared.fault.OpenFault.TheVariants as opening
use Rattle.hosting.specs.declared.Hosted.{Hosted}
use Rattle.hosting.specs.declared.fault.HostFault.{HostFault}
use Rattle.hosting.specs.declared.fault.HostFault.TheVariants as fault
use Rattle.hosting.specs.Hosting.{Ended}

-- an opening on the height of a term is refused only by the review
abbrev pub OpenRefused : Meaning → System → OpenFault → Type 0
OpenRefused A system (opening.Text f) = ⊥
OpenRefused A system (opening.Certificate f) = ⊥
OpenRefused A system (opening.Malformed f) = ⊥
OpenRefused A system (opening.Review f) = Reviewed A (signature_of system) (rules_of system) (Err f)
OpenRefused A system (opening.Algebra f) = ⊥
OpenRefused A system opening.BelowHeight = ⊥

-- with a grant of the height in hand: the job has ended, or a rule is not strict
abbrev pub RunTold : Meaning → System → List ℕ → Result Hosted HostFault → Type 0
RunTold A system cs (Ok h) = Ended system cs h
RunTold A system cs (Err (fault.Height f)) = ⊥
RunTold A system cs (Err (fault.Pool f)) = ⊥
RunTold A system cs (Err (fault.Open f)) = OpenRefused A system f
RunTold A system cs (Err (fault.Job f)) = ⊥

-- a pool refuses the height of a term
pub record PoolRefused (A : Meaning) (p : State) (system : System) (cs : List ℕ) (f : PoolFault) : Type 0 where
  pub height : ℕ
  pub told : HeightTold A (signature_of system) cs (Ok height)
  pub refused : Reserved p height (Err f) p

-- the job has ended, or there is no height, the pool refuses it, or a rule is not strict; nothing else
abbrev pub HostTold : Meaning → State → System → List ℕ → Result Hosted HostFault → Type 0
HostTold A p system cs (Ok h) = Ended system cs h
HostTold A p system cs (Err (fault.Height f)) = HeightTold A (signature_of system) cs (Err f)
HostTold A p system cs (Err (fault.Pool f)) = PoolRefused A p system cs f
HostTold A p system cs (Err (fault.Open f)) = OpenRefused A system f
HostTold A p system cs (Err (fault.Job f)) = ⊥
