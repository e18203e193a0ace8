-- Why a host refuses.
use Rattle.std.proofs.Common.{◌≡◌, ℕ, List, Ok, Err, Result, refl, sym, subst}
use Rattle.terms.specs.declared.system.System as held
use Rattle.terms.specs.Systems.{signature_of}
use Rattle.algebras.specs.Meanings.{Meaning}
use Rattle.pools.specs.declared.fault.PoolFault.{PoolFault}
use Rattle.pools.specs.declared.fault.PoolFault.TheVariants.{OutOfRange, AboveFree, NumbersGiven, AboveSize}
use Rattle.pools.specs.Pools as pool
use Rattle.pools.specs.Laws.{Reserved}
use Rattle.algebras.specs.Laws.{HeightTold, MeasuredExactly}
use Rattle.hosting.specs.declared.Hosted.{Hosted}
use Rattle.hosting.specs.declared.fault.HostFault.{HostFault}
use Rattle.hosting.specs.declared.fault.HostFault.TheVariants as host
use Rattle.hosting.specs.Answers.{HostTold}

-- a pool that refuses is as it was
pub pool_refused : (A : Meaning) (p q : pool.State) (system : held.System) (cs : List ℕ) (h : ℕ) (f : PoolFault) (r : Result Hosted HostFault) → r ≡ Err (host.Pool f)
    → (sig : List ℕ) → sig ≡ signature_of system → MeasuredExactly A sig cs (Ok h) → Reserved p h (Err f) q → HostTold A p system cs r
pool_refused A p q system cs h f r same sig of_system told x =
    subst (HostTold A p system cs) (sym same) record { height = h; told = subst (λ s. HeightTold A s cs (Ok h)) of_system told.told; refused = kept f x }
  where
    kept : (f : PoolFault) → Reserved p h (Err f) q → Reserved p h (Err f) p
    kept OutOfRange x = (refl, x.1)
    kept AboveFree x = (refl, x.1, x.2, x.3)
    kept NumbersGiven x = (refl, x.1, x.2)
    kept AboveSize x = x
