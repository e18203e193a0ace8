-- The refusals of a host: those of what refused.
use Rattle.refusals.specs.declared.Refusal.{Refusal}
use Rattle.algebras.specs.Replies.{algebra_refusal}
use Rattle.pools.specs.Faults.{pool_refusal}
use Rattle.job_calls.specs.Words.{job_refusal}
use Rattle.jobs.specs.Faults.{open_refusal}
use Rattle.hosting.specs.declared.fault.HostFault.{HostFault}
use Rattle.hosting.specs.declared.fault.HostFault.TheVariants as fault

abbrev pub host_refusal : HostFault → Refusal
host_refusal (fault.Height f) = algebra_refusal f
host_refusal (fault.Pool f) = pool_refusal f
host_refusal (fault.Open f) = open_refusal f
host_refusal (fault.Job f) = job_refusal f
