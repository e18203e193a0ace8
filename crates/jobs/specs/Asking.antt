-- A call by its arguments, and grants by their numbers.
use Rattle.job_calls.specs.Calls.{Asked, Asked.step, Asked.sweep, Asked.look, Asked.copy_out}
use Rattle.jobs.specs.declared.call.Call.{Call}
use Rattle.jobs.specs.declared.call.Call.TheVariants as call

abbrev pub asked : Call → Asked
asked (call.Step grant n at) = step grant.now.number n at
asked (call.Sweep grant n) = sweep grant.now.number n
asked call.Look = look
asked (call.CopyOut room) = copy_out room
