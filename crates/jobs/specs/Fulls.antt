-- What a job that was opened in full holds.
use Rattle.job_calls.specs.Calls.{State}
use Rattle.jobs.specs.declared.full.Full.{Full}
use Rattle.jobs.specs.Views.{state_of}

abbrev pub state_in : Full → State
state_in f = state_of f.job
