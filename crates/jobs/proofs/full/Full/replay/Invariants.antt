use Rattle.std.specs.Prelude.{◌≡◌, length, map, take, drop}
use Rattle.job_calls.specs.Calls.{run}
use Rattle.jobs.specs.Asking.{asked}
use Rattle.jobs.specs.Fulls.{state_in}
use Rattle.jobs.proofs.full.Full.replay.Given as goal

-- the calls so far were performed, and the answers behind theirs are as they were
abbrev pub invariant-loop-at : goal.invariant-loop-at
invariant-loop-at l =
    (record { answers = take l.at l.answers; memory = l.memory; state = state_in l.self } ≡ run (state_in l.fn.self) l.fn.memory (map asked (take l.at l.performed)))
    × (drop l.at l.answers ≡ drop l.at l.fn.answers)
    × (length l.answers ≡ length l.fn.answers)
