-- The law for one call, and what is kept from call to call.
use Rattle.std.proofs.Common.{◌≡◌, ℕ, List, [], ◌∷◌, Result, sym, subst, ap}
use Rattle.rewriting.proofs.Systems.{few_in, rules_fine}
use Rattle.job_calls.specs.declared.fault.JobFault.{JobFault}
use Rattle.job_calls.specs.declared.answer.Sweep.{Sweep}
use Rattle.job_calls.specs.declared.answer.Answer.TheVariants as answer
use Rattle.job_calls.specs.Calls.{State, step_reply, sweep_reply, Asked, Asked.step, Asked.sweep, Got, performed, Ran, run}
use Rattle.job_calls.specs.Runs.{Sound, Lasts, LawfulRun}
use Rattle.job_calls.proofs.Running.{still_lasts}
use Rattle.job_calls.proofs.OnlyRuns.{lawful_run}
use Rattle.jobs.specs.declared.job.Job.{Job}
use Rattle.jobs.specs.Views.{state_of}

pub sound_of : (j : Job) → Sound (state_of j)
sound_of j = record { few = few_in j.search.subject.system; rules_fine = rules_fine j.search.subject.system; term = j.search.subject.over; within = j.within }

-- what a list of one call comes to
abbrev pub one : Got → Ran
one g = record { answers = g.answer ∷ []; memory = g.memory; state = g.state }

module _ (j : Job) (lasts : Lasts (state_of j)) where
  -- a call by what it comes to
  pub call_lawful : (m : List ℕ) (c : Asked) (g : Got) → g ≡ performed (state_of j) m c → LawfulRun (state_of j) m (c ∷ []) (one g)
  call_lawful m c g e = subst (λ x. LawfulRun (state_of j) m (c ∷ []) (one x)) (sym e) (lawful_run (state_of j) (sound_of j) lasts m (c ∷ []))

  pub call_lasts : (m : List ℕ) (c : Asked) (g : Got) → g ≡ performed (state_of j) m c → Lasts g.state
  call_lasts m c g e = subst (λ x. Lasts x.state) (sym e) (still_lasts (state_of j) (sound_of j) lasts m (c ∷ []))

  module _ (g n : ℕ) where
    pub step_got : (at : ℕ) (r : Result (Unit {0}) JobFault) (t : State) → (r, t) ≡ step_reply (state_of j) g n at
        → record { answer = answer.Stepped r; memory = []; state = t } ≡ performed (state_of j) [] (step g n at)
    step_got at r t e = ap (λ (x : Result (Unit {0}) JobFault × State). record { answer = answer.Stepped x.0; memory = []; state = x.1 }) e

    pub sweep_got : (r : Result Sweep JobFault) (t : State) → (r, t) ≡ sweep_reply (state_of j) g n
        → record { answer = answer.Swept r; memory = []; state = t } ≡ performed (state_of j) [] (sweep g n)
    sweep_got r t e = ap (λ (x : Result Sweep JobFault × State). record { answer = answer.Swept x.0; memory = []; state = x.1 }) e

  -- a run by what it comes to
  pub run_lawful : (m : List ℕ) (cs : List Asked) (r : Ran) → r ≡ run (state_of j) m cs → LawfulRun (state_of j) m cs r
  run_lawful m cs r e = subst (LawfulRun (state_of j) m cs) (sym e) (lawful_run (state_of j) (sound_of j) lasts m cs)
