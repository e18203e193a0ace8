-- A sweep that ends before all its steps.
use Rattle.std.proofs.Common.{◌≡◌, ℕ, suc, ◌+◌, ◌-◌, ◌<◌, Bool, true, false, cond, eqb, Ok, Err, Result, refl, sym, ap, ◌∙◌, arith}
use Rattle.job_calls.specs.declared.fault.JobFault.{JobFault}
use Rattle.job_calls.specs.declared.fault.JobFault.TheVariants.{OtherGrant}
use Rattle.job_calls.specs.declared.answer.End.{End}
use Rattle.job_calls.specs.declared.answer.Sweep.{Sweep}
use Rattle.job_calls.specs.Calls.{State, advanced, goes_on, swept_from, told, sweep_reply}
use Rattle.jobs.specs.Openings.{checked}

-- with its own grant a sweep is made
made_with : (s : State) (g most : ℕ) → Ok tt ≡ checked s g → told (swept_from most 0 s) ≡ sweep_reply s g most
made_with s g most e = go (eqb g s.number) e
  where
    go : (b : Bool) → ◌≡◌ {A = Result (Unit {0}) JobFault} (Ok tt) (cond b (Ok tt) (Err OtherGrant)) → told (swept_from most 0 s) ≡ cond b (told (swept_from most 0 s)) (Err OtherGrant, s)
    go true e = refl
    go false e = cc

pub ended : (before s t : State) (g most k : ℕ) (e : End) → Ok tt ≡ checked before g → swept_from (most - k) k s ≡ swept_from most 0 before → k < most → Err e ≡ advanced s → t ≡ s
    → (Ok record { end = e; steps = k }, t) ≡ sweep_reply before g most
ended before s t g most k e own so_far more ends same =
    let n = most - k - 1 in
    let left : most - k ≡ suc n = omega arith in
    let here : swept_from (most - k) k s ≡ (record { end = e; steps = k }, s) = ap (λ j. swept_from j k s) left ∙ ap (goes_on k s (swept_from n (suc k))) (sym ends) in
    ap (λ u. (Ok record { end = e; steps = k }, u)) same ∙ ap told (sym here ∙ so_far) ∙ made_with before g most own
