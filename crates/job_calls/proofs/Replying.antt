-- A sweep that goes on is the rest of the same sweep.
use Rattle.std.proofs.Common.{◌≡◌, ℕ, suc, ◌+◌, ◌-◌, ◌<◌, Ok, sym, ap, ◌∙◌, arith}
use Rattle.job_calls.specs.Calls.{State, advanced, goes_on, swept_from}

-- at the k-th of `most` steps
pub went_on : (before s : State) (most k : ℕ) → swept_from (most - k) k s ≡ swept_from most 0 before → k < most → (t : State) → Ok t ≡ advanced s
    → swept_from (most - (k + 1)) (k + 1) t ≡ swept_from most 0 before
went_on before s most k so_far h t e =
    let n : most - k ≡ suc (most - (k + 1)) = omega arith in
    let j : suc k ≡ k + 1 = omega arith in
    ap (λ i. swept_from (most - (k + 1)) i t) (sym j)
    ∙ ap (goes_on k s (swept_from (most - (k + 1)) (suc k))) e
    ∙ ap (λ i. swept_from i k s) (sym n)
    ∙ so_far
