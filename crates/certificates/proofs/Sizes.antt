-- The sizes of bodies are small.
use Rattle.std.proofs.Common.{ℕ, suc, ◌+◌, ◌*◌, ◌≤◌, List, [], ◌∷◌, length, get_or, sum_by, arith, mul-le-mul}
use Rattle.std.proofs.lemmas.List.Sums.{sum_by-cons}

one_small : (own argument a : ℕ) → own ≤ 4 → argument ≤ 16 → a ≤ 4 → own + a * argument ≤ 68
one_small own argument a h k l = let m : a * argument ≤ 4 * 16 = mul-le-mul l k in omega arith

pub sizes_small : (own argument : ℕ) (sig : List ℕ) → own ≤ 4 → argument ≤ 16 → ((i : ℕ) → get_or sig i 0 ≤ 4) → sum_by (λ a. own + a * argument) sig ≤ length sig * 68
sizes_small own argument [] h k l = omega arith
sizes_small own argument (a ∷ sig) h k l =
    let r = sizes_small own argument sig h k (λ i. l (suc i)) in
    let o = one_small own argument a h k (l 0) in
    let s = sum_by-cons (λ a. own + a * argument) a sig in
    omega arith
