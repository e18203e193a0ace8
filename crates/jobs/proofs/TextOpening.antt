-- What an opening on texts comes to.
use Rattle.std.proofs.Common.{◌≡◌, ℕ, zero, suc, List, [], ◌∷◌, map, Ok, Result, refl, ap, ap₂, ◌∙◌}
use Rattle.bounded.specs.Items.{items}
use Rattle.algebras.specs.declared.sum.Sum.{Sum}
use Rattle.algebras.specs.Meanings.{Meaning}
use Rattle.algebras.specs.Layers.{sum_means}
use Rattle.piles.specs.declared.part.Part.{Part}
use Rattle.piles.specs.Parts.{part_algebra}
use Rattle.certificates.specs.declared.certificate.Certificate.{Certificate}
use Rattle.certificates.specs.Certificates.{nth_part}
use Rattle.certificates.specs.Meanings.{algebras_of}
use Rattle.pools.specs.declared.grant.Grant.{Grant}
use Rattle.job_calls.specs.Calls.{State}
use Rattle.jobs.specs.declared.fault.OpenFault.{OpenFault}
use Rattle.jobs.specs.FullOpenings.{full_reply}
use Rattle.jobs.specs.Reads.{Read, inputs_reply}
use Rattle.jobs.specs.TextOpenings.{nth_algebra, pile_algebra, with_names, open_on, open_reply}

nth_same : (parts : List Part) (k : ℕ) → part_algebra (nth_part parts k) ≡ nth_algebra (map part_algebra parts) k
nth_same [] k = refl
nth_same (p ∷ ps) zero = refl
nth_same (p ∷ ps) (suc k) = nth_same ps k

-- the pile of a certificate means the sum of two sums
abbrev pub of_four : Meaning → Meaning → Meaning → Meaning → Meaning
of_four a b c d = sum_means (sum_means a b) (sum_means c d)

pub pile_same : (c : Certificate) → (let parts = items c.parts in of_four (part_algebra (nth_part parts 0)) (part_algebra (nth_part parts 1)) (part_algebra (nth_part parts 2)) (part_algebra (nth_part parts 3))) ≡ pile_algebra (algebras_of c)
pile_same c =
    let parts = items c.parts in
    ap₂ (λ a b. of_four a b (part_algebra (nth_part parts 2)) (part_algebra (nth_part parts 3))) (nth_same parts 0) (nth_same parts 1)
    ∙ ap₂ (λ a b. of_four (nth_algebra (algebras_of c) 0) (nth_algebra (algebras_of c) 1) a b) (nth_same parts 2) (nth_same parts 3)

-- where the texts are read, the opening is what an opening in full answers, with the names
pub opened_on : (rules certificate start : List ℕ) (g : Grant) (r : Read) (A : Meaning) (x : Result State OpenFault) → Ok r ≡ inputs_reply rules certificate start → A ≡ pile_algebra r.algebras → x ≡ full_reply A r.system r.codes g
    → with_names r.names x ≡ open_reply rules certificate start g
opened_on rules certificate start g r A x read same e =
    ap (with_names r.names) (e ∙ ap (λ B. full_reply B r.system r.codes g) same) ∙ ap (open_on g) read

-- what the pile that the code makes means
abbrev pub pile_means : Sum (Sum Part Part) (Sum Part Part) → Meaning
pile_means s = of_four (part_algebra s.first.first) (part_algebra s.first.second) (part_algebra s.second.first) (part_algebra s.second.second)
