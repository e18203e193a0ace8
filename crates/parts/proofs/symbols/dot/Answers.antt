use Rattle.std.proofs.Common.{◌≡◌, ℕ, ◌*◌, ◌<◌, ◌^◌, ◌≤◌, Some, length, get_or, refl, arith, rules, tests}
use Rattle.std.specs.List.{zip}
use Rattle.std.proofs.lemmas.Fn.{serves_by}
use Rattle.std.proofs.lemmas.Slice.Zip.{zip_turn}
use Rattle.std.proofs.lemmas.Iterator.{YieldsList-from_map, YieldsList-from_slice, YieldsList-from_zip}
use Rattle.std.proofs.lemmas.Iterator.Consumers.{fits_by_from_yields_list, sum_by_from_yields_List}
use Rattle.algebras.specs.Meanings.{reach}
use Rattle.parts.specs.Vectors.{dotted}
use Rattle.parts.proofs.Weighing.{product_small, dotted-le}
use Rattle.parts.proofs.symbols.dot.Goals as goal

pub sum-requires-clause-can : goal.sum-requires-clause-can
sum-requires-clause-can c = (
  (tt, tt),
  serves_by _ (λ xs q. Unit {0}) (λ xs q x v j r. tt) _ _ _ _ tt (λ xs t q x u y s j.
      let turn = zip_turn c.args.entries.now c.args.values.now xs _ t u (Some x) (search rules) (search rules) y x refl s in
      let entry : get_or c.args.entries.now (length xs) 0 ≤ 255 = omega arith in
      let value : get_or c.args.values.now (length xs) 0 ≤ reach = c.requires (length xs) 0 turn.1 in
      let e = turn.2 0 in
      let v = turn.3 0 in
      let fits : x.0.now * x.1.now < 2 ^ 64 = omega (arith, product_small x.0.now x.1.now (omega arith) (omega arith)) in
      search (rules, fits)),
)

pub sum-requires-clause-fits : goal.sum-requires-clause-fits
sum-requires-clause-fits c =
    let small : (k : ℕ) → get_or c.args.entries.now k 0 ≤ 255 = λ k. omega arith in
    let fits : dotted c.args.entries.now c.args.values.now < 2 ^ 64 = omega (arith, dotted-le c.args.entries.now c.args.values.now small c.requires) in
    fits_by_from_yields_list (λ (p : ℕ × ℕ). p.0 * p.1) (zip c.args.entries.now c.args.values.now) _ _
    (YieldsList-from_map _ (λ (p : ℕ × ℕ). p.0 * p.1) (YieldsList-from_zip (YieldsList-from_slice c.args.entries.now (cc)) (YieldsList-from_slice c.args.values.now (search rules))) (cc) (λ x r q k. search (rules, tests))) fits

pub returns-clause-bound : goal.returns-clause-bound
returns-clause-bound c =
    let small : (k : ℕ) → get_or c.args.entries.now k 0 ≤ 255 = λ k. omega arith in
    let sum : c.sum.result ≡ dotted c.args.entries.now c.args.values.now =
    sum_by_from_yields_List (λ (p : ℕ × ℕ). p.0 * p.1) (zip c.args.entries.now c.args.values.now) _ _ c.sum.ensures.ran
    (YieldsList-from_map _ (λ (p : ℕ × ℕ). p.0 * p.1) (YieldsList-from_zip (YieldsList-from_slice c.args.entries.now (cc)) (YieldsList-from_slice c.args.values.now (search rules))) (cc) (λ x r q k. search (rules, tests))) in
    omega (arith, dotted-le c.args.entries.now c.args.values.now small c.requires)
