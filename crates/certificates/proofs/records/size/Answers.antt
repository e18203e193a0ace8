use Rattle.std.proofs.Common.{ℕ, ◌+◌, ◌*◌, ◌<◌, ◌^◌, sum_by, arith, rules, tests}
use Rattle.std.proofs.lemmas.Iterator.{YieldsList-from_map, YieldsList-from_slice}
use Rattle.std.proofs.lemmas.Iterator.Consumers.{fits_by_from_yields_list}
use Rattle.terms.specs.Models.{arities_of}
use Rattle.parts.specs.MakingLemmas.{few, low}
use Rattle.certificates.proofs.Sizes.{sizes_small}
use Rattle.certificates.proofs.records.size.Goals as goal

pub sum-requires-clause-fits : goal.sum-requires-clause-fits
sum-requires-clause-fits c =
    let sig = arities_of c.args.signature.now in
    let l = few c.args.signature.now in
    let fits : sum_by (λ a. c.args.own + a * c.args.argument) sig < 2 ^ 64 = omega (arith, sizes_small c.args.own c.args.argument sig c.requires.own c.requires.argument (low c.args.signature.now)) in
    fits_by_from_yields_list (λ (a : ℕ). c.args.own + a * c.args.argument) sig _ _ (YieldsList-from_map _ (λ (a : ℕ). c.args.own + a * c.args.argument) {f = c.map.result.f} (YieldsList-from_slice sig (search rules)) (search rules) (λ x r q k. search (rules, tests))) fits
