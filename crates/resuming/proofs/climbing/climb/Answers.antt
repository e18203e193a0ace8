use Rattle.std.proofs.Common.{◌≡◌, ap, ◌∙◌, arith, rules, lt-ltb, get_or, ◌-◌, ◌<◌}
use Rattle.terms.specs.Codes.{arity}
use Rattle.std.proofs.lemmas.Bool.{cond-true}
use Rattle.terms.specs.Models.{arities_of}
use Rattle.terms.proofs.Scans.{few_symbols}
use Rattle.resuming.proofs.Climbs.{climb_further, climb_ends}
use Rattle.resuming.proofs.climbing.climb.Goals as goal

pub loop-place-preserved-then-terms-arity : goal.loop-place-preserved-then-terms-arity
loop-place-preserved-then-terms-arity c =
    let sig = arities_of c.args.signature.now in
    let a = arity sig (get_or c.args.before.now (c.loop-place.place - 1) 0) in
    let is : c.arity-arity.result ≡ a = search rules in
    let less : c.loop-place.terms < a = omega arith in
    record {
      within = omega arith;
      climbs =
          climb_further sig c.args.levels c.args.before.now c.loop-place.place c.loop-place.left c.loop-place.terms (omega arith) (omega arith) (omega arith) c.loop-place.invariant.climbs
          ∙ cond-true _ _ _ (lt-ltb c.loop-place.terms a less);
    }

pub returns-else-left-gt0-2 : goal.returns-else-left-gt0-2
returns-else-left-gt0-2 c =
    let none : c.loop-place.left ≡ 0 = omega arith in
    climb_ends (arities_of c.args.signature.now) c.args.levels c.args.before.now (few_symbols (arities_of c.args.signature.now) c.args.signature.now.limited) c.loop-place.place c.loop-place.terms (omega arith) (c.loop-place.invariant.climbs ∙ ap (λ k. record { levels = k; terms = c.loop-place.terms; place = 0 }) none)
