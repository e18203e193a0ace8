use Rattle.std.proofs.Common.{◌≡◌, ℕ, Bool, eqb, length, get_or, min, ap, ◌∙◌, arith, rules, tests}
use Rattle.std.proofs.lemmas.Iterator.{YieldsList-from_slice, YieldsList-from_take}
use Rattle.std.proofs.lemmas.Iterator.Search.{all_from_yields_List}
use Rattle.interpretations.specs.Numbers.{every}
use Rattle.interpretations.proofs.Tests.{list_all-take}
use Rattle.parts.proofs.linear.LinearSymbol.is_unit.Goals as goal

pub returns : goal.returns
returns c =
    let test : ℕ → Bool = λ factor. eqb factor 1 in
    let factors = c.args.self.now.factors in
    let long : length factors ≡ 4 = omega arith in
    all_from_yields_List test _ _ _ c.all.ensures.ran (YieldsList-from_take c.args.arity (YieldsList-from_slice factors (cc)) (cc)) (λ x b q k. search (rules, tests))
    ∙ list_all-take test 0 c.args.arity factors ∙ ap (λ n. every (min c.args.arity n) (λ k. test (get_or factors k 0))) long
