use Rattle.std.proofs.Common.{◌∙◌, sym, rules, tests}
use Rattle.std.proofs.lemmas.Iterator.{YieldsList-from_slice}
use Rattle.std.proofs.lemmas.Iterator.Search.{all_from_yields_List}
use Rattle.std.proofs.lemmas.List.Folds.{list_all-map}
use Rattle.terms.specs.Models.{arities_of, sides_of}
use Rattle.terms.specs.Shapes.{is_rule}
use Rattle.terms.proofs.system.calls.are_rules.Goals as goal

pub returns : goal.returns
returns c =
    let sig = arities_of c.args.signature.now in
    all_from_yields_List (λ r. is_rule sig (sides_of r).left (sides_of r).right) _ _ _ c.all.ensures.ran (YieldsList-from_slice c.args.rules.now (cc)) (λ x b q k. search (rules, tests))
    ∙ sym (list_all-map (λ s. is_rule sig s.left s.right) sides_of c.args.rules.now)
