use Rattle.std.proofs.Common.{T, ◌∙◌, sym, subst, rules, tests}
use Rattle.std.proofs.lemmas.Iterator.{YieldsList-from_slice}
use Rattle.std.proofs.lemmas.Iterator.Adapters.{serves_from_places}
use Rattle.std.proofs.lemmas.Iterator.Search.{position_from_yields_List}
use Rattle.terms.specs.Codes.{is_term, term_of}
use Rattle.terms.specs.Models.{sides_of}
use Rattle.rewriting.specs.Matching.{matches}
use Rattle.rewriting.specs.Places.{arities_at, subterm}
use Rattle.rewriting.proofs.Systems.{left_term, position_of_kept}
use Rattle.rewriting.proofs.place.Place.lowest_rule.Goals as goal

pub position-requires-clause-callable : goal.position-requires-clause-callable
position-requires-clause-callable c =
    let p = c.args.self.now in
    let rs = c.args.rules.now in
    serves_from_places (YieldsList-from_slice rs (cc)) (λ x q r. search rules)
    (λ x k below at _ _ _ _ left _. subst (λ l. T (is_term (arities_at p) l)) (sym left.ensures) (left_term p rs k x.now c.requires below at))

pub returns : goal.returns
returns c =
    let p = c.args.self.now in
    position_from_yields_List (λ r. matches (term_of (arities_at p) (sides_of r).left) (subterm p)) _ _ _ c.position.ensures.ran (YieldsList-from_slice c.args.rules.now (cc)) (λ x b q k. search (rules, tests))
    ∙ position_of_kept (arities_at p) (λ r. matches r.left (subterm p)) c.args.rules.now
