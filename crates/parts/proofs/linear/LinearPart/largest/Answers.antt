use Rattle.std.proofs.Common.{ℕ, [], length, sym, unwrap_or, ap, ◌∙◌, arith, rules}
use Rattle.std.proofs.lemmas.Iterator.{YieldsList-from_map, YieldsList-from_slice, YieldsList-from_take}
use Rattle.std.proofs.lemmas.Iterator.Adapters.{option_map_id}
use Rattle.std.proofs.lemmas.Iterator.Consumers.{max_from_yields_List}
use Rattle.terms.specs.Models.{arities_of}
use Rattle.interpretations.proofs.Tests.{largest-reduce}
use Rattle.parts.specs.declared.linear.LinearSymbol.{LinearSymbol}
use Rattle.parts.specs.MakingLemmas.{few}
use Rattle.parts.proofs.linear.LinearPart.largest.Goals as goal

pub returns : goal.returns
returns c =
    let s = c.args.self.now.signature in
    let symbols = c.args.self.now.symbols in
    let constant : LinearSymbol → ℕ = λ symbol. symbol.constant in
    let n = length (arities_of s) in
    c.unwrap_or.ensures
    ∙ ap (λ o. unwrap_or o 0) (sym (option_map_id _) ∙ max_from_yields_List _ _ c.max.ensures.ran (YieldsList-from_map _ constant (YieldsList-from_take n (YieldsList-from_slice symbols (cc)) (cc)) (cc) (λ x r q k. search rules)))
    ∙ largest-reduce constant record { constant = 0; factors = [] } n symbols (omega (arith, few s))
