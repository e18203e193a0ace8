use Rattle.std.proofs.Common.{sym, refl, ◌∙◌, arith}
use Rattle.terms.proofs.Booleans.{held}
use Rattle.parts.specs.MakingLemmas.{linear_positive, monotone_from, not_monotone}
use Rattle.parts.proofs.linear.LinearPart.new.Goals as goal

pub returns-then-not-all_symbols-clause-made : goal.returns-then-not-all_symbols-clause-made
returns-then-not-all_symbols-clause-made c =
    let told = linear_positive c.args.signature c.args.symbols c.all_symbols.result (omega arith) c.all_symbols.ensures in
    λ m d. not_monotone _ (sym c.if-not-all_symbols.true ∙ told) m

pub invariant_of-result : goal.invariant_of-result
invariant_of-result c =
    let told = linear_positive c.args.signature c.args.symbols c.all_symbols.result (omega arith) c.all_symbols.ensures in
    record { tops = held _ (sym told ∙ c.if-not-all_symbols.false) }

pub returns-clause-made : goal.returns-clause-made
returns-clause-made c =
    let told = linear_positive c.args.signature c.args.symbols c.all_symbols.result (omega arith) c.all_symbols.ensures in
    (refl, monotone_from _ (omega arith) (held _ (sym told ∙ c.if-not-all_symbols.false)), omega arith)
