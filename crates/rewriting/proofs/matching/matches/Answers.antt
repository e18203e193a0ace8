use Rattle.std.proofs.Common.{Ok, rules}
use Rattle.terms.specs.Models.{arities_of}
use Rattle.terms.proofs.Scans.{few_symbols}
use Rattle.rewriting.proofs.Telling.{match_law}
use Rattle.rewriting.proofs.matching.matches.Goals as goal

pub returns-in_err-place-clause-means : goal.returns-in_err-place-clause-means
returns-in_err-place-clause-means c =
    let s = c.args.signature.now in
    match_law (arities_of s) (few_symbols (arities_of s) s.limited) c.args.codes.now c.args.place c.args.pattern.now c.from_residual.result (search rules)

pub returns-clause-means : goal.returns-clause-means
returns-clause-means c =
    let s = c.args.signature.now in
    match_law (arities_of s) (few_symbols (arities_of s) s.limited) c.args.codes.now c.args.place c.args.pattern.now (Ok c.is_some.result) (search rules)
