use Rattle.std.proofs.Common.{ap, ◌∙◌, sym, subst}
use Rattle.terms.specs.Codes.{term_of}
use Rattle.terms.specs.Models.{arities_of}
use Rattle.terms.proofs.Scans.{few_symbols}
use Rattle.resuming.specs.Climbing.{back_up}
use Rattle.resuming.specs.Laws.{NoneNew}
use Rattle.resuming.proofs.Passing.{climbs_enough}
use Rattle.resuming.proofs.climbing.back_up.Goals as goal

pub returns-clause-law : goal.returns-clause-law
returns-clause-law c cs p rules ok inside at fine =
    let sig = arities_of c.args.signature.now in
    subst (NoneNew rules (term_of sig cs) p) (sym (c.climb.ensures ∙ ap (back_up sig c.args.levels) at))
    (climbs_enough sig (few_symbols sig c.args.signature.now.limited) cs ok c.args.levels p rules fine inside)
