use Rattle.std.proofs.Common.{◌+◌, ap, ◌∙◌}
use Rattle.terms.proofs.Spans.{span_is}
use Rattle.rewriting.specs.Places.{arities_at}
use Rattle.rewriting.proofs.place.Place.end.Goals as goal

pub returns-clause-value : goal.returns-clause-value
returns-clause-value c =
    let p = c.args.self.now in
    ap (λ n. p.at + n) (c.span.ensures.value ∙ span_is (arities_at p) p.codes.now p.term p.at p.inside)
