use Rattle.std.proofs.Common.{◌≡◌, ap, ◌∙◌, rules}
use Rattle.std.specs.List.{list_all}
use Rattle.forms.specs.Columns.{spread}
use Rattle.forms.proofs.Filled.{filled_by}
use Rattle.forms.proofs.Made.{spread_within}
use Rattle.forms.proofs.readers.FormsInterpretation.variable.Goals as goal

pub returns : goal.returns
unfolding spread
returns g c =
    let part = c.args.self.now.part.now in
    let m = g.P.Reckoning.columns part in
    let is : c.from_fn.result ≡ spread (m.unit c.args.number) = filled_by (m.unit c.args.number) m.zero c.from_fn.ensures.items (λ i y q call. search rules) in
    record { value = is; tested = ap (list_all m.within) is ∙ spread_within m.within (m.unit c.args.number) (λ k h. g.met.P.Reckoning.units part c.args.number k) }
