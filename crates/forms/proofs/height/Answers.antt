use Rattle.std.proofs.Common.{◌≡◌, length, ap, ◌∙◌, rules}
use Rattle.std.specs.Option.{option_map}
use Rattle.forms.proofs.Told.{told_height}
use Rattle.forms.proofs.height.Goals as goal

pub returns-clause-value : goal.returns-clause-value
returns-clause-value g c =
    let p = c.args.part.now in
    let r = g.P.Reckoning in
    let is : c.map.result ≡ option_map (λ v. r.entry v 0) c.evaluate.result = search rules in
    is ∙ ap (option_map (λ v. r.entry v 0)) c.evaluate.ensures.value
    ∙ told_height (r.columns p) r.entry (r.meaning p) (g.met.P.Reckoning.faithful p) (g.met.P.Reckoning.limited p) c.args.codes.now (length c.args.memory.now)
