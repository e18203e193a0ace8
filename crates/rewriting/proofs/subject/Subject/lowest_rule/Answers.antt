use Rattle.std.proofs.Common.{ap, ◌∙◌}
use Rattle.terms.specs.Codes.{sub_at}
use Rattle.terms.specs.Models.{all_sides}
use Rattle.terms.specs.Systems.{rules_from}
use Rattle.rewriting.specs.Searching.{lowest_rule as lowest_rule_of}
use Rattle.rewriting.proofs.subject.Subject.lowest_rule.Goals as goal

pub returns : goal.returns
returns c =
    rw (c.signature.ensures, c.rules.ensures, c.codes.ensures) at
    (c.lowest_rule.ensures ∙ ap (λ s. lowest_rule_of (rules_from s.arities (all_sides c.rules.result.now)) (sub_at s.arities s.codes s.at)) c.in_ok-place.ensures.1)
