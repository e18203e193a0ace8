use Rattle.std.proofs.Common.{length, ap, rules}
use Rattle.rewriting.specs.Subjects.{arities_in, rules_in, codes_in}
use Rattle.rewriting.proofs.Looks.{sought, sought_value, sought_means}
use Rattle.rewriting.proofs.Systems.{few_in, rules_fine}
use Rattle.rewriting.proofs.subject.Subject.first_redex.Goals as goal

pub returns : goal.returns
returns c =
    let s = c.args.self.now in
    let found = sought _ _ (arities_in s) (rules_in s) (codes_in s) (λ k o q h. search rules) _ (ap length c.codes.ensures) c.find_map.result c.find_map.ensures.runs in
    record { value = sought_value (arities_in s) (rules_in s) (codes_in s) c.find_map.result found; means = sought_means (arities_in s) (few_in s.system) (rules_in s) (rules_fine s.system) (codes_in s) s.over c.find_map.result found }
