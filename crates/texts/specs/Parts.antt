-- What the parts of a document of the code stand for.
use Rattle.std.specs.Prelude.{List, map}
use Rattle.bounded.specs.Items.{items}
use Rattle.terms.specs.Models.{Sides}
use Rattle.vocabulary.specs.Models.{vocabulary_of}
use Rattle.reading.specs.Documents.{Phase, Phase.bracket, Phase.keyword, Phase.variable, Phase.rule, Phase.arrow_behind, Phase.inside, Phase.closed, Phase.ended, Document, document}
use Rattle.reading.specs.declared.side.Side.{Side}
use Rattle.reading.specs.Models.{role_of, state_of}
use Rattle.texts.specs.declared.parts.RuleCodes.{RuleCodes}
use Rattle.texts.specs.declared.parts.Parts.{Parts}
use Rattle.texts.specs.declared.parts.Phase as held
use Rattle.texts.specs.declared.parts.Phase.TheVariants as phases

abbrev pub rule_of : RuleCodes → Sides
rule_of r = record { left = items r.left; right = items r.right }

abbrev pub rules_of : List RuleCodes → List Sides
rules_of rs = map rule_of rs

abbrev pub phase_of : held.Phase → Side → Phase
phase_of (phases.Bracket k) s = bracket k
phase_of (phases.Keyword k) s = keyword k
phase_of phases.Variable s = variable
phase_of phases.Rule s = rule
phase_of (phases.Arrow l) s = arrow_behind (items l)
phase_of (phases.Inside p) s = inside (role_of p) (state_of s)
phase_of phases.Closed s = closed
phase_of phases.Ended s = ended (items s.codes)

-- parts in a phase
abbrev pub with_phase : Parts → Phase → Document
with_phase d p = document (vocabulary_of d.vocabulary) (rules_of (items d.rules)) p
