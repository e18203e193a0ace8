use Rattle.std.proofs.Common.{inl, inr}
use Rattle.tokens.specs.Names.{name_bytes}
use Rattle.vocabulary.specs.Models.{vocabulary_of}
use Rattle.reading.specs.Models.{state_of}
use Rattle.reading.proofs.Naming.{side_numbers, number_stands}
use Rattle.reading.proofs.side.Side.number.Goals as goal

pub returns-in-Left-clause-value : goal.returns-in-Left-clause-value
returns-in-Left-clause-value c = side_numbers c.args.role.now (λ e. elim c.in-Left.is [ inl l ↦ cc | inr (x, r) ↦ cc ]) (vocabulary_of c.args.vocabulary.now) (state_of c.args.self.now) (name_bytes c.args.name.now) _ _ c.number.ensures.value c.number.ensures.after

pub returns-in-Left-clause-known : goal.returns-in-Left-clause-known
returns-in-Left-clause-known c = number_stands (vocabulary_of c.args.vocabulary.now) (name_bytes c.args.name.now) _ _ c.number.ensures.value c.number.ensures.after
