-- What holds of a text while it is read.
use Rattle.std.specs.Prelude.{◌≡◌, ◌<◌, ◌≤◌, List, length}
use Rattle.std.specs.Coded.{×_prop, Unit-prop, le_prop}
use Rattle.std.proofs.Props.{props}
use Rattle.terms.specs.Limits.{most_side, most_rules}
use Rattle.terms.specs.Models.{Sides}
use Rattle.vocabulary.specs.Vocabularies.{Vocabulary}
use Rattle.reading.specs.Sides.{Role, Role.left, Role.right, Role.start, limit}
use Rattle.reading.specs.Fits.{Fit, Fit-prop}
use Rattle.reading.specs.Documents.{Phase, Phase.bracket, Phase.keyword, Phase.variable, Phase.rule, Phase.arrow_behind, Phase.inside, Phase.closed, Phase.ended, Document}

-- there is room for the rule whose side is read
abbrev pub Room : List Sides → Role → Type 0
Room rs left = length rs < most_rules
Room rs (right l) = length rs < most_rules
Room rs start = Unit {0}

-- the pending uses are of symbols that there are, and no side is too long
abbrev pub Held : Vocabulary → List Sides → Phase → Type 0
Held v rs (bracket k) = Unit {0}
Held v rs (keyword k) = Unit {0}
Held v rs variable = Unit {0}
Held v rs rule = Unit {0}
Held v rs (arrow_behind l) = (length l ≤ most_side) × (length rs < most_rules)
Held v rs (inside p s) = Fit v s.uses × (length s.codes ≤ limit p) × Room rs p
Held v rs closed = Unit {0}
Held v rs (ended cs) = Unit {0}

pub record Holds (d : Document) : Type 0 where
  pub even : length d.names.arities ≡ length d.names.symbols
  pub held : Held d.names d.rules d.phase

-- it holds in one way, so that a type can keep it
Room-prop : (rs : List Sides) (p : Role) → IsProp (Room rs p)
Room-prop rs left = le_prop
Room-prop rs (right l) = le_prop
Room-prop rs start = Unit-prop

pub Held-prop : (v : Vocabulary) (rs : List Sides) (p : Phase) → IsProp (Held v rs p)
Held-prop v rs (bracket k) = Unit-prop
Held-prop v rs (keyword k) = Unit-prop
Held-prop v rs variable = Unit-prop
Held-prop v rs rule = Unit-prop
Held-prop v rs (arrow_behind l) = ×_prop le_prop le_prop
Held-prop v rs (inside p s) = hlevel (props, Fit-prop v s.uses, Room-prop rs p)
Held-prop v rs closed = Unit-prop
Held-prop v rs (ended cs) = Unit-prop
