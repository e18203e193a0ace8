-- What a document of the code stands for, and what a token does to it.
use Rattle.std.specs.Prelude.{◌≡◌, Bool, true, false, Some, None, Ok, Err, Option, Result}
use Rattle.bounded.specs.Items.{items}
use Rattle.tokens.specs.Tokens.{Word}
use Rattle.vocabulary.specs.declared.flaw.Flaw.{Flaw}
use Rattle.vocabulary.specs.declared.flaw.Flaw.TheVariants.{Misplaced}
use Rattle.vocabulary.specs.Models.{vocabulary_of}
use Rattle.reading.specs.Sides.{Role}
use Rattle.reading.specs.Models.{state_of}
use Rattle.reading.specs.Documents.{Phase, Phase.inside, Document, Move, Move.to, Move.flawed, move, behind}
use Rattle.texts.specs.declared.parts.Parts.{Parts}
use Rattle.texts.specs.declared.document.Document as kept
use Rattle.texts.specs.declared.parts.Phase as held
use Rattle.texts.specs.Parts.{rules_of, phase_of, with_phase}

abbrev pub document_of : kept.Document → Document
document_of d = with_phase d.parts (phase_of d.phase d.parts.side)

-- an answer, with what is left behind
abbrev pub moved : Result (Unit {0}) Flaw → Document → Move
moved (Ok x) d = to d
moved (Err f) d = flawed f

-- an answer, with what is awaited next and the parts that are left behind
abbrev pub goes_on : Result (Unit {0}) Flaw → held.Phase → Parts → Move
goes_on r p d = moved r (with_phase d (phase_of p d.side))

-- an answer on a term, whether it is whole, with the parts that are left behind
abbrev pub continues : Role → Result Bool Flaw → Parts → Move
continues p (Ok true) d = to (behind p (vocabulary_of d.vocabulary) (rules_of (items d.rules)) (state_of d.side).codes)
continues p (Ok false) d = to (with_phase d (inside p (state_of d.side)))
continues p (Err f) d = flawed f

-- a token, or the text's end, which comes too early
abbrev pub token_move : Document → Option Word → Bool → Move
token_move d (Some w) bare = move d w bare
token_move d None bare = flawed Misplaced

-- an answer and what is awaited next, whatever was said before
abbrev pub Follows : Result (Unit {0}) Flaw → held.Phase → Phase → Option Word → Type 0
Follows r q p w = (d : Parts) → goes_on r q d ≡ token_move (with_phase d p) w true
