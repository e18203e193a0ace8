-- Behind a token a document holds what it held before it.
use Rattle.std.proofs.Common.{◌≡◌, Bool, false, Some, None, Ok, Err, Option, Result, is_err, sym}
use Rattle.bounded.specs.Items.{items}
use Rattle.tokens.specs.Tokens.{Word}
use Rattle.vocabulary.specs.declared.flaw.Flaw.{Flaw}
use Rattle.vocabulary.specs.Models.{vocabulary_of}
use Rattle.vocabulary.proofs.Calls.{consistent}
use Rattle.reading.specs.Documents.{Document, Move.to}
use Rattle.reading.specs.Holding.{Held, Holds}
use Rattle.reading.proofs.Held.{held_on}
use Rattle.texts.specs.declared.document.Document as kept
use Rattle.texts.specs.declared.parts.Parts.{Parts}
use Rattle.texts.specs.declared.parts.Phase as held
use Rattle.texts.specs.Parts.{rules_of, phase_of}
use Rattle.texts.specs.Documents.{document_of, goes_on, token_move}

holds_on : (d d1 : Document) (o : Option Word) (b : Bool) → Holds d → to d1 ≡ token_move d o b → Holds d1
holds_on d d1 None b h e = cc
holds_on d d1 (Some w) b h e = held_on d d1 w b h (sym e)

pub held_behind : (d : kept.Document) (o : Option Word) (b : Bool) (r : Result (Unit {0}) Flaw) → is_err r ≡ false → (after : Parts) (q : held.Phase) → goes_on r q after ≡ token_move (document_of d) o b
    → Held (vocabulary_of after.vocabulary) (rules_of (items after.rules)) (phase_of q after.side)
held_behind d o b (Ok x) f after q e =
    let before : Holds (document_of d) = record { even = (consistent d.parts.vocabulary).even; held = d.held } in
    (holds_on _ _ o b before e).held
held_behind d o b (Err g) f after q e = cc
