-- The refusals of texts.
use Rattle.std.specs.Prelude.{◌≡◌, Ok, Err, Result}
use Rattle.refusals.specs.declared.Refusal.{Refusal}
use Rattle.refusals.specs.declared.Layer.{Layer}
use Rattle.refusals.specs.declared.Layer.TheVariants as layers
use Rattle.vocabulary.specs.Replies.{flaw_number}
use Rattle.texts.specs.declared.fault.Source.{Source}
use Rattle.texts.specs.declared.fault.Source.TheVariants.{Rules, Term}
use Rattle.texts.specs.declared.fault.TextFault.{TextFault}

abbrev pub source_layer : Source → Layer
source_layer Rules = layers.Rules
source_layer Term = layers.Term

-- the flaw's number, the text's layer, and a byte offset
abbrev pub text_refusal : TextFault → Refusal
text_refusal f = record { number = flaw_number f.flaw; layer = source_layer f.source; place = f.at }

-- faults are in the text that was read
abbrev pub FaultsIn : {X : Type 0} → Source → Result X TextFault → Type 0
FaultsIn s (Ok x) = Unit {0}
FaultsIn s (Err e) = e.source ≡ s
