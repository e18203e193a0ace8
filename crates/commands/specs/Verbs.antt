-- The words that say what is asked.
use Rattle.std.specs.Prelude.{List, [], ◌∷◌, Option, codes}
use Rattle.std.specs.List.{find}
use Rattle.std.specs.Str.{bytes_eq}
use Rattle.commands.specs.declared.command.Opening.{Opening}
use Rattle.commands.specs.declared.command.Opening.TheVariants.{Full, Short}
use Rattle.commands.specs.declared.verb.Verb.{Verb}
use Rattle.commands.specs.declared.verb.Verb.TheVariants.{Measure, Compare, Ceiling, Pool, Reserve, Settle, Free, Open, Step, Sweep, Look, Copy, Term, Help}
use Rattle.commands.specs.Words.{Word}

abbrev pub verb_word : Verb → Word
verb_word Measure = codes "measure"
verb_word Compare = codes "compare"
verb_word Ceiling = codes "ceiling"
verb_word Pool = codes "pool"
verb_word Reserve = codes "reserve"
verb_word Settle = codes "settle"
verb_word Free = codes "free"
verb_word Open = codes "open"
verb_word Step = codes "step"
verb_word Sweep = codes "sweep"
verb_word Look = codes "look"
verb_word Copy = codes "copy"
verb_word Term = codes "term"
verb_word Help = codes "help"

abbrev pub verbs : List Verb
verbs =
    Measure ∷ Compare ∷ Ceiling ∷ Pool ∷ Reserve ∷ Settle ∷ Free ∷ Open ∷ Step ∷ Sweep ∷ Look ∷ Copy ∷ Term ∷ Help ∷ []

-- the verb that a word is
unfoldable pub verb_of : Word → Option Verb
verb_of w = find (λ v. bytes_eq (verb_word v) w) verbs

abbrev pub opening_word : Opening → Word
opening_word Full = codes "full"
opening_word Short = codes "short"

unfoldable pub opening_of : Word → Option Opening
opening_of w = find (λ o. bytes_eq (opening_word o) w) (Full ∷ Short ∷ [])
