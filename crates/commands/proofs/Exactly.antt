-- What the table reads of a line is exactly what the line says.
use Rattle.std.proofs.Common.{◌≡◌, List, [], ◌∷◌, Some, None, Option, ℕ, ap, ◌∙◌, refl, sym}
use Rattle.std.proofs.lemmas.List.Elements.{recursion_from_All}
use Rattle.commands.specs.Words.{Word, parts, first}
use Rattle.commands.specs.Verbs.{verb_of}
use Rattle.commands.specs.Requests.{Request}
use Rattle.commands.specs.Table.{then, behind, command_of}
use Rattle.commands.specs.Laws.{IsWord, Written, Spells, Says, CommandExactly}
use Rattle.commands.proofs.Lines.{parted, written, full}
use Rattle.commands.proofs.Tells.{spelled_all}
use Rattle.commands.proofs.Finds.{read}

told : (line : List ℕ) (r : Request) → command_of line ≡ Some r → Says line r
told line r e = let b = spelled_all (parts line) r e in (parts line, written line b.full, b.spells)

silent : (r : Request) → Spells r [] → ⊥
silent r s = elim s [ ]

words_found : (line : List ℕ) (r : Request) (ws : List Word) → Written line ws → Spells r ws
    → command_of line ≡ Some r
words_found line r [] w s = absurd (silent r s)
words_found line r (w ∷ ws) h s = ap (λ ps. then (first verb_of ps) behind) (parted line w ws h) ∙ read r (w ∷ ws) s (full (w ∷ ws) (recursion_from_All IsWord (w ∷ ws) h.words))

found : (line : List ℕ) (r : Request) → Says line r → command_of line ≡ Some r
found line r (ws, h, s) = words_found line r ws h s

none_said : (line : List ℕ) → command_of line ≡ None → (r : Request) → Says line r → ⊥
none_said line e r s = let h = found line r s in let both : None ≡ Some r = sym e ∙ h in cc

said_none : (line : List ℕ) (o : Option Request) → command_of line ≡ o → ((r : Request) → Says line r → ⊥) → o ≡ None
said_none line None e never = refl
said_none line (Some r) e never = absurd (never r (told line r e))

pub exactly : (line : List ℕ) (read : Option Request) → read ≡ command_of line → CommandExactly line read
exactly line read e = record {
  said = λ r. ((λ h. told line r (sym e ∙ h)), (λ s. e ∙ found line r s));
  unsaid = ((λ h. none_said line (sym e ∙ h)), (λ never. said_none line read (sym e) never));
}
