-- Lines and their words are one.
use Rattle.std.proofs.Common.{◌≡◌, ◌≢◌, ℕ, ◌<◌, Bool, true, false, cond, List, [], ◌∷◌, length, refl, sym, ap, ◌∙◌, get_or}
use Rattle.std.specs.List.{onto_first, All, AllByRecursion, join_with_byte}
use Rattle.std.proofs.lemmas.List.Elements.{All-nil, All-cons, All-from_recursion, recursion_from_All}
use Rattle.std.proofs.lemmas.List.Splits.{slice_split_none, slice_split_at, join_with_byte-slice_split}
use borrow.Author.Tests.{ne_eqb, eqb_apart}
use Rattle.commands.specs.Words.{Word, parts}
use Rattle.commands.specs.Laws.{IsWord, Written}
use Rattle.commands.proofs.Cuts.{blank}

abbrev Unbroken : List ℕ → Type 0
Unbroken w = All (λ b. b ≢ 32) w

abbrev pub NotEmpty : List ℕ → Type 0
NotEmpty w = 0 < length w

no_blank : (w : Word) → Unbroken w → All (λ b. blank b ≡ false) w
no_blank w h = λ k d below. ne_eqb (get_or w k d) 32 (h k d below)

parts_join : (w : Word) (ws : List Word) → AllByRecursion IsWord (w ∷ ws)
    → parts (join_with_byte 32 (w ∷ ws)) ≡ w ∷ ws
parts_join w [] h = slice_split_none blank w (no_blank w h.0.1)
parts_join w (v ∷ ws) h = slice_split_at blank w 32 (join_with_byte 32 (v ∷ ws)) (no_blank w h.0.1) refl ∙ ap (λ ps. w ∷ ps) (parts_join v ws h.1)

-- the parts of a line are the words that it is written with
pub parted : (line : List ℕ) (w : Word) (ws : List Word) → Written line (w ∷ ws) → parts line ≡ w ∷ ws
parted line w ws h = ap parts h.joined ∙ parts_join w ws (recursion_from_All IsWord (w ∷ ws) h.words)

onto : (x : ℕ) (ps : List Word) → x ≢ 32 → AllByRecursion Unbroken ps → AllByRecursion Unbroken (onto_first x ps)
onto x [] h a = (All-cons (λ b. b ≢ 32) x [] h (All-nil _), tt)
onto x (p ∷ ps) h a = (All-cons (λ b. b ≢ 32) x p h a.0, a.1)

stepped : (x : ℕ) (ps : List Word) (b : Bool) → blank x ≡ b → AllByRecursion Unbroken ps
    → AllByRecursion Unbroken (cond b ([] ∷ ps) (onto_first x ps))
stepped x ps true e a = (All-nil _, a)
stepped x ps false e a = onto x ps (eqb_apart x 32 e) a

unbroken : (line : List ℕ) → AllByRecursion Unbroken (parts line)
unbroken [] = (All-nil _, tt)
unbroken (x ∷ xs) = stepped x (parts xs) (blank x) refl (unbroken xs)

words : (ws : List Word) → AllByRecursion NotEmpty ws → AllByRecursion Unbroken ws → AllByRecursion IsWord ws
words [] n u = tt
words (w ∷ ws) n u = ((n.0, u.0), words ws n.1 u.1)

-- a line is written with its parts, where none is empty
pub written : (line : List ℕ) → AllByRecursion NotEmpty (parts line) → Written line (parts line)
written line n = record { words = All-from_recursion IsWord (parts line) (words (parts line) n (unbroken line)); joined = sym (join_with_byte-slice_split 32 line) }

pub full : (ws : List Word) → AllByRecursion IsWord ws → AllByRecursion NotEmpty ws
full [] h = tt
full (w ∷ ws) h = (h.0.0, full ws h.1)
