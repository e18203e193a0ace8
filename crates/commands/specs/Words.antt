-- A line as words, and how the first of some words is read.
use Rattle.std.specs.Prelude.{ℕ, ◌==◌, List, [], ◌∷◌, None, Option, option_map}
use Rattle.std.specs.Option.{option_map_or}
use Rattle.std.specs.List.{slice_split}
use Rattle.commands.specs.declared.words.Words.{Words}

abbrev pub Word : Type 0
Word = List ℕ

-- what stands before, between and behind a line's blanks
abbrev pub parts : List ℕ → List Word
parts line = slice_split (λ b. b == 32) line

-- the words that are left
abbrev pub left : Words → List Word
left ws = option_map_or (λ line. parts line.now) ws.rest []

-- what was read, with the words behind it
abbrev pub passed : {A : Type 0} → Option A → List Word → Option (A × List Word)
passed read ws = option_map (λ a. (a, ws)) read

-- the first word as it is read
abbrev pub first : {A : Type 0} → (Word → Option A) → List Word → Option (A × List Word)
first read [] = None
first read (w ∷ ws) = passed (read w) ws
