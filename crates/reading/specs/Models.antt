-- What the values of the reader stand for.
use Rattle.std.specs.Prelude.{◌≡◌, ℕ, Bool, cond, List, [], ◌∷◌, reverse, Some, None, Ok, Err, Option, Result, nat_lt}
use Rattle.tokens.specs.Tokens.{Word}
use Rattle.bounded.specs.Items.{items}
use Rattle.vocabulary.specs.declared.flaw.Flaw.{Flaw}
use Rattle.vocabulary.specs.declared.flaw.Flaw.TheVariants.{Misplaced}
use Rattle.vocabulary.specs.Vocabularies.{Vocabulary, code_of}
use Rattle.vocabulary.specs.Replies.{settle_reply, settled}
use Rattle.reading.specs.declared.state.Use.{Use}
use Rattle.reading.specs.declared.state.Await.TheVariants.{After}
use Rattle.reading.specs.Sides.{Role, Role.left, Role.right, Role.start, State, Reply, Reply.go, Reply.stop, admitted, use_symbol, use_variable, use_code, at_open, at_comma, step_with, step}
use Rattle.reading.specs.declared.role.Role as kept
use Rattle.reading.specs.declared.role.Role.TheVariants as roles
use Rattle.reading.specs.declared.side.Side.{Side}

abbrev pub role_of : kept.Role → Role
role_of roles.Left = left
role_of (roles.Right codes) = right (items codes)
role_of roles.Start = start

-- the innermost use is kept last
abbrev pub state_of : Side → State
state_of s = record { codes = items s.codes; uses = reverse (items s.uses); awaits = s.awaits }

-- an answer, with what is left behind
abbrev pub reply_of : Result (Unit {0}) Flaw → Vocabulary → State → Reply
reply_of (Ok x) v s = go v s
reply_of (Err f) v s = stop f

-- a code is admitted, whatever the vocabulary
abbrev pub Admits : Role → State → Bool → ℕ → Result (Unit {0}) Flaw → State → Type 0
Admits p s bare c r s1 = (v : Vocabulary) → reply_of r v s1 ≡ admitted p v s bare c

abbrev pub UsesVariable : Role → State → Bool → ℕ → Result (Unit {0}) Flaw → State → Type 0
UsesVariable p s bare c r s1 = (v : Vocabulary) → reply_of r v s1 ≡ use_variable p v s bare c

-- what comes behind a name, once it has a code
abbrev pub numbered_reply : Role → Vocabulary → State → Bool → Result ℕ Flaw → Reply
numbered_reply p w s bare (Ok c) = cond (nat_lt c 32768) (use_symbol p w s bare c) (use_variable p w s bare c)
numbered_reply p w s bare (Err f) = stop f

abbrev pub Numbers : Role → Vocabulary → State → List ℕ → Result ℕ Flaw → Vocabulary → Type 0
Numbers p v s n r w = (bare : Bool) → numbered_reply p w s bare r ≡ use_code p v s bare n (code_of v n)

-- the name stands for the code
abbrev pub Stands : Vocabulary → List ℕ → Result ℕ Flaw → Type 0
Stands w n (Ok c) = code_of w n ≡ Some c
Stands w n (Err f) = Unit {0}

-- brackets and commas, whatever the vocabulary
abbrev pub Opens : State → Result (Unit {0}) Flaw → State → Type 0
Opens s r s1 = (v : Vocabulary) → reply_of r v s1 ≡ at_open v s.codes s.uses

abbrev pub Continues : State → Result (Unit {0}) Flaw → State → Type 0
Continues s r s1 = (v : Vocabulary) → reply_of r v s1 ≡ at_comma v s.codes s.uses

-- a token, or the text's end, which comes too early
abbrev pub token_step : Role → Vocabulary → State → Option Word → Bool → Reply
token_step p v s (Some w) bare = step p v s w bare
token_step p v s None bare = stop Misplaced

-- a complete use of any symbol, also of one that the vocabulary lacks
abbrev pub close_use : Vocabulary → List ℕ → List Use → Reply
close_use v cs [] = stop Misplaced
close_use v cs (u ∷ us) = reply_of (settle_reply v u.symbol u.begun) (settled v u.symbol u.begun) (record { codes = cs; uses = us; awaits = After })

-- what a token does to any side under any vocabulary
abbrev pub side_step : Role → Vocabulary → State → Option Word → Bool → Reply
side_step p v s (Some w) bare = step_with (close_use v s.codes s.uses) p v s bare w s.awaits
side_step p v s None bare = stop Misplaced
