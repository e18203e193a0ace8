-- How a term is read, token by token: as a rule's left or right side, where names are still being numbered, or as a
-- start term over the names of a text.
use Rattle.std.specs.Prelude.{◌≡◌, ℕ, ◌+◌, Bool, true, false, cond, not, List, [], ◌∷◌, ◌++◌, length, Some, None, Option, ◌==◌, nat_le, nat_lt}
use Rattle.tokens.specs.Tokens.{Word, Word.lpar, Word.rpar, Word.comma, Word.arrow, Word.named, Word.long, Word.illegal}
use Rattle.terms.specs.Limits.{most_symbols, most_arguments, most_side, most_term}
use Rattle.terms.specs.Shapes.{has}
use Rattle.vocabulary.specs.declared.flaw.Flaw.{Flaw}
use Rattle.vocabulary.specs.declared.flaw.Flaw.TheVariants.{Misplaced, LongName, TooMany, Arguments, AbsentVariable, TooLong, UnknownName}
use Rattle.reading.specs.declared.state.Use.{Use}
use Rattle.reading.specs.declared.state.Await.{Await}
use Rattle.reading.specs.declared.state.Await.TheVariants.{Term, Bracket, NoBracket, After}
use Rattle.vocabulary.specs.Vocabularies.{Vocabulary, code_of, arity_of, with_symbol, with_arity}

-- which term is read: on the left every variable may stand, on the right those of the left, and a start term adds no name
pub data Role : Type 0 where
  left : Role
  right : List ℕ → Role
  start : Role

abbrev pub limit : Role → ℕ
limit left = most_side
limit (right ls) = most_side
limit start = most_term

-- the codes so far, the uses whose last token is still to come, innermost first, and what comes next
pub record State : Type 0 where
  pub codes : List ℕ
  pub uses : List Use
  pub awaits : Await

pub data Reply : Type 0 where
  go : Vocabulary → State → Reply
  stop : Flaw → Reply

abbrev pub is_open : Word → Bool
is_open lpar = true
is_open rpar = false
is_open comma = false
is_open arrow = false
is_open (named n) = false
is_open long = false
is_open illegal = false

-- one more code, and what is awaited behind it: a use is complete at once if no bracket follows
abbrev pub pushed : State → ℕ → Await → State
pushed s c w = record { codes = s.codes ++ c ∷ []; uses = s.uses; awaits = w }

abbrev pub opened : State → ℕ → State
opened s c = record { codes = s.codes ++ c ∷ []; uses = record { symbol = c; begun = 0 } ∷ s.uses; awaits = Bracket }

abbrev pub entered : State → Bool → ℕ → State
entered s bare c = cond bare (pushed s c After) (cond (nat_lt c 32768) (opened s c) (pushed s c NoBracket))

abbrev pub is_full : Role → State → Bool
is_full p s = nat_le (limit p) (length s.codes)

abbrev pub admitted : Role → Vocabulary → State → Bool → ℕ → Reply
admitted p v s bare c = cond (is_full p s) (stop TooLong) (go v (entered s bare c))

-- a use that is complete with k arguments fixes the arity, or has to agree with it
abbrev pub settled : Vocabulary → ℕ → ℕ → Option ℕ → (Vocabulary → Reply) → Reply
settled v f k None on = on (with_arity v f k)
settled v f k (Some a) on = cond (k == a) (on v) (stop Arguments)

abbrev pub use_symbol : Role → Vocabulary → State → Bool → ℕ → Reply
use_symbol p v s bare c = cond bare (settled v c 0 (arity_of v c) (λ w. admitted p w s true c)) (admitted p v s false c)

-- whether a variable may not stand here
abbrev pub is_absent : Role → ℕ → Bool
is_absent left c = false
is_absent (right ls) c = not (has ls c)
is_absent start c = false

abbrev pub use_variable : Role → Vocabulary → State → Bool → ℕ → Reply
use_variable p v s bare c = cond (is_absent p c) (stop AbsentVariable) (admitted p v s bare c)

-- a name that stands for nothing yet
abbrev pub use_new : Role → Vocabulary → State → Bool → List ℕ → Reply
use_new left v s bare n = cond (nat_le most_symbols (length v.symbols)) (stop TooMany) (use_symbol left (with_symbol v n) s bare (length v.symbols))
use_new (right ls) v s bare n = cond (nat_le most_symbols (length v.symbols)) (stop TooMany) (use_symbol (right ls) (with_symbol v n) s bare (length v.symbols))
use_new start v s bare n = stop (cond (is_full start s) TooLong UnknownName)

abbrev pub use_code : Role → Vocabulary → State → Bool → List ℕ → Option ℕ → Reply
use_code p v s bare n None = use_new p v s bare n
use_code p v s bare n (Some c) = cond (nat_lt c 32768) (use_symbol p v s bare c) (use_variable p v s bare c)

abbrev pub at_term : Role → Vocabulary → State → Bool → Word → Reply
at_term p v s bare lpar = stop Misplaced
at_term p v s bare rpar = stop Misplaced
at_term p v s bare comma = stop Misplaced
at_term p v s bare arrow = stop Misplaced
at_term p v s bare (named n) = use_code p v s bare n (code_of v n)
at_term p v s bare long = stop LongName
at_term p v s bare illegal = stop Misplaced

abbrev pub at_open : Vocabulary → List ℕ → List Use → Reply
at_open v cs [] = stop Misplaced
at_open v cs (u ∷ us) = go v (record { codes = cs; uses = record { symbol = u.symbol; begun = 1 } ∷ us; awaits = Term })

-- no use has a fifth argument
abbrev pub at_comma : Vocabulary → List ℕ → List Use → Reply
at_comma v cs [] = stop Misplaced
at_comma v cs (u ∷ us) = cond (nat_lt u.begun most_arguments) (go v (record { codes = cs; uses = record { symbol = u.symbol; begun = u.begun + 1 } ∷ us; awaits = Term })) (stop Arguments)

abbrev pub at_close : Vocabulary → List ℕ → List Use → Reply
at_close v cs [] = stop Misplaced
at_close v cs (u ∷ us) = settled v u.symbol u.begun (arity_of v u.symbol) (λ w. go w (record { codes = cs; uses = us; awaits = After }))

-- behind a whole term, where `close` is what a closing bracket comes to
abbrev pub at_after_with : Reply → Vocabulary → List ℕ → List Use → Word → Reply
at_after_with close v cs us lpar = stop Misplaced
at_after_with close v cs us rpar = close
at_after_with close v cs us comma = at_comma v cs us
at_after_with close v cs us arrow = stop Misplaced
at_after_with close v cs us (named n) = stop Misplaced
at_after_with close v cs us long = stop Misplaced
at_after_with close v cs us illegal = stop Misplaced

-- where a use closes as it says
abbrev pub at_after : Vocabulary → List ℕ → List Use → Word → Reply
at_after v cs us w = at_after_with (at_close v cs us) v cs us w

abbrev pub step_with : Reply → Role → Vocabulary → State → Bool → Word → Await → Reply
step_with close p v s bare w Term = at_term p v s bare w
step_with close p v s bare w Bracket = cond (is_open w) (at_open v s.codes s.uses) (stop Misplaced)
step_with close p v s bare w NoBracket = stop Arguments
step_with close p v s bare w After = at_after_with close v s.codes s.uses w

-- whatever is awaited, where a use closes as it says
abbrev pub step_by : Role → Vocabulary → State → Bool → Word → Await → Reply
step_by p v s bare w a = step_with (at_close v s.codes s.uses) p v s bare w a

-- one token, where `bare` says that no bracket follows it
abbrev pub step : Role → Vocabulary → State → Word → Bool → Reply
step p v s w bare = step_by p v s bare w s.awaits

-- nothing is read yet
abbrev pub fresh : State
fresh = record { codes = []; uses = []; awaits = Term }

-- whether the term is complete
abbrev pub whole : List Use → Await → Bool
whole [] Term = false
whole [] Bracket = false
whole [] NoBracket = false
whole [] After = true
whole (u ∷ us) w = false

abbrev pub is_whole : State → Bool
is_whole s = whole s.uses s.awaits

-- words with a flag each: whether no bracket follows
pub record Flagged : Type 0 where
  pub word : Word
  pub bare : Bool

-- reading words from one state comes to another
pub data Reads (p : Role) : Vocabulary → State → List Flagged → Vocabulary → State → Type 0 where
  ended : {v : Vocabulary} {s : State} → Reads p v s [] v s
  next : {v v1 v2 : Vocabulary} {s s1 s2 : State} (f : Flagged) {fs : List Flagged} → step p v s f.word f.bare ≡ go v1 s1 → Reads p v1 s1 fs v2 s2 → Reads p v s (f ∷ fs) v2 s2
