-- How a text is read, token by token: a rule text, or a start term over the names of one.
use Rattle.std.specs.Prelude.{ℕ, Bool, true, false, cond, List, [], ◌∷◌, ◌++◌, length, is_some, codes as text, nat_le}
use Rattle.std.specs.Str.{bytes_eq}
use Rattle.tokens.specs.Tokens.{Word, Word.lpar, Word.rpar, Word.comma, Word.arrow, Word.named, Word.long, Word.illegal}
use Rattle.terms.specs.Limits.{variables, most_rules}
use Rattle.terms.specs.Shapes.{starts_with_symbol}
use Rattle.terms.specs.Models.{Sides}
use Rattle.vocabulary.specs.declared.flaw.Flaw.{Flaw}
use Rattle.vocabulary.specs.declared.flaw.Flaw.TheVariants.{Misplaced, LongName, TooMany, LeftVariable, DeclaredTwice}
use Rattle.vocabulary.specs.Vocabularies.{Vocabulary, code_of, empty, with_variable}
use Rattle.reading.specs.declared.state.Block.{Block}
use Rattle.reading.specs.declared.state.Block.TheVariants.{Variables, Rules}
use Rattle.reading.specs.Sides.{Role, Role.left, Role.right, Role.start, State, Reply, Reply.go, Reply.stop, is_open, step, fresh, is_whole}

-- what is awaited: a block's bracket, the word that names the block, a variable or a rule or the end of their block, the
-- arrow behind a left side, more of a term, or nothing more, behind a rule text or a start term
pub data Phase : Type 0 where
  bracket : Block → Phase
  keyword : Block → Phase
  variable : Phase
  rule : Phase
  arrow_behind : List ℕ → Phase
  inside : Role → State → Phase
  closed : Phase
  ended : List ℕ → Phase

-- a text as far as it is read: its names, its rules, and what is awaited
pub record Document : Type 0 where
  pub names : Vocabulary
  pub rules : List Sides
  pub phase : Phase

pub data Move : Type 0 where
  to : Document → Move
  flawed : Flaw → Move

abbrev pub document : Vocabulary → List Sides → Phase → Document
document v rs p = record { names = v; rules = rs; phase = p }

-- the word that names a block, and what is awaited behind it
abbrev pub word_for : Block → List ℕ
word_for Variables = text "VAR"
word_for Rules = text "RULES"

abbrev pub behind_keyword : Block → Phase
behind_keyword Variables = variable
behind_keyword Rules = rule

-- what a whole term is, and what is awaited behind it
abbrev pub behind : Role → Vocabulary → List Sides → List ℕ → Document
behind left v rs cs = document v rs (arrow_behind cs)
behind (right l) v rs cs = document v (rs ++ record { left = l; right = cs } ∷ []) rule
behind start v rs cs = document v rs (ended cs)

abbrev pub turned : Role → Vocabulary → List Sides → State → Document
turned p v rs s = cond (is_whole s) (behind p v rs s.codes) (document v rs (inside p s))

-- one token of a term
abbrev pub continued : Role → List Sides → Reply → Move
continued p rs (go v s) = to (turned p v rs s)
continued p rs (stop f) = flawed f

abbrev pub term_move : Vocabulary → List Sides → Role → State → Word → Bool → Move
term_move v rs p s w bare = continued p rs (step p v s w bare)

abbrev pub bracket_move : Vocabulary → List Sides → Block → Word → Move
bracket_move v rs k w = cond (is_open w) (to (document v rs (keyword k))) (flawed Misplaced)

abbrev pub keyword_move : Vocabulary → List Sides → Block → Word → Move
keyword_move v rs k lpar = flawed Misplaced
keyword_move v rs k rpar = flawed Misplaced
keyword_move v rs k comma = flawed Misplaced
keyword_move v rs k arrow = flawed Misplaced
keyword_move v rs k (named n) = cond (bytes_eq n (word_for k)) (to (document v rs (behind_keyword k))) (flawed Misplaced)
keyword_move v rs k long = flawed Misplaced
keyword_move v rs k illegal = flawed Misplaced

-- a ninth variable is one too many, whatever its name
abbrev pub declared_move : Vocabulary → List Sides → List ℕ → Move
declared_move v rs n = cond (nat_le variables (length v.variables)) (flawed TooMany) (cond (is_some (code_of v n)) (flawed DeclaredTwice) (to (document (with_variable v n) rs variable)))

abbrev pub variable_move : Vocabulary → List Sides → Word → Move
variable_move v rs lpar = flawed Misplaced
variable_move v rs rpar = to (document v rs (bracket Rules))
variable_move v rs comma = flawed Misplaced
variable_move v rs arrow = flawed Misplaced
variable_move v rs (named n) = declared_move v rs n
variable_move v rs long = flawed LongName
variable_move v rs illegal = flawed Misplaced

-- a 33rd rule is one too many at its first name
abbrev pub rule_move : Vocabulary → List Sides → Word → Bool → Move
rule_move v rs lpar bare = flawed Misplaced
rule_move v rs rpar bare = to (document v rs closed)
rule_move v rs comma bare = flawed Misplaced
rule_move v rs arrow bare = flawed Misplaced
rule_move v rs (named n) bare = cond (nat_le most_rules (length rs)) (flawed TooMany) (term_move v rs left fresh (named n) bare)
rule_move v rs long bare = flawed LongName
rule_move v rs illegal bare = flawed Misplaced

-- that a left side is a variable is certain at the arrow
abbrev pub arrow_move : Vocabulary → List Sides → List ℕ → Word → Move
arrow_move v rs l lpar = flawed Misplaced
arrow_move v rs l rpar = flawed Misplaced
arrow_move v rs l comma = flawed Misplaced
arrow_move v rs l arrow = cond (starts_with_symbol l) (to (document v rs (inside (right l) fresh))) (flawed LeftVariable)
arrow_move v rs l (named n) = flawed Misplaced
arrow_move v rs l long = flawed Misplaced
arrow_move v rs l illegal = flawed Misplaced

abbrev pub move_by : Vocabulary → List Sides → Phase → Word → Bool → Move
move_by v rs (bracket k) w bare = bracket_move v rs k w
move_by v rs (keyword k) w bare = keyword_move v rs k w
move_by v rs variable w bare = variable_move v rs w
move_by v rs rule w bare = rule_move v rs w bare
move_by v rs (arrow_behind l) w bare = arrow_move v rs l w
move_by v rs (inside p s) w bare = term_move v rs p s w bare
move_by v rs closed w bare = flawed Misplaced
move_by v rs (ended cs) w bare = flawed Misplaced

-- one token, where `bare` says that no bracket follows it
abbrev pub move : Document → Word → Bool → Move
move d w bare = move_by d.names d.rules d.phase w bare

-- whether a text may end here
abbrev pub may_end : Phase → Bool
may_end (bracket k) = false
may_end (keyword k) = false
may_end variable = false
may_end rule = false
may_end (arrow_behind l) = false
may_end (inside p s) = false
may_end closed = true
may_end (ended cs) = true

-- a rule text from its first token on, and a start term over names
abbrev pub rule_text : Document
rule_text = document empty [] (bracket Variables)

abbrev pub start_term : Vocabulary → Document
start_term v = document v [] (inside start fresh)
