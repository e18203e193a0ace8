-- What the calls answer.
use Rattle.std.specs.Prelude.{ℕ, ◌-◌, cond, List, length, slice_get, is_some, Some, None, Ok, Err, Option, Result, ◌==◌, nat_le, nat_lt}
use Rattle.terms.specs.Limits.{most_symbols, most_arguments, variables}
use Rattle.vocabulary.specs.declared.flaw.Flaw.{Flaw}
use Rattle.vocabulary.specs.declared.flaw.Flaw.TheVariants.{Misplaced, LongName, TooMany, Arguments, LeftVariable, AbsentVariable, TooLong, UnknownName, DeclaredTwice}
use Rattle.vocabulary.specs.Vocabularies.{Vocabulary, code_of, arity_of, with_symbol, with_arity}

-- each flaw's number
abbrev pub flaw_number : Flaw → ℕ
flaw_number Misplaced = 1
flaw_number LongName = 2
flaw_number TooMany = 3
flaw_number Arguments = 4
flaw_number LeftVariable = 5
flaw_number AbsentVariable = 6
flaw_number TooLong = 7
flaw_number UnknownName = 8
flaw_number DeclaredTwice = 9

-- the name that a code has
abbrev pub name_at : Vocabulary → ℕ → Option (List ℕ)
name_at v c = cond (nat_lt c 32768) (slice_get v.symbols c) (slice_get v.variables (c - 32768))

-- a ninth variable is one too many, whatever its name
abbrev pub declare_reply : Vocabulary → List ℕ → Result (Unit {0}) Flaw
declare_reply v n = cond (nat_le variables (length v.variables)) (Err TooMany) (cond (is_some (code_of v n)) (Err DeclaredTwice) (Ok tt))

-- what a name stands for, where a new name gets the next symbol number
abbrev pub number_by : Vocabulary → Option ℕ → Result ℕ Flaw
number_by v (Some c) = Ok c
number_by v None = cond (nat_le most_symbols (length v.symbols)) (Err TooMany) (Ok (length v.symbols))

abbrev pub number_reply : Vocabulary → List ℕ → Result ℕ Flaw
number_reply v n = number_by v (code_of v n)

abbrev pub numbered_by : Vocabulary → List ℕ → Option ℕ → Vocabulary
numbered_by v n (Some c) = v
numbered_by v n None = cond (nat_le most_symbols (length v.symbols)) v (with_symbol v n)

-- the vocabulary afterwards
abbrev pub numbered : Vocabulary → List ℕ → Vocabulary
numbered v n = numbered_by v n (code_of v n)

-- a complete use with k arguments fixes the arity, or has to agree with it
abbrev pub settle_by : ℕ → Option ℕ → Result (Unit {0}) Flaw
settle_by k None = cond (nat_le k most_arguments) (Ok tt) (Err Arguments)
settle_by k (Some a) = cond (k == a) (Ok tt) (Err Arguments)

abbrev pub settle_reply : Vocabulary → ℕ → ℕ → Result (Unit {0}) Flaw
settle_reply v f k = cond (nat_lt f (length v.symbols)) (settle_by k (arity_of v f)) (Err UnknownName)

abbrev pub settled_by : Vocabulary → ℕ → ℕ → Option ℕ → Vocabulary
settled_by v f k None = cond (nat_le k most_arguments) (with_arity v f k) v
settled_by v f k (Some a) = v

-- the vocabulary afterwards
abbrev pub settled : Vocabulary → ℕ → ℕ → Vocabulary
settled v f k = cond (nat_lt f (length v.symbols)) (settled_by v f k (arity_of v f)) v
