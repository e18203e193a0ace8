-- What a vocabulary says, in the words of names.
use Rattle.std.specs.Prelude.{◌≡◌, ℕ, ◌+◌, ◌<◌, List, [], length, Some, Option, slice_index_or}
use Rattle.vocabulary.specs.Vocabularies.{Vocabulary, code_of, arity_of}

-- the names that a code has
pub data Names (v : Vocabulary) (n : List ℕ) : ℕ → Type 0 where
  variable : (x : ℕ) → x < length v.variables → slice_index_or v.variables x [] ≡ n → Names v n (32768 + x)
  symbol : (f : ℕ) → f < length v.symbols → slice_index_or v.symbols f [] ≡ n → Names v n f

-- the answer is a code exactly if that code has this name
abbrev pub CodeExactly : Vocabulary → List ℕ → Option ℕ → Type 0
CodeExactly v n r = (c : ℕ) → (r ≡ Some c → Names v n c) × (Names v n c → r ≡ Some c)

-- the answer is a name exactly if the code has it
abbrev pub NameExactly : Vocabulary → ℕ → Option (List ℕ) → Type 0
NameExactly v c r = (n : List ℕ) → (r ≡ Some n → Names v n c) × (Names v n c → r ≡ Some n)

-- names keep their codes, and symbols the arities that are fixed
pub record Keeps (v w : Vocabulary) : Type 0 where
  pub codes : (n : List ℕ) (c : ℕ) → code_of v n ≡ Some c → code_of w n ≡ Some c
  pub arities : (f a : ℕ) → arity_of v f ≡ Some a → arity_of w f ≡ Some a
