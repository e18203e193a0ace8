-- A vocabulary: the names of symbols and variables, by number, and the arities that are fixed so far.
use Rattle.std.specs.Prelude.{◌≡◌, ℕ, suc, ◌+◌, Bool, true, false, cond, ◌&&◌, T, List, [], ◌∷◌, ◌++◌, map, length, Some, None, Option, ◌==◌, nat_le, slice_index_or, slice_set}
use Rattle.std.specs.Str.{bytes_eq}
use Rattle.std.specs.Option.{option_map}
use Rattle.tokens.specs.declared.name.Name.{Name}
use Rattle.tokens.specs.Names.{name_bytes}
use Rattle.vocabulary.specs.declared.symbol.Symbol.{Symbol}
use Rattle.terms.specs.Limits.{most_arguments}

-- names by their bytes
abbrev pub names : List Name → List (List ℕ)
names = map name_bytes

abbrev pub symbol_names : List Symbol → List Name
symbol_names = map (λ (s : Symbol). s.name)

abbrev pub symbol_arities : List Symbol → List (Option ℕ)
symbol_arities = map (λ (s : Symbol). s.arity)

pub record Vocabulary : Type 0 where
  pub symbols : List (List ℕ)
  pub arities : List (Option ℕ)
  pub variables : List (List ℕ)

abbrev pub vocabulary : List Symbol → List Name → Vocabulary
vocabulary ss ns = record { symbols = names (symbol_names ss); arities = symbol_arities ss; variables = names ns }

-- the number of the first name that equals n, counted from k
abbrev pub found : ℕ → List (List ℕ) → List ℕ → Option ℕ
found k [] n = None
found k (x ∷ xs) n = cond (bytes_eq x n) (Some k) (found (suc k) xs n)

-- a declared name is always the variable
abbrev pub var_or : Option ℕ → Option ℕ → Option ℕ
var_or (Some v) o = Some (32768 + v)
var_or None o = o

-- the code that a name stands for
abbrev pub code_of : Vocabulary → List ℕ → Option ℕ
code_of v n = var_or (found 0 v.variables n) (found 0 v.symbols n)

abbrev pub arity_of : Vocabulary → ℕ → Option ℕ
arity_of v f = slice_index_or v.arities f None

-- one more symbol, whose arity no use has fixed yet
abbrev pub with_symbol : Vocabulary → List ℕ → Vocabulary
with_symbol v n = record { symbols = v.symbols ++ n ∷ []; arities = v.arities ++ None ∷ []; variables = v.variables }

abbrev pub with_arity : Vocabulary → ℕ → ℕ → Vocabulary
with_arity v f k = record { symbols = v.symbols; arities = slice_set v.arities f (Some k); variables = v.variables }

abbrev pub empty : Vocabulary
empty = record { symbols = []; arities = []; variables = [] }

-- one more variable
abbrev pub with_variable : Vocabulary → List ℕ → Vocabulary
with_variable v n = record { symbols = v.symbols; arities = v.arities; variables = v.variables ++ n ∷ [] }

-- whether an answer is this number
abbrev pub is_number : Option ℕ → ℕ → Bool
is_number None k = false
is_number (Some a) k = k == a

-- whether the names stand for k and the numbers after it
abbrev pub all_coded : Vocabulary → ℕ → List (List ℕ) → Bool
all_coded v k [] = true
all_coded v k (n ∷ ns) = is_number (code_of v n) k && all_coded v (suc k) ns

-- whether no arity that is fixed is above 4
abbrev pub all_small : List (Option ℕ) → Bool
all_small [] = true
all_small (None ∷ xs) = all_small xs
all_small (Some k ∷ xs) = nat_le k most_arguments && all_small xs

-- as many arities as symbols, none too large, and no two names the same: each is the name of one number
pub record Consistent (v : Vocabulary) : Type 0 where
  pub even : length v.arities ≡ length v.symbols
  pub small : T (all_small v.arities)
  pub symbols_apart : T (all_coded v 0 v.symbols)
  pub variables_apart : T (all_coded v 32768 v.variables)

-- the arities, if every one is fixed
abbrev pub fixed_arities : List (Option ℕ) → Option (List ℕ)
fixed_arities [] = Some []
fixed_arities (None ∷ xs) = None
fixed_arities (Some k ∷ xs) = option_map (λ (ks : List ℕ). k ∷ ks) (fixed_arities xs)

-- whether the arities are fixed as these numbers
abbrev pub are_fixed : List (Option ℕ) → List ℕ → Bool
are_fixed [] [] = true
are_fixed [] (n ∷ ns) = false
are_fixed (None ∷ xs) ns = false
are_fixed (Some k ∷ xs) [] = false
are_fixed (Some k ∷ xs) (n ∷ ns) = k == n && are_fixed xs ns
