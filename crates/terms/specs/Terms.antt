-- First-order terms: a variable, or a symbol with its arguments. Symbols and variables are numbered from 0.
use Rattle.std.specs.Prelude.{ℕ, ◌+◌, Bool, true, ◌&&◌, List, [], ◌∷◌, ◌++◌, length, ◌==◌, nat_lt, slice_index}
use Rattle.terms.specs.Limits.{variables}

mutual
  pub data Term : Type 0 where
    var : ℕ → Term
    app : ℕ → Terms → Term

  pub data Terms : Type 0 where
    none : Terms
    more : Term → Terms → Terms

abbrev pub count : Terms → ℕ
count none = 0
count (more t ts) = 1 + count ts

-- how a term is written: its first code, then its arguments in order
abbrev mutual
  pub codes : Term → List ℕ
  codes (var v) = (32768 + v) ∷ []
  codes (app f ts) = f ∷ codes_all ts

  pub codes_all : Terms → List ℕ
  codes_all none = []
  codes_all (more t ts) = codes t ++ codes_all ts

-- the number of variables and symbols in a term
abbrev mutual
  pub size : Term → ℕ
  size (var v) = 1
  size (app f ts) = 1 + size_all ts

  pub size_all : Terms → ℕ
  size_all none = 0
  size_all (more t ts) = size t + size_all ts

-- a term over a signature, the list of the symbols' arities: each symbol has as many arguments as its arity says
abbrev mutual
  pub over : List ℕ → Term → Bool
  over sig (var v) = nat_lt v variables
  over sig (app f ts) = (nat_lt f (length sig) && count ts == slice_index sig f) && over_all sig ts

  pub over_all : List ℕ → Terms → Bool
  over_all sig none = true
  over_all sig (more t ts) = over sig t && over_all sig ts

-- a term under a substitution, which gives a term for each variable
abbrev mutual
  pub under : (ℕ → Term) → Term → Term
  under σ (var v) = σ v
  under σ (app f ts) = app f (under_all σ ts)

  pub under_all : (ℕ → Term) → Terms → Terms
  under_all σ none = none
  under_all σ (more t ts) = more (under σ t) (under_all σ ts)
