-- How terms are spelled: a name, alone or with terms in brackets, separated by commas.
use Rattle.std.specs.Prelude.{ℕ, Bool, true, cond, ◌&&◌, List, [], ◌∷◌, ◌++◌, length, is_some, nat_lt, slice_index_or}
use Rattle.tokens.specs.Tokens.{Word, Word.lpar, Word.rpar, Word.comma, Word.arrow, Word.named, Word.long, Word.illegal}
use Rattle.terms.specs.Terms.{Term, Terms, Term.var, Term.app, Terms.none, Terms.more, count}
use Rattle.vocabulary.specs.Vocabularies.{Vocabulary, found, arity_of, is_number}

-- a term over a vocabulary's symbols and variables
abbrev mutual
  pub over : Vocabulary → Term → Bool
  over v (var x) = nat_lt x (length v.variables)
  over v (app f ts) = (nat_lt f (length v.symbols) && is_number (arity_of v f) (count ts)) && over_all v ts

  pub over_all : Vocabulary → Terms → Bool
  over_all v none = true
  over_all v (more t ts) = over v t && over_all v ts

abbrev mutual
  pub words : Vocabulary → Term → List Word
  words v (var x) = named (slice_index_or v.variables x []) ∷ []
  words v (app f ts) = named (slice_index_or v.symbols f []) ∷ arguments v ts

  pub arguments : Vocabulary → Terms → List Word
  arguments v none = []
  arguments v (more t ts) = lpar ∷ words v t ++ others v ts

  pub others : Vocabulary → Terms → List Word
  others v none = rpar ∷ []
  others v (more t ts) = comma ∷ words v t ++ others v ts

-- symbols are numbered by first appearance: each name that is no variable and not yet numbered gets the next number
abbrev pub numbered : List (List ℕ) → List (List ℕ) → List Word → List (List ℕ)
numbered vars syms [] = syms
numbered vars syms (lpar ∷ ws) = numbered vars syms ws
numbered vars syms (rpar ∷ ws) = numbered vars syms ws
numbered vars syms (comma ∷ ws) = numbered vars syms ws
numbered vars syms (arrow ∷ ws) = numbered vars syms ws
numbered vars syms (named n ∷ ws) = cond (is_some (found 0 vars n)) (numbered vars syms ws) (cond (is_some (found 0 syms n)) (numbered vars syms ws) (numbered vars (syms ++ n ∷ []) ws))
numbered vars syms (long ∷ ws) = numbered vars syms ws
numbered vars syms (illegal ∷ ws) = numbered vars syms ws
