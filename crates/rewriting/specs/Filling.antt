-- A right side under bindings, and the codes of the next term.
use Rattle.std.specs.Prelude.{◌≡◌, ℕ, ◌+◌, ◌<◌, List, [], ◌∷◌, ◌++◌, length, take, drop, Ok, Err, Option, Result, unwrap_or}
use Rattle.std.specs.List.{flat_map}
use Rattle.bounded.specs.declared.array_vec.Full.{Full}
use Rattle.terms.specs.declared.code.Code.{Code}
use Rattle.terms.specs.declared.code.Code.TheVariants.{Symbol, Variable}
use Rattle.terms.specs.Limits.{most_term}
use Rattle.terms.specs.Terms.{Term, codes, size, under}
use Rattle.terms.specs.Rules.{Rule}
use Rattle.terms.specs.Codes.{sub_at}
use Rattle.terms.specs.Kinds.{code_kind}
use Rattle.rewriting.specs.Matching.{matcher}

-- what is held after codes were to be added: the whole, or the whole is longer than a term may be
abbrev pub Grew : Result (Unit {0}) Full → List ℕ → List ℕ → Type 0
Grew (Ok x) whole after = after ≡ whole
Grew (Err e) whole after = most_term < length whole

-- a symbol's code, or what is bound to a variable
abbrev pub piece : (ℕ → Option (List ℕ)) → Code → List ℕ
piece bs (Symbol s) = s ∷ []
piece bs (Variable v) = unwrap_or (bs v) []

-- a side's codes, with what is bound to them in the place of its variables
abbrev pub filled : (ℕ → Option (List ℕ)) → List ℕ → List ℕ
filled bs rs = flat_map (λ c. piece bs (code_kind c)) rs

-- codes with others in the place of those of a subterm
abbrev pub replaced : List ℕ → List ℕ → ℕ → List ℕ → List ℕ
replaced sig cs p new = take p cs ++ (new ++ drop (p + size (sub_at sig cs p)) cs)

-- the codes of the term after a step by a rule at a place
abbrev pub next_codes : List ℕ → List ℕ → ℕ → Rule → List ℕ
next_codes sig cs p r = let t : Term = sub_at sig cs p in replaced sig cs p (codes (under (matcher r.left t) r.right))
