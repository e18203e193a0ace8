-- What the evaluator answers, and what it leaves in the memory that it is lent.
use Rattle.std.specs.Prelude.{ℕ, ◌+◌, ◌-◌, Bool, cond, ◌&&◌, List, [], ◌∷◌, length, Some, None, Option, nat_le, slice_set}
use Rattle.terms.specs.Terms.{Term, Terms}
use Rattle.terms.specs.Codes.{is_term, stack, term_of}
use Rattle.evaluation.specs.Subterms.{throughout, throughout_all}
use Rattle.evaluation.specs.Structures.{Structure, value, values, near}

-- the value of a term, if that of every subterm is within the bound
abbrev pub bounded : {V : Type 0} → Structure V → Term → Option V
bounded s t = cond (throughout (near s) t) (Some (value s t)) None

-- whether codes are a term, with a place of memory for each
abbrev pub ready : List ℕ → List ℕ → ℕ → Bool
ready sig cs places = is_term sig cs && nat_le (length cs) places

-- the value of the term that codes are
abbrev pub evaluated : {V : Type 0} → Structure V → List ℕ → List ℕ → ℕ → Option V
evaluated s sig cs places = cond (ready sig cs places) (bounded s (term_of sig cs)) None

-- memory that is filled from its end, after the newest of the values that wait is written in front of the others
abbrev pub stored : {V : Type 0} → List V → List V → List V
stored m [] = m
stored m (v ∷ vs) = slice_set m (length m - (1 + length vs)) v

-- memory after codes, read from the last to the first: each writes the value of its term in front of those that wait,
-- up to the first value that is out of the bound
abbrev pub filled : {V : Type 0} → Structure V → List ℕ → List ℕ → List V → List V
filled s sig [] m = m
filled s sig (c ∷ cs) m =
    let ts : Terms = stack sig (c ∷ cs) in
    cond (throughout_all (near s) ts) (stored (filled s sig cs m) (values s ts)) (filled s sig cs m)

-- memory afterwards: as it was, if nothing is evaluated
abbrev pub remembered : {V : Type 0} → Structure V → List ℕ → List ℕ → List V → List V
remembered s sig cs m = cond (ready sig cs (length m)) (filled s sig cs m) m
