-- Codes read as terms. A code is a symbol number, or 32,768 plus a variable number.
use Rattle.std.specs.Prelude.{ℕ, zero, suc, ◌+◌, ◌-◌, Bool, true, false, cond, ◌&&◌, List, [], ◌∷◌, length, drop, Some, None, Option, nat_le, nat_lt, slice_index}
use Rattle.std.specs.Option.{option_map}
use Rattle.terms.specs.Limits.{variables, most_term}
use Rattle.terms.specs.Terms.{Term, Terms, Term.var, Term.app, Terms.none, Terms.more}

-- a code's number of arguments
abbrev pub arity : List ℕ → ℕ → ℕ
arity sig c = cond (nat_lt c 32768) (slice_index sig c) 0

-- whether a code is a symbol of the signature or one of the variables
abbrev pub known : List ℕ → ℕ → Bool
known sig c = cond (nat_lt c 32768) (nat_lt c (length sig)) (nat_lt c (32768 + variables))

-- whether codes are `need` terms, one behind the other: each code is one awaited term, and awaits its arguments
abbrev pub counts : List ℕ → ℕ → List ℕ → Bool
counts sig zero [] = true
counts sig (suc k) [] = false
counts sig zero (c ∷ cs) = false
counts sig (suc k) (c ∷ cs) = known sig c && counts sig (k + arity sig c) cs

-- the counting test for a term within the limits
abbrev pub is_term : List ℕ → List ℕ → Bool
is_term sig cs = nat_le (length cs) most_term && counts sig 1 cs

-- how many codes the first `need` terms take
abbrev pub span : List ℕ → ℕ → List ℕ → ℕ
span sig zero cs = 0
span sig (suc k) [] = 0
span sig (suc k) (c ∷ cs) = 1 + span sig (k + arity sig c) cs

-- the same, if they are complete: none where the codes end before
abbrev pub first_terms : List ℕ → ℕ → List ℕ → Option ℕ
first_terms sig zero cs = Some 0
first_terms sig (suc k) [] = None
first_terms sig (suc k) (c ∷ cs) = option_map (λ n. 1 + n) (first_terms sig (k + arity sig c) cs)

-- the first n terms of a row, and the others
abbrev pub front : ℕ → Terms → Terms
front zero ts = none
front (suc n) none = none
front (suc n) (more t ts) = more t (front n ts)

abbrev pub back : ℕ → Terms → Terms
back zero ts = ts
back (suc n) none = none
back (suc n) (more t ts) = back n ts

-- the terms that codes stand for, read from the last code to the first
abbrev pub stack : List ℕ → List ℕ → Terms
stack sig [] = none
stack sig (c ∷ cs) =
    let ts : Terms = stack sig cs in
    cond (nat_lt c 32768) (more (app c (front (slice_index sig c) ts)) (back (slice_index sig c) ts)) (more (var (c - 32768)) ts)

abbrev pub top : Terms → Term
top none = var 0
top (more t ts) = t

-- the term that codes stand for
abbrev pub term_of : List ℕ → List ℕ → Term
term_of sig cs = top (stack sig cs)

-- the terms from a place on, and the subterm at a place
abbrev pub rest_at : List ℕ → List ℕ → ℕ → Terms
rest_at sig cs i = stack sig (drop i cs)

abbrev pub sub_at : List ℕ → List ℕ → ℕ → Term
sub_at sig cs i = top (rest_at sig cs i)
