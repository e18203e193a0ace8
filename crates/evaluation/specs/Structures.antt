-- A structure says what symbols and variables stand for, at one kind of value; it gives every term a value.
use Rattle.std.specs.Prelude.{◌≡◌, ℕ, ◌-◌, Bool, true, cond, List, [], ◌∷◌, take, drop, Some, None, Option, nat_lt, slice_index}
use Rattle.std.specs.List.{AllByRecursion}
use Rattle.terms.specs.Codes.{arity}
use Rattle.terms.specs.Terms.{Term, Terms, Term.var, Term.app, Terms.none, Terms.more}

pub record Structure (V : Type 0) : Type 0 where
  -- the value of a variable
  pub assigned : ℕ → V
  -- what a symbol makes of its arguments' values
  pub result : ℕ → List V → V
  -- whether a value is within the bound
  pub within : V → Bool

-- the value of a term, whether or not it is within the bound
abbrev mutual
  pub value : {V : Type 0} → Structure V → Term → V
  value s (var v) = s.assigned v
  value s (app f ts) = s.result f (values s ts)

  pub values : {V : Type 0} → Structure V → Terms → List V
  values s none = []
  values s (more t ts) = value s t ∷ values s ts

-- whether a term's value is within the bound
abbrev pub near : {V : Type 0} → Structure V → Term → Bool
near s t = s.within (value s t)

-- a value, if it passes a test
abbrev pub tested : {V : Type 0} → (V → Bool) → V → Option V
tested within v = cond (within v) (Some v) None

-- each value passes a test
abbrev pub Every : {V : Type 0} → (V → Bool) → List V → Type 0
Every p vs = AllByRecursion (λ v. p v ≡ true) vs

-- the value of the term that begins with a code, from the values of the terms behind the code, the nearest first
abbrev pub applied : {V : Type 0} → Structure V → List ℕ → ℕ → List V → V
applied s sig c vs = cond (nat_lt c 32768) (s.result c (take (slice_index sig c) vs)) (s.assigned (c - 32768))

-- the values that wait once that code is read: its own in the place of its arguments'
abbrev pub stepped : {V : Type 0} → Structure V → List ℕ → ℕ → List V → List V
stepped s sig c vs = applied s sig c vs ∷ drop (arity sig c) vs
