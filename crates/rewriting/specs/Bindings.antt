-- Bindings of variables to parts of the subject's codes, and the substitutions that they stand for.
use Rattle.std.specs.Prelude.{◌≡◌, ℕ, ◌<◌, List, length, Some, None, Option, ◌≢◌, MatchOption, option_map, slice_index_or}
use Rattle.rewriting.specs.declared.bindings.Bindings.{Bindings}
use Rattle.terms.specs.Terms.{Term, codes, under}
use Rattle.terms.specs.Codes.{term_of, sub_at}

-- the codes that a variable is bound to, if it is bound
abbrev pub bound_to : Bindings → ℕ → Option (List ℕ)
bound_to b v = option_map (λ part. part.now) (slice_index_or b.parts v None)

abbrev pub unbound : ℕ → Option (List ℕ)
unbound v = None

-- a variable is bound to a part, and nothing else is changed: it was not bound, or bound to the same codes
pub record Bound (before : ℕ → Option (List ℕ)) (v : ℕ) (part : List ℕ) (after : ℕ → Option (List ℕ)) : Type 0 where
  pub here : after v ≡ Some part
  pub held : MatchOption (before v) (Unit {0}) (λ old. old ≡ part)
  pub others : (w : ℕ) → w ≢ v → after w ≡ before w

-- a variable is bound, unless it is bound to something else
abbrev pub Took : (ℕ → Option (List ℕ)) → ℕ → List ℕ → Option (Unit {0}) → (ℕ → Option (List ℕ)) → Type 0
Took before v part (Some x) after = Bound before v part after
Took before v part None after = MatchOption (before v) ⊥ (λ old. old ≢ part)

-- what a binding says of the term for its variable
abbrev pub Means : List ℕ → Term → Option (List ℕ) → Type 0
Means sig t None = Unit {0}
Means sig t (Some part) = t ≡ term_of sig part

-- a substitution agrees with bindings
abbrev pub Agrees : List ℕ → (ℕ → Term) → (ℕ → Option (List ℕ)) → Type 0
Agrees sig σ bs = (v : ℕ) → Means sig (σ v) (bs v)

-- a binding is the codes of a subterm
abbrev pub IsPart : List ℕ → List ℕ → Option (List ℕ) → Type 0
IsPart sig cs None = Unit {0}
IsPart sig cs (Some part) = (p : ℕ) × (p < length cs) × (part ≡ codes (sub_at sig cs p))

abbrev pub AreParts : List ℕ → List ℕ → (ℕ → Option (List ℕ)) → Type 0
AreParts sig cs bs = (v : ℕ) → IsPart sig cs (bs v)

-- the substitutions that make a pattern the subterm at a place are just those that agree with the bindings
pub record Solved (sig pattern cs : List ℕ) (at : ℕ) (bs : ℕ → Option (List ℕ)) : Type 0 where
  pub parts : AreParts sig cs bs
  pub to : (σ : ℕ → Term) → under σ (term_of sig pattern) ≡ sub_at sig cs at → Agrees sig σ bs
  pub from : (σ : ℕ → Term) → Agrees sig σ bs → under σ (term_of sig pattern) ≡ sub_at sig cs at

-- what a match answers: bindings that solve it, or that no substitution does
abbrev pub Answered : Option Bindings → List ℕ → List ℕ → List ℕ → ℕ → Type 0
Answered (Some b) sig pattern cs at = Solved sig pattern cs at (bound_to b)
Answered None sig pattern cs at = (σ : ℕ → Term) → under σ (term_of sig pattern) ≢ sub_at sig cs at
