-- Tests and facts at every subterm of a term.
use Rattle.std.specs.Prelude.{◌≡◌, Bool, true, ◌&&◌}
use Rattle.terms.specs.Terms.{Term, Terms, Term.var, Term.app, Terms.none, Terms.more}
use Rattle.terms.specs.Contexts.{Context, plug}

-- whether a test passes at every subterm
abbrev mutual
  pub throughout : (Term → Bool) → Term → Bool
  throughout p (var v) = p (var v)
  throughout p (app f ts) = throughout_all p ts && p (app f ts)

  pub throughout_all : (Term → Bool) → Terms → Bool
  throughout_all p none = true
  throughout_all p (more t ts) = throughout p t && throughout_all p ts

-- a fact of every subterm: whatever stands in some context
abbrev pub OfSubterms : (Term → Type 0) → Term → Type 0
OfSubterms Fact t = (c : Context) (u : Term) → plug c u ≡ t → Fact u

-- a fact of some subterm
pub record OfSubterm (Fact : Term → Type 0) (t : Term) : Type 0 where
  pub context : Context
  pub part : Term
  pub whole : plug context part ≡ t
  pub fact : Fact part
