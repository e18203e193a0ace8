-- The rewrite relation: steps, derivations and normal forms, over terms of any size.
use Rattle.std.specs.Prelude.{◌≡◌, ℕ, ◌<◌, List, [], ◌∷◌, Some, None, Option}
use Rattle.terms.specs.Terms.{Term, under}
use Rattle.terms.specs.Contexts.{Context, plug, place}
use Rattle.terms.specs.Rules.{Rule, Numbered}

-- from t to u by the rule of a number at a place: an instance of its left side there becomes that of its right side
pub record Step (rules : List Rule) (number at : ℕ) (t u : Term) : Type 0 where
  pub rule : Rule
  pub listed : Numbered rules number rule
  pub context : Context
  pub placed : place context ≡ at
  pub σ : ℕ → Term
  pub from : t ≡ plug context (under σ rule.left)
  pub to : u ≡ plug context (under σ rule.right)

-- a derivation from one term to another, by the rule numbers of its steps
pub data Derivation (rules : List Rule) : Term → List ℕ → Term → Type 0 where
  done : {t : Term} → Derivation rules t [] t
  then : {t u v : Term} {n at : ℕ} {ns : List ℕ} → Step rules n at t u → Derivation rules u ns v → Derivation rules t (n ∷ ns) v

-- a normal form: no step leads on from it
abbrev pub Normal : List Rule → Term → Type 0
Normal rules t = (n at : ℕ) (u : Term) → Step rules n at t u → ⊥

-- the first redex: a step at the lowest place, and there by the lowest rule number
pub record First (rules : List Rule) (t : Term) (at number : ℕ) : Type 0 where
  pub next : Term
  pub step : Step rules number at t next
  pub no_place_below : (p n : ℕ) (u : Term) → p < at → Step rules n p t u → ⊥
  pub no_rule_below : (n : ℕ) (u : Term) → n < number → Step rules n at t u → ⊥

-- what a search for the first redex may answer: its place and rule, or none at a normal form
abbrev pub FirstRedex : List Rule → Term → Option (ℕ × ℕ) → Type 0
FirstRedex rules t None = Normal rules t
FirstRedex rules t (Some m) = First rules t m.0 m.1
