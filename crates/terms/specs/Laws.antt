-- What the answers of the calls mean, in terms of trees: each law says exactly when codes are accepted, and as what.
use Rattle.std.specs.Prelude.{◌≡◌, ℕ, ◌+◌, ◌≤◌, Bool, true, T, List, [], ◌∷◌, ◌++◌, length, take, drop, Some, None, Ok, Err, Option, Result, slice_index}
use Rattle.terms.specs.declared.malformed.Malformed.{Malformed}
use Rattle.terms.specs.Limits.{most_symbols, most_arguments, most_rules, most_side, most_term}
use Rattle.terms.specs.Terms.{Term, codes, size, over}
use Rattle.terms.specs.Contexts.{plug, Occurrence}
use Rattle.terms.specs.Rules.{Rule, rule_over, rules_over}
use Rattle.terms.specs.Models.{Sides}
use Rattle.terms.specs.Systems.{System, rules_from}

-- arities are accepted exactly if they are few and small
pub record SignatureExactly (arities : List ℕ) (r : Bool) : Type 0 where
  pub few : r ≡ true → length arities ≤ most_symbols
  pub small : r ≡ true → (f : ℕ) → slice_index arities f ≤ most_arguments
  pub complete : length arities ≤ most_symbols → ((f : ℕ) → slice_index arities f ≤ most_arguments) → r ≡ true

-- the one term over a signature that codes are those of
pub record Reading (sig cs : List ℕ) : Type 0 where
  pub term : Term
  pub over_signature : T (over sig term)
  pub coded : codes term ≡ cs
  pub short : size term ≤ most_term
  pub only : (u : Term) → T (over sig u) → codes u ≡ cs → u ≡ term

-- codes are accepted exactly if they are those of some term over the signature within the limits, and that term is unique
pub record TermExactly (sig cs : List ℕ) (r : Bool) : Type 0 where
  pub accepted : r ≡ true → Reading sig cs
  pub complete : (t : Term) → T (over sig t) → size t ≤ most_term → codes t ≡ cs → r ≡ true

-- a rule within the limits
pub record Short (x : Rule) : Type 0 where
  pub left : size x.left ≤ most_side
  pub right : size x.right ≤ most_side

abbrev pub coded_rule : Rule → Sides
coded_rule x = record { left = codes x.left; right = codes x.right }

pub record RuleReading (sig l r : List ℕ) : Type 0 where
  pub rule : Rule
  pub over_signature : T (rule_over sig rule)
  pub coded : coded_rule rule ≡ record { left = l; right = r }
  pub short : Short rule

-- two sides are accepted exactly if they are those of some rule over the signature within the limits
pub record RuleExactly (sig l r : List ℕ) (b : Bool) : Type 0 where
  pub accepted : b ≡ true → RuleReading sig l r
  pub complete : (x : Rule) → T (rule_over sig x) → Short x → coded_rule x ≡ record { left = l; right = r } → b ≡ true

-- at a place of a term there is one subterm in one context; other terms put there are spliced into the codes
pub record Located (t : Term) (cs : List ℕ) (at end : ℕ) : Type 0 where
  pub here : Occurrence t at
  pub one_context : (o : Occurrence t at) → o.context ≡ here.context
  pub one_part : (o : Occurrence t at) → o.part ≡ here.part
  pub ends : end ≡ at + size here.part
  pub spliced : (u : Term) → codes (plug here.context u) ≡ take at cs ++ (codes u ++ drop end cs)

-- a place has an end exactly if it is one of a term within the limits
abbrev pub EndsExactly : List ℕ → List ℕ → ℕ → Option ℕ → Type 0
EndsExactly sig cs at (Some end) = (x : Reading sig cs) × Located x.term cs at end
EndsExactly sig cs at None = (x : Reading sig cs) → size x.term ≤ at

abbrev pub coded_rules : List Rule → List Sides
coded_rules [] = []
coded_rules (x ∷ xs) = coded_rule x ∷ coded_rules xs

abbrev pub AllShort : List Rule → Type 0
AllShort [] = Unit {0}
AllShort (x ∷ xs) = Short x × AllShort xs

pub record SystemReading (sig : List ℕ) (ss : List Sides) (arities : List ℕ) (rules : List Rule) : Type 0 where
  pub signature : arities ≡ sig
  pub over_signature : T (rules_over sig rules)
  pub coded : coded_rules rules ≡ ss
  pub few : length rules ≤ most_rules

-- rules are accepted exactly if they are at most 32 rules over the signature within the limits
abbrev pub SystemExactly : List ℕ → List Sides → Result System Malformed → Type 0
SystemExactly sig ss (Ok s) = SystemReading sig ss s.arities (rules_from s.arities s.rules)
SystemExactly sig ss (Err e) = (xs : List Rule) → T (rules_over sig xs) → AllShort xs → coded_rules xs ≡ ss → length xs ≤ most_rules → ⊥
