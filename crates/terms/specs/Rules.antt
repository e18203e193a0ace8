-- Rewrite rules.
use Rattle.std.specs.Prelude.{◌≡◌, ℕ, zero, suc, Bool, true, false, ◌&&◌, ◌||◌, List, [], ◌∷◌, ◌==◌}
use Rattle.terms.specs.Terms.{Term, Terms, Term.var, Term.app, Terms.none, Terms.more, over}

-- whether a variable occurs in a term
abbrev mutual
  pub occurs : ℕ → Term → Bool
  occurs v (var w) = v == w
  occurs v (app f ts) = occurs_some v ts

  pub occurs_some : ℕ → Terms → Bool
  occurs_some v none = false
  occurs_some v (more t ts) = occurs v t || occurs_some v ts

-- whether every variable of the second term occurs in the first
abbrev mutual
  pub bound : Term → Term → Bool
  bound l (var v) = occurs v l
  bound l (app f ts) = bound_all l ts

  pub bound_all : Term → Terms → Bool
  bound_all l none = true
  bound_all l (more t ts) = bound l t && bound_all l ts

-- whether a term is no variable
abbrev pub headed : Term → Bool
headed (var v) = false
headed (app f ts) = true

pub record Rule : Type 0 where
  pub left : Term
  pub right : Term

-- a rule over a signature: its left side is no variable, and its right side has no other variables than the left
abbrev pub rule_over : List ℕ → Rule → Bool
rule_over sig r = (over sig r.left && over sig r.right) && (headed r.left && bound r.left r.right)

abbrev pub rules_over : List ℕ → List Rule → Bool
rules_over sig [] = true
rules_over sig (r ∷ rs) = rule_over sig r && rules_over sig rs

-- the rule of a number, counted from 0
abbrev pub Numbered : List Rule → ℕ → Rule → Type 0
Numbered [] n x = ⊥
Numbered (y ∷ rs) zero x = y ≡ x
Numbered (y ∷ rs) (suc m) x = Numbered rs m x
