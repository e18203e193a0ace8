-- Rules that are kept in a list: the test of all of them, and a system made of them.
use Rattle.std.proofs.Common.{◌≡◌, ℕ, ◌≤◌, Bool, true, false, cond, ◌&&◌, leb, List, [], ◌∷◌, length, Ok, Err, Result, sym, refl, ap, ◌∙◌, ap₂, arith}
use Rattle.std.proofs.lemmas.Bool.{le-leb}
use Rattle.terms.specs.declared.rule.Rule as kept
use Rattle.terms.specs.declared.malformed.Malformed.{Malformed}
use Rattle.terms.specs.declared.malformed.Malformed.TheVariants as malformed
use Rattle.terms.specs.Models.{Sides, all_sides, all_rules}
use Rattle.terms.specs.Systems.{System, system_reply}

pub length_sides : (rs : List kept.Rule) → length (all_sides rs) ≡ length rs
length_sides [] = refl
length_sides (r ∷ rs) = let ih = length_sides rs in omega arith

accepted : List ℕ → List Sides → Result System Malformed
accepted sig rules = Ok (record { arities = sig; rules = rules })

module _ (sig : List ℕ) (rs : List kept.Rule) where
  reply_is : (a b : Bool) → leb (length (all_sides rs)) 32 ≡ a → all_rules sig (all_sides rs) ≡ b
      → cond (a && b) (Ok (record { arities = sig; rules = all_sides rs })) (Err malformed.System) ≡ system_reply sig (all_sides rs)
  reply_is a b p q = sym (ap₂ (λ x y. cond {A = Result System Malformed} (x && y) (Ok (record { arities = sig; rules = all_sides rs })) (Err malformed.System)) p q)

  few : length rs ≤ 32 → leb (length (all_sides rs)) 32 ≡ true
  few fits = le-leb _ _ (let n = length_sides rs in omega arith)

  pub not_rules : length rs ≤ 32 → false ≡ all_rules sig (all_sides rs) → Err malformed.System ≡ system_reply sig (all_sides rs)
  not_rules fits bad = reply_is true false (few fits) (sym bad)

  pub made : (after : List kept.Rule) → length rs ≤ 32 → after ≡ rs → true ≡ all_rules sig (all_sides rs)
      → Ok (record { arities = sig; rules = all_sides after }) ≡ system_reply sig (all_sides rs)
  unfolding accepted
  made after fits same good = ap (λ l. accepted sig (all_sides l)) same ∙ reply_is true true (few fits) (sym good)
