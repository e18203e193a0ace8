-- What an algebra means, and the five laws that it owes under every signature it fits.
use Rattle.std.specs.Prelude.{ℕ, ◌<◌, ◌≤◌, Bool, T, List, Some, None, Option}
use Rattle.terms.specs.Terms.{Term, size, over, under}
use Rattle.terms.specs.Contexts.{Context, plug}
use Rattle.terms.specs.Rules.{Rule, rule_over}

-- heights and ceilings that are told are at most this
abbrev pub reach : ℕ
reach = 1_099_511_627_775

-- which signatures it fits; of a term the height, and whether it is given; of a rule whether it is readable, weak and
-- strict; for each size a ceiling, or none
pub record Meaning : Type 0 where
  pub fits : List ℕ → Bool
  pub height : Term → ℕ
  pub given : Term → Bool
  pub readable : Rule → Bool
  pub weak : Rule → Bool
  pub strict : Rule → Bool
  pub ceiling : ℕ → Option ℕ

-- at most a ceiling, where there is one
abbrev pub Within : ℕ → Option ℕ → Type 0
Within h None = Unit {0}
Within h (Some c) = h ≤ c

pub record Lawful (A : Meaning) : Type 0 where
  -- a given height is within reach
  pub reached : (sig : List ℕ) → T (A.fits sig) → (t : Term) → T (over sig t) → T (A.given t) → A.height t ≤ reach
  -- a strict rule is weak
  pub strict_weak : (sig : List ℕ) → T (A.fits sig) → (r : Rule) → T (rule_over sig r) → T (A.strict r) → T (A.weak r)
  -- an instance of a weak rule's left side, replaced inside any term by that of the right, does not raise the height
  pub keeps : (sig : List ℕ) → T (A.fits sig) → (r : Rule) → T (rule_over sig r) → T (A.weak r)
      → (c : Context) (σ : ℕ → Term) → T (over sig (plug c (under σ r.left))) → T (over sig (plug c (under σ r.right)))
      → A.height (plug c (under σ r.right)) ≤ A.height (plug c (under σ r.left))
  -- of a strict rule, it lowers the height by at least 1
  pub lowers : (sig : List ℕ) → T (A.fits sig) → (r : Rule) → T (rule_over sig r) → T (A.strict r)
      → (c : Context) (σ : ℕ → Term) → T (over sig (plug c (under σ r.left))) → T (over sig (plug c (under σ r.right)))
      → A.height (plug c (under σ r.right)) < A.height (plug c (under σ r.left))
  -- the height is at most the ceiling at the term's size
  pub ceiled : (sig : List ℕ) → T (A.fits sig) → (t : Term) → T (over sig t) → Within (A.height t) (A.ceiling (size t))
