-- The bound on derivations, for any algebra by its laws alone.
use Rattle.std.proofs.Common.{ℕ, zero, suc, ◌+◌, ◌<◌, ◌≤◌, Bool, true, false, cond, ◌&&◌, T, List, [], ◌∷◌, length, sym, subst, subst₂, arith}
use Rattle.terms.specs.Terms.{Term, over, under}
use Rattle.terms.specs.Contexts.{plug}
use Rattle.terms.specs.Rules.{Rule, rule_over, rules_over, headed, bound as covered, Numbered}
use Rattle.terms.specs.Steps.{Step, Derivation, Derivation.done, Derivation.then}
use Rattle.terms.proofs.Booleans.{fst_of, snd_of}
use Rattle.terms.proofs.Overs.{over_hole, over_plug, over_under, rule-numbered}
use Rattle.algebras.specs.Meanings.{Meaning, Lawful}
use Rattle.algebras.specs.Bounds.{all_rules_are, strict_at, strict_steps, Bounded}

-- what holds of all rules holds of that of a number
pub all_numbered : (test : Rule → Bool) (rs : List Rule) (n : ℕ) (r : Rule) → T (all_rules_are test rs) → Numbered rs n r → T (test r)
all_numbered test [] n r h m = absurd m
all_numbered test (x ∷ xs) zero r h m = subst (λ y. T (test y)) m (fst_of (test x) _ h)
all_numbered test (x ∷ xs) (suc n) r h m = all_numbered test xs n r (snd_of (test x) _ h) m

-- a step counts if its rule is strict
step_counts : (B : Meaning) (rs : List Rule) (n : ℕ) (r : Rule) (x y : ℕ) → Numbered rs n r → (T (B.strict r) → x < y) → x ≤ y → strict_at B rs n + x ≤ y
step_counts B [] n r x y m f g = absurd m
step_counts B (z ∷ zs) zero r x y m f g = go (B.strict z) (λ h. f (subst (λ q. T (B.strict q)) m h))
  where
    go : (b : Bool) → (T b → x < y) → cond b 1 0 + x ≤ y
    go true k = let lt = k tt in omega arith
    go false k = omega arith
step_counts B (z ∷ zs) (suc n) r x y m f g = step_counts B zs n r x y m f g

module _ (sig : List ℕ) (rules : List Rule) (ok : T (rules_over sig rules)) where
  -- a step keeps to the signature
  step_over : (n at : ℕ) (t u : Term) → Step rules n at t u → T (over sig t) → T (over sig u)
  step_over n at t u s h =
      let r = s.rule in
      let lhs = under s.σ r.left in
      let rhs = under s.σ r.right in
      let good : T (rule_over sig r) = rule-numbered sig rules n r ok s.listed in
      let from : T (over sig (plug s.context lhs)) = subst (λ x. T (over sig x)) s.from h in
      let sides = over sig r.left && over sig r.right in
      let right : T (over sig r.right) = snd_of (over sig r.left) _ (fst_of sides _ good) in
      let known : T (covered r.left r.right) = snd_of (headed r.left) _ (snd_of sides _ good) in
      let image : T (over sig rhs) = over_under sig r.right r.left s.σ (over_hole sig s.context lhs from) known right in
      subst (λ x. T (over sig x)) (sym s.to) (over_plug sig s.context lhs rhs from image)

  module _ (A : Meaning) (law : Lawful A) (fit : T (A.fits sig)) where
    lowered : (n at : ℕ) (t u : Term) (s : Step rules n at t u) → T (over sig t) → T (A.strict s.rule) → A.height u < A.height t
    lowered n at t u s h strict =
        let from = subst (λ x. T (over sig x)) s.from h in
        let to = subst (λ x. T (over sig x)) s.to (step_over n at t u s h) in
        subst₂ (λ x y. A.height x < A.height y) (sym s.to) (sym s.from)
        (law.lowers sig fit s.rule (rule-numbered sig rules n s.rule ok s.listed) strict s.context s.σ from to)

    kept : (n at : ℕ) (t u : Term) (s : Step rules n at t u) → T (over sig t) → T (A.weak s.rule) → A.height u ≤ A.height t
    kept n at t u s h weak =
        let from = subst (λ x. T (over sig x)) s.from h in
        let to = subst (λ x. T (over sig x)) s.to (step_over n at t u s h) in
        subst₂ (λ x y. A.height x ≤ A.height y) (sym s.to) (sym s.from)
        (law.keeps sig fit s.rule (rule-numbered sig rules n s.rule ok s.listed) weak s.context s.σ from to)

    -- by induction on the derivation: each step takes at least 1 off the height
    lengths : T (all_rules_are A.strict rules) → (t u : Term) (ns : List ℕ) → T (over sig t) → Derivation rules t ns u → length ns + A.height u ≤ A.height t
    lengths strict t u ns h done = omega arith
    lengths strict t u ns h (then {u = m} {n = n} {at = at} {ns = rest} s d) =
        let below = lengths strict m u rest (step_over n at t m s h) d in
        let fall = lowered n at t m s h (all_numbered A.strict rules n s.rule strict s.listed) in
        omega arith

    -- and where all rules are weak, each step by a strict one does
    others : T (all_rules_are A.weak rules) → (t u : Term) (ns : List ℕ) → T (over sig t) → Derivation rules t ns u → strict_steps A rules ns + A.height u ≤ A.height t
    others weak t u ns h done = omega arith
    others weak t u ns h (then {u = m} {n = n} {at = at} {ns = rest} s d) =
        let below = others weak m u rest (step_over n at t m s h) d in
        let fall = step_counts A rules n s.rule (A.height m) (A.height t) s.listed (lowered n at t m s h) (kept n at t m s h (all_numbered A.weak rules n s.rule weak s.listed)) in
        omega arith

pub bound : (sig : List ℕ) (rules : List Rule) (A : Meaning) → Lawful A → T (A.fits sig) → T (rules_over sig rules) → T (all_rules_are A.strict rules)
    → (t : Term) → T (over sig t) → Bounded sig rules A t
bound sig rules A law fit ok strict t h = record {
  lengths = λ ns u d. lengths sig rules ok A law fit strict t u ns h d;
  within = law.ceiled sig fit t h;
  others = λ B b f weak ns u d. others sig rules ok B b f weak t u ns h d;
}
