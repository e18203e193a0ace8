-- Below the place that is climbed to, a step makes no new redex.
use Rattle.std.proofs.Common.{◌≡◌, ℕ, zero, suc, ◌+◌, ◌<◌, ◌≤◌, ◌&&◌, T, leb, List, [], ◌∷◌, sym, refl, ap, ◌∙◌, subst, arith, ◌⊎◌, inl, inr, leb-true}
use Rattle.std.proofs.lemmas.Bool.{cases_lt}
use Rattle.terms.specs.Terms.{Term, codes, under}
use Rattle.terms.specs.Contexts.{Context, plug, place}
use Rattle.terms.specs.Rules.{Rule, Numbered}
use Rattle.terms.specs.Steps.{Step}
use Rattle.terms.proofs.Booleans.{fst_of, snd_of, holds}
use Rattle.terms.proofs.Unique.{same_place}
use Rattle.rewriting.specs.Matching.{matches, matcher}
use Rattle.rewriting.proofs.Images.{matches_sound, matches_all}
use Rattle.resuming.specs.Shapes.{levels, depth, unrepeated, shallow}
use Rattle.resuming.specs.Climbing.{above}
use Rattle.resuming.specs.Laws.{NoneNew}
use Rattle.resuming.proofs.Sights.{seen_alike}
use Rattle.resuming.proofs.Comparing.{Compared, Compared.over, Compared.beside, compare, above_low}

pub record Shallow (d : ℕ) (r : Rule) : Type 0 where
  pub low : levels r.left ≤ d
  pub plain : T (unrepeated (codes r.left))

pub each : (d : ℕ) (rules : List Rule) → T (shallow d rules) → (n : ℕ) (r : Rule) → Numbered rules n r → Shallow d r
each d [] h n r k = absurd k
each d (x ∷ rs) h zero r k =
    let both = fst_of (leb (levels x.left) d && unrepeated (codes x.left)) _ h in
    subst (Shallow d) k record { low = leb-true _ _ (holds _ (fst_of (leb (levels x.left) d) _ both)); plain = snd_of (leb (levels x.left) d) _ both }
each d (x ∷ rs) h (suc n) r k = each d rs (snd_of (leb (levels x.left) d && unrepeated (codes x.left)) _ h) n r k

module _ (rules : List Rule) (l d : ℕ) (fine : T (shallow l rules)) (deep : l ≤ d + 1) (C : Context) (x : Term) where
  -- from the context of the step itself
  at_context : (n p m i : ℕ) (u w : Term) (a : Step rules n p (plug C x) u) → a.context ≡ C → i < above d C → (b : Step rules m i u w) → (v : Term) × Step rules m i (plug C x) v
  at_context n p m i u w a same below b =
      by (compare b.context C (under b.σ b.rule.left) (under a.σ a.rule.right)
      (sym b.from ∙ a.to ∙ ap (λ c. plug c (under a.σ a.rule.right)) same) (let k = above_low d C in let q = b.placed in omega arith))
    where
      by : Compared b.context C (under b.σ b.rule.left) (under a.σ a.rule.right) → (v : Term) × Step rules m i (plug C x) v
      by (beside f) =
          let r = f x in
          (plug r.0 (under b.σ b.rule.right), record { rule = b.rule; listed = b.listed; context = r.0; placed = r.2 ∙ b.placed; σ = b.σ; from = r.1; to = refl })
      by (over E w f bounds) = deeper (cases_lt d (depth E))
        where
          deeper : (d < depth E) ⊎ (depth E ≤ d) → (v : Term) × Step rules m i (plug C x) v
          deeper (inr high) = let z : ⊥ = let k = bounds d high in let q = b.placed in omega arith in absurd z
          deeper (inl low) =
              let s = each l rules fine m b.rule b.listed in
              let small = s.low in
              let here : T (matches b.rule.left (plug E x)) = seen_alike (under a.σ a.rule.right) x b.rule.left E s.plain (omega arith) (matches_all b.rule.left _ b.σ w) in
              let σ = matcher b.rule.left (plug E x) in (
                plug b.context (under σ b.rule.right),
                record {
                  rule = b.rule;
                  listed = b.listed;
                  context = b.context;
                  placed = b.placed;
                  σ = σ;
                  from = f x ∙ ap (plug b.context) (sym (matches_sound b.rule.left (plug E x) here));
                  to = refl;
                },
              )

  pub none_new : (t : Term) (p : ℕ) → plug C x ≡ t → place C ≡ p → NoneNew rules t p (above d C)
  none_new t p whole placed n u a m i w below b =
      let one = same_place a.context C (under a.σ a.rule.left) x (sym a.from ∙ sym whole) (a.placed ∙ sym placed) in
      subst (λ z. (v : Term) × Step rules m i z v) whole (at_context n p m i u w (subst (λ z. Step rules n p z u) (sym whole) a) (one.contexts) below b)
