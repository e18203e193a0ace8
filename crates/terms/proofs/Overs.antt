-- Steps keep to the signature.
use Rattle.std.proofs.Common.{◌≡◌, ℕ, zero, suc, ◌+◌, ◌&&◌, T, eqb, ltb, List, [], ◌∷◌, length, get_or, sym, refl, ap, subst, inl, inr, eqb→eq}
use Rattle.terms.specs.Terms.{Term, Terms, count, over, over_all, under, under_all}
use Rattle.terms.specs.Terms.{Term.var, Term.app, Terms.none, Terms.more}
use Rattle.terms.specs.Contexts.{Context, Context.hole, Context.inside, joined, plug}
use Rattle.terms.specs.Rules.{Rule, rule_over, rules_over, occurs, occurs_some, bound, bound_all, Numbered}
use Rattle.terms.proofs.Booleans.{both, fst_of, snd_of, one_of}

pub count-joined : (ts : Terms) (x y : Term) (us : Terms) → count (joined ts (more x us)) ≡ count (joined ts (more y us))
count-joined none x y us = refl
count-joined (more t ts) x y us = ap (λ n. 1 + n) (count-joined ts x y us)

pub count_under : (σ : ℕ → Term) (ts : Terms) → count (under_all σ ts) ≡ count ts
count_under σ none = refl
count_under σ (more t ts) = ap (λ n. 1 + n) (count_under σ ts)

module _ (sig : List ℕ) where
  -- the middle of a row
  pub over_mid : (ts : Terms) (x : Term) (us : Terms) → T (over_all sig (joined ts (more x us))) → T (over sig x)
  over_mid none x us h = fst_of (over sig x) _ h
  over_mid (more t ts) x us h = over_mid ts x us (snd_of (over sig t) _ h)

  pub over_swap : (ts : Terms) (x y : Term) (us : Terms) → T (over_all sig (joined ts (more x us))) → T (over sig y) → T (over_all sig (joined ts (more y us)))
  over_swap none x y us h k = both (over sig y) _ k (snd_of (over sig x) _ h)
  over_swap (more t ts) x y us h k = both (over sig t) _ (fst_of (over sig t) _ h) (over_swap ts x y us (snd_of (over sig t) _ h) k)

  pub over_hole : (c : Context) (s : Term) → T (over sig (plug c s)) → T (over sig s)
  over_hole hole s h = h
  over_hole (inside f before c after) s h =
      over_hole c s (over_mid before (plug c s) after (snd_of (ltb f (length sig) && eqb (count (joined before (more (plug c s) after))) (get_or sig f 0)) _ h))

  pub over_plug : (c : Context) (s u : Term) → T (over sig (plug c s)) → T (over sig u) → T (over sig (plug c u))
  over_plug hole s u h k = k
  over_plug (inside f before c after) s u h k =
      let row = over_all sig (joined before (more (plug c s) after)) in
      let head = ltb f (length sig) && eqb (count (joined before (more (plug c s) after))) (get_or sig f 0) in
      let inner = over_plug c s u (over_mid before (plug c s) after (snd_of head row h)) k in
      both _ _ (subst (λ n. T (ltb f (length sig) && eqb n (get_or sig f 0))) (count-joined before (plug c s) (plug c u) after) (fst_of head row h))
      (over_swap before (plug c s) (plug c u) after (snd_of head row h) inner)

  mutual
    pub over_image : (l : Term) (σ : ℕ → Term) (v : ℕ) → T (over sig (under σ l)) → T (occurs v l) → T (over sig (σ v))
    over_image (var w) σ v h o = subst (λ n. T (over sig (σ n))) (sym (eqb→eq v w o)) h
    over_image (app f ts) σ v h o = over_images ts σ v (snd_of (ltb f (length sig) && eqb (count (under_all σ ts)) (get_or sig f 0)) _ h) o

    pub over_images : (ts : Terms) (σ : ℕ → Term) (v : ℕ) → T (over_all sig (under_all σ ts)) → T (occurs_some v ts) → T (over sig (σ v))
    over_images none σ v h o = absurd o
    over_images (more t ts) σ v h o =
        elim (one_of (occurs v t) (occurs_some v ts) o) [
          | inl a ↦ over_image t σ v (fst_of (over sig (under σ t)) _ h) a
          | inr b ↦ over_images ts σ v (snd_of (over sig (under σ t)) _ h) b
        ]

  mutual
    pub over_under : (r l : Term) (σ : ℕ → Term) → T (over sig (under σ l)) → T (bound l r) → T (over sig r) → T (over sig (under σ r))
    over_under (var v) l σ h b k = over_image l σ v h b
    over_under (app f ts) l σ h b k =
        let head = ltb f (length sig) && eqb (count ts) (get_or sig f 0) in
        both _ _ (subst (λ n. T (ltb f (length sig) && eqb n (get_or sig f 0))) (sym (count_under σ ts)) (fst_of head (over_all sig ts) k))
        (over_unders ts l σ h b (snd_of head (over_all sig ts) k))

    pub over_unders : (rs : Terms) (l : Term) (σ : ℕ → Term) → T (over sig (under σ l)) → T (bound_all l rs) → T (over_all sig rs) → T (over_all sig (under_all σ rs))
    over_unders none l σ h b k = tt
    over_unders (more t ts) l σ h b k =
        both _ _ (over_under t l σ h (fst_of (bound l t) _ b) (fst_of (over sig t) _ k))
        (over_unders ts l σ h (snd_of (bound l t) _ b) (snd_of (over sig t) _ k))

  pub rule-numbered : (rules : List Rule) (n : ℕ) (r : Rule) → T (rules_over sig rules) → Numbered rules n r → T (rule_over sig r)
  rule-numbered [] n r h m = absurd m
  rule-numbered (x ∷ xs) zero r h m = subst (λ y. T (rule_over sig y)) m (fst_of (rule_over sig x) _ h)
  rule-numbered (x ∷ xs) (suc n) r h m = rule-numbered xs n r (snd_of (rule_over sig x) _ h) m
