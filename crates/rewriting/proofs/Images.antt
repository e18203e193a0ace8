-- The test for a match says that there is one.
use Rattle.std.proofs.Common.{◌≡◌, ℕ, Bool, true, false, cond, ◌||◌, T, eqb, sym, refl, ap, ◌∙◌, subst, ap₂, inl, inr, eqb→eq}
use lib.Dec.{eqb_refl}
use Rattle.std.proofs.lemmas.Bool.{cases_Bool}
use Rattle.terms.specs.Terms.{Term, Terms, Term.var, Term.app, Terms.none, Terms.more, under, under_all}
use Rattle.terms.specs.Rules.{occurs, occurs_some, bound, bound_all}
use Rattle.rewriting.specs.Matching.{same, same_all, image, images, matcher, matches}
use Rattle.terms.proofs.Booleans.{both, fst_of, snd_of, one_of, or_l, or_r, cond_on, held}

mutual
  pub same_is : (t u : Term) → T (same t u) → t ≡ u
  same_is (var v) (var w) h = ap var (eqb→eq v w h)
  same_is (var v) (app g us) h = absurd h
  same_is (app f ts) (var w) h = absurd h
  same_is (app f ts) (app g us) h = ap₂ app (eqb→eq f g (fst_of (eqb f g) _ h)) (same_all_is ts us (snd_of (eqb f g) _ h))

  same_all_is : (ts us : Terms) → T (same_all ts us) → ts ≡ us
  same_all_is none none h = refl
  same_all_is none (more u us) h = absurd h
  same_all_is (more t ts) none h = absurd h
  same_all_is (more t ts) (more u us) h = ap₂ more (same_is t u (fst_of (same t u) _ h)) (same_all_is ts us (snd_of (same t u) _ h))

mutual
  pub same_refl : (t : Term) → T (same t t)
  same_refl (var v) = eqb_refl v
  same_refl (app f ts) = both _ _ (eqb_refl f) (same_all_refl ts)

  same_all_refl : (ts : Terms) → T (same_all ts ts)
  same_all_refl none = tt
  same_all_refl (more t ts) = both _ _ (same_refl t) (same_all_refl ts)

cond_or : {A : Type 0} (a b : Bool) (x d : A) → cond a x (cond b x d) ≡ cond (a || b) x d
cond_or true b x d = refl
cond_or false b x d = refl

at_var : (σ : ℕ → Term) (v w : ℕ) (d : Term) (b : Bool) → eqb v w ≡ b → cond b (σ w) d ≡ cond b (σ v) d
at_var σ v w d true e = ap σ (sym (eqb→eq v w (subst (λ b. T b) (sym e) tt)))
at_var σ v w d false e = refl

module _ (σ : ℕ → Term) where
  mutual
    pub image_under : (l : Term) (v : ℕ) (d : Term) → image v l (under σ l) d ≡ cond (occurs v l) (σ v) d
    image_under (var w) v d = at_var σ v w d (eqb v w) refl
    image_under (app f ls) v d = images_under ls v d

    images_under : (ls : Terms) (v : ℕ) (d : Term) → images v ls (under_all σ ls) d ≡ cond (occurs_some v ls) (σ v) d
    images_under none v d = refl
    images_under (more l ls) v d =
        image_under l v (images v ls (under_all σ ls) d) ∙ ap (λ x. cond (occurs v l) (σ v) x) (images_under ls v d) ∙ cond_or (occurs v l) (occurs_some v ls) (σ v) d

  -- terms are the same under substitutions that agree on their variables
  module _ (τ : ℕ → Term) where
    mutual
      pub under_agree : (l : Term) → ((v : ℕ) → T (occurs v l) → σ v ≡ τ v) → under σ l ≡ under τ l
      under_agree (var w) h = h w (eqb_refl w)
      under_agree (app f ls) h = ap (app f) (under_agree_all ls h)

      under_agree_all : (ls : Terms) → ((v : ℕ) → T (occurs_some v ls) → σ v ≡ τ v) → under_all σ ls ≡ under_all τ ls
      under_agree_all none h = refl
      under_agree_all (more l ls) h = ap₂ more (under_agree l (λ v o. h v (or_l (occurs v l) (occurs_some v ls) o))) (under_agree_all ls (λ v o. h v (or_r (occurs v l) (occurs_some v ls) o)))

    mutual
      -- and only under those
      pub under_same : (l : Term) (v : ℕ) → under σ l ≡ under τ l → T (occurs v l) → σ v ≡ τ v
      under_same (var w) v e o = let x = eqb→eq v w o in ap σ x ∙ e ∙ ap τ (sym x)
      under_same (app f ls) v e o = let x : under_all σ ls ≡ under_all τ ls = cc in under_same_all ls v x o

      under_same_all : (ls : Terms) (v : ℕ) → under_all σ ls ≡ under_all τ ls → T (occurs_some v ls) → σ v ≡ τ v
      under_same_all none v e o = absurd o
      under_same_all (more l ls) v e o =
          let x : under σ l ≡ under τ l = cc in
          let y : under_all σ ls ≡ under_all τ ls = cc in
          elim (one_of (occurs v l) (occurs_some v ls) o) [ inl a ↦ under_same l v x a | inr b ↦ under_same_all ls v y b ]

    -- a right side whose variables all occur on the left
    mutual
      pub under_bound : (l r : Term) → T (bound l r) → ((v : ℕ) → T (occurs v l) → σ v ≡ τ v) → under σ r ≡ under τ r
      under_bound l (var w) b h = h w b
      under_bound l (app f rs) b h = ap (app f) (under_bound_all l rs b h)

      under_bound_all : (l : Term) (rs : Terms) → T (bound_all l rs) → ((v : ℕ) → T (occurs v l) → σ v ≡ τ v) → under_all σ rs ≡ under_all τ rs
      under_bound_all l none b h = refl
      under_bound_all l (more r rs) b h = ap₂ more (under_bound l r (fst_of (bound l r) _ b) h) (under_bound_all l rs (snd_of (bound l r) _ b) h)

-- the matcher is the substitution of every match, on the variables of the left side
pub matcher_is : (l t : Term) (σ : ℕ → Term) → under σ l ≡ t → (v : ℕ) → T (occurs v l) → matcher l t v ≡ σ v
matcher_is l t σ e v o = ap (λ x. image v l x (var 0)) (sym e) ∙ image_under σ l v (var 0) ∙ cond_on (occurs v l) (σ v) (var 0) o

pub matches_sound : (l t : Term) → T (matches l t) → under (matcher l t) l ≡ t
matches_sound l t h = same_is (under (matcher l t) l) t h

pub matches_all : (l t : Term) (σ : ℕ → Term) → under σ l ≡ t → T (matches l t)
matches_all l t σ e =
    let x : under (matcher l t) l ≡ t = under_agree (matcher l t) σ l (matcher_is l t σ e) ∙ e in
    subst (λ u. T (same u t)) (sym x) (same_refl t)

pub unmatched : (l t : Term) → ((σ : ℕ → Term) → under σ l ≡ t → ⊥) → matches l t ≡ false
unmatched l t h = elim (cases_Bool (matches l t)) [
  | inl y ↦ absurd (h (matcher l t) (matches_sound l t (held _ y)))
  | inr n ↦ n
]
