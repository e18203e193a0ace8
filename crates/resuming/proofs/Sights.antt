-- A left side without repeated variables sees no deeper than its symbols stand.
use Rattle.std.proofs.Common.{◌≡◌, ℕ, ◌+◌, ◌≤◌, Bool, true, false, not, cond, ◌&&◌, ◌||◌, T, ltb, eqb, List, [], ◌∷◌, ◌++◌, sym, refl, ap, ◌∙◌, subst, ap₂, inl, inr, arith, eqb→eq, ltb-true, ltb-false}
use lib.Dec.{eqb_refl}
use Rattle.terms.specs.Terms.{Term, Terms, Term.var, Term.app, Terms.none, Terms.more, codes, codes_all, under, under_all}
use Rattle.terms.specs.Contexts.{Context, Context.hole, Context.inside, joined, plug}
use Rattle.terms.specs.Rules.{occurs, occurs_some}
use Rattle.terms.specs.Shapes.{has}
use Rattle.rewriting.specs.Matching.{image, images, matcher, matches}
use Rattle.rewriting.proofs.Images.{matches_sound, matches_all}
use Rattle.terms.proofs.Booleans.{both, fst_of, snd_of, one_of, or_l, or_r, cond_on, holds}
use Rattle.resuming.specs.Shapes.{larger, levels, levels_all, depth, unrepeated}

-- a pattern fits a term, if its symbols stand there
abbrev mutual
  pub fits : Term → Term → Bool
  fits (var v) t = true
  fits (app f ls) (var w) = false
  fits (app f ls) (app g ts) = eqb f g && fits_all ls ts

  pub fits_all : Terms → Terms → Bool
  fits_all none none = true
  fits_all none (more t ts) = false
  fits_all (more l ls) none = false
  fits_all (more l ls) (more t ts) = fits l t && fits_all ls ts

module _ (σ : ℕ → Term) where
  mutual
    fits_under : (l : Term) → T (fits l (under σ l))
    fits_under (var v) = tt
    fits_under (app f ls) = both _ _ (eqb_refl f) (fits_under_all ls)

    fits_under_all : (ls : Terms) → T (fits_all ls (under_all σ ls))
    fits_under_all none = tt
    fits_under_all (more l ls) = both _ _ (fits_under l) (fits_under_all ls)

-- what matches fits
pub match_fits : (l t : Term) → T (matches l t) → T (fits l t)
match_fits l t h = subst (λ x. T (fits l x)) (matches_sound l t h) (fits_under _ l)

-- codes among codes
has_left : (c : ℕ) (xs ys : List ℕ) → T (has xs c) → T (has (xs ++ ys) c)
has_left c [] ys h = absurd h
has_left c (x ∷ xs) ys h = elim (one_of (eqb x c) _ h) [ inl a ↦ or_l _ _ a | inr b ↦ or_r (eqb x c) _ (has_left c xs ys b) ]

has_right : (c : ℕ) (xs ys : List ℕ) → T (has ys c) → T (has (xs ++ ys) c)
has_right c [] ys h = h
has_right c (x ∷ xs) ys h = or_r (eqb x c) _ (has_right c xs ys h)

hasnt : (b : Bool) → T (not b) → T b → ⊥
hasnt true n h = n
hasnt false n h = h

not_of : (b : Bool) → (T b → ⊥) → T (not b)
not_of true n = n tt
not_of false n = tt

fresh_left : (c : ℕ) (xs ys : List ℕ) → T (ltb c 32768 || not (has (xs ++ ys) c)) → T (ltb c 32768 || not (has xs c))
fresh_left c xs ys h = elim (one_of (ltb c 32768) _ h) [ inl a ↦ or_l _ _ a | inr b ↦ or_r (ltb c 32768) _ (not_of _ (λ k. hasnt _ b (has_left c xs ys k))) ]

unrepeated_left : (xs ys : List ℕ) → T (unrepeated (xs ++ ys)) → T (unrepeated xs)
unrepeated_left [] ys h = tt
unrepeated_left (x ∷ xs) ys h = both _ _ (fresh_left x xs ys (fst_of _ _ h)) (unrepeated_left xs ys (snd_of (ltb x 32768 || not (has (xs ++ ys) x)) _ h))

unrepeated_right : (xs ys : List ℕ) → T (unrepeated (xs ++ ys)) → T (unrepeated ys)
unrepeated_right [] ys h = h
unrepeated_right (x ∷ xs) ys h = unrepeated_right xs ys (snd_of (ltb x 32768 || not (has (xs ++ ys) x)) _ h)

-- no variable stands in both of two parts
unrepeated_apart : (v : ℕ) (xs ys : List ℕ) → T (unrepeated (xs ++ ys)) → T (has xs (32768 + v)) → T (has ys (32768 + v)) → ⊥
unrepeated_apart v [] ys h a b = a
unrepeated_apart v (x ∷ xs) ys h a b = elim (one_of (eqb x (32768 + v)) _ a) [
  | inl e ↦ here (eqb→eq x (32768 + v) e)
  | inr k ↦ unrepeated_apart v xs ys (snd_of (ltb x 32768 || not (has (xs ++ ys) x)) _ h) k b
]
  where
    here : x ≡ 32768 + v → ⊥
    here e = elim (one_of (ltb x 32768) _ (fst_of _ _ h)) [
      | inl k ↦ (let l = ltb-true x 32768 (holds _ k) in let z : ⊥ = omega arith in z)
      | inr k ↦ hasnt _ k (has_right x xs ys (subst (λ c. T (has ys c)) (sym e) b))
    ]

-- a variable that occurs is among the codes
mutual
  occurs_has : (v : ℕ) (t : Term) → T (occurs v t) → T (has (codes t) (32768 + v))
  occurs_has v (var w) h = or_l (eqb (32768 + w) (32768 + v)) false (subst (λ x. T (eqb (32768 + x) (32768 + v))) (eqb→eq v w h) (eqb_refl (32768 + v)))
  occurs_has v (app f ts) h = or_r _ _ (occurs_has_all v ts h)

  occurs_has_all : (v : ℕ) (ts : Terms) → T (occurs_some v ts) → T (has (codes_all ts) (32768 + v))
  occurs_has_all v none h = absurd h
  occurs_has_all v (more t ts) h = elim (one_of (occurs v t) _ h) [ inl a ↦ has_left (32768 + v) (codes t) _ (occurs_has v t a) | inr b ↦ has_right (32768 + v) (codes t) _ (occurs_has_all v ts b) ]

-- where a pattern fits, the image of a variable that occurs does not go by what is taken for absent ones
mutual
  image_here : (l t : Term) (v : ℕ) (d e : Term) → T (occurs v l) → T (fits l t) → image v l t d ≡ image v l t e
  image_here (var w) t v d e o h = cond_on (eqb v w) t d o ∙ sym (cond_on (eqb v w) t e o)
  image_here (app f ls) (var w) v d e o h = absurd h
  image_here (app f ls) (app g ts) v d e o h = images_here ls ts v d e o (snd_of (eqb f g) _ h)

  images_here : (ls ts : Terms) (v : ℕ) (d e : Term) → T (occurs_some v ls) → T (fits_all ls ts) → images v ls ts d ≡ images v ls ts e
  images_here none ts v d e o h = absurd o
  images_here (more l ls) none v d e o h = absurd h
  images_here (more l ls) (more t ts) v d e o h = elim (one_of (occurs v l) _ o) [
    | inl a ↦ image_here l t v _ _ a (fst_of (fits l t) _ h)
    | inr b ↦ ap (image v l t) (images_here ls ts v d e b (snd_of (fits l t) _ h))
  ]

-- and that of one that does not is that
cond_off : {A : Type 0} (b : Bool) (x y : A) → (T b → ⊥) → cond b x y ≡ y
cond_off true x y n = absurd (n tt)
cond_off false x y n = refl

mutual
  image_away : (l t : Term) (v : ℕ) (d : Term) → (T (occurs v l) → ⊥) → T (fits l t) → image v l t d ≡ d
  image_away (var w) t v d n h = cond_off (eqb v w) t d n
  image_away (app f ls) (var w) v d n h = absurd h
  image_away (app f ls) (app g ts) v d n h = images_away ls ts v d n (snd_of (eqb f g) _ h)

  images_away : (ls ts : Terms) (v : ℕ) (d : Term) → (T (occurs_some v ls) → ⊥) → T (fits_all ls ts) → images v ls ts d ≡ d
  images_away none ts v d n h = refl
  images_away (more l ls) none v d n h = absurd h
  images_away (more l ls) (more t ts) v d n h =
      image_away l t v _ (λ o. n (or_l (occurs v l) _ o)) (fst_of (fits l t) _ h) ∙ images_away ls ts v d (λ o. n (or_r (occurs v l) _ o)) (snd_of (fits l t) _ h)

-- what fits a pattern without repeated variables is its instance
module _ (σ : ℕ → Term) where
  mutual
    fit_is : (l t d : Term) → T (unrepeated (codes l)) → T (fits l t) → ((v : ℕ) → T (occurs v l) → σ v ≡ image v l t d) → under σ l ≡ t
    fit_is (var w) t d u h is = is w (eqb_refl w) ∙ cond_on (eqb w w) t d (eqb_refl w)
    fit_is (app f ls) (var w) d u h is = absurd h
    fit_is (app f ls) (app g ts) d u h is = ap₂ app (eqb→eq f g (fst_of (eqb f g) _ h)) (fit_all_is ls ts d (snd_of (ltb f 32768 || not (has (codes_all ls) f)) _ u) (snd_of (eqb f g) _ h) is)

    fit_all_is : (ls ts : Terms) (d : Term) → T (unrepeated (codes_all ls)) → T (fits_all ls ts) → ((v : ℕ) → T (occurs_some v ls) → σ v ≡ images v ls ts d) → under_all σ ls ≡ ts
    fit_all_is none none d u h is = refl
    fit_all_is none (more t ts) d u h is = absurd h
    fit_all_is (more l ls) none d u h is = absurd h
    fit_all_is (more l ls) (more t ts) d u h is =
        let front = fst_of (fits l t) _ h in
        ap₂ more
        (fit_is l t d (unrepeated_left (codes l) (codes_all ls) u) front (λ v o. is v (or_l (occurs v l) _ o) ∙ image_here l t v _ d o front))
        (fit_all_is ls ts d (unrepeated_right (codes l) (codes_all ls) u) (snd_of (fits l t) _ h)
        (λ v o. is v (or_r (occurs v l) _ o) ∙ image_away l t v _ (λ k. unrepeated_apart v (codes l) (codes_all ls) u (occurs_has v l k) (occurs_has_all v ls o)) front))

pub fit_matches : (l t : Term) → T (unrepeated (codes l)) → T (fits l t) → T (matches l t)
fit_matches l t u h = matches_all l t (matcher l t) (fit_is (matcher l t) l t (var 0) u h (λ v o. refl))

-- a pattern fits alike, whatever stands as deep as its symbols do
larger_l : (a b n : ℕ) → larger a b ≤ n → a ≤ n
larger_l a b n h = go (ltb a b) refl h
  where
    go : (c : Bool) → ltb a b ≡ c → cond c b a ≤ n → a ≤ n
    go true e k = let l = ltb-true a b e in omega arith
    go false e k = k

larger_r : (a b n : ℕ) → larger a b ≤ n → b ≤ n
larger_r a b n h = go (ltb a b) refl h
  where
    go : (c : Bool) → ltb a b ≡ c → cond c b a ≤ n → b ≤ n
    go true e k = k
    go false e k = let l = ltb-false a b e in omega arith

module _ (x y : Term) where
  mutual
    pub fits_alike : (l : Term) (c : Context) → levels l ≤ depth c → T (fits l (plug c x)) → T (fits l (plug c y))
    fits_alike (var v) c s h = tt
    fits_alike (app f ls) hole s h = let z : ⊥ = omega arith in absurd z
    fits_alike (app f ls) (inside g b c a) s h = both _ _ (fst_of (eqb f g) _ h) (fits_alike_all ls b c a (omega arith) (snd_of (eqb f g) _ h))

    fits_alike_all : (ls b : Terms) (c : Context) (a : Terms) → levels_all ls ≤ depth c → T (fits_all ls (joined b (more (plug c x) a))) → T (fits_all ls (joined b (more (plug c y) a)))
    fits_alike_all none none c a s h = absurd h
    fits_alike_all none (more t b) c a s h = absurd h
    fits_alike_all (more l ls) none c a s h = both _ _ (fits_alike l c (larger_l (levels l) (levels_all ls) _ s) (fst_of (fits l (plug c x)) _ h)) (snd_of (fits l (plug c x)) _ h)
    fits_alike_all (more l ls) (more t b) c a s h = both _ _ (fst_of (fits l t) _ h) (fits_alike_all ls b c a (larger_r (levels l) (levels_all ls) _ s) (snd_of (fits l t) _ h))

  pub seen_alike : (l : Term) (c : Context) → T (unrepeated (codes l)) → levels l ≤ depth c → T (matches l (plug c x)) → T (matches l (plug c y))
  seen_alike l c u s h = fit_matches l (plug c y) u (fits_alike l c s (match_fits l (plug c x) h))
