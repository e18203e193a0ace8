-- Two holes of a term: the one that stands before the other is above it, or beside it.
use Rattle.std.proofs.Common.{◌≡◌, ℕ, ◌+◌, ◌<◌, ◌≤◌, Bool, true, false, cond, ltb, sym, refl, ap, ap₂, arith, ltb-false}
use Rattle.terms.specs.Terms.{Term, Terms, Term.app, Terms.none, Terms.more, size, size_all}
use Rattle.terms.specs.Contexts.{Context, Context.hole, Context.inside, joined, plug, place}
use Rattle.terms.proofs.Unique.{place_below}
use Rattle.resuming.specs.Shapes.{depth}
use Rattle.resuming.specs.Climbing.{above}

-- the hole of D, with s in it, against that of C
pub data Compared (D C : Context) (s x : Term) : Type 0 where
  -- above: C's hole stands within s, and levels above it not below D's hole
  over : (E : Context) → s ≡ plug E x → ((y : Term) → plug C y ≡ plug D (plug E y)) → ((d : ℕ) → depth E ≤ d → above d C ≤ place D) → Compared D C s x
  -- beside: s stands there whatever is in C's hole
  beside : ((y : Term) → (D' : Context) × (plug C y ≡ plug D' s) × (place D' ≡ place D)) → Compared D C s x

-- the same for rows of arguments
data Row (b' : Terms) (D : Context) (a' b : Terms) (C : Context) (a : Terms) (s x : Term) : Type 0 where
  over_row : b' ≡ b → a' ≡ a → Compared D C s x → Row b' D a' b C a s x
  beside_row : ((y : Term) → (b2 : Terms) × (D2 : Context) × (a2 : Terms) × (joined b (more (plug C y) a) ≡ joined b2 (more (plug D2 s) a2)) × (size_all b2 + place D2 ≡ size_all b' + place D)) → Row b' D a' b C a s x

module _ (D : Context) (s : Term) (C : Context) (x : Term) (ih : plug D s ≡ plug C x → place D < place C → Compared D C s x) where
  row : (b' b a' a : Terms) → joined b' (more (plug D s) a') ≡ joined b (more (plug C x) a) → size_all b' + place D < size_all b + place C → Row b' D a' b C a s x
  row none none a' a e p = over_row refl (cc) (ih (cc) (omega arith))
  row none (more t b) a' a e p =
      let first : plug D s ≡ t = cc in
      beside_row (λ y. (none, D, joined b (more (plug C y) a), ap (λ u. more u (joined b (more (plug C y) a))) (sym first), refl))
  row (more t b') none a' a e p =
      let first : t ≡ plug C x = cc in
      let z : ⊥ = let l = place_below C x in let f = ap size first in omega arith in absurd z
  row (more t b') (more u b) a' a e p =
      let first : t ≡ u = cc in
      let rest : joined b' (more (plug D s) a') ≡ joined b (more (plug C x) a) = cc in
      let f = ap size first in
      by (row b' b a' a rest (omega arith)) first
    where
      by : Row b' D a' b C a s x → t ≡ u → Row (more t b') D a' (more u b) C a s x
      by (over_row same_b same_a c) e = over_row (ap₂ more e same_b) same_a c
      by (beside_row f) e = beside_row (λ y. let r = f y in (more u r.0, r.1, r.2, ap (more u) r.3, (let q = r.4 in let g = ap size e in omega arith)))

-- a level is climbed to a symbol at or above the hole
pub above_low : (d : ℕ) (C : Context) → above d C ≤ place C
above_low d hole = omega arith
above_low d (inside f b C a) = go (ltb (depth C) d) (above_low d C)
  where
    go : (t : Bool) → above d C ≤ place C → cond t 0 (1 + (size_all b + above d C)) ≤ 1 + (size_all b + place C)
    go true ih = omega arith
    go false ih = omega arith

-- above the whole there is nothing to climb to
pub reached : (C : Context) (d : ℕ) → depth C ≤ d → above d C ≤ 0
reached hole d h = omega arith
reached (inside f b c a) d h = go (ltb (depth c) d) refl
  where
    go : (t : Bool) → ltb (depth c) d ≡ t → cond t 0 (1 + (size_all b + above d c)) ≤ 0
    go true q = omega arith
    go false q = let l = ltb-false (depth c) d q in let z : ⊥ = omega arith in absurd z

pub compare : (D C : Context) (s x : Term) → plug D s ≡ plug C x → place D < place C → Compared D C s x
compare hole C s x e p = over C e (λ y. refl) (λ d h. reached C d h)
compare (inside g b' D a') hole s x e p = let z : ⊥ = omega arith in absurd z
compare (inside g b' D a') (inside f b C a) s x e p =
    let rows : joined b' (more (plug D s) a') ≡ joined b (more (plug C x) a) = cc in
    let heads : g ≡ f = cc in
    by heads (row D s C x (compare D C s x) b' b a' a rows (omega arith))
  where
    by : g ≡ f → Row b' D a' b C a s x → Compared (inside g b' D a') (inside f b C a) s x
    by q (over_row same_b same_a (over E w f' bounds)) =
        over E w (λ y. let z = f' y in (cc)) (λ d h. low d h)
      where
        low : (d : ℕ) → depth E ≤ d → above d (inside f b C a) ≤ place (inside g b' D a')
        low d h =
            let ih = bounds d h in
            let sb = ap size_all same_b in
            go (ltb (depth C) d) ih sb
          where
            go : (t : Bool) → above d C ≤ place D → size_all b' ≡ size_all b → cond t 0 (1 + (size_all b + above d C)) ≤ 1 + (size_all b' + place D)
            go true i j = omega arith
            go false i j = omega arith
    by q (over_row same_b same_a (beside f')) = beside (λ y. let r = f' y in (inside f b r.0 a, (let z = r.1 in cc), (let w = r.2 in let sb = ap size_all same_b in omega arith)))
    by q (beside_row f') = beside (λ y. let r = f' y in (inside f r.0 r.1 r.2, ap (app f) r.3, (let w = r.4 in omega arith)))
