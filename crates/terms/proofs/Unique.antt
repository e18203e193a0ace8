-- A place of a term has one context and one subterm.
use Rattle.std.proofs.Common.{◌≡◌, ℕ, ◌+◌, ◌<◌, sym, refl, ap, ◌∙◌, ap₂, arith}
use Rattle.terms.specs.Terms.{Term, Terms, Terms.none, Terms.more, size, size_all}
use Rattle.terms.specs.Contexts.{Context, Context.hole, Context.inside, joined, plug, place, Occurrence}
use Rattle.terms.proofs.Views.{size_positive}

size_joined : (ts us : Terms) → size_all (joined ts us) ≡ size_all ts + size_all us
size_joined none us = omega arith
size_joined (more t ts) us = let ih = size_joined ts us in omega arith

-- the hole lies within the term
pub place_below : (c : Context) (t : Term) → place c < size (plug c t)
place_below hole t = size_positive t
place_below (inside f before c after) t =
    let ih = place_below c t in
    let j = size_joined before (more (plug c t) after) in
    omega arith

record Rows (b d : Terms) (x y : Term) (a e : Terms) : Type 0 where
  before : b ≡ d
  middle : x ≡ y
  after : a ≡ e

-- two cuts of a row at the same place are one
same_cut : (b d : Terms) (x y : Term) (a e : Terms) (p q : ℕ) → joined b (more x a) ≡ joined d (more y e) → p < size x → q < size y → size_all b + p ≡ size_all d + q → Rows b d x y a e
same_cut none none x y a e p q h k l m = record { before = refl; middle = (cc); after = (cc) }
same_cut none (more t ts) x y a e p q h k l m =
    let s : x ≡ t = cc in
    let z : ⊥ = let f = ap size s in omega arith in absurd z
same_cut (more t ts) none x y a e p q h k l m =
    let s : t ≡ y = cc in
    let z : ⊥ = let f = ap size s in omega arith in absurd z
same_cut (more t ts) (more u us) x y a e p q h k l m =
    let s : t ≡ u = cc in
    let r : joined ts (more x a) ≡ joined us (more y e) = cc in
    let f = ap size s in
    let ih = same_cut ts us x y a e p q r k l (omega arith) in
    record { before = ap₂ more s ih.before; middle = ih.middle; after = ih.after }

pub record Same (c d : Context) (s t : Term) : Type 0 where
  pub contexts : c ≡ d
  pub parts : s ≡ t

pub same_place : (c d : Context) (s t : Term) → plug c s ≡ plug d t → place c ≡ place d → Same c d s t
same_place hole hole s t e p = record { contexts = refl; parts = e }
same_place hole (inside g b d a) s t e p = let z : ⊥ = omega arith in absurd z
same_place (inside f b c a) hole s t e p = let z : ⊥ = omega arith in absurd z
same_place (inside f b c a) (inside g b' d a') s t e p =
    let f-g : f ≡ g = cc in
    let rows : joined b (more (plug c s) a) ≡ joined b' (more (plug d t) a') = cc in
    let cut = same_cut b b' (plug c s) (plug d t) a a' (place c) (place d) rows (place_below c s) (place_below d t) (omega arith) in
    let before = ap size_all cut.before in
    let ih = same_place c d s t cut.middle (omega arith) in
    let bb = cut.before in
    let aa = cut.after in
    let cs = ih.contexts in
    record { contexts = (cc); parts = ih.parts }

pub one_occurrence : (t : Term) (at : ℕ) (o p : Occurrence t at) → Same o.context p.context o.part p.part
one_occurrence t at o p = same_place o.context p.context o.part p.part (o.whole ∙ sym p.whole) (o.placed ∙ sym p.placed)
