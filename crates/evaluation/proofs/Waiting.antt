-- The values that wait at a place of codes are those of the terms from there on.
use Rattle.std.proofs.Common.{◌≡◌, ℕ, zero, suc, ◌-◌, Bool, true, false, cond, ◌&&◌, T, ltb, List, ◌∷◌, length, get_or, take, drop, sym, refl, ap, ◌∙◌, subst, ap₂, arith}
use Rattle.std.proofs.Math.Bool.{and-true}
use Rattle.std.proofs.lemmas.Bool.{and_right}
use Rattle.terms.specs.Terms.{Terms, Term.var, Term.app, Terms.none, Terms.more, count}
use Rattle.terms.specs.Codes.{front, back, stack}
use Rattle.terms.proofs.Booleans.{fst_of, snd_of, holds}
use Rattle.evaluation.specs.Subterms.{throughout, throughout_all}
use Rattle.evaluation.specs.Structures.{Structure, value, values, near, Every, applied, stepped}
use Rattle.evaluation.proofs.Throughout.{throughout_top, throughout_split}

outer : (w a : Bool) → T a → (w && a) ≡ w
outer w a h = ap (λ b. w && b) (holds a h) ∙ and-true w

inner : (a b w : Bool) → T (a && b) → ((a && w) && b) ≡ w
inner a b w h = outer (a && w) b (snd_of a b h) ∙ ap (λ x. x && w) (holds a (fst_of a b h))

inner_lost : (a b w : Bool) → (a && b) ≡ false → ((a && w) && b) ≡ false
inner_lost true b w e = and_right w b e
inner_lost false b w e = refl

module _ {V : Type 0} (s : Structure V) where
  pub length_values : (ts : Terms) → length (values s ts) ≡ count ts
  length_values none = refl
  length_values (more t ts) = let ih = length_values ts in omega arith

  pub values_front : (n : ℕ) (ts : Terms) → values s (front n ts) ≡ take n (values s ts)
  values_front zero ts = refl
  values_front (suc n) none = refl
  values_front (suc n) (more t ts) = ap (λ vs. value s t ∷ vs) (values_front n ts)

  pub values_back : (n : ℕ) (ts : Terms) → values s (back n ts) ≡ drop n (values s ts)
  values_back zero ts = refl
  values_back (suc n) none = refl
  values_back (suc n) (more t ts) = values_back n ts

  pub every-near : (ts : Terms) → T (throughout_all (near s) ts) → Every s.within (values s ts)
  every-near none h = tt
  every-near (more t ts) h =
      (holds _ (throughout_top (near s) t (fst_of (throughout (near s) t) _ h)), every-near ts (snd_of (throughout (near s) t) _ h))

  module _ (sig : List ℕ) (c : ℕ) where
    -- the terms once one code more is read, by whether it is a symbol's
    next : Bool → Terms → Terms
    next b ts = cond b (more (app c (front (get_or sig c 0) ts)) (back (get_or sig c 0) ts)) (more (var (c - 32768)) ts)

    values_by : (b : Bool) (ts : Terms) → values s (next b ts)
        ≡ cond b (s.result c (take (get_or sig c 0) (values s ts))) (s.assigned (c - 32768)) ∷ drop (cond b (get_or sig c 0) 0) (values s ts)
    unfolding next
    values_by true ts = ap₂ (λ x y. s.result c x ∷ y) (values_front (get_or sig c 0) ts) (values_back (get_or sig c 0) ts)
    values_by false ts = refl

    pub values_next : (cs : List ℕ) → values s (stack sig (c ∷ cs)) ≡ stepped s sig c (values s (stack sig cs))
    unfolding next
    values_next cs = values_by (ltb c 32768) (stack sig cs)

    -- the terms that wait are within the bound if those before are, and the new one
    pub near_next : (cs : List ℕ) → T (throughout_all (near s) (stack sig cs))
        → throughout_all (near s) (stack sig (c ∷ cs)) ≡ s.within (applied s sig c (values s (stack sig cs)))
    unfolding next
    near_next cs h = go (ltb c 32768) (stack sig cs) h
      where
        go : (b : Bool) (ts : Terms) → T (throughout_all (near s) ts) → throughout_all (near s) (next b ts) ≡ s.within (cond b (s.result c (take (get_or sig c 0) (values s ts))) (s.assigned (c - 32768)))
        go true ts h =
            inner (throughout_all (near s) (front (get_or sig c 0) ts)) (throughout_all (near s) (back (get_or sig c 0) ts)) (near s (app c (front (get_or sig c 0) ts)))
            (subst (λ b. T b) (throughout_split (near s) (get_or sig c 0) ts) h)
            ∙ ap (λ vs. s.within (s.result c vs)) (values_front (get_or sig c 0) ts)
        go false ts h = outer (s.within (s.assigned (c - 32768))) (throughout_all (near s) ts) h

    -- and out of it if one of those before is
    pub near_lost : (cs : List ℕ) → throughout_all (near s) (stack sig cs) ≡ false → throughout_all (near s) (stack sig (c ∷ cs)) ≡ false
    unfolding next
    near_lost cs e = go (ltb c 32768) (stack sig cs) e
      where
        go : (b : Bool) (ts : Terms) → throughout_all (near s) ts ≡ false → throughout_all (near s) (next b ts) ≡ false
        go true ts e =
            inner_lost (throughout_all (near s) (front (get_or sig c 0) ts)) (throughout_all (near s) (back (get_or sig c 0) ts)) (near s (app c (front (get_or sig c 0) ts)))
            (sym (throughout_split (near s) (get_or sig c 0) ts) ∙ e)
        go false ts e = and_right (s.within (s.assigned (c - 32768))) (throughout_all (near s) ts) e
