-- Reading back from a place climbs to the symbols above it.
use Rattle.std.proofs.Common.{◌≡◌, ℕ, zero, suc, ◌+◌, ◌-◌, ◌<◌, ◌≤◌, cond, ◌&&◌, T, ltb, eqb, List, [], ◌∷◌, ◌++◌, length, take, drop, get_or, sym, refl, ap, ◌∙◌, arith, inl, inr, ◌⊎◌, eqb→eq, lt-ltb, ltb-true, slice_index}
use Rattle.std.proofs.lemmas.List.{append_assoc, take-append-drop, length-take-le}
use Rattle.std.proofs.Math.Seq.{drop-cons}
use Rattle.std.proofs.lemmas.Bool.{cases_lt, cond-true, cond-false, le-ltb}
use Rattle.terms.specs.Codes.{arity}
use Rattle.terms.specs.Terms.{Term, Terms, Term.var, Term.app, Terms.none, Terms.more, codes, codes_all, count, over, over_all}
use Rattle.terms.specs.Contexts.{Context, Context.hole, Context.inside, joined, plug, before_hole}
use Rattle.terms.proofs.Booleans.{fst_of, snd_of, holds, both}
use Rattle.terms.proofs.Places.{length_codes_all}
use Rattle.terms.proofs.Views.{count-joined_all}
use Rattle.resuming.specs.Shapes.{depth}
use Rattle.resuming.proofs.Comparing.{reached}
use Rattle.resuming.specs.Climbing.{above, Climb, climbed, one_more, climb, back_up}

-- still climbing, behind so many whole terms
abbrev Climbing : ℕ → ℕ → Climb
Climbing k terms = record { levels = suc k; terms = terms; place = 0 }

module _ (sig : List ℕ) (few : length sig ≤ 32) (d : ℕ) where
  arity_of : (f n : ℕ) → T (ltb f (length sig) && eqb n (slice_index sig f)) → arity sig f ≡ n
  arity_of f n h =
      let small = ltb-true f (length sig) (holds _ (fst_of (ltb f (length sig)) _ h)) in
      cond-true _ _ _ (lt-ltb f 32768 (omega arith)) ∙ sym (eqb→eq n (slice_index sig f) (snd_of (ltb f (length sig)) _ h))

  -- a code with no more arguments than terms stand behind it makes them one
  kept : (a k terms : ℕ) → a ≤ terms → climbed a k terms ≡ Climbing k (terms + 1 - a)
  kept a k terms h = cond-false _ _ _ (le-ltb terms a h)

  mutual
    -- a whole term in front is one more
    over_term : (t : Term) → T (over sig t) → (xs : List ℕ) (k terms : ℕ) → climb sig d xs ≡ Climbing k terms → climb sig d (codes t ++ xs) ≡ Climbing k (terms + 1)
    over_term (var v) o xs k terms e =
        ap (λ s. one_more (arity sig (32768 + v)) s s.levels) e ∙ ap (λ a. climbed a k terms) none ∙ kept 0 k terms (omega arith) ∙ ap (Climbing k) (omega arith)
      where
        none : arity sig (32768 + v) ≡ 0
        none = cond-false _ _ _ (le-ltb (32768 + v) 32768 (omega arith))
    over_term (app f ts) o xs k terms e =
        let a = arity_of f (count ts) (fst_of (ltb f (length sig) && eqb (count ts) (slice_index sig f)) _ o) in
        let behind = over_terms ts (snd_of (ltb f (length sig) && eqb (count ts) (slice_index sig f)) _ o) xs k terms e in
        ap (λ s. one_more (arity sig f) s s.levels) behind ∙ ap (λ n. climbed n k (terms + count ts)) a ∙ kept (count ts) k (terms + count ts) (omega arith)
        ∙ ap (Climbing k) (omega arith)

    over_terms : (ts : Terms) → T (over_all sig ts) → (xs : List ℕ) (k terms : ℕ) → climb sig d xs ≡ Climbing k terms → climb sig d (codes_all ts ++ xs) ≡ Climbing k (terms + count ts)
    over_terms none o xs k terms e = e ∙ ap (Climbing k) (omega arith)
    over_terms (more t ts) o xs k terms e =
        let rest = over_terms ts (snd_of (over sig t) _ o) xs k terms e in
        let all = over_term t (fst_of (over sig t) _ o) (codes_all ts ++ xs) k (terms + count ts) rest in
        ap (climb sig d) (append_assoc (codes t) (codes_all ts) xs) ∙ all ∙ ap (Climbing k) (omega arith)

  -- and with all levels climbed, every code in front is one more before
  past : (ys xs : List ℕ) → (climb sig d xs).levels ≡ 0 → ((climb sig d (ys ++ xs)).levels ≡ 0) × ((climb sig d (ys ++ xs)).place ≡ length ys + (climb sig d xs).place)
  past [] xs e = (e, (omega arith))
  past (y ∷ ys) xs e =
      let ih = past ys xs e in
      let is = ap (λ k. one_more (arity sig y) (climb sig d (ys ++ xs)) k) ih.0 in
      (ap (λ (s : Climb). s.levels) is, (let q = ap (λ (s : Climb). s.place) is in let r = ih.1 in omega arith))

  over_joined : (b : Terms) (t : Term) (a : Terms) → T (over_all sig (joined b (more t a))) → T (over_all sig b) × T (over sig t)
  over_joined none t a o = (tt, fst_of (over sig t) _ o)
  over_joined (more u b) t a o = let r = over_joined b t a (snd_of (over sig u) _ o) in (both _ _ (fst_of (over sig u) _ o) r.0, r.1)

  -- what is climbed before a hole
  record Climbed (c : Context) : Type 0 where
    short : depth c < d → climb sig d (before_hole c) ≡ record { levels = d - depth c; terms = 0; place = 0 }
    far : d ≤ depth c → ((climb sig d (before_hole c)).levels ≡ 0) × ((climb sig d (before_hole c)).place ≡ above d c)

  -- within the argument in which the hole stands
  count_args : (b a : Terms) (t : Term) → count (joined b (more t a)) ≡ count b + (1 + count a)
  count_args b a t = count-joined_all b (more t a)

  module _ (f : ℕ) (b : Terms) (c : Context) (a : Terms) (x : Term) (o : T (over sig (plug (inside f b c a) x))) (ih : Climbed c) where
    args : Terms
    args = joined b (more (plug c x) a)

    symbol : T (ltb f (length sig) && eqb (count args) (slice_index sig f))
    unfolding args
    symbol = fst_of (ltb f (length sig) && eqb (count (joined b (more (plug c x) a))) (slice_index sig f)) _ o

    before_over : T (over_all sig b)
    before_over = (over_joined b (plug c x) a (snd_of (ltb f (length sig) && eqb (count (joined b (more (plug c x) a))) (slice_index sig f)) _ o)).0

    -- the symbol is one level more
    climbs_symbol : (k : ℕ) → d - depth c ≡ suc k → depth c < d → climb sig d (before_hole (inside f b c a)) ≡ record { levels = k; terms = 0; place = 0 }
    unfolding args
    climbs_symbol k q less =
        let start : climb sig d (before_hole c) ≡ Climbing k 0 = ih.short less ∙ ap (λ n. record { levels = n; terms = 0; place = 0 }) q in
        let behind = over_terms b before_over (before_hole c) k 0 start in
        let n = count_args b a (plug c x) in
        ap (λ s. one_more (arity sig f) s s.levels) behind ∙ ap (λ n. climbed n k (0 + count b)) (arity_of f (count args) symbol ∙ n)
        ∙ cond-true _ _ _ (lt-ltb (0 + count b) (count b + (1 + count a)) (omega arith))

    climbed_inside : Climbed (inside f b c a)
    climbed_inside = by (cases_lt (depth c) d)
      where
        by : (depth c < d) ⊎ (d ≤ depth c) → Climbed (inside f b c a)
        by (inl less) =
            let k = d - depth c - 1 in
            let is = climbs_symbol k (omega arith) less in
            record {
              short = λ h. is ∙ ap (λ n. record { levels = n; terms = 0; place = 0 }) (omega arith);
              far = λ h. ((ap (λ (s : Climb). s.levels) is ∙ omega arith), ap (λ (s : Climb). s.place) is ∙ sym (cond-true _ _ _ (lt-ltb (depth c) d less)));
            }
        by (inr high) =
            let r = past (f ∷ codes_all b) (before_hole c) (ih.far high).0 in
            record {
              short = λ h. absurd (let z : ⊥ = omega arith in z);
              far = λ h. (r.0, r.1 ∙ (let p = (ih.far high).1 in let l = length_codes_all b in omega arith) ∙ sym (cond-false _ _ _ (le-ltb (depth c) d high)));
            }

  climbed_before : (c : Context) (x : Term) → T (over sig (plug c x)) → Climbed c
  climbed_before hole x o = record { short = λ h. ap (λ n. record { levels = n; terms = 0; place = 0 }) (omega arith); far = λ h. (omega arith, refl) }
  climbed_before (inside f b c a) x o =
      climbed_inside f b c a x o (climbed_before c x (over_joined b (plug c x) a (snd_of (ltb f (length sig) && eqb (count (joined b (more (plug c x) a))) (slice_index sig f)) _ o)).1)

  -- so reading back finds the place
  pub backs_up : (c : Context) (x : Term) → T (over sig (plug c x)) → back_up sig d (before_hole c) ≡ above d c
  backs_up c x o = by (cases_lt (depth c) d)
    where
      it : Climbed c
      it = climbed_before c x o

      by : (depth c < d) ⊎ (d ≤ depth c) → back_up sig d (before_hole c) ≡ above d c
      by (inl less) = ap (λ (s : Climb). s.place) (it.short less) ∙ (let l = reached c d (omega arith) in omega arith)
      by (inr high) = (it.far high).1

-- one code further back
module _ (sig : List ℕ) (d : ℕ) (before : List ℕ) where
  pub climb_further : (p left terms : ℕ) → 0 < p → p ≤ length before → 0 < left → climb sig d (drop p before) ≡ record { levels = left; terms = terms; place = 0 }
      → (let a = arity sig (get_or before (p - 1) 0) in climb sig d (drop (p - 1) before) ≡ cond (ltb terms a) (record { levels = left - 1; terms = 0; place = 0 }) (record { levels = left; terms = terms + 1 - a; place = 0 }))
  climb_further p zero terms some within left e = let z : ⊥ = omega arith in absurd z
  climb_further p (suc k) terms some within left e =
      let c = get_or before (p - 1) 0 in
      let behind : suc (p - 1) ≡ p = omega arith in
      let one : k ≡ suc k - 1 = omega arith in
      let next : drop (p - 1) before ≡ c ∷ drop p before = drop-cons before (p - 1) 0 (omega arith) ∙ ap (λ j. c ∷ drop j before) behind in
      ap (climb sig d) next ∙ ap (λ s. one_more (arity sig c) s s.levels) e ∙ ap (λ j. cond (ltb terms (arity sig c)) (record { levels = j; terms = 0; place = 0 }) (record { levels = suc k; terms = terms + 1 - arity sig c; place = 0 })) one

  -- with all levels climbed, what stands before is the place
  pub climb_ends : (few : length sig ≤ 32) (p terms : ℕ) → p ≤ length before → climb sig d (drop p before) ≡ record { levels = 0; terms = terms; place = 0 } → p ≡ back_up sig d before
  climb_ends few p terms within e =
      let r = past sig few d (take p before) (drop p before) (ap (λ (s : Climb). s.levels) e) in
      let z = ap (λ (s : Climb). s.place) e in
      let l = length-take-le p before within in
      let w : (climb sig d (take p before ++ drop p before)).place ≡ p = r.1 ∙ omega arith in
      sym (ap (back_up sig d) (sym (take-append-drop p before)) ∙ w)
