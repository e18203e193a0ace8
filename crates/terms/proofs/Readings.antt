-- The counting test says of codes exactly that they are those of a term.
use Rattle.std.proofs.Common.{◌≡◌, ℕ, zero, suc, ◌+◌, ◌-◌, ◌<◌, ◌≤◌, Bool, true, false, cond, ◌&&◌, T, eqb, ltb, ◌↔◌, List, [], ◌∷◌, ◌++◌, length, get_or, sym, refl, ap, ◌∙◌, subst, ap₂, append_assoc, append-nil, arith, eqb→eq, ltb→lt, lt→ltb}
use lib.Dec.{eqb_refl}
use Rattle.std.proofs.lemmas.Bool.{lt-ltb, ltb-true, ltb-false}
use Rattle.terms.specs.Terms.{Term, Terms, Term.var, Term.app, Terms.none, Terms.more, count, codes, codes_all, over, over_all}
use Rattle.terms.specs.Contexts.{joined}
use Rattle.terms.specs.Codes.{arity, known, counts, front, back, stack, top, term_of}
use Rattle.terms.proofs.Booleans.{both, fst_of, snd_of}
use Rattle.terms.proofs.Counting.{known_variable, known_symbol, arity_variable, arity_symbol, counts_next}

pub count-front : (n m : ℕ) (ts : Terms) → count ts ≡ m + n → count (front n ts) ≡ n
count-front zero m ts e = refl
count-front (suc n) m none e = let z : ⊥ = omega arith in absurd z
count-front (suc n) m (more t ts) e = let ih = count-front n m ts (omega arith) in omega arith

count-back : (n m : ℕ) (ts : Terms) → count ts ≡ m + n → count (back n ts) ≡ m
count-back zero m ts e = omega arith
count-back (suc n) m none e = let z : ⊥ = omega arith in absurd z
count-back (suc n) m (more t ts) e = count-back n m ts (omega arith)

codes_split : (n : ℕ) (ts : Terms) → codes_all (front n ts) ++ codes_all (back n ts) ≡ codes_all ts
codes_split zero ts = refl
codes_split (suc n) none = refl
codes_split (suc n) (more t ts) = append_assoc (codes t) (codes_all (front n ts)) (codes_all (back n ts)) ∙ ap (λ l. codes t ++ l) (codes_split n ts)

module _ (sig : List ℕ) where
  over_front : (n : ℕ) (ts : Terms) → T (over_all sig ts) → T (over_all sig (front n ts))
  over_front zero ts h = tt
  over_front (suc n) none h = tt
  over_front (suc n) (more t ts) h = both _ _ (fst_of (over sig t) _ h) (over_front n ts (snd_of (over sig t) _ h))

  over_back : (n : ℕ) (ts : Terms) → T (over_all sig ts) → T (over_all sig (back n ts))
  over_back zero ts h = h
  over_back (suc n) none h = tt
  over_back (suc n) (more t ts) h = over_back n ts (snd_of (over sig t) _ h)

  pub record Reads (k : ℕ) (cs : List ℕ) (ts : Terms) : Type 0 where
    pub many : count ts ≡ k
    pub good : T (over_all sig ts)
    pub same : codes_all ts ≡ cs

  next : (m c : ℕ) (cs : List ℕ) (ts : Terms) (b : Bool) → ltb c 32768 ≡ b → T (known sig c) → Reads (m + arity sig c) cs ts
      → Reads (suc m) (c ∷ cs) (cond b (more (app c (front (get_or sig c 0) ts)) (back (get_or sig c 0) ts)) (more (var (c - 32768)) ts))
  next m c cs ts true e k r =
      let lt : c < 32768 = ltb-true c 32768 e in
      let n = get_or sig c 0 in
      let args = front n ts in
      let many : count ts ≡ m + n = r.many ∙ ap (λ a. m + a) (arity_symbol sig c lt) in
      let inside : T (ltb c (length sig)) = subst (λ b. T b) (known_symbol sig c lt) k in
      let fits : T (eqb (count args) n) = subst (λ x. T (eqb x n)) (sym (count-front n m ts many)) (eqb_refl n) in
      record {
        many = (let e : count (back n ts) ≡ m = count-back n m ts many in omega arith);
        good = both _ _ (both _ _ (both _ _ inside fits) (over_front n ts r.good)) (over_back n ts r.good);
        same = ap (λ l. c ∷ l) (codes_split n ts ∙ r.same);
      }
  next m c cs ts false e k r =
      let le : 32768 ≤ c = ltb-false c 32768 e in
      let whole : 32768 + (c - 32768) ≡ c = omega arith in
      let a = arity_variable sig c le in
      let h = r.many in
      let low : c < 32776 = ltb→lt c 32776 (subst (λ b. T b) (known_variable sig c le) k) in
      record {
        many = omega arith;
        good = both _ _ (lt→ltb (c - 32768) 8 (omega arith)) r.good;
        same = ap₂ (λ x l. x ∷ l) whole r.same;
      }

  pub reads : (cs : List ℕ) (k : ℕ) → T (counts sig k cs) → Reads k cs (stack sig cs)
  reads [] zero h = record { many = refl; good = tt; same = refl }
  reads [] (suc k) h = absurd h
  reads (c ∷ cs) zero h = absurd h
  reads (c ∷ cs) (suc k) h =
      next k c cs (stack sig cs) (ltb c 32768) refl (fst_of (known sig c) _ h) (reads cs (k + arity sig c) (snd_of (known sig c) _ h))

  lone : (cs : List ℕ) (ts : Terms) → Reads 1 cs ts → T (over sig (top ts)) × (codes (top ts) ≡ cs)
  lone cs none r = let m = r.many in let z : ⊥ = omega arith in absurd z
  lone cs (more t none) r = (fst_of (over sig t) _ r.good, sym (append-nil (codes t)) ∙ r.same)
  lone cs (more t (more u us)) r = let m = r.many in let z : ⊥ = omega arith in absurd z

  pub counted_over : (cs : List ℕ) → T (counts sig 1 cs) → T (over sig (term_of sig cs))
  counted_over cs h = (lone cs (stack sig cs) (reads cs 1 h)).0

  pub counted_codes : (cs : List ℕ) → T (counts sig 1 cs) → codes (term_of sig cs) ≡ cs
  counted_codes cs h = (lone cs (stack sig cs) (reads cs 1 h)).1

  module _ (few : length sig ≤ 32768) where
    mutual
      -- a term's codes take one of what is awaited, and no more
      pub counts_term : (t : Term) (k : ℕ) (cs : List ℕ) → T (over sig t) → counts sig (suc k) (codes t ++ cs) ≡ counts sig k cs
      counts_term (var v) k cs h =
          let ge : 32768 ≤ 32768 + v = omega arith in
          let low : v < 8 = ltb→lt v 8 h in
          let a = arity_variable sig (32768 + v) ge in
          counts_next sig (suc k) (32768 + v) cs k (omega arith) (known_variable sig (32768 + v) ge ∙ lt-ltb (32768 + v) 32776 (omega arith)) (omega arith)
      counts_term (app f ts) k cs h =
          let head = ltb f (length sig) && eqb (count ts) (get_or sig f 0) in
          let inside : f < length sig = ltb→lt f (length sig) (fst_of (ltb f (length sig)) _ (fst_of head (over_all sig ts) h)) in
          let lt : f < 32768 = omega arith in
          let n : count ts ≡ get_or sig f 0 = eqb→eq (count ts) (get_or sig f 0) (snd_of (ltb f (length sig)) _ (fst_of head (over_all sig ts) h)) in
          let a = arity_symbol sig f lt in
          counts_next sig (suc k) f (codes_all ts ++ cs) (count ts + k) (omega arith) (known_symbol sig f lt ∙ lt-ltb f (length sig) inside) (omega arith)
          ∙ counts_terms ts k cs (snd_of head (over_all sig ts) h)

      pub counts_terms : (ts : Terms) (k : ℕ) (cs : List ℕ) → T (over_all sig ts) → counts sig (count ts + k) (codes_all ts ++ cs) ≡ counts sig k cs
      counts_terms none k cs h = let e : 0 + k ≡ k = omega arith in ap (λ n. counts sig n cs) e
      counts_terms (more t ts) k cs h =
          let e : (1 + count ts) + k ≡ suc (count ts + k) = omega arith in
          ap₂ (λ n l. counts sig n l) e (append_assoc (codes t) (codes_all ts) cs)
          ∙ counts_term t (count ts + k) (codes_all ts ++ cs) (fst_of (over sig t) _ h)
          ∙ counts_terms ts k cs (snd_of (over sig t) _ h)

    pub term_counts : (t : Term) → T (over sig t) → counts sig 1 (codes t) ≡ true
    term_counts t h = ap (λ l. counts sig 1 l) (sym (append-nil (codes t))) ∙ counts_term t 0 [] h

    pub counting : (cs : List ℕ) → T (counts sig 1 cs) ↔ ((t : Term) × T (over sig t) × (codes t ≡ cs))
    counting cs = (
      λ h. (term_of sig cs, counted_over cs h, counted_codes cs h),
      λ p. subst (λ l. T (counts sig 1 l)) p.2 (subst (λ b. T b) (sym (term_counts p.0 p.1)) tt),
    )

    var_stack : (v : ℕ) (ts : Terms) (b : Bool) → ltb (32768 + v) 32768 ≡ b
        → cond b (more (app (32768 + v) (front (get_or sig (32768 + v) 0) ts)) (back (get_or sig (32768 + v) 0) ts)) (more (var (32768 + v - 32768)) ts) ≡ more (var v) ts
    var_stack v ts true e = let lt = ltb-true (32768 + v) 32768 e in let z : ⊥ = omega arith in absurd z
    var_stack v ts false e = let w : 32768 + v - 32768 ≡ v = omega arith in ap (λ x. more (var x) ts) w

    app_stack : (f : ℕ) (ts : Terms) (b : Bool) → f < 32768 → ltb f 32768 ≡ b
        → cond b (more (app f (front (get_or sig f 0) ts)) (back (get_or sig f 0) ts)) (more (var (f - 32768)) ts) ≡ more (app f (front (get_or sig f 0) ts)) (back (get_or sig f 0) ts)
    app_stack f ts true lt e = refl
    app_stack f ts false lt e = let ge = ltb-false f 32768 e in let z : ⊥ = omega arith in absurd z

    front-joined : (ts us : Terms) (n : ℕ) → count ts ≡ n → front n (joined ts us) ≡ ts
    front-joined none us zero e = refl
    front-joined none us (suc n) e = let z : ⊥ = omega arith in absurd z
    front-joined (more t ts) us zero e = let z : ⊥ = omega arith in absurd z
    front-joined (more t ts) us (suc n) e = ap (more t) (front-joined ts us n (omega arith))

    back-joined : (ts us : Terms) (n : ℕ) → count ts ≡ n → back n (joined ts us) ≡ us
    back-joined none us zero e = refl
    back-joined none us (suc n) e = let z : ⊥ = omega arith in absurd z
    back-joined (more t ts) us zero e = let z : ⊥ = omega arith in absurd z
    back-joined (more t ts) us (suc n) e = back-joined ts us n (omega arith)

    mutual
      pub stack_term : (t : Term) (cs : List ℕ) → T (over sig t) → stack sig (codes t ++ cs) ≡ more t (stack sig cs)
      stack_term (var v) cs h = var_stack v (stack sig cs) (ltb (32768 + v) 32768) refl
      stack_term (app f ts) cs h =
          let head = ltb f (length sig) && eqb (count ts) (get_or sig f 0) in
          let inside : f < length sig = ltb→lt f (length sig) (fst_of (ltb f (length sig)) _ (fst_of head (over_all sig ts) h)) in
          let lt : f < 32768 = omega arith in
          let n : count ts ≡ get_or sig f 0 = eqb→eq (count ts) (get_or sig f 0) (snd_of (ltb f (length sig)) _ (fst_of head (over_all sig ts) h)) in
          let rest = stack sig cs in
          app_stack f (stack sig (codes_all ts ++ cs)) (ltb f 32768) lt refl
          ∙ ap (λ us. more (app f (front (get_or sig f 0) us)) (back (get_or sig f 0) us)) (stack_terms ts cs (snd_of head (over_all sig ts) h))
          ∙ ap₂ (λ us ws. more (app f us) ws) (front-joined ts rest (get_or sig f 0) n) (back-joined ts rest (get_or sig f 0) n)

      pub stack_terms : (ts : Terms) (cs : List ℕ) → T (over_all sig ts) → stack sig (codes_all ts ++ cs) ≡ joined ts (stack sig cs)
      stack_terms none cs h = refl
      stack_terms (more t ts) cs h =
          ap (stack sig) (append_assoc (codes t) (codes_all ts) cs)
          ∙ stack_term t (codes_all ts ++ cs) (fst_of (over sig t) _ h)
          ∙ ap (more t) (stack_terms ts cs (snd_of (over sig t) _ h))

    -- a term is read back from its codes
    pub term_of_codes : (t : Term) → T (over sig t) → term_of sig (codes t) ≡ t
    term_of_codes t h = ap (λ l. top (stack sig l)) (sym (append-nil (codes t))) ∙ ap top (stack_term t [] h)
