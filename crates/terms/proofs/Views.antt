-- What stands at a place of codes.
use Rattle.std.proofs.Common.{◌≡◌, ℕ, zero, suc, ◌+◌, ◌-◌, ◌<◌, ◌≤◌, cond, T, leb, List, [], ◌∷◌, length, get_or, drop, sym, refl, ap, ◌∙◌, subst, inl, inr, arith, ltb→lt, leb→le, length-drop}
use Rattle.std.proofs.lemmas.Bool.{lt-ltb, le-ltb, cases_lt}
use Rattle.std.proofs.lemmas.List.{at_drop_more, at_drop_all, drop_more}
use Rattle.terms.specs.Terms.{Term, Terms, Term.var, Term.app, Terms.none, Terms.more, count, size, size_all}
use Rattle.terms.specs.Contexts.{joined}
use Rattle.terms.specs.Codes.{arity, known, counts, is_term, front, back, stack, top, rest_at, sub_at}
use Rattle.terms.proofs.Booleans.{fst_of, snd_of}
use Rattle.terms.proofs.Counting.{known_symbol, known_variable, arity_symbol}
use Rattle.terms.proofs.Readings.{Reads, reads, count-front}
use Rattle.terms.proofs.Places.{length_codes_all}

pub joined_split : (n : ℕ) (ts : Terms) → joined (front n ts) (back n ts) ≡ ts
joined_split zero ts = refl
joined_split (suc n) none = refl
joined_split (suc n) (more t ts) = ap (more t) (joined_split n ts)

pub size_first : (ts : Terms) → 0 < count ts → size_all (front 1 ts) ≡ size (top ts)
size_first none h = let z : ⊥ = omega arith in absurd z
size_first (more t ts) h = omega arith

pub size_front : (args rest : Terms) (n m : ℕ) → count args + n ≡ m → size_all (front m (joined args rest)) ≡ size_all args + size_all (front n rest)
size_front none rest n m e = let s : m ≡ n = omega arith in ap (λ k. size_all (front k rest)) s ∙ (let z : size_all (front n rest) ≡ 0 + size_all (front n rest) = omega arith in z)
size_front (more t ts) rest n zero e = let z : ⊥ = omega arith in absurd z
size_front (more t ts) rest n (suc m) e = let ih = size_front ts rest n m (omega arith) in omega arith

pub count-joined_all : (ts us : Terms) → count (joined ts us) ≡ count ts + count us
count-joined_all none us = omega arith
count-joined_all (more t ts) us = let ih = count-joined_all ts us in omega arith

mutual
  pub size_positive : (t : Term) → 0 < size t
  size_positive (var v) = omega arith
  size_positive (app f ts) = omega arith

pub counts-parts : (sig : List ℕ) (k c : ℕ) (cs : List ℕ) → T (counts sig k (c ∷ cs)) → T (known sig c) × ((m : ℕ) × T (counts sig (m + arity sig c) cs))
counts-parts sig zero c cs h = absurd h
counts-parts sig (suc k) c cs h = (fst_of (known sig c) _ h, (k, snd_of (known sig c) _ h))

pub drops : (sig cs : List ℕ) (k i : ℕ) → T (counts sig k cs) → (m : ℕ) × T (counts sig m (drop i cs))
drops sig cs k zero h = (k, h)
drops sig [] k (suc i) h = (k, h)
drops sig (c ∷ cs) zero (suc i) h = absurd h
drops sig (c ∷ cs) (suc k) (suc i) h = drops sig cs (k + arity sig c) i (snd_of (known sig c) _ h)

module _ (sig cs : List ℕ) where
  pub record Symbol (i : ℕ) : Type 0 where
    pub args : Terms
    pub rest : Terms
    pub here : rest_at sig cs i ≡ more (app (get_or cs i 0) args) rest
    pub later : rest_at sig cs (i + 1) ≡ joined args rest
    pub many : count args ≡ get_or sig (get_or cs i 0) 0
    pub inside : get_or cs i 0 < length sig

  pub none_past : (i : ℕ) → 0 < count (rest_at sig cs i) → i < length cs
  none_past i h = elim (cases_lt i (length cs)) [
    | inl l ↦ l
    | inr g ↦ (let e : count (rest_at sig cs i) ≡ 0 = ap count (at_drop_all (stack sig) cs i g) in let z : ⊥ = omega arith in absurd z)
  ]

  pub variable_at : (i : ℕ) → i < length cs → 32768 ≤ get_or cs i 0 → rest_at sig cs i ≡ more (var (get_or cs i 0 - 32768)) (rest_at sig cs (i + 1))
  variable_at i h le =
      let c = get_or cs i 0 in
      let ts = rest_at sig cs (i + 1) in
      at_drop_more (stack sig) cs i 0 h
      ∙ ap (λ b. cond b (more (app c (front (get_or sig c 0) ts)) (back (get_or sig c 0) ts)) (more (var (c - 32768)) ts)) (le-ltb c 32768 le)

  module _ (ok : T (is_term sig cs)) where
    pub counted : T (counts sig 1 cs)
    counted = snd_of (leb (length cs) 1024) _ ok

    pub short : length cs ≤ 1024
    short = leb→le (length cs) 1024 (fst_of (leb (length cs) 1024) _ ok)

    pub reads_at : (i : ℕ) → (m : ℕ) × Reads sig m (drop i cs) (rest_at sig cs i)
    reads_at i = let d = drops sig cs 1 i counted in (d.0, reads sig (drop i cs) d.0 d.1)

    parts_at : (i : ℕ) → i < length cs → T (known sig (get_or cs i 0)) × ((m : ℕ) × T (counts sig (m + arity sig (get_or cs i 0)) (drop (i + 1) cs)))
    parts_at i h =
        let d = drops sig cs 1 i counted in
        counts-parts sig d.0 (get_or cs i 0) (drop (i + 1) cs) (subst (λ l. T (counts sig d.0 l)) (drop_more cs i 0 h) d.1)

    pub symbol_at : (i : ℕ) → i < length cs → get_or cs i 0 < 32768 → Symbol i
    symbol_at i h lt =
        let c = get_or cs i 0 in
        let n = get_or sig c 0 in
        let ts = rest_at sig cs (i + 1) in
        let p = parts_at i h in
        let r = reads sig (drop (i + 1) cs) (p.1.0 + arity sig c) p.1.1 in
        let many : count ts ≡ p.1.0 + n = r.many ∙ ap (λ a. p.1.0 + a) (arity_symbol sig c lt) in
        record {
          args = front n ts;
          rest = back n ts;
          here = at_drop_more (stack sig) cs i 0 h ∙ ap (λ b. cond b (more (app c (front n ts)) (back n ts)) (more (var (c - 32768)) ts)) (lt-ltb c 32768 lt);
          later = sym (joined_split n ts);
          many = count-front n p.1.0 ts many;
          inside = ltb→lt c (length sig) (subst (λ b. T b) (known_symbol sig c lt) p.0);
        }

    pub some_at : (i : ℕ) → i < length cs → 0 < count (rest_at sig cs i)
    some_at i h = elim (cases_lt (get_or cs i 0) 32768) [
      | inl l ↦ (let s = symbol_at i h l in let e = ap count s.here in omega arith)
      | inr g ↦ (let e = ap count (variable_at i h g) in omega arith)
    ]

    top-fits : (ts : Terms) → 0 < count ts → size (top ts) ≤ size_all ts
    top-fits none h = let z : ⊥ = omega arith in absurd z
    top-fits (more t ts) h = omega arith

    pub sub_fits : (i : ℕ) → i < length cs → i + size (sub_at sig cs i) ≤ length cs
    sub_fits i h =
        let r = reads_at i in
        let a = top-fits (rest_at sig cs i) (some_at i h) in
        let b = length_codes_all (rest_at sig cs i) in
        let e = ap length r.1.same in
        let d = length-drop i cs in
        omega arith

    -- no code is past the last variable
    pub low_at : length sig ≤ 32 → (i : ℕ) → i < length cs → get_or cs i 0 < 32776
    low_at few i h = elim (cases_lt (get_or cs i 0) 32768) [
      | inl l ↦ omega arith
      | inr g ↦ ltb→lt (get_or cs i 0) 32776 (subst (λ b. T b) (known_variable sig (get_or cs i 0) g) (parts_at i h).0)
    ]
