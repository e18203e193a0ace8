-- How many codes a subterm takes is found by counting.
use Rattle.std.proofs.Common.{◌≡◌, ℕ, zero, suc, ◌+◌, ◌-◌, ◌<◌, ◌≤◌, Bool, true, false, cond, T, ltb, List, [], ◌∷◌, length, get_or, drop, refl, ap, ◌∙◌, arith}
use Rattle.std.proofs.lemmas.Bool.{ltb-true, ltb-false, le-leb}
use Rattle.std.proofs.lemmas.List.{at_drop_more, at_drop_all}
use Rattle.terms.specs.Terms.{Terms, Term.var, Term.app, Terms.none, Terms.more, size, size_all}
use Rattle.terms.specs.Codes.{arity, known, counts, is_term, span, front, back, stack, rest_at, sub_at}
use Rattle.terms.specs.Replies.{span_reply}
use Rattle.terms.proofs.Booleans.{snd_of}
use Rattle.terms.proofs.Counting.{arity_variable, arity_symbol}
use Rattle.terms.proofs.Readings.{reads}
use Rattle.terms.proofs.Views.{counted, short, drops, some_at, size_first}

front_none : (n : ℕ) → size_all (front n none) ≡ 0
front_none zero = refl
front_none (suc n) = refl

front_split : (a j : ℕ) (ts : Terms) → size_all (front (j + a) ts) ≡ size_all (front a ts) + size_all (front j (back a ts))
front_split zero j ts = let e : j + 0 ≡ j = omega arith in let f = ap (λ n. size_all (front n ts)) e in omega arith
front_split (suc a) j none = let x = front_none (j + suc a) in let y = front_none j in omega arith
front_split (suc a) j (more t ts) =
    let e : j + suc a ≡ suc (j + a) = omega arith in
    let x = ap (λ n. size_all (front n (more t ts))) e in
    let ih = front_split a j ts in
    omega arith

module _ (sig : List ℕ) where
  span_code : (k c : ℕ) (ts : Terms) (b : Bool) → ltb c 32768 ≡ b
      → 1 + size_all (front (k + arity sig c) ts) ≡ size_all (front (suc k) (cond b (more (app c (front (get_or sig c 0) ts)) (back (get_or sig c 0) ts)) (more (var (c - 32768)) ts)))
  span_code k c ts true e =
      let a = ap (λ n. size_all (front (k + n) ts)) (arity_symbol sig c (ltb-true c 32768 e)) in
      let f = front_split (get_or sig c 0) k ts in
      omega arith
  span_code k c ts false e =
      let n : k + arity sig c ≡ k = let a = arity_variable sig c (ltb-false c 32768 e) in omega arith in
      ap (λ m. 1 + size_all (front m ts)) n

  -- the codes of the first terms of a stack
  span_reads : (cs : List ℕ) (k m : ℕ) → T (counts sig m cs) → k ≤ m → span sig k cs ≡ size_all (front k (stack sig cs))
  span_reads cs zero m h le = refl
  span_reads [] (suc k) zero h le = let z : ⊥ = omega arith in absurd z
  span_reads [] (suc k) (suc m) h le = absurd h
  span_reads (c ∷ cs) (suc k) zero h le = absurd h
  span_reads (c ∷ cs) (suc k) (suc m) h le =
      let ih = span_reads cs (k + arity sig c) (m + arity sig c) (snd_of (known sig c) _ h) (omega arith) in
      ap (λ n. 1 + n) ih ∙ span_code k c (stack sig cs) (ltb c 32768) refl

  pub span-at : (cs : List ℕ) → T (is_term sig cs) → (i : ℕ) → i < length cs → span sig 1 (drop i cs) ≡ size (sub_at sig cs i)
  span-at cs ok i h =
      let d = drops sig cs 1 i (counted sig cs ok) in
      let some = some_at sig cs ok i h in
      let many = (reads sig (drop i cs) d.0 d.1).many in
      span_reads (drop i cs) 1 d.0 d.1 (omega arith) ∙ size_first (rest_at sig cs i) some

  -- the count, code by code
  span-step : (need c : ℕ) (cs : List ℕ) → 0 < need → span sig need (c ∷ cs) ≡ 1 + span sig (need - 1 + arity sig c) cs
  span-step zero c cs h = let z : ⊥ = omega arith in absurd z
  span-step (suc k) c cs h = let e : k + arity sig c ≡ suc k - 1 + arity sig c = omega arith in ap (λ n. 1 + span sig n cs) e

  span_nil : (need : ℕ) → span sig need [] ≡ 0
  span_nil zero = refl
  span_nil (suc k) = refl

  pub span_more : (cs : List ℕ) (need i : ℕ) → 0 < need → i < length cs → span sig need (drop i cs) ≡ 1 + span sig (need - 1 + arity sig (get_or cs i 0)) (drop (i + 1) cs)
  span_more cs need i h k = at_drop_more (span sig need) cs i 0 k ∙ span-step need (get_or cs i 0) (drop (i + 1) cs) h

  pub span_past : (cs : List ℕ) (need i : ℕ) → length cs ≤ i → span sig need (drop i cs) ≡ 0
  span_past cs need i h = at_drop_all (span sig need) cs i h ∙ span_nil need

  pub span_met : (cs : List ℕ) (need i : ℕ) → need ≡ 0 → span sig need (drop i cs) ≡ 0
  span_met cs need i e = ap (λ n. span sig n (drop i cs)) e

  -- the answer of the call, for a place of a term
  pub span_is : (cs : List ℕ) → T (is_term sig cs) → (i : ℕ) → i < length cs → span_reply sig cs i ≡ size (sub_at sig cs i)
  span_is cs ok i h = ap (λ b. cond b (span sig 1 (drop i cs)) 0) (le-leb (length cs) 1024 (short sig cs ok)) ∙ span-at cs ok i h
