-- The plain job has no other answers: what it may answer to a call is what the job answers.
use Rattle.std.proofs.Common.{◌≡◌, ℕ, ◌<◌, ◌≤◌, Bool, true, false, cond, T, List, [], ◌∷◌, length, Some, None, Ok, Err, Option, Result, eqb, sym, refl, ap, ◌∙◌, subst, arith, length-append, inl, inr}
use Rattle.std.proofs.lemmas.Bool.{eqb-true, eq-eqb, cases_lt}
use Rattle.terms.specs.Limits.{most_term}
use Rattle.terms.specs.Terms.{Term, size}
use Rattle.terms.specs.Rules.{Rule}
use Rattle.terms.specs.Codes.{is_term, term_of}
use Rattle.terms.specs.Steps.{Step, First, FirstRedex}
use Rattle.rewriting.specs.declared.fault.RewriteFault.{RewriteFault}
use Rattle.rewriting.specs.declared.fault.RewriteFault.TheVariants as fault
use Rattle.rewriting.specs.Replies.{answer, codes_after}
use Rattle.rewriting.specs.Laws.{Rewrites}
use Rattle.rewriting.proofs.Stepwise.{numbered_below, step_inside, step_once}
use Rattle.job_calls.specs.declared.fault.JobFault.{JobFault}
use Rattle.job_calls.specs.declared.fault.JobFault.TheVariants.{OtherGrant, Rewrite, Spent}
use Rattle.job_calls.specs.Calls.{State, moved, following, against, step_reply}
use Rattle.job_calls.specs.Plain.{Given, Of, added, Steps}
use Rattle.job_calls.specs.Runs.{given, term_in}
use Rattle.job_calls.proofs.States.{sized, short, rewrites, next_term, room_left}
use Rattle.job_calls.proofs.Stepping.{Kept, goes, has_rule, has_place}

-- an answer is the one that was computed, and the plain job has its term and count
pub record Same (o : Given) {A : Type 0} (r : A × State) (a : A) (q : Of o) : Type 0 where
  pub answer_is : a ≡ r.0
  pub last : q.last ≡ term_in r.1
  pub count : length q.numbers ≡ r.1.count

module _ (s : State) (start : Term) (p : Of (given s start)) (kept : Kept 0 (given s start) s p) where
  module _ (g n at : ℕ) where
    abbrev pub Sure : Result (Unit {0}) JobFault × State → Result (Unit {0}) JobFault → Of (given s start) → Type 0
    Sure = Same (given s start)

    alike : (e : JobFault) → Sure (Err e, s) (Err e) p
    alike e = record { answer_is = refl; last = kept.last; count = (let k = kept.count in omega arith) }

    unspent : (u : Term) → Step s.rules n at (term_in s) u → (r : Result (Unit {0}) JobFault × State) (a : Result (Unit {0}) JobFault) (q : Of (given s start)) → Sure r a q → Sure (cond (eqb s.count s.reserve) (Err Spent, s) r) a q
    unspent u x r a q f = go (eqb s.count s.reserve) refl
      where
        go : (b : Bool) → eqb s.count s.reserve ≡ b → Sure (cond b (Err Spent, s) r) a q
        go true e = absurd (let l = room_left s kept.lasts n at u x in let k = eqb-true s.count s.reserve e in omega arith)
        go false e = f

    -- with the job's grant
    granted : g ≡ s.number → (a : Result (Unit {0}) JobFault) (q : Of (given s start)) → Sure (against s (following s n at)) a q → Sure (step_reply s g n at) a q
    granted e a q f = go (eqb g s.number) refl
      where
        go : (b : Bool) → eqb g s.number ≡ b → Sure (cond b (against s (following s n at)) (Err OtherGrant, s)) a q
        go true t = f
        go false t = absurd (let k = eq-eqb g s.number e in cc)

    -- what is known of the next codes
    record Known (r : Result (List ℕ) RewriteFault) : Type 0 where
      pub is : following s n at ≡ r
      pub law : Rewrites s.rules (term_in s) n at (answer r) (term_of s.arities (codes_after s.codes r))
      pub term : T (is_term s.arities (codes_after s.codes r))

    known : Known (following s n at)
    known = record { is = refl; law = rewrites s kept.sound n at; term = next_term s kept.sound n at }

    here : (u : Term) → Step s.rules n at p.last u → Step s.rules n at (term_in s) u
    here u x = subst (λ t. Step s.rules n at t u) kept.last x

    size_is : size p.last ≡ length s.codes
    size_is = ap size kept.last ∙ sized s kept.sound

    once : (u v : Term) → Step s.rules n at (term_in s) u → Step s.rules n at (term_in s) v → u ≡ v
    once u v x y = step_once s.arities s.rules kept.sound.rules_fine n at (term_in s) u v x y

    in_rules : (u : Term) → Step s.rules n at (term_in s) u → n < length s.rules
    in_rules u x = numbered_below s.rules n x.rule x.listed

    inside : (u : Term) → Step s.rules n at (term_in s) u → at < size (term_in s)
    inside u x = step_inside s.rules n at (term_in s) u x

    no_rule : length s.rules ≤ n → (r : Result (List ℕ) RewriteFault) → Known r → Sure (against s r) (Err (Rewrite fault.NoRule)) p
    no_rule h (Ok cs) k = absurd (let l = in_rules _ k.law.told in omega arith)
    no_rule h (Err fault.Malformed) k = absurd k.law.told
    no_rule h (Err fault.NoRule) k = alike (Rewrite fault.NoRule)
    no_rule h (Err fault.NoPlace) k = absurd (let e = k.is in let l = has_rule s.arities s.rules s.codes n at (λ x. cc) in omega arith)
    no_rule h (Err fault.NoMatch) k = absurd (let e = k.is in let l = has_rule s.arities s.rules s.codes n at (λ x. cc) in omega arith)
    no_rule h (Err fault.TooLong) k = absurd (let l = in_rules _ k.law.told.1.1 in omega arith)

    no_place : n < length s.rules → size p.last ≤ at → (r : Result (List ℕ) RewriteFault) → Known r → Sure (against s r) (Err (Rewrite fault.NoPlace)) p
    no_place l h (Ok cs) k = absurd (let a = inside _ k.law.told in let b = ap size kept.last in omega arith)
    no_place l h (Err fault.Malformed) k = absurd k.law.told
    no_place l h (Err fault.NoRule) k = absurd (let a = k.law.told.1 in omega arith)
    no_place l h (Err fault.NoPlace) k = alike (Rewrite fault.NoPlace)
    no_place l h (Err fault.NoMatch) k =
        absurd (let e = k.is in let a = has_place s.arities s.rules s.codes n at (λ x. cc) (λ x. cc) in let b = size_is in omega arith)
    no_place l h (Err fault.TooLong) k = absurd (let a = inside _ k.law.told.1.1 in let b = ap size kept.last in omega arith)

    no_match : n < length s.rules → at < size p.last → ((u : Term) → Step s.rules n at p.last u → ⊥) → (r : Result (List ℕ) RewriteFault) → Known r → Sure (against s r) (Err (Rewrite fault.NoMatch)) p
    no_match l i h (Ok cs) k = absurd (h _ (subst (λ t. Step s.rules n at t (term_of s.arities cs)) (sym kept.last) k.law.told))
    no_match l i h (Err fault.Malformed) k = absurd k.law.told
    no_match l i h (Err fault.NoRule) k = absurd (let a = k.law.told.1 in omega arith)
    no_match l i h (Err fault.NoPlace) k = absurd (let a = k.law.told.1 in let b = ap size kept.last in omega arith)
    no_match l i h (Err fault.NoMatch) k = alike (Rewrite fault.NoMatch)
    no_match l i h (Err fault.TooLong) k = absurd (h k.law.told.1.0 (subst (λ t. Step s.rules n at t k.law.told.1.0) (sym kept.last) k.law.told.1.1))

    too_long : (u : Term) → Step s.rules n at (term_in s) u → most_term < size u → (r : Result (List ℕ) RewriteFault) → Known r → Sure (against s r) (Err (Rewrite fault.TooLong)) p
    too_long u x h (Ok cs) k =
        let l = goes 0 s start p kept cs n at k.law.told k.term in
        absurd (let e = ap size (once u (term_of s.arities cs) x k.law.told) in let a = sized (moved s cs) l.sound in let b = short (moved s cs) l.sound in omega arith)
    too_long u x h (Err fault.Malformed) k = absurd k.law.told
    too_long u x h (Err fault.NoRule) k = absurd (let a = k.law.told.1 in let b = in_rules u x in omega arith)
    too_long u x h (Err fault.NoPlace) k = absurd (let a = k.law.told.1 in let b = inside u x in omega arith)
    too_long u x h (Err fault.NoMatch) k = absurd (k.law.told.1 u x)
    too_long u x h (Err fault.TooLong) k = unspent u x (Err (Rewrite fault.TooLong), s) (Err (Rewrite fault.TooLong)) p (alike (Rewrite fault.TooLong))

    stepped : (u : Term) (y : Step s.rules n at p.last u) → size u ≤ most_term → (r : Result (List ℕ) RewriteFault) → Known r → Sure (against s r) (Ok tt) (added p y)
    stepped u y h (Ok cs) k =
        unspent u (here u y) (Ok tt, moved s cs) (Ok tt) (added p y)
        (record {
          answer_is = refl;
          last = once u (term_of s.arities cs) (here u y) k.law.told;
          count = (let a = kept.count in let b = length-append p.numbers (n ∷ []) in omega arith);
        })
    stepped u y h (Err e) k = absurd (let m = (k.law.made u (here u y) h).0 in cc)

    pub step_only : (a : Result (Unit {0}) JobFault) (q : Of (given s start)) → Steps (given s start) p g n at a q → Sure (step_reply s g n at) a q
    step_only a q (Steps.other_grant h) = go (eqb g s.number) refl
      where
        go : (b : Bool) → eqb g s.number ≡ b → Sure (cond b (against s (following s n at)) (Err OtherGrant, s)) (Err OtherGrant) p
        go true t = absurd (h (eqb-true g s.number t))
        go false t = alike OtherGrant
    step_only a q (Steps.no_rule e h) = granted e a q (no_rule h (following s n at) known)
    step_only a q (Steps.no_place e l h) = granted e a q (no_place l h (following s n at) known)
    step_only a q (Steps.no_match e l i h) = granted e a q (no_match l i h (following s n at) known)
    step_only a q (Steps.too_long e u x h) = granted e a q (too_long u (here u x) h (following s n at) known)
    step_only a q (Steps.stepped e u x h) = granted e a q (stepped u x h (following s n at) known)

-- there is one first redex, or none
first_place : (rules : List Rule) (t : Term) (p n q m : ℕ) → First rules t p n → First rules t q m → q < p → ⊥
first_place rules t p n q m f g h = f.no_place_below q m g.next h g.step

first_rule : (rules : List Rule) (t : Term) (p n m : ℕ) → First rules t p n → First rules t p m → m < n → ⊥
first_rule rules t p n m f g h = f.no_rule_below m g.next h g.step

one_place : (rules : List Rule) (t : Term) (p n q m : ℕ) → First rules t p n → First rules t q m → p ≡ q
one_place rules t p n q m f g =
    elim (cases_lt p q) [
      | inl lt ↦ absurd (first_place rules t q m p n g f lt)
      | inr ge ↦ elim (cases_lt q p) [
        | inl lt ↦ absurd (first_place rules t p n q m f g lt)
        | inr le ↦ omega arith
      ]
    ]

one_rule : (rules : List Rule) (t : Term) (p n m : ℕ) → First rules t p n → First rules t p m → n ≡ m
one_rule rules t p n m f g =
    elim (cases_lt n m) [
      | inl lt ↦ absurd (first_rule rules t p m n g f lt)
      | inr ge ↦ elim (cases_lt m n) [
        | inl lt ↦ absurd (first_rule rules t p n m f g lt)
        | inr le ↦ omega arith
      ]
    ]

one_redex : (rules : List Rule) (t : Term) (p n q m : ℕ) → First rules t p n → First rules t q m → ◌≡◌ {A = ℕ × ℕ} (p, n) (q, m)
one_redex rules t p n q m f g =
    let e = one_place rules t p n q m f g in
    let r = one_rule rules t q n m (subst (λ p. First rules t p n) e f) g in
    ap (λ p. (p, n)) e ∙ ap (λ n. (q, n)) r

pub first_unique : (rules : List Rule) (t : Term) (a b : Option (ℕ × ℕ)) → FirstRedex rules t a → FirstRedex rules t b → a ≡ b
first_unique rules t None None h k = refl
first_unique rules t None (Some m) h k = absurd (h m.1 m.0 k.next k.step)
first_unique rules t (Some m) None h k = absurd (k m.1 m.0 h.next h.step)
first_unique rules t (Some m) (Some l) h k = ap (λ r. Some r) (one_redex rules t m.0 m.1 l.0 l.1 h k)
