-- A step is the plain job's, and no cut-off.
use Rattle.std.proofs.Common.{◌≡◌, ℕ, ◌+◌, ◌<◌, Bool, true, false, cond, T, List, [], ◌∷◌, length, Ok, Err, Result, eqb, ltb, sym, refl, ap, ◌∙◌, subst, arith, length-append}
use Rattle.std.specs.Prelude.{◌≢◌}
use Rattle.std.proofs.lemmas.Bool.{eqb-true, eq-eqb, ltb-true}
use Rattle.terms.specs.Rules.{Rule}
use Rattle.terms.specs.Terms.{Term, size}
use Rattle.terms.specs.Codes.{is_term, term_of}
use Rattle.terms.specs.Steps.{Step}
use Rattle.rewriting.specs.declared.fault.RewriteFault.{RewriteFault}
use Rattle.rewriting.specs.declared.fault.RewriteFault.TheVariants as fault
use Rattle.rewriting.specs.Replies.{answer, codes_after, stepped, rewritten, rule_at}
use Rattle.rewriting.specs.Laws.{Rewrites}
use Rattle.job_calls.specs.declared.fault.JobFault.{JobFault}
use Rattle.job_calls.specs.declared.fault.JobFault.TheVariants.{OtherGrant, Rewrite, Spent}
use Rattle.job_calls.specs.Calls.{State, moved, following, against, step_reply}
use Rattle.job_calls.specs.Plain.{Given, Of, added, Steps}
use Rattle.job_calls.specs.Runs.{Sound, Lasts, given, term_in, UncutResult}
use Rattle.job_calls.proofs.States.{sized, short, rewrites, next_term, room_left, sound_moved, lasts_moved}

-- a plain job of what a state was opened with has the state's term and, c steps apart, its count; the state is as good as
-- one that was opened in full
pub record Kept (c : ℕ) (o : Given) (s : State) (q : Of o) : Type 0 where
  pub same : given s o.start ≡ o
  pub sound : Sound s
  pub lasts : Lasts s
  pub last : q.last ≡ term_in s
  pub count : c + length q.numbers ≡ s.count

-- a rewrite that is not refused for its rule is by a rule of the system, and one not refused for its place at a place of the term
module _ (sig : List ℕ) (rules : List Rule) (cs : List ℕ) (n at : ℕ) where
  reply : Bool → Bool → Result (List ℕ) RewriteFault
  reply a b = cond a (cond b (stepped sig cs at (rule_at rules n)) (Err fault.NoPlace)) (Err fault.NoRule)

  listed : (a b : Bool) → ltb n (length rules) ≡ a → reply a b ≢ Err fault.NoRule → n < length rules
  unfolding reply
  listed true b p h = ltb-true n (length rules) p
  listed false b p h = absurd (h refl)

  placed : (a b : Bool) → ltb at (length cs) ≡ b → reply a b ≢ Err fault.NoRule → reply a b ≢ Err fault.NoPlace → at < length cs
  unfolding reply
  placed a true p h k = ltb-true at (length cs) p
  placed true false p h k = absurd (k refl)
  placed false false p h k = absurd (h refl)

  pub has_rule : rewritten sig rules cs n at ≢ Err fault.NoRule → n < length rules
  unfolding reply
  has_rule h = listed (ltb n (length rules)) (ltb at (length cs)) refl h

  pub has_place : rewritten sig rules cs n at ≢ Err fault.NoRule → rewritten sig rules cs n at ≢ Err fault.NoPlace → at < length cs
  unfolding reply
  has_place h k = placed (ltb n (length rules)) (ltb at (length cs)) refl h k

-- the plain job's answer to a step, with what it leaves
pub record StepFollows (c : ℕ) (s : State) (start : Term) (p : Of (given s start)) (g n at : ℕ) (r : Result (Unit {0}) JobFault × State) : Type 0 where
  pub plain : Of (given s start)
  pub steps : Steps (given s start) p g n at r.0 plain
  pub kept : Kept c (given s start) r.1 plain
  pub uncut : UncutResult r.0

module _ (c : ℕ) (s : State) (start : Term) (p : Of (given s start)) (kept : Kept c (given s start) s p) where
  sound : Sound s
  sound = kept.sound

  lasts : Lasts s
  lasts = kept.lasts

  -- one step more leaves a plain job of one step more
  module _ (cs : List ℕ) (n at : ℕ) (x : Step s.rules n at (term_in s) (term_of s.arities cs)) (ok : T (is_term s.arities cs)) where
    pub own : Step s.rules n at p.last (term_of s.arities cs)
    own = subst (λ t. Step s.rules n at t (term_of s.arities cs)) (sym kept.last) x

    pub goes : Kept c (given s start) (moved s cs) (added p own)
    goes = record {
      same = refl;
      sound = sound_moved s sound lasts cs n at x ok;
      lasts = lasts_moved s sound lasts cs n at x;
      last = refl;
      count = (let k = kept.count in let l = length-append p.numbers (n ∷ []) in omega arith);
    }

  module _ (g n at : ℕ) where
    Follow : Result (Unit {0}) JobFault × State → Type 0
    Follow = StepFollows c s start p g n at

    refused : (e : JobFault) → Steps (given s start) p g n at (Err e) p → UncutResult {X = Unit {0}} (Err e) → Follow (Err e, s)
    unfolding Follow
    refused e x u = record { plain = p; steps = x; kept = kept; uncut = u }

    module _ (own_grant : g ≡ s.number) where
      -- where a step is possible, the reserve is not used up
      unspent : (n at : ℕ) (u : Term) → Step s.rules n at (term_in s) u → (r : Result (Unit {0}) JobFault × State) → Follow r → Follow (cond (eqb s.count s.reserve) (Err Spent, s) r)
      unspent n at u x r f = go (eqb s.count s.reserve) refl
        where
          go : (b : Bool) → eqb s.count s.reserve ≡ b → Follow (cond b (Err Spent, s) r)
          go true e = absurd (let l = room_left s lasts n at u x in let k = eqb-true s.count s.reserve e in omega arith)
          go false e = f

      of_plain : (u : Term) → Step s.rules n at (term_in s) u → Step s.rules n at p.last u
      of_plain u x = subst (λ t. Step s.rules n at t u) (sym kept.last) x

      size_is : size p.last ≡ length s.codes
      size_is = ap size kept.last ∙ sized s sound

      by_next : (r : Result (List ℕ) RewriteFault) → following s n at ≡ r → Rewrites s.rules (term_in s) n at (answer r) (term_of s.arities (codes_after s.codes r)) → T (is_term s.arities (codes_after s.codes r)) → Follow (against s r)
      unfolding Follow
      by_next (Ok cs) e w ok =
          let x : Step s.rules n at (term_in s) (term_of s.arities cs) = w.told in
          let l = goes cs n at x ok in
          unspent n at (term_of s.arities cs) x (Ok tt, moved s cs) (record {
            plain = added p (own cs n at x ok);
            steps = Steps.stepped own_grant (term_of s.arities cs) (own cs n at x ok) (let a = sized (moved s cs) l.sound in let b = short (moved s cs) l.sound in omega arith);
            kept = l;
            uncut = tt;
          })
      by_next (Err fault.Malformed) e w ok = absurd w.told
      by_next (Err fault.NoRule) e w ok = refused (Rewrite fault.NoRule) (Steps.no_rule own_grant w.told.1) tt
      by_next (Err fault.NoPlace) e w ok =
          refused (Rewrite fault.NoPlace) (Steps.no_place own_grant (has_rule s.arities s.rules s.codes n at (λ k. cc)) (let a = w.told.1 in let b = ap size kept.last in omega arith)) tt
      by_next (Err fault.NoMatch) e w ok =
          refused (Rewrite fault.NoMatch) (Steps.no_match own_grant (has_rule s.arities s.rules s.codes n at (λ k. cc)) (let a = has_place s.arities s.rules s.codes n at (λ k. cc) (λ k. cc) in let b = size_is in omega arith)
          (λ u x. w.told.1 u (subst (λ t. Step s.rules n at t u) kept.last x))) tt
      by_next (Err fault.TooLong) e w ok =
          unspent n at w.told.1.0 w.told.1.1 (Err (Rewrite fault.TooLong), s) (refused (Rewrite fault.TooLong) (Steps.too_long own_grant w.told.1.0 (of_plain w.told.1.0 w.told.1.1) w.told.1.2) tt)

    pub step_follows : StepFollows c s start p g n at (step_reply s g n at)
    unfolding Follow
    step_follows = go (eqb g s.number) refl
      where
        go : (b : Bool) → eqb g s.number ≡ b → StepFollows c s start p g n at (cond b (against s (following s n at)) (Err OtherGrant, s))
        go true e = by_next (eqb-true g s.number e) (following s n at) refl (rewrites s sound n at) (next_term s sound n at)
        go false e = refused OtherGrant (Steps.other_grant (λ k. (let t = eq-eqb g s.number k in cc))) tt
