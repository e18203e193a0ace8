-- The plain job's walk is the job's sweep.
use Rattle.std.proofs.Common.{◌≡◌, ℕ, zero, suc, ◌+◌, ◌<◌, ◌≤◌, Bool, true, false, cond, T, List, [], ◌∷◌, Some, None, Ok, Err, Result, eqb, refl, ap, ◌∙◌, subst, arith, length-append}
use Rattle.std.proofs.lemmas.Bool.{eqb-true, eq-eqb}
use Rattle.terms.specs.Limits.{most_term}
use Rattle.terms.specs.Terms.{Term, size}
use Rattle.terms.specs.Codes.{is_term, term_of}
use Rattle.terms.specs.Steps.{Step, Normal, First}
use Rattle.rewriting.specs.declared.fault.RewriteFault.{RewriteFault}
use Rattle.rewriting.specs.Replies.{answer, codes_after}
use Rattle.rewriting.specs.Laws.{Rewrites}
use Rattle.rewriting.proofs.Stepwise.{step_once}
use Rattle.job_calls.specs.declared.fault.JobFault.{JobFault}
use Rattle.job_calls.specs.declared.fault.JobFault.TheVariants.{OtherGrant}
use Rattle.job_calls.specs.declared.answer.End.{End}
use Rattle.job_calls.specs.declared.answer.End.TheVariants as end
use Rattle.job_calls.specs.declared.answer.Sweep.{Sweep}
use Rattle.job_calls.specs.Calls.{State, moved, following, first, made, at_first, advanced, stop, goes_on, swept_from, told, sweep_reply}
use Rattle.job_calls.specs.Plain.{Of, added, Walks, Sweeps}
use Rattle.job_calls.specs.Runs.{given, term_in}
use Rattle.job_calls.proofs.States.{sized, short, first_is, rewrites, next_term, room_left}
use Rattle.job_calls.proofs.Stepping.{Kept, goes}
use Rattle.job_calls.proofs.Only.{Same, first_unique}

-- a sweep's end and steps
abbrev pub swept_as : End → ℕ → Sweep
swept_as e k = record { end = e; steps = k }

module _ (s : State) (start : Term) (p : Of (given s start)) (kept : Kept 0 (given s start) s p) where
  abbrev pub Sure : Sweep × State → Sweep → Of (given s start) → Type 0
  Sure = Same (given s start)

  alike : (e : End) (k : ℕ) → Sure (swept_as e k, s) (swept_as e k) p
  alike e k = record { answer_is = refl; last = kept.last; count = (let c = kept.count in omega arith) }

  here : (n at : ℕ) (u : Term) → Step s.rules n at p.last u → Step s.rules n at (term_in s) u
  here n at u x = subst (λ t. Step s.rules n at t u) kept.last x

  own_first : (at n : ℕ) → First s.rules p.last at n → First s.rules (term_in s) at n
  own_first at n f = subst (λ t. First s.rules t at n) kept.last f

  -- what the search has found
  none_is : Normal s.rules p.last → None ≡ first s
  none_is h = first_unique s.rules (term_in s) None (first s) (subst (Normal s.rules) kept.last h) (first_is s kept.sound)

  some_is : (at n : ℕ) → First s.rules p.last at n → Some (at, n) ≡ first s
  some_is at n f = first_unique s.rules (term_in s) (Some (at, n)) (first s) (own_first at n f) (first_is s kept.sound)

  pub stops_normal : (k : ℕ) → Normal s.rules p.last → Sure (swept_as (stop (first s)) k, s) (swept_as end.Normal k) p
  stops_normal k h = subst (λ o. Sure (swept_as (stop o) k, s) (swept_as end.Normal k) p) (none_is h) (alike end.Normal k)

  pub stops_more : (k at n : ℕ) → First s.rules p.last at n → Sure (swept_as (stop (first s)) k, s) (swept_as end.More k) p
  stops_more k at n f = subst (λ o. Sure (swept_as (stop o) k, s) (swept_as end.More k) p) (some_is at n f) (alike end.More k)

  module _ (k : ℕ) (on : State → Sweep × State) where
    Goes : Result State End → Sweep → Of (given s start) → Type 0
    Goes r a q = Sure (goes_on k s on r) a q

    pub goes_normal : Normal s.rules p.last → Sure (goes_on k s on (advanced s)) (swept_as end.Normal k) p
    goes_normal h = subst (λ o. Sure (goes_on k s on (at_first s o)) (swept_as end.Normal k) p) (none_is h) (alike end.Normal k)

    -- by a redex that is the first, where the reserve is not used up
    by_redex : (at n : ℕ) → First s.rules p.last at n → (a : Sweep) (q : Of (given s start)) → Goes (made s (following s n at)) a q → Sure (goes_on k s on (advanced s)) a q
    unfolding Goes
    by_redex at n f a q g =
        let mine = own_first at n f in
        subst (λ o. Sure (goes_on k s on (at_first s o)) a q) (some_is at n f) (go mine.next mine.step (eqb s.count s.reserve) refl)
      where
        go : (u : Term) → Step s.rules n at (term_in s) u → (b : Bool) → eqb s.count s.reserve ≡ b → Sure (goes_on k s on (cond b (Err end.Spent) (made s (following s n at)))) a q
        go u x true e = absurd (let l = room_left s kept.lasts n at u x in let r = eqb-true s.count s.reserve e in omega arith)
        go u x false e = g

    module _ (n at : ℕ) where
      once : (u v : Term) → Step s.rules n at (term_in s) u → Step s.rules n at (term_in s) v → u ≡ v
      once u v x y = step_once s.arities s.rules kept.sound.rules_fine n at (term_in s) u v x y

      Law : Result (List ℕ) RewriteFault → Type 0
      Law r = Rewrites s.rules (term_in s) n at (answer r) (term_of s.arities (codes_after s.codes r)) × T (is_term s.arities (codes_after s.codes r))

      by_long : (u : Term) → Step s.rules n at (term_in s) u → most_term < size u → (r : Result (List ℕ) RewriteFault) → Law r → Goes (made s r) (swept_as end.TooLong k) p
      unfolding Goes Law
      by_long u x h (Ok cs) w =
          let l = goes 0 s start p kept cs n at w.0.told w.1 in
          absurd (let e = ap size (once u (term_of s.arities cs) x w.0.told) in let a = sized (moved s cs) l.sound in let b = short (moved s cs) l.sound in omega arith)
      by_long u x h (Err e) w = alike end.TooLong k

      pub goes_long : First s.rules p.last at n → (u : Term) → Step s.rules n at p.last u → most_term < size u → Sure (goes_on k s on (advanced s)) (swept_as end.TooLong k) p
      unfolding Law
      goes_long f u x h = by_redex at n f (swept_as end.TooLong k) p (by_long u (here n at u x) h (following s n at) (rewrites s kept.sound n at, next_term s kept.sound n at))

      module _ (u : Term) (y : Step s.rules n at p.last u) (fits : size u ≤ most_term) (a : Sweep) (q : Of (given s start))
          (more : (cs : List ℕ) → Kept 0 (given s start) (moved s cs) (added p y) → Sure (on (moved s cs)) a q) where
        by_step : (r : Result (List ℕ) RewriteFault) → Law r → Goes (made s r) a q
        unfolding Goes Law
        by_step (Ok cs) w =
            let x : Step s.rules n at (term_in s) (term_of s.arities cs) = w.0.told in
            let l = goes 0 s start p kept cs n at x w.1 in
            more cs (record {
              same = refl;
              sound = l.sound;
              lasts = l.lasts;
              last = once u (term_of s.arities cs) (here n at u y) x;
              count = (let c = kept.count in let b = length-append p.numbers (n ∷ []) in omega arith);
            })
        by_step (Err e) w = absurd (let m = (w.0.made u (here n at u y) fits).0 in cc)

        pub goes_step : First s.rules p.last at n → Sure (goes_on k s on (advanced s)) a q
        unfolding Law
        goes_step f = by_redex at n f a q (by_step (following s n at) (rewrites s kept.sound n at, next_term s kept.sound n at))

pub walk_only : (n k : ℕ) (s : State) (start : Term) (p : Of (given s start)) → Kept 0 (given s start) s p → (e : End) (m : ℕ) (q : Of (given s start)) → Walks (given s start) p n e m q
    → Same (given s start) (swept_from n k s) (swept_as e (k + m)) q
walk_only zero k s start p kept e m q (Walks.normal h) = subst (λ j. Same (given s start) (swept_from zero k s) (swept_as end.Normal j) p) (omega arith) (stops_normal s start p kept k h)
walk_only zero k s start p kept e m q (Walks.more {at = at} {k = r} f) = subst (λ j. Same (given s start) (swept_from zero k s) (swept_as end.More j) p) (omega arith) (stops_more s start p kept k at r f)
walk_only (suc n) k s start p kept e m q (Walks.normal h) =
    subst (λ j. Same (given s start) (swept_from (suc n) k s) (swept_as end.Normal j) p) (omega arith) (goes_normal s start p kept k (swept_from n (suc k)) h)
walk_only (suc n) k s start p kept e m q (Walks.too_long {at = at} {k = r} {u = u} f x h) =
    subst (λ j. Same (given s start) (swept_from (suc n) k s) (swept_as end.TooLong j) p) (omega arith) (goes_long s start p kept k (swept_from n (suc k)) r at f u x h)
walk_only (suc n) k s start p kept e m q (Walks.on {m = l} {at = at} {k = r} {u = u} f y fits w) =
    subst (λ j. Same (given s start) (swept_from (suc n) k s) (swept_as e j) q) (omega arith)
    (goes_step s start p kept k (swept_from n (suc k)) r at u y fits (swept_as e (suc k + l)) q
    (λ cs kept'. walk_only n (suc k) (moved s cs) start (added p y) kept' e l q w) f)

module _ (s : State) (start : Term) (p : Of (given s start)) (kept : Kept 0 (given s start) s p) (g n : ℕ) where
  pub sweep_only : (a : Result Sweep JobFault) (q : Of (given s start)) → Sweeps (given s start) p g n a q → Same (given s start) (sweep_reply s g n) a q
  sweep_only a q (Sweeps.other_grant h) = go (eqb g s.number) refl
    where
      go : (b : Bool) → eqb g s.number ≡ b → Same (given s start) (cond b (told (swept_from n 0 s)) (Err OtherGrant, s)) (Err OtherGrant) p
      go true t = absurd (h (eqb-true g s.number t))
      go false t = record { answer_is = refl; last = kept.last; count = (let c = kept.count in omega arith) }
  sweep_only a q (Sweeps.swept {e = e} {m = m} grant w) = go (eqb g s.number) refl
    where
      go : (b : Bool) → eqb g s.number ≡ b → Same (given s start) (cond b (told (swept_from n 0 s)) (Err OtherGrant, s)) (Ok (swept_as e m)) q
      go true t =
          let f = walk_only n 0 s start p kept e m q w in
          record { answer_is = ap (λ x. Ok x) (ap (swept_as e) (omega arith) ∙ f.answer_is); last = f.last; count = f.count }
      go false t = absurd (let k = eq-eqb g s.number grant in cc)
