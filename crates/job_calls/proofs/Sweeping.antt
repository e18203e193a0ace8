-- A sweep is the plain job's walk, and its end no cut-off.
use Rattle.std.proofs.Common.{◌≡◌, ℕ, zero, suc, ◌+◌, ◌<◌, ◌≤◌, Bool, true, false, cond, T, List, Some, None, Ok, Err, Option, Result, eqb, sym, refl, ap, subst, arith}
use Rattle.std.proofs.lemmas.Bool.{eqb-true, eq-eqb}
use Rattle.terms.specs.Terms.{Term}
use Rattle.terms.specs.Codes.{is_term, term_of}
use Rattle.terms.specs.Steps.{Step, Normal, First, FirstRedex}
use Rattle.rewriting.specs.declared.fault.RewriteFault.{RewriteFault}
use Rattle.rewriting.specs.declared.fault.RewriteFault.TheVariants as fault
use Rattle.rewriting.specs.Replies.{answer, codes_after}
use Rattle.rewriting.specs.Laws.{Rewrites}
use Rattle.rewriting.proofs.Stepwise.{numbered_below, step_inside}
use Rattle.job_calls.specs.declared.fault.JobFault.{JobFault}
use Rattle.job_calls.specs.declared.fault.JobFault.TheVariants.{OtherGrant}
use Rattle.job_calls.specs.declared.answer.End.{End}
use Rattle.job_calls.specs.declared.answer.End.TheVariants as end
use Rattle.job_calls.specs.declared.answer.Sweep.{Sweep}
use Rattle.job_calls.specs.Calls.{State, moved, following, first, made, at_first, advanced, stop, goes_on, swept_from, told, sweep_reply}
use Rattle.job_calls.specs.Plain.{Of, added, Walks, Sweeps}
use Rattle.job_calls.specs.Runs.{Sound, Lasts, given, term_in, UncutEnd, UncutSweep, FinalSweep}
use Rattle.job_calls.proofs.States.{sized, short, first_is, rewrites, next_term, room_left}
use Rattle.job_calls.proofs.Stepping.{Kept, own, goes}

-- a sweep's end as more has made every step, with one more to make
abbrev Wanting : ℕ → State → State → End → Type 0
Wanting n s t end.Normal = Unit {0}
Wanting n s t end.More = (t.count ≡ s.count + n) × (t.count < t.reserve)
Wanting n s t end.Spent = Unit {0}
Wanting n s t end.TooLong = Unit {0}

-- the plain job's walk of up to n steps, where k were made before
pub record WalkFollows (c : ℕ) (s : State) (start : Term) (p : Of (given s start)) (n k : ℕ) (r : Sweep × State) : Type 0 where
  pub plain : Of (given s start)
  pub steps : ℕ
  pub walks : Walks (given s start) p n r.0.end steps plain
  pub counted : r.0.steps ≡ k + steps
  pub kept : Kept c (given s start) r.1 plain
  pub uncut : UncutEnd r.0.end
  pub wanting : Wanting n s r.1 r.0.end

module _ (c : ℕ) (s : State) (start : Term) (p : Of (given s start)) (kept : Kept c (given s start) s p) where
  sound : Sound s
  sound = kept.sound

  lasts : Lasts s
  lasts = kept.lasts

  own_first : (at k : ℕ) → First s.rules (term_in s) at k → First s.rules p.last at k
  own_first at k f = subst (λ t. First s.rules t at k) (sym kept.last) f

  own_normal : Normal s.rules (term_in s) → Normal s.rules p.last
  own_normal h = subst (Normal s.rules) (sym kept.last) h

  -- no steps more
  ended : (k : ℕ) (o : Option (ℕ × ℕ)) → FirstRedex s.rules (term_in s) o → WalkFollows c s start p 0 k (record { end = stop o; steps = k }, s)
  ended k None h = record { plain = p; steps = 0; walks = Walks.normal (own_normal h); counted = omega arith; kept = kept; uncut = tt; wanting = tt }
  ended k (Some m) h = record {
    plain = p;
    steps = 0;
    walks = Walks.more (own_first m.0 m.1 h);
    counted = omega arith;
    kept = kept;
    uncut = tt;
    wanting = (omega arith, room_left s lasts m.1 m.0 h.next h.step);
  }

  module _ (n k : ℕ)
      (ih : (t : State) (q : Of (given t start)) → Kept c (given t start) t q → WalkFollows c t start q n (suc k) (swept_from n (suc k) t)) where
    abbrev pub Walked : Result State End → Type 0
    Walked r = WalkFollows c s start p (suc n) k (goes_on k s (swept_from n (suc k)) r)

    -- the first redex cannot be refused but for the next term's length
    by_made : (at m : ℕ) → First s.rules (term_in s) at m → (r : Result (List ℕ) RewriteFault)
        → Rewrites s.rules (term_in s) m at (answer r) (term_of s.arities (codes_after s.codes r)) → T (is_term s.arities (codes_after s.codes r)) → Walked (made s r)
    by_made at m f (Ok cs) w ok =
        let x : Step s.rules m at (term_in s) (term_of s.arities cs) = w.told in
        let l = goes c s start p kept cs m at x ok in
        let mine = own c s start p kept cs m at x ok in
        let on = ih (moved s cs) (added p mine) l in
        record {
          plain = on.plain;
          steps = suc on.steps;
          walks = Walks.on (own_first at m f) mine (let a = sized (moved s cs) l.sound in let b = short (moved s cs) l.sound in omega arith) on.walks;
          counted = (let k = on.counted in omega arith);
          kept = on.kept;
          uncut = on.uncut;
          wanting = more (swept_from n (suc k) (moved s cs)).0.end (swept_from n (suc k) (moved s cs)).1 on.wanting;
        }
      where
        more : (e : End) (t : State) → Wanting n (moved s cs) t e → Wanting (suc n) s t e
        more end.Normal t h = tt
        more end.More t h = ((let a = h.0 in omega arith), h.1)
        more end.Spent t h = tt
        more end.TooLong t h = tt
    by_made at m f (Err fault.Malformed) w ok = absurd w.told
    by_made at m f (Err fault.NoRule) w ok =
        let low = numbered_below s.rules m f.step.rule f.step.listed in
        let high = w.told.1 in
        absurd (omega arith)
    by_made at m f (Err fault.NoPlace) w ok =
        let low = step_inside s.rules m at (term_in s) f.next f.step in
        let high = w.told.1 in
        absurd (omega arith)
    by_made at m f (Err fault.NoMatch) w ok = absurd (w.told.1 f.next f.step)
    by_made at m f (Err fault.TooLong) w ok = record {
      plain = p;
      steps = 0;
      walks = Walks.too_long (own_first at m f) (subst (λ t. Step s.rules m at t w.told.1.0) (sym kept.last) w.told.1.1) w.told.1.2;
      counted = omega arith;
      kept = kept;
      uncut = tt;
      wanting = tt;
    }

    by_first : (o : Option (ℕ × ℕ)) → FirstRedex s.rules (term_in s) o → Walked (at_first s o)
    by_first None h = record { plain = p; steps = 0; walks = Walks.normal (own_normal h); counted = omega arith; kept = kept; uncut = tt; wanting = tt }
    by_first (Some m) h = unspent (eqb s.count s.reserve) refl
      where
        unspent : (b : Bool) → eqb s.count s.reserve ≡ b → Walked (cond b (Err end.Spent) (made s (following s m.1 m.0)))
        unspent true e = absurd (let l = room_left s lasts m.1 m.0 h.next h.step in let r = eqb-true s.count s.reserve e in omega arith)
        unspent false e = by_made m.0 m.1 h (following s m.1 m.0) (rewrites s sound m.1 m.0) (next_term s sound m.1 m.0)

    pub walked : Walked (advanced s)
    walked = by_first (first s) (first_is s sound)

pub sweep_walks : (c n k : ℕ) (s : State) (start : Term) (p : Of (given s start)) → Kept c (given s start) s p → WalkFollows c s start p n k (swept_from n k s)
sweep_walks c zero k s start p kept = ended c s start p kept k (first s) (first_is s kept.sound)
sweep_walks c (suc n) k s start p kept = walked c s start p kept n k (λ t q kept'. sweep_walks c n (suc k) t start q kept')

-- the plain job's answer to a sweep, with what it leaves; a sweep for at least the reserve does not end as more
pub record SweepFollows (c : ℕ) (s : State) (start : Term) (p : Of (given s start)) (g n : ℕ) (r : Result Sweep JobFault × State) : Type 0 where
  pub plain : Of (given s start)
  pub sweeps : Sweeps (given s start) p g n r.0 plain
  pub kept : Kept c (given s start) r.1 plain
  pub uncut : UncutSweep r.0
  pub final : s.reserve ≤ n → FinalSweep r.0

module _ (c : ℕ) (s : State) (start : Term) (p : Of (given s start)) (kept : Kept c (given s start) s p) (g n : ℕ) where
  final_by : (e : End) (k : ℕ) (t : State) → given t start ≡ given s start → UncutEnd e → Wanting n s t e → s.reserve ≤ n → FinalSweep (Ok record { end = e; steps = k })
  final_by end.Normal k t same u w h = tt
  final_by end.More k t same u w h = absurd (let a = w.0 in let b = w.1 in let r = ap (λ o. o.amount) same in omega arith)
  final_by end.Spent k t same u w h = absurd u
  final_by end.TooLong k t same u w h = tt

  swept : g ≡ s.number → (r : Sweep × State) → WalkFollows c s start p n 0 r → SweepFollows c s start p g n (told r)
  swept grant r f = record {
    plain = f.plain;
    sweeps =
        (let same : f.steps ≡ r.0.steps = (let k = f.counted in omega arith) in
        subst (λ k. Sweeps (given s start) p g n (Ok record { end = r.0.end; steps = k }) f.plain) same (Sweeps.swept grant f.walks));
    kept = f.kept;
    uncut = f.uncut;
    final = λ h. final_by r.0.end r.0.steps r.1 f.kept.same f.uncut f.wanting h;
  }

  pub sweep_follows : SweepFollows c s start p g n (sweep_reply s g n)
  sweep_follows = go (eqb g s.number) refl
    where
      go : (b : Bool) → eqb g s.number ≡ b → SweepFollows c s start p g n (cond b (told (swept_from n 0 s)) (Err OtherGrant, s))
      go true e = swept (eqb-true g s.number e) (swept_from n 0 s) (sweep_walks c n 0 s start p kept)
      go false e = record {
        plain = p;
        sweeps = Sweeps.other_grant (λ k. (let t = eq-eqb g s.number k in cc));
        kept = kept;
        uncut = tt;
        final = λ h. tt;
      }
