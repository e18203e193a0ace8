-- What is refused changes nothing.
use Rattle.std.proofs.Common.{◌≡◌, ℕ, Bool, true, false, cond, ltb, eqb, List, ◌+◌, ◌-◌, ◌++◌, length, take, drop, Some, None, Ok, Err, Option, Result, refl, sym, ap, ◌∙◌}
use Rattle.std.specs.Result.{OnErr}
use Rattle.std.specs.List.{find}
use Rattle.std.proofs.lemmas.List.{take-append-drop}
use Rattle.pools.specs.declared.fault.PoolFault.{PoolFault}
use Rattle.pools.specs.declared.fault.PoolFault.TheVariants as pool
use Rattle.pools.specs.declared.grant.Grant.{Grant}
use Rattle.pools.specs.declared.pool.Unsettled.{Unsettled}
use Rattle.pools.specs.declared.ledger.PoolCall.{PoolCall}
use Rattle.pools.specs.declared.ledger.PoolCall.TheVariants as call
use Rattle.pools.specs.Grants.{has_number}
use Rattle.pools.specs.Pools as pools
use Rattle.pools.specs.Pools.{opening, reserving, settling, most_steps, last_number}
use Rattle.pools.specs.Runs.{Ledger, kept, returned, settling_found, performing}
use Rattle.rewriting.specs.declared.fault.RewriteFault.{RewriteFault}
use Rattle.rewriting.specs.declared.fault.RewriteFault.TheVariants as rewrite
use Rattle.job_calls.specs.declared.fault.JobFault.{JobFault}
use Rattle.job_calls.specs.declared.fault.JobFault.TheVariants as job
use Rattle.job_calls.specs.Calls.{State, moved, following, against, step_reply, sweep_reply, told, swept_from, copy_to_reply}
use Rattle.commands.specs.declared.command.Opening.{Opening}
use Rattle.sessions.specs.declared.fault.CommandFault.{CommandFault}
use Rattle.sessions.specs.declared.fault.CommandFault.TheVariants.{GrantsOut}
use Rattle.sessions.specs.declared.reply.Reply.{Reply}
use Rattle.job_calls.specs.Words.{job_refusal}
use Rattle.sessions.specs.Settings.{Setting, asked_term, or_refused}
use Rattle.sessions.specs.Sessions.{Session, Opened, Opened.full, Opened.short, held_in, now_in, with_ledger, with_job}
use Rattle.sessions.specs.Pools as asked
use Rattle.sessions.specs.Pools.{has_grants, replaced, pool_answer, call_answer}
use Rattle.sessions.specs.Jobs.{opened_with, opened_or, open_on, open_with, answered, on_job, copy_answer}

-- an answer after which what was there is there
abbrev pub Same : {X E A : Type 0} → A → Result X E × A → Type 0
Same a r = OnErr r.0 (r.1 ≡ a)

-- jobs
module _ (s : State) where
  against_same : (r : Result (List ℕ) RewriteFault) → Same s (against s r)
  against_same (Ok cs) = go (eqb s.count s.reserve)
    where
      go : (b : Bool) → Same {X = Unit {0}} {E = JobFault} s (cond b (Err job.Spent, s) (Ok tt, moved s cs))
      go true = refl
      go false = tt
  against_same (Err rewrite.Malformed) = refl
  against_same (Err rewrite.NoRule) = refl
  against_same (Err rewrite.NoPlace) = refl
  against_same (Err rewrite.NoMatch) = refl
  against_same (Err rewrite.TooLong) = go (eqb s.count s.reserve)
    where
      go : (b : Bool) → Same {X = Unit {0}} {E = JobFault} s (cond b (Err job.Spent, s) (Err (job.Rewrite rewrite.TooLong), s))
      go true = refl
      go false = refl

  pub step_same : (g n at : ℕ) → Same s (step_reply s g n at)
  step_same g n at = go (eqb g s.number)
    where
      go : (b : Bool) → Same s (cond b (against s (following s n at)) (Err job.OtherGrant, s))
      go true = against_same (following s n at)
      go false = refl

  pub sweep_same : (g n : ℕ) → Same s (sweep_reply s g n)
  sweep_same g n = go (eqb g s.number)
    where
      go : (b : Bool) → Same s (cond b (told (swept_from n 0 s)) (Err job.OtherGrant, s))
      go true = tt
      go false = refl

copy_same : (cs : List ℕ) (room : ℕ) (m : List ℕ) → Same m (copy_to_reply cs room m)
copy_same cs room m = go (ltb (length (take room m)) (length cs))
  where
    go : (b : Bool) → (let r : Result ℕ JobFault × List ℕ = cond b (Err job.ShortMemory, take room m) (Ok (length cs), cs ++ drop (length cs) (take room m)) in OnErr r.0 (r.1 ++ drop room m ≡ m))
    go true = take-append-drop room m
    go false = tt

pub copied_same : (o : Option Opened) (room : ℕ) (m : List ℕ) → Same m (copy_answer o room m)
copied_same None room m = refl
copied_same (Some o) room m = by (copy_to_reply (held_in o).codes room m) (copy_same (held_in o).codes room m)
  where
    by : (r : Result ℕ JobFault × List ℕ) → Same m r → OnErr (or_refused job_refusal r.0) (r.1 ≡ m)
    by (Ok n, l) h = tt
    by (Err e, l) h = h

-- pools
module _ (p : pools.State) (amount : ℕ) where
  abbrev taken : Result Grant PoolFault × pools.State
  taken = (Ok record { number = p.last + 1; amount = amount }, record { size = p.size; free = p.free - amount; last = p.last + 1 })

  abbrev fitting : Bool → Result Grant PoolFault × pools.State
  fitting b = cond b (Err pool.AboveFree, p) taken

  abbrev numbered : Bool → Result Grant PoolFault × pools.State
  numbered b = cond b (Err pool.NumbersGiven, p) (fitting (ltb p.free amount))

  reserving_same : Same p (reserving p amount)
  reserving_same = wide (ltb most_steps amount)
    where
      above : (b : Bool) → Same p (fitting b)
      above true = refl
      above false = tt

      given : (b : Bool) → Same p (numbered b)
      given true = refl
      given false = above (ltb p.free amount)

      wide : (b : Bool) → Same {X = Grant} {E = PoolFault} p (cond b (Err pool.OutOfRange, p) (numbered (eqb p.last last_number)))
      wide true = refl
      wide false = given (eqb p.last last_number)

settling_same : (p : pools.State) (g : Grant) → Same p (settling p g)
settling_same p g = go (ltb p.size (p.free + g.amount))
  where
    go : (b : Bool) → Same {X = Unit {0}} {E = Unsettled} p (cond b (Err record { fault = pool.AboveSize; grant = g }, p) (Ok tt, record { size = p.size; free = p.free + g.amount; last = p.last }))
    go true = refl
    go false = tt

module _ (d : Session) (l : Ledger) (e : d.ledger ≡ Some l) (amount : ℕ) where
  abbrev with_pool : pools.State → Session
  with_pool p = with_ledger d record { pool = p; out = l.out }

  back : with_pool l.pool ≡ d
  back = ap (λ (x : Option Ledger). record { ledger = x; job = d.job }) (sym e)

  reserve_same : (r : Result Grant PoolFault × pools.State) → Same l.pool r → OnErr (asked.told amount (kept l r).0) (with_ledger d (kept l r).1 ≡ d)
  reserve_same (Ok g, p) h = tt
  reserve_same (Err f, p) h = ap with_pool h ∙ back

  return_same : (n : ℕ) (r : Result (Unit {0}) Unsettled × pools.State) → Same l.pool r → OnErr (asked.told amount (returned l n r).0) (with_ledger d (returned l n r).1 ≡ d)
  return_same n (Ok x, p) h = tt
  return_same n (Err u, p) h = ap with_pool h ∙ back

  settle_same : (n : ℕ) (g : Option Grant) → OnErr (asked.told amount (settling_found l n g).0) (with_ledger d (settling_found l n g).1 ≡ d)
  settle_same n None = back
  settle_same n (Some g) = return_same n (settling l.pool g) (settling_same l.pool g)

  call_on_same : (c : PoolCall) → OnErr (asked.told amount (performing l c).0) (with_ledger d (performing l c).1 ≡ d)
  call_on_same (call.Reserve a) = reserve_same (reserving l.pool a) (reserving_same l.pool a)
  call_on_same (call.Settle n) = settle_same n (find (has_number n) l.out)

-- sessions
module _ (d : Session) where
  pub call_same : (c : PoolCall) (amount : ℕ) → Same d (call_answer d c amount d.ledger)
  call_same c amount = by d.ledger refl
    where
      by : (l : Option Ledger) → d.ledger ≡ l → Same d (call_answer d c amount l)
      by None e = refl
      by (Some l) e = call_on_same d l e amount c

  replaced_same : (size : ℕ) (r : Result pools.State PoolFault) → Same d (replaced d size r)
  replaced_same size (Ok p) = tt
  replaced_same size (Err f) = refl

  pub pool_same : (size first : ℕ) → Same d (pool_answer d size first)
  pool_same size first = go (has_grants d.ledger)
    where
      go : (b : Bool) → Same d (cond b (Err GrantsOut, d) (replaced d size (opening size first)))
      go true = refl
      go false = replaced_same size (opening size first)

  opened_same : (r : Result Opened CommandFault) → Same d (opened_or d r)
  opened_same (Ok o) = tt
  opened_same (Err e) = refl

  module _ (S : Setting) (o : Opening) where
    open_on_same : (g : Grant) (cs : Result (List ℕ) CommandFault) → Same d (open_on S d o g cs)
    open_on_same g (Ok cs) = opened_same (opened_with S o cs g)
    open_on_same g (Err e) = refl

    pub open_same : (text : Option (List ℕ)) (g : Result Grant CommandFault) → Same d (open_with S d o text g)
    open_same text (Ok g) = open_on_same g (asked_term S text)
    open_same text (Err e) = refl

  module _ {X : Type 0} (f : X → Reply) where
    answered_same : (o : Opened) → d.job ≡ Some o → (r : Result X JobFault × State) → Same (held_in o) r → Same d (answered f d o r)
    answered_same o e (Ok x, t) h = tt
    answered_same o e (Err x, t) h =
        ap (λ t. with_job d (now_in o t)) h ∙ ap (λ o. with_job d o) (it o) ∙ ap (λ (j : Option Opened). record { ledger = d.ledger; job = j }) (sym e)
      where
        it : (o : Opened) → now_in o (held_in o) ≡ o
        it (full s) = refl
        it (short s) = refl

    pub job_same : (g : Result Grant CommandFault) (ask : State → ℕ → Result X JobFault × State) → ((s : State) (n : ℕ) → Same s (ask s n)) → Same d (on_job f d g d.job ask)
    job_same g ask h = by g d.job refl
      where
        by : (g : Result Grant CommandFault) (j : Option Opened) → d.job ≡ j → Same d (on_job f d g j ask)
        by (Err e) j q = refl
        by (Ok g) None q = refl
        by (Ok g) (Some o) q = answered_same o q (ask (held_in o) g.number) (h (held_in o) g.number)
