-- Every command at every session is lawful.
use Rattle.std.proofs.Common.{◌≡◌, ℕ, List, length, Some, None, Ok, Err, Option, Result, refl, sym, subst, option_copied}
use Rattle.std.specs.Result.{IfOk, OnErr}
use Rattle.std.specs.Option.{option_map}
use Rattle.terms.specs.declared.system.System as held
use Rattle.terms.specs.Replies.{viewed}
use Rattle.vocabulary.specs.Naming.{Naming}
use Rattle.algebras.specs.Meanings.{Meaning, Lawful}
use Rattle.pools.specs.declared.grant.Grant.{Grant}
use Rattle.pools.specs.declared.ledger.PoolCall.TheVariants as call
use Rattle.pools.specs.declared.ledger.Ledger as code
use Rattle.pools.specs.Ledgers.{ledger_of}
use Rattle.job_calls.specs.Calls.{State, Asked.step, Asked.sweep, Asked.look, Asked.copy_out, step_reply, sweep_reply}
use Rattle.job_calls.specs.Runs.{Sound, Lasts}
use Rattle.jobs.specs.Views.{state_of}
use Rattle.jobs.proofs.Lawful.{sound_of}
use Rattle.commands.specs.declared.command.Command.{Command}
use Rattle.commands.specs.declared.command.Command.TheVariants as command
use Rattle.commands.specs.declared.command.Opening.TheVariants as opening
use Rattle.sessions.specs.declared.fault.CommandFault.{CommandFault}
use Rattle.sessions.specs.declared.reply.Reply.{Reply}
use Rattle.sessions.specs.declared.reply.Reply.TheVariants as reply
use Rattle.sessions.specs.declared.opened.Opened as opened
use Rattle.sessions.specs.declared.opened.Opened.TheVariants as variant
use Rattle.sessions.specs.declared.session.Session as session
use Rattle.sessions.specs.Settings.{Setting}
use Rattle.sessions.specs.Queries.{measure_answer, compare_answer, ceiling_answer}
use Rattle.sessions.specs.Sessions.{Session, Opened.full, opened_of, session_of}
use Rattle.sessions.specs.Pools.{granted, free_answer}
use Rattle.sessions.specs.Jobs.{on_job, look_answer, copy_answer}
use Rattle.sessions.specs.Commands.{Got, asked, done, copied, performing}
use Rattle.sessions.specs.Laws.{Balanced, Called, CallsFull, OpensFull, LawfulCommand}
use Rattle.sessions.proofs.Unchanged.{Same, step_same, sweep_same, copied_same, call_same, pool_same, open_same, job_same}
use Rattle.sessions.proofs.Calling.{step_called, sweep_called, look_called, copy_called, setting, opened_full}

-- a session of the code is in balance, and the reserve of a job that was opened in full lasts
pub balanced : (s : session.Session) → Balanced (session_of s).ledger
balanced s = by s.ledger
  where
    by : (l : Option code.Ledger) → Balanced (option_map ledger_of l)
    by None = tt
    by (Some l) = l.balanced

pub record Kept (s : State) : Type 0 where
  pub sound : Sound s
  pub lasts : Lasts s

pub keeps : (s : session.Session) (t : State) → (session_of s).job ≡ Some (full t) → Kept t
keeps s t e = by s.job e
  where
    by : (o : Option opened.Opened) → option_map opened_of o ≡ Some (full t) → Kept t
    by None e = cc
    by (Some (variant.Short j)) e = cc
    by (Some (variant.Full f)) e =
        let same : state_of f.job ≡ t = cc in
        subst Kept same record { sound = sound_of f.job; lasts = f.lasts }

module _ (names : Naming) (system : held.System) (A : Meaning) (lawful : Lawful A) (start : List ℕ) (d : Session) (m : List ℕ) where
  -- a question is refused without a change, whatever it answers
  asked_same : (r : Result Reply CommandFault) → OnErr r ((d ≡ d) × (m ≡ m))
  asked_same (Ok x) = tt
  asked_same (Err e) = (refl, refl)

  done_same : (r : Result Reply CommandFault × Session) → Same d r → OnErr r.0 ((r.1 ≡ d) × (m ≡ m))
  done_same (Ok x, e) h = tt
  done_same (Err f, e) h = (h, refl)

  copy_unchanged : (f : ℕ → Reply) (r : Result ℕ CommandFault × List ℕ) → Same m r → OnErr (viewed f r.0) ((d ≡ d) × (r.1 ≡ m))
  copy_unchanged f (Ok n, l) h = tt
  copy_unchanged f (Err e, l) h = (refl, h)

  abbrev S : Setting
  S = setting names system A start

  pub unchanged : (c : Command) → (let got = performing S d m c in OnErr got.reply ((got.session ≡ d) × (got.memory ≡ m)))
  unchanged (command.Measure text) = asked_same (measure_answer S (option_copied text))
  unchanged (command.Compare n) = asked_same (compare_answer S n)
  unchanged (command.Ceiling n) = asked_same (ceiling_answer S n)
  unchanged (command.Pool size first) = done_same _ (pool_same d size first)
  unchanged (command.Reserve amount) = done_same _ (call_same d (call.Reserve amount) amount)
  unchanged (command.Settle n) = done_same _ (call_same d (call.Settle n) 0)
  unchanged command.Free = asked_same (free_answer d.ledger)
  unchanged (command.Open o n text) = done_same _ (open_same d S o (option_copied text) (granted d.ledger n))
  unchanged (command.Step n rule place) = done_same _ (job_same d (λ x. reply.Stepped) (granted d.ledger n) (λ t g. step_reply t g rule place) (λ t g. step_same t g rule place))
  unchanged (command.Sweep n most) = done_same _ (job_same d reply.Swept (granted d.ledger n) (λ t g. sweep_reply t g most) (λ t g. sweep_same t g most))
  unchanged command.Look = asked_same (look_answer d.job)
  unchanged (command.Copy room) = copy_unchanged reply.Copied (copy_answer d.job room m) (copied_same d.job room m)
  unchanged command.Term = copy_unchanged reply.Term (copy_answer d.job (length m) m) (copied_same d.job (length m) m)
  unchanged command.Help = tt

  module _ (s : State) (kept : Kept s) (has : d.job ≡ Some (full s)) where
    -- with the grant that there is, and the job
    by_step : (rule place : ℕ) (g : Result Grant CommandFault) → IfOk g (λ k. Called s m (step k.number rule place) reply.Copied (done m (on_job (λ x. reply.Stepped) d g d.job (λ t k. step_reply t k rule place))))
    by_step rule place (Err e) = tt
    by_step rule place (Ok g) =
        subst (λ j. Called s m (step g.number rule place) reply.Copied (done m (on_job (λ x. reply.Stepped) d (Ok g) j (λ t k. step_reply t k rule place)))) (sym has)
        (step_called d s kept.sound kept.lasts m rule place g)

    by_sweep : (most : ℕ) (g : Result Grant CommandFault) → IfOk g (λ k. Called s m (sweep k.number most) reply.Copied (done m (on_job reply.Swept d g d.job (λ t k. sweep_reply t k most))))
    by_sweep most (Err e) = tt
    by_sweep most (Ok g) =
        subst (λ j. Called s m (sweep g.number most) reply.Copied (done m (on_job reply.Swept d (Ok g) j (λ t k. sweep_reply t k most)))) (sym has)
        (sweep_called d s kept.sound kept.lasts m most g)

    by_copy : (room : ℕ) (copy : ℕ → Reply) → Called s m (copy_out room) copy (copied d copy (copy_answer d.job room m))
    by_copy room copy = subst (λ j. Called s m (copy_out room) copy (copied d copy (copy_answer j room m))) (sym has) (copy_called d s kept.sound kept.lasts m has room copy)

    pub calls_full : (c : Command) → CallsFull d s m c (performing S d m c)
    calls_full (command.Step n rule place) = by_step rule place (granted d.ledger n)
    calls_full (command.Sweep n most) = by_sweep most (granted d.ledger n)
    calls_full command.Look = subst (λ j. Called s m look reply.Copied (asked d m (look_answer j))) (sym has) (look_called d s kept.sound kept.lasts m has)
    calls_full (command.Copy room) = by_copy room reply.Copied
    calls_full command.Term = by_copy (length m) reply.Term
    calls_full (command.Measure text) = tt
    calls_full (command.Compare n) = tt
    calls_full (command.Ceiling n) = tt
    calls_full (command.Pool size first) = tt
    calls_full (command.Reserve amount) = tt
    calls_full (command.Settle n) = tt
    calls_full command.Free = tt
    calls_full (command.Open o n text) = tt
    calls_full command.Help = tt

  pub opens_full : (c : Command) → OpensFull S d c (performing S d m c)
  opens_full (command.Open opening.Full n text) = opened_full names system A lawful start d m n (option_copied text)
  opens_full (command.Open opening.Short n text) = tt
  opens_full (command.Step n rule place) = tt
  opens_full (command.Sweep n most) = tt
  opens_full command.Look = tt
  opens_full (command.Copy room) = tt
  opens_full command.Term = tt
  opens_full (command.Measure text) = tt
  opens_full (command.Compare n) = tt
  opens_full (command.Ceiling n) = tt
  opens_full (command.Pool size first) = tt
  opens_full (command.Reserve amount) = tt
  opens_full (command.Settle n) = tt
  opens_full command.Free = tt
  opens_full command.Help = tt

  pub lawful_command : (c : Command) (got : Got) → got ≡ performing S d m c → Balanced got.session.ledger → ((s : State) → d.job ≡ Some (full s) → Kept s) → LawfulCommand S d m c got
  lawful_command c got e balance kept = record {
    unchanged = subst (λ (g : Got). OnErr g.reply ((g.session ≡ d) × (g.memory ≡ m))) (sym e) (unchanged c);
    balanced = balance;
    plain = λ s has. subst (CallsFull d s m c) (sym e) (calls_full s (kept s has) has c);
    opened = subst (OpensFull S d c) (sym e) (opens_full c);
  }
