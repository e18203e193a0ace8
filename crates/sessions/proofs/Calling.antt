-- Calls on jobs that were opened in full, and openings in full.
use Rattle.std.proofs.Common.{◌≡◌, ℕ, List, [], ◌∷◌, Some, Ok, Err, Option, Result, refl, ap}
use Rattle.std.specs.Result.{IfOk}
use Rattle.terms.specs.declared.system.System as held
use Rattle.terms.specs.Replies.{viewed}
use Rattle.terms.specs.Systems.{system_of}
use Rattle.vocabulary.specs.Naming.{Naming}
use Rattle.algebras.specs.Meanings.{Meaning, Lawful}
use Rattle.pools.specs.declared.grant.Grant.{Grant}
use Rattle.job_calls.specs.declared.answer.Answer.TheVariants as answer
use Rattle.job_calls.specs.Calls.{State, Asked.step, Asked.sweep, Asked.look, Asked.copy_out, step_reply, sweep_reply}
use Rattle.job_calls.specs.Runs.{Sound, Lasts}
use Rattle.job_calls.proofs.OnlyRuns.{lawful_run}
use Rattle.jobs.specs.declared.fault.OpenFault.{OpenFault}
use Rattle.jobs.specs.Faults.{open_refusal}
use Rattle.jobs.specs.FullOpenings.{full_reply}
use Rattle.jobs.proofs.Opening.{open_told, is_fresh}
use Rattle.commands.specs.declared.command.Opening.TheVariants as opening
use Rattle.sessions.specs.declared.fault.CommandFault.{CommandFault}
use Rattle.sessions.specs.declared.reply.Reply.{Reply}
use Rattle.sessions.specs.declared.reply.Reply.TheVariants as reply
use Rattle.sessions.specs.Settings.{Setting, or_refused, asked_term}
use Rattle.sessions.specs.Sessions.{Session, Opened.full}
use Rattle.sessions.specs.Pools.{granted}
use Rattle.sessions.specs.Jobs.{opened_or, open_on, open_with, on_job, copy_answer, look_answer}
use Rattle.sessions.specs.Commands.{asked, done, copied}
use Rattle.sessions.specs.Laws.{Called, OpenedFull}

module _ (d : Session) (s : State) (sound : Sound s) (lasts : Lasts s) (m : List ℕ) where
  -- a step or a sweep, as it is shown
  pub step_called : (n at : ℕ) (g : Grant) → Called s m (step g.number n at) reply.Copied (done m (on_job (λ x. reply.Stepped) d (Ok g) (Some (full s)) (λ t k. step_reply t k n at)))
  step_called n at g = record {
    answer = answer.Stepped (step_reply s g.number n at).0;
    after = (step_reply s g.number n at).1;
    lawful = lawful_run s sound lasts m (step g.number n at ∷ []);
    shown_as = refl;
    kept = refl;
  }

  pub sweep_called : (most : ℕ) (g : Grant) → Called s m (sweep g.number most) reply.Copied (done m (on_job reply.Swept d (Ok g) (Some (full s)) (λ t k. sweep_reply t k most)))
  sweep_called most g = record {
    answer = answer.Swept (sweep_reply s g.number most).0;
    after = (sweep_reply s g.number most).1;
    lawful = lawful_run s sound lasts m (sweep g.number most ∷ []);
    shown_as = refl;
    kept = refl;
  }

  module _ (has : d.job ≡ Some (full s)) where
    pub look_called : Called s m look reply.Copied (asked d m (look_answer (Some (full s))))
    look_called = record { answer = _; after = s; lawful = lawful_run s sound lasts m (look ∷ []); shown_as = refl; kept = has }

    pub copy_called : (room : ℕ) (copy : ℕ → Reply) → Called s m (copy_out room) copy (copied d copy (copy_answer (Some (full s)) room m))
    copy_called room copy = record { answer = _; after = s; lawful = lawful_run s sound lasts m (copy_out room ∷ []); shown_as = refl; kept = has }

-- an opening in full, as it is shown
abbrev pub setting : Naming → held.System → Meaning → List ℕ → Setting
setting names system A start = record { names = names; system = system_of system; pile = A; start = start }

module _ (names : Naming) (system : held.System) (A : Meaning) (lawful : Lawful A) (start : List ℕ) (d : Session) (m : List ℕ) (n : ℕ) (text : Option (List ℕ)) where
  abbrev S : Setting
  S = setting names system A start

  by_reply : (g : Grant) → granted d.ledger n ≡ Ok g → (cs : List ℕ) → asked_term S text ≡ Ok cs → (r : Result State OpenFault) → r ≡ full_reply A (system_of system) cs g
      → (let got = done m (opened_or d (viewed full (or_refused open_refusal r))) in IfOk got.reply (λ x. OpenedFull S d n text got))
  by_reply g out cs term (Err e) at = tt
  by_reply g out cs term (Ok s) at = record {
    grant = g;
    codes = cs;
    out = out;
    term = term;
    covered = open_told A lawful system cs g (λ t. t) (Ok s) at;
    job = ap (λ t. Some (full t)) (is_fresh A system cs g s at);
  }

  abbrev Told : Result Reply CommandFault × Session → Type 0
  Told r = IfOk r.0 (λ x. OpenedFull S d n text (done m r))

  by_term : (g : Grant) → granted d.ledger n ≡ Ok g → (t : Result (List ℕ) CommandFault) → asked_term S text ≡ t → Told (open_on S d opening.Full g t)
  by_term g out (Ok cs) e = by_reply g out cs e (full_reply A (system_of system) cs g) refl
  by_term g out (Err f) e = tt

  by_grant : (g : Result Grant CommandFault) → granted d.ledger n ≡ g → Told (open_with S d opening.Full text g)
  by_grant (Ok g) e = by_term g e (asked_term S text) refl
  by_grant (Err f) e = tt

  pub opened_full : Told (open_with S d opening.Full text (granted d.ledger n))
  opened_full = by_grant (granted d.ledger n) refl
