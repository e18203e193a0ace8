-- Runs of a job that was opened in full are the plain job's, and no answer is a cut-off.
use Rattle.std.proofs.Common.{◌≡◌, ℕ, ◌-◌, Bool, true, false, cond, List, [], ◌∷◌, ◌++◌, length, take, drop, Ok, Err, Result, ltb, sym, refl, ap, ◌∙◌, subst, arith}
use Rattle.terms.specs.Terms.{Term, codes, size}
use Rattle.terms.specs.Steps.{FirstRedex}
use Rattle.job_calls.specs.declared.fault.JobFault.{JobFault}
use Rattle.job_calls.specs.declared.fault.JobFault.TheVariants.{ShortMemory}
use Rattle.job_calls.specs.declared.answer.Answer.TheVariants as answer
use Rattle.job_calls.specs.Calls.{State, first, look_reply, copy_reply, copy_to_reply, Asked, Asked.step, Asked.sweep, Asked.look, Asked.copy_out, Got, performed, Ran, run}
use Rattle.job_calls.specs.Plain.{Given, Of, opened, Looks, Replies, Replays}
use Rattle.job_calls.specs.Runs.{Sound, Lasts, Agrees, given, term_in, UncutResult, UncutAnswer, AllUncut, Ends, AllEnd, Follows}
use Rattle.job_calls.proofs.States.{whole, sized, first_is}
use Rattle.job_calls.proofs.Stepping.{Kept, step_follows}
use Rattle.job_calls.proofs.Sweeping.{sweep_follows}

-- the plain job's answer to a call, with what it leaves; where counts are c steps apart, all but the look's count
pub record CallFollows (c : ℕ) (o : Given) (s : State) (p : Of o) (m : List ℕ) (call : Asked) (g : Got) : Type 0 where
  pub plain : Of o
  pub replies : c ≡ 0 → Replies o p m call g.answer g.memory plain
  pub kept : Kept c o g.state plain
  pub uncut : UncutAnswer g.answer
  pub ends : Ends o.amount call g.answer

copy_by : Bool → List ℕ → List ℕ → Result ℕ JobFault × List ℕ
copy_by b cs m = cond b (Err ShortMemory, m) (Ok (length cs), cs ++ drop (length cs) m)

uncut_by : (b : Bool) (cs m : List ℕ) → UncutResult (copy_by b cs m).0
unfolding copy_by
uncut_by true cs m = tt
uncut_by false cs m = tt

uncut_copy : (cs m : List ℕ) → UncutResult (copy_reply cs m).0
unfolding copy_by
uncut_copy cs m = uncut_by (ltb (length m) (length cs)) cs m

module _ (c : ℕ) (s : State) (start : Term) (p : Of (given s start)) (kept : Kept c (given s start) s p) (m : List ℕ) where
  looks : c ≡ 0 → Looks (given s start) p (look_reply s)
  looks z = record {
    redex = subst (λ t. FirstRedex s.rules t (first s)) (sym kept.last) (first_is s kept.sound);
    sized = (let a = sized s kept.sound in let b = ap (λ t. length (codes t)) kept.last in sym (ap size kept.last ∙ a));
    counted = (let k = kept.count in omega arith);
    remaining = (let k : s.count ≡ length p.numbers = (let e = kept.count in omega arith) in ap (λ n. s.reserve - n) k);
  }

  copies : (room : ℕ) → Replies (given s start) p m (copy_out room) (answer.Copied (copy_to_reply s.codes room m).0) (copy_to_reply s.codes room m).1 p
  copies room =
      subst (λ cs. Replies (given s start) p m (copy_out room) (answer.Copied (copy_to_reply cs room m).0) (copy_to_reply cs room m).1 p) (ap codes kept.last ∙ whole s kept.sound) Replies.copies

  own_call : (call : Asked) → CallFollows c (given s start) s p m call (performed s m call)
  own_call (step g n at) =
      let f = step_follows c s start p kept g n at in
      record { plain = f.plain; replies = λ z. Replies.steps f.steps; kept = f.kept; uncut = f.uncut; ends = tt }
  own_call (sweep g n) =
      let f = sweep_follows c s start p kept g n in
      record { plain = f.plain; replies = λ z. Replies.sweeps f.sweeps; kept = f.kept; uncut = f.uncut; ends = f.final }
  own_call look = record { plain = p; replies = λ z. Replies.looks (looks z); kept = kept; uncut = tt; ends = tt }
  own_call (copy_out room) = record { plain = p; replies = λ z. copies room; kept = kept; uncut = uncut_copy s.codes (take room m); ends = tt }

-- the same of what the job was opened with, however that is written
pub call_follows : (c : ℕ) (o : Given) (s : State) (p : Of o) → Kept c o s p → (m : List ℕ) (call : Asked) → CallFollows c o s p m call (performed s m call)
call_follows c o s p kept m call =
    subst (λ o'. (p : Of o') → Kept c o' s p → CallFollows c o' s p m call (performed s m call)) kept.same (λ p' kept'. own_call c s o.start p' kept' m call) p kept

-- runs
pub record RunFollows (c : ℕ) (o : Given) (p : Of o) (m : List ℕ) (calls : List Asked) (r : Ran) : Type 0 where
  pub plain : Of o
  pub replays : c ≡ 0 → Replays o p m calls r.answers r.memory plain
  pub kept : Kept c o r.state plain
  pub uncut : AllUncut r.answers
  pub ends : AllEnd o.amount calls r.answers

pub run_follows : (c : ℕ) (o : Given) (s : State) (p : Of o) → Kept c o s p → (m : List ℕ) (calls : List Asked) → RunFollows c o p m calls (run s m calls)
run_follows c o s p kept m [] = record { plain = p; replays = λ z. Replays.over; kept = kept; uncut = tt; ends = tt }
run_follows c o s p kept m (call ∷ calls) =
    let f = call_follows c o s p kept m call in
    let g = performed s m call in
    let r = run_follows c o g.state f.plain f.kept g.memory calls in
    record {
      plain = r.plain;
      replays = λ z. Replays.next (f.replies z) (r.replays z);
      kept = r.kept;
      uncut = (f.uncut, r.uncut);
      ends = (f.ends, r.ends);
    }

module _ (s : State) (sound : Sound s) (lasts : Lasts s) (m : List ℕ) (calls : List Asked) where
  -- a plain job of no steps, as many steps apart as were made
  unopened : RunFollows s.count (given s (term_in s)) (opened s.rules (term_in s)) m calls (run s m calls)
  unopened = run_follows s.count (given s (term_in s)) s (opened s.rules (term_in s)) (record { same = refl; sound = sound; lasts = lasts; last = refl; count = omega arith }) m calls

  pub all_uncut : AllUncut (run s m calls).answers
  all_uncut = unopened.uncut

  pub all_end : AllEnd s.reserve calls (run s m calls).answers
  all_end = unopened.ends

  pub still_sound : Sound (run s m calls).state
  still_sound = unopened.kept.sound

  pub still_lasts : Lasts (run s m calls).state
  still_lasts = unopened.kept.lasts

  pub run_plain : (start : Term) (p : Of (given s start)) → Agrees s start p → Follows s m calls (run s m calls) start p
  run_plain start p agrees =
      let r = run_follows 0 (given s start) s p (record { same = refl; sound = sound; lasts = lasts; last = agrees.last; count = (let k = agrees.count in omega arith) }) m calls in
      record {
        plain = r.plain;
        replays = r.replays refl;
        last = r.kept.last;
        same_codes = ap codes r.kept.last ∙ whole (run s m calls).state r.kept.sound;
        count = (let k = r.kept.count in omega arith);
      }
