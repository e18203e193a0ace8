-- Every run of a plain job on a list of calls has the job's answers, memory, term and count.
use Rattle.std.proofs.Common.{◌≡◌, ℕ, ◌-◌, List, [], ◌∷◌, length, Option, refl, ap, ◌∙◌, subst, arith, ap₂}
use Rattle.terms.specs.Terms.{Term, codes, size}
use Rattle.terms.specs.Steps.{FirstRedex}
use Rattle.job_calls.specs.declared.answer.Look.{Look}
use Rattle.job_calls.specs.declared.answer.Answer.{Answer}
use Rattle.job_calls.specs.declared.answer.Answer.TheVariants as answer
use Rattle.job_calls.specs.Calls.{State, first, copy_to_reply, Asked, Asked.step, Asked.sweep, Asked.look, Asked.copy_out, Got, performed, Ran, run}
use Rattle.job_calls.specs.Plain.{Given, Of, Replies, Replays}
use Rattle.job_calls.specs.Runs.{Sound, Lasts, given, term_in, LawfulRun}
use Rattle.job_calls.proofs.States.{whole, sized, first_is}
use Rattle.job_calls.proofs.Stepping.{Kept}
use Rattle.job_calls.proofs.Only.{step_only, first_unique}
use Rattle.job_calls.proofs.OnlySweeps.{sweep_only}
use Rattle.job_calls.proofs.Running.{call_follows, run_plain, all_uncut, all_end}

-- answer, memory, term and count are those that were computed
pub record SameCall (o : Given) (g : Got) (a : Answer) (memory : List ℕ) (q : Of o) : Type 0 where
  pub answer_is : a ≡ g.answer
  pub memory_is : memory ≡ g.memory
  pub last : q.last ≡ term_in g.state
  pub count : length q.numbers ≡ g.state.count

looked : (l : Look) (a : Option (ℕ × ℕ)) (b c d : ℕ) → l.first ≡ a → l.size ≡ b → l.count ≡ c → l.left ≡ d → l ≡ record { first = a; size = b; count = c; left = d }
looked l a b c d e f g h =
    ap₂ (λ x y. record { first = x; size = y; count = l.count; left = l.left }) e f
    ∙ ap₂ (λ x y. record { first = a; size = b; count = x; left = y }) g h

module _ (s : State) (start : Term) (p : Of (given s start)) (kept : Kept 0 (given s start) s p) (m : List ℕ) where
  own_only : (call : Asked) (a : Answer) (memory : List ℕ) (q : Of (given s start)) → Replies (given s start) p m call a memory q → SameCall (given s start) (performed s m call) a memory q
  own_only (step g n at) a memory q (Replies.steps {a = r} x) =
      let f = step_only s start p kept g n at r q x in
      record { answer_is = ap (λ y. answer.Stepped y) f.answer_is; memory_is = refl; last = f.last; count = f.count }
  own_only (sweep g n) a memory q (Replies.sweeps {a = r} x) =
      let f = sweep_only s start p kept g n r q x in
      record { answer_is = ap (λ y. answer.Swept y) f.answer_is; memory_is = refl; last = f.last; count = f.count }
  own_only look a memory q (Replies.looks {l = l} x) =
      let found = subst (λ t. FirstRedex s.rules t l.first) kept.last x.redex in
      let counted : length p.numbers ≡ s.count = (let k = kept.count in omega arith) in
      record {
        answer_is =
            ap (λ y. answer.Looked y)
            (looked l (first s) (length s.codes) s.count (s.reserve - s.count)
            (first_unique s.rules (term_in s) l.first (first s) found (first_is s kept.sound))
            (x.sized ∙ ap size kept.last ∙ sized s kept.sound)
            (x.counted ∙ counted)
            (x.remaining ∙ ap (λ n. s.reserve - n) counted));
        memory_is = refl;
        last = kept.last;
        count = counted;
      }
  own_only (copy_out room) a memory q (Replies.copies) =
      let e = ap codes kept.last ∙ whole s kept.sound in
      record {
        answer_is = ap (λ cs. answer.Copied (copy_to_reply cs room m).0) e;
        memory_is = ap (λ cs. (copy_to_reply cs room m).1) e;
        last = kept.last;
        count = (let k = kept.count in omega arith);
      }

call_only : (o : Given) (s : State) (p : Of o) → Kept 0 o s p → (m : List ℕ) (call : Asked) (a : Answer) (memory : List ℕ) (q : Of o)
    → Replies o p m call a memory q → SameCall o (performed s m call) a memory q
call_only o s p kept m call a memory q x =
    subst (λ o'. (p q : Of o') → Kept 0 o' s p → Replies o' p m call a memory q → SameCall o' (performed s m call) a memory q) kept.same
    (λ p' q' kept' x'. own_only s o.start p' kept' m call a memory q' x') p q kept x

-- the same of a run
pub record SameRun (o : Given) (r : Ran) (answers : List Answer) (memory : List ℕ) (q : Of o) : Type 0 where
  pub answers_are : answers ≡ r.answers
  pub memory_is : memory ≡ r.memory
  pub last : q.last ≡ term_in r.state
  pub count : length q.numbers ≡ r.state.count

pub run_only : (o : Given) (s : State) (p : Of o) → Kept 0 o s p → (m : List ℕ) (calls : List Asked) (answers : List Answer) (memory : List ℕ) (q : Of o)
    → Replays o p m calls answers memory q → SameRun o (run s m calls) answers memory q
run_only o s p kept m [] answers memory q Replays.over = record { answers_are = refl; memory_is = refl; last = kept.last; count = (let k = kept.count in omega arith) }
run_only o s p kept m (call ∷ calls) answers memory q (Replays.next {q = p1} {m1 = m1} {a = a} {rest = rest} x xs) =
    let g = performed s m call in
    let f = call_only o s p kept m call a m1 p1 x in
    let k = (call_follows 0 o s p kept m call).kept in
    let kept1 : Kept 0 o g.state p1 = record { same = k.same; sound = k.sound; lasts = k.lasts; last = f.last; count = (let c = f.count in omega arith) } in
    let r = run_only o g.state p1 kept1 g.memory calls rest memory q (subst (λ m'. Replays o p1 m' calls rest memory q) f.memory_is xs) in
    record { answers_are = ap₂ (λ y ys. y ∷ ys) f.answer_is r.answers_are; memory_is = r.memory_is; last = r.last; count = r.count }

-- what a run of a job that was opened in full comes to
pub lawful_run : (s : State) → Sound s → Lasts s → (m : List ℕ) (calls : List Asked) → LawfulRun s m calls (run s m calls)
lawful_run s sound lasts m calls = record {
  plain = λ start p agrees. run_plain s sound lasts m calls start p agrees;
  only = λ start p agrees answers memory q x.
      (let kept : Kept 0 (given s start) s p = record { same = refl; sound = sound; lasts = lasts; last = agrees.last; count = (let k = agrees.count in omega arith) } in
      let f = run_only (given s start) s p kept m calls answers memory q x in
      (f.answers_are, f.memory_is, f.last, f.count));
  uncut = all_uncut s sound lasts m calls;
  ends = all_end s sound lasts m calls;
}
