-- The plain job: a derivation from the term that a job was opened with. It answers by the rewrite relation on terms, and
-- knows no cut-off.
use Rattle.std.specs.Prelude.{◌≡◌, ℕ, suc, ◌-◌, ◌<◌, ◌≤◌, List, [], ◌∷◌, ◌++◌, length, Ok, Err, Result}
use Rattle.terms.specs.Limits.{most_term}
use Rattle.terms.specs.Terms.{Term, size, codes}
use Rattle.terms.specs.Rules.{Rule}
use Rattle.terms.specs.Steps.{Step, Derivation, Derivation.done, Derivation.then, Normal, First, FirstRedex}
use Rattle.rewriting.specs.declared.fault.RewriteFault.TheVariants as fault
use Rattle.job_calls.specs.declared.fault.JobFault.{JobFault}
use Rattle.job_calls.specs.declared.fault.JobFault.TheVariants.{OtherGrant, Rewrite}
use Rattle.job_calls.specs.declared.answer.End.{End}
use Rattle.job_calls.specs.declared.answer.End.TheVariants as end
use Rattle.job_calls.specs.declared.answer.Sweep.{Sweep}
use Rattle.job_calls.specs.declared.answer.Look.{Look}
use Rattle.job_calls.specs.declared.answer.Answer.{Answer}
use Rattle.job_calls.specs.declared.answer.Answer.TheVariants as answer
use Rattle.job_calls.specs.Calls.{Asked, Asked.step, Asked.sweep, Asked.look, Asked.copy_out, copy_to_reply}

-- the rule numbers of the steps so far, the term that they lead to, and the derivation
pub record Plain (rules : List Rule) (start : Term) : Type 0 where
  pub numbers : List ℕ
  pub last : Term
  pub derivation : Derivation rules start numbers last

-- no steps yet
abbrev pub opened : (rules : List Rule) (start : Term) → Plain rules start
opened rules start = record { numbers = []; last = start; derivation = done }

-- a derivation with one step more at its end
pub extended : {rules : List Rule} {t u v : Term} {ns : List ℕ} {n at : ℕ} → Derivation rules t ns u → Step rules n at u v → Derivation rules t (ns ++ n ∷ []) v
extended done s = then s done
extended (then x d) s = then x (extended d s)

abbrev pub added : {rules : List Rule} {start : Term} (p : Plain rules start) {n at : ℕ} {u : Term} → Step rules n at p.last u → Plain rules start
added p {n} {at} {u} s = record { numbers = p.numbers ++ n ∷ []; last = u; derivation = extended p.derivation s }

-- what a job is opened with: a system's rules, a term, a grant's number and amount
pub record Given : Type 0 where
  pub rules : List Rule
  pub start : Term
  pub number : ℕ
  pub amount : ℕ

module _ (o : Given) where
  -- the plain job of what is given
  abbrev pub Of : Type 0
  Of = Plain o.rules o.start

  -- a step with the grant of number g, by the rule of number n at a place: each refusal says why no step is made
  pub data Steps (p : Of) (g n at : ℕ) : Result (Unit {0}) JobFault → Of → Type 0 where
    other_grant : (g ≡ o.number → ⊥) → Steps p g n at (Err OtherGrant) p
    no_rule : g ≡ o.number → length o.rules ≤ n → Steps p g n at (Err (Rewrite fault.NoRule)) p
    no_place : g ≡ o.number → n < length o.rules → size p.last ≤ at → Steps p g n at (Err (Rewrite fault.NoPlace)) p
    no_match : g ≡ o.number → n < length o.rules → at < size p.last → ((u : Term) → Step o.rules n at p.last u → ⊥)
        → Steps p g n at (Err (Rewrite fault.NoMatch)) p
    too_long : g ≡ o.number → (u : Term) → Step o.rules n at p.last u → most_term < size u → Steps p g n at (Err (Rewrite fault.TooLong)) p
    stepped : g ≡ o.number → (u : Term) (s : Step o.rules n at p.last u) → size u ≤ most_term → Steps p g n at (Ok tt) (added p s)

  -- steps at first redexes, up to n of them: why they end, and how many there are
  pub data Walks : Of → ℕ → End → ℕ → Of → Type 0 where
    normal : {p : Of} {n : ℕ} → Normal o.rules p.last → Walks p n end.Normal 0 p
    more : {p : Of} {at k : ℕ} → First o.rules p.last at k → Walks p 0 end.More 0 p
    too_long : {p : Of} {n at k : ℕ} {u : Term} → First o.rules p.last at k → Step o.rules k at p.last u → most_term < size u
        → Walks p (suc n) end.TooLong 0 p
    on : {p q : Of} {n m at k : ℕ} {u : Term} {e : End} → First o.rules p.last at k → (s : Step o.rules k at p.last u) → size u ≤ most_term
        → Walks (added p s) n e m q → Walks p (suc n) e (suc m) q

  pub data Sweeps (p : Of) (g n : ℕ) : Result Sweep JobFault → Of → Type 0 where
    other_grant : (g ≡ o.number → ⊥) → Sweeps p g n (Err OtherGrant) p
    swept : {e : End} {m : ℕ} {q : Of} → g ≡ o.number → Walks p n e m q → Sweeps p g n (Ok record { end = e; steps = m }) q

  pub record Looks (p : Of) (l : Look) : Type 0 where
    pub redex : FirstRedex o.rules p.last l.first
    pub sized : l.size ≡ size p.last
    pub counted : l.count ≡ length p.numbers
    pub remaining : l.left ≡ o.amount - length p.numbers

  -- a call on a memory: the answer, the memory and the plain job after it
  pub data Replies (p : Of) (m : List ℕ) : Asked → Answer → List ℕ → Of → Type 0 where
    steps : {g n at : ℕ} {a : Result (Unit {0}) JobFault} {q : Of} → Steps p g n at a q → Replies p m (step g n at) (answer.Stepped a) m q
    sweeps : {g n : ℕ} {a : Result Sweep JobFault} {q : Of} → Sweeps p g n a q → Replies p m (sweep g n) (answer.Swept a) m q
    looks : {l : Look} → Looks p l → Replies p m look (answer.Looked l) m p
    copies : {room : ℕ} → Replies p m (copy_out room) (answer.Copied (copy_to_reply (codes p.last) room m).0) (copy_to_reply (codes p.last) room m).1 p

  -- the calls of a list in turn
  pub data Replays : Of → List ℕ → List Asked → List Answer → List ℕ → Of → Type 0 where
    over : {p : Of} {m : List ℕ} → Replays p m [] [] m p
    next : {p q r : Of} {m m1 m2 : List ℕ} {c : Asked} {cs : List Asked} {a : Answer} {rest : List Answer}
        → Replies p m c a m1 q → Replays q m1 cs rest m2 r → Replays p m (c ∷ cs) (a ∷ rest) m2 r
