-- What a sweep for the reserve comes to, from what the plain job says.
use Rattle.std.proofs.Common.{◌≡◌, ℕ, ◌+◌, List, [], ◌∷◌, length, Ok, refl, subst, arith, length-append}
use Rattle.terms.specs.declared.system.System as held
use Rattle.terms.specs.Codes.{term_of}
use Rattle.terms.specs.Steps.{Derivation}
use Rattle.terms.specs.Systems.{signature_of, rules_of, system_of}
use Rattle.algebras.specs.Meanings.{Meaning}
use Rattle.pools.specs.declared.grant.Grant.{Grant}
use Rattle.job_calls.specs.declared.answer.End.{End}
use Rattle.job_calls.specs.declared.answer.Sweep.{Sweep}
use Rattle.job_calls.specs.declared.answer.Answer.TheVariants as answer
use Rattle.job_calls.specs.Calls.{State, Asked.sweep}
use Rattle.job_calls.specs.Plain.{Given, Of, opened, added, Walks, Sweeps, Replies, Replays}
use Rattle.job_calls.specs.Runs.{given, Final, LawfulRun, Follows}
use Rattle.jobs.specs.declared.full.Full.{Full}
use Rattle.jobs.specs.Fulls.{state_in}
use Rattle.jobs.proofs.Opening.{is_fresh}
use Rattle.jobs.specs.Openings.{fresh}
use Rattle.jobs.specs.FullOpenings.{full_reply}
use Rattle.hosting.specs.Hosting.{EndsAs, Ended}

-- a walk has a step for each rule number, and ends as it says
walked : (o : Given) (p q : Of o) (n m : ℕ) (e : End) → Walks o p n e m q → length q.numbers ≡ length p.numbers + m
walked o p q n m e (Walks.normal h) = omega arith
walked o p q n m e (Walks.more f) = omega arith
walked o p q n m e (Walks.too_long f x long) = omega arith
walked o p q n m e (Walks.on {n = k} {m = l} {k = r} f x fits w) =
    let rest = walked o (added p x) q k l e w in
    let one = length-append p.numbers (r ∷ []) in
    omega arith

ends_as : (o : Given) (p q : Of o) (n m : ℕ) (e : End) → Walks o p n e m q → Final e → EndsAs o.rules q.last e
ends_as o p q n m e (Walks.normal h) f = h
ends_as o p q n m e (Walks.more x) f = absurd f
ends_as o p q n m e (Walks.too_long {at = at} {k = r} {u = u} x y long) f = (at, r, u, x, y, long)
ends_as o p q n m e (Walks.on {n = k} {m = l} x y fits w) f = ends_as o (added p y) q k l e w f

-- what the plain job has walked in an unrefused sweep
record Walked (o : Given) (p q : Of o) (s : Sweep) : Type 0 where
  pub counted : length q.numbers ≡ length p.numbers + s.steps
  pub ended : Final s.end → EndsAs o.rules q.last s.end

swept : (o : Given) (p q : Of o) (g n : ℕ) (s : Sweep) → Sweeps o p g n (Ok s) q → Walked o p q s
swept o p q g n s (Sweeps.swept {e = e} {m = m} own w) = record { counted = walked o p q n m e w; ended = ends_as o p q n m e w }

replied : (o : Given) (p q : Of o) (m m1 : List ℕ) (g n : ℕ) (s : Sweep) → Replies o p m (sweep g n) (answer.Swept (Ok s)) m1 q → Walked o p q s
replied o p q m m1 g n s (Replies.sweeps x) = swept o p q g n s x

replayed : (o : Given) (p q : Of o) (m m2 : List ℕ) (g n : ℕ) (s : Sweep) → Replays o p m (sweep g n ∷ []) (answer.Swept (Ok s) ∷ []) m2 q → Walked o p q s
replayed o p q m m2 g n s (Replays.next {m1 = m1} x Replays.over) = replied o p q m m1 g n s x

pub sweep_ends : (A : Meaning) (system : held.System) (cs : List ℕ) (g : Grant) (h : ℕ) (j k : Full) (s : Sweep) → Ok (state_in j) ≡ full_reply A (system_of system) cs g
    → LawfulRun (state_in j) [] (sweep g.number g.amount ∷ []) record { answers = answer.Swept (Ok s) ∷ []; memory = []; state = state_in k }
    → Ended system cs record { height = h; job = k; sweep = s }
sweep_ends A system cs g h j k s e law = by_law (state_in j) (is_fresh A system cs g (state_in j) e) law
  where
    by_law : (t : State) → t ≡ fresh (system_of system) cs g → LawfulRun t [] (sweep g.number g.amount ∷ []) record { answers = answer.Swept (Ok s) ∷ []; memory = []; state = state_in k } → Ended system cs record { height = h; job = k; sweep = s }
    by_law t same law' =
        let start = term_of (signature_of system) cs in
        let f = fresh (system_of system) cs g in
        let mine : LawfulRun f [] (sweep g.number g.amount ∷ []) record { answers = answer.Swept (Ok s) ∷ []; memory = []; state = state_in k } =
        subst (λ t. LawfulRun t [] (sweep g.number g.amount ∷ []) record { answers = answer.Swept (Ok s) ∷ []; memory = []; state = state_in k }) same law' in
        let p = opened (rules_of system) start in
        let x : Follows f [] (sweep g.number g.amount ∷ []) record { answers = answer.Swept (Ok s) ∷ []; memory = []; state = state_in k } start p =
        mine.plain start p (record { last = refl; count = refl }) in
        let w = replayed (given f start) p x.plain [] [] g.number g.amount s x.replays in
        record {
          numbers = x.plain.numbers;
          derivation = subst (λ u. Derivation (rules_of system) start x.plain.numbers u) x.last x.plain.derivation;
          counted = (let k = w.counted in omega arith);
          ended = subst (λ u. EndsAs (rules_of system) u s.end) x.last (w.ended (mine.ends.0 (omega arith)));
        }
