-- What one call does to a ledger that is in order.
use Rattle.std.proofs.Common.{◌≡◌, ℕ, ◌<◌, ◌≤◌, [], ◌∷◌, ◌++◌, get_or, length, Some, None, Ok, Err, Result, sym, refl, ap, ◌∙◌, subst, inl, inr, map, arith, eqb, ltb}
use Rattle.std.specs.List.{Contains}
use Rattle.std.proofs.lemmas.Bool.{cond_both, ltb-true, ltb-false, eqb-true, eqb-false, eq-eqb, both_ways}
use Rattle.std.proofs.lemmas.List.Elements.{All-push, All-weaker}
use Rattle.std.proofs.lemmas.List.Quantifiers.{all_pairs_push}
use Rattle.std.proofs.lemmas.List.Sums.{sum_by_push, fails_before_first}
use Rattle.std.proofs.lemmas.List.{length-map, get_or-map}
use Rattle.pools.specs.declared.fault.PoolFault.{PoolFault}
use Rattle.pools.specs.declared.fault.PoolFault.TheVariants.{OutOfRange, AboveFree, NumbersGiven, AboveSize}
use Rattle.pools.specs.declared.grant.Grant.{Grant}
use Rattle.pools.specs.declared.ledger.PoolCall.{PoolCall}
use Rattle.pools.specs.declared.ledger.PoolCall.TheVariants.{Reserve, Settle}
use Rattle.pools.specs.declared.ledger.PoolReply.{PoolReply}
use Rattle.pools.specs.declared.ledger.PoolReply.TheVariants as reply
use Rattle.pools.specs.Pools.{State, most_steps, last_number, reserving}
use Rattle.pools.specs.Laws.{Reserved}
use Rattle.pools.specs.Grants.{has_number, others}
use Rattle.pools.specs.Runs.{Ledger, kept, performing}
use Rattle.pools.specs.RunLaws.{grant_given, number_settled}
use Rattle.pools.proofs.Places.{blank}
use Rattle.pools.proofs.Settlings.{InOrder, Below, Within, Searched, searched, idle, settles}

-- a call gives a grant, settles one, or changes nothing that is out
pub data Effect (l : Ledger) (c : PoolCall) (r : PoolReply) (m : Ledger) : Type 0 where
  gives : (g : Grant) → grant_given (c, r) ≡ Some g → number_settled (c, r) ≡ None → m.out ≡ l.out ++ g ∷ [] → l.pool.last < g.number → m.pool.last ≡ g.number → Effect l c r m
  returns : (n : ℕ) → grant_given (c, r) ≡ None → number_settled (c, r) ≡ Some n → m.out ≡ others n l.out → n ≤ l.pool.last → m.pool.last ≡ l.pool.last → Effect l c r m
  keeps : grant_given (c, r) ≡ None → number_settled (c, r) ≡ None → m.out ≡ l.out → m.pool.last ≡ l.pool.last → Effect l c r m

-- what reserving means
pub reserves : (p : State) (a : ℕ) → Reserved p a (reserving p a).0 (reserving p a).1
reserves p a =
    let P : Result Grant PoolFault × State → Type 0 = λ z. Reserved p a z.0 z.1 in
    cond_both (ltb most_steps a) _ _ P (λ t. (refl, ltb-true _ _ t))
    (λ few. cond_both (eqb p.last last_number) _ _ P (λ t. (refl, ltb-false _ _ few, eqb-true _ _ t))
    (λ new. cond_both (ltb p.free a) _ _ P (λ t. (refl, ltb-false _ _ few, eqb-false _ _ new, ltb-true _ _ t))
    (λ fits. let le = ltb-false _ _ fits in record { whole = refl; taken = omega arith; new = omega arith; last = refl; size = refl })))

-- a refusal leaves the pool
unchanged : (p q : State) (a : ℕ) (fault : PoolFault) → Reserved p a (Err fault) q → q ≡ p
unchanged p q a OutOfRange r = r.0
unchanged p q a NumbersGiven r = r.0
unchanged p q a AboveFree r = r.0
unchanged p q a AboveSize r = absurd r

-- by cases of what reserving answered, and of whether a number is out
module _ (l : Ledger) (o : InOrder l) where
  kept_in_order : (a : ℕ) (r : Result Grant PoolFault) (q : State) → Reserved l.pool a r q → InOrder (kept l (r, q)).1
  kept_in_order a (Ok g) q t =
      let sum = sum_by_push (λ (x : Grant). x.amount) l.out g in
      let balance = o.balanced in
      let all = o.given in
      record {
        balanced = omega arith;
        numbered = all_pairs_push Below l.out g o.numbered (λ k d h. let low = all k d h in omega arith);
        given = All-push (Within q.last) l.out g (All-weaker (Within l.pool.last) (Within q.last) (λ x h. omega arith) l.out all) (omega arith);
      }
  kept_in_order a (Err fault) q t = subst (λ (p : State). InOrder (record { pool = p; out = l.out })) (sym (unchanged _ q a fault t)) o

  kept_effect : (a : ℕ) (r : Result Grant PoolFault) (q : State) → Reserved l.pool a r q → Effect l (Reserve a) (kept l (r, q)).0 (kept l (r, q)).1
  kept_effect a (Ok g) q t = gives g (ap (λ (k : ℕ). Some (record { number = g.number; amount = k })) (sym t.whole)) refl refl t.new t.last
  kept_effect a (Err fault) q t = keeps refl refl refl (ap (λ (p : State). p.last) (unchanged _ q a fault t))

  pub stays_in_order : (c : PoolCall) → InOrder (performing l c).1
  stays_in_order (Reserve a) = kept_in_order a (reserving l.pool a).0 (reserving l.pool a).1 (reserves l.pool a)
  stays_in_order (Settle n) = by (searched l n)
    where
      by : Searched l n → InOrder (performing l (Settle n)).1
      by (inl (at, place)) = let d = settles l o n at blank place in subst (λ (q : PoolReply × Ledger). InOrder q.1) (sym d.is) d.in_order
      by (inr past) = subst (λ (q : PoolReply × Ledger). InOrder q.1) (sym (idle l n past)) o

  pub same_size : (c : PoolCall) → (performing l c).1.pool.size ≡ l.pool.size
  same_size (Reserve a) = kept_size (reserving l.pool a).0 (reserving l.pool a).1 (reserves l.pool a)
    where
      kept_size : (r : Result Grant PoolFault) (q : State) → Reserved l.pool a r q → (kept l (r, q)).1.pool.size ≡ l.pool.size
      kept_size (Ok g) q t = t.size
      kept_size (Err fault) q t = ap (λ (p : State). p.size) (unchanged _ q a fault t)
  same_size (Settle n) = by (searched l n)
    where
      by : Searched l n → (performing l (Settle n)).1.pool.size ≡ l.pool.size
      by (inl (at, place)) = ap (λ (q : PoolReply × Ledger). q.1.pool.size) ((settles l o n at blank place).is)
      by (inr past) = ap (λ (q : PoolReply × Ledger). q.1.pool.size) (idle l n past)

  settle_effect : (n : ℕ) → Searched l n → Effect l (Settle n) (performing l (Settle n)).0 (performing l (Settle n)).1
  settle_effect n (inl (at, place)) =
      let d = settles l o n at blank place in subst (λ (q : PoolReply × Ledger). Effect l (Settle n) q.0 q.1) (sym d.is) (returns n refl refl refl d.low refl)
  settle_effect n (inr past) = subst (λ (q : PoolReply × Ledger). Effect l (Settle n) q.0 q.1) (sym (idle l n past)) (keeps refl refl refl refl)

  pub effect : (c : PoolCall) → Effect l c (performing l c).0 (performing l c).1
  effect (Reserve a) = kept_effect a (reserving l.pool a).0 (reserving l.pool a).1 (reserves l.pool a)
  effect (Settle n) = settle_effect n (searched l n)

  -- a grant that is out is settled
  pub settled : (n : ℕ) → Contains (map (λ (g : Grant). g.number) l.out) n → (performing l (Settle n)).0 ≡ reply.Settled
  settled n (k, inside, is) = by (searched l n)
    where
      by : Searched l n → (performing l (Settle n)).0 ≡ reply.Settled
      by (inl (at, place)) = ap (λ (q : PoolReply × Ledger). q.0) ((settles l o n at blank place).is)
      by (inr past) =
          let short : k < length l.out = rw length-map at inside in
          let there : (get_or l.out k blank).number ≡ n = sym (get_or-map (λ (g : Grant). g.number) l.out k blank n short) ∙ is in
          absurd (both_ways _ (fails_before_first (has_number n) l.out k blank (omega arith)) (eq-eqb _ _ there))
