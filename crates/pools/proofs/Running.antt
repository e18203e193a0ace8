-- A run so far, and one call further.
use Rattle.std.proofs.Common.{◌≡◌, ℕ, suc, ◌+◌, ◌<◌, ◌≤◌, List, [], ◌∷◌, ◌++◌, length, get_or, drop, sym, refl, ap, ◌∙◌, arith, ap₂}
use Rattle.std.proofs.lemmas.List.{append_assoc, append-nil, drop_all}
use Rattle.std.proofs.Math.Seq.{drop-cons}
use Rattle.pools.specs.declared.ledger.PoolCall.{PoolCall}
use Rattle.pools.specs.declared.ledger.PoolReply.{PoolReply}
use Rattle.pools.specs.Runs.{Ledger, performing, replies, after, run}

-- what is answered so far and what is still to be answered are the answers of the whole
pub record Running (start : Ledger) (calls : List PoolCall) (i : ℕ) (l : Ledger) (rs : List PoolReply) : Type 0 where
  pub answers : replies start calls ≡ rs ++ replies l (drop i calls)
  pub left : after start calls ≡ after l (drop i calls)

pub starts : (l : Ledger) (calls : List PoolCall) → Running l calls 0 l []
starts l calls = record { answers = refl; left = refl }

module _ {start : Ledger} {calls : List PoolCall} {i : ℕ} {l : Ledger} {rs : List PoolReply} (so_far : Running start calls i l rs) where
  pub goes_on : (c : PoolCall) (r : PoolReply) (m : Ledger) → i < length calls → c ≡ get_or calls i c → (r, m) ≡ performing l c → Running start calls (i + 1) m (rs ++ r ∷ [])
  goes_on c r m within at e =
      let more : suc i ≡ i + 1 = omega arith in
      let next : drop i calls ≡ c ∷ drop (i + 1) calls =
      drop-cons calls i c within ∙ ap (λ x. x ∷ drop (suc i) calls) (sym at) ∙ ap (λ j. c ∷ drop j calls) more in
      record {
        answers =
            so_far.answers ∙ ap (λ cs. rs ++ replies l cs) next ∙ ap (λ (q : PoolReply × Ledger). rs ++ q.0 ∷ replies q.1 (drop (i + 1) calls)) (sym e)
            ∙ sym (append_assoc rs (r ∷ []) (replies m (drop (i + 1) calls)));
        left = so_far.left ∙ ap (after l) next ∙ ap (λ (q : PoolReply × Ledger). after q.1 (drop (i + 1) calls)) (sym e);
      }

  pub ends : length calls ≤ i → (rs, l) ≡ run start calls
  ends past =
      let none = drop_all i calls past in
      let a : replies start calls ≡ rs = so_far.answers ∙ ap (λ cs. rs ++ replies l cs) none ∙ append-nil rs in
      let b : after start calls ≡ l = so_far.left ∙ ap (after l) none in
      sym (ap₂ pair a b)
    where
      pair : List PoolReply → Ledger → List PoolReply × Ledger
      pair xs k = (xs, k)
