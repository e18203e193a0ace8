-- A ledger in order, and a grant settled by its number.
use Rattle.std.proofs.Common.{◌≡◌, ℕ, ◌+◌, ◌<◌, ◌≤◌, List, get_or, length, Some, Ok, Result, sym, ap, ◌∙◌, subst, ap₂, inl, inr, ◌⊎◌, arith}
use Rattle.std.specs.List.{All, AllPairs, position, position_or_len, remove}
use Rattle.std.proofs.lemmas.Bool.{cases_lt, cond-true, cond-false, lt-ltb, le-ltb}
use Rattle.std.proofs.lemmas.List.Elements.{All-filter}
use Rattle.std.proofs.lemmas.List.Folds.{find_at}
use Rattle.std.proofs.lemmas.List.Kept.{AllPairs-filter}
use Rattle.std.proofs.lemmas.List.Sums.{sum_by-remove}
use Rattle.std.proofs.lemmas.Option.{slice_get_past}
use Rattle.pools.specs.declared.grant.Grant.{Grant}
use Rattle.pools.specs.declared.pool.Unsettled.{Unsettled}
use Rattle.pools.specs.declared.ledger.PoolCall.TheVariants.{Settle}
use Rattle.pools.specs.declared.ledger.PoolReply.{PoolReply}
use Rattle.pools.specs.declared.ledger.PoolReply.TheVariants.{Settled, NotOut}
use Rattle.pools.specs.declared.ledger.Ledger as code
use Rattle.pools.specs.Pools.{State, settling}
use Rattle.pools.specs.Grants.{total, has_number, others}
use Rattle.pools.specs.Runs.{Ledger, returned, settling_found, performing}
use Rattle.pools.specs.Ledgers.{ledger_of}
use Rattle.pools.proofs.Places.{found, within, of_number, removed}

abbrev pub Below : Grant → Grant → Type 0
Below g h = g.number < h.number

abbrev pub Within : ℕ → Grant → Type 0
Within n g = g.number ≤ n

-- what the ghost fields of a ledger say
pub record InOrder (l : Ledger) : Type 0 where
  pub balanced : total l.out + l.pool.free ≡ l.pool.size
  pub numbered : AllPairs Below l.out
  pub given : All (Within l.pool.last) l.out

pub in_order : (s : code.Ledger) → InOrder (ledger_of s)
in_order s = record { balanced = s.balanced; numbered = s.numbered; given = s.given }

-- a number has a place among the grants that are out, or it has none
abbrev pub Searched : Ledger → ℕ → Type 0
Searched l n = ((at : ℕ) × (Some at ≡ position (has_number n) l.out)) ⊎ (length l.out ≤ position_or_len (has_number n) l.out)

pub searched : (l : Ledger) (n : ℕ) → Searched l n
searched l n =
    let by = cases_lt (position_or_len (has_number n) l.out) (length l.out) in
    elim by [ inl lt ↦ inl (_, sym (cond-true _ _ _ (lt-ltb _ _ lt))) | inr le ↦ inr le ]

pub idle : (l : Ledger) (n : ℕ) → length l.out ≤ position_or_len (has_number n) l.out → performing l (Settle n) ≡ (NotOut, l)
idle l n past = ap (settling_found l n) (find_at _ l.out ∙ slice_get_past l.out _ past)

-- a ledger whose pool has this grant back
abbrev pub without : Ledger → ℕ → Grant → Ledger
without l n g = record { pool = record { size = l.pool.size; free = l.pool.free + g.amount; last = l.pool.last }; out = others n l.out }

-- a grant of this number that is out and fits
pub record Settles (l : Ledger) (n : ℕ) (g : Grant) : Type 0 where
  pub is : performing l (Settle n) ≡ (Settled, without l n g)
  pub accepted : settling l.pool g ≡ (Ok tt, (without l n g).pool)
  pub in_order : InOrder (without l n g)
  pub low : n ≤ l.pool.last

pub settles : (l : Ledger) → InOrder l → (n at : ℕ) (d : Grant) → Some at ≡ position (has_number n) l.out → Settles l n (get_or l.out at d)
settles l o n at d place =
    let inside = within l.out o.numbered n at place in
    let g : Grant = get_or l.out at d in
    let number : g.number ≡ n = of_number l.out o.numbered n at place d in
    let low : g.number ≤ l.pool.last = o.given at d inside in
    let balance = o.balanced in
    let parts : total (others n l.out) + g.amount ≡ total l.out = rw (← removed l.out o.numbered n at place) (sum_by-remove (λ (x : Grant). x.amount) l.out at d inside) in
    let fits : l.pool.free + g.amount ≤ l.pool.size = omega arith in
    let accepted : settling l.pool g ≡ (Ok tt, (without l n g).pool) = cond-false _ _ _ (le-ltb _ _ fits) in
    record {
      is = ap (settling_found l n) (found (has_number n) l.out at d place) ∙ ap (returned l n) accepted;
      accepted = accepted;
      in_order = record {
        balanced = omega arith;
        numbered = AllPairs-filter Below _ l.out o.numbered;
        given = All-filter _ (Within l.pool.last) l.out o.given;
      };
      low = omega arith;
    }

-- what the pool and the grants are after the grant at a place was taken out and settled
module _ (s : code.Ledger) (n at : ℕ) (g : Grant) (gs : List Grant) (r : Result (Unit {0}) Unsettled) (q : State)
    (place : Some at ≡ position (has_number n) s.out.items) (value : g ≡ get_or s.out.items at g) (items : gs ≡ remove s.out.items at) (told : (r, q) ≡ settling (ledger_of s).pool g) where
  done : Settles (ledger_of s) n g
  done = subst (Settles (ledger_of s) n) (sym value) (settles (ledger_of s) (in_order s) n at g place)

  same : record { pool = q; out = gs } ≡ without (ledger_of s) n g
  same =
      ap₂ (λ (p : State) (l : List Grant). record { pool = p; out = l }) (ap (λ (t : Result (Unit {0}) Unsettled × State). t.1) (told ∙ done.accepted))
      (items ∙ removed s.out.items s.numbered n at place)

  pub settled_in_order : InOrder (record { pool = q; out = gs })
  settled_in_order = subst InOrder (sym same) done.in_order

  pub settled_is : (Settled, record { pool = q; out = gs }) ≡ performing (ledger_of s) (Settle n)
  settled_is = let answer : Ledger → PoolReply × Ledger = λ l. (Settled, l) in ap answer same ∙ sym done.is
