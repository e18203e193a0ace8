-- A place of a term, and the subterm there.
use Rattle.std.specs.Prelude.{◌≡◌, ℕ, ◌<◌, ◌≤◌, cond, List, length, Some, None, Ok, Err, Option, Result, nat_lt}
use Rattle.rewriting.specs.declared.fault.RewriteFault.{RewriteFault}
use Rattle.rewriting.specs.declared.fault.RewriteFault.TheVariants as fault
use Rattle.rewriting.specs.declared.place.Place.{Place}
use Rattle.terms.specs.Terms.{Term}
use Rattle.terms.specs.Codes.{is_term, sub_at}
use Rattle.terms.specs.Models.{arities_of}

abbrev pub arities_at : Place → List ℕ
arities_at p = arities_of p.signature.now

abbrev pub subterm : Place → Term
subterm p = sub_at (arities_at p) p.codes.now p.at

-- a place by the arities, the codes and the number
pub record Spot : Type 0 where
  pub arities : List ℕ
  pub codes : List ℕ
  pub at : ℕ

abbrev pub spot_of : Place → Spot
spot_of p = record { arities = arities_at p; codes = p.codes.now; at = p.at }

-- the place of a number, where codes have it
abbrev pub Placed : List ℕ → List ℕ → ℕ → Option Place → Type 0
Placed sig cs at None = length cs ≤ at
Placed sig cs at (Some p) = (at < length cs) × (spot_of p ≡ record { arities = sig; codes = cs; at = at })

abbrev pub place_reply : List ℕ → List ℕ → ℕ → Result Spot RewriteFault
place_reply sig cs at =
    cond (is_term sig cs) (cond (nat_lt at (length cs)) (Ok record { arities = sig; codes = cs; at = at }) (Err fault.NoPlace)) (Err fault.Malformed)
