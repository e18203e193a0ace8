-- What the calls answer, with the tests in the order in which they are made.
use Rattle.std.specs.Prelude.{ℕ, Bool, cond, ◌&&◌, List, length, Ok, Err, Result, nat_le, nat_lt, slice_index_or}
use Rattle.refusals.specs.declared.Refusal.{Refusal}
use Rattle.refusals.specs.declared.Layer.TheVariants.{Review, Job}
use Rattle.rewriting.specs.declared.fault.RewriteFault.{RewriteFault}
use Rattle.rewriting.specs.declared.fault.RewriteFault.TheVariants as fault
use Rattle.terms.specs.Limits.{most_term}
use Rattle.terms.specs.Terms.{Term.var}
use Rattle.terms.specs.Rules.{Rule}
use Rattle.terms.specs.Codes.{is_term, term_of, sub_at}
use Rattle.rewriting.specs.Matching.{matches}
use Rattle.rewriting.specs.Filling.{next_codes}

-- each fault's number, layer and place
abbrev pub fault_refusal : RewriteFault → Refusal
fault_refusal fault.Malformed = record { number = 36; layer = Review; place = 0 }
fault_refusal fault.NoRule = record { number = 21; layer = Job; place = 0 }
fault_refusal fault.NoPlace = record { number = 22; layer = Job; place = 0 }
fault_refusal fault.NoMatch = record { number = 41; layer = Job; place = 0 }
fault_refusal fault.TooLong = record { number = 42; layer = Job; place = 0 }

-- whether a pattern matches at a place
abbrev pub match_reply : List ℕ → List ℕ → List ℕ → ℕ → Result Bool RewriteFault
match_reply sig pattern cs at =
    cond (is_term sig pattern && is_term sig cs) (cond (nat_lt at (length cs)) (Ok (matches (term_of sig pattern) (sub_at sig cs at))) (Err fault.NoPlace)) (Err fault.Malformed)

-- the codes after a step by a rule at a place
abbrev pub stepped : List ℕ → List ℕ → ℕ → Rule → Result (List ℕ) RewriteFault
stepped sig cs at r =
    cond (matches r.left (sub_at sig cs at)) (cond (nat_le (length (next_codes sig cs at r)) most_term) (Ok (next_codes sig cs at r)) (Err fault.TooLong)) (Err fault.NoMatch)

abbrev pub rule_at : List Rule → ℕ → Rule
rule_at rules n = slice_index_or rules n record { left = var 0; right = var 0 }

-- the same by a rule's number, where rule and place are looked for first
abbrev pub rewritten : List ℕ → List Rule → List ℕ → ℕ → ℕ → Result (List ℕ) RewriteFault
rewritten sig rules cs n at =
    cond (nat_lt n (length rules)) (cond (nat_lt at (length cs)) (stepped sig cs at (rule_at rules n)) (Err fault.NoPlace)) (Err fault.NoRule)

-- whether there is a redex: also where the next term is too long
abbrev pub redex_of : Result (List ℕ) RewriteFault → Result (Unit {0}) RewriteFault
redex_of (Ok next) = Ok tt
redex_of (Err fault.Malformed) = Err fault.Malformed
redex_of (Err fault.NoRule) = Err fault.NoRule
redex_of (Err fault.NoPlace) = Err fault.NoPlace
redex_of (Err fault.NoMatch) = Err fault.NoMatch
redex_of (Err fault.TooLong) = Ok tt

-- the answer without the codes, and the codes afterwards: a refusal leaves the old ones
abbrev pub answer : Result (List ℕ) RewriteFault → Result (Unit {0}) RewriteFault
answer (Ok next) = Ok tt
answer (Err e) = Err e

abbrev pub codes_after : List ℕ → Result (List ℕ) RewriteFault → List ℕ
codes_after cs (Ok next) = next
codes_after cs (Err e) = cs
