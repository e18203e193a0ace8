-- When arities are a signature, and codes the sides of a rule, within the limits.
use Rattle.std.specs.Prelude.{ℕ, ◌+◌, Bool, false, ◌&&◌, ◌||◌, List, [], ◌∷◌, length, ◌==◌, nat_le, nat_lt}
use Rattle.std.specs.List.{list_all, list_any}
use Rattle.terms.specs.Limits.{most_symbols, most_arguments, most_side, variables}
use Rattle.terms.specs.Rules.{Rule}
use Rattle.terms.specs.Codes.{is_term, term_of}

-- whether each number is at most a bound
abbrev pub all_within : ℕ → List ℕ → Bool
all_within most ns = list_all (λ n. nat_le n most) ns

abbrev pub is_signature : List ℕ → Bool
is_signature arities = nat_le (length arities) most_symbols && all_within most_arguments arities

-- whether a code is among codes
abbrev pub has : List ℕ → ℕ → Bool
has ds c = list_any (λ d. d == c) ds

-- whether each variable code of the second list is among the first
abbrev pub covers : List ℕ → List ℕ → Bool
covers ls cs = list_all (λ c. nat_lt c 32768 || has ls c) cs

-- whether the first code is a symbol's
abbrev pub starts_with_symbol : List ℕ → Bool
starts_with_symbol [] = false
starts_with_symbol (c ∷ cs) = nat_lt c 32768

-- a side has 1 to 32 codes, and no variable past the last
abbrev pub is_side : List ℕ → Bool
is_side cs = (nat_lt 0 (length cs) && nat_le (length cs) most_side) && all_within (32767 + variables) cs

-- what makes two sides a rule, whatever the signature
abbrev pub is_proper : List ℕ → List ℕ → Bool
is_proper l r = (is_side l && is_side r) && (starts_with_symbol l && covers l r)

-- a rule under a signature
abbrev pub is_rule : List ℕ → List ℕ → List ℕ → Bool
is_rule sig l r = is_proper l r && (is_term sig l && is_term sig r)

-- the rule that two sides stand for
abbrev pub rule_of : List ℕ → List ℕ → List ℕ → Rule
rule_of sig l r = record { left = term_of sig l; right = term_of sig r }
