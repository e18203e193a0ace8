-- A term that may follow, read word by word.
use Rattle.std.proofs.Common.{◌≡◌, ◌<◌, ◌≤◌, List, [], ◌∷◌, Some, None, length, nat_lt, true, false, ap, arith}
use Rattle.std.proofs.lemmas.Option.{some_pair_parts}
use borrow.Author.Tests.{lt-ltb, le-ltb}
use Rattle.commands.specs.Words.{Word, first}
use Rattle.commands.specs.Table.{optional_term}

pub no_word : (ws vs : List Word) → None ≡ first Some ws → vs ≡ [] → Some (None, vs) ≡ optional_term ws
no_word [] vs e at_end = rw at_end
no_word (w ∷ ws) vs e at_end = cc

pub empty_word : (ws vs : List Word) (w : Word) → Some (w, vs) ≡ first Some ws → length w < 1
    → None ≡ optional_term ws
empty_word [] vs w e empty = cc
empty_word (x ∷ ws) vs w e empty =
    let is : (w ≡ x) × (vs ≡ ws) = some_pair_parts w x vs ws e in
    let none : nat_lt 0 (length x) ≡ false = le-ltb 0 (length x) (omega (arith, ap length is.0)) in
    rw none

pub one_word : (ws vs : List Word) (w : Word) → Some (w, vs) ≡ first Some ws → 1 ≤ length w
    → Some (Some w, vs) ≡ optional_term ws
one_word [] vs w e full = cc
one_word (x ∷ ws) vs w e full =
    let is : (w ≡ x) × (vs ≡ ws) = some_pair_parts w x vs ws e in
    let some : nat_lt 0 (length x) ≡ true = lt-ltb 0 (length x) (omega (arith, ap length is.0)) in
    rw (some, is.0, is.1)
