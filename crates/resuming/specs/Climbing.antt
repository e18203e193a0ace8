-- Where a search goes on after a step: the place of the symbol so many levels above, found in the codes that stand before.
use Rattle.std.specs.Prelude.{ℕ, zero, suc, ◌+◌, ◌-◌, cond, List, [], ◌∷◌, nat_lt}
use Rattle.terms.specs.Codes.{arity}
use Rattle.terms.specs.Terms.{size_all}
use Rattle.terms.specs.Contexts.{Context, Context.hole, Context.inside}
use Rattle.resuming.specs.Shapes.{depth}

-- the place of the symbol d levels above a hole, or of the whole term's first
abbrev pub above : ℕ → Context → ℕ
above d hole = 0
above d (inside f before c after) = cond (nat_lt (depth c) d) 0 (1 + (size_all before + above d c))

-- reading codes from the last to the first: how many levels are still to be climbed, how many whole terms stand behind the
-- code that was read, and, once all levels are climbed, how many codes stand before
pub record Climb : Type 0 where
  pub levels : ℕ
  pub terms : ℕ
  pub place : ℕ

-- a code that awaits more arguments than stand behind it is the next symbol above
abbrev pub climbed : ℕ → ℕ → ℕ → Climb
climbed a k terms = cond (nat_lt terms a) (record { levels = k; terms = 0; place = 0 }) (record { levels = suc k; terms = terms + 1 - a; place = 0 })

abbrev pub one_more : ℕ → Climb → ℕ → Climb
one_more a s zero = record { levels = 0; terms = 0; place = s.place + 1 }
one_more a s (suc k) = climbed a k s.terms

abbrev pub climb : List ℕ → ℕ → List ℕ → Climb
climb sig d [] = record { levels = d; terms = 0; place = 0 }
climb sig d (c ∷ cs) = let s = climb sig d cs in one_more (arity sig c) s s.levels

-- from the codes before a place
abbrev pub back_up : List ℕ → ℕ → List ℕ → ℕ
back_up sig d before = (climb sig d before).place
