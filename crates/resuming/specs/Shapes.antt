-- What of a term a left side can see: how deep its symbols stand, and whether it compares subterms.
use Rattle.std.specs.Prelude.{ℕ, ◌+◌, cond, Bool, true, ◌&&◌, ◌||◌, not, List, [], ◌∷◌, length, filter, Some, None, Option, nat_le, nat_lt}
use Rattle.terms.specs.Terms.{Term, Terms, Term.var, Term.app, Terms.none, Terms.more, codes}
use Rattle.terms.specs.Contexts.{Context, Context.hole, Context.inside}
use Rattle.terms.specs.Shapes.{has}
use Rattle.terms.specs.Rules.{Rule}

abbrev pub larger : ℕ → ℕ → ℕ
larger a b = cond (nat_lt a b) b a

-- how many levels of symbols a term has
abbrev mutual
  pub levels : Term → ℕ
  levels (var v) = 0
  levels (app f ts) = 1 + levels_all ts

  pub levels_all : Terms → ℕ
  levels_all none = 0
  levels_all (more t ts) = larger (levels t) (levels_all ts)

-- how many symbols stand above the hole of a context
abbrev pub depth : Context → ℕ
depth hole = 0
depth (inside f before c after) = 1 + depth c

-- whether no variable stands twice in codes
abbrev pub unrepeated : List ℕ → Bool
unrepeated [] = true
unrepeated (c ∷ cs) = (nat_lt c 32768 || not (has cs c)) && unrepeated cs

-- whether left sides have at most so many levels, and no variable twice
abbrev pub shallow : ℕ → List Rule → Bool
shallow d [] = true
shallow d (r ∷ rs) = (nat_le (levels r.left) d && unrepeated (codes r.left)) && shallow d rs

-- how many codes are symbols
abbrev pub symbols : List ℕ → ℕ
symbols cs = length (filter (λ c. nat_lt c 32768) cs)

-- what is known of left sides by a number of levels: that they are shallow, or nothing
abbrev pub seen : Option ℕ → List Rule → Bool
seen None rules = true
seen (Some d) rules = shallow (d + 1) rules
