-- Matching, as a test on terms.
use Rattle.std.specs.Prelude.{ℕ, Bool, true, false, cond, ◌&&◌, ◌==◌}
use Rattle.terms.specs.Terms.{Term, Terms, Term.var, Term.app, Terms.none, Terms.more, under}

-- equality of terms, as a test
abbrev mutual
  pub same : Term → Term → Bool
  same (var v) (var w) = v == w
  same (var v) (app g us) = false
  same (app f ts) (var w) = false
  same (app f ts) (app g us) = f == g && same_all ts us

  pub same_all : Terms → Terms → Bool
  same_all none none = true
  same_all none (more u us) = false
  same_all (more t ts) none = false
  same_all (more t ts) (more u us) = same t u && same_all ts us

-- what stands in a term where a pattern first has a variable; `d` if it does not occur
abbrev mutual
  pub image : ℕ → Term → Term → Term → Term
  image v (var w) t d = cond (v == w) t d
  image v (app f ls) (var w) d = d
  image v (app f ls) (app g ts) d = images v ls ts d

  pub images : ℕ → Terms → Terms → Term → Term
  images v none ts d = d
  images v (more l ls) none d = d
  images v (more l ls) (more t ts) d = image v l t (images v ls ts d)

-- the substitution that a match would have, and whether it is one
abbrev pub matcher : Term → Term → ℕ → Term
matcher l t v = image v l t (var 0)

abbrev pub matches : Term → Term → Bool
matches l t = same (under (matcher l t) l) t
