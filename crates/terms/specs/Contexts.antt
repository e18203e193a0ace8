-- Contexts, terms with one hole, and the places of a term.
use Rattle.std.specs.Prelude.{◌≡◌, ℕ, ◌+◌, List, [], ◌∷◌, ◌++◌}
use Rattle.terms.specs.Terms.{Term, Terms, Term.app, Terms.none, Terms.more, codes_all, size_all}

pub data Context : Type 0 where
  hole : Context
  inside : ℕ → Terms → Context → Terms → Context

-- one row of arguments behind another
abbrev pub joined : Terms → Terms → Terms
joined none us = us
joined (more t ts) us = more t (joined ts us)

-- a context with a term in its hole
abbrev pub plug : Context → Term → Term
plug hole t = t
plug (inside f before c after) t = app f (joined before (more (plug c t) after))

-- the place of the hole: how many codes stand before it
abbrev pub place : Context → ℕ
place hole = 0
place (inside f before c after) = 1 + (size_all before + place c)

-- the codes before the hole, and those behind it
abbrev pub before_hole : Context → List ℕ
before_hole hole = []
before_hole (inside f before c after) = f ∷ (codes_all before ++ before_hole c)

abbrev pub after_hole : Context → List ℕ
after_hole hole = []
after_hole (inside f before c after) = after_hole c ++ codes_all after

-- a subterm at a place of a term, with the context around it
pub record Occurrence (t : Term) (at : ℕ) : Type 0 where
  pub context : Context
  pub part : Term
  pub whole : plug context part ≡ t
  pub placed : place context ≡ at
