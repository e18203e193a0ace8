-- The empty part, and the sum of two algebras.
use Rattle.std.specs.Prelude.{ℕ, ◌+◌, true, false, ◌&&◌, ◌||◌, Some, None, Option, nat_le}
use Rattle.algebras.specs.Meanings.{Meaning, reach}

-- fits every signature, and orders nothing: all heights are 0
abbrev pub empty_means : Meaning
empty_means = record {
  fits = λ sig. true;
  height = λ t. 0;
  given = λ t. true;
  readable = λ r. true;
  weak = λ r. true;
  strict = λ r. false;
  ceiling = λ n. Some 0;
}

-- a sum has a ceiling where both have one
abbrev pub add_ceilings : Option ℕ → Option ℕ → Option ℕ
add_ceilings None d = None
add_ceilings (Some c) None = None
add_ceilings (Some c) (Some d) = Some (c + d)

-- heights and ceilings add; a rule is weak if it is in both, and strict if it is also strict in one
abbrev pub sum_means : Meaning → Meaning → Meaning
sum_means A B = record {
  fits = λ sig. A.fits sig && B.fits sig;
  height = λ t. A.height t + B.height t;
  given = λ t. (A.given t && B.given t) && nat_le (A.height t + B.height t) reach;
  readable = λ r. A.readable r && B.readable r;
  weak = λ r. A.weak r && B.weak r;
  strict = λ r. (A.weak r && B.weak r) && (A.strict r || B.strict r);
  ceiling = λ n. add_ceilings (A.ceiling n) (B.ceiling n);
}
