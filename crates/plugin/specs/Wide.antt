-- The empty part with a ceiling above the reach.
use Rattle.std.specs.Prelude.{◌+◌, Some}
use Rattle.std.proofs.Common.{arith}
use Rattle.algebras.specs.Meanings.{Meaning, Lawful, reach}
use Rattle.algebras.specs.Layers.{empty_means}
use Rattle.algebras.specs.Lawfuls.{empty_lawful}

abbrev pub wide_means : Meaning
wide_means = record {
  fits = empty_means.fits;
  height = empty_means.height;
  given = empty_means.given;
  readable = empty_means.readable;
  weak = empty_means.weak;
  strict = empty_means.strict;
  ceiling = λ n. Some (reach + 1);
}

pub wide_lawful : Lawful wide_means
wide_lawful = record {
  reached = empty_lawful.reached;
  strict_weak = empty_lawful.strict_weak;
  keeps = empty_lawful.keeps;
  lowers = empty_lawful.lowers;
  ceiled = λ sig f t o. omega arith;
}
