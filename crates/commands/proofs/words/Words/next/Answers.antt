use Rattle.std.proofs.Common.{sym}
use Rattle.commands.proofs.Cuts.{cut, uncut}
use Rattle.commands.proofs.words.Words.next.Goals as goal

pub returns-in-Some-clause-first : goal.returns-in-Some-clause-first
returns-in-Some-clause-first c = let e = cut c.in_ok-rest.rest.now c.in-Some.end (sym c.in-Some.ensures) in rw c.in_ok-rest.was (rw e)

pub returns-in-None-clause-first : goal.returns-in-None-clause-first
returns-in-None-clause-first c = let e = uncut c.in_ok-rest.rest.now (sym c.in-None.ensures) in rw c.in_ok-rest.was (rw e)
