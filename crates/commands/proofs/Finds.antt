-- What words spell is read from them.
use Rattle.std.proofs.Common.{◌≡◌, List, length, Some}
use Rattle.std.specs.List.{AllByRecursion}
use borrow.Author.Tests.{lt-ltb}
use Rattle.commands.specs.declared.command.Opening.TheVariants.{Full, Short}
use Rattle.commands.specs.declared.verb.Verb.TheVariants.{Measure, Compare, Ceiling, Pool, Reserve, Settle, Free, Open, Step, Sweep, Look, Copy, Term, Help}
use Rattle.commands.specs.Words.{Word, first}
use Rattle.commands.specs.Verbs.{verb_of}
use Rattle.commands.specs.Requests.{Request}
use Rattle.commands.specs.Table.{then, behind}
use Rattle.commands.specs.Laws.{Spells, Spells.measure_start, Spells.measure_term, Spells.compare_at, Spells.ceiling_of, Spells.pool_of, Spells.reserve_of, Spells.settle_of, Spells.free_all, Spells.open_full, Spells.open_full_term, Spells.open_short, Spells.open_short_term, Spells.step_at, Spells.sweep_for, Spells.look_on, Spells.copy_to, Spells.term_now, Spells.help_us}
use Rattle.commands.proofs.Lines.{NotEmpty}
use Rattle.commands.proofs.Numbers.{found}
use Rattle.commands.proofs.Verbs.{verb_found, opening_found}

pub read : (r : Request) (ws : List Word) → Spells r ws → AllByRecursion NotEmpty ws
    → then (first verb_of ws) behind ≡ Some r
read r ws measure_start n = rw (verb_found Measure)
read r ws (measure_term {t = t}) n = rw (verb_found Measure, lt-ltb 0 (length t) n.1.0)
read r ws (compare_at {w = w} {i = i} h) n = rw (verb_found Compare, found 64 w i h)
read r ws (ceiling_of {w = w} {n = m} h) n = rw (verb_found Ceiling, found 64 w m h)
read r ws (pool_of {w = w} {v = v} {size = s} {first = f} h g) n = rw (verb_found Pool, found 64 w s h, found 32 v f g)
read r ws (reserve_of {w = w} {amount = m} h) n = rw (verb_found Reserve, found 64 w m h)
read r ws (settle_of {w = w} {number = m} h) n = rw (verb_found Settle, found 32 w m h)
read r ws free_all n = rw (verb_found Free)
read r ws (open_full {w = w} {number = m} h) n = rw (verb_found Open, opening_found Full, found 32 w m h)
read r ws (open_full_term {w = w} {t = t} {number = m} h) n = rw (verb_found Open, opening_found Full, found 32 w m h, lt-ltb 0 (length t) n.1.1.1.0)
read r ws (open_short {w = w} {number = m} h) n = rw (verb_found Open, opening_found Short, found 32 w m h)
read r ws (open_short_term {w = w} {t = t} {number = m} h) n = rw (verb_found Open, opening_found Short, found 32 w m h, lt-ltb 0 (length t) n.1.1.1.0)
read r ws (step_at {w = w} {v = v} {u = u} {number = m} {rule = k} {place = p} h g f) n = rw (verb_found Step, found 32 w m h, found 64 v k g, found 64 u p f)
read r ws (sweep_for {w = w} {v = v} {number = m} {n = k} h g) n = rw (verb_found Sweep, found 32 w m h, found 64 v k g)
read r ws look_on n = rw (verb_found Look)
read r ws (copy_to {w = w} {n = m} h) n = rw (verb_found Copy, found 64 w m h)
read r ws term_now n = rw (verb_found Term)
read r ws help_us n = rw (verb_found Help)
