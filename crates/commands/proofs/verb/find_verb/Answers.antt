use Rattle.std.proofs.Common.{rules, tests}
use Rattle.std.proofs.lemmas.Iterator.{YieldsList-from_slice}
use Rattle.std.proofs.lemmas.Iterator.Search.{find_from_yields_List}
use Rattle.std.specs.Str.{bytes_eq}
use Rattle.commands.specs.Verbs.{verb_word, verb_of, verbs}
use Rattle.commands.proofs.verb.find_verb.Goals as goal

pub returns : goal.returns
unfolding verb_of
returns c =
    let found = find_from_yields_List (λ v. bytes_eq (verb_word v) c.args.word.now) _ _ c.find.result c.find.ensures.ran (YieldsList-from_slice verbs (cc)) (λ x b q k. search (rules, tests)) in
    cc
