use Rattle.std.proofs.Common.{◌≡◌, rules, ◌∙◌, ap, arith}
use Rattle.std.specs.List.{slice_get}
use Rattle.std.specs.Option.{option_map}
use Rattle.std.proofs.lemmas.Grind.{common_steps}
use Rattle.std.proofs.lemmas.Option.{gets}
use Rattle.bounded.specs.Items.{items}
use Rattle.tokens.specs.Names.{name_bytes}
use Rattle.vocabulary.specs.declared.symbol.Symbol.{Symbol}
use Rattle.vocabulary.specs.Models.{vocabulary_of}
use Rattle.vocabulary.proofs.Calls.{few_symbols}
use Rattle.vocabulary.proofs.Lookups.{symbol_named, variable_named}
use Rattle.vocabulary.proofs.Consistency.{name_exactly}
use Rattle.vocabulary.proofs.vocabulary.Vocabulary.name_of.Goals as goal

pub returns-in-Symbol : goal.returns-in-Symbol
returns-in-Symbol c =
    let s = c.args.self.now in
    let few = few_symbols s in
    let got : option_map name_bytes c.map.result ≡ option_map (λ (x : Symbol). name_bytes x.name) (slice_get (items s.symbols) c.in-Symbol.symbol) = grind (arith, common_steps, gets) in
    let v = got ∙ symbol_named (items s.symbols) (items s.variables) c.args.code _ (search rules) in
    record { value = v; means = name_exactly (vocabulary_of s) (omega arith) c.args.code _ v }

pub returns-in-Variable : goal.returns-in-Variable
returns-in-Variable c =
    let s = c.args.self.now in
    let few = few_symbols s in
    let got : c.copied.result ≡ slice_get (items s.variables) c.in-Variable.variable = grind (arith, common_steps, gets) in
    let v = ap (option_map name_bytes) got ∙ variable_named (items s.symbols) (items s.variables) c.args.code _ (search rules) in
    record { value = v; means = name_exactly (vocabulary_of s) (omega arith) c.args.code _ v }
