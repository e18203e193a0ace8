use Rattle.std.proofs.Common.{Some, rules}
use Rattle.bounded.specs.Items.{items}
use Rattle.tokens.specs.Names.{name_bytes}
use Rattle.vocabulary.specs.Models.{vocabulary_of}
use Rattle.vocabulary.proofs.Lookups.{codes_variable, codes_symbol}
use Rattle.vocabulary.proofs.Consistency.{code_exactly}
use Rattle.vocabulary.proofs.vocabulary.Vocabulary.code_of.Goals as goal

pub returns-in-Some : goal.returns-in-Some
returns-in-Some c =
    let s = c.args.self.now in
    let n = name_bytes c.args.name.now in
    let v = codes_variable (items s.symbols) (items s.variables) n c.in-Some.variable (search rules) in
    record { value = v; means = code_exactly (vocabulary_of s) s.consistent n _ v }

pub returns-in_err-symbol : goal.returns-in_err-symbol
returns-in_err-symbol c =
    let s = c.args.self.now in
    let n = name_bytes c.args.name.now in
    let v = codes_symbol (items s.symbols) (items s.variables) n (search rules) c.from_residual.result (search rules) in
    record { value = v; means = code_exactly (vocabulary_of s) s.consistent n _ v }

pub returns : goal.returns
returns c =
    let s = c.args.self.now in
    let n = name_bytes c.args.name.now in
    let v = codes_symbol (items s.symbols) (items s.variables) n (search rules) (Some c.in_ok-symbol.symbol) (search rules) in
    record { value = v; means = code_exactly (vocabulary_of s) s.consistent n _ v }
