-- A name by its bytes.
use Rattle.std.specs.Prelude.{ℕ, cond, List, Some, None, Option}
use Rattle.bounded.specs.Items.{items}
use Rattle.tokens.specs.declared.name.Name.{Name}
use Rattle.tokens.specs.Bytes.{is_name}

abbrev pub name_bytes : Name → List ℕ
name_bytes n = items n.bytes

abbrev pub name_reply : List ℕ → Option (List ℕ)
name_reply bs = cond (is_name bs) (Some bs) None
