use Rattle.std.proofs.Common.{◌≡◌, ◌<◌, ◌^◌, drop}
use Rattle.std.specs.Char.{is_ascii_digit}
use Rattle.std.specs.List.{list_all}
use Rattle.commands.specs.Numerals.{value, value_behind}
use Rattle.commands.proofs.numeral.read_number.Given as goal

-- what is still to be read decides
abbrev pub invariant-loop-byte : goal.invariant-loop-byte
invariant-loop-byte l =
    (value l.word ≡ value_behind l.number (drop l.byte-index l.word)) × (list_all is_ascii_digit l.word ≡ list_all is_ascii_digit (drop l.byte-index l.word)) × (l.number < 2 ^ 64)
