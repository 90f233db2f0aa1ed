use Rattle.std.proofs.Common.{◌≡◌, ◌^◌, true, min, take}
use Rattle.std.specs.Char.{is_ascii_digit}
use Rattle.std.specs.List.{list_all}
use Rattle.mono_text.specs.Numbers.{digits_value}
use Rattle.mono_text.proofs.number.value_of.Given as goal

abbrev pub invariant-loop-byte : goal.invariant-loop-byte
invariant-loop-byte l = (list_all is_ascii_digit (take l.byte-index l.token) ≡ true) × (l.value ≡ min (digits_value (take l.byte-index l.token)) (2 ^ 64))
