use Rattle.std.proofs.Common.{◌≡◌, ◌<◌, true, take}
use Rattle.std.specs.Char.{is_ascii_digit}
use Rattle.std.specs.List.{list_all}
use Rattle.mono_text.specs.Numbers.{digits_value}
use Rattle.mono_text.proofs.front.digits_front.Given as goal

abbrev pub invariant-loop-count : goal.invariant-loop-count
invariant-loop-count l = record {
  digits : list_all is_ascii_digit (take l.count l.text) ≡ true;
  value : l.value ≡ digits_value (take l.count l.text);
  small : l.value < 1000000000000000000;
}
