use Rattle.std.proofs.Common.{◌≡◌}
use Rattle.mono_gnf.specs.Reading.{read_lines, reading}
use Rattle.mono_gnf.proofs.read.read_gnf.Given as goal

abbrev pub invariant-loop-line : goal.invariant-loop-line
invariant-loop-line l = read_lines l.reader l.lines ≡ reading l.text
