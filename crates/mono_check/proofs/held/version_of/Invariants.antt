use Rattle.std.proofs.Common.{◌≡◌}
use Rattle.mono_answer.specs.Items.{spoken, spoken_of}
use Rattle.mono_check.specs.Migrations.{version_in}
use Rattle.mono_check.proofs.held.version_of.Given as goal

abbrev pub invariant-lines : goal.invariant-lines
invariant-lines l = version_in (spoken l.lines) ≡ version_in (spoken_of l.text)
