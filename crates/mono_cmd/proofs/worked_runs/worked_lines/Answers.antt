use Rattle.std.proofs.Common.{◌≡◌, length, ap, arith}
use Rattle.mono_cmd.proofs.worked_runs.worked_lines.Goals as goal

pub returns-clause-room : goal.returns-clause-room
returns-clause-room c = λ same. let longer : 2 ≡ 3 = ap length same in absurd (omega (arith, longer))
