use Rattle.std.proofs.Common.{sym, ◌∙◌}
use Rattle.mono_gnf.proofs.laws.one_problem.Goals as goal

pub returns : goal.returns
returns c = λ text p q h k. h.1 ∙ sym k.1
