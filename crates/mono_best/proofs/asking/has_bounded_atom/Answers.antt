use Rattle.std.proofs.Common.{rules}
use Rattle.mono_best.proofs.asking.has_bounded_atom.Goals as goal

pub returns : goal.returns
returns c = search rules
