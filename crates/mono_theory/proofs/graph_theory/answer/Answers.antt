use Rattle.std.proofs.Common.{rules}
use Rattle.mono_theory.proofs.graph_theory.answer.Goals as goal

pub explain-requires-clause-its : goal.explain-requires-clause-its
explain-requires-clause-its g c = search rules
