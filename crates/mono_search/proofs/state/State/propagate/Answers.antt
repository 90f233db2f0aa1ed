use Rattle.std.proofs.Common.{rules}
use Rattle.mono_search.proofs.state.State.propagate.Goals as goal

pub force-requires-clause-handed : goal.force-requires-clause-handed
force-requires-clause-handed g c = search rules
