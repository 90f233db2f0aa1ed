use Rattle.mono_base.proofs.Worklists.{taken_last}
use Rattle.mono_base.proofs.worklist.Worklist.remove_last.Goals as goal

pub returns : goal.returns
returns c = taken_last _ _ c.take_next.result c.take_next.ensures c.requires
