use Rattle.mono_bounds.proofs.IndexMade.{index_from}
use Rattle.mono_bounds.proofs.index.sorted_entries.Goals as goal

pub returns : goal.returns
returns c = index_from c.args.keys.now c.in_ok-list.list.items _ c.in_ok-list.ensures.len c.requires c.in_ok-list.ensures.each c.in_ok-entries.ensures.permutation c.in_ok-entries.ensures.sorted
