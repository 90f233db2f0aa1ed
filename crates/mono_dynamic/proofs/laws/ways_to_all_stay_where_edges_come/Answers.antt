use Rattle.mono_dynamic.proofs.Lightest.{whole_ways_stay}
use Rattle.mono_dynamic.proofs.laws.ways_to_all_stay_where_edges_come.Goals as goal

pub returns : goal.returns
returns c = whole_ways_stay
