use Rattle.mono_dynamic.proofs.Lightest.{ways_stay}
use Rattle.mono_dynamic.proofs.laws.ways_stay_where_edges_go.Goals as goal

pub returns : goal.returns
returns c = ways_stay
