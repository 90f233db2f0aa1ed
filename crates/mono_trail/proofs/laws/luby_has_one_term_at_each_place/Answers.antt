use Rattle.mono_trail.proofs.Terms.{one_term}
use Rattle.mono_trail.proofs.laws.luby_has_one_term_at_each_place.Goals as goal

pub returns : goal.returns
returns c = one_term
