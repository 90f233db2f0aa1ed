use Rattle.std.proofs.Common.{[], ◌∷◌, refl}
use Rattle.mono_search.specs.Worked.{learned_clause}
use Rattle.mono_search.proofs.worked.steps_that_stay.Goals as goal

pub returns-clause-more : goal.returns-clause-more
returns-clause-more c = record { more = learned_clause ∷ []; joined = refl }

pub returns-clause-none_more : goal.returns-clause-none_more
returns-clause-none_more c = record { more = []; joined = refl }

pub returns-clause-fewer : goal.returns-clause-fewer
returns-clause-fewer c = λ h. let e = h.joined in cc

pub returns-clause-in_front : goal.returns-clause-in_front
returns-clause-in_front c = λ h. let e = h.joined in cc

pub returns-clause-left_out : goal.returns-clause-left_out
returns-clause-left_out c = λ h. let e = h.joined in cc
