use Rattle.std.proofs.Common.{◌≡◌, ◌∷◌, [], true, false}
use Rattle.mono_search_rows.proofs.worked_searches.signs_saved_where_it_goes_back.Goals as goal

pub returns-clause-dropped : goal.returns-clause-dropped
returns-clause-dropped c = λ v w h lits marks back old new. let e : true ∷ [] ≡ false ∷ [] = rw (lits, marks, back, old, new) at h.order.phases in cc

pub returns-clause-stays : goal.returns-clause-stays
returns-clause-stays c = λ v w h lits marks back old new. let e : false ∷ [] ≡ true ∷ [] = rw (lits, marks, back, old, new) at h.order.phases in cc

pub returns-clause-restart : goal.returns-clause-restart
returns-clause-restart c = λ v w h lits marks back old new. let e : true ∷ [] ≡ false ∷ [] = rw (lits, marks, old, new) at h.order.phases in cc
