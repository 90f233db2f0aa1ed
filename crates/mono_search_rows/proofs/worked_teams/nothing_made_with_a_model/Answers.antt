use Rattle.std.proofs.Common.{◌≡◌, [], ◌∷◌}
use Rattle.mono_search.specs.Worked.{learned_clause}
use Rattle.mono_search_rows.proofs.worked_teams.nothing_made_with_a_model.Goals as goal

pub returns : goal.returns
returns c = λ h. let e : learned_clause ∷ [] ≡ [] = h.1 in cc
