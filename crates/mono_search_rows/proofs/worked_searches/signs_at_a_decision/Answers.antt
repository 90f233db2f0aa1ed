use Rattle.std.proofs.Common.{◌≡◌, ◌∙◌, ◌∷◌, [], true, false, sym}
use Rattle.mono_search_rows.proofs.worked_searches.signs_at_a_decision.Goals as goal

pub returns : goal.returns
returns c = λ v w old new h. let e : false ∷ true ∷ [] ≡ true ∷ true ∷ [] = sym new ∙ (h.phases ∙ old) in cc
