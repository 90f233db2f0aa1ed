use Rattle.std.proofs.Common.{◌≡◌, ◌∙◌, ◌∷◌, [], true, false, refl, ap, sym}
use Rattle.mono_search.specs.State.{StateView}
use Rattle.mono_search_rows.proofs.worked_searches.signs_turned_at_restarts.Goals as goal

pub returns-clause-at_restarts_alone : goal.returns-clause-at_restarts_alone
returns-clause-at_restarts_alone c = λ v w old new h.
    let turned : w.order.phases ≡ h.signs = ap (λ (s : StateView). s.order.phases) h.turned in
    let e : false ∷ [] ≡ true ∷ [] = sym new ∙ (turned ∙ (h.as_before refl ∙ old)) in
    cc

pub returns-clause-same_trail : goal.returns-clause-same_trail
returns-clause-same_trail c = λ v w h. ap (λ (s : StateView). s.trail) h.turned

pub returns-clause-same_steps : goal.returns-clause-same_steps
returns-clause-same_steps c = λ v w h. ap (λ (s : StateView). s.steps) h.turned
