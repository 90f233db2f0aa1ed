use Rattle.std.proofs.Common.{◌≡◌, ◌∷◌, [], ◌∙◌, sym, ap, drop, ℕ, List}
use Rattle.mono_gnf.proofs.EdgeForms.{edge_weighted}
use Rattle.mono_gnf.proofs.statement.edge.Goals as goal

pub returns-in-None-next-clause-value : goal.returns-in-None-next-clause-value
returns-in-None-next-clause-value c =
    let (t, e, r) = c.in-Some.ensures.first in
    let last : drop 4 c.args.tokens ≡ t ∷ [] = sym c.first_fields-ends.ensures.rest ∙ (e ∙ ap (λ (ts : List (List ℕ)). t ∷ ts) c.in-None-next.ensures.steps.0) in
    c.edge_from-in-None-next.ensures.value ∙ edge_weighted c.args.tokens t c.first_fields-ends.result c.in-Some.weight last c.first_fields-ends.ensures.value r
