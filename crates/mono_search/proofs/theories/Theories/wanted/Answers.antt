use Rattle.std.proofs.Common.{◌≡◌, ◌∙◌, ◌<◌, ℕ, ap, length, subst, sym}
use Rattle.std.specs.Prelude.{OnSome}
use Rattle.std.proofs.lemmas.List.{length-map}
use Rattle.mono_theory.specs.Owners.{fact_of, facts_of}
use Rattle.mono_search.proofs.theories.Theories.wanted.Goals as goal

pub returns : goal.returns
returns g c =
    let t = g.T.Theory in
    let items = c.self.inside.theories.items in
    let as_many : length (facts_of t.graph t.atoms t.seen items) ≡ length c.as_slice.result.now = length-map items (fact_of t.graph t.atoms t.seen) ∙ ap length (sym c.as_slice.ensures.value) in
    rw (← c.self.view_is) (subst (λ (n : ℕ). OnSome c.any_wanted.result (0 < n)) (sym as_many) c.any_wanted.ensures)
