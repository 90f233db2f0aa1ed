use Rattle.std.proofs.Common.{◌≡◌, ◌∙◌, ◌<◌, ℕ, ap, length, subst, sym}
use Rattle.std.proofs.lemmas.List.{length-map}
use Rattle.mono_theory.specs.Owners.{fact_of, facts_of}
use Rattle.mono_search.proofs.ConcernTables.{listed_below}
use Rattle.mono_search.proofs.theories.Theories.prefers.Goals as goal

pub any_prefers-requires : goal.any_prefers-requires
any_prefers-requires g c =
    let t = g.T.Theory in
    let items = c.self.inside.theories.items in
    let is = rw (← c.self.view_is) at c.requires in
    listed_below c.self.inside.problem.now.vars (facts_of t.graph t.atoms t.seen items) c.self.inside.concerned c.args.var (length c.as_slice.result.now) c.list.result.now c.self.invariant.concerned is.0 is.1 (length-map items (fact_of t.graph t.atoms t.seen) ∙ ap length (sym c.as_slice.ensures.value)) c.list.ensures

pub returns : goal.returns
returns g c = λ yes.
    let t = g.T.Theory in
    let items = c.self.inside.theories.items in
    let as_many : length (facts_of t.graph t.atoms t.seen items) ≡ length c.as_slice.result.now = length-map items (fact_of t.graph t.atoms t.seen) ∙ ap length (sym c.as_slice.ensures.value) in
    rw (← c.self.view_is) (subst (λ (n : ℕ). 0 < n) (sym as_many) (c.any_prefers.ensures yes))
