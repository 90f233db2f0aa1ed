use Rattle.std.proofs.Common.{◌≡◌, ◌<◌, ◌∙◌, ◌++◌, ◌∷◌, [], ℕ, List, Some, length, get_or, sym, ap, subst}
use Rattle.std.proofs.lemmas.List.Elements.{All-push}
use Rattle.std.specs.Prelude.{is_some, Option, All}
use Rattle.mono_graph.specs.Digraph.{place_of}
use Rattle.mono_steps.proofs.Placed.{not_all, number_more, edge_more}
use Rattle.mono_steps.proofs.placing.place_edges.Goals as goal

pub returns-in_default-clause-known : goal.returns-in_default-clause-known
returns-in_default-clause-known c =
    let g = c.args.graph.now in
    sym (not_all (λ n. is_some (place_of g n)) c.args.numbers.now c.loop-number.number-index 0 c.loop-number-test.true (ap (λ (o : Option ℕ). is_some o) (sym c.place.ensures.place ∙ c.in_default.is)))

pub loop-number-preserved : goal.loop-number-preserved
loop-number-preserved c =
    let g = c.args.graph.now in
    let ns = c.args.numbers.now in
    let i = c.loop-number.number-index in
    let found : Some c.in-Some.place ≡ place_of g (get_or ns i 0) = sym c.in-Some.is ∙ c.place.ensures.place in
    let pushed : c.push.new.self.items ≡ c.loop-number.places.items ++ c.in-Some.place ∷ [] = c.in_ok-push.ensures.items in
    record {
      known = number_more g ns i c.in-Some.place c.loop-number-test.true found c.loop-number.invariant.known;
      places = edge_more g ns c.loop-number.places.items c.push.new.self.items i c.in-Some.place c.loop-number-test.true found c.loop-number.invariant.places pushed;
      held = subst (λ (ks : List ℕ). All (λ k. k < length g.edges) ks) (sym pushed) (All-push (λ k. k < length g.edges) c.loop-number.places.items c.in-Some.place c.loop-number.invariant.held (c.in-Some.ensures.known));
    }
