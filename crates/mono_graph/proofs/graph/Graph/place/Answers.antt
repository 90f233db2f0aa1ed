use Rattle.std.proofs.Common.{rules, sym, Ok, Err}
use Rattle.std.proofs.lemmas.List.Sorted.{answers_always}
use Rattle.mono_graph.proofs.EdgeNumbers.{place_of-number, searched}
use Rattle.mono_graph.proofs.graph.Graph.place.Goals as goal

pub returns-in-Some-clause-place : goal.returns-in-Some-clause-place
returns-in-Some-clause-place c =
    rw (← c.self.view_is, ← c.deref.ensures.value) (sym (place_of-number (record { nodes = c.self.inside.nodes; edges = c.deref.result.now }) c.args.number c.in-Some.place
    (rw c.deref.ensures.value c.self.invariant.graph.rising) c.in-Some.ensures.known c.in-Some.ensures.number))

pub returns-in-Ok-clause-place : goal.returns-in-Ok-clause-place
returns-in-Ok-clause-place c =
    let by_number = c.in-Ok.ensures.position (λ e. e.number) (answers_always _ _ _ (λ f a r g called. search rules)) in
    rw (← c.self.view_is, ← c.deref-2.ensures.value) (sym (searched (record { nodes = c.self.inside.nodes; edges = c.deref-2.result.now })
    (rw c.deref-2.ensures.value c.self.invariant.graph.rising) c.args.number (Ok c.in-Ok.place) c.in-Ok.ensures.bound by_number))

pub returns-in-Err-clause-place : goal.returns-in-Err-clause-place
returns-in-Err-clause-place c =
    let by_number = c.in-Err.ensures.position (λ e. e.number) (answers_always _ _ _ (λ f a r g called. search rules)) in
    rw (← c.self.view_is, ← c.deref-2.ensures.value) (sym (searched (record { nodes = c.self.inside.nodes; edges = c.deref-2.result.now })
    (rw c.deref-2.ensures.value c.self.invariant.graph.rising) c.args.number (Err c.in-Err.field-0) c.in-Err.ensures.bound by_number))
