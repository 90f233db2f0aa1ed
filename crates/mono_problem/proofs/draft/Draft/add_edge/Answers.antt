use Rattle.std.proofs.Common.{◌≡◌, ℕ, ◌+◌, ◌<◌, ◌++◌, ◌∷◌, [], List, length, sym, ap, ◌∙◌, subst, refl, arith, IsOk, vec_len, vec_capacity}
use Rattle.mono_base.specs.declared.limits.TheConstants.{MAX_EDGES}
use Rattle.mono_graph.specs.declared.edge.Edge.{Edge}
use Rattle.mono_problem.specs.Instance.{Instance, graph_at, nodes_total, edges_total}
use Rattle.mono_problem.specs.WellFormed.{IsInstance}
use Rattle.mono_problem.specs.Growth.{with_edge}
use Rattle.mono_problem.specs.Kept.{AreHomes}
use Rattle.mono_problem.proofs.Entries.{nodes-grown}
use Rattle.mono_problem.proofs.Added.{IsNext, IsInstance-edge, AreHomes-edge}
use Rattle.mono_problem.proofs.draft.Draft.add_edge.Goals as goal

-- what the fields say
abbrev said : goal.After-self-1 → Instance
said c = record { vars = c.self.inside.var_count; graphs = c.self.inside.graphs.entries; atoms = c.self.inside.atoms.items; clauses = c.self.inside.clauses }

-- there was room for the place of the graph
pushed : (c : goal.After-self-1) → c.push.new.self.items ≡ c.self.inside.homes.items ++ c.args.graph ∷ []
pushed c =
    let room : vec_len c.reserve.new.self < vec_capacity c.reserve.new.self = omega (arith, c.in_ok-reserve.ensures.ok) in
    let ok : IsOk c.push.result = c.push.ensures.succeeds room in
    c.push.ensures.items ∙ rw ok (ap (λ (hs : List ℕ). hs ++ c.args.graph ∷ []) c.in_ok-reserve.ensures.items)

abbrev new_edge : goal.After-self-1 → Edge
new_edge c = record { number = length c.as_slice.result.now + 1; from = c.args.from; to = c.args.to; var = c.args.var; weight = c.args.weight }

counted : (c : goal.After-self-1) → length c.as_slice.result.now ≡ edges_total (said c)
counted c = ap (λ (hs : List ℕ). length hs) c.as_slice.ensures.value ∙ c.self.invariant.homes.len

-- the call's conditions, of the fields
within : (c : goal.After-self-1) → (P : Instance → Type 0) → P c.args.self.now → P (said c)
within c P h = subst P (sym c.self.view_is) h

next : (c : goal.After-self-1) → IsNext (said c) c.args.graph (new_edge c)
next c =
    let room : edges_total (said c) < MAX_EDGES = within c (λ p. edges_total p < MAX_EDGES) c.requires.room in
    record {
      graph = within c (λ p. c.args.graph < length p.graphs) c.requires.graph;
      from = within c (λ p. c.args.from < (graph_at p c.args.graph).nodes) c.requires.from;
      to = within c (λ p. c.args.to < (graph_at p c.args.graph).nodes) c.requires.to;
      low = c.requires.var_low;
      high = c.requires.var_high;
      weight = c.requires.weight;
      number = omega (arith, counted c);
      room = room;
    }

-- what the fields say afterwards
after : (c : goal.After-self-1) → with_edge (said c) c.args.graph (new_edge c) ≡ record { vars = c.max-self-inside.result; graphs = c.add_to.new.graphs.entries; atoms = c.self.inside.atoms.items; clauses = c.self.inside.clauses }
after c = rw (c.in_ok-add_to.ensures.ok, c.max-self-inside.ensures) refl

homes_after : (c : goal.After-self-1) → AreHomes (with_edge (said c) c.args.graph (new_edge c)) c.push.new.self.items
homes_after c =
    let P : List ℕ → Type 0 = AreHomes (with_edge (said c) c.args.graph (new_edge c)) in
    subst P (sym (pushed c)) (AreHomes-edge (said c) c.args.graph (new_edge c) c.self.invariant.problem (next c) c.self.inside.homes.items c.self.invariant.homes)

nodes_after : (c : goal.After-self-1) → c.self.inside.node_count ≡ nodes_total (with_edge (said c) c.args.graph (new_edge c))
nodes_after c = c.self.invariant.nodes ∙ sym (nodes-grown c.self.inside.graphs.entries c.args.graph (next c).graph (new_edge c))

pub invariant_of-self-2 : goal.invariant_of-self-2
invariant_of-self-2 c =
    let homes : Instance → Type 0 = λ p. AreHomes p c.push.new.self.items in
    let nodes : Instance → Type 0 = λ p. c.self.inside.node_count ≡ nodes_total p in
    record {
      problem = subst IsInstance (after c) (IsInstance-edge (said c) c.args.graph (new_edge c) c.self.invariant.problem (next c));
      nodes = subst nodes (after c) (nodes_after c);
      homes = subst homes (after c) (homes_after c);
    }
