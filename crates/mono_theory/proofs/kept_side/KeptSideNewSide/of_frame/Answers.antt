use Rattle.std.proofs.Common.{◌≡◌, length, sym, ap, ◌∙◌}
use Rattle.mono_graph.specs.Digraph.{Digraph}
use Rattle.mono_theory.proofs.BothSidesStay.{new_side, new_sign}
use Rattle.mono_theory.proofs.kept_side.KeptSideNewSide.of_frame.Goals as goal

pub returns-clause-right : goal.returns-clause-right
returns-clause-right g c =
    let f = c.args.frame.now in
    let edges : length f.graph.edges ≡ c.edge_count-edges.result = sym (c.edge_count-edges.ensures ∙ ap (λ (h : Digraph). length h.edges) c.graph.ensures.graph) in
    new_side f c.args.possible g.K.Kind.IS_THOROUGH c.IS_THOROUGH.result _ _ c.new.result (sym c.atom_count-atoms.ensures.count) edges c.IS_THOROUGH.ensures c.new.ensures.side c.new.ensures.thorough

pub returns-clause-sign : goal.returns-clause-sign
returns-clause-sign g c =
    let f = c.args.frame.now in
    let edges : length f.graph.edges ≡ c.edge_count-edges.result = sym (c.edge_count-edges.ensures ∙ ap (λ (h : Digraph). length h.edges) c.graph.ensures.graph) in
    new_sign f c.args.possible _ _ c.new.result (sym c.atom_count-atoms.ensures.count) edges c.new.ensures.side
