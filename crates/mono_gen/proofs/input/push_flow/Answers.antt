use Rattle.std.proofs.Common.{◌≡◌, ◌+◌, ◌-◌, ◌*◌, ◌++◌, ◌∷◌, [], ◌∙◌, ℕ, codes, subst}
use Rattle.std.specs.Prelude.{OnOk}
use Rattle.mono_gen.specs.Lines.{line}
use Rattle.mono_gen.proofs.input.push_flow.Goals as goal

pub returns : goal.returns
returns c =
    subst (λ (e : ℕ). OnOk c.push_line.result (c.push_line.new.out.items ≡ c.args.out.now.items ++ line (codes "maximum_flow_geq") (0 ∷ 0 ∷ (c.args.board.now * c.args.board.now - 1) ∷ (e + 3) ∷ 2 ∷ [])))
    (c.from-edges.ensures ∙ c.edge_count.ensures.value)
    (subst (λ (m : ℕ). OnOk c.push_line.result (c.push_line.new.out.items ≡ c.args.out.now.items ++ line (codes "maximum_flow_geq") (0 ∷ 0 ∷ (m - 1) ∷ (c.from-edges.result + 3) ∷ 2 ∷ [])))
    (c.from-nodes.ensures ∙ c.node_count.ensures.value) c.push_line.ensures.ok)
