use Rattle.std.proofs.Common.{◌≡◌, ◌*◌, ◌++◌, ◌∷◌, [], ◌∙◌, ℕ, codes, subst}
use Rattle.std.specs.Prelude.{OnOk}
use Rattle.mono_gen.specs.Lines.{line}
use Rattle.mono_gen.proofs.input.push_board.Goals as goal

pub returns : goal.returns
returns c =
    subst (λ (e : ℕ). OnOk c.push_line.result (c.push_line.new.out.items ≡ c.args.out.now.items ++ line (codes "digraph int") ((c.args.board.now * c.args.board.now) ∷ e ∷ 0 ∷ [])))
    (c.from-edges.ensures ∙ c.edge_count.ensures.value)
    (subst (λ (m : ℕ). OnOk c.push_line.result (c.push_line.new.out.items ≡ c.args.out.now.items ++ line (codes "digraph int") (m ∷ c.from-edges.result ∷ 0 ∷ [])))
    (c.from-nodes.ensures ∙ c.node_count.ensures.value) c.push_line.ensures.ok)
