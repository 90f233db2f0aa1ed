use Rattle.std.proofs.Common.{◌≡◌, ◌∙◌, ℕ, ◌<◌, ◌+◌, List, false, length, get_or, sym, subst, zero-add, arith}
use Rattle.std.specs.Prelude.{IsTrue}
use Rattle.std.specs.List.{list_all, range_with_len}
use Rattle.std.proofs.lemmas.Bool.{eq-eqb, ne_eqb}
use Rattle.mono_graph.proofs.Places.{range_more, range_fails}
use Rattle.mono_trees.specs.Tells.{same_label}
use Rattle.mono_trees.proofs.Relabelled.{get_default}
use Rattle.mono_trees.proofs.components.Components.are_all_joined.Goals as goal

one_more : (labels : List ℕ) (n a b : ℕ) → n < length labels → IsTrue (list_all (same_label labels 0) (range_with_len 0 n))
    → a ≡ get_or labels n a → b ≡ get_or labels 0 b → a ≡ b → IsTrue (list_all (same_label labels 0) (range_with_len 0 (n + 1)))
one_more labels n a b lt h at-a at-b e = range_more (same_label labels 0) 0 n h (subst (λ (k : ℕ). IsTrue (same_label labels 0 k)) (sym (zero-add n))
    (eq-eqb (get_or labels 0 0) (get_or labels n 0) (get_default labels 0 0 b (omega arith) ∙ (sym at-b ∙ (sym e ∙ (at-a ∙ get_default labels n a 0 lt))))))

pub loop-node-preserved : goal.loop-node-preserved
loop-node-preserved c = one_more c.self.inside.labels.items c.loop-node.node c.index.result.now c.index-in-loop-node.result.now (omega arith) c.loop-node.invariant c.index.ensures c.index-in-loop-node.ensures c.if-index.false

fails_at : (labels old : List ℕ) (n a b : ℕ) → labels ≡ old → n < length labels → a ≡ get_or labels n a → b ≡ get_or labels 0 b → (a ≡ b → ⊥) → false ≡ list_all (same_label old 0) (range_with_len 0 (length old))
fails_at labels old n a b same lt at-a at-b ne = subst (λ (ls : List ℕ). false ≡ list_all (same_label ls 0) (range_with_len 0 (length ls))) same
    (sym (range_fails (same_label labels 0) 0 (length labels) n (omega arith) (omega arith)
    (ne_eqb (get_or labels 0 0) (get_or labels n 0) (λ e. ne (at-a ∙ (get_default labels n a 0 lt ∙ (sym e ∙ (get_default labels 0 0 b (omega arith) ∙ sym at-b))))))))

pub returns-then-index : goal.returns-then-index
returns-then-index c = fails_at c.self.inside.labels.items c.args.self.now c.loop-node.node c.index.result.now c.index-in-loop-node.result.now c.self.view_is (omega arith) c.index.ensures c.index-in-loop-node.ensures c.if-index.true
