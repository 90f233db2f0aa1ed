use Rattle.std.proofs.Common.{◌≡◌, ◌<◌, ◌∙◌, ◌==◌, ℕ, Bool, true, false, length, sym, subst, ap, arith, pos, nat_abs}
use Rattle.std.specs.Prelude.{int_lt}
use Rattle.std.proofs.Math.Bool.{beq}
use Rattle.mono_graph.specs.Digraph.{edge_at, present}
use Rattle.mono_graph.specs.declared.part.Part.{Part}
use Rattle.mono_problem.specs.Instance.{graph_at}
use Rattle.mono_problem.specs.Uses.{has_edge_use}
use Rattle.mono_steps.proofs.Switched.{switched_more, switched_same}
use Rattle.mono_steps.proofs.switching.switch_edges.Goals as goal
use Rattle.mono_steps.proofs.switching.switch_edges.Goals.{then-is_positive-sign, else-is_positive-sign}

pub switch_uses-requires : goal.switch_uses-requires
switch_uses-requires c = record { known = λ k h. omega (arith, c.uses.ensures.places c.args.graph k c.requires.graph h, c.loop-lit.invariant.part) }

pub loop-lit-preserved : goal.loop-lit-preserved
loop-lit-preserved c =
    let g = graph_at c.args.problem.now c.args.graph in
    let lits = c.args.lits.now in
    let i = c.loop-lit.lit-index in
    let l = c.lit-item.result in
    let some : 0 < nat_abs l = omega (arith, c.var-var.ensures.low, c.var-var.ensures.value) in
    elim c.if-is_positive-sign.branch [
      | then-is_positive-sign w ↦
          let here : beq (int_lt (pos 0) l) c.args.sign ≡ true = subst (λ (b : Bool). beq b c.args.sign ≡ true) c.is_positive.ensures w.if-is_positive-sign.true in
          record {
            part = ap (λ (p : Part). length p) w.part-is ∙ w.switch_uses.ensures.size ∙ c.loop-lit.invariant.part;
            places = λ k low. ap (λ (p : Part). present p k) w.part-is ∙ switched_more lits i l c.args.sign c.args.on (present c.args.part.now k) (present c.loop-lit.part k) (present w.switch_uses.new.part k) (edge_at g k).var (has_edge_use c.args.graph k w.uses.result.now)
                c.loop-lit-test.true (sym c.lit-item.is) some here (w.uses.ensures.edges c.args.graph k c.requires.graph low ∙ ap (λ (v : ℕ). (edge_at g k).var == v) c.var-var.ensures.value) (c.loop-lit.invariant.places k low) (w.switch_uses.ensures.places k);
          }
      | else-is_positive-sign w ↦
          let apart : beq (int_lt (pos 0) l) c.args.sign ≡ false = subst (λ (b : Bool). beq b c.args.sign ≡ false) c.is_positive.ensures w.if-is_positive-sign.false in
          record {
            part = ap (λ (p : Part). length p) w.part-is ∙ c.loop-lit.invariant.part;
            places = λ k low. ap (λ (p : Part). present p k) w.part-is ∙ switched_same lits i l c.args.sign c.args.on (present c.args.part.now k) (present c.loop-lit.part k) (edge_at g k).var c.loop-lit-test.true (sym c.lit-item.is) some apart (c.loop-lit.invariant.places k low);
          }
    ]
