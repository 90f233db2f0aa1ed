use Rattle.std.proofs.Common.{◌≡◌, ◌∙◌, ◌||◌, Bool, List, ℕ, false, length, sym, ap, subst}
use Rattle.std.specs.Prelude.{◌==◌, IsTrue}
use Rattle.mono_graph.specs.Digraph.{present}
use Rattle.mono_graph.specs.Cycles.{is_order}
use Rattle.mono_acyclic.proofs.Together.{grown_taken, same_order}
use Rattle.mono_acyclic.proofs.threatening.closes.Goals as goal

pub returns-then-not-insert-clause-same : goal.returns-then-not-insert-clause-same
returns-then-not-insert-clause-same c =
    let g = c.args.graph.now in
    let o = c.args.ordered.now in
    let r = c.insert.new.self in
    let its = c.insert.ensures in
    let kept = its.stays c.if-not-insert.true in
    let same = its.part_stays c.if-not-insert.true in
    record {
      size = its.size;
      part_size = its.part_size;
      part = same;
      order = λ h. same_order g o.part r.part r.order same (subst (λ (ns : List ℕ). IsTrue (is_order g o.part ns)) (sym kept) h);
    }

pub returns-then-not-insert-clause-closing : goal.returns-then-not-insert-clause-closing
returns-then-not-insert-clause-closing c = λ _.
    let its = c.insert.ensures in
    let stays = its.part_stays c.if-not-insert.true in
    record {
      known = c.requires.place;
      absent = stays c.args.place ∙ (ap (λ (P : List Bool). present P c.args.place) (sym c.part.ensures) ∙ (sym c.has.ensures ∙ c.if-has.false));
      may_come = sym c.has-2.ensures ∙ c.if-not-has.false;
      closes = λ R grown. its.cycle c.if-not-insert.true R (record { each = λ k. grown.each k ∙ ap (λ (b : Bool). b || k == c.args.place) (stays k) });
    }

pub returns-clause-same : goal.returns-clause-same
returns-clause-same c =
    let o = c.args.ordered.now in
    let put = c.insert.ensures in
    let out = c.remove.ensures in
    let absent : present o.part c.args.place ≡ false = ap (λ (P : List Bool). present P c.args.place) (sym c.part.ensures) ∙ (sym c.has.ensures ∙ c.if-has.false) in
    record {
      size = ap (λ (ns : List ℕ). length ns) out.stays ∙ put.size;
      part_size = out.part_size ∙ put.part_size;
      part = grown_taken o.part c.insert.new.self.part c.remove.new.self.part c.args.place (put.part c.if-not-insert.false) out.part absent;
      order = λ h. out.order c.args.graph.now (put.order c.if-not-insert.false h);
    }
