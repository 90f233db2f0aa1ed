use Rattle.std.proofs.Common.{◌+◌, false, arith, refl, sym, ap, ◌∙◌, inl, inr, length, take}
use Rattle.std.proofs.lemmas.List.{length-map}
use Rattle.mono_dynamic.specs.declared.walk_target.WalkTarget.{WalkTarget}
use Rattle.mono_theory.proofs.FramesStay.{lit_by}
use Rattle.mono_theory.proofs.PartsFollow.{next_of}
use Rattle.mono_theory.proofs.PartsOfSides.{part_len}
use Rattle.mono_theory.proofs.PossibleParts.{places_known}
use Rattle.mono_theory.proofs.SureEdges.{sure_grown, sure_still}
use Rattle.mono_theory.proofs.sure_rows.SureRows.look_at.Goals as goal

pub grow-requires-clause-rows : goal.grow-requires-clause-rows
grow-requires-clause-rows g c = rw c.graph-graph.ensures.graph (rw (← c.self.view_is) at c.requires.rows)

pub grow-requires-clause-part : goal.grow-requires-clause-part
grow-requires-clause-part g c = rw c.graph-graph.ensures.graph (ap length c.requires.part ∙ part_len c.args.frame.now.graph (take (c.args.looked + 1) c.args.frame.now.seen) false)

pub grow-requires-clause-places : goal.grow-requires-clause-places
grow-requires-clause-places g c = rw c.graph-graph.ensures.graph (places_known c.args.frame.now.graph _ c.edges_at.result.now _ refl c.edges_at.ensures)

pub put_each_due-requires : goal.put_each_due-requires
put_each_due-requires g c = (let size = rw (← c.self.view_is) at c.requires.size in size) ∙ sym (ap length c.self.invariant ∙ length-map c.self.inside.targets.items (λ (t : WalkTarget). t.node))

pub returns-then-not-is_positive-clause-looked : goal.returns-then-not-is_positive-clause-looked
returns-then-not-is_positive-clause-looked g c =
    let lit = lit_by c.args.lit (omega (arith, c.var.ensures.low, c.var.ensures.value)) in
    inl (record { parts = sure_still c.args.frame.now c.args.looked c.args.lit c.requires.more c.requires.next lit (sym c.is_positive.ensures ∙ c.if-not-is_positive.true); rows = refl; due = refl })

pub returns-clause-looked : goal.returns-clause-looked
returns-clause-looked g c =
    let f = c.args.frame.now in
    let n = c.args.looked in
    let ks = c.edges_at.result.now in
    let its = next_of f n c.args.lit ks c.requires.more c.requires.next c.known.ensures.partial c.edges_at.ensures in
    rw (← c.self.view_is)
    (inr (record {
      part = c.args.part.now;
      places = ks;
      grows = sure_grown f n c.args.lit ks c.args.part.now its (sym c.is_positive.ensures ∙ c.if-not-is_positive.false) c.requires.part;
      grown = rw c.graph-graph.ensures.graph at c.in_ok-grow.ensures.grown;
      same = refl;
      due = rw c.self.invariant at c.put_each_due.ensures;
    }))
