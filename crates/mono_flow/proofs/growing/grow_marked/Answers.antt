use Rattle.std.proofs.Common.{◌≡◌, Bool, List, length, drop, subst, arith}
use Rattle.std.specs.Prelude.{slice_range}
use Rattle.std.proofs.lemmas.List.{take_rest}
use Rattle.mono_flow.specs.Growing.{AreRests}
use Rattle.mono_flow.proofs.GrownSets.{grown_set}
use Rattle.mono_flow.proofs.growing.grow_marked.Goals as goal

pub returns-clause-grown : goal.returns-clause-grown
returns-clause-grown c =
    let us = c.args.set.now.items in
    let ws = c.spread.new.set.items in
    let before : c.len-before.result ≡ length us = omega (arith, c.len-before.ensures) in
    let after : c.len.result ≡ length ws = omega (arith, c.len.ensures) in
    let those : slice_range c.deref.result.now c.len-before.result c.len.result ≡ drop (length us) ws = rw (c.deref.ensures.value, before, after) (take_rest ws (length us)) in
    let rests : AreRests c.args.graph.now c.args.part.now c.spread.new.marks.items c.args.edges.now (slice_range c.deref.result.now c.len-before.result c.len.result) c.in_ok-rest.rest.items =
    subst (λ (o : List Bool). AreRests c.args.graph.now c.args.part.now o c.args.edges.now (slice_range c.deref.result.now c.len-before.result c.len.result) c.in_ok-rest.rest.items) c.as_slice.ensures.value c.in_ok-rest.ensures in
    grown_set c.spread.ensures.joined (c.in_ok-spread.ensures.spread c.if-not-branch.false) those rests
