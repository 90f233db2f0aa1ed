use Rattle.std.proofs.Common.{arith}
use Rattle.mono_trail.proofs.Keeps.{late_within, settles, kept_settle}
use Rattle.mono_trail.proofs.trail.Trail.settle.Goals as goal

pub index-requires-2 : goal.index-requires-2
index-requires-2 c =
    let high = rw (← c.self.view_is) at c.requires.in_range.1 in
    let late = rw (← c.self.view_is) at c.requires.late in
    omega (arith, late_within c.args.var c.index.result.now c.self.invariant.0 high late c.index.ensures)

pub index_mut-requires : goal.index_mut-requires
index_mut-requires c =
    let high = rw (← c.self.view_is) at c.requires.in_range.1 in
    let late = rw (← c.self.view_is) at c.requires.late in
    omega (arith, late_within c.args.var c.index.result.now c.self.invariant.0 high late c.index.ensures)

pub invariant_of-self : goal.invariant_of-self
invariant_of-self c =
    let high = rw (← c.self.view_is) at c.requires.in_range.1 in
    let late = rw (← c.self.view_is) at c.requires.late in
    let same = settles c.args.var c.index.result.now c.args.number c.index-2.result.now c.self.invariant.0 high late c.index.ensures c.index-2.ensures in
    (rw same (kept_settle c.args.var c.args.number c.self.invariant.0 late), c.self.invariant.1)

pub returns : goal.returns
returns c =
    let high = rw (← c.self.view_is) at c.requires.in_range.1 in
    let late = rw (← c.self.view_is) at c.requires.late in
    rw (← c.self.view_is) (settles c.args.var c.index.result.now c.args.number c.index-2.result.now c.self.invariant.0 high late c.index.ensures c.index-2.ensures)
