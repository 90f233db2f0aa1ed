use Rattle.std.proofs.Common.{◌≡◌, drop, map}
use Rattle.mono_theory.specs.Owners.{facts_of}
use Rattle.mono_theory.specs.Theories.{Facts, seeing}
use Rattle.mono_search.specs.TheoryLists.{handed_on, MaySee, OthersAreQuiet}
use Rattle.mono_search.specs.Updates.{update_all, CanUpdate}
use Rattle.mono_search.proofs.handing.hand_to.Given as goal

abbrev pub invariant-loop-place : goal.invariant-loop-place
invariant-loop-place g l =
    let t = g.T.Theory in
    record {
      others : OthersAreQuiet (facts_of t.graph t.atoms t.seen l.theories.items) l.worklist.listed;
      can : CanUpdate (MaySee l.lit) (λ (f : Facts). seeing f l.lit) (drop l.place-index l.places) (facts_of t.graph t.atoms t.seen l.theories.items);
      left : update_all (λ (f : Facts). seeing f l.lit) (drop l.place-index l.places) (facts_of t.graph t.atoms t.seen l.theories.items) ≡ map (handed_on l.lit) (facts_of t.graph t.atoms t.seen l.fn.theories.items);
    }
