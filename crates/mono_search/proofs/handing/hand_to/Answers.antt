use Rattle.std.proofs.Common.{◌≡◌, ◌∙◌, ◌+◌, ◌<◌, true, ℕ, List, drop, get_or, set, length, sym, ap, subst, arith, refl}
use Rattle.std.proofs.lemmas.List.{length-map}
use Rattle.mono_theory.specs.Owners.{fact_of, facts_of}
use Rattle.mono_theory.specs.Theories.{Facts, seeing}
use Rattle.mono_search.specs.TheoryLists.{MaySee, OthersAreQuiet}
use Rattle.mono_search.specs.Updates.{update_at, update_all, CanUpdate}
use Rattle.mono_search.proofs.ConcernTables.{may_hand, handed_by_table}
use Rattle.mono_search.proofs.QuietOthers.{changed}
use Rattle.mono_search.proofs.Sweeps.{map_at, map_set}
use Rattle.mono_search.proofs.Updates.{can_step, left_step, write_at}
use Rattle.mono_search.proofs.handing.hand_to.Goals as goal

pub loop-place-init : goal.loop-place-init
loop-place-init g c =
    let facts = facts_of g.T.Theory.graph g.T.Theory.atoms g.T.Theory.seen c.args.theories.now.items in
    record {
      others = c.requires.others;
      can = subst (λ (ps : List ℕ). CanUpdate (MaySee c.args.lit) (λ (f : Facts). seeing f c.args.lit) ps facts) (sym c.requires.places) (may_hand c.args.lit facts c.requires.fresh);
      left = ap (λ (ps : List ℕ). update_all (λ (f : Facts). seeing f c.args.lit) ps facts) c.requires.places ∙ handed_by_table c.args.lit facts;
    }

pub insert-requires : goal.insert-requires
insert-requires g c =
    let s = can_step (MaySee c.args.lit) (λ (f : Facts). seeing f c.args.lit) c.args.places.now c.loop-place.place-index 0 (facts_of g.T.Theory.graph g.T.Theory.atoms g.T.Theory.seen c.loop-place.theories.items) c.loop-place-test.true c.loop-place.invariant.can in
    let all = c.loop-place.invariant.others.count in
    let lt = s.0.within in
    omega (arith, all, lt)

pub assign-requires-clause-concerned : goal.assign-requires-clause-concerned
assign-requires-clause-concerned g c =
    let fact = fact_of g.T.Theory.graph g.T.Theory.atoms g.T.Theory.seen in
    let theory = c.index_mut-theory.result.now in
    let s = can_step (MaySee c.args.lit) (λ (f : Facts). seeing f c.args.lit) c.args.places.now c.loop-place.place-index 0 (facts_of g.T.Theory.graph g.T.Theory.atoms g.T.Theory.seen c.loop-place.theories.items) c.loop-place-test.true c.loop-place.invariant.can in
    (subst (MaySee c.args.lit) (sym (ap fact c.index_mut-theory.ensures.value ∙ map_at fact c.loop-place.theories.items (get_or c.args.places.now c.loop-place.place-index 0) theory)) (s.0.holds (fact theory))).concerned

pub assign-requires-clause-fresh : goal.assign-requires-clause-fresh
assign-requires-clause-fresh g c =
    let fact = fact_of g.T.Theory.graph g.T.Theory.atoms g.T.Theory.seen in
    let theory = c.index_mut-theory.result.now in
    let s = can_step (MaySee c.args.lit) (λ (f : Facts). seeing f c.args.lit) c.args.places.now c.loop-place.place-index 0 (facts_of g.T.Theory.graph g.T.Theory.atoms g.T.Theory.seen c.loop-place.theories.items) c.loop-place-test.true c.loop-place.invariant.can in
    (subst (MaySee c.args.lit) (sym (ap fact c.index_mut-theory.ensures.value ∙ map_at fact c.loop-place.theories.items (get_or c.args.places.now c.loop-place.place-index 0) theory)) (s.0.holds (fact theory))).fresh

pub loop-place-preserved : goal.loop-place-preserved
loop-place-preserved g c =
    let fact = fact_of g.T.Theory.graph g.T.Theory.atoms g.T.Theory.seen in
    let i = c.loop-place.place-index in
    let ps = c.args.places.now in
    let items = c.loop-place.theories.items in
    let facts = facts_of g.T.Theory.graph g.T.Theory.atoms g.T.Theory.seen items in
    let p = get_or ps i 0 in
    let s = can_step (MaySee c.args.lit) (λ (f : Facts). seeing f c.args.lit) ps i 0 facts c.loop-place-test.true c.loop-place.invariant.can in
    let within : p < length items = omega (arith, s.0.within, length-map items fact) in
    let now : fact c.assign.new.self ≡ seeing (fact c.index_mut-theory.result.now) c.args.lit = rw (c.assign.ensures.graph, c.assign.ensures.atoms, c.assign.ensures.seen) refl in
    let written : facts_of g.T.Theory.graph g.T.Theory.atoms g.T.Theory.seen (set items p c.assign.new.self) ≡ update_at p (λ (f : Facts). seeing f c.args.lit) facts = write_at fact (λ (f : Facts). seeing f c.args.lit) items p c.index_mut-theory.result.now c.assign.new.self c.index_mut-theory.ensures.value within now in
    record {
      others = subst (OthersAreQuiet (facts_of g.T.Theory.graph g.T.Theory.atoms g.T.Theory.seen (set items p c.assign.new.self))) (sym c.insert.ensures.listed)
          (subst (λ (fs : List Facts). OthersAreQuiet fs (set c.loop-place.worklist.listed p true)) (sym (map_set fact items p c.assign.new.self)) (changed facts c.loop-place.worklist.listed p (fact c.assign.new.self) s.0.within c.loop-place.invariant.others));
      can = subst (CanUpdate (MaySee c.args.lit) (λ (f : Facts). seeing f c.args.lit) (drop (i + 1) ps)) (sym written) s.1;
      left = ap (update_all (λ (f : Facts). seeing f c.args.lit) (drop (i + 1) ps)) written ∙ sym (left_step (λ (f : Facts). seeing f c.args.lit) ps i 0 facts c.loop-place-test.true) ∙ c.loop-place.invariant.left;
    }
