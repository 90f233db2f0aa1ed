use Rattle.std.proofs.Common.{◌≡◌, ◌<◌, ◌∙◌, sym, ap, subst, arith, ℕ, List, length, get_or, refl, ◌-◌, inl, inr}
use Rattle.std.specs.Prelude.{Contains}
use Rattle.std.proofs.lemmas.List.Elements.{Contains-get_or}
use Rattle.std.proofs.lemmas.List.Sorted.{Contains-permutation, IsPermutation-sym, IsNonDecreasingBy-from_sort}
use Rattle.std.specs.List.Sorted.{IsNonDecreasing}
use Rattle.mono_steps.specs.Steps.{clauses_after}
use Rattle.mono_learn.specs.Resolving.{HasMinimized}
use Rattle.std.proofs.lemmas.List.{get_or_read}
use Rattle.mono_learn.specs.Minimizing.{IsKeptFor, AreDropped}
use Rattle.mono_learn.proofs.MinimizingSteps.{minimized_start, kept_for_fewer}
use Rattle.mono_learn.proofs.Dropping.{dropped_none, dropped_more, at_or_above}
use Rattle.mono_learn.proofs.analysis.Analysis.minimize.Goals as goal

pub loop-rest-init : goal.loop-rest-init
loop-rest-init c = record {
  slots = refl;
  low = λ k h. c.requires.low k (Contains-permutation c.sort_unstable.new.self.items c.args.self.now.resolvent.kept.items k (IsPermutation-sym c.args.self.now.resolvent.kept.items c.sort_unstable.new.self.items c.sort_unstable.ensures.permutation) h);
  minimized_to = λ start last a. minimized_start (clauses_after c.args.problem.now c.args.journal.now) c.args.trail.now.lits start last c.args.self.now.resolvent c.sort_unstable.new.self.items c.args.self.now.used.items a c.sort_unstable.ensures.permutation;
  needed = λ j a b. absurd (omega (arith, a, b, c.len-rest.ensures, c.sort_unstable.new.self.ok));
  sorted = IsNonDecreasingBy-from_sort (λ (x : ℕ). x) c.sort_unstable.new.self.items c.sort_unstable.ensures.sorted;
  dropped = dropped_none (clauses_after c.args.problem.now c.args.journal.now) c.args.trail.now c.args.self.now.resolvent.seen.items c.sort_unstable.new.self.items c.len-rest.result (omega (arith, c.len-rest.ensures));
  within = omega (arith, c.len-rest.ensures);
}

pub try_drop-requires-clause-place : goal.try_drop-requires-clause-place
try_drop-requires-clause-place c =
    let lt : c.loop-rest.rest - 1 < length c.loop-rest.self.resolvent.kept.items = omega (arith, c.loop-rest-test.true, c.loop-rest.invariant.within) in
    c.loop-rest.invariant.low c.index.result.now (subst (Contains c.loop-rest.self.resolvent.kept.items) (sym c.index.ensures) (Contains-get_or c.loop-rest.self.resolvent.kept.items (c.loop-rest.rest - 1) c.index.result.now lt))

pub loop-rest-preserved : goal.loop-rest-preserved
loop-rest-preserved c =
    let lt : c.loop-rest.rest - 1 < length c.loop-rest.self.resolvent.kept.items = omega (arith, c.loop-rest-test.true, c.loop-rest.invariant.within) in
    let held : Contains c.loop-rest.self.resolvent.kept.items c.index.result.now = subst (Contains c.loop-rest.self.resolvent.kept.items) (sym c.index.ensures) (Contains-get_or c.loop-rest.self.resolvent.kept.items (c.loop-rest.rest - 1) c.index.result.now lt) in
    record {
      slots = c.in_ok-try_drop.ensures.slots ∙ c.loop-rest.invariant.slots;
      low = λ k h. c.loop-rest.invariant.low k (subst (λ (ks : List ℕ). Contains ks k) c.in_ok-try_drop.ensures.kept h);
      minimized_to = λ start last a.
          let h = c.loop-rest.invariant.minimized_to start last a in
          subst (λ (ks : List ℕ). HasMinimized (clauses_after c.args.problem.now c.args.journal.now) c.args.trail.now.lits start last c.try_drop.new.self.resolvent.seen.items ks c.try_drop.new.self.used.items) (sym c.in_ok-try_drop.ensures.kept)
          (c.in_ok-try_drop.ensures.minimized_to start last (h.kept_only c.index.result.now held) h);
      needed = λ j a b. elim (at_or_above (c.loop-rest.rest - 1) j a) [
        | inl e ↦ (
            let at : get_or c.try_drop.new.self.resolvent.kept.items j 0 ≡ c.index.result.now = ap (λ (ks : List ℕ). get_or ks j 0) c.in_ok-try_drop.ensures.kept ∙ ap (λ (i : ℕ). get_or c.loop-rest.self.resolvent.kept.items i 0) e ∙ sym (get_or_read c.loop-rest.self.resolvent.kept.items (c.loop-rest.rest - 1) c.index.result.now lt c.index.ensures 0) in
            subst (IsKeptFor (clauses_after c.args.problem.now c.args.journal.now) c.args.trail.now c.try_drop.new.self.resolvent.seen.items) (sym at) c.in_ok-try_drop.ensures.needed
            )
        | inr m ↦ kept_for_fewer (clauses_after c.args.problem.now c.args.journal.now) c.args.trail.now c.loop-rest.self.resolvent.seen.items c.try_drop.new.self.resolvent.seen.items (get_or c.try_drop.new.self.resolvent.kept.items j 0) c.in_ok-try_drop.ensures.fewer
            (subst (λ (ks : List ℕ). IsKeptFor (clauses_after c.args.problem.now c.args.journal.now) c.args.trail.now c.loop-rest.self.resolvent.seen.items (get_or ks j 0)) (sym c.in_ok-try_drop.ensures.kept)
            (c.loop-rest.invariant.needed j (omega (arith, m, c.loop-rest-test.true)) (omega (arith, b, ap (λ (ks : List ℕ). length ks) c.in_ok-try_drop.ensures.kept))))
      ];
      sorted = subst IsNonDecreasing (sym c.in_ok-try_drop.ensures.kept) c.loop-rest.invariant.sorted;
      dropped =
          let at : c.index.result.now ≡ get_or c.loop-rest.self.resolvent.kept.items (c.loop-rest.rest - 1) 0 = get_or_read c.loop-rest.self.resolvent.kept.items (c.loop-rest.rest - 1) c.index.result.now lt c.index.ensures 0 in
          subst (λ (ks : List ℕ). AreDropped (clauses_after c.args.problem.now c.args.journal.now) c.args.trail.now c.args.self.now.resolvent.seen.items c.try_drop.new.self.resolvent.seen.items ks (c.loop-rest.rest - 1)) (sym c.in_ok-try_drop.ensures.kept)
          (dropped_more (clauses_after c.args.problem.now c.args.journal.now) c.args.trail.now c.args.self.now.resolvent.seen.items c.loop-rest.self.resolvent.seen.items c.try_drop.new.self.resolvent.seen.items c.loop-rest.self.resolvent.kept.items c.loop-rest.rest (c.loop-rest.rest - 1) c.index.result.now
          c.requires.sound c.requires.reasons (c.loop-rest.invariant.low c.index.result.now held) c.loop-rest.invariant.sorted (omega (arith, c.loop-rest-test.true)) c.loop-rest.invariant.within at c.loop-rest.invariant.dropped c.in_ok-try_drop.ensures.exact c.in_ok-try_drop.ensures.others c.in_ok-try_drop.ensures.fewer);
      within = omega (arith, lt, ap (λ (ks : List ℕ). length ks) c.in_ok-try_drop.ensures.kept);
    }

pub returns-clause-exact : goal.returns-clause-exact
returns-clause-exact c =
    let e : c.loop-rest.rest ≡ 0 = omega (arith, c.loop-rest-test.false) in
    subst (AreDropped (clauses_after c.args.problem.now c.args.journal.now) c.args.trail.now c.args.self.now.resolvent.seen.items c.loop-rest.self.resolvent.seen.items c.loop-rest.self.resolvent.kept.items) e c.loop-rest.invariant.dropped
