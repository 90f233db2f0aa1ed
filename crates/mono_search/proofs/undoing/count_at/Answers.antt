use Rattle.std.proofs.Common.{◌≡◌, ◌∙◌, ◌+◌, ◌<◌, ◌^◌, ℕ, true, drop, get_or, set, length, arith, sym, ap, subst}
use Rattle.std.proofs.lemmas.List.{length-set}
use Rattle.mono_search.specs.TheoryLists.{AreListed}
use Rattle.mono_search.specs.Updates.{update_at, update_all, CanUpdate}
use Rattle.mono_search.proofs.ListedCounts.{listed_more}
use Rattle.mono_search.proofs.Updates.{can_step, left_step, set_is}
use Rattle.mono_search.proofs.undoing.count_at.Goals as goal

pub insert-requires : goal.insert-requires
insert-requires c =
    let s = can_step (λ (n : ℕ). n + 1 < 2 ^ 64) (λ n. n + 1) c.args.places.now c.loop-place.place-index 0 c.loop-place.counts.items c.loop-place-test.true c.loop-place.invariant.can in
    let lt = s.0.within in
    let all = c.loop-place.invariant.as_many in
    omega (arith, all, lt)

pub loop-place-preserved : goal.loop-place-preserved
loop-place-preserved c =
    let i = c.loop-place.place-index in
    let ps = c.args.places.now in
    let xs = c.loop-place.counts.items in
    let p = get_or ps i 0 in
    let s = can_step (λ (n : ℕ). n + 1 < 2 ^ 64) (λ n. n + 1) ps i 0 xs c.loop-place-test.true c.loop-place.invariant.can in
    let written : set xs p (c.index_mut.result.now + 1) ≡ update_at p (λ n. n + 1) xs = set_is (λ n. n + 1) xs p c.index_mut.result.now c.index_mut.ensures.value s.0.within in
    record {
      can = subst (CanUpdate (λ (n : ℕ). n + 1 < 2 ^ 64) (λ n. n + 1) (drop (i + 1) ps)) (sym written) s.1;
      as_many = length-set xs p (c.index_mut.result.now + 1) ∙ c.loop-place.invariant.as_many ∙ sym (ap length c.insert.ensures.listed ∙ length-set c.loop-place.worklist.listed p true);
      listed = λ before first. subst (AreListed (set xs p (c.index_mut.result.now + 1)) before) (sym c.insert.ensures.listed)
          (listed_more xs before c.loop-place.worklist.listed p (c.index_mut.result.now + 1) s.0.within c.loop-place.invariant.as_many (c.loop-place.invariant.listed before first));
      left = ap (update_all (λ n. n + 1) (drop (i + 1) ps)) written ∙ sym (left_step (λ n. n + 1) ps i 0 xs c.loop-place-test.true) ∙ c.loop-place.invariant.left;
    }
