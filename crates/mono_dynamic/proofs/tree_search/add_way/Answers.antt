use Rattle.std.proofs.Common.{ℕ, ◌≡◌, suc, ◌-◌, subst, arith}
use Rattle.std.specs.Prelude.{slice_index_or}
use Rattle.mono_dynamic.proofs.SearchTrees.{IsAdding, adding_more}
use Rattle.mono_dynamic.proofs.tree_search.add_way.Goals as goal

pub loop-left-preserved : goal.loop-left-preserved
loop-left-preserved c =
    let up : c.loop-left.left ≡ suc (c.loop-left.left - 1) = (let some = c.loop-left-test.true in omega arith) in
    adding_more c.args.found.now.arrivals c.args.way.now (c.loop-left.left - 1) (slice_index_or c.args.way.now 0 0) c.args.tree.now c.loop-left.tree c.attach.new.tree c.requires.way
    (subst (λ (n : ℕ). IsAdding c.args.found.now.arrivals c.args.way.now n c.args.tree.now c.loop-left.tree) up c.loop-left.invariant) c.attach.ensures
