use Rattle.std.proofs.Common.{◌≡◌, ℕ, suc, ◌-◌, ◌<◌, ◌≤◌, List, length, set, take, drop, sym, ap, subst, ◌∙◌, arith, take-take}
use Rattle.std.proofs.lemmas.List.{get_or_read, length-set, length-take}
use Rattle.mono_dynamic.specs.declared.change.Change.{Change}
use Rattle.mono_dynamic.specs.Costs.{no_change, change_at, unwound, AreLinked}
use Rattle.mono_dynamic.proofs.CostLinks.{unwound_next, linked_popped}
use Rattle.mono_dynamic.proofs.cost_table.undo_changes_to.Goals as goal

pub loop-changes-preserved : goal.loop-changes-preserved
loop-changes-preserved c =
    let labels : List ℕ = c.loop-changes.labels.items in
    let cs : List Change = c.loop-changes.changes.items in
    let latest : List ℕ = c.loop-changes.latest.items in
    let whole : List Change = c.args.changes.now.items in
    let olds : List ℕ = c.args.labels.now.items in
    let n : ℕ = length cs in
    let m : ℕ = n - 1 in
    let inv = c.loop-changes.invariant in
    let more : c.args.count < n = (let a = c.loop-changes-test.true in let b = c.len.ensures in omega arith) in
    let at : n ≡ suc m = omega arith in
    let held : n ≤ length whole = inv.fewer in
    let first : c.len-in-loop-changes.result - 1 ≡ m = (let a = c.len-in-loop-changes.ensures in omega arith) in
    let second : c.len-in-loop-changes-2.result - 1 ≡ m = (let a = c.len-in-loop-changes-2.ensures in omega arith) in
    let read : c.index-change.result.now ≡ change_at cs m = get_or_read cs (c.len-in-loop-changes.result - 1) c.index-change.result.now (omega arith) c.index-change.ensures no_change ∙ ap (λ (i : ℕ). change_at cs i) first in
    let rest : c.truncate.new.self.items ≡ take m cs = c.truncate.ensures.items ∙ ap (λ (i : ℕ). take i cs) second in
    let fewer : length c.truncate.new.self.items ≡ m = ap (λ (ds : List Change). length ds) rest ∙ omega (arith, length-take m cs) in
    let back : labels ≡ unwound olds (drop (suc m) whole) = inv.labels ∙ ap (λ (i : ℕ). unwound olds (drop i whole)) at in
    let front : cs ≡ take (suc m) whole = inv.changes ∙ ap (λ (i : ℕ). take i whole) at in
    record {
      held = omega arith;
      fewer = omega arith;
      len = length-set labels c.index-change.result.now.node c.index-change.result.now.old ∙ inv.len;
      labels =
          ap (λ (x : Change). set labels x.node x.old) read
          ∙ (unwound_next olds labels whole cs m (omega arith) back front ∙ ap (λ (i : ℕ). unwound olds (drop i whole)) (sym fewer));
      changes = rest ∙ (ap (λ (ds : List Change). take m ds) front ∙ (take-take m (suc m) whole (omega arith) ∙ ap (λ (i : ℕ). take i whole) (sym fewer)));
      linked =
          subst (λ (x : Change). AreLinked (set labels x.node x.old) c.truncate.new.self.items (set latest x.node x.previous)) (sym read)
          (subst (λ (ds : List Change). AreLinked (set labels (change_at cs m).node (change_at cs m).old) ds (set latest (change_at cs m).node (change_at cs m).previous)) (sym rest)
          (linked_popped labels cs latest m inv.linked at));
    }
