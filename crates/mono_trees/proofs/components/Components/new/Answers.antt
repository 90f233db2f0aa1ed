use Rattle.std.proofs.Common.{◌∙◌, length, List, ℕ, subst, sym, ap, [], arith}
use Rattle.std.specs.List.{range_with_len}
use Rattle.std.proofs.lemmas.List.{length-map}
use Rattle.mono_trees.specs.Lists.{lists_of}
use Rattle.std.proofs.lemmas.List.FromFn.{length-range_with_len}
use Rattle.mono_trees.specs.Tells.{Tells}
use Rattle.mono_trees.proofs.Relabelled.{tells_none}
use Rattle.mono_trees.specs.Kept.{AreLists}
use Rattle.mono_trees.proofs.Merging.{own_lists, range_at, empty_rows_at}
use Rattle.mono_trees.proofs.components.Components.new.Goals as goal

pub invariant_of-result : goal.invariant_of-result
invariant_of-result c = subst (λ (ls : List ℕ). AreLists ls (lists_of c.in_ok-lists.lists.items)) (sym c.in_ok-labels.ensures)
    (own_lists (range_with_len 0 c.args.count) (lists_of c.in_ok-lists.lists.items) (omega (arith, c.ranges.count, length-range_with_len 0 c.args.count))
    (length-map c.in_ok-lists.lists.items _ ∙ (c.in_ok-lists.ensures.len ∙ sym (length-range_with_len 0 c.args.count))) (range_at c.args.count)
    (λ l. empty_rows_at c.in_ok-lists.lists.items l c.in_ok-lists.ensures.empty))

pub returns-clause-len : goal.returns-clause-len
returns-clause-len c = ap length c.in_ok-labels.ensures ∙ length-range_with_len 0 c.args.count

pub returns-clause-tells : goal.returns-clause-tells
returns-clause-tells c = subst (λ (ls : List ℕ). Tells [] ls) (sym c.in_ok-labels.ensures) (tells_none (range_with_len 0 c.args.count) (range_at c.args.count))
