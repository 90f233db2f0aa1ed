use Rattle.std.proofs.Common.{◌++◌, [], List, ℕ, ap, ◌∙◌, sym, cond, set}
use Rattle.std.specs.Prelude.{is_ok}
use Rattle.std.proofs.lemmas.List.{set-get_or}
use Rattle.mono_trees.specs.Lists.{lists_of}
use Rattle.mono_trees.proofs.LabelLists.{lists_of-set, list_at}
use Rattle.mono_trees.proofs.Outcome.{on_ok, on_err}
use Rattle.mono_trees.proofs.components.append_all.Goals as goal

pub returns-clause-ok : goal.returns-clause-ok
returns-clause-ok c =
    on_ok c.extend_from_slice.result (λ (ks : List ℕ). set (lists_of c.args.lists.now) c.args.label ks) _ _ _
    (lists_of-set c.args.lists.now c.args.label c.extend_from_slice.new.self _
    (c.extend_from_slice.ensures.items ∙ ap (λ (ks : List ℕ). cond (is_ok c.extend_from_slice.result) (ks ++ c.args.nodes.now) ks)
    (ap (λ v. v.items) (sym c.index-lists-label.is) ∙ list_at c.args.lists.now c.args.label c.index-lists-label.result c.requires c.index-lists-label.is)))

pub returns-clause-err : goal.returns-clause-err
returns-clause-err c =
    on_err c.extend_from_slice.result (λ (ks : List ℕ). set (lists_of c.args.lists.now) c.args.label ks) _ _ _ _
    (lists_of-set c.args.lists.now c.args.label c.extend_from_slice.new.self _
    (c.extend_from_slice.ensures.items ∙ ap (λ (ks : List ℕ). cond (is_ok c.extend_from_slice.result) (ks ++ c.args.nodes.now) ks)
    (ap (λ v. v.items) (sym c.index-lists-label.is) ∙ list_at c.args.lists.now c.args.label c.index-lists-label.result c.requires c.index-lists-label.is)))
    (set-get_or (lists_of c.args.lists.now) c.args.label [])
