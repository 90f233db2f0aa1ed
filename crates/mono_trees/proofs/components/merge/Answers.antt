use Rattle.std.proofs.Common.{◌≡◌, [], List, ℕ, ap, subst, ◌∙◌, cond, get_or, arith}
use Rattle.std.specs.Prelude.{IsTrue}
use Rattle.mono_graph.specs.Digraph.{has}
use Rattle.mono_trees.specs.Lists.{lists_of}
use Rattle.mono_graph.proofs.Membership.{has_get_or}
use Rattle.mono_trees.proofs.Merging.{itself_listed, put_empty, kept_as, kept_after_own, kept_after_back, kept_after_merge, moved_at}
use Rattle.mono_trees.proofs.components.merge.Goals as goal

pub relabel-requires : goal.relabel-requires
relabel-requires c = λ k d lt.
    let kept = kept_after_own c.args.labels.now (lists_of c.args.lists.now) (lists_of c.append_all.new.lists) c.args.small c.requires.kept c.requires.small c.requires.own_small c.in_ok-append_all.ensures.ok in
    let nodes : c.deref-in-Ok.result.now ≡ get_or (lists_of c.append_all.new.lists) c.args.small [] = c.deref-in-Ok.ensures.value ∙ c.put_list-nodes.ensures.was in
    (kept.only c.args.small _ c.requires.small
    (subst (λ (ks : List ℕ). IsTrue (has ks (get_or c.deref-in-Ok.result.now k d))) nodes (has_get_or c.deref-in-Ok.result.now k d lt))).0

pub returns-in-Ok-clause-ok : goal.returns-in-Ok-clause-ok
returns-in-Ok-clause-ok c =
    let kept = kept_after_own c.args.labels.now (lists_of c.args.lists.now) (lists_of c.append_all.new.lists) c.args.small c.requires.kept c.requires.small c.requires.own_small c.in_ok-append_all.ensures.ok in
    let nodes : c.deref-in-Ok.result.now ≡ get_or (lists_of c.append_all.new.lists) c.args.small [] = c.deref-in-Ok.ensures.value ∙ c.put_list-nodes.ensures.was in
    moved_at c.args.labels.now c.relabel.new.labels (lists_of c.append_all.new.lists) c.args.small c.args.large kept c.requires.small
    (itself_listed (lists_of c.args.lists.now) (lists_of c.append_all.new.lists) c.args.small (omega (arith, c.requires.kept.len)) c.in_ok-append_all.ensures.ok)
    (λ u. c.relabel.ensures u ∙ ap (λ (ks : List ℕ). cond (has ks u) c.args.large (get_or c.args.labels.now u 0)) nodes)

pub returns-in-Ok-clause-kept : goal.returns-in-Ok-clause-kept
returns-in-Ok-clause-kept c =
    let kept = kept_after_own c.args.labels.now (lists_of c.args.lists.now) (lists_of c.append_all.new.lists) c.args.small c.requires.kept c.requires.small c.requires.own_small c.in_ok-append_all.ensures.ok in
    kept_as c.relabel.new.labels (lists_of c.append_all-2.new.lists) (lists_of c.put_list.new.lists)
    (put_empty (lists_of c.append_all.new.lists) (lists_of c.put_list-nodes.new.lists) (lists_of c.append_all-2.new.lists) (lists_of c.put_list.new.lists)
    c.new.result.items c.clear.new.self.items _ c.args.small c.args.large (omega (arith, kept.len, c.requires.small)) c.requires.apart c.new.ensures.items c.put_list-nodes.ensures.is c.in-Ok.ensures.ok c.clear.ensures.items c.put_list.ensures.is)
    (kept_after_merge c.args.labels.now c.relabel.new.labels (lists_of c.append_all.new.lists) (lists_of c.put_list-nodes.new.lists) (lists_of c.append_all-2.new.lists)
    c.new.result.items c.put_list-nodes.result.items c.deref.result.now c.args.small c.args.large kept c.requires.small c.requires.large c.requires.own_large c.requires.apart
    (itself_listed (lists_of c.args.lists.now) (lists_of c.append_all.new.lists) c.args.small (omega (arith, c.requires.kept.len)) c.in_ok-append_all.ensures.ok)
    c.new.ensures.items c.put_list-nodes.ensures.was c.deref.ensures.value c.put_list-nodes.ensures.is c.in-Ok.ensures.ok
    (c.relabel.auto.labels) (returns-in-Ok-clause-ok c))

pub returns-in-Err-clause-kept : goal.returns-in-Err-clause-kept
returns-in-Err-clause-kept c =
    let kept = kept_after_own c.args.labels.now (lists_of c.args.lists.now) (lists_of c.append_all.new.lists) c.args.small c.requires.kept c.requires.small c.requires.own_small c.in_ok-append_all.ensures.ok in
    kept_after_back c.args.labels.now (lists_of c.append_all.new.lists) (lists_of c.put_list-nodes.new.lists) (lists_of c.append_all-2.new.lists) (lists_of c.put_list-in-Err.new.lists)
    c.new.result.items c.put_list-nodes.result.items c.args.small kept c.new.ensures.items c.put_list-nodes.ensures.was c.put_list-nodes.ensures.is c.in-Err.ensures.err c.put_list-in-Err.ensures.is
