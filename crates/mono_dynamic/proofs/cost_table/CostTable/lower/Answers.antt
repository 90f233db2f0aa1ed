use Rattle.std.proofs.Common.{◌≡◌, ℕ, ◌++◌, ◌∷◌, [], ◌<◌, ◌≤◌, suc, List, length, set, sym, subst, arith}
use Rattle.std.specs.Prelude.{All}
use Rattle.mono_dynamic.specs.declared.change.Change.{Change}
use Rattle.mono_dynamic.specs.Costs.{Costs, label_of, AreKept, IsLast}
use Rattle.mono_dynamic.proofs.CostLists.{kept_pushed}
use Rattle.mono_dynamic.proofs.CostLinks.{linked_pushed}
use Rattle.mono_dynamic.proofs.cost_table.CostTable.lower.Goals as goal

pub invariant_of-self-2 : goal.invariant_of-self-2
invariant_of-self-2 c =
    let x : Change = c.args.change in
    let labels : List ℕ = c.self.inside.labels.items in
    let cs : List Change = c.self.inside.changes.items in
    let latest : List ℕ = c.self.inside.latest.items in
    let room : x.node < length labels = subst (λ (t : Costs). x.node < length t.labels) (sym c.self.view_is) c.requires.node in
    let old : x.old ≡ label_of labels x.node = subst (λ (t : Costs). x.old ≡ label_of t.labels x.node) (sym c.self.view_is) c.requires.old in
    let before : x.before ≤ length cs = subst (λ (t : Costs). x.before ≤ length t.changes) (sym c.self.view_is) c.requires.before in
    let own : IsLast cs (length cs) x.node x.old x.previous = subst (λ (t : Costs). IsLast t.changes (length t.changes) x.node x.old x.previous) (sym c.self.view_is) c.requires.previous in
    let stamps : All (λ (d : Change). d.stamp ≤ x.stamp) cs = subst (λ (t : Costs). All (λ (d : Change). d.stamp ≤ x.stamp) t.changes) (sym c.self.view_is) c.requires.stamps in
    let count : c.len.result ≡ suc (length cs) = (let a = c.len.ensures in let b = c.in_ok-push.ensures.len in omega arith) in
    subst (λ (ds : List Change). AreKept c.self.inside.cap (set labels x.node x.label) ds (set latest x.node c.len.result)) (sym c.in_ok-push.ensures.items)
    (subst (λ (n : ℕ). AreKept c.self.inside.cap (set labels x.node x.label) (cs ++ x ∷ []) (set latest x.node n)) (sym count)
    (kept_pushed c.self.inside.cap labels cs latest (set latest x.node (suc (length cs))) x c.self.invariant room old c.requires.below stamps (linked_pushed labels cs latest x c.self.invariant.linked room own before)))
