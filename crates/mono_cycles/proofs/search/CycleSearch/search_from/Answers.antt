use Rattle.std.proofs.Common.{◌≡◌, ◌<◌, ◌≤◌, ◌⊎◌, ◌-◌, ◌+◌, ◌++◌, ◌∷◌, [], ℕ, List, true, false, length, take, get_or, set, sym, ap, subst, ◌∙◌, inl, inr, arith, length-append}
use Rattle.std.specs.Prelude.{IsTrue}
use Rattle.std.proofs.lemmas.List.{length-take-le, get_or_read}
use Rattle.mono_graph.specs.Digraph.{has}
use Rattle.mono_graph.specs.declared.edge.Edge.{Edge}
use Rattle.mono_graph.proofs.Prefixes.{has_new, has_old}
use Rattle.mono_graph.proofs.Membership.{has_append_left}
use Rattle.mono_cycles.specs.Searches.{IsStep, IsPath}
use Rattle.mono_cycles.proofs.Searching.{few, kept_at, begun, entered, left, root_kept}
use Rattle.mono_cycles.proofs.search.CycleSearch.search_from.Goals as goal

pub back-init : goal.back-init
back-init c =
    let s = c.args.self.now in
    let e = c.in_ok-enter.ensures in
    record {
      search = kept_at c.args.graph.now c.args.part.now s.next.items _ (set s.on_path.items c.args.root true) _ s.done.items _ (s.path.items ++ c.args.root ∷ []) _ (s.taken.items ++ 0 ∷ []) _ s.order.items _
          e.next e.on_path e.done e.path e.taken e.order
          (begun c.args.graph.now c.args.part.now s.next.items s.on_path.items s.done.items s.path.items s.taken.items s.order.items c.args.root 0 c.requires.search c.requires.root c.requires.path c.requires.fresh);
      root = inl (subst (λ (ks : List ℕ). IsTrue (has ks c.args.root)) (sym e.path) (has_new s.path.items c.args.root));
      before = λ u h. subst (λ (ks : List ℕ). IsTrue (has ks u)) (sym e.order) h;
    }

pub back-smaller-in-Continue-branch-2 : goal.back-smaller-in-Continue-branch-2
back-smaller-in-Continue-branch-2 c =
    let s = c.back.self in
    let n = c.next_edge.new.self in
    let t = c.leave.new.self in
    let room : length s.path.items + length s.order.items ≤ c.args.graph.now.nodes = few c.args.graph.now c.args.part.now s.next.items s.on_path.items s.done.items s.path.items s.taken.items s.order.items c.back.invariant.search in
    let some : 0 < length s.path.items = c.in-Some.ensures.0 in
    let path : length t.path.items ≡ length s.path.items - 1 = ap (λ (ks : List ℕ). length ks) c.in_ok-leave-in-None.ensures.path ∙ (length-take-le (length n.path.items - 1) n.path.items (omega arith) ∙ ap (λ (ks : List ℕ). length ks - 1) c.in-None.ensures.path) in
    let order : length t.order.items ≡ length s.order.items + 1 = ap (λ (ks : List ℕ). length ks) c.in_ok-leave-in-None.ensures.order ∙ (length-append n.order.items (c.in-Some.node ∷ []) ∙ ap (λ (ks : List ℕ). length ks + 1) c.in-None.ensures.order) in
    omega arith

pub back-preserved-in-Continue-branch-2 : goal.back-preserved-in-Continue-branch-2
back-preserved-in-Continue-branch-2 c =
    let s = c.back.self in
    let n = c.next_edge.new.self in
    let e = c.in_ok-leave-in-None.ensures in
    let g = c.args.graph.now in
    let P = c.args.part.now in
    let u = c.in-Some.node in
    let some : 0 < length n.path.items = subst (λ (ks : List ℕ). 0 < length ks) (sym c.in-None.ensures.path) c.in-Some.ensures.0 in
    let last : get_or n.path.items (length n.path.items - 1) 0 ≡ u = subst (λ (ks : List ℕ). get_or ks (length ks - 1) 0 ≡ u) (sym c.in-None.ensures.path) c.in-Some.ensures.1 in
    record {
      search = kept_at g P n.next.items _ (set n.on_path.items u false) _ (set n.done.items u true) _ (take (length n.path.items - 1) n.path.items) _ (take (length n.taken.items - 1) n.taken.items) _ (n.order.items ++ u ∷ []) _
          e.next e.on_path e.done e.path e.taken e.order
          (left g P n.next.items n.on_path.items n.done.items n.path.items n.taken.items n.order.items u c.next_edge.ensures.search some last c.in-None.ensures.due);
      root = subst (λ (ks : List ℕ). IsTrue (has ks c.args.root) ⊎ IsTrue (has c.leave.new.self.order.items c.args.root)) (sym e.path)
          (subst (λ (ks : List ℕ). IsTrue (has (take (length n.path.items - 1) n.path.items) c.args.root) ⊎ IsTrue (has ks c.args.root)) (sym e.order)
          (root_kept n.path.items n.order.items u c.args.root some last
          (subst (λ (ks : List ℕ). IsTrue (has ks c.args.root) ⊎ IsTrue (has n.order.items c.args.root)) (sym c.in-None.ensures.path)
          (subst (λ (ks : List ℕ). IsTrue (has s.path.items c.args.root) ⊎ IsTrue (has ks c.args.root)) (sym c.in-None.ensures.order) c.back.invariant.root))));
      before = λ v h. subst (λ (ks : List ℕ). IsTrue (has ks v)) (sym e.order) (has_old n.order.items u v (subst (λ (ks : List ℕ). IsTrue (has ks v)) (sym c.in-None.ensures.order) (c.back.invariant.before v h)));
    }

pub returns-then-index-clause-searched : goal.returns-then-index-clause-searched
returns-then-index-clause-searched c =
    let n = c.next_edge.new.self in
    let g = c.args.graph.now in
    let P = c.args.part.now in
    let v : ℕ = c.edge-before.result.from in
    let step : IsStep g P c.in-Some-next_edge.place c.edge-before.result.from c.in-Some.node =
    subst (λ (e : Edge). IsStep g P c.in-Some-next_edge.place e.from c.in-Some.node) (sym c.edge-before.ensures.edge) c.in-Some-next_edge.ensures.due.0 in
    let last : get_or n.path.items (length n.path.items - 1) 0 ≡ c.in-Some.node = subst (λ (ks : List ℕ). get_or ks (length ks - 1) 0 ≡ c.in-Some.node) (sym c.in-Some-next_edge.ensures.path) c.in-Some.ensures.1 in
    c.in_ok-cycle-in-Some-next_edge.ensures g P
    (subst (λ (ks : List ℕ). IsPath g P ks c.deref-then-index.result.now) (sym c.deref.ensures.value)
    (subst (λ (ks : List ℕ). IsPath g P n.path.items ks) (sym c.deref-then-index.ensures.value) c.next_edge.ensures.search.path))
    (subst (λ (ks : List ℕ). IsStep g P c.in-Some-next_edge.place v (get_or ks (length ks - 1) 0)) (sym c.deref.ensures.value)
    (subst (λ (x : ℕ). IsStep g P c.in-Some-next_edge.place v x) (sym last) step))

pub back-preserved : goal.back-preserved
back-preserved c =
    let n = c.next_edge.new.self in
    let e = c.in_ok-enter-in-Some-next_edge.ensures in
    let g = c.args.graph.now in
    let P = c.args.part.now in
    let k : ℕ = c.in-Some-next_edge.place in
    let v : ℕ = c.edge-before.result.from in
    let search = c.next_edge.ensures.search in
    let step : IsStep g P c.in-Some-next_edge.place c.edge-before.result.from c.in-Some.node =
    subst (λ (e : Edge). IsStep g P c.in-Some-next_edge.place e.from c.in-Some.node) (sym c.edge-before.ensures.edge) c.in-Some-next_edge.ensures.due.0 in
    let last : get_or n.path.items (length n.path.items - 1) 0 ≡ c.in-Some.node = subst (λ (ks : List ℕ). get_or ks (length ks - 1) 0 ≡ c.in-Some.node) (sym c.in-Some-next_edge.ensures.path) c.in-Some.ensures.1 in
    let new : has n.path.items v ≡ false = sym (search.open_is v) ∙ (sym (get_or_read n.on_path.items v c.index.result.now (let m = search.opens in let b = c.edge-before.ensures.from in omega arith) c.index.ensures false) ∙ c.if-index.false) in
    let undone : has n.order.items v ≡ false =
    subst (λ (ks : List ℕ). has ks v ≡ false) (sym c.in-Some-next_edge.ensures.order) (subst (λ (x : Edge). has c.back.self.order.items x.from ≡ false) (sym c.edge-before.ensures.edge) c.in-Some-next_edge.ensures.due.1) in
    record {
      search = kept_at g P n.next.items _ (set n.on_path.items v true) _ n.done.items _ (n.path.items ++ v ∷ []) _ (n.taken.items ++ k ∷ []) _ n.order.items _
          e.next e.on_path e.done e.path e.taken e.order
          (entered g P n.next.items n.on_path.items n.done.items n.path.items n.taken.items n.order.items v k search c.edge-before.ensures.from new undone
          (λ some. subst (λ (x : ℕ). IsStep g P k v x) (sym last) step));
      root = elim c.back.invariant.root [
        | inl on ↦ inl (subst (λ (ks : List ℕ). IsTrue (has ks c.args.root)) (sym e.path) (has_append_left n.path.items (v ∷ []) c.args.root (subst (λ (ks : List ℕ). IsTrue (has ks c.args.root)) (sym c.in-Some-next_edge.ensures.path) on)))
        | inr done ↦ inr (subst (λ (ks : List ℕ). IsTrue (has ks c.args.root)) (sym (e.order ∙ c.in-Some-next_edge.ensures.order)) done)
      ];
      before = λ u h. subst (λ (ks : List ℕ). IsTrue (has ks u)) (sym (e.order ∙ c.in-Some-next_edge.ensures.order)) (c.back.invariant.before u h);
    }

pub back-smaller : goal.back-smaller
back-smaller c =
    let s = c.back.self in
    let n = c.next_edge.new.self in
    let t = c.enter-in-Some-next_edge.new.self in
    let path : length t.path.items ≡ length s.path.items + 1 = ap (λ (ks : List ℕ). length ks) c.in_ok-enter-in-Some-next_edge.ensures.path ∙ (length-append n.path.items (c.edge-before.result.from ∷ []) ∙ ap (λ (ks : List ℕ). length ks + 1) c.in-Some-next_edge.ensures.path) in
    let order : length t.order.items ≡ length s.order.items = ap (λ (ks : List ℕ). length ks) (c.in_ok-enter-in-Some-next_edge.ensures.order ∙ c.in-Some-next_edge.ensures.order) in
    let after = back-preserved c in
    let room : length t.path.items + length t.order.items ≤ c.args.graph.now.nodes = few c.args.graph.now c.args.part.now t.next.items t.on_path.items t.done.items t.path.items t.taken.items t.order.items after.search in
    let some : 0 < length s.path.items = c.in-Some.ensures.0 in
    omega arith
