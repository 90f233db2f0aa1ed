use Rattle.std.proofs.Common.{◌≡◌, ◌<◌, ◌-◌, ◌∙◌, ℕ, List, length, map, replicate, sym, ap, subst, arith}
use Rattle.std.specs.Prelude.{All, IsTrue, slice_index_or}
use Rattle.std.proofs.lemmas.List.{length-map}
use Rattle.mono_graph.specs.Digraph.{has}
use Rattle.mono_paths.specs.NodeLabels.{NodeLabels}
use Rattle.mono_paths.proofs.NodeLabels.{reached_known, some_listed, set_back_all}
use Rattle.mono_paths.proofs.labels.Labels.reset.Goals as goal

pub set_back-requires : goal.set_back-requires
set_back-requires c = record {
  within = λ k d lt. let low = subst (λ (us : List ℕ). All (λ u. u < length c.self.inside.below.items) us) (sym c.deref.ensures.value) (reached_known c.self.inside.cap c.self.inside.below.items c.self.inside.reached.items c.self.invariant) k d lt in omega arith;
}

zeros : (c : goal.After-self-1) → (u : ℕ) → slice_index_or c.set_back.new.below.items u 0 ≡ 0
zeros c = c.set_back.ensures.clear (λ u some. subst (λ (us : List ℕ). IsTrue (has us u)) (sym c.deref.ensures.value) (some_listed c.self.inside.cap c.self.inside.below.items c.self.inside.reached.items c.self.invariant u some))

pub returns : goal.returns
returns c =
    let each : map (λ (x : ℕ). c.args.cap - x) c.set_back.new.below.items ≡ replicate (length c.args.self.now.each) c.args.cap =
    set_back_all c.args.cap (length c.args.self.now.each) c.set_back.new.below.items
    (let len = c.set_back.ensures.len in let l : length c.set_back.new.below.items ≡ length c.self.inside.below.items = omega arith in
    l ∙ (sym (length-map c.self.inside.below.items (λ (x : ℕ). c.self.inside.cap - x)) ∙ ap (λ (l : NodeLabels). length l.each) c.self.view_is)) (zeros c) in
    ap (λ (xs : List ℕ). record { cap = c.args.cap; each = xs; reached = c.clear.new.self.items }) each
    ∙ ap (λ (us : List ℕ). record { cap = c.args.cap; each = replicate (length c.args.self.now.each) c.args.cap; reached = us }) c.clear.ensures.items
