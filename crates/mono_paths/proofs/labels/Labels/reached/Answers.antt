use Rattle.std.proofs.Common.{◌≡◌, ◌<◌, ◌-◌, ◌∙◌, ℕ, List, length, sym, ap, subst}
use Rattle.std.specs.Prelude.{All, IsTrue, nat_lt}
use Rattle.std.proofs.lemmas.List.{length-map}
use Rattle.mono_graph.specs.Digraph.{has, is_distinct}
use Rattle.mono_paths.specs.Spread.{label_of}
use Rattle.mono_paths.specs.NodeLabels.{NodeLabels}
use Rattle.mono_paths.proofs.NodeLabels.{reached_known, reached_below}
use Rattle.mono_paths.proofs.labels.Labels.reached.Goals as goal

known : (c : goal.After-deref) → All (λ u. u < length c.args.self.now.each) c.deref.result.now
known c =
    let len : length c.self.inside.below.items ≡ length c.args.self.now.each = sym (length-map c.self.inside.below.items (λ (x : ℕ). c.self.inside.cap - x)) ∙ ap (λ (l : NodeLabels). length l.each) c.self.view_is in
    subst (λ (us : List ℕ). All (λ u. u < length c.args.self.now.each) us) (sym c.deref.ensures.value)
    (subst (λ (n : ℕ). All (λ u. u < n) c.self.inside.reached.items) len (reached_known c.self.inside.cap c.self.inside.below.items c.self.inside.reached.items c.self.invariant))

below : (c : goal.After-deref) → (u : ℕ) → u < length c.args.self.now.each → has c.deref.result.now u ≡ nat_lt (label_of c.args.self.now.each u) c.args.self.now.cap
below c =
    subst (λ (us : List ℕ). (u : ℕ) → u < length c.args.self.now.each → has us u ≡ nat_lt (label_of c.args.self.now.each u) c.args.self.now.cap) (sym c.deref.ensures.value)
    (subst (λ (l : NodeLabels). (u : ℕ) → u < length l.each → has c.self.inside.reached.items u ≡ nat_lt (label_of l.each u) l.cap) c.self.view_is
    (reached_below c.self.inside.cap c.self.inside.below.items c.self.inside.reached.items c.self.invariant))

pub returns-clause-reached : goal.returns-clause-reached
returns-clause-reached c = record {
  known = known c;
  once = subst (λ (us : List ℕ). IsTrue (is_distinct us)) (sym c.deref.ensures.value) c.self.invariant.once;
  below = below c;
}
