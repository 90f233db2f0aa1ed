use Rattle.std.proofs.Common.{◌≡◌, ℕ, ◌+◌, ◌<◌, Bool, false, true, Option, None, Some, IfSome, List, [], ◌∷◌, ◌++◌, length, get_or, refl, sym, ap, subst, ◌∙◌, inl, inr, arith, below_more}
use Rattle.std.specs.Prelude.{All, IsTrue}
use Rattle.std.proofs.lemmas.Bool.{both_ways}
use Rattle.std.proofs.lemmas.List.{get_or_default}
use Rattle.mono_graph.specs.Digraph.{has}
use Rattle.mono_graph.specs.Walks.{admits}
use Rattle.mono_graph.specs.declared.limit.Limit.{Limit}
use Rattle.mono_graph.proofs.Membership.{has_append_cases, has_append_left, has_append_right, has_cons, has_here}
use Rattle.mono_dynamic.specs.declared.walk_target.WalkTarget.{WalkTarget}
use Rattle.mono_dynamic.specs.Costs.{Costs, label_of}
use Rattle.mono_dynamic.specs.Ways.{labels_in, no_target, IsTarget}
use Rattle.mono_dynamic.proofs.search_tree.asked_nodes.Goals as goal

-- the first targets that are asked for are among the nodes
abbrev HasAsked : (labels : List ℕ) (targets : List WalkTarget) (nodes : List ℕ) (count : ℕ) → Type 0
HasAsked labels targets nodes count =
    (j : ℕ) (d : WalkTarget) → j < count → IsTrue (admits (get_or targets j d).limit (label_of labels (get_or targets j d).node)) → IsTrue (has nodes (get_or targets j d).node)

asked_more : (labels : List ℕ) (targets : List WalkTarget) (nodes : List ℕ) (i : ℕ) → i < length targets
    → (IsTrue (admits (get_or targets i no_target).limit (label_of labels (get_or targets i no_target).node)) → IsTrue (has nodes (get_or targets i no_target).node)) → HasAsked labels targets nodes i → HasAsked labels targets nodes (i + 1)
asked_more labels targets nodes i lt here below = λ j d less.
    below_more (λ (k : ℕ). (d : WalkTarget) → IsTrue (admits (get_or targets k d).limit (label_of labels (get_or targets k d).node)) → IsTrue (has nodes (get_or targets k d).node)) i (λ k few d. below k d few)
    (λ d. subst (λ (t : WalkTarget). IsTrue (admits t.limit (label_of labels t.node)) → IsTrue (has nodes t.node)) (get_or_default targets i no_target d lt) here) j less d

-- only targets that are asked for are among the nodes
abbrev HasOnly : (labels : List ℕ) (targets : List WalkTarget) (nodes : List ℕ) → Type 0
HasOnly labels targets nodes = (v : ℕ) → IsTrue (has nodes v) → (t : WalkTarget) × IsTarget targets t × IsTrue (admits t.limit (label_of labels t.node)) × (t.node ≡ v)

only_more : (labels : List ℕ) (targets : List WalkTarget) (nodes : List ℕ) (i : ℕ) → i < length targets → IsTrue (admits (get_or targets i no_target).limit (label_of labels (get_or targets i no_target).node))
    → HasOnly labels targets nodes → HasOnly labels targets (nodes ++ (get_or targets i no_target).node ∷ [])
only_more labels targets nodes i lt asked only = λ v h. elim (has_append_cases nodes ((get_or targets i no_target).node ∷ []) v h) [
  | inl old ↦ only v old
  | inr new ↦ elim (has_cons (get_or targets i no_target).node v [] new) [
    | inl same ↦ (get_or targets i no_target, (i, lt, refl), asked, same)
    | inr none ↦ absurd cc
  ]
]

told : (limit : Limit) (at label wide : ℕ) (answer : Bool) → label ≡ at → wide ≡ label → answer ≡ admits limit wide → admits limit at ≡ answer
told limit at label wide answer is same by = ap (admits limit) (sym (same ∙ is)) ∙ sym by

known_at : (costs : Option Costs) (targets : List WalkTarget) (i : ℕ) → IfSome costs (λ c. All (λ t. t.node < length c.labels) targets) → i < length targets → IfSome costs (λ c. (get_or targets i no_target).node < length c.labels)
known_at None targets i known lt = tt
known_at (Some c) targets i known lt = known i no_target lt

pub label_in-label-requires : goal.label_in-label-requires
label_in-label-requires c = known_at c.args.costs.now c.args.targets.now c.loop-target.target-index c.requires c.loop-target-test.true

pub loop-target-preserved-then-not-admits : goal.loop-target-preserved-then-not-admits
loop-target-preserved-then-not-admits c =
    let t : WalkTarget = get_or c.args.targets.now c.loop-target.target-index no_target in
    let labels : List ℕ = labels_in c.args.costs.now in
    let out : admits t.limit (label_of labels t.node) ≡ false = told t.limit (label_of labels t.node) c.label_in-label.result c.from.result c.admits.result c.label_in-label.ensures c.from.ensures c.admits.ensures ∙ c.if-not-admits.true in
    record {
      each = asked_more labels c.args.targets.now c.loop-target.nodes.items c.loop-target.target-index c.loop-target-test.true (λ h. absurd {0} (both_ways (admits t.limit (label_of labels t.node)) out h)) c.loop-target.invariant.each;
      only = c.loop-target.invariant.only;
    }

pub loop-target-preserved : goal.loop-target-preserved
loop-target-preserved c =
    let t : WalkTarget = get_or c.args.targets.now c.loop-target.target-index no_target in
    let labels : List ℕ = labels_in c.args.costs.now in
    let nodes : List ℕ = c.loop-target.nodes.items in
    let asked : admits t.limit (label_of labels t.node) ≡ true = told t.limit (label_of labels t.node) c.label_in-label.result c.from.result c.admits.result c.label_in-label.ensures c.from.ensures c.admits.ensures ∙ c.if-not-admits.false in
    record {
      each = subst (λ (ns : List ℕ). HasAsked labels c.args.targets.now ns (c.loop-target.target-index + 1)) (sym c.in_ok-push.ensures.items)
          (asked_more labels c.args.targets.now (nodes ++ t.node ∷ []) c.loop-target.target-index c.loop-target-test.true (λ h. has_append_right nodes (t.node ∷ []) t.node (has_here t.node []))
          (λ j d less h. has_append_left nodes (t.node ∷ []) (get_or c.args.targets.now j d).node (c.loop-target.invariant.each j d less h)));
      only = subst (λ (ns : List ℕ). HasOnly labels c.args.targets.now ns) (sym c.in_ok-push.ensures.items) (only_more labels c.args.targets.now nodes c.loop-target.target-index c.loop-target-test.true asked c.loop-target.invariant.only);
    }

pub returns : goal.returns
returns c = record {
  each = λ k d lt. c.loop-target.invariant.each k d (let past = c.loop-target-test.false in omega (arith, lt, past));
  only = c.loop-target.invariant.only;
}
