-- A witness that passes over a part shows whether its predicate holds there, and over which other parts it passes.
use Rattle.std.proofs.Common.{◌≡◌, ℕ, Bool, false, List, int_le, length, refl, arith, inl, inr}
use Rattle.std.specs.Prelude.{IsTrue}
use Rattle.std.proofs.lemmas.Bool.{and_parts, and_from, cases_Bool, both_ways, false_from_ne_true}
use Rattle.mono_graph.specs.Digraph.{Digraph, IsGraph, IsSubpart}
use Rattle.mono_graph.specs.declared.limit.Limit.TheVariants as limit
use Rattle.mono_graph.specs.Walks.{is_walk, is_light}
use Rattle.mono_graph.specs.Flows.{is_flow, value_of, amount_at}
use Rattle.mono_graph.proofs.Membership.{same_truth}
use Rattle.mono_graph.proofs.Places.{present_below}
use Rattle.mono_graph.proofs.Parts.{in_part_by, part_by-has}
use Rattle.mono_graph.proofs.Subparts.{is_path-larger, is_flow_of-larger, is_tree-larger, is_cut-smaller, is_labelling-smaller, is_flow_cut-smaller, is_split-smaller, is_least-smaller}
use Rattle.mono_graph.proofs.CutsBoundWalks.{cut_excludes, labelling_excludes}
use Rattle.mono_graph.proofs.CutsBoundFlows.{flow_cut_excludes}
use Rattle.mono_graph.proofs.UncrossedSets.{split_excludes}
use Rattle.mono_graph.proofs.LeastTrees.{least_excludes}
use Rattle.mono_graph.proofs.RisingRanks.{cycle_cyclic, order_acyclic, is_cycle-larger, is_order-smaller}
use Rattle.mono_problem.specs.declared.atom.Predicate.{Predicate}
use Rattle.mono_problem.specs.declared.atom.Predicate.TheVariants as kind
use Rattle.mono_problem.specs.WellFormed.{IsOver}
use Rattle.mono_problem.specs.Holds.{Holds}
use Rattle.mono_steps.specs.declared.lemma.Witness.{Witness}
use Rattle.mono_steps.specs.declared.lemma.Witness.TheVariants as by
use Rattle.mono_steps.specs.Witnesses.{serves, passes, easiest_part, is_positive, rests_on_present, placed, placed_amounts}

pub positive_holds : (g : Digraph) (P : List Bool) (q : Predicate) (w : Witness) → IsTrue (is_positive w) → IsTrue (passes g P q w) → Holds g P q
positive_holds g P (kind.Reach u v) (by.Path es) i h = (placed g es, h)
positive_holds g P (kind.Steps u v most) (by.Path es) i h = (placed g es, h)
positive_holds g P (kind.Distance u v most) (by.Path es) i h = (placed g es, h)
positive_holds g P (kind.Flow s t least) (by.Flow ms) i h =
    let f : ℕ → ℕ = amount_at (placed_amounts g ms) in
    let a = and_parts _ (int_le least (value_of g s f)) h in
    let b = and_parts _ (is_flow g P s t f) a.0 in
    (f, and_from (is_flow g P s t f) (int_le least (value_of g s f)) b.1 a.1)
positive_holds g P (kind.Tree most) (by.Tree es) i h = (placed g es, h)
positive_holds g P kind.Acyclic (by.Order us) i h = order_acyclic g P us h
positive_holds g P q w i h = absurd cc

pub negative_excludes : (g : Digraph) (P : List Bool) (q : Predicate) (w : Witness) → IsGraph g → IsOver g q → length P ≡ length g.edges
    → is_positive w ≡ false → IsTrue (passes g P q w) → Holds g P q → ⊥
negative_excludes g P (kind.Reach u v) (by.Cut us) ok over fits i h (walk, is-path) =
    cut_excludes g P u v us walk h (and_parts (is_walk g P u v walk) (is_light limit.Free g walk) is-path).0
negative_excludes g P (kind.Steps u v most) (by.Label ls) ok over fits i h (walk, is-path) =
    labelling_excludes g P u v (limit.Steps most) ls walk (λ e. cc) h is-path
negative_excludes g P (kind.Distance u v most) (by.Label ls) ok over fits i h (walk, is-path) =
    labelling_excludes g P u v (limit.Weight most) ls walk (λ e. cc) h is-path
negative_excludes g P (kind.Flow s t least) (by.FlowCut us) ok over fits i h (f, is-flow) = flow_cut_excludes g P s t least f us ok.ends over.0 h is-flow
negative_excludes g P (kind.Tree most) (by.Split us) ok over fits i h (ks, is-tree) = split_excludes g P most us ks h is-tree
negative_excludes g P (kind.Tree most) (by.Least es) ok over fits i h (ks, is-tree) = least_excludes g P most (placed g es) ks h is-tree
negative_excludes g P kind.Acyclic (by.Cycle es) ok over fits i h acyclic = cycle_cyclic g P (placed g es) h acyclic
negative_excludes g P q w ok over fits i h holds = absurd cc

pub passing_serves : (g : Digraph) (P : List Bool) (q : Predicate) (w : Witness) → IsTrue (passes g P q w) → IsTrue (serves w q)
passing_serves g P (kind.Reach u v) (by.Path es) h = refl
passing_serves g P (kind.Steps u v most) (by.Path es) h = refl
passing_serves g P (kind.Distance u v most) (by.Path es) h = refl
passing_serves g P (kind.Reach u v) (by.Cut us) h = refl
passing_serves g P (kind.Steps u v most) (by.Label ls) h = refl
passing_serves g P (kind.Distance u v most) (by.Label ls) h = refl
passing_serves g P (kind.Flow s t least) (by.Flow ms) h = refl
passing_serves g P (kind.Flow s t least) (by.FlowCut us) h = refl
passing_serves g P (kind.Tree most) (by.Tree es) h = refl
passing_serves g P (kind.Tree most) (by.Split us) h = refl
passing_serves g P (kind.Tree most) (by.Least es) h = refl
passing_serves g P kind.Acyclic (by.Cycle es) h = refl
passing_serves g P kind.Acyclic (by.Order us) h = refl
passing_serves g P q w h = absurd cc

-- ---- from part to part

pub passes-larger : (g : Digraph) (P Q : List Bool) (q : Predicate) (w : Witness) → IsSubpart P Q → IsTrue (rests_on_present w) → IsTrue (passes g P q w) → IsTrue (passes g Q q w)
passes-larger g P Q (kind.Reach u v) (by.Path es) sub i h = is_path-larger g P Q sub u v limit.Free (placed g es) h
passes-larger g P Q (kind.Steps u v most) (by.Path es) sub i h = is_path-larger g P Q sub u v (limit.Steps most) (placed g es) h
passes-larger g P Q (kind.Distance u v most) (by.Path es) sub i h = is_path-larger g P Q sub u v (limit.Weight most) (placed g es) h
passes-larger g P Q (kind.Flow s t least) (by.Flow ms) sub i h = is_flow_of-larger g P Q sub s t least (placed_amounts g ms) h
passes-larger g P Q (kind.Tree most) (by.Tree es) sub i h = is_tree-larger g P Q sub most (placed g es) h
passes-larger g P Q kind.Acyclic (by.Cycle es) sub i h = is_cycle-larger g P Q sub (placed g es) h
passes-larger g P Q q w sub i h = absurd cc

pub passes-smaller : (g : Digraph) (P Q : List Bool) (q : Predicate) (w : Witness) → IsSubpart P Q → rests_on_present w ≡ false → IsTrue (passes g Q q w) → IsTrue (passes g P q w)
passes-smaller g P Q (kind.Reach u v) (by.Cut us) sub i h = is_cut-smaller g P Q sub u v us h
passes-smaller g P Q (kind.Steps u v most) (by.Label ls) sub i h = is_labelling-smaller g P Q sub u v (limit.Steps most) ls h
passes-smaller g P Q (kind.Distance u v most) (by.Label ls) sub i h = is_labelling-smaller g P Q sub u v (limit.Weight most) ls h
passes-smaller g P Q (kind.Flow s t least) (by.FlowCut us) sub i h = is_flow_cut-smaller g P Q sub s t least us h
passes-smaller g P Q (kind.Tree most) (by.Split us) sub i h = is_split-smaller g P Q sub us h
passes-smaller g P Q (kind.Tree most) (by.Least es) sub i h = is_least-smaller g P Q sub most (placed g es) h
passes-smaller g P Q kind.Acyclic (by.Order us) sub i h = is_order-smaller g P Q sub us h
passes-smaller g P Q q w sub i h = absurd cc

pub passes-same : (g : Digraph) (P Q : List Bool) (q : Predicate) (w : Witness) → IsSubpart P Q → IsSubpart Q P → passes g P q w ≡ passes g Q q w
passes-same g P Q q w there back = elim (cases_Bool (rests_on_present w)) [
  | inl i ↦ same_truth (passes g P q w) (passes g Q q w) (passes-larger g P Q q w there i) (passes-larger g Q P q w back i)
  | inr i ↦ same_truth (passes g P q w) (passes g Q q w) (passes-smaller g Q P q w back i) (passes-smaller g P Q q w there i)
]

-- what passes over some part passes over the easiest one
pub passes_over_easiest : (g : Digraph) (P : List Bool) (q : Predicate) (w : Witness) → length P ≡ length g.edges → IsTrue (passes g P q w) → IsTrue (passes g (easiest_part g w) q w)
passes_over_easiest g P q w fits h = elim (cases_Bool (rests_on_present w)) [
  | inl i ↦ passes-larger g P (easiest_part g w) q w (record { keeps = λ k here. let lt = present_below P k here in part_by-has (λ e. rests_on_present w) g k (omega (arith, fits, lt)) i }) i h
  | inr i ↦ passes-smaller g (easiest_part g w) P q w (record { keeps = λ k here. absurd (both_ways (rests_on_present w) i (in_part_by (λ e. rests_on_present w) g k here)) }) i h
]

pub fails_everywhere : (g : Digraph) (P : List Bool) (q : Predicate) (w : Witness) → length P ≡ length g.edges → passes g (easiest_part g w) q w ≡ false → passes g P q w ≡ false
fails_everywhere g P q w fits off = false_from_ne_true (passes g P q w) (λ on. both_ways (passes g (easiest_part g w) q w) off (passes_over_easiest g P q w fits on))
