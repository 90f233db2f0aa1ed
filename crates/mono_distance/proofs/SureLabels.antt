-- What is kept of the labels along the surely present edges decides each predicate.
use Rattle.std.proofs.Common.{◌≡◌, ℕ, ◌<◌, ◌≤◌, Bool, true, false, List, length, sym, ap, subst, ◌∙◌, inl, inr, arith, pos, int_lt}
use Rattle.std.specs.Prelude.{IsTrue}
use Rattle.std.proofs.lemmas.Bool.{cases_Bool, both_ways, and_from, and_parts}
use Rattle.mono_graph.specs.declared.limit.Limit.{Limit}
use Rattle.mono_graph.specs.Digraph.{Digraph}
use Rattle.mono_graph.specs.Walks.{admits, is_walk, is_light, bound_of, cost_along}
use Rattle.mono_graph.proofs.Limits.{low_enough, of_light, under_cap}
use Rattle.mono_graph.proofs.Subparts.{is_walk-larger}
use Rattle.mono_dynamic.specs.Costs.{AreLeast}
use Rattle.mono_dynamic.specs.LeastRows.{no_costs, costs_at, measure_of}
use Rattle.mono_dynamic.specs.RowsAlong.{IsLeastRow}
use Rattle.mono_dynamic.proofs.Lightest.{same_cost}
use Rattle.mono_dynamic.proofs.RowsAlong.{least_fits, least_now, least_row_same, light_by}
use Rattle.mono_problem.specs.declared.atom.Predicate.{Predicate}
use Rattle.mono_problem.specs.Holds.{Holds}
use Rattle.mono_problem.specs.Quiet.{under}
use Rattle.mono_theory.specs.Asked.{source_at}
use Rattle.mono_theory.specs.Evidences.{Decides}
use Rattle.mono_theory.specs.Supports.{atom_at}
use Rattle.mono_theory.specs.SureParts.{sure_parts}
use Rattle.mono_theory.specs.SureRows.{row_of_atom}
use Rattle.mono_theory.specs.Theories.{Facts, cut_to}
use Rattle.mono_theory.proofs.AskedRows.{holds_walk, walk_holds}
use Rattle.mono_theory.proofs.SureEdges.{sure_within}
use Rattle.mono_theory.proofs.SureRowsStay.{row_held, sure_in}
use Rattle.mono_distance.specs.Distances.{is_distance}
use Rattle.mono_distance.specs.SureLabels.{SureLabels, AreLabelsAfter, AreSureLabels, first_node, last_node, limit_of, under_label}
use Rattle.mono_distance.proofs.DistanceEvidence.{distance_asks}

-- what is right where only the first n literals were seen says how labels are after them
pub labels_uncut : {f : Facts} {s : SureLabels} (n : ℕ) → n ≤ length f.seen → AreSureLabels s (cut_to n f) → AreLabelsAfter f n s
labels_uncut {f = f} n le h = sure_in least_row_same f n le h

-- ---- the row of an atom

own_row : {f : Facts} {s : SureLabels} {n : ℕ} (a : ℕ) → a < length f.atoms → (h : AreLabelsAfter f n s) → IsLeastRow f.graph (sure_parts f) n (source_at h.sources (row_of_atom s a)) (costs_at s.rows (row_of_atom s a))
own_row {s = s} a lt h = h.rows (row_of_atom s a) no_costs (row_held a lt h)

-- it measures what the predicate does, and has labels beyond the bound
pub own_alike : {f : Facts} {s : SureLabels} {n : ℕ} (a : ℕ) → a < length f.atoms → AreLabelsAfter f n s → measure_of (costs_at s.rows (row_of_atom s a)).limit ≡ measure_of (limit_of (atom_at f.atoms a).predicate)
own_alike a lt h = ap measure_of (own_row a lt h).limit ∙ (h.served.each a lt).1.alike

pub own_beyond : {f : Facts} {s : SureLabels} {n : ℕ} (a : ℕ) → a < length f.atoms → AreLabelsAfter f n s → int_lt (bound_of (limit_of (atom_at f.atoms a).predicate)) (pos (costs_at s.rows (row_of_atom s a)).cap) ≡ true
own_beyond {f = f} a lt h = ap (λ (c : ℕ). int_lt (bound_of (limit_of (atom_at f.atoms a).predicate)) (pos c)) (own_row a lt h).cap ∙ (h.served.each a lt).1.beyond

pub node_held : {f : Facts} {s : SureLabels} {n : ℕ} (a v : ℕ) → a < length f.atoms → v < f.graph.nodes → AreLabelsAfter f n s → v < length (costs_at s.rows (row_of_atom s a)).labels
node_held {f = f} {s = s} {n = n} a v lt inside h =
    let size = (least_fits f.graph (sure_parts f) n (source_at h.sources (row_of_atom s a)) (costs_at s.rows (row_of_atom s a)) (own_row a lt h)).1 in
    omega (arith, size, inside)

-- ---- labels and bounds

-- it shows the predicate
holds_of : (g : Digraph) (P : List Bool) (q : Predicate) (l : Limit) (ks : List ℕ) → IsTrue (is_distance q) → measure_of l ≡ measure_of (limit_of q) → IsTrue (is_walk g P (first_node q) (last_node q) ks) → IsTrue (admits (limit_of q) (cost_along l g ks)) → Holds g P q
holds_of g P q l ks d alike w low = walk_holds g P q (distance_asks q d) (ks, and_from (is_walk g P (first_node q) (last_node q) ks) (is_light (limit_of q) g ks) w (light_by l (limit_of q) g ks alike low))

pub of_holds : (g : Digraph) (P : List Bool) (q : Predicate) (l : Limit) → IsTrue (is_distance q) → measure_of l ≡ measure_of (limit_of q) → Holds g P q → (ks : List ℕ) × IsTrue (is_walk g P (first_node q) (last_node q) ks) × IsTrue (admits (limit_of q) (cost_along l g ks))
of_holds g P q l d alike h =
    let w = holds_walk g P q (distance_asks q d) h in
    let p = and_parts (is_walk g P (first_node q) (last_node q) w.0) (is_light (limit_of q) g w.0) w.1 in
    (w.0, p.0, subst (λ (n : ℕ). IsTrue (admits (limit_of q) n)) (sym (same_cost l (limit_of q) g w.0 alike)) (of_light (limit_of q) g w.0 p.1))

-- ---- what labels tell

-- the least costs from the atom's first node
pub own_least : {f : Facts} {s : SureLabels} {n : ℕ} (a : ℕ) → a < length f.atoms → AreLabelsAfter f n s
    → AreLeast f.graph (sure_parts f n) (costs_at s.rows (row_of_atom s a)).limit (first_node (atom_at f.atoms a).predicate) (costs_at s.rows (row_of_atom s a)).cap (costs_at s.rows (row_of_atom s a)).labels
own_least {f = f} {s = s} {n = n} a lt h =
    let row = costs_at s.rows (row_of_atom s a) in
    subst (λ (u : ℕ). AreLeast f.graph (sure_parts f n) row.limit u row.cap row.labels) (h.served.each a lt).1.node (least_now f.graph (sure_parts f) n (source_at h.sources (row_of_atom s a)).node row (own_row a lt h).along)

pub within_holds : {f : Facts} {s : SureLabels} {n : ℕ} (a : ℕ) → a < length f.atoms → IsTrue (is_distance (atom_at f.atoms a).predicate) → last_node (atom_at f.atoms a).predicate < f.graph.nodes → AreLabelsAfter f n s
    → IsTrue (admits (limit_of (atom_at f.atoms a).predicate) (under_label s a (last_node (atom_at f.atoms a).predicate))) → Holds f.graph (sure_parts f n) (atom_at f.atoms a).predicate
within_holds {f = f} {s = s} {n = n} a lt kind-it inside h low =
    let q = (atom_at f.atoms a).predicate in
    let row = costs_at s.rows (row_of_atom s a) in
    let w = (own_least a lt h).attained.walk (last_node q) inside (under_cap (under_label s a (last_node q)) row.cap (bound_of (limit_of q)) low (own_beyond a lt h)) in
    holds_of f.graph (sure_parts f n) q row.limit w.0 kind-it (own_alike a lt h) w.1 (subst (λ (k : ℕ). IsTrue (admits (limit_of q) k)) (sym w.2) low)

pub beyond_fails : {f : Facts} {s : SureLabels} {n : ℕ} (a : ℕ) → a < length f.atoms → IsTrue (is_distance (atom_at f.atoms a).predicate) → AreLabelsAfter f n s
    → admits (limit_of (atom_at f.atoms a).predicate) (under_label s a (last_node (atom_at f.atoms a).predicate)) ≡ false → ¬ Holds f.graph (sure_parts f n) (atom_at f.atoms a).predicate
beyond_fails {f = f} {s = s} {n = n} a lt kind-it h none holds =
    let q = (atom_at f.atoms a).predicate in
    let row = costs_at s.rows (row_of_atom s a) in
    let w = of_holds f.graph (sure_parts f n) q row.limit kind-it (own_alike a lt h) holds in
    let least = (own_least a lt h).least (last_node q) w.0 w.1 in
    both_ways (admits (limit_of q) (under_label s a (last_node q))) none (low_enough (under_label s a (last_node q)) (cost_along row.limit f.graph w.0) (bound_of (limit_of q)) least w.2)

-- the label of the last node decides
pub label_decides : {f : Facts} {s : SureLabels} {n : ℕ} (a : ℕ) → a < length f.atoms → IsTrue (is_distance (atom_at f.atoms a).predicate) → last_node (atom_at f.atoms a).predicate < f.graph.nodes → AreLabelsAfter f n s
    → Decides f.graph (sure_parts f n) (atom_at f.atoms a).predicate (admits (limit_of (atom_at f.atoms a).predicate) (under_label s a (last_node (atom_at f.atoms a).predicate)))
label_decides {f = f} {s = s} {n = n} a lt kind-it inside h =
    let q = (atom_at f.atoms a).predicate in
    let low = admits (limit_of q) (under_label s a (last_node q)) in
    elim (cases_Bool low) [
      | inl small ↦ subst (Decides f.graph (sure_parts f n) q) (sym small) (within_holds a lt kind-it inside h small)
      | inr high ↦ subst (Decides f.graph (sure_parts f n) q) (sym high) (beyond_fails a lt kind-it h high)
    ]

-- a walk to a node with a label below the cap costs that under all later literals too
pub label_walk : {f : Facts} {s : SureLabels} {n : ℕ} (a v : ℕ) → a < length f.atoms → v < f.graph.nodes → n ≤ length f.seen → AreLabelsAfter f n s → under_label s a v < (costs_at s.rows (row_of_atom s a)).cap
    → (ks : List ℕ) × IsTrue (is_walk f.graph (under f.graph f.seen) (first_node (atom_at f.atoms a).predicate) v ks) × (cost_along (costs_at s.rows (row_of_atom s a)).limit f.graph ks ≡ under_label s a v)
label_walk {f = f} {s = s} {n = n} a v lt inside fits h low =
    let q = (atom_at f.atoms a).predicate in
    let w = (own_least a lt h).attained.walk v inside low in
    (w.0, is_walk-larger f.graph (sure_parts f n) (under f.graph f.seen) (sure_within f n fits) (first_node q) v w.0 w.1, w.2)
