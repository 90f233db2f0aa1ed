-- Rows along the surely present edges stay right, and show exactly the walks that there are.
use Rattle.std.proofs.Common.{◌≡◌, ℕ, ◌+◌, ◌<◌, ◌≤◌, Bool, true, false, List, [], ◌∷◌, length, map, take, get_or, sym, ap, subst, ◌∙◌, inl, inr, arith, ℤ, pos, int_lt, take-take, All}
use Rattle.std.specs.Prelude.{IsTrue, ◌↔◌, slice_index}
use Rattle.std.specs.List.{AllZip}
use Rattle.std.proofs.lemmas.Bool.{both_ways, cases_Bool}
use Rattle.std.proofs.lemmas.List.{get_or-map, length-map, length-take-le}
use Rattle.std.proofs.lemmas.List.Elements.{length_all_zip, AllZip-get_or}
use Rattle.mono_graph.specs.Digraph.{Digraph, has, present}
use Rattle.mono_graph.specs.declared.limit.Limit.{Limit}
use Rattle.mono_graph.specs.Walks.{bound_of, is_path}
use Rattle.mono_graph.proofs.Subparts.{is_path-larger}
use Rattle.mono_dynamic.specs.declared.cost_source.CostSource.{CostSource}
use Rattle.mono_dynamic.specs.declared.walk_target.WalkTarget.{WalkTarget}
use Rattle.mono_dynamic.specs.Arrivals.{GrowsAfter}
use Rattle.mono_dynamic.specs.LeastRows.{measure_of, IsCostSource}
use Rattle.mono_dynamic.specs.RowsAlong.{IsMeasured}
use Rattle.mono_dynamic.specs.Ways.{no_target}
use Rattle.mono_problem.specs.declared.atom.Predicate.{Predicate}
use Rattle.mono_problem.specs.Quiet.{under}
use Rattle.mono_problem.specs.Read.{no_atom}
use Rattle.mono_theory.specs.Asked.{first_node, last_node, limit_of, no_source, source_at, AreOfAtoms, HasTarget, HaveRows}
use Rattle.mono_theory.specs.DueAtoms.{PutsDue}
use Rattle.mono_theory.specs.Evidences.{Decides, shown_by}
use Rattle.mono_theory.specs.PossibleRows.{target_at}
use Rattle.mono_theory.specs.RowSides.{DecidesRest}
use Rattle.mono_theory.specs.Supports.{AreCovered, atom_at}
use Rattle.mono_theory.specs.SureParts.{sure_parts}
use Rattle.mono_theory.specs.SureRows.{nodes_of, row_of_atom, shows_walk, AreSureRows, HaveLooked, SureRowsView}
use Rattle.mono_theory.specs.Theories.{Facts, cut_to}
use Rattle.mono_theory.proofs.AskedRows.{holds_walk, walk_holds, walk_rises}
use Rattle.mono_bounds.proofs.DueNodes.{none_new}
use Rattle.mono_theory.proofs.DueStay.{due_none}
use Rattle.mono_theory.proofs.KeptEvidenceDecides.{shown_rising}
use Rattle.mono_theory.proofs.SureEdges.{none_sure, still_until, sure_larger}

-- ---- they stay right

sure_like : {R : Type 0} {covers : Predicate → Bool} {along : Digraph → (ℕ → List Bool) → ℕ → CostSource → R → Type 0} → ((g : Digraph) (parts others : ℕ → List Bool) (n : ℕ) (s : CostSource) (r : R) → ((m : ℕ) → m ≤ n → others m ≡ parts m) → along g parts n s r → along g others n s r)
    → {f : Facts} {s : SureRowsView R} (n : ℕ) (t : List ℤ) → ((m : ℕ) → m ≤ n → take m t ≡ take m f.seen) → AreSureRows covers along f n s → AreSureRows covers along (record { graph = f.graph; atoms = f.atoms; seen = t }) n s
sure_like same {f = f} {s = s} n t is h = record {
  covered = h.covered;
  sources = h.sources;
  as_many = h.as_many;
  rows = λ i d lt. same f.graph (sure_parts f) (λ m. under f.graph (take m t)) n (source_at h.sources i) (get_or s.rows i d) (λ m le. ap (under f.graph) (is m le)) (h.rows i d lt);
  served = h.served;
  targets = h.targets;
  known = h.known;
}

-- what is right for the list that was cut is right for its first literals, and the other way about
pub sure_in : {R : Type 0} {covers : Predicate → Bool} {along : Digraph → (ℕ → List Bool) → ℕ → CostSource → R → Type 0} → ((g : Digraph) (parts others : ℕ → List Bool) (n : ℕ) (s : CostSource) (r : R) → ((m : ℕ) → m ≤ n → others m ≡ parts m) → along g parts n s r → along g others n s r)
    → (f : Facts) {s : SureRowsView R} (n : ℕ) → n ≤ length f.seen → AreSureRows covers along (cut_to n f) (length (take n f.seen)) s → AreSureRows covers along f n s
sure_in {covers = covers} {along = along} same f {s = s} n le h =
    sure_like same {f = cut_to n f} n f.seen (λ m low. sym (take-take m n f.seen low)) (subst (λ (k : ℕ). AreSureRows covers along (cut_to n f) k s) (length-take-le n f.seen le) h)

pub sure_cut : {R : Type 0} {covers : Predicate → Bool} {along : Digraph → (ℕ → List Bool) → ℕ → CostSource → R → Type 0} → ((g : Digraph) (parts others : ℕ → List Bool) (n : ℕ) (s : CostSource) (r : R) → ((m : ℕ) → m ≤ n → others m ≡ parts m) → along g parts n s r → along g others n s r)
    → (f : Facts) {s : SureRowsView R} (n : ℕ) → n ≤ length f.seen → AreSureRows covers along f n s → AreSureRows covers along (cut_to n f) (length (take n f.seen)) s
sure_cut {covers = covers} {along = along} same f {s = s} n le h =
    subst (λ (k : ℕ). AreSureRows covers along (cut_to n f) k s) (sym (length-take-le n f.seen le)) (sure_like same {f = f} n (take n f.seen) (λ m low. take-take m n f.seen low) h)

-- rows that changed one by one, while all else stayed
rows_changed : {R : Type 0} {covers : Predicate → Bool} {along : Digraph → (ℕ → List Bool) → ℕ → CostSource → R → Type 0} {Is : R → R → Type 0} {f : Facts} {s : SureRowsView R} (r : SureRowsView R) (n m : ℕ)
    → ((x : CostSource) (old new : R) → Is old new → along f.graph (sure_parts f) n x old → along f.graph (sure_parts f) m x new) → AllZip Is s.rows r.rows → r ≡ record { rows = r.rows; row_of = s.row_of; targets = s.targets }
    → AreSureRows covers along f n s → AreSureRows covers along f m r
rows_changed {covers = covers} {along = along} {Is = Is} {f = f} {s = s} r n m change all is h =
    let len : length s.rows ≡ length r.rows = length_all_zip Is s.rows r.rows all in
    subst (AreSureRows covers along f m) (sym is) (record {
      covered = h.covered;
      sources = h.sources;
      as_many = h.as_many ∙ len;
      rows = λ i d lt. (let old : i < length s.rows = omega (arith, lt, len) in change (source_at h.sources i) (get_or s.rows i d) (get_or r.rows i d) (AllZip-get_or Is s.rows r.rows i d d all old) (h.rows i d old));
      served = h.served;
      targets = h.targets;
      known = h.known;
    })

pub sure_back : {R : Type 0} {covers : Predicate → Bool} {along : Digraph → (ℕ → List Bool) → ℕ → CostSource → R → Type 0} {Undone : ℕ → R → R → Type 0}
    → ((g : Digraph) (parts : ℕ → List Bool) (n kept : ℕ) (s : CostSource) (old new : R) → Undone kept old new → kept ≤ n → along g parts n s old → along g parts kept s new)
    → {f : Facts} {s : SureRowsView R} (r : SureRowsView R) (n kept : ℕ) → kept ≤ n → AllZip (Undone kept) s.rows r.rows → r ≡ record { rows = r.rows; row_of = s.row_of; targets = s.targets } → AreSureRows covers along f n s → AreSureRows covers along f kept r
sure_back {Undone = Undone} goes_back {f = f} r n kept le all is h =
    rows_changed {Is = Undone kept} r n kept (λ x old new back right. goes_back f.graph (sure_parts f) n kept x old new back le right) all is h

-- what is kept of the next literal
pub sure_looked : {R : Type 0} {covers : Predicate → Bool} {along : Digraph → (ℕ → List Bool) → ℕ → CostSource → R → Type 0} {Grown : Digraph → List Bool → List ℕ → ℕ → R → R → Type 0} {changed : ℕ → R → List ℕ}
    → ((g : Digraph) (parts : ℕ → List Bool) (Q : List Bool) (ks : List ℕ) (n : ℕ) (s : CostSource) (old new : R) → Grown g Q ks n old new → GrowsAfter parts n (n + 1) Q ks → along g parts n s old → along g parts (n + 1) s new)
    → ((g : Digraph) (parts : ℕ → List Bool) (n last : ℕ) (s : CostSource) (r : R) → n ≤ last → ((m : ℕ) → n ≤ m → m ≤ last → parts m ≡ parts n) → along g parts n s r → along g parts last s r)
    → {f : Facts} {s r : SureRowsView R} {before later : List Bool} (n : ℕ) → HaveLooked Grown changed f n s r before later → AreSureRows covers along f n s → AreSureRows covers along f (n + 1) r
sure_looked {covers = covers} {along = along} grows still {f = f} {s = s} n (inl stays) h =
    subst (AreSureRows covers along f (n + 1)) (sym stays.rows) (record {
      covered = h.covered;
      sources = h.sources;
      as_many = h.as_many;
      rows = λ i d lt. still f.graph (sure_parts f) n (n + 1) (source_at h.sources i) (get_or s.rows i d) (omega arith) (still_until f n stays.parts) (h.rows i d lt);
      served = h.served;
      targets = h.targets;
      known = h.known;
    })
sure_looked {Grown = Grown} grows still {f = f} {r = r} n (inr more) h =
    rows_changed {Is = Grown f.graph more.part more.places n} r n (n + 1) (λ x old new grown right. grows f.graph (sure_parts f) more.part more.places n x old new grown more.grows right) more.grown more.same h

pub rows_fit : {R : Type 0} {covers : Predicate → Bool} {along : Digraph → (ℕ → List Bool) → ℕ → CostSource → R → Type 0} (fits : ℕ → ℕ → R → Type 0) {size : R → ℕ}
    → ((g : Digraph) (parts : ℕ → List Bool) (n : ℕ) (s : CostSource) (r : R) → along g parts n s r → fits g.nodes n r × (size r ≡ g.nodes))
    → {f : Facts} {s : SureRowsView R} (n : ℕ) → AreSureRows covers along f n s → All (fits f.graph.nodes n) s.rows
rows_fit fits is_fit {f = f} {s = s} n h = λ i d lt. (is_fit f.graph (sure_parts f) n (source_at h.sources i) (get_or s.rows i d) (h.rows i d lt)).0

pub sure_start : {R : Type 0} {covers : Predicate → Bool} {along : Digraph → (ℕ → List Bool) → ℕ → CostSource → R → Type 0} (at_first : ℕ → CostSource → R)
    → ((g : Digraph) (parts : ℕ → List Bool) (s : CostSource) → IsCostSource g.nodes s → ((k : ℕ) → present (parts 0) k ≡ false) → along g parts 0 s (at_first g.nodes s))
    → (f : Facts) (sources : List CostSource) (row_of : List ℕ) (targets : List WalkTarget) → AreCovered covers f.atoms → All (IsCostSource f.graph.nodes) sources → HaveRows f.atoms (length f.atoms) row_of sources → AreOfAtoms HasTarget f.atoms (length f.atoms) targets
    → All (λ t. t.node < f.graph.nodes) targets → AreSureRows covers along f 0 (record { rows = map (at_first f.graph.nodes) sources; row_of = row_of; targets = targets })
sure_start {along = along} at_first starts f sources row_of targets covered known served ends inside = record {
  covered = covered;
  sources = sources;
  as_many = sym (length-map sources (at_first f.graph.nodes));
  rows = λ i d lt. (let held : i < length sources = omega (arith, lt, length-map sources (at_first f.graph.nodes)) in
      subst (along f.graph (sure_parts f) 0 (source_at sources i)) (sym (get_or-map (at_first f.graph.nodes) sources i no_source d held)) (starts f.graph (sure_parts f) (source_at sources i) (known i no_source held) (none_sure f)));
  served = served;
  targets = ends;
  known = inside;
}

-- ---- what they show

some_item : {X : Type 0} (xs : List X) (i : ℕ) → i < length xs → X
some_item [] i lt = absurd (omega (arith, lt))
some_item (x ∷ xs) i lt = x

pub row_held : {R : Type 0} {covers : Predicate → Bool} {along : Digraph → (ℕ → List Bool) → ℕ → CostSource → R → Type 0} {f : Facts} {s : SureRowsView R} {n : ℕ} (a : ℕ) → a < length f.atoms → AreSureRows covers along f n s → row_of_atom s a < length s.rows
row_held a lt h = (let held = (h.served.each a lt).0 in let many = h.as_many in omega (arith, held, many))

-- by the row of the atom
pub shows_by : {R : Type 0} (shows : R → WalkTarget → Bool) (s : SureRowsView R) (a : ℕ) (d : R) → row_of_atom s a < length s.rows → shows_walk shows s a ≡ shows (get_or s.rows (row_of_atom s a) d) (target_at s.targets a)
shows_by shows s a d held = get_or-map (λ r. shows r (target_at s.targets a)) s.rows (row_of_atom s a) d false held

pub target_held : {R : Type 0} {covers : Predicate → Bool} {along : Digraph → (ℕ → List Bool) → ℕ → CostSource → R → Type 0} {f : Facts} {s : SureRowsView R} {n : ℕ} (a : ℕ) → a < length f.atoms → AreSureRows covers along f n s → (target_at s.targets a).node < f.graph.nodes
target_held a lt h = h.known a no_target (let len = h.targets.len in omega (arith, lt, len))

-- the atom's walk is measured as its row's source says
pub measured : {R : Type 0} {covers : Predicate → Bool} {along : Digraph → (ℕ → List Bool) → ℕ → CostSource → R → Type 0} {f : Facts} {s : SureRowsView R} {n : ℕ} (a : ℕ) → a < length f.atoms → (h : AreSureRows covers along f n s) → IsMeasured (source_at h.sources (row_of_atom s a)) (target_at s.targets a)
measured {s = s} a lt h =
    let its = (h.served.each a lt).1 in
    let to = (h.targets.each a no_target lt).is in
    record {
      alike = its.alike ∙ sym (ap (λ (t : WalkTarget). measure_of t.limit) to);
      beyond = ap (λ (t : WalkTarget). int_lt (bound_of t.limit) (pos (source_at h.sources (row_of_atom s a)).cap)) to ∙ its.beyond;
    }

pub limit_shown : {R : Type 0} {covers : Predicate → Bool} {along : Digraph → (ℕ → List Bool) → ℕ → CostSource → R → Type 0} (can_show : Limit → Type 0) {f : Facts} {s : SureRowsView R} {n : ℕ} (a : ℕ) → a < length f.atoms → can_show (limit_of (atom_at f.atoms a).predicate) → AreSureRows covers along f n s → can_show (target_at s.targets a).limit
limit_shown can_show a lt can h = subst can_show (sym (ap (λ (t : WalkTarget). t.limit) (h.targets.each a no_target lt).is)) can

-- from the source to the target is as the predicate asks
pub path_asked : {R : Type 0} {covers : Predicate → Bool} {along : Digraph → (ℕ → List Bool) → ℕ → CostSource → R → Type 0} {f : Facts} {s : SureRowsView R} {n : ℕ} (a : ℕ) (P : List Bool) (ks : List ℕ) → a < length f.atoms → (h : AreSureRows covers along f n s)
    → is_path f.graph P (source_at h.sources (row_of_atom s a)).node (target_at s.targets a).node (target_at s.targets a).limit ks ≡ is_path f.graph P (first_node (atom_at f.atoms a).predicate) (last_node (atom_at f.atoms a).predicate) (limit_of (atom_at f.atoms a).predicate) ks
path_asked {f = f} {s = s} a P ks lt h =
    ap (λ (u : ℕ). is_path f.graph P u (target_at s.targets a).node (target_at s.targets a).limit ks) (h.served.each a lt).1.node
    ∙ ap (λ (t : WalkTarget). is_path f.graph P (first_node (atom_at f.atoms a).predicate) t.node t.limit ks) (h.targets.each a no_target lt).is

-- the laws of rows that show walks
pub record ShowExactly {R : Type 0} (along : Digraph → (ℕ → List Bool) → ℕ → CostSource → R → Type 0) (can_show : Limit → Type 0) (shows : R → WalkTarget → Bool) : Type 0 where
  pub exact : (g : Digraph) (parts : ℕ → List Bool) (n : ℕ) (s : CostSource) (r : R) (t : WalkTarget) → IsMeasured s t → can_show t.limit → t.node < g.nodes → along g parts n s r
      → IsTrue (shows r t) ↔ ((ks : List ℕ) × IsTrue (is_path g (parts n) s.node t.node t.limit ks))

-- the walk for which an atom asks is shown exactly where there is one
pub shown_walk : {R : Type 0} {covers : Predicate → Bool} {along : Digraph → (ℕ → List Bool) → ℕ → CostSource → R → Type 0} {can_show : Limit → Type 0} {shows : R → WalkTarget → Bool} → ShowExactly along can_show shows
    → {f : Facts} {s : SureRowsView R} {n : ℕ} (a : ℕ) → a < length f.atoms → can_show (limit_of (atom_at f.atoms a).predicate) → AreSureRows covers along f n s
    → IsTrue (shows_walk shows s a) ↔ ((ks : List ℕ) × IsTrue (is_path f.graph (sure_parts f n) (first_node (atom_at f.atoms a).predicate) (last_node (atom_at f.atoms a).predicate) (limit_of (atom_at f.atoms a).predicate) ks))
shown_walk {can_show = can_show} {shows = shows} law {f = f} {s = s} {n = n} a lt can h =
    let i = row_of_atom s a in
    let held = row_held a lt h in
    let d = some_item s.rows i held in
    let by = shows_by shows s a d held in
    let both = law.exact f.graph (sure_parts f) n (source_at h.sources i) (get_or s.rows i d) (target_at s.targets a) (measured a lt h) (limit_shown can_show a lt can h) (target_held a lt h) (h.rows i d held) in (
      λ on. (let w = both.0 (sym by ∙ on) in (w.0, sym (path_asked a (sure_parts f n) w.0 lt h) ∙ w.1)),
      λ w. by ∙ both.1 (w.0, path_asked a (sure_parts f n) w.0 lt h ∙ w.1),
    )

-- so it is shown whether the predicate holds
pub shown_holds : {R : Type 0} {covers : Predicate → Bool} {along : Digraph → (ℕ → List Bool) → ℕ → CostSource → R → Type 0} {can_show : Limit → Type 0} {shows : R → WalkTarget → Bool} → ShowExactly along can_show shows
    → {f : Facts} {s : SureRowsView R} {n : ℕ} (a : ℕ) → a < length f.atoms → can_show (limit_of (atom_at f.atoms a).predicate) → AreSureRows covers along f n s → Decides f.graph (sure_parts f n) (atom_at f.atoms a).predicate (shows_walk shows s a)
shown_holds {shows = shows} law {f = f} {s = s} {n = n} a lt can h =
    let q = (atom_at f.atoms a).predicate in
    let asks = (h.targets.each a no_target lt).asks in
    let both = shown_walk law a lt can h in
    elim (cases_Bool (shows_walk shows s a)) [
      | inl on ↦ subst (Decides f.graph (sure_parts f n) q) (sym on) (walk_holds f.graph (sure_parts f n) q asks (both.0 on))
      | inr off ↦ subst (Decides f.graph (sure_parts f n) q) (sym off) (λ holds. both_ways (shows_walk shows s a) off (both.1 (holds_walk f.graph (sure_parts f n) q asks holds)))
    ]

pub shown_decides : {R : Type 0} {covers : Predicate → Bool} {along : Digraph → (ℕ → List Bool) → ℕ → CostSource → R → Type 0} {can_show : Limit → Type 0} {shows : R → WalkTarget → Bool} → ShowExactly along can_show shows
    → {f : Facts} {s : SureRowsView R} {n : ℕ} (a : ℕ) (b : Bool) → a < length f.atoms → can_show (limit_of (atom_at f.atoms a).predicate) → shows_walk shows s a ≡ b → AreSureRows covers along f n s
    → Decides f.graph (sure_parts f n) (atom_at f.atoms a).predicate (shown_by (atom_at f.atoms a).predicate b)
shown_decides law {f = f} {n = n} a b lt can is h =
    let q = (atom_at f.atoms a).predicate in
    subst (Decides f.graph (sure_parts f n) q) (is ∙ sym (shown_rising q b (walk_rises q (h.targets.each a no_target lt).asks))) (shown_holds law a lt can h)

-- what rows don't show is decided the other way
pub rest_decided : {R : Type 0} {covers : Predicate → Bool} {along : Digraph → (ℕ → List Bool) → ℕ → CostSource → R → Type 0} {can_show : Limit → Type 0} {shows : R → WalkTarget → Bool} → ShowExactly along can_show shows → ((q : Predicate) → IsTrue (covers q) → can_show (limit_of q))
    → {f : Facts} {s : SureRowsView R} (n : ℕ) → AreSureRows covers along f n s → DecidesRest (cut_to n f) false (shows_walk shows s)
rest_decided law serves n h = record { each = λ a lt off. shown_decides law a false lt (serves _ (h.covered.each a no_atom lt)) off h }

-- what is shown was shown before literals went
pub back_shows : {R : Type 0} {covers : Predicate → Bool} {along : Digraph → (ℕ → List Bool) → ℕ → CostSource → R → Type 0} {can_show : Limit → Type 0} {shows : R → WalkTarget → Bool} → ShowExactly along can_show shows
    → ((q : Predicate) → IsTrue (covers q) → can_show (limit_of q)) → {f : Facts} {s r : SureRowsView R} (n kept a : ℕ) → kept ≤ n → a < length f.atoms → AreSureRows covers along f n s → AreSureRows covers along f kept r → shows_walk shows r a ≡ true → shows_walk shows s a ≡ true
back_shows law serves {f = f} n kept a le lt h k on =
    let q = (atom_at f.atoms a).predicate in
    let can = serves q (h.covered.each a no_atom lt) in
    let w = (shown_walk law a lt can k).0 on in
    (shown_walk law a lt can h).1 (w.0, is_path-larger f.graph (sure_parts f kept) (sure_parts f n) (sure_larger f.graph f.seen kept n le) (first_node q) (last_node q) (limit_of q) w.0 w.1)

-- ---- what is read of a row

-- the row of the atom and its target are of one graph
pub target_fits : {R : Type 0} {covers : Predicate → Bool} {along : Digraph → (ℕ → List Bool) → ℕ → CostSource → R → Type 0} (fits : ℕ → ℕ → R → Type 0) {size : R → ℕ}
    → ((g : Digraph) (parts : ℕ → List Bool) (n : ℕ) (s : CostSource) (r : R) → along g parts n s r → fits g.nodes n r × (size r ≡ g.nodes))
    → {f : Facts} {s : SureRowsView R} {n : ℕ} (a : ℕ) (row : R) (t : WalkTarget) → a < length f.atoms → ((d : R) → row ≡ get_or s.rows (row_of_atom s a) d) → t ≡ target_at s.targets a → AreSureRows covers along f n s → t.node < size row
target_fits {along = along} fits {size = size} is_fit {f = f} {s = s} {n = n} a row t lt own its h =
    let i = row_of_atom s a in
    let right = subst (along f.graph (sure_parts f) n (source_at h.sources i)) (sym (own row)) (h.rows i row (row_held a lt h)) in
    let same : size row ≡ f.graph.nodes = (is_fit f.graph (sure_parts f) n (source_at h.sources i) row right).1 in
    subst (λ (m : ℕ). t.node < m) (sym same) (subst (λ (x : WalkTarget). x.node < f.graph.nodes) (sym its) (target_held a lt h))

-- what it shows of the target is what is shown of the atom
pub shown_is : {R : Type 0} {covers : Predicate → Bool} {along : Digraph → (ℕ → List Bool) → ℕ → CostSource → R → Type 0} (shows : R → WalkTarget → Bool) {f : Facts} {s : SureRowsView R} {n : ℕ} (a : ℕ) (row : R) (t : WalkTarget) → a < length f.atoms
    → ((d : R) → row ≡ get_or s.rows (row_of_atom s a) d) → t ≡ target_at s.targets a → AreSureRows covers along f n s → shows row t ≡ shows_walk shows s a
shown_is shows {s = s} a row t lt own its h =
    ap (shows row) its ∙ (ap (λ r. shows r (target_at s.targets a)) (own row) ∙ sym (shows_by shows s a row (row_held a lt h)))

-- a walk that the row had after some of the literals is as the predicate asks with the edges of more of them
pub kept_walk : {R : Type 0} {covers : Predicate → Bool} {along : Digraph → (ℕ → List Bool) → ℕ → CostSource → R → Type 0} (can_show : Limit → Type 0) {f : Facts} {s : SureRowsView R} {n : ℕ} (a : ℕ) (row : R) (t : WalkTarget) (stamp kept : ℕ) (ks : List ℕ)
    → a < length f.atoms → ((d : R) → row ≡ get_or s.rows (row_of_atom s a) d) → t ≡ target_at s.targets a → stamp ≤ n → stamp ≤ kept → can_show (limit_of (atom_at f.atoms a).predicate)
    → ((g : Digraph) (parts : ℕ → List Bool) (m : ℕ) (x : CostSource) → stamp ≤ m → IsMeasured x t → can_show t.limit → along g parts m x row → IsTrue (is_path g (parts stamp) x.node t.node t.limit ks)) → AreSureRows covers along f n s
    → IsTrue (is_path f.graph (sure_parts f kept) (first_node (atom_at f.atoms a).predicate) (last_node (atom_at f.atoms a).predicate) (limit_of (atom_at f.atoms a).predicate) ks)
kept_walk {along = along} can_show {f = f} {s = s} {n = n} a row t stamp kept ks lt own its low le can walk h =
    let q = (atom_at f.atoms a).predicate in
    let i = row_of_atom s a in
    let x = source_at h.sources i in
    let P = sure_parts f stamp in
    let right = subst (along f.graph (sure_parts f) n x) (sym (own row)) (h.rows i row (row_held a lt h)) in
    let w = walk f.graph (sure_parts f) n x low (subst (IsMeasured x) (sym its) (measured a lt h)) (subst (λ (y : WalkTarget). can_show y.limit) (sym its) (limit_shown can_show a lt can h)) right in
    let there = subst (λ (y : WalkTarget). IsTrue (is_path f.graph P x.node y.node y.limit ks)) its w in
    is_path-larger f.graph P (sure_parts f kept) (sure_larger f.graph f.seen stamp kept le) (first_node q) (last_node q) (limit_of q) ks (sym (path_asked a P ks lt h) ∙ there)

-- ---- what is due

-- an atom is due of which something new is shown
pub looked_due : {R : Type 0} {covers : Predicate → Bool} {along : Digraph → (ℕ → List Bool) → ℕ → CostSource → R → Type 0} (fits : ℕ → ℕ → R → Type 0) {Grown : Digraph → List Bool → List ℕ → ℕ → R → R → Type 0} {changed : ℕ → R → List ℕ} {shows : R → WalkTarget → Bool}
    → ((g : Digraph) (Q : List Bool) (ks : List ℕ) (n : ℕ) (old new : R) (t : WalkTarget) → fits g.nodes n old → Grown g Q ks n old new → has (changed n new) t.node ≡ false → IsTrue (shows new t) → IsTrue (shows old t))
    → {f : Facts} {s r : SureRowsView R} {before later : List Bool} (n : ℕ) → All (fits f.graph.nodes n) s.rows → HaveLooked Grown changed f n s r before later → AreSureRows covers along f n s → PutsDue (length f.atoms) (shows_walk shows s) (shows_walk shows r) before later
looked_due fits {shows = shows} newly {f = f} {s = s} {r = r} {before = before} n fit (inl stays) h =
    subst (λ (due : List Bool). PutsDue (length f.atoms) (shows_walk shows s) (shows_walk shows r) before due) (sym stays.due)
    (subst (λ (m : SureRowsView _). PutsDue (length f.atoms) (shows_walk shows s) (shows_walk shows m) before before) (sym stays.rows) (due_none (length f.atoms) (shows_walk shows s) before))
looked_due {R = R} fits {Grown = Grown} {changed = changed} {shows = shows} newly {f = f} {s = s} {r = r} {before = before} {later = later} n fit (inr more) h = record {
  size = more.due.size;
  stay = more.due.stay;
  newly = λ a lt off on.
      let held = row_held a lt h in
      let i = row_of_atom s a in
      let t = target_at s.targets a in
      let d = some_item s.rows i held in
      let len : length s.rows ≡ length r.rows = length_all_zip (Grown f.graph more.part more.places n) s.rows r.rows more.grown in
      let there : i < length r.rows = omega (arith, held, len) in
      let count : length (nodes_of r.targets) ≡ length f.atoms = length-map r.targets (λ (x : WalkTarget). x.node) ∙ (ap length own_targets ∙ h.targets.len) in
      let none = none_new {nodes = changed n} i a d more.due there (omega (arith, lt, count)) off in
      let node : slice_index (nodes_of r.targets) a ≡ t.node = get_or-map (λ (x : WalkTarget). x.node) r.targets a no_target 0 (let many = h.targets.len in let same = ap length own_targets in omega (arith, lt, many, same)) ∙ ap (λ (xs : List WalkTarget). (target_at xs a).node) own_targets in
      let now : IsTrue (shows (get_or r.rows i d) t) = sym (shows_by shows (record { rows = r.rows; row_of = s.row_of; targets = s.targets }) a d there) ∙ (sym (ap (λ (m : SureRowsView R). shows_walk shows m a) more.same) ∙ on) in
      shows_by shows s a d held
      ∙ newly f.graph more.part more.places n (get_or s.rows i d) (get_or r.rows i d) t (fit i d held) (AllZip-get_or (Grown f.graph more.part more.places n) s.rows r.rows i d d more.grown held)
      (ap (has (changed n (get_or r.rows i d))) (sym node) ∙ none) now;
}
  where
    own_targets : r.targets ≡ s.targets
    own_targets = ap (λ (m : SureRowsView R). m.targets) more.same
