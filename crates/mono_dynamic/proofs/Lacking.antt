-- What a tree of walks to some nodes tells while edges go and come back.
use Rattle.std.proofs.Common.{◌≡◌, ℕ, ◌+◌, ◌<◌, ◌≤◌, not, cond, Bool, true, false, List, [], ◌∷◌, length, map, get_or, int_lt, pos, refl, sym, ap, subst, ◌∙◌, inl, inr, arith, Option, None, Some}
use Rattle.std.specs.Prelude.{IsTrue, IfSome, All, ◌↔◌}
use Rattle.std.specs.Option.{is_some, is_none}
use Rattle.std.specs.List.{AllZip}
use Rattle.std.proofs.lemmas.Bool.{cases_lt, cases_Bool, le-leb, lt-leb, and_parts, and_from, both_ways, not-true, not-false, not_from_true}
use Rattle.std.proofs.lemmas.List.{get_or-map, length-map}
use Rattle.std.proofs.lemmas.List.Elements.{length_all_zip, AllZip-get_or}
use Rattle.mono_graph.specs.Digraph.{Digraph, present, has, IsSubpart}
use Rattle.mono_graph.specs.Walks.{bound_of, is_path}
use Rattle.mono_graph.specs.declared.limit.Limit.TheVariants as limit
use Rattle.mono_graph.proofs.Subparts.{is_path-larger}
use Rattle.mono_dynamic.specs.declared.cost_source.CostSource.{CostSource}
use Rattle.mono_dynamic.specs.declared.walk_target.WalkTarget.{WalkTarget}
use Rattle.mono_dynamic.specs.Arrivals.{at_source, IsTree}
use Rattle.mono_dynamic.specs.LeastRows.{measure_of}
use Rattle.mono_dynamic.specs.Reached.{Reached}
use Rattle.mono_dynamic.specs.Rows.{alone}
use Rattle.mono_dynamic.specs.SearchTrees.{RestsOn}
use Rattle.mono_dynamic.specs.Targets.{Targets, no_targets, targets_at, unsearched, is_lacking, is_settled, step_within, IsBefore, AreTold, OnlyShrink, IsShrunk}
use Rattle.mono_dynamic.specs.Ways.{Ways, no_target, has_target, IsTarget, IsTargetOf, IsSameSource, AreReachedWays}
use Rattle.mono_dynamic.proofs.Lightest.{has_leads}
use Rattle.mono_dynamic.proofs.Rows.{tree_alone}
use Rattle.mono_dynamic.proofs.SearchTrees.{tree_stays}

tree_larger : (g : Digraph) (P Q : List Bool) (t : Reached) → IsSubpart P Q → IsTree g P t.source t.arrivals → IsTree g Q t.source t.arrivals
tree_larger g P Q t sub r = tree_stays g P Q t.source t.arrivals (λ k e. sub.keeps k (subst (λ (j : ℕ). IsTrue (present P j)) e.3 (r.led e.0 e.1 e.2).present)) r

tree_shrunk : (g : Digraph) (P Q : List Bool) (ks : List ℕ) (t : Reached) → IsShrunk P Q ks → ((k : ℕ) → IsTrue (has ks k) → RestsOn t.arrivals k → ⊥) → IsTree g P t.source t.arrivals → IsTree g Q t.source t.arrivals
tree_shrunk g P Q ks t s none r = tree_stays g P Q t.source t.arrivals (λ k e.
    let here : IsTrue (present P k) = subst (λ (j : ℕ). IsTrue (present P j)) e.3 (r.led e.0 e.1 e.2).present in
    elim (cases_Bool (has ks k)) [
      | inl gone ↦ absurd (none k gone e)
      | inr stays ↦ s.each k here stays
    ]) r

early_later : (since : Option ℕ) (m n : ℕ) → m ≤ n → IfSome since (λ s. s ≤ m) → IfSome since (λ s. s ≤ n)
early_later None m n le h = h
early_later (Some s) m n le h = omega arith

-- the edges at these places go, and the tree rests on none of them
pub told_kept : (g : Digraph) (parts : ℕ → List Bool) (n number : ℕ) (ks : List ℕ) (r : Targets) → number ≡ n + 1 → IsShrunk (parts n) (parts number) ks → r.lost ≡ None
    → ((P : List Bool) (k : ℕ) → IsTree g P r.ways.tree.source r.ways.tree.arrivals → IsTrue (has ks k) → RestsOn r.ways.tree.arrivals k → ⊥) → AreTold g parts n r → AreTold g parts number r
told_kept g parts n number ks r next s stands none t = record {
  tree = λ m le before. elim (cases_lt n m) [
    | inl past ↦
        let e : number ≡ m = omega arith in
        let was = t.tree n (omega arith) (subst (λ (o : Option ℕ). IsBefore n o) (sym stands) tt) in
        subst (λ (j : ℕ). IsTree g (parts j) r.ways.tree.source r.ways.tree.arrivals) e (tree_shrunk g (parts n) (parts number) ks r.ways.tree s (λ k h e. none (parts n) k was h e) was)
    | inr low ↦ t.tree m low before
  ];
  priced = t.priced;
  past = early_later r.lost n number (omega arith) t.past;
  early = early_later r.since n number (omega arith) t.early;
  lacking = t.lacking;
}

not_past : (lost : Option ℕ) (n m : ℕ) → n < m → IfSome lost (λ k. k ≤ n) → IsTrue (is_some lost) → IsBefore m lost → ⊥
not_past None n m lt past some before = absurd cc
not_past (Some k) n m lt past some before = omega arith

-- the tree lost an edge before
pub told_stale : (g : Digraph) (parts : ℕ → List Bool) (n number : ℕ) (r : Targets) → number ≡ n + 1 → IsTrue (is_some r.lost) → AreTold g parts n r → AreTold g parts number r
told_stale g parts n number r next lost t = record {
  tree = λ m le before. elim (cases_lt n m) [
    | inl past ↦ absurd (not_past r.lost n m past t.past lost before)
    | inr low ↦ t.tree m low before
  ];
  priced = t.priced;
  past = early_later r.lost n number (omega arith) t.past;
  early = early_later r.since n number (omega arith) t.early;
  lacking = t.lacking;
}

-- and now it has
pub told_lost : (g : Digraph) (parts : ℕ → List Bool) (n number : ℕ) (r : Targets) → number ≡ n + 1 → r.lost ≡ None → AreTold g parts n r
    → AreTold g parts number (record { ways = r.ways; targets = r.targets; since = r.since; lost = Some number })
told_lost g parts n number r next stands t = record {
  tree = λ m le before. t.tree m (omega arith) (subst (λ (o : Option ℕ). IsBefore m o) (sym stands) tt);
  priced = t.priced;
  past = omega arith;
  early = early_later r.since n number (omega arith) t.early;
  lacking = t.lacking;
}

-- ---- going back

before_old : (o : Option ℕ) (kept m : ℕ) → m ≤ kept → IsBefore m (step_within o kept) → IsBefore m o
before_old None kept m le h = tt
before_old (Some k) kept m le h = elim (cases_lt kept k) [
  | inl past ↦ omega arith
  | inr low ↦ subst (λ (b : Bool). IsBefore m (cond b (Some k) None)) (le-leb k kept low) h
]

within_low : (o : Option ℕ) (kept : ℕ) → IfSome (step_within o kept) (λ k. k ≤ kept)
within_low None kept = tt
within_low (Some k) kept = elim (cases_lt kept k) [
  | inl past ↦ subst (λ (b : Bool). IfSome (cond b (Some k) None) (λ k. k ≤ kept)) (sym (lt-leb k kept past)) tt
  | inr low ↦ subst (λ (b : Bool). IfSome (cond b (Some k) None) (λ k. k ≤ kept)) (sym (le-leb k kept low)) low
]

within_has : (Q : ℕ → Type 0) (o : Option ℕ) (kept : ℕ) → IfSome o Q → IfSome (step_within o kept) Q
within_has Q None kept h = tt
within_has Q (Some k) kept h = elim (cases_lt kept k) [
  | inl past ↦ subst (λ (b : Bool). IfSome (cond b (Some k) None) Q) (sym (lt-leb k kept past)) tt
  | inr low ↦ subst (λ (b : Bool). IfSome (cond b (Some k) None) Q) (sym (le-leb k kept low)) h
]

within_some : (o : Option ℕ) (kept : ℕ) → IsTrue (is_some (step_within o kept)) → IsTrue (is_some o)
within_some None kept h = h
within_some (Some k) kept h = refl

pub lacking_less : (r : Targets) (kept : ℕ) (lost : Option ℕ) (t : WalkTarget) → is_lacking (record { ways = r.ways; targets = r.targets; since = step_within r.since kept; lost = lost }) t ≡ true → is_lacking r t ≡ true
lacking_less r kept lost t h =
    let parts = and_parts (is_some (step_within r.since kept)) (not (has_target r.ways t)) h in
    and_from (is_some r.since) (not (has_target r.ways t)) (within_some r.since kept parts.0) parts.1

pub told_undone : (g : Digraph) (parts : ℕ → List Bool) (n kept : ℕ) (r : Targets) → kept ≤ n → AreTold g parts n r
    → AreTold g parts kept (record { ways = r.ways; targets = r.targets; since = step_within r.since kept; lost = step_within r.lost kept })
told_undone g parts n kept r le t = record {
  tree = λ m low before. t.tree m (omega arith) (before_old r.lost kept m low before);
  priced = t.priced;
  past = within_low r.lost kept;
  early = within_low r.since kept;
  lacking = within_has (λ s. All (λ v. has_target r.ways v ≡ false → (ks : List ℕ) → IsTrue (is_path g (parts s) r.ways.tree.source v.node v.limit ks) → ⊥) r.targets) r.since kept t.lacking;
}

-- ---- a search

pub told_searched : (g : Digraph) (parts : ℕ → List Bool) (number : ℕ) (whole : Bool) (w : Ways) (targets : List WalkTarget) → AreReachedWays g (parts number) targets w → OnlyShrink parts number
    → (IsTrue whole → All (λ t. IsTrue (has_target w t)) targets) → AreTold g parts number (record { ways = w; targets = targets; since = Some (cond whole 0 number); lost = None })
told_searched g parts number true w targets s shrink all = record {
  tree = λ m le before. tree_larger g (parts number) (parts m) w.tree (shrink.each m number le (omega arith)) s.tree;
  priced = s.priced;
  past = tt;
  early = omega arith;
  lacking = λ i d lt none ks path. both_ways (has_target w (get_or targets i d)) none (all refl i d lt);
}
told_searched g parts number false w targets s shrink all = record {
  tree = λ m le before. tree_larger g (parts number) (parts m) w.tree (shrink.each m number le (omega arith)) s.tree;
  priced = s.priced;
  past = tt;
  early = omega arith;
  lacking = λ i d lt none ks path. both_ways (has_target w (get_or targets i d)) none ((s.exact i d lt).1 (ks, path));
}

-- where nothing was searched, or memory was missing
pub told_first : (g : Digraph) (parts : ℕ → List Bool) (m n u : ℕ) (r : Targets) → r.ways.tree ≡ alone n u → r.since ≡ None → r.lost ≡ None → AreTold g parts m r
told_first g parts m n u r tree since lost = record {
  tree = λ k le before. subst (λ (t : Reached). IsTree g (parts k) t.source t.arrivals) (sym tree) (tree_alone g (parts k) u);
  priced = record { each = λ k e. absurd (subst (λ (t : Reached). RestsOn t.arrivals k → ⊥) (sym tree) (rests_alone u k) e) };
  past = subst (λ (o : Option ℕ). IfSome o (λ k. k ≤ m)) (sym lost) tt;
  early = subst (λ (o : Option ℕ). IfSome o (λ s. s ≤ m)) (sym since) tt;
  lacking = subst (λ (o : Option ℕ). IfSome o (λ s. All (λ v. has_target r.ways v ≡ false → (ks : List ℕ) → IsTrue (is_path g (parts s) r.ways.tree.source v.node v.limit ks) → ⊥) r.targets)) (sym since) tt;
}
  where
    rests_alone : (v k : ℕ) → RestsOn (at_source v ∷ []) k → ⊥
    rests_alone v k e = (let some = e.1 in let lt = e.2 in omega (arith, some, lt))

-- targets of a source are targets of it after a search too
pub fit_still : (old new : Ways) (targets : List WalkTarget) → IsSameSource old new → All (IsTargetOf old) targets → All (IsTargetOf new) targets
fit_still old new targets same fit = λ i d lt. (let f = fit i d lt in record {
  known = (let known = f.known in let nodes = same.nodes in omega (arith, known, nodes));
  alike = f.alike ∙ ap measure_of (sym same.limit);
  below = ap (λ (c : ℕ). int_lt (bound_of (get_or targets i d).limit) (pos c)) same.cap ∙ f.below;
})

-- ---- what is told

since_lacks : (g : Digraph) (parts : ℕ → List Bool) (n u : ℕ) (t : WalkTarget) (since : Option ℕ) → OnlyShrink parts n → IfSome since (λ s. s ≤ n) → IsTrue (is_some since)
    → IfSome since (λ s. (ks : List ℕ) → IsTrue (is_path g (parts s) u t.node t.limit ks) → ⊥) → (ks : List ℕ) → IsTrue (is_path g (parts n) u t.node t.limit ks) → ⊥
since_lacks g parts n u t None shrink early some h ks path = absurd cc
since_lacks g parts n u t (Some s) shrink early some h ks path = h ks (is_path-larger g (parts n) (parts s) (shrink.each s n early (omega arith)) u t.node t.limit ks path)

since_at : (since : Option ℕ) (Q R : ℕ → Type 0) → ((s : ℕ) → Q s → R s) → IfSome since Q → IfSome since R
since_at None Q R f h = tt
since_at (Some s) Q R f h = f s h

-- no walk within the bound leads to a target that is lacking
pub lacks : (g : Digraph) (parts : ℕ → List Bool) (n : ℕ) (t : WalkTarget) (r : Targets) → AreTold g parts n r → OnlyShrink parts n → IsTarget r.targets t → is_lacking r t ≡ true
    → (ks : List ℕ) → IsTrue (is_path g (parts n) r.ways.tree.source t.node t.limit ks) → ⊥
lacks g parts n t r told shrink asked lacking =
    let parts-of = and_parts (is_some r.since) (not (has_target r.ways t)) lacking in
    let none : has_target r.ways t ≡ false = not-true (has_target r.ways t) parts-of.1 in
    since_lacks g parts n r.ways.tree.source t r.since shrink told.early parts-of.0
    (since_at r.since (λ s. All (λ v. has_target r.ways v ≡ false → (ks : List ℕ) → IsTrue (is_path g (parts s) r.ways.tree.source v.node v.limit ks) → ⊥) r.targets)
    (λ s. (ks : List ℕ) → IsTrue (is_path g (parts s) r.ways.tree.source t.node t.limit ks) → ⊥)
    (λ s h. subst (λ (v : WalkTarget). has_target r.ways v ≡ false → (ks : List ℕ) → IsTrue (is_path g (parts s) r.ways.tree.source v.node v.limit ks) → ⊥) asked.2 (h asked.0 no_target asked.1) none)
    told.lacking)

none_lost : (lost : Option ℕ) (n : ℕ) → IsTrue (is_none lost) → IsBefore n lost
none_lost None n h = tt
none_lost (Some k) n h = absurd cc

-- where all is known, a walk within the bound leads to each target that isn't lacking
pub leads : (g : Digraph) (parts : ℕ → List Bool) (n : ℕ) (t : WalkTarget) (r : Targets) → AreTold g parts n r → is_settled r ≡ true → is_lacking r t ≡ false → IsTargetOf r.ways t
    → (ks : List ℕ) × IsTrue (is_path g (parts n) r.ways.tree.source t.node t.limit ks)
leads g parts n t r told settled none fits =
    let known = and_parts (is_some r.since) (is_none r.lost) settled in
    has_leads g (parts n) t r.ways (told.tree n (omega arith) (none_lost r.lost n known.1)) told.priced fits.alike
    (elim (cases_Bool (has_target r.ways t)) [
      | inl there ↦ there
      | inr not-there ↦ absurd (both_ways (is_lacking r t) none (and_from (is_some r.since) (not (has_target r.ways t)) known.0 (ap not not-there)))
    ])

pub none_is : (o : Option ℕ) (none : Bool) → is_some o ≡ not none → none ≡ true → o ≡ None
none_is None none e h = refl
none_is (Some n) none e h = absurd cc

-- ---- rows

-- rows stay of graphs with so many nodes
pub sized_by : (Is : Targets → Targets → Type 0) (n : ℕ) (olds news : List Targets) → ((a b : Targets) → Is a b → b.ways.tree.nodes ≡ a.ways.tree.nodes) → AllZip Is olds news → ((i : ℕ) → i < length olds → (targets_at olds i).ways.tree.nodes ≡ n)
    → (i : ℕ) → i < length news → (targets_at news i).ways.tree.nodes ≡ n
sized_by Is n olds news same all sized i lt =
    let low : i < length olds = omega (arith, lt, length_all_zip Is olds news all) in
    same (targets_at olds i) (targets_at news i) (AllZip-get_or Is olds news i no_targets no_targets all low) ∙ sized i low

some_source : CostSource
some_source = record { node = 0; limit = limit.Free; cap = 0 }

pub sized_new : (n m : ℕ) (sources : List CostSource) (rows : List Targets) → rows ≡ map (unsearched n) sources → m ≡ n → (i : ℕ) → i < length rows → (targets_at rows i).ways.tree.nodes ≡ m
sized_new n m sources rows is same i lt =
    let low : i < length sources = omega (arith, lt, ap length is, length-map sources (unsearched n)) in
    ap (λ (rs : List Targets). (targets_at rs i).ways.tree.nodes) is ∙ (ap (λ (r : Targets). r.ways.tree.nodes) (get_or-map (unsearched n) sources i some_source no_targets low) ∙ sym same)

-- nothing is lacking after a search exactly where the tree has all of the targets
pub none_lacks_where_all : (whole : Bool) (w : Ways) (targets : List WalkTarget) → IsTrue whole ↔ All (λ t. IsTrue (has_target w t)) targets → IsTrue whole ↔ All (λ t. not (has_target w t) ≡ false) targets
none_lacks_where_all whole w targets h = (
  λ yes i d lt. not_from_true (has_target w (get_or targets i d)) (h.0 yes i d lt),
  λ none. h.1 (λ i d lt. not-false (has_target w (get_or targets i d)) (none i d lt)),
)
