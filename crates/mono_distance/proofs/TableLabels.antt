-- Labels as a table has them, and the absent edges along which they rise.
use Rattle.std.proofs.Common.{◌≡◌, ◌≢◌, ℕ, zero, suc, ◌+◌, ◌-◌, ◌<◌, ◌≤◌, Bool, true, false, not, ◌&&◌, ◌||◌, ◌==◌, cond, List, [], ◌∷◌, map, length, get_or, set, drop, eqb, ltb, refl, sym, ap, subst, ◌∙◌, ◌⊎◌, inl, inr, arith, ℤ, pos, ◌+ℤ◌, All, lt-ltb, eq-eqb}
use Rattle.std.specs.Prelude.{IsTrue, filter, flat_map, Contains}
use Rattle.std.proofs.lemmas.Bool.{and_parts, and_from, not-true, not_from_false, cases_eq, ltb-true, ne_eqb}
use Rattle.std.proofs.lemmas.Bool.Decides.{eqb_tells}
use Rattle.std.proofs.lemmas.List.{get_or-set_same, get_or-set_other}
use Rattle.std.proofs.lemmas.List.Elements.{All-tail}
use Rattle.mono_base.specs.declared.limits.TheConstants.{MAX_BOUND, MAX_WITNESS_VALUE}
use Rattle.mono_graph.specs.declared.edge.Edge.{Edge}
use Rattle.mono_graph.specs.declared.label.Label.{Label}
use Rattle.mono_graph.specs.declared.limit.Limit.{Limit}
use Rattle.mono_graph.specs.Digraph.{Digraph, edge_at, present, places, leaving, entering, has}
use Rattle.mono_graph.specs.Walks.{label_at, is_tense, bound_of, cost_of}
use Rattle.mono_paths.proofs.Listed.{lt_same}
use Rattle.mono_graph.proofs.Membership.{has_append_cases, has_append_left, has_append_right, has_filter, filter_has, places_at, at_places}
use Rattle.mono_theory.specs.Resting.{AreAbsent}
use Rattle.mono_theory.proofs.WalksAsEvidence.{all_by}
use Rattle.mono_distance.specs.Labels.{entry_in, value_by, label_in, rises, absent_rising, absent_at, absent_tense, AreSmall}

-- ---- entries

value_of_listed : (others v : ℕ) → value_by others (v + 1) ≡ v
value_of_listed others v = ap (λ (b : Bool). cond b others (v + 1 - 1)) (ne_eqb (v + 1) 0 (λ e. omega arith)) ∙ omega arith

-- the label that an entry says is that of the list
pub label_is : (ls : List Label) (most : ℤ) (others u : ℕ) → pos others ≡ most +ℤ pos 1 → pos (value_by others (entry_in ls u)) ≡ label_at ls most u
label_is [] most others u e = e
label_is (l ∷ ls) most others u e = by (eqb l.node u) (label_is ls most others u e)
  where
    by : (b : Bool) → pos (value_by others (entry_in ls u)) ≡ label_at ls most u → pos (value_by others (cond b (l.value + 1) (entry_in ls u))) ≡ cond b (pos l.value) (label_at ls most u)
    by true later = ap pos (value_of_listed others l.value)
    by false later = later

-- a listed node is that of a label of the list
record IsListed (ls : List Label) (u : ℕ) : Type 0 where
  pub label : Label
  pub member : Contains ls label
  pub node : label.node ≡ u
  pub entry : entry_in ls u ≡ label.value + 1

contains_later : (l m : Label) (ls : List Label) → Contains ls m → Contains (l ∷ ls) m
contains_later l m ls c = (suc c.0, (let lt = c.1 in omega (arith, lt)), c.2)

listed : (ls : List Label) (u : ℕ) → entry_in ls u ≢ 0 → IsListed ls u
listed [] u h = absurd (h refl)
listed (l ∷ ls) u h = by (eqb_tells l.node u) (listed ls u)
  where
    by : ((eqb l.node u ≡ true) × (l.node ≡ u)) ⊎ ((eqb l.node u ≡ false) × (l.node ≢ u)) → (entry_in ls u ≢ 0 → IsListed ls u) → IsListed (l ∷ ls) u
    by (inl e) rest = record { label = l; member = (0, omega arith, refl); node = e.1; entry = ap (λ (b : Bool). cond b (l.value + 1) (entry_in ls u)) e.0 }
    by (inr e) rest =
        let same : entry_in (l ∷ ls) u ≡ entry_in ls u = ap (λ (b : Bool). cond b (l.value + 1) (entry_in ls u)) e.0 in
        let r = rest (λ none. h (same ∙ none)) in
        record { label = r.label; member = contains_later l r.label ls r.member; node = r.node; entry = same ∙ r.entry }

-- the entries are small
entry_small : (ls : List Label) (u : ℕ) → All (λ (l : Label). l.value ≤ MAX_WITNESS_VALUE) ls → entry_in ls u ≤ MAX_WITNESS_VALUE + 1
entry_small [] u h = omega arith
entry_small (l ∷ ls) u h = by (eqb l.node u) (entry_small ls u (All-tail (λ (m : Label). m.value ≤ MAX_WITNESS_VALUE) l ls h))
  where
    by : (b : Bool) → entry_in ls u ≤ MAX_WITNESS_VALUE + 1 → cond b (l.value + 1) (entry_in ls u) ≤ MAX_WITNESS_VALUE + 1
    by true later = let v = h 0 l (omega arith) in omega (arith, v)
    by false later = later

pub labels_small : (ls : List Label) (entries : List ℕ) (others : ℕ) → All (λ (l : Label). l.value ≤ MAX_WITNESS_VALUE) ls → others ≤ MAX_BOUND + 1 → ((u : ℕ) → get_or entries u 0 ≡ entry_in ls u) → AreSmall entries others
labels_small ls entries others h few same = record {
  each = λ u. by (get_or entries u 0) (let e = same u in let s = entry_small ls u h in omega (arith, e, s)) (cases_eq (get_or entries u 0) 0);
}
  where
    by : (e : ℕ) → e ≤ MAX_WITNESS_VALUE + 1 → (e ≡ 0) ⊎ (e ≡ 0 → ⊥) → value_by others e ≤ MAX_WITNESS_VALUE
    by e most (inl z) = subst (λ (v : ℕ). v ≤ MAX_WITNESS_VALUE) (sym (ap (λ (b : Bool). cond b others (e - 1)) (eq-eqb e 0 z))) (omega (arith, few))
    by e most (inr nz) = subst (λ (v : ℕ). v ≤ MAX_WITNESS_VALUE) (sym (ap (λ (b : Bool). cond b others (e - 1)) (ne_eqb e 0 nz))) (omega (arith, most))

-- ---- entering

pub entered_more : (ls : List Label) (k : ℕ) (l : Label) (entries : List ℕ) → drop k ls ≡ l ∷ drop (k + 1) ls → l.node < length entries → ((u : ℕ) → get_or entries u 0 ≡ entry_in (drop (k + 1) ls) u)
    → (u : ℕ) → get_or (set entries l.node (l.value + 1)) u 0 ≡ entry_in (drop k ls) u
entered_more ls k l entries e lt h u = by (eqb_tells l.node u) ∙ sym (ap (λ (ms : List Label). entry_in ms u) e)
  where
    by : ((eqb l.node u ≡ true) × (l.node ≡ u)) ⊎ ((eqb l.node u ≡ false) × (l.node ≢ u)) → get_or (set entries l.node (l.value + 1)) u 0 ≡ entry_in (l ∷ drop (k + 1) ls) u
    by (inl s) =
        ap (λ (j : ℕ). get_or (set entries l.node (l.value + 1)) j 0) (sym s.1) ∙ get_or-set_same entries l.node (l.value + 1) 0 lt
        ∙ sym (ap (λ (b : Bool). cond b (l.value + 1) (entry_in (drop (k + 1) ls) u)) s.0)
    by (inr s) = get_or-set_other entries l.node u (l.value + 1) 0 (λ q. s.1 (sym q)) ∙ h u ∙ sym (ap (λ (b : Bool). cond b (l.value + 1) (entry_in (drop (k + 1) ls) u)) s.0)

-- a node that no label of the list is of isn't listed
pub unlisted : (ls : List Label) (u : ℕ) → has (map (λ l. l.node) ls) u ≡ false → entry_in ls u ≡ 0
unlisted [] u h = refl
unlisted (l ∷ ls) u h = by (eqb l.node u) h (unlisted ls u)
  where
    by : (b : Bool) → (b || has (map (λ (m : Label). m.node) ls) u) ≡ false → (has (map (λ (m : Label). m.node) ls) u ≡ false → entry_in ls u ≡ 0) → cond b (l.value + 1) (entry_in ls u) ≡ 0
    by true q rest = absurd cc
    by false q rest = rest q

-- ---- edges

-- what a table of entries is of
pub record IsTableOf (ls : List Label) (limit : Limit) (entries : List ℕ) (others : ℕ) : Type 0 where
  pub others_is : pos others ≡ bound_of limit +ℤ pos 1
  pub each : (u : ℕ) → get_or entries u 0 ≡ entry_in ls u

label_as : {ls : List Label} {limit : Limit} {entries : List ℕ} {others : ℕ} (u : ℕ) → IsTableOf ls limit entries others → label_at ls (bound_of limit) u ≡ pos (label_in entries others u)
label_as {ls = ls} {limit = limit} {entries = entries} {others = others} u h = sym (ap (λ (e : ℕ). pos (value_by others e)) (h.each u) ∙ label_is ls (bound_of limit) others u h.others_is)

tense_is : {ls : List Label} {limit : Limit} {entries : List ℕ} {others : ℕ} (e : Edge) → IsTableOf ls limit entries others → is_tense (label_at ls (bound_of limit)) limit e ≡ rises entries others limit e
tense_is {ls = ls} {limit = limit} {entries = entries} {others = others} e h =
    sym (lt_same (label_at ls (bound_of limit) e.from) (label_at ls (bound_of limit) e.to) (label_in entries others e.from) (label_in entries others e.to) (cost_of limit e) (label_as e.from h) (label_as e.to h))

has_flat : (f : Label → List ℕ) (ls : List Label) (l : Label) (k : ℕ) → Contains ls l → IsTrue (has (f l) k) → IsTrue (has (flat_map f ls) k)
has_flat f [] l k c h = absurd (let lt = c.1 in omega (arith, lt))
has_flat f (m ∷ ls) l k (zero, lt, at) h = has_append_left (f m) (flat_map f ls) k (subst (λ (x : Label). IsTrue (has (f x) k)) (sym at) h)
has_flat f (m ∷ ls) l k (suc i, lt, at) h = has_append_right (f m) (flat_map f ls) k (has_flat f ls l k (i, omega (arith, lt), at) h)

record FromFlat (f : Label → List ℕ) (k : ℕ) : Type 0 where
  pub label : Label
  pub here : IsTrue (has (f label) k)

flat_has : (f : Label → List ℕ) (ls : List Label) (k : ℕ) → IsTrue (has (flat_map f ls) k) → FromFlat f k
flat_has f [] k h = absurd cc
flat_has f (m ∷ ls) k h = elim (has_append_cases (f m) (flat_map f ls) k h) [ inl here ↦ record { label = m; here = here } | inr later ↦ flat_has f ls k later ]

absent_of : (g : Digraph) (P : List Bool) (entries : List ℕ) (others : ℕ) (limit : Limit) (end : Edge → ℕ) (u k : ℕ) → IsTrue (has (absent_rising g P entries others limit (filter (λ j. end (edge_at g j) == u) (places g))) k)
    → (k < length g.edges) × (present P k ≡ false)
absent_of g P entries others limit end u k h =
    let f = filter_has (λ j. not (present P j) && rises entries others limit (edge_at g j)) (filter (λ j. end (edge_at g j) == u) (places g)) k h in
    ((places_at end g u k f.0).0, not-true (present P k) (and_parts (not (present P k)) (rises entries others limit (edge_at g k)) f.1).0)

at_label : (g : Digraph) (P : List Bool) (entries : List ℕ) (others : ℕ) (limit : Limit) (l : Label) (k : ℕ) → IsTrue (has (absent_at g P entries others limit l) k) → (k < length g.edges) × (present P k ≡ false)
at_label g P entries others limit l k h =
    elim (has_append_cases (absent_rising g P entries others limit (leaving g l.node)) (cond (ltb others l.value) (absent_rising g P entries others limit (entering g l.node)) []) k h) [
      | inl out ↦ absent_of g P entries others limit (λ e. e.from) l.node k out
      | inr back ↦ by (ltb others l.value) back
    ]
  where
    by : (b : Bool) → IsTrue (has (cond b (absent_rising g P entries others limit (entering g l.node)) []) k) → (k < length g.edges) × (present P k ≡ false)
    by true back = absent_of g P entries others limit (λ e. e.to) l.node k back
    by false back = absurd cc

-- an absent edge along which the labels rise is at a listed node
rising_found : {ls : List Label} {limit : Limit} {entries : List ℕ} {others : ℕ} (g : Digraph) (P : List Bool) (k : ℕ) → IsTableOf ls limit entries others → k < length g.edges → IsTrue (rises entries others limit (edge_at g k)) → present P k ≡ false
    → IsTrue (has (absent_tense g P entries others limit ls) k)
rising_found {ls = ls} {limit = limit} {entries = entries} {others = others} g P k h lt up off = by (cases_eq (entry_in ls (edge_at g k).from) 0)
  where
    passes : IsTrue (not (present P k) && rises entries others limit (edge_at g k))
    passes = and_from (not (present P k)) (rises entries others limit (edge_at g k)) (not_from_false (present P k) off) up

    rising : (ks : List ℕ) → IsTrue (has ks k) → IsTrue (has (absent_rising g P entries others limit ks) k)
    rising ks t = has_filter (λ j. not (present P j) && rises entries others limit (edge_at g j)) ks k t (and_from (not (present P k)) (rises entries others limit (edge_at g k)) (not_from_false (present P k) off) up)

    by : (entry_in ls (edge_at g k).from ≡ 0) ⊎ (entry_in ls (edge_at g k).from ≡ 0 → ⊥) → IsTrue (has (absent_tense g P entries others limit ls) k)
    by (inr here) =
        let r = listed ls (edge_at g k).from here in
        has_flat (absent_at g P entries others limit) ls r.label k r.member
        (has_append_left (absent_rising g P entries others limit (leaving g r.label.node)) _ k
        (rising (leaving g r.label.node) (at_places (λ e. e.from) g r.label.node k lt (sym r.node))))
    by (inl none) =
        let from : label_in entries others (edge_at g k).from ≡ others = ap (value_by others) (h.each (edge_at g k).from ∙ none) in
        let more : label_in entries others (edge_at g k).from + cost_of limit (edge_at g k) < label_in entries others (edge_at g k).to = ltb-true _ _ up in
        let there : entry_in ls (edge_at g k).to ≢ 0 = λ z. (let to : label_in entries others (edge_at g k).to ≡ others = ap (value_by others) (h.each (edge_at g k).to ∙ z) in omega (arith, more, from, to)) in
        let r = listed ls (edge_at g k).to there in
        let to : label_in entries others (edge_at g k).to ≡ r.label.value = ap (value_by others) (h.each (edge_at g k).to ∙ r.entry) ∙ value_of_listed others r.label.value in
        has_flat (absent_at g P entries others limit) ls r.label k r.member
        (has_append_right (absent_rising g P entries others limit (leaving g r.label.node)) _ k
        (subst (λ (b : Bool). IsTrue (has (cond b (absent_rising g P entries others limit (entering g r.label.node)) []) k)) (sym (lt-ltb others r.label.value (omega (arith, more, from, to))))
        (rising (entering g r.label.node) (at_places (λ e. e.to) g r.label.node k lt (sym r.node)))))

pub tense_are_absent : {ls : List Label} {limit : Limit} {entries : List ℕ} {others : ℕ} (g : Digraph) (P : List Bool) → IsTableOf ls limit entries others → AreAbsent (is_tense (label_at ls (bound_of limit)) limit) g P (absent_tense g P entries others limit ls)
tense_are_absent {ls = ls} {limit = limit} {entries = entries} {others = others} g P h = record {
  absent = all_by (λ k. (k < length g.edges) × (present P k ≡ false)) (absent_tense g P entries others limit ls) (λ k t. let r = flat_has (absent_at g P entries others limit) ls k t in at_label g P entries others limit r.label k r.here);
  all = λ k lt t off. rising_found g P k h lt (sym (tense_is (edge_at g k) h) ∙ t) off;
}
