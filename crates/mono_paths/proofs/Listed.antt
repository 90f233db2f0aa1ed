-- Labels that are entered by node, and tests at the edges of listed nodes.
use Rattle.std.proofs.Common.{◌≡◌, ◌≢◌, ℕ, ◌+◌, ◌<◌, ◌≤◌, Bool, true, false, not, ◌&&◌, List, [], ◌∷◌, ◌++◌, length, get_or, set, take, map, refl, sym, ap, subst, ◌∙◌, inl, inr, arith, ℤ, pos, ◌+ℤ◌, int_lt}
use Rattle.std.specs.Prelude.{IsTrue, ◌==◌, nat_lt, if◌then◌else◌}
use Rattle.std.specs.Ordering.{int_eq}
use Rattle.std.specs.List.{list_all}
use Rattle.std.proofs.lemmas.Bool.{and_from, and_parts, cases_Bool, cases_eq, cases_lt, both_ways, eq-eqb, ne_eqb, lt-ltb, le-ltb, false_from_ne_true, not_from_false}
use Rattle.std.proofs.Math.Path.{fun_ext}
use Rattle.std.proofs.lemmas.List.{get_or-set_same, get_or-set_other, length-set, take_more, take-map, map-append}
use Rattle.std.proofs.lemmas.List.Folds.{list_all-map}
use Rattle.std.proofs.lemmas.Int.{ints}
use Rattle.mono_graph.specs.Digraph.{Digraph, present, places, edge_at, has, leaving, entering, is_distinct}
use Rattle.mono_graph.specs.declared.edge.Edge.{Edge}
use Rattle.mono_graph.specs.Walks.{is_labelling, is_tense, label_at, bound_of, cost_of, IsBounded}
use Rattle.mono_graph.proofs.Places.{all_of, all_below}
use Rattle.mono_graph.proofs.Membership.{all_at, all_from, places_at, at_places, has_here, has_there, same_truth}
use Rattle.mono_graph.specs.declared.label.Label.{Label}
use Rattle.mono_paths.specs.Listed.{nodes_listed, value_at, is_calm, is_calm_around}
use Rattle.mono_graph.proofs.Prefixes.{distinct_new, not_distinct, distinct_take, marked_more, take_has}
use Rattle.mono_graph.specs.declared.limit.Limit.{Limit}
use Rattle.mono_graph.specs.declared.limit.Limit.TheVariants as limit
use Rattle.mono_paths.specs.Found.{HasBound}

abbrev pub no_label : Label
no_label = record { node = 0; value = 0 }

-- a bound from -1 on is one that a predicate may have
pub is_bounded : (l : Limit) → HasBound l → IsBounded l
is_bounded limit.Free h = absurd h
is_bounded (limit.Steps most) h = h
is_bounded (limit.Weight most) h = h

-- ---- entered one by one

-- one more label, of a new node
label_at_push : (ls : List Label) (l : Label) (most : ℤ) (w : ℕ) → has (nodes_listed ls) l.node ≡ false → label_at (ls ++ l ∷ []) most w ≡ (if l.node == w then pos l.value else label_at ls most w)
label_at_push [] l most w h = refl
label_at_push (k ∷ ls) l most w h =
    let absent : has (nodes_listed ls) l.node ≡ false = false_from_ne_true (has (nodes_listed ls) l.node) (λ t. both_ways (has (nodes_listed (k ∷ ls)) l.node) h (has_there k.node l.node (nodes_listed ls) t)) in
    let others : label_at (ls ++ l ∷ []) most w ≡ (if l.node == w then pos l.value else label_at ls most w) = label_at_push ls l most w absent in
    elim (cases_eq k.node w) [
      | inl e ↦
          let apart : l.node ≢ w = λ q. both_ways (has (nodes_listed (k ∷ ls)) l.node) h (subst (λ (n : ℕ). IsTrue (has (nodes_listed (k ∷ ls)) n)) (e ∙ sym q) (has_here k.node (nodes_listed ls))) in
          rw (eq-eqb k.node w e, ne_eqb l.node w apart) refl
      | inr ne ↦ rw (ne_eqb k.node w ne) others
    ]

nodes_more : (labels : List Label) (i : ℕ) (l : Label) → i < length labels → l ≡ get_or labels i no_label → nodes_listed (take (i + 1) labels) ≡ nodes_listed (take i labels) ++ l.node ∷ []
nodes_more labels i l lt is =
    ap nodes_listed (take_more labels i no_label lt)
    ∙ (map-append (λ (s : Label). s.node) (take i labels) (get_or labels i no_label ∷ [])
    ∙ ap (λ (s : Label). nodes_listed (take i labels) ++ s.node ∷ []) (sym is))

nodes_take : (labels : List Label) (n : ℕ) → nodes_listed (take n labels) ≡ take n (nodes_listed labels)
nodes_take labels n = sym (take-map (λ (l : Label). l.node) n labels)

-- the first labels are entered, and their nodes are marked
pub record Entered (n : ℕ) (listed : List Bool) (values : List ℕ) (labels : List Label) (i : ℕ) : Type 0 where
  pub listed_len : length listed ≡ n
  pub values_len : length values ≡ n
  pub marked : (u : ℕ) → get_or listed u false ≡ has (nodes_listed (take i labels)) u
  pub distinct : IsTrue (is_distinct (nodes_listed (take i labels)))
  pub each : (most : ℤ) (others u : ℕ) → pos others ≡ most +ℤ pos 1 → label_at (take i labels) most u ≡ pos (value_at listed values others u)

pub entered_none : (n : ℕ) (listed : List Bool) (values : List ℕ) (labels : List Label) → length listed ≡ n → length values ≡ n → ((u : ℕ) → get_or listed u false ≡ false) → Entered n listed values labels 0
entered_none n listed values labels listed-len values-len clear = record {
  listed_len = listed-len;
  values_len = values-len;
  marked = λ u. clear u;
  distinct = refl;
  each = λ most others u e. sym e ∙ sym (ap (λ (b : Bool). pos (if b then get_or values u 0 else others)) (clear u));
}

pub entered_more : (n : ℕ) (listed : List Bool) (values : List ℕ) (labels : List Label) (i : ℕ) (l : Label) → i < length labels → l ≡ get_or labels i no_label → l.node < n
    → get_or listed l.node false ≡ false → Entered n listed values labels i → Entered n (set listed l.node true) (set values l.node l.value) labels (i + 1)
entered_more n listed values labels i l lt is known new x =
    let more : nodes_listed (take (i + 1) labels) ≡ nodes_listed (take i labels) ++ l.node ∷ [] = nodes_more labels i l lt is in
    let room : l.node < length listed = let len = x.listed_len in omega arith in
    let space : l.node < length values = let len = x.values_len in omega arith in
    let absent : has (nodes_listed (take i labels)) l.node ≡ false = sym (x.marked l.node) ∙ new in
    record {
      listed_len = length-set listed l.node true ∙ x.listed_len;
      values_len = length-set values l.node l.value ∙ x.values_len;
      marked = λ u. marked_more listed (nodes_listed (take i labels)) l.node room x.marked u ∙ sym (ap (λ (us : List ℕ). has us u) more);
      distinct = subst (λ (us : List ℕ). IsTrue (is_distinct us)) (sym more) (distinct_new (nodes_listed (take i labels)) l.node x.distinct absent);
      each = λ most others u e.
          ap (λ (ls : List Label). label_at ls most u) (take_more labels i no_label lt ∙ ap (λ (s : Label). take i labels ++ s ∷ []) (sym is))
          ∙ (label_at_push (take i labels) l most u absent
          ∙ set_at room space u (label_at (take i labels) most u) others (x.each most others u e));
    }
  where
    set_at : l.node < length listed → l.node < length values → (u : ℕ) (was : ℤ) (others : ℕ) → was ≡ pos (value_at listed values others u)
        → (if l.node == u then pos l.value else was) ≡ pos (value_at (set listed l.node true) (set values l.node l.value) others u)
    set_at room space u was others h = elim (cases_eq l.node u) [
      | inl e ↦
          let here : value_at (set listed l.node true) (set values l.node l.value) others l.node ≡ l.value =
          ap (λ (b : Bool). if b then get_or (set values l.node l.value) l.node 0 else others) (get_or-set_same listed l.node true false room) ∙ get_or-set_same values l.node l.value 0 space in
          rw (eq-eqb l.node u e) (sym (subst (λ (w : ℕ). pos (value_at (set listed l.node true) (set values l.node l.value) others w) ≡ pos l.value) e (ap pos here)))
      | inr ne ↦
          rw (ne_eqb l.node u ne, get_or-set_other listed l.node u true false (λ q. ne (sym q)), get_or-set_other values l.node u l.value 0 (λ q. ne (sym q))) h
    ]

-- a node that comes again
pub node_again : (n : ℕ) (listed : List Bool) (values : List ℕ) (labels : List Label) (i : ℕ) (l : Label) → i < length labels → l ≡ get_or labels i no_label → Entered n listed values labels i
    → get_or listed l.node false ≡ true → is_distinct (nodes_listed labels) ≡ false
node_again n listed values labels i l lt is x again = false_from_ne_true (is_distinct (nodes_listed labels)) (λ d.
    not_distinct (nodes_listed (take i labels)) l.node (sym (x.marked l.node) ∙ again)
    (subst (λ (us : List ℕ). IsTrue (is_distinct us)) (sym (nodes_take labels (i + 1)) ∙ nodes_more labels i l lt is) (distinct_take (nodes_listed labels) (i + 1) d)))

-- the marked nodes are listed, however far the list was gone through
pub marked_listed : (labels : List Label) (i u : ℕ) → IsTrue (has (nodes_listed (take i labels)) u) → IsTrue (has (nodes_listed labels) u)
marked_listed labels i u h = take_has (nodes_listed labels) i u (subst (λ (us : List ℕ). IsTrue (has us u)) (nodes_take labels i) h)

-- ---- calm at the listed nodes

calm_level : (p : Bool) (a b c : ℕ) → b ≤ a → IsTrue (not (p && nat_lt (a + c) b))
calm_level true a b c le = not_from_false (nat_lt (a + c) b) (le-ltb (a + c) b (omega arith))
calm_level false a b c le = refl

-- an edge between two nodes that aren't listed is calm
pub calm_everywhere : (label : ℕ → ℕ) (limit : Limit) (g : Digraph) (P : List Bool) (us : List ℕ) (others : ℕ) → ((w : ℕ) → has us w ≡ false → label w ≡ others)
    → list_all (is_calm_around label limit g P) us ≡ list_all (is_calm label limit g P) (places g)
calm_everywhere label limit g P us others other =
    same_truth (list_all (is_calm_around label limit g P) us) (list_all (is_calm label limit g P) (places g))
    (λ h. all_of (is_calm label limit g P) 0 (length g.edges) (λ k low high. elim (cases_Bool (has us (edge_at g k).from)) [
      | inl from ↦
          let around = and_parts (list_all (is_calm label limit g P) (leaving g (edge_at g k).from)) (list_all (is_calm label limit g P) (entering g (edge_at g k).from)) (all_at (is_calm_around label limit g P) us (edge_at g k).from h from) in
          all_at (is_calm label limit g P) (leaving g (edge_at g k).from) k around.0 (at_places (λ e. e.from) g (edge_at g k).from k (omega arith) refl)
      | inr off ↦ elim (cases_Bool (has us (edge_at g k).to)) [
        | inl to ↦
            let around = and_parts (list_all (is_calm label limit g P) (leaving g (edge_at g k).to)) (list_all (is_calm label limit g P) (entering g (edge_at g k).to)) (all_at (is_calm_around label limit g P) us (edge_at g k).to h to) in
            all_at (is_calm label limit g P) (entering g (edge_at g k).to) k around.1 (at_places (λ e. e.to) g (edge_at g k).to k (omega arith) refl)
        | inr off' ↦
            let start = other (edge_at g k).from off in
            let end = other (edge_at g k).to off' in
            calm_level (present P k) (label (edge_at g k).from) (label (edge_at g k).to) (cost_of limit (edge_at g k)) (omega (arith, start, end))
      ]
    ]))
    (λ h. all_from (is_calm_around label limit g P) us (λ u u-in.
    and_from (list_all (is_calm label limit g P) (leaving g u)) (list_all (is_calm label limit g P) (entering g u))
    (all_from (is_calm label limit g P) (leaving g u) (λ k k-in. let r = places_at (λ e. e.from) g u k k-in in
    all_below (is_calm label limit g P) 0 (length g.edges) h k (omega arith) (let lt = r.0 in omega arith)))
    (all_from (is_calm label limit g P) (entering g u) (λ k k-in. let r = places_at (λ e. e.to) g u k k-in in
    all_below (is_calm label limit g P) 0 (length g.edges) h k (omega arith) (let lt = r.0 in omega arith)))))

-- a node that isn't listed has one more than the bound
label_at-unlisted : (labels : List Label) (most : ℤ) (u : ℕ) → has (nodes_listed labels) u ≡ false → label_at labels most u ≡ most +ℤ pos 1
label_at-unlisted [] most u h = refl
label_at-unlisted (l ∷ labels) most u h =
    let apart : l.node ≢ u = λ e. both_ways (has (nodes_listed (l ∷ labels)) u) h (subst (λ (k : ℕ). IsTrue (has (nodes_listed (l ∷ labels)) k)) e (has_here l.node (nodes_listed labels))) in
    let absent : has (nodes_listed labels) u ≡ false = false_from_ne_true (has (nodes_listed labels) u) (λ t. both_ways (has (nodes_listed (l ∷ labels)) u) h (has_there l.node u (nodes_listed labels) t)) in
    rw (ne_eqb l.node u apart) (label_at-unlisted labels most u absent)

pub unlisted_calm : (labels : List Label) (limit : Limit) (e : Edge) → has (nodes_listed labels) e.from ≡ false → has (nodes_listed labels) e.to ≡ false
    → is_tense (label_at labels (bound_of limit)) limit e ≡ false
unlisted_calm labels limit e from to =
    level (label_at labels (bound_of limit) e.from) (label_at labels (bound_of limit) e.to) (bound_of limit) (cost_of limit e)
    (label_at-unlisted labels (bound_of limit) e.from from) (label_at-unlisted labels (bound_of limit) e.to to)
  where
    level : (x y m : ℤ) (c : ℕ) → x ≡ m +ℤ pos 1 → y ≡ m +ℤ pos 1 → int_lt (x +ℤ pos c) y ≡ false
    level x y m c ex ey = grind (arith, ints)

pub lt_same : (x y : ℤ) (a b c : ℕ) → x ≡ pos a → y ≡ pos b → nat_lt (a + c) b ≡ int_lt (x +ℤ pos c) y
lt_same x y a b c ex ey = elim (cases_lt (a + c) b) [
  | inl lt ↦ lt-ltb (a + c) b lt ∙ sym (yes lt)
  | inr le ↦ le-ltb (a + c) b le ∙ sym (no le)
]
  where
    yes : a + c < b → int_lt (x +ℤ pos c) y ≡ true
    yes lt = grind (arith, ints)

    no : b ≤ a + c → int_lt (x +ℤ pos c) y ≡ false
    no le = grind (arith, ints)

-- the labels that were entered are those of the list
pub record AreThese (labels : List Label) (limit : Limit) (listed : List Bool) (values : List ℕ) (others : ℕ) : Type 0 where
  pub others_is : pos others ≡ bound_of limit +ℤ pos 1
  pub distinct : IsTrue (is_distinct (nodes_listed labels))
  pub marked : (u : ℕ) → get_or listed u false ≡ has (nodes_listed labels) u
  pub each : (u : ℕ) → label_at labels (bound_of limit) u ≡ pos (value_at listed values others u)

calm_places : (g : Digraph) (P : List Bool) (limit : Limit) (labels : List Label) (listed : List Bool) (values : List ℕ) (others : ℕ) → AreThese labels limit listed values others
    → list_all (λ l. is_calm_around (value_at listed values others) limit g P l.node) labels ≡ list_all (λ k. not (present P k && is_tense (label_at labels (bound_of limit)) limit (edge_at g k))) (places g)
calm_places g P limit labels listed values others t =
    let label : ℕ → ℕ = value_at listed values others in
    let told : ℕ → ℤ = label_at labels (bound_of limit) in
    let same : is_calm label limit g P ≡ (λ k. not (present P k && is_tense told limit (edge_at g k))) =
    fun_ext (λ k. ap (λ (b : Bool). not (present P k && b))
    (lt_same (told (edge_at g k).from) (told (edge_at g k).to) (label (edge_at g k).from) (label (edge_at g k).to) (cost_of limit (edge_at g k)) (t.each (edge_at g k).from) (t.each (edge_at g k).to))) in
    sym (list_all-map (is_calm_around label limit g P) (λ (l : Label). l.node) labels)
    ∙ (calm_everywhere label limit g P (nodes_listed labels) others (λ w off. ap (λ (b : Bool). if b then get_or values w 0 else others) (t.marked w ∙ off))
    ∙ ap (λ (p : ℕ → Bool). list_all p (places g)) same)

-- ---- what the test answers

first_fails : (a b c d : Bool) → a ≡ false → false ≡ (((a && b) && c) && d)
first_fails a b c d e = rw e refl

last_decides : (a b c d : Bool) → a ≡ true → b ≡ true → c ≡ true → d ≡ (((a && b) && c) && d)
last_decides a b c d e f h = rw (e, f, h) refl

pub listed_twice : (g : Digraph) (P : List Bool) (u v : ℕ) (limit : Limit) (labels : List Label) → is_distinct (nodes_listed labels) ≡ false → false ≡ is_labelling g P u v limit labels
listed_twice g P u v limit labels h =
    let label : ℕ → ℤ = label_at labels (bound_of limit) in
    first_fails (is_distinct (map (λ (p : Label). p.node) labels)) (int_eq (label u) (pos 0)) (int_lt (bound_of limit) (label v)) (list_all (λ k. not (present P k && is_tense label limit (edge_at g k))) (places g))
    h

eq_yes : (x : ℤ) (a : ℕ) → x ≡ pos a → a ≡ 0 → int_eq x (pos 0) ≡ true
eq_yes x a e z = grind (arith, ints)

above_yes : (m x : ℤ) (others a : ℕ) → pos others ≡ m +ℤ pos 1 → x ≡ pos a → others ≤ a → int_lt m x ≡ true
above_yes m x others a r e le = grind (arith, ints)

pub calm_decides : (g : Digraph) (P : List Bool) (u v : ℕ) (limit : Limit) (labels : List Label) (listed : List Bool) (values : List ℕ) (others : ℕ) → AreThese labels limit listed values others
    → value_at listed values others u ≡ 0 → others ≤ value_at listed values others v
    → list_all (λ l. is_calm_around (value_at listed values others) limit g P l.node) labels ≡ is_labelling g P u v limit labels
calm_decides g P u v limit labels listed values others t z le =
    let label : ℕ → ℤ = label_at labels (bound_of limit) in
    calm_places g P limit labels listed values others t
    ∙ last_decides (is_distinct (map (λ (p : Label). p.node) labels)) (int_eq (label u) (pos 0)) (int_lt (bound_of limit) (label v)) (list_all (λ k. not (present P k && is_tense label limit (edge_at g k))) (places g))
    t.distinct
    (eq_yes (label u) (value_at listed values others u) (t.each u) z)
    (above_yes (bound_of limit) (label v) others (value_at listed values others v) t.others_is (t.each v) le)
