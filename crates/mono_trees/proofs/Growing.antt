-- Each step of a growing forest.
use Rattle.std.proofs.Common.{◌≡◌, ℕ, zero, suc, ◌+◌, ◌<◌, ◌≤◌, Bool, true, false, List, [], ◌∷◌, ◌++◌, length, filter, refl, sym, ap, subst, ◌∙◌, inl, inr, arith, length-append}
use Rattle.std.specs.Prelude.{IsTrue, if◌then◌else◌, nat_le}
use Rattle.std.specs.List.{list_all}
use Rattle.std.proofs.lemmas.Bool.{and_parts, and_from, le-leb}
use Rattle.std.proofs.lemmas.List.{map-append}
use Rattle.std.proofs.lemmas.List.Folds.{list_all-map}
use Rattle.std.proofs.lemmas.List.Elements.{filter-append, Contains-append_left}
use Rattle.mono_graph.specs.declared.edge.Edge.{Edge}
use Rattle.mono_graph.specs.Digraph.{Digraph, edge_at, has}
use Rattle.mono_graph.specs.Trees.{joins, edges_at, is_bridged, component_count, count_below, is_first}
use Rattle.mono_graph.proofs.Components.{component_count-none, component_count-le, component_count-apart}
use Rattle.mono_graph.proofs.Joins.{by_forth, joins-refl, joins-append_right, joins-within, joins-push}
use Rattle.mono_graph.proofs.Membership.{all_from, has_cons, has_append_cases, has_append_left, has_append_right}
use Rattle.mono_trees.specs.Tells.{Tells, same_label}
use Rattle.mono_trees.specs.Grown.{AreNoHeavier, IsGrown}

count-most : (p : ℕ → Bool) (n : ℕ) → count_below p n ≤ n
count-most p zero = omega arith
count-most p (suc n) = one (p n) (count-most p n)
  where
    one : (b : Bool) → count_below p n ≤ n → count_below p n + (if b then 1 else 0) ≤ suc n
    one true l = omega (arith, l)
    one false l = omega (arith, l)

pub grown_none : (g : Digraph) (labels : List ℕ) → length labels ≡ g.nodes → Tells [] labels → IsGrown g [] [] labels
grown_none g labels len tells = record {
  len = len;
  tells = tells;
  within = λ k h. h;
  bridged = λ k h. absurd cc;
  count = let a : component_count [] g.nodes ≤ g.nodes = count-most (is_first []) g.nodes in let b : g.nodes ≤ component_count [] g.nodes = component_count-none g.nodes in omega (arith, a, b);
}

filter_whole : (p : Edge → Bool) (es : List Edge) → IsTrue (list_all p es) → filter p es ≡ es
filter_whole p [] h = refl
filter_whole p (e ∷ es) h =
    let a = and_parts (p e) (list_all p es) h in
    let t : p e ≡ true = a.0 in
    rw t (ap (λ (xs : List Edge). e ∷ xs) (filter_whole p es a.1))

pub one_of : (k j : ℕ) → IsTrue (has (k ∷ []) j) → k ≡ j
one_of k j h = elim (has_cons k j [] h) [ inl e ↦ e | inr n ↦ absurd cc ]

-- an edge whose ends are joined already is left out
pub grown_skip : (g : Digraph) (done chosen labels : List ℕ) (k : ℕ) → IsGrown g done chosen labels
    → ((j : ℕ) → IsTrue (has done j) → (edge_at g j).weight ≤ (edge_at g k).weight)
    → (edge_at g k).from < g.nodes → (edge_at g k).to < g.nodes → same_label labels (edge_at g k).from (edge_at g k).to ≡ true
    → IsGrown g (done ++ k ∷ []) chosen labels
grown_skip g done chosen labels k grown up from to same = record {
  len = grown.len;
  tells = grown.tells;
  count = grown.count;
  within = λ j h. has_append_left done (k ∷ []) j (grown.within j h);
  bridged = λ j h. elim (has_append_cases done (k ∷ []) j h) [
    | inl old ↦ grown.bridged j old
    | inr new ↦ subst (λ (i : ℕ). IsTrue (is_bridged g chosen (edge_at g i))) (one_of k j new) itself
  ];
}
  where
    light : Edge → Bool
    light t = nat_le t.weight (edge_at g k).weight

    all : IsTrue (list_all (λ t. nat_le t.weight (edge_at g k).weight) (edges_at g chosen))
    all = list_all-map (λ t. nat_le t.weight (edge_at g k).weight) (edge_at g) chosen ∙
        all_from (λ j. nat_le (edge_at g j).weight (edge_at g k).weight) chosen (λ j h. le-leb (edge_at g j).weight (edge_at g k).weight (up j (grown.within j h)))

    itself : IsTrue (is_bridged g chosen (edge_at g k))
    itself = ap (λ (es : List Edge). joins es (edge_at g k).from (edge_at g k).to) (filter_whole (λ t. nat_le t.weight (edge_at g k).weight) (edges_at g chosen) all)
        ∙ (sym (grown.tells.exact (edge_at g k).from (edge_at g k).to (let l = grown.len in omega arith) (let l = grown.len in omega arith)) ∙ same)

pub edges_at-push : (g : Digraph) (ks : List ℕ) (k : ℕ) → edges_at g (ks ++ k ∷ []) ≡ edges_at g ks ++ edge_at g k ∷ []
edges_at-push g ks k = map-append (edge_at g) ks (k ∷ [])

more_bridged : (g : Digraph) (ks : List ℕ) (k : ℕ) (e : Edge) → IsTrue (is_bridged g ks e) → IsTrue (is_bridged g (ks ++ k ∷ []) e)
more_bridged g ks k e h =
    let p : Edge → Bool = λ t. nat_le t.weight e.weight in
    let more : filter p (edges_at g (ks ++ k ∷ [])) ≡ filter p (edges_at g ks) ++ filter p (edge_at g k ∷ []) =
    ap (λ (es : List Edge). filter p es) (edges_at-push g ks k) ∙ filter-append p (edges_at g ks) (edge_at g k ∷ []) in
    subst (λ (es : List Edge). IsTrue (joins es e.from e.to)) (sym more)
    (joins-within (filter p (edges_at g ks)) (filter p (edges_at g ks) ++ filter p (edge_at g k ∷ [])) (λ x c. Contains-append_left (filter p (edges_at g ks)) (filter p (edge_at g k ∷ [])) x c) e.from e.to h)

own_bridged : (g : Digraph) (ks : List ℕ) (k : ℕ) → IsTrue (is_bridged g (ks ++ k ∷ []) (edge_at g k))
own_bridged g ks k =
    let e : Edge = edge_at g k in
    let p : Edge → Bool = λ t. nat_le t.weight (edge_at g k).weight in
    let more : filter p (edges_at g (ks ++ k ∷ [])) ≡ filter p (edges_at g ks) ++ filter p (edge_at g k ∷ []) =
    ap (λ (es : List Edge). filter p es) (edges_at-push g ks k) ∙ filter-append p (edges_at g ks) (edge_at g k ∷ []) in
    let one : filter p (edge_at g k ∷ []) ≡ edge_at g k ∷ [] = filter_whole p (edge_at g k ∷ []) (and_from (p (edge_at g k)) true (le-leb (edge_at g k).weight (edge_at g k).weight (omega arith)) refl) in
    subst (λ (es : List Edge). IsTrue (joins es (edge_at g k).from (edge_at g k).to)) (sym (more ∙ ap (λ (es : List Edge). filter p (edges_at g ks) ++ es) one))
    (joins-append_right (filter p (edges_at g ks)) (edge_at g k ∷ []) (edge_at g k).from (edge_at g k).to
    (by_forth (edge_at g k) [] (edge_at g k).from (edge_at g k).to (joins-refl [] (edge_at g k).from) (joins-refl [] (edge_at g k).to)))

-- an edge between two labels is chosen
pub grown_take : (g : Digraph) (done chosen labels new : List ℕ) (k : ℕ) → IsGrown g done chosen labels
    → (edge_at g k).from < g.nodes → (edge_at g k).to < g.nodes → same_label labels (edge_at g k).from (edge_at g k).to ≡ false
    → length new ≡ length labels → Tells (edges_at g chosen ++ edge_at g k ∷ []) new
    → IsGrown g (done ++ k ∷ []) (chosen ++ k ∷ []) new
grown_take g done chosen labels new k grown from to apart len tells = record {
  len = len ∙ grown.len;
  tells = subst (λ (es : List Edge). Tells es new) (sym (edges_at-push g chosen k)) tells;
  within = λ j h. elim (has_append_cases chosen (k ∷ []) j h) [
    | inl old ↦ has_append_left done (k ∷ []) j (grown.within j old)
    | inr one ↦ has_append_right done (k ∷ []) j one
  ];
  bridged = λ j h. elim (has_append_cases done (k ∷ []) j h) [
    | inl old ↦ more_bridged g chosen k (edge_at g j) (grown.bridged j old)
    | inr one ↦ subst (λ (i : ℕ). IsTrue (is_bridged g (chosen ++ k ∷ []) (edge_at g i))) (one_of k j one) (own_bridged g chosen k)
  ];
  count = counted;
}
  where
    off : joins (edges_at g chosen) (edge_at g k).from (edge_at g k).to ≡ false
    off = sym (grown.tells.exact (edge_at g k).from (edge_at g k).to (let l = grown.len in omega arith) (let l = grown.len in omega arith)) ∙ apart

    counted : component_count (edges_at g (chosen ++ k ∷ [])) g.nodes + length (chosen ++ k ∷ []) ≡ g.nodes
    counted =
        let es : List Edge = edges_at g chosen in
        let e : Edge = edge_at g k in
        let less : component_count (edge_at g k ∷ edges_at g chosen) g.nodes + 1 ≡ component_count (edges_at g chosen) g.nodes = component_count-apart (edge_at g k) (edges_at g chosen) g.nodes from to off in
        let a : component_count (edge_at g k ∷ edges_at g chosen) g.nodes ≤ component_count (edges_at g chosen ++ edge_at g k ∷ []) g.nodes =
        component_count-le (edges_at g chosen ++ edge_at g k ∷ []) (edge_at g k ∷ edges_at g chosen) g.nodes (λ u v h. sym (joins-push (edges_at g chosen) (edge_at g k) u v) ∙ h) in
        let b : component_count (edges_at g chosen ++ edge_at g k ∷ []) g.nodes ≤ component_count (edge_at g k ∷ edges_at g chosen) g.nodes =
        component_count-le (edge_at g k ∷ edges_at g chosen) (edges_at g chosen ++ edge_at g k ∷ []) g.nodes (λ u v h. joins-push (edges_at g chosen) (edge_at g k) u v ∙ h) in
        let s : component_count (edges_at g (chosen ++ k ∷ [])) g.nodes ≡ component_count (edges_at g chosen ++ edge_at g k ∷ []) g.nodes =
        ap (λ (xs : List Edge). component_count xs g.nodes) (edges_at-push g chosen k) in
        omega (arith, less, a, b, s, grown.count, length-append chosen (k ∷ []))

pub grown_as : (g : Digraph) (done chosen chosen' labels labels' : List ℕ) → chosen' ≡ chosen → labels' ≡ labels → IsGrown g done chosen labels → IsGrown g done chosen' labels'
grown_as g done chosen chosen' labels labels' e f h = subst (λ (ks : List ℕ). IsGrown g done ks labels') (sym e) (subst (λ (ls : List ℕ). IsGrown g done chosen ls) (sym f) h)

-- ---- through the edge that was read

pub choose_skip : (g : Digraph) (done chosen labels : List ℕ) (k : ℕ) (edge : Edge) (r : Bool) → edge ≡ edge_at g k → edge.from < g.nodes → edge.to < g.nodes
    → r ≡ same_label labels edge.from edge.to → r ≡ true → IsGrown g done chosen labels → AreNoHeavier g done (edge_at g k).weight → IsGrown g (done ++ k ∷ []) chosen labels
choose_skip g done chosen labels k edge r is from to says on grown up =
    grown_skip g done chosen labels k grown up (subst (λ (e : Edge). e.from < g.nodes) is from) (subst (λ (e : Edge). e.to < g.nodes) is to)
    (subst (λ (e : Edge). same_label labels e.from e.to ≡ true) is (sym says ∙ on))

pub choose_take : (g : Digraph) (done chosen labels new : List ℕ) (k : ℕ) (edge : Edge) (r : Bool) → edge ≡ edge_at g k → edge.from < g.nodes → edge.to < g.nodes
    → r ≡ same_label labels edge.from edge.to → r ≡ false → length new ≡ length labels
    → ((es : List Edge) (e : Edge) → e.from ≡ edge.from → e.to ≡ edge.to → Tells es labels → Tells (es ++ e ∷ []) new)
    → IsGrown g done chosen labels → IsGrown g (done ++ k ∷ []) (chosen ++ k ∷ []) new
choose_take g done chosen labels new k edge r is from to says off len tells grown =
    grown_take g done chosen labels new k grown (subst (λ (e : Edge). e.from < g.nodes) is from) (subst (λ (e : Edge). e.to < g.nodes) is to)
    (subst (λ (e : Edge). same_label labels e.from e.to ≡ false) is (sym says ∙ off)) len
    (tells (edges_at g chosen) (edge_at g k) (ap (λ (e : Edge). e.from) (sym is)) (ap (λ (e : Edge). e.to) (sym is)) grown.tells)
