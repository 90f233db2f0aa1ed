-- Which atoms are due since something new is known of their nodes.
use Rattle.std.proofs.Common.{◌≡◌, ℕ, ◌+◌, ◌<◌, ◌||◌, Bool, true, false, List, [], ◌∷◌, ◌++◌, length, get_or, refl, sym, subst, ◌∙◌, inl, inr, arith}
use Rattle.std.specs.Prelude.{IsTrue, slice_index}
use Rattle.std.proofs.lemmas.Bool.{cases_Bool, cases_lt, both_ways, false_from_ne_true, or_parts}
use Rattle.mono_base.specs.Worklist.{is_listed}
use Rattle.mono_graph.specs.Digraph.{has}
use Rattle.mono_graph.proofs.Membership.{has_append_cases, has_cons}
use Rattle.mono_bounds.specs.DueNodes.{PutsNodes, PutsRows}
use Rattle.mono_bounds.specs.Index.{ArePlacesOf}

-- what is due stays due
due_stays : (before after : List Bool) (a : ℕ) → ((b : ℕ) → is_listed after b ≡ false → is_listed before b ≡ false) → is_listed before a ≡ true → is_listed after a ≡ true
due_stays before after a stay on = elim (cases_Bool (is_listed after a)) [ inl t ↦ t | inr f ↦ absurd (both_ways (is_listed before a) (stay a f) on) ]

-- the atoms at these places are those of the node
pub puts_places : (node_of : List ℕ) (node : ℕ) (ks : List ℕ) (before after : List Bool) → ArePlacesOf node_of node ks → length after ≡ length before → ((a : ℕ) → is_listed after a ≡ (is_listed before a || has ks a)) → PutsNodes node_of (node ∷ []) before after
puts_places node_of node ks before after places size is = record {
  size = size;
  stay = λ a off. (or_parts (is_listed before a) (has ks a) (sym (is a) ∙ off)).0;
  each = λ a lt here. (let held = places.all a lt (is_node a here) in elim (cases_Bool (is_listed after a)) [
    | inl on ↦ on
    | inr off ↦ absurd (both_ways (has ks a) (or_parts (is_listed before a) (has ks a) (sym (is a) ∙ off)).1 held)
  ]);
}
  where
    is_node : (a : ℕ) → IsTrue (has (node ∷ []) (slice_index node_of a)) → slice_index node_of a ≡ node
    is_node a here = elim (has_cons node (slice_index node_of a) [] here) [ inl e ↦ sym e | inr none ↦ absurd cc ]

pub puts_none : (node_of : List ℕ) (due : List Bool) → PutsNodes node_of [] due due
puts_none node_of due = record { size = refl; stay = λ a off. off; each = λ a lt here. absurd cc }

pub puts_more : {node_of nodes : List ℕ} {before between after : List Bool} (more : List ℕ) → PutsNodes node_of nodes before between → PutsNodes node_of more between after → PutsNodes node_of (nodes ++ more) before after
puts_more {node_of = node_of} {nodes = nodes} {between = between} {after = after} more h k = record {
  size = k.size ∙ h.size;
  stay = λ a off. h.stay a (k.stay a off);
  each = λ a lt here. elim (has_append_cases nodes more (slice_index node_of a) here) [
    | inl old ↦ due_stays between after a k.stay (h.each a lt old)
    | inr new ↦ k.each a lt new
  ];
}

pub rows_none : {R : Type 0} (node_of : List ℕ) (nodes : R → List ℕ) (rows : List R) (due : List Bool) → PutsRows node_of nodes rows 0 due due
rows_none node_of nodes rows due = record { size = refl; stay = λ a off. off; each = λ i a d low lt here. absurd (omega (arith, low)) }

-- one more row
pub rows_more : {R : Type 0} {node_of : List ℕ} {nodes : R → List ℕ} {rows : List R} {n : ℕ} {before between after : List Bool} (row : R) → ((d : R) → row ≡ get_or rows n d) → PutsRows node_of nodes rows n before between
    → PutsNodes node_of (nodes row) between after → PutsRows node_of nodes rows (n + 1) before after
rows_more {R = R} {node_of = node_of} {nodes = nodes} {rows = rows} {n = n} {between = between} {after = after} row is h k = record {
  size = k.size ∙ h.size;
  stay = λ a off. h.stay a (k.stay a off);
  each = λ i a d low lt here. elim (cases_lt i n) [
    | inl before ↦ due_stays between after a k.stay (h.each i a d before lt here)
    | inr past ↦
        k.each a lt (subst (λ (x : R). IsTrue (has (nodes x) (slice_index node_of a))) (sym (is d)) (subst (λ (j : ℕ). IsTrue (has (nodes (get_or rows j d)) (slice_index node_of a))) (omega (arith, low, past)) here))
  ];
}

-- of an atom that isn't due nothing new is known
pub none_new : {R : Type 0} {node_of : List ℕ} {nodes : R → List ℕ} {rows : List R} {n : ℕ} {before after : List Bool} (i a : ℕ) (d : R) → PutsRows node_of nodes rows n before after → i < n → a < length node_of → is_listed after a ≡ false
    → has (nodes (get_or rows i d)) (slice_index node_of a) ≡ false
none_new {node_of = node_of} {nodes = nodes} {rows = rows} {after = after} i a d h low lt off =
    false_from_ne_true (has (nodes (get_or rows i d)) (slice_index node_of a)) (λ here. both_ways (is_listed after a) off (h.each i a d low lt here))
