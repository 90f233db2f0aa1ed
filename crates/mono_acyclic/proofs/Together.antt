-- Edges that come to a part with an order together, and go together.
use Rattle.std.proofs.Common.{◌≡◌, ℕ, ◌<◌, Bool, true, false, not, ◌&&◌, ◌||◌, List, [], ◌∷◌, ◌++◌, length, take, set, refl, sym, ap, subst, ◌∙◌, ◌⊎◌, inl, inr}
use Rattle.std.specs.Prelude.{IsTrue, ◌==◌}
use Rattle.std.proofs.lemmas.Bool.{cases_eq, eqb-true, eq-eqb, ne_eqb, or_cases, or_left, or_right}
use Rattle.std.proofs.lemmas.List.Folds.{list_any-append}
use Rattle.std.proofs.lemmas.List.{get_or-set_same, get_or-set_other}
use Rattle.mono_graph.specs.Digraph.{Digraph, IsSubpart, present, has}
use Rattle.mono_graph.specs.Cycles.{is_order, is_cycle}
use Rattle.mono_graph.proofs.RisingRanks.{is_order-smaller, is_cycle-larger}
use Rattle.mono_graph.proofs.Prefixes.{take_has}
use Rattle.mono_cycles.specs.Kept.{PartWithOrder, IsGrownBy}
use Rattle.mono_dynamic.specs.Arrivals.{IsGrown}
use Rattle.mono_cycles.proofs.Ordered.{put_taken}
use Rattle.mono_acyclic.specs.Together.{HasSameEdges, IsPutIn}

-- ---- one edge

or_twice : (a b : Bool) → a ≡ true → a ≡ (a || b)
or_twice true b h = refl
or_twice false b h = absurd cc

-- an edge that is there already has come
pub there_grown : (P : List Bool) (place : ℕ) → present P place ≡ true → IsGrownBy P P place
there_grown P place here = record {
  each = λ k. elim (cases_eq k place) [
    | inl e ↦ or_twice (present P k) (k == place) (ap (λ (j : ℕ). present P j) e ∙ here)
    | inr ne ↦ none (present P k) ∙ ap (λ (b : Bool). present P k || b) (sym (ne_eqb k place ne))
  ];
}
  where
    none : (a : Bool) → a ≡ (a || false)
    none true = refl
    none false = refl

-- the order of a part is one of each that has the same edges
pub same_order : (g : Digraph) (P Q : List Bool) (ns : List ℕ) → ((k : ℕ) → present Q k ≡ present P k) → IsTrue (is_order g P ns) → IsTrue (is_order g Q ns)
same_order g P Q ns same h = is_order-smaller g Q P (record { keeps = λ k here. sym (same k) ∙ here }) ns h

pub set_grown : (P : List Bool) (place : ℕ) → place < length P → IsGrownBy P (set P place true) place
set_grown P place lt = record {
  each = λ k. elim (cases_eq k place) [
    | inl e ↦ subst (λ (j : ℕ). present (set P place true) j ≡ (present P j || j == place)) (sym e) (get_or-set_same P place true false lt ∙ sym (or_right (present P place) (place == place) (eq-eqb place place refl)))
    | inr ne ↦ get_or-set_other P place k true false ne ∙ (none (present P k) ∙ ap (λ (b : Bool). present P k || b) (sym (ne_eqb k place ne)))
  ];
}
  where
    none : (a : Bool) → a ≡ (a || false)
    none true = refl
    none false = refl

-- a cycle of the edges that are there and one more is one of each part that has them all
pub closed_in : (g : Digraph) (P Q : List Bool) (place : ℕ) (cycle : List ℕ) → place < length P → ((R : List Bool) → IsGrownBy P R place → IsTrue (is_cycle g R cycle)) → IsSubpart P Q → IsTrue (present Q place) → IsTrue (is_cycle g Q cycle)
closed_in g P Q place cycle lt closes sub here =
    let grown = set_grown P place lt in
    is_cycle-larger g (set P place true) Q (record {
      keeps = λ k on. elim (or_cases (present P k) (k == place) (sym (grown.each k) ∙ on)) [
        | inl old ↦ sub.keeps k old
        | inr new ↦ subst (λ (j : ℕ). IsTrue (present Q j)) (sym (eqb-true k place new)) here
      ];
    }) cycle (closes (set P place true) grown)

-- ---- several

or_assoc : (a b c : Bool) → ((a || b) || c) ≡ (a || (b || c))
or_assoc true b c = refl
or_assoc false b c = refl

has_pushed : (ks : List ℕ) (k j : ℕ) → has (ks ++ k ∷ []) j ≡ (has ks j || j == k)
has_pushed ks k j = list_any-append (λ v. v == j) ks (k ∷ []) ∙ ap (λ (b : Bool). has ks j || b) (last (cases_eq k j))
  where
    last : (k ≡ j) ⊎ (k ≡ j → ⊥) → (k == j || false) ≡ (j == k)
    last (inl e) = ap (λ (b : Bool). b || false) (eq-eqb k j e) ∙ sym (eq-eqb j k (sym e))
    last (inr ne) = ap (λ (b : Bool). b || false) (ne_eqb k j ne) ∙ sym (ne_eqb j k (λ e. ne (sym e)))

pub put_none : (g : Digraph) (o : PartWithOrder) (ks : List ℕ) → ks ≡ [] → IsPutIn g o o ks
put_none g o ks none = record {
  size = refl;
  part_size = refl;
  grown = record { each = λ k. subst (λ (js : List ℕ). present o.part k ≡ (present o.part k || has js k)) (sym none) (same (present o.part k)) };
  order = λ h. h;
}
  where
    same : (a : Bool) → a ≡ (a || false)
    same true = refl
    same false = refl

pub put_more : (g : Digraph) (old mid new : PartWithOrder) (ks js : List ℕ) (k : ℕ) → js ≡ ks ++ k ∷ [] → IsPutIn g old mid ks → length new.order ≡ length mid.order → length new.part ≡ length mid.part → IsGrownBy mid.part new.part k
    → (IsTrue (is_order g mid.part mid.order) → IsTrue (is_order g new.part new.order)) → IsPutIn g old new js
put_more g old mid new ks js k is h size part_size one order = record {
  size = size ∙ h.size;
  part_size = part_size ∙ h.part_size;
  grown = record { each = λ j. one.each j ∙ ap (λ (b : Bool). b || j == k) (h.grown.each j) ∙ or_assoc (present old.part j) (has ks j) (j == k) ∙ ap (λ (b : Bool). present old.part j || b) (sym (ap (λ (is : List ℕ). has is j) is ∙ has_pushed ks k j)) };
  order = λ t. order (h.order t);
}

-- an edge that closed a cycle isn't there
pub put_same : (g : Digraph) (old mid new : PartWithOrder) (ks : List ℕ) → IsPutIn g old mid ks → length new.order ≡ length mid.order → length new.part ≡ length mid.part → ((k : ℕ) → present new.part k ≡ present mid.part k)
    → (IsTrue (is_order g mid.part mid.order) → IsTrue (is_order g new.part new.order)) → IsPutIn g old new ks
put_same g old mid new ks h size part_size same order = record {
  size = size ∙ h.size;
  part_size = part_size ∙ h.part_size;
  grown = record { each = λ j. same j ∙ h.grown.each j };
  order = λ t. order (h.order t);
}

-- what has come of the edges is in each part to which all of them come
pub put_within : (g : Digraph) (old mid : PartWithOrder) (Q : List Bool) (ks : List ℕ) (n : ℕ) → IsPutIn g old mid (take n ks) → IsGrown old.part Q ks → IsSubpart mid.part Q
put_within g old mid Q ks n h all = record {
  keeps = λ k here. all.each k ∙ (elim (or_cases (present old.part k) (has (take n ks) k) (sym (h.grown.each k) ∙ here)) [
    | inl was ↦ or_left (present old.part k) (has ks k) was
    | inr new ↦ or_right (present old.part k) (has ks k) (take_has ks n k new)
  ]);
}

pub put_here : (P Q : List Bool) (ks : List ℕ) (k : ℕ) → IsGrown P Q ks → IsTrue (has ks k) → IsTrue (present Q k)
put_here P Q ks k all there = all.each k ∙ or_right (present P k) (has ks k) there

-- ---- out again

not_or : (a b c : Bool) → (not b && (not a && c)) ≡ (not (a || b) && c)
not_or true true c = refl
not_or true false c = refl
not_or false true c = refl
not_or false false c = refl

-- one edge more is out
pub out_more : (P Q R : List Bool) (ks js : List ℕ) (k : ℕ) → js ≡ ks ++ k ∷ [] → ((j : ℕ) → present Q j ≡ (not (has ks j) && present P j)) → ((j : ℕ) → present R j ≡ (not (j == k) && present Q j)) → (j : ℕ) → present R j ≡ (not (has js j) && present P j)
out_more P Q R ks js k is out one j =
    one j ∙ ap (λ (b : Bool). not (j == k) && b) (out j) ∙ not_or (has ks j) (j == k) (present P j) ∙ ap (λ (b : Bool). not b && present P j) (sym (ap (λ (is : List ℕ). has is j) is ∙ has_pushed ks k j))

-- edges that weren't there have come, some of them or all, and are out again
pub out_again : (P Q R : List Bool) (ks js : List ℕ) → IsGrown P Q js → ((k : ℕ) → IsTrue (has js k) → IsTrue (has ks k)) → ((k : ℕ) → IsTrue (has ks k) → present P k ≡ false) → ((k : ℕ) → present R k ≡ (not (has ks k) && present Q k)) → (k : ℕ) → present R k ≡ present P k
out_again P Q R ks js grown within apart out k =
    out k ∙ ap (λ (b : Bool). not (has ks k) && b) (grown.each k) ∙ by (has ks k) (has js k) (present P k) (within k) (apart k)
  where
    by : (a b p : Bool) → (IsTrue b → IsTrue a) → (IsTrue a → p ≡ false) → (not a && (p || b)) ≡ p
    by true b p w f = sym (f refl)
    by false true p w f = absurd (let e = w refl in cc)
    by false false true w f = refl
    by false false false w f = refl

-- ---- an edge that is tried

or_swap : (a b : Bool) → (a || b) ≡ (b || a)
or_swap true true = refl
or_swap true false = refl
or_swap false true = refl
or_swap false false = refl

-- it came and goes again
pub grown_taken : (P Q R : List Bool) (place : ℕ) → IsGrownBy P Q place → ((k : ℕ) → present R k ≡ (not (k == place) && present Q k)) → present P place ≡ false → (k : ℕ) → present R k ≡ present P k
grown_taken P Q R place grown taken absent = put_taken P Q R place (λ k. grown.each k ∙ or_swap (present P k) (k == place)) taken absent

pub same_edges : (g : Digraph) (o : PartWithOrder) → HasSameEdges g o o
same_edges g o = record { size = refl; part_size = refl; part = λ k. refl; order = λ h. h }

pub same_edges_on : {g : Digraph} {o m r : PartWithOrder} → HasSameEdges g o m → HasSameEdges g m r → HasSameEdges g o r
same_edges_on a b = record {
  size = b.size ∙ a.size;
  part_size = b.part_size ∙ a.part_size;
  part = λ k. b.part k ∙ a.part k;
  order = λ h. b.order (a.order h);
}
