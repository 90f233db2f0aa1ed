-- Predicates that ask for a walk: when they hold, and the rows from which their walks are searched.
use Rattle.std.proofs.Common.{◌≡◌, ℕ, ◌+◌, ◌<◌, ◌≤◌, Bool, true, false, List, [], ◌∷◌, ◌++◌, length, get_or, refl, sym, ap, subst, ◌∙◌, inl, inr, arith, ℤ, pos, ◌+ℤ◌, int_lt}
use Rattle.std.specs.Prelude.{IsTrue}
use Rattle.std.proofs.lemmas.Bool.{cases_lt}
use Rattle.std.proofs.lemmas.Int.{ints}
use Rattle.std.proofs.lemmas.List.{length-append, get_or_append_left}
use Rattle.std.proofs.Math.Seq.{get_or-append_seam}
use Rattle.mono_graph.specs.Digraph.{Digraph}
use Rattle.mono_graph.specs.declared.limit.Limit.{Limit}
use Rattle.mono_graph.specs.declared.limit.Limit.TheVariants as limit
use Rattle.mono_graph.specs.Walks.{bound_of, is_path, IsBounded}
use Rattle.mono_dynamic.specs.declared.cost_source.CostSource.{CostSource}
use Rattle.mono_dynamic.specs.LeastRows.{cost_slot, measure_of}
use Rattle.mono_dynamic.specs.Sources.{HaveRows as AreServed}
use Rattle.mono_problem.specs.declared.atom.Atom.{Atom}
use Rattle.mono_problem.specs.declared.atom.Predicate.{Predicate}
use Rattle.mono_problem.specs.declared.atom.Predicate.TheVariants as kind
use Rattle.mono_problem.specs.Holds.{Holds, falls}
use Rattle.mono_problem.specs.WellFormed.{IsOver}
use Rattle.mono_theory.specs.Asked.{asks_walk, first_node, last_node, limit_of, no_source, predicate_of, source_at, target_of, AreOfAtoms, HasTarget, HaveRows, IsSourceFor}
use Rattle.mono_theory.specs.Supports.{atom_at}

-- ---- when they hold

pub walk_holds : (g : Digraph) (P : List Bool) (q : Predicate) → IsTrue (asks_walk q) → ((ks : List ℕ) × IsTrue (is_path g P (first_node q) (last_node q) (limit_of q) ks)) → Holds g P q
walk_holds g P (kind.Reach u v) asks w = w
walk_holds g P (kind.Steps u v most) asks w = w
walk_holds g P (kind.Distance u v most) asks w = w
walk_holds g P (kind.Flow u v least) asks w = absurd cc
walk_holds g P (kind.Tree most) asks w = absurd cc
walk_holds g P kind.Acyclic asks w = absurd cc

pub holds_walk : (g : Digraph) (P : List Bool) (q : Predicate) → IsTrue (asks_walk q) → Holds g P q → (ks : List ℕ) × IsTrue (is_path g P (first_node q) (last_node q) (limit_of q) ks)
holds_walk g P (kind.Reach u v) asks w = w
holds_walk g P (kind.Steps u v most) asks w = w
holds_walk g P (kind.Distance u v most) asks w = w
holds_walk g P (kind.Flow u v least) asks w = absurd cc
holds_walk g P (kind.Tree most) asks w = absurd cc
holds_walk g P kind.Acyclic asks w = absurd cc

-- they rise as edges come
pub walk_rises : (q : Predicate) → IsTrue (asks_walk q) → falls q ≡ false
walk_rises (kind.Reach u v) asks = refl
walk_rises (kind.Steps u v most) asks = refl
walk_rises (kind.Distance u v most) asks = refl
walk_rises (kind.Flow u v least) asks = refl
walk_rises (kind.Tree most) asks = refl
walk_rises kind.Acyclic asks = absurd cc

-- ---- what they ask for

pub asks_for : (u v : ℕ) (l : Limit) → IsTrue (asks_walk (predicate_of u v l))
asks_for u v limit.Free = refl
asks_for u v (limit.Steps most) = refl
asks_for u v (limit.Weight most) = refl

pub target_asked : (u v : ℕ) (l : Limit) → record { node = v; limit = l } ≡ target_of (predicate_of u v l)
target_asked u v limit.Free = refl
target_asked u v (limit.Steps most) = refl
target_asked u v (limit.Weight most) = refl

pub first_asked : (u v : ℕ) (l : Limit) → first_node (predicate_of u v l) ≡ u
first_asked u v limit.Free = refl
first_asked u v (limit.Steps most) = refl
first_asked u v (limit.Weight most) = refl

pub last_asked : (u v : ℕ) (l : Limit) → last_node (predicate_of u v l) ≡ v
last_asked u v limit.Free = refl
last_asked u v (limit.Steps most) = refl
last_asked u v (limit.Weight most) = refl

pub limit_asked : (u v : ℕ) (l : Limit) → limit_of (predicate_of u v l) ≡ l
limit_asked u v limit.Free = refl
limit_asked u v (limit.Steps most) = refl
limit_asked u v (limit.Weight most) = refl

pub asked_target : (q : Predicate) (u v : ℕ) (l : Limit) → q ≡ predicate_of u v l → HasTarget q (record { node = v; limit = l })
asked_target q u v l is = subst (λ (p : Predicate). HasTarget p (record { node = v; limit = l })) (sym is) (record { asks = asks_for u v l; is = target_asked u v l })

-- their nodes are those of the graph, and their limits have bounds that predicates may have
pub first_known : (g : Digraph) (u v : ℕ) (l : Limit) → IsOver g (predicate_of u v l) → u < g.nodes
first_known g u v limit.Free h = h.0
first_known g u v (limit.Steps most) h = h.0
first_known g u v (limit.Weight most) h = h.0

pub last_known : (g : Digraph) (u v : ℕ) (l : Limit) → IsOver g (predicate_of u v l) → v < g.nodes
last_known g u v limit.Free h = h.1
last_known g u v (limit.Steps most) h = h.1
last_known g u v (limit.Weight most) h = h.1

pub bounded : (g : Digraph) (u v : ℕ) (l : Limit) → IsOver g (predicate_of u v l) → IsBounded l
bounded g u v limit.Free h = tt
bounded g u v (limit.Steps most) h = h.2
bounded g u v (limit.Weight most) h = h.2

pub target_known : (g : Digraph) (q : Predicate) → IsTrue (asks_walk q) → IsOver g q → (target_of q).node < g.nodes
target_known g (kind.Reach u v) asks over = over.1
target_known g (kind.Steps u v most) asks over = over.1
target_known g (kind.Distance u v most) asks over = over.1
target_known g (kind.Flow u v least) asks over = absurd cc
target_known g (kind.Tree most) asks over = absurd cc
target_known g kind.Acyclic asks over = absurd cc

-- ---- from where they are searched

one_more : (b : ℤ) (n : ℕ) → pos n ≡ b +ℤ pos 1 → int_lt b (pos n) ≡ true
one_more b n e = grind (arith, ints)

pub source_asked : (u v cap : ℕ) (l : Limit) → pos cap ≡ bound_of l +ℤ pos 1 → IsSourceFor (predicate_of u v l) (record { node = u; limit = l; cap = cap })
source_asked u v cap l high = record {
  node = sym (first_asked u v l);
  alike = ap measure_of (sym (limit_asked u v l));
  beyond = ap (λ (k : Limit). int_lt (bound_of k) (pos cap)) (limit_asked u v l) ∙ one_more (bound_of l) cap high;
}

measure_small : (l : Limit) → measure_of l < 3
measure_small limit.Free = omega arith
measure_small (limit.Steps a) = omega arith
measure_small (limit.Weight a) = omega arith

-- a slot is a node and a measure
slot_parts : (s t : CostSource) → cost_slot s ≡ cost_slot t → (s.node ≡ t.node) × (measure_of s.limit ≡ measure_of t.limit)
slot_parts s t same = (let a = measure_small s.limit in let b = measure_small t.limit in (omega (arith, same, a, b), omega (arith, same, a, b)))

high_enough : (b : ℤ) (m n : ℕ) → m ≤ n → int_lt b (pos m) ≡ true → int_lt b (pos n) ≡ true
high_enough b m n le h = grind (arith, ints)

-- a row that has what is asked serves the predicate
source_had : (q : Predicate) (asked s : CostSource) → IsSourceFor q asked → cost_slot s ≡ cost_slot asked → asked.cap ≤ s.cap → IsSourceFor q s
source_had q asked s h same high =
    let parts = slot_parts s asked same in
    record {
      node = parts.0 ∙ h.node;
      alike = parts.1 ∙ h.alike;
      beyond = high_enough (bound_of (limit_of q)) asked.cap s.cap high h.beyond;
    }

pub rows_of_asked : {atoms : List Atom} {asked rows : List CostSource} {row_of : List ℕ} → AreOfAtoms IsSourceFor atoms (length atoms) asked → AreServed cost_slot (λ s. s.cap) asked (length asked) row_of rows → HaveRows atoms (length atoms) row_of rows
rows_of_asked {atoms = atoms} {asked = asked} {rows = rows} {row_of = row_of} h served = record {
  len = served.len ∙ h.len;
  each = λ a lt. (let one = served.each a no_source (let len = h.len in omega (arith, lt, len)) in
      (one.held, source_had (atom_at atoms a).predicate (get_or asked a no_source) (source_at rows (get_or row_of a 0)) (h.each a no_source lt) (one.slot_is no_source) (one.enough no_source)));
}

-- one more atom
pub of_more : {X : Type 0} {Is : Predicate → X → Type 0} {atoms : List Atom} {n : ℕ} {xs : List X} (x : X) → Is (atom_at atoms n).predicate x → AreOfAtoms Is atoms n xs → AreOfAtoms Is atoms (n + 1) (xs ++ x ∷ [])
of_more {X = X} {Is = Is} {atoms = atoms} {n = n} {xs = xs} x is h = record {
  len = (let len = h.len in omega (arith, len, length-append xs (x ∷ [])));
  each = λ a d low. elim (cases_lt a n) [
    | inl before ↦ (let len = h.len in subst (λ (y : X). Is (atom_at atoms a).predicate y) (sym (get_or_append_left xs (x ∷ []) d a (omega (arith, before, len)))) (h.each a d before))
    | inr past ↦
        let len = h.len in
        let last : a ≡ length xs = omega (arith, low, past, len) in
        subst (λ (k : ℕ). Is (atom_at atoms k).predicate (get_or (xs ++ x ∷ []) a d)) (sym (last ∙ len))
        (subst (λ (k : ℕ). Is (atom_at atoms n).predicate (get_or (xs ++ x ∷ []) k d)) (sym last) (subst (λ (y : X). Is (atom_at atoms n).predicate y) (sym (get_or-append_seam xs x [] d)) is))
  ];
}
