-- The nodes that were reached are those to which a walk leads, after each number of steps.
use Rattle.std.proofs.Common.{◌≡◌, ℕ, zero, suc, ◌<◌, ◌≤◌, Bool, false, List, [], ◌∷◌, ◌++◌, length, drop, refl, sym, ap, subst, ◌∙◌, inl, inr, arith}
use Rattle.std.specs.Prelude.{IsTrue, All}
use Rattle.std.proofs.lemmas.Bool.{or_cases, or_left, ltb-true, cases_lt, both_ways}
use Rattle.std.proofs.lemmas.List.{drop_all}
use Rattle.std.proofs.lemmas.List.Elements.{All-cons, All-nil}
use Rattle.mono_graph.specs.Digraph.{Digraph, edge_at, present, has}
use Rattle.mono_graph.specs.Walks.{is_walk}
use Rattle.mono_graph.proofs.CutsBoundWalks.{IsClosed, stays}
use Rattle.mono_graph.proofs.GrownWalks.{walks, walk_front, walk_none, walk_push}
use Rattle.mono_dynamic.specs.declared.arrival.Arrival.{Arrival}
use Rattle.mono_dynamic.specs.Arrivals.{arrival_at, at_source, reached, is_reached, within, IsTree, AreReached, AreReachedAlong, IsGrown, GrowsAfter}
use Rattle.mono_dynamic.specs.Reached.{Reached, IsSpread}
use Rattle.mono_dynamic.proofs.Listed.{reached_index, reached_here, within_all, within_here, within_past, count_of}
use Rattle.mono_dynamic.proofs.Followed.{IsGrowing}

-- the tree's edges lead back to the source
tree_walk : (g : Digraph) (P : List Bool) (u : ℕ) (xs : List Arrival) (n i v : ℕ) (ks : List ℕ) → IsTree g P u xs → i < n → i < length xs → IsTrue (is_walk g P (arrival_at xs i).node v ks)
    → (js : List ℕ) × IsTrue (is_walk g P u v js)
tree_walk g P u xs zero i v ks t low lt h = absurd (omega arith)
tree_walk g P u xs (suc n) zero v ks t low lt h = (ks, subst (λ (w : ℕ). IsTrue (is_walk g P w v ks)) t.source h)
tree_walk g P u xs (suc n) (suc i) v ks t low lt h =
    let l = t.led (suc i) (omega arith) lt in
    let b : (arrival_at xs (suc i)).before < suc i = l.before in
    tree_walk g P u xs n (arrival_at xs (suc i)).before v ((arrival_at xs (suc i)).place ∷ ks) t (omega arith) (omega arith)
    (walk_front g P (arrival_at xs (arrival_at xs (suc i)).before).node (arrival_at xs (suc i)).node v (arrival_at xs (suc i)).place ks h l.known l.present l.from l.to)

pub reached_walk : (g : Digraph) (P : List Bool) (u v : ℕ) (xs : List Arrival) → IsTree g P u xs → IsTrue (is_reached xs v) → (ks : List ℕ) × IsTrue (is_walk g P u v ks)
reached_walk g P u v xs t h =
    let r = reached_index xs v h in
    tree_walk g P u xs (suc r.0) r.0 v [] t (omega arith) r.1 (subst (λ (w : ℕ). IsTrue (is_walk g P (arrival_at xs r.0).node w [])) r.2 (walk_none g P (arrival_at xs r.0).node))

source_reached : (g : Digraph) (P : List Bool) (u : ℕ) (xs : List Arrival) → IsTree g P u xs → IsTrue (is_reached xs u)
source_reached g P u xs t = subst (λ (w : ℕ). IsTrue (is_reached xs w)) t.source (reached_here xs 0 t.some)

-- where no edge is left to follow, no walk leads on
pub are_reached : (g : Digraph) (P : List Bool) (u head : ℕ) (xs : List Arrival) → IsTree g P u xs → length xs ≤ head → IsSpread g P xs head [] → AreReached g P u xs
are_reached g P u head xs t le s = record {
  tree = t;
  exact = λ v. (
    reached_walk g P u v xs t,
    λ w. let x = walks g P u v w.0 w.1 in stays g P (reached xs) closed u w.0 v x.known x.here x.way (source_reached g P u xs t),
  );
}
  where
    none_late : drop head (reached xs) ≡ []
    none_late = drop_all head (reached xs) (omega (arith, count_of xs))

    closed : IsClosed g P (reached xs)
    closed = record {
      step = λ k known here from. elim (s.each k (ltb-true k (length g.edges) known) here from) [
        | inl done ↦ elim done [
          | inl to ↦ to
          | inr late ↦ absurd (let nothing : IsTrue (has [] (edge_at g k).from) = subst (λ (us : List ℕ). IsTrue (has us (edge_at g k).from)) none_late late in cc)
        ]
        | inr none ↦ absurd cc
      ];
    }

pub spread_start : (g : Digraph) (P Q : List Bool) (u : ℕ) (xs : List Arrival) (ks : List ℕ) → AreReached g P u xs → IsGrown P Q ks → IsSpread g Q xs (length xs) ks
spread_start g P Q u xs ks r grown = record {
  each = λ k lt here from. elim (or_cases (present P k) (has ks k) (sym (grown.each k) ∙ here)) [
    | inl old ↦
        let w = (r.exact (edge_at g k).from).0 from in
        inl (inl ((r.exact (edge_at g k).to).1 (w.0 ++ k ∷ [], walk_push g P u (edge_at g k).from k w.0 w.1 lt old refl)))
    | inr due ↦ inr due
  ];
}

pub tree_grown : (g : Digraph) (P Q : List Bool) (u : ℕ) (xs : List Arrival) (ks : List ℕ) → IsGrown P Q ks → IsTree g P u xs → IsTree g Q u xs
tree_grown g P Q u xs ks grown t = record {
  some = t.some;
  source = t.source;
  led = λ i pos lt. let l = t.led i pos lt in record {
    before = l.before;
    known = l.known;
    present = grown.each (arrival_at xs i).place ∙ or_left (present P (arrival_at xs i).place) (has ks (arrival_at xs i).place) l.present;
    from = l.from;
    to = l.to;
  };
}

pub grown_reached : (g : Digraph) (P Q : List Bool) (stamp : ℕ) (places : List ℕ) (old new : Reached) (head : ℕ) → IsGrowing g Q stamp places old new head → length new.arrivals ≤ head
    → AreReached g P old.source old.arrivals → IsGrown P Q places → AreReached g Q old.source new.arrivals
grown_reached g P Q stamp places old new head w le r grown =
    are_reached g Q old.source head new.arrivals (w.tree old.source (tree_grown g P Q old.source old.arrivals places grown r.tree)) le
    (w.spread (spread_start g P Q old.source old.arrivals places r grown))

-- ---- after each number of steps

pub along_grown : (g : Digraph) (parts : ℕ → List Bool) (n last u : ℕ) (xs ys : List Arrival) (Q : List Bool) (ks : List ℕ) → AreReachedAlong g parts n u xs → GrowsAfter parts n last Q ks
    → ((m : ℕ) → m < last → within m ys ≡ within m xs) → All (λ (a : Arrival). a.stamp ≤ last) ys → ((P : List Bool) → AreReached g P u xs → IsGrown P Q ks → AreReached g Q u ys)
    → AreReachedAlong g parts last u ys
along_grown g parts n last u xs ys Q ks r grows earlier stamps grown =
    let whole : AreReached g (parts n) u xs = subst (λ (zs : List Arrival). AreReached g (parts n) u zs) (within_all n xs r.latest) (r.each n (omega arith)) in
    record {
      each = λ m le. elim (cases_lt m last) [
        | inl less ↦ subst (λ (zs : List Arrival). AreReached g (parts m) u zs) (sym (earlier m less)) (elim (cases_lt n m) [
          | inl past ↦
              subst (λ (P : List Bool). AreReached g P u (within m xs)) (sym (grows.still m (omega arith) less))
              (subst (λ (zs : List Arrival). AreReached g (parts n) u zs) (sym (within_all m xs (λ i d lt. (let s = r.latest i d lt in omega arith)))) whole)
          | inr low ↦ r.each m low
        ])
        | inr more ↦
            let e : last ≡ m = omega arith in
            subst (λ (j : ℕ). AreReached g (parts j) u (within j ys)) e
            (subst (λ (P : List Bool). AreReached g P u (within last ys)) (sym grows.is)
            (subst (λ (zs : List Arrival). AreReached g Q u zs) (sym (within_all last ys stamps)) (grown (parts n) whole grows.grown)))
      ];
      latest = stamps;
    }

within_twice : (m n : ℕ) (xs : List Arrival) → m ≤ n → within m (within n xs) ≡ within m xs
within_twice m n [] le = refl
within_twice m n (x ∷ xs) le = elim (cases_lt n x.stamp) [
  | inl past ↦ ap (λ (ys : List Arrival). within m ys) (within_past n x xs past) ∙ (within_twice m n xs le ∙ sym (within_past m x xs (omega arith)))
  | inr here ↦ ap (λ (ys : List Arrival). within m ys) (within_here n x xs here) ∙ elim (cases_lt m x.stamp) [
    | inl later ↦ within_past m x (within n xs) later ∙ (within_twice m n xs le ∙ sym (within_past m x xs later))
    | inr low ↦ within_here m x (within n xs) low ∙ (ap (λ (ys : List Arrival). x ∷ ys) (within_twice m n xs le) ∙ sym (within_here m x xs low))
  ]
]

pub within_latest : (m : ℕ) (xs : List Arrival) → All (λ (a : Arrival). a.stamp ≤ m) (within m xs)
within_latest m [] = λ i d lt. absurd (omega arith)
within_latest m (x ∷ xs) = elim (cases_lt m x.stamp) [
  | inl past ↦ subst (λ (ys : List Arrival). All (λ (a : Arrival). a.stamp ≤ m) ys) (sym (within_past m x xs past)) (within_latest m xs)
  | inr here ↦ subst (λ (ys : List Arrival). All (λ (a : Arrival). a.stamp ≤ m) ys) (sym (within_here m x xs here)) (All-cons (λ (a : Arrival). a.stamp ≤ m) x (within m xs) here (within_latest m xs))
]

pub along_undone : (g : Digraph) (parts : ℕ → List Bool) (kept n u : ℕ) (xs : List Arrival) → kept ≤ n → AreReachedAlong g parts n u xs → AreReachedAlong g parts kept u (within kept xs)
along_undone g parts kept n u xs le r = record {
  each = λ m low. subst (λ (ys : List Arrival). AreReached g (parts m) u ys) (sym (within_twice m kept xs low)) (r.each m (omega arith));
  latest = within_latest kept xs;
}

-- ---- laws

pub along_first : (g : Digraph) (parts : ℕ → List Bool) (u : ℕ) → ((k : ℕ) → present (parts 0) k ≡ false) → AreReachedAlong g parts 0 u (at_source u ∷ [])
along_first g parts u none = record {
  each = λ m le. let e : 0 ≡ m = omega arith in subst (λ (j : ℕ). AreReached g (parts j) u (within j (at_source u ∷ []))) e (are_reached g (parts 0) u 1 (at_source u ∷ [])
      (record { some = omega arith; source = refl; led = λ i pos lt. absurd (omega arith) })
      (omega arith)
      (record { each = λ k lt here from. absurd (both_ways (present (parts 0) k) (none k) here) }));
  latest = All-cons (λ (a : Arrival). a.stamp ≤ 0) (at_source u) [] (omega arith) (All-nil (λ (a : Arrival). a.stamp ≤ 0));
}

pub along_same : (g : Digraph) (parts others : ℕ → List Bool) (n u : ℕ) (xs : List Arrival) → ((m : ℕ) → m ≤ n → others m ≡ parts m) → AreReachedAlong g parts n u xs → AreReachedAlong g others n u xs
along_same g parts others n u xs same r = record {
  each = λ m le. subst (λ (P : List Bool). AreReached g P u (within m xs)) (sym (same m le)) (r.each m le);
  latest = r.latest;
}

pub along_still : (g : Digraph) (parts : ℕ → List Bool) (n last u : ℕ) (xs : List Arrival) → n ≤ last → ((m : ℕ) → n ≤ m → m ≤ last → parts m ≡ parts n) → AreReachedAlong g parts n u xs → AreReachedAlong g parts last u xs
along_still g parts n last u xs le still r = record {
  each = λ m low. elim (cases_lt n m) [
    | inl past ↦
        subst (λ (P : List Bool). AreReached g P u (within m xs)) (sym (still m (omega arith) low))
        (subst (λ (ys : List Arrival). AreReached g (parts n) u ys) (within_all n xs r.latest ∙ sym (within_all m xs (λ i d lt. (let s = r.latest i d lt in omega arith)))) (r.each n (omega arith)))
    | inr here ↦ r.each m here
  ];
  latest = λ i d lt. (let s = r.latest i d lt in omega arith);
}
