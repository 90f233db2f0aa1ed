-- Walks that are read off by going back from arrival to arrival.
use Rattle.std.proofs.Common.{◌≡◌, ℕ, ◌<◌, ◌≤◌, Bool, List, [], ◌∷◌, ◌++◌, length, reverse, sym, ap, subst, ◌∙◌, arith}
use Rattle.std.specs.Prelude.{IsTrue}
use Rattle.std.proofs.lemmas.List.{reverse-append}
use Rattle.mono_graph.specs.Digraph.{Digraph, edge_at, present}
use Rattle.mono_graph.specs.Walks.{is_walk}
use Rattle.mono_dynamic.specs.declared.arrival.Arrival.{Arrival}
use Rattle.mono_dynamic.specs.Arrivals.{arrival_at, within, IsTree}
use Rattle.mono_dynamic.specs.Reached.{AreOrdered}
use Rattle.mono_dynamic.proofs.Listed.{within_at}
use Rattle.mono_graph.proofs.GrownWalks.{walk_front, walk_none}

-- the places lead back from the last arrival to one
pub record IsWayBack (u : ℕ) (xs : List Arrival) (last here : ℕ) (ks : List ℕ) : Type 0 where
  pub held : here < length xs
  pub way : (g : Digraph) (P : List Bool) (m : ℕ) → IsTree g P u (within m xs) → last < length (within m xs)
      → (here < length (within m xs)) × IsTrue (is_walk g P (arrival_at xs here).node (arrival_at xs last).node (reverse ks))

pub way_none : (u : ℕ) (xs : List Arrival) (last : ℕ) → last < length xs → IsWayBack u xs last last []
way_none u xs last lt = record { held = lt; way = λ g P m t low. (low, walk_none g P (arrival_at xs last).node) }

pub way_more : (u : ℕ) (xs : List Arrival) (last here : ℕ) (ks : List ℕ) → AreOrdered u xs → 0 < here → IsWayBack u xs last here ks → IsWayBack u xs last (arrival_at xs here).before (ks ++ (arrival_at xs here).place ∷ [])
way_more u xs last here ks o pos w = record {
  held = let held = w.held in let b = o.before here pos held in omega arith;
  way = λ g P m t low.
      let r = w.way g P m t low in
      let same : arrival_at (within m xs) here ≡ arrival_at xs here = (within_at m xs here o.rising r.0).1 in
      let b : (arrival_at xs here).before < here = o.before here pos w.held in
      let inside : (arrival_at xs here).before < length (within m xs) = (let i = r.0 in omega arith) in
      let l = t.led here pos r.0 in (
        inside,
        subst (λ (js : List ℕ). IsTrue (is_walk g P (arrival_at xs (arrival_at xs here).before).node (arrival_at xs last).node js)) (sym (reverse-append ks ((arrival_at xs here).place ∷ [])))
            (walk_front g P (arrival_at xs (arrival_at xs here).before).node (arrival_at xs here).node (arrival_at xs last).node (arrival_at xs here).place (reverse ks) r.1
            (subst (λ (a : Arrival). a.place < length g.edges) same l.known)
            (subst (λ (a : Arrival). IsTrue (present P a.place)) same l.present)
            (subst (λ (a : Arrival). (edge_at g a.place).from ≡ (arrival_at (within m xs) a.before).node) same l.from
            ∙ ap (λ (a : Arrival). a.node) (within_at m xs (arrival_at xs here).before o.rising inside).1)
            (subst (λ (a : Arrival). (edge_at g a.place).to ≡ a.node) same l.to)),
      );
}

pub way_whole : (u : ℕ) (xs : List Arrival) (last here : ℕ) (ks js : List ℕ) → AreOrdered u xs → here ≤ 0 → js ≡ reverse ks → IsWayBack u xs last here ks
    → (g : Digraph) (P : List Bool) (m : ℕ) → IsTree g P u (within m xs) → last < length (within m xs) → IsTrue (is_walk g P u (arrival_at xs last).node js)
way_whole u xs last here ks js o none is w g P m t low =
    let e : here ≡ 0 = omega arith in
    let source : (arrival_at xs here).node ≡ u = ap (λ (i : ℕ). (arrival_at xs i).node) e ∙ ap (λ (a : Arrival). a.node) o.first in
    subst (λ (ks : List ℕ). IsTrue (is_walk g P u (arrival_at xs last).node ks)) (sym is)
    (subst (λ (v : ℕ). IsTrue (is_walk g P v (arrival_at xs last).node (reverse ks))) source (w.way g P m t low).1)
