-- Walks that grow at their ends, and the cycle that an edge closes on a path.
use Rattle.std.proofs.Common.{◌≡◌, ℕ, zero, suc, ◌+◌, ◌-◌, ◌<◌, Bool, List, [], ◌∷◌, ◌++◌, length, take, get_or, sym, subst, inl, inr, arith, length-append}
use Rattle.std.specs.Prelude.{IsTrue, All}
use Rattle.std.proofs.lemmas.List.{take_more, take_all}
use Rattle.std.proofs.lemmas.List.Elements.{All-push, All-nil}
use Rattle.mono_graph.specs.Digraph.{Digraph, has}
use Rattle.mono_graph.specs.Walks.{is_walk}
use Rattle.mono_graph.proofs.Membership.{has_append_cases, has_cons}
use Rattle.mono_graph.specs.Cycles.{is_cycle}
use Rattle.mono_cycles.specs.Searches.{IsStep, IsPath}
use Rattle.mono_graph.proofs.GrownWalks.{walk_none, walk_push}
use Rattle.mono_graph.proofs.RisingRanks.{is_cycle_of}

pub walk_step : (g : Digraph) (P : List Bool) (u v w k : ℕ) (ks : List ℕ) → IsTrue (is_walk g P u v ks) → IsStep g P k v w → IsTrue (is_walk g P u w (ks ++ k ∷ []))
walk_step g P u v w k ks h s = subst (λ (x : ℕ). IsTrue (is_walk g P u x (ks ++ k ∷ []))) s.to (walk_push g P u v k ks h s.known s.here s.from)

-- the edges so far lead from the start to the node at a place on the path, which the start is at or before
pub record IsClosing (g : Digraph) (P : List Bool) (path : List ℕ) (start at : ℕ) (ks : List ℕ) : Type 0 where
  pub some : 0 < length ks
  pub way : IsTrue (is_walk g P start (get_or path at 0) ks)
  pub known : All (λ k. k < length g.edges) ks

pub closing_first : (g : Digraph) (P : List Bool) (path : List ℕ) (start k : ℕ) → IsStep g P k start (get_or path (length path - 1) 0) → IsClosing g P path start (length path - 1) (k ∷ [])
closing_first g P path start k s = record {
  some = omega arith;
  way = walk_step g P start start (get_or path (length path - 1) 0) k [] (walk_none g P start) s;
  known = All-push (λ j. j < length g.edges) [] k (All-nil (λ j. j < length g.edges)) s.known;
}

pub closing_more : (g : Digraph) (P : List Bool) (path taken : List ℕ) (start at : ℕ) (ks : List ℕ) → IsPath g P path taken → 0 < at → at < length path
    → IsClosing g P path start at ks → IsClosing g P path start (at - 1) (ks ++ get_or taken at 0 ∷ [])
closing_more g P path taken start at ks p pos lt c =
    let e : suc (at - 1) ≡ at = omega arith in
    let s : IsStep g P (get_or taken at 0) (get_or path at 0) (get_or path (at - 1) 0) =
    subst (λ (i : ℕ). IsStep g P (get_or taken i 0) (get_or path i 0) (get_or path (at - 1) 0)) e (p.step (at - 1) (omega arith)) in
    record {
      some = omega (arith, length-append ks (get_or taken at 0 ∷ []));
      way = walk_step g P start (get_or path at 0) (get_or path (at - 1) 0) (get_or taken at 0) ks c.way s;
      known = All-push (λ j. j < length g.edges) ks (get_or taken at 0) c.known s.known;
    }

pub closed : (g : Digraph) (P : List Bool) (path : List ℕ) (start at : ℕ) (ks : List ℕ) → get_or path at 0 ≡ start → IsClosing g P path start at ks
    → IsTrue (is_cycle g P ks) × All (λ k. k < length g.edges) ks
closed g P path start at ks e c = (is_cycle_of g P start ks c.some (subst (λ (v : ℕ). IsTrue (is_walk g P start v ks)) e c.way), c.known)

-- the start is at this place of the path or before it
pub start_first : (path : List ℕ) (start : ℕ) → IsTrue (has path start) → (0 < length path) × IsTrue (has (take (length path - 1 + 1) path) start)
start_first [] start h = absurd cc
start_first (v ∷ path) start h = (omega arith, subst (λ (ks : List ℕ). IsTrue (has ks start)) (sym (take_all (length (v ∷ path) - 1 + 1) (v ∷ path) (omega arith))) h)

pub start_earlier : (path : List ℕ) (start at : ℕ) → at < length path → (get_or path at 0 ≡ start → ⊥) → IsTrue (has (take (at + 1) path) start) → (0 < at) × IsTrue (has (take (at - 1 + 1) path) start)
start_earlier path start at lt ne h =
    let there : IsTrue (has (take at path) start) = elim (has_append_cases (take at path) (get_or path at 0 ∷ []) start (subst (λ (ks : List ℕ). IsTrue (has ks start)) (take_more path at 0 lt) h)) [
      | inl t ↦ t
      | inr last ↦ elim (has_cons (get_or path at 0) start [] last) [ inl e ↦ absurd (ne e) | inr none ↦ absurd cc ]
    ] in
    later at there
  where
    later : (n : ℕ) → IsTrue (has (take n path) start) → (0 < n) × IsTrue (has (take (n - 1 + 1) path) start)
    later zero t = absurd cc
    later (suc n) t = (omega arith, let e : suc n ≡ suc n - 1 + 1 = omega arith in subst (λ (m : ℕ). IsTrue (has (take m path) start)) e t)
