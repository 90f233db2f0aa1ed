-- Rows stay right while a part grows and goes back, and show exactly the walks that there are.
use Rattle.std.proofs.Common.{◌≡◌, ℕ, ◌+◌, ◌<◌, ◌≤◌, Bool, true, false, List, length, map, refl, sym, ap, subst, ◌∙◌, arith, pos, int_lt}
use Rattle.std.specs.Prelude.{IsTrue, ◌↔◌}
use Rattle.std.proofs.lemmas.Bool.{and_from, and_parts}
use Rattle.mono_graph.specs.declared.limit.Limit.{Limit}
use Rattle.mono_graph.specs.Digraph.{Digraph, has, present}
use Rattle.mono_graph.specs.Walks.{admits, bound_of, cost_along, is_light, is_path, is_walk}
use Rattle.mono_graph.proofs.Limits.{light_of, low_enough, of_light, under_cap}
use Rattle.mono_dynamic.specs.declared.arrival.Arrival.{Arrival}
use Rattle.mono_dynamic.specs.declared.change.Change.{Change}
use Rattle.mono_dynamic.specs.declared.cost_source.CostSource.{CostSource}
use Rattle.mono_dynamic.specs.declared.walk_target.WalkTarget.{WalkTarget}
use Rattle.mono_dynamic.specs.Arrivals.{after, is_reached, within, AreReached, AreReachedAlong, GrowsAfter}
use Rattle.mono_dynamic.specs.Costs.{Costs, label_of, made_after, unwound, AreLeast, AreLeastAlong}
use Rattle.mono_dynamic.specs.LeastRows.{costs_from, measure_of, IsBackCosts, IsCostRow, IsCostSource, IsGrownCosts}
use Rattle.mono_dynamic.specs.Reached.{Reached}
use Rattle.mono_dynamic.specs.Rows.{alone, back_to, IsGrownRow, IsRow}
use Rattle.mono_dynamic.specs.RowsAlong.{shows_least, shows_reached, IsFree, IsLeastRow, IsMeasured, IsReachedRow}
use Rattle.mono_dynamic.proofs.CostLists.{after_none, label_same, length-unwound}
use Rattle.mono_dynamic.proofs.Exact.{along_first, along_same, along_still, along_undone}
use Rattle.mono_dynamic.proofs.LeastExact.{least_first, least_same, least_still}
use Rattle.mono_dynamic.proofs.Lightest.{same_cost}
use Rattle.mono_dynamic.proofs.Listed.{reached_before, reached_here, within_all, within_index}

-- ---- nodes that are reached

pub reached_within : (m : ℕ) (xs : List Arrival) (v : ℕ) → IsTrue (is_reached (within m xs) v) → IsTrue (is_reached xs v)
reached_within m xs v h = let w = within_index m xs v h in subst (λ (u : ℕ). IsTrue (is_reached xs u)) w.2 (reached_here xs w.0 w.1)

pub reached_starts : (g : Digraph) (parts : ℕ → List Bool) (s : CostSource) → IsCostSource g.nodes s → ((k : ℕ) → present (parts 0) k ≡ false) → IsReachedRow g parts 0 s (alone g.nodes s.node)
reached_starts g parts s known none = record { nodes = refl; source = refl; along = along_first g parts s.node none }

pub reached_fits : (g : Digraph) (parts : ℕ → List Bool) (n : ℕ) (s : CostSource) (r : Reached) → IsReachedRow g parts n s r → IsRow g.nodes n r × (r.nodes ≡ g.nodes)
reached_fits g parts n s r h = (record { nodes = h.nodes; stamps = h.along.latest }, h.nodes)

pub reached_same : (g : Digraph) (parts others : ℕ → List Bool) (n : ℕ) (s : CostSource) (r : Reached) → ((m : ℕ) → m ≤ n → others m ≡ parts m) → IsReachedRow g parts n s r → IsReachedRow g others n s r
reached_same g parts others n s r same h = record { nodes = h.nodes; source = h.source; along = along_same g parts others n r.source r.arrivals same h.along }

pub reached_still : (g : Digraph) (parts : ℕ → List Bool) (n last : ℕ) (s : CostSource) (r : Reached) → n ≤ last → ((m : ℕ) → n ≤ m → m ≤ last → parts m ≡ parts n) → IsReachedRow g parts n s r → IsReachedRow g parts last s r
reached_still g parts n last s r le still h = record { nodes = h.nodes; source = h.source; along = along_still g parts n last r.source r.arrivals le still h.along }

pub reached_grows : (g : Digraph) (parts : ℕ → List Bool) (Q : List Bool) (ks : List ℕ) (n : ℕ) (s : CostSource) (old new : Reached) → IsGrownRow g Q ks (n + 1) old new → GrowsAfter parts n (n + 1) Q ks → IsReachedRow g parts n s old → IsReachedRow g parts (n + 1) s new
reached_grows g parts Q ks n s old new grown grows h = record {
  nodes = grown.nodes ∙ h.nodes;
  source = grown.source ∙ h.source;
  along = subst (λ (u : ℕ). AreReachedAlong g parts (n + 1) u new.arrivals) (sym grown.source) (grown.along parts n h.along grows);
}

pub reached_goes_back : (g : Digraph) (parts : ℕ → List Bool) (n kept : ℕ) (s : CostSource) (old new : Reached) → new ≡ back_to kept old → kept ≤ n → IsReachedRow g parts n s old → IsReachedRow g parts kept s new
reached_goes_back g parts n kept s old new is le h =
    subst (IsReachedRow g parts kept s) (sym is) (record { nodes = h.nodes; source = h.source; along = along_undone g parts kept n old.source old.arrivals le h.along })

-- any walk is one as a target asks that asks for any
pub free_path : (g : Digraph) (P : List Bool) (u v : ℕ) (l : Limit) (ks : List ℕ) → IsFree l → IsTrue (is_walk g P u v ks) → IsTrue (is_path g P u v l ks)
free_path g P u v l ks free walk = and_from (is_walk g P u v ks) (is_light l g ks) walk (subst (λ (k : Limit). IsTrue (is_light k g ks)) (sym free) refl)

pub reached_exact : (g : Digraph) (parts : ℕ → List Bool) (n : ℕ) (s : CostSource) (r : Reached) (t : WalkTarget) → IsMeasured s t → IsFree t.limit → t.node < g.nodes → IsReachedRow g parts n s r
    → IsTrue (shows_reached r t) ↔ ((ks : List ℕ) × IsTrue (is_path g (parts n) s.node t.node t.limit ks))
reached_exact g parts n s r t measured free known h =
    let all : AreReached g (parts n) s.node r.arrivals =
    subst (λ (u : ℕ). AreReached g (parts n) u r.arrivals) h.source (subst (λ (xs : List Arrival). AreReached g (parts n) r.source xs) (within_all n r.arrivals h.along.latest) (h.along.each n (omega arith))) in (
      λ on. (let w = (all.exact t.node).0 on in (w.0, free_path g (parts n) s.node t.node t.limit w.0 free w.1)),
      λ w. (all.exact t.node).1 (w.0, (and_parts (is_walk g (parts n) s.node t.node w.0) (is_light t.limit g w.0) w.1).0),
    )

-- a node that isn't newly reached was reached before, if it is
pub reached_newly : (g : Digraph) (Q : List Bool) (ks : List ℕ) (n : ℕ) (old new : Reached) (t : WalkTarget) → IsRow g.nodes n old → IsGrownRow g Q ks (n + 1) old new → has (map (λ (a : Arrival). a.node) (after n new.arrivals)) t.node ≡ false
    → IsTrue (shows_reached new t) → IsTrue (shows_reached old t)
reached_newly g Q ks n old new t fits grown none on =
    reached_within n old.arrivals t.node (subst (λ (xs : List Arrival). IsTrue (is_reached xs t.node)) (grown.earlier n (omega arith)) (reached_before n new.arrivals t.node on none))

-- ---- what walks cost at least

pub least_starts : (g : Digraph) (parts : ℕ → List Bool) (s : CostSource) → IsCostSource g.nodes s → ((k : ℕ) → present (parts 0) k ≡ false) → IsLeastRow g parts 0 s (costs_from g.nodes s)
least_starts g parts s known none = record { limit = refl; cap = refl; along = least_first g parts s.limit s.node s.cap known.known none }

pub least_fits : (g : Digraph) (parts : ℕ → List Bool) (n : ℕ) (s : CostSource) (t : Costs) → IsLeastRow g parts n s t → IsCostRow g.nodes n t × (length t.labels ≡ g.nodes)
least_fits g parts n s t h =
    let size : length t.labels ≡ g.nodes = sym (length-unwound t.labels (made_after 0 t.changes)) ∙ (h.along.each 0 (omega arith)).len in
    (record { sized = size; stamps = h.along.latest }, size)

pub least_row_same : (g : Digraph) (parts others : ℕ → List Bool) (n : ℕ) (s : CostSource) (t : Costs) → ((m : ℕ) → m ≤ n → others m ≡ parts m) → IsLeastRow g parts n s t → IsLeastRow g others n s t
least_row_same g parts others n s t same h = record { limit = h.limit; cap = h.cap; along = least_same g parts others n s.node t same h.along }

pub least_row_still : (g : Digraph) (parts : ℕ → List Bool) (n last : ℕ) (s : CostSource) (t : Costs) → n ≤ last → ((m : ℕ) → n ≤ m → m ≤ last → parts m ≡ parts n) → IsLeastRow g parts n s t → IsLeastRow g parts last s t
least_row_still g parts n last s t le still h = record { limit = h.limit; cap = h.cap; along = least_still g parts n last s.node t le still h.along }

pub least_grows : (g : Digraph) (parts : ℕ → List Bool) (Q : List Bool) (ks : List ℕ) (n : ℕ) (s : CostSource) (old new : Costs) → IsGrownCosts g Q ks (n + 1) old new → GrowsAfter parts n (n + 1) Q ks → IsLeastRow g parts n s old → IsLeastRow g parts (n + 1) s new
least_grows g parts Q ks n s old new grown grows h = record { limit = grown.later.limit ∙ h.limit; cap = grown.later.cap ∙ h.cap; along = grown.along parts n s.node h.along grows }

pub least_goes_back : (g : Digraph) (parts : ℕ → List Bool) (n kept : ℕ) (s : CostSource) (old new : Costs) → IsBackCosts kept old new → kept ≤ n → IsLeastRow g parts n s old → IsLeastRow g parts kept s new
least_goes_back g parts n kept s old new back le h = record {
  limit = ap (λ (t : Costs). t.limit) back.is ∙ h.limit;
  cap = ap (λ (t : Costs). t.cap) back.is ∙ h.cap;
  along = back.along g parts n s.node le h.along;
}

-- a walk that costs so much by a like measure is within the limit
pub light_by : (k l : Limit) (g : Digraph) (ks : List ℕ) → measure_of k ≡ measure_of l → IsTrue (admits l (cost_along k g ks)) → IsTrue (is_light l g ks)
light_by k l g ks alike low = light_of l g ks (subst (λ (n : ℕ). IsTrue (admits l n)) (same_cost k l g ks alike) low)

-- what walks from the source cost now
pub least_now : (g : Digraph) (parts : ℕ → List Bool) (n u : ℕ) (t : Costs) → AreLeastAlong g parts n u t → AreLeast g (parts n) t.limit u t.cap t.labels
least_now g parts n u t h = subst (λ (ls : List ℕ). AreLeast g (parts n) t.limit u t.cap ls) (ap (λ cs. unwound t.labels cs) (after_none n t.changes h.latest)) (h.each n (omega arith))

pub least_exact : (g : Digraph) (parts : ℕ → List Bool) (n : ℕ) (s : CostSource) (r : Costs) (t : WalkTarget) → IsMeasured s t → Unit {0} → t.node < g.nodes → IsLeastRow g parts n s r
    → IsTrue (shows_least r t) ↔ ((ks : List ℕ) × IsTrue (is_path g (parts n) s.node t.node t.limit ks))
least_exact g parts n s r t measured any known h =
    let least = least_now g parts n s.node r h.along in
    let alike : measure_of r.limit ≡ measure_of t.limit = ap measure_of h.limit ∙ measured.alike in
    let beyond : int_lt (bound_of t.limit) (pos r.cap) ≡ true = ap (λ (c : ℕ). int_lt (bound_of t.limit) (pos c)) h.cap ∙ measured.beyond in
    let label = label_of r.labels t.node in (
      λ low. (let w = least.attained.walk t.node known (under_cap label r.cap (bound_of t.limit) low beyond) in
          (w.0, and_from (is_walk g (parts n) s.node t.node w.0) (is_light t.limit g w.0) w.1 (light_by r.limit t.limit g w.0 alike (subst (λ (c : ℕ). IsTrue (admits t.limit c)) (sym w.2) low)))),
      λ w. (let p = and_parts (is_walk g (parts n) s.node t.node w.0) (is_light t.limit g w.0) w.1 in
          low_enough label (cost_along r.limit g w.0) (bound_of t.limit) (least.least t.node w.0 p.0) (subst (λ (c : ℕ). IsTrue (admits t.limit c)) (sym (same_cost r.limit t.limit g w.0 alike)) (of_light t.limit g w.0 p.1))),
    )

-- a node whose label didn't fall has the label that it had
pub least_newly : (g : Digraph) (Q : List Bool) (ks : List ℕ) (n : ℕ) (old new : Costs) (t : WalkTarget) → IsCostRow g.nodes n old → IsGrownCosts g Q ks (n + 1) old new → has (map (λ (c : Change). c.node) (made_after n new.changes)) t.node ≡ false
    → IsTrue (shows_least new t) → IsTrue (shows_least old t)
least_newly g Q ks n old new t fits grown none on =
    subst (λ (c : ℕ). IsTrue (admits t.limit c)) (label_same n (n + 1) t.node old new (omega arith) fits.stamps grown.later none) on
