-- Walks that are read off by going back from change to change.
use Rattle.std.proofs.Common.{◌≡◌, ℕ, zero, suc, ◌+◌, ◌-◌, ◌<◌, ◌≤◌, Bool, List, [], ◌∷◌, ◌++◌, length, reverse, set, refl, sym, ap, subst, ◌∙◌, inl, inr, arith}
use Rattle.std.specs.Prelude.{IsTrue}
use Rattle.std.proofs.lemmas.Bool.{cases_lt, or_left}
use Rattle.std.proofs.lemmas.List.{reverse-append, get_or_append_left, length-append}
use Rattle.std.proofs.lemmas.List.Sums.{sum_by-cons}
use Rattle.std.proofs.Math.Seq.{get_or-append_seam}
use Rattle.mono_graph.specs.declared.limit.Limit.{Limit}
use Rattle.mono_graph.specs.Digraph.{Digraph, edge_at, present, has}
use Rattle.mono_graph.specs.Walks.{is_walk, cost_of, cost_along}
use Rattle.mono_dynamic.specs.declared.change.Change.{Change}
use Rattle.mono_dynamic.specs.Arrivals.{IsGrown}
use Rattle.mono_dynamic.specs.Costs.{Costs, no_change, change_at, label_of, unwound, made_after, node_by, label_by, labels_after, IsLast, IsLed, HasSource, AreLed, IsGiven, AreLeastAlong}
use Rattle.mono_dynamic.proofs.CostLists.{unwound-append, unwound_one, length-unwound}
use Rattle.mono_dynamic.proofs.CostLinks.{unwound_untouched}
use Rattle.mono_graph.proofs.GrownWalks.{walk_front, walk_none}

-- ---- edges that lead to changes

node_same : (u : ℕ) (cs ds : List Change) (n b : ℕ) → b ≤ n → ((j : ℕ) → j < n → change_at ds j ≡ change_at cs j) → node_by u ds b ≡ node_by u cs b
node_same u cs ds n zero le same = refl
node_same u cs ds n (suc b) le same = ap (λ (c : Change). c.node) (same b (omega arith))

label_same : (cs ds : List Change) (n b : ℕ) → b ≤ n → ((j : ℕ) → j < n → change_at ds j ≡ change_at cs j) → label_by ds b ≡ label_by cs b
label_same cs ds n zero le same = refl
label_same cs ds n (suc b) le same = ap (λ (c : Change). c.label) (same b (omega arith))

-- it is told by the changes up to this one
pub led_same : (g : Digraph) (P : List Bool) (limit : Limit) (u : ℕ) (cs ds : List Change) (i : ℕ) → ((j : ℕ) → j ≤ i → change_at ds j ≡ change_at cs j) → IsLed g P limit u cs i → IsLed g P limit u ds i
led_same g P limit u cs ds i same x =
    let e : change_at cs i ≡ change_at ds i = sym (same i (omega arith)) in
    let b : ℕ = (change_at cs i).before in
    let node : node_by u cs b ≡ node_by u ds b = sym (node_same u cs ds i b x.before (λ j lt. same j (omega arith))) in
    let label : label_by cs b ≡ label_by ds b = sym (label_same cs ds i b x.before (λ j lt. same j (omega arith))) in
    record {
      before = subst (λ (c : Change). c.before ≤ i) e x.before;
      known = subst (λ (c : Change). c.place < length g.edges) e x.known;
      present = subst (λ (c : Change). IsTrue (present P c.place)) e x.present;
      from = subst (λ (c : Change). (edge_at g c.place).from ≡ node_by u ds c.before) e (x.from ∙ node);
      to = subst (λ (c : Change). (edge_at g c.place).to ≡ c.node) e x.to;
      label = subst (λ (c : Change). c.label ≡ label_by ds c.before + cost_of limit (edge_at g c.place)) e (x.label ∙ ap (λ (n : ℕ). n + cost_of limit (edge_at g (change_at cs i).place)) label);
    }

pub led_grown : (g : Digraph) (P Q : List Bool) (limit : Limit) (u : ℕ) (cs : List Change) (ks : List ℕ) (i : ℕ) → IsGrown P Q ks → IsLed g P limit u cs i → IsLed g Q limit u cs i
led_grown g P Q limit u cs ks i grown x = record {
  before = x.before;
  known = x.known;
  present = grown.each (change_at cs i).place ∙ or_left (present P (change_at cs i).place) (has ks (change_at cs i).place) x.present;
  from = x.from;
  to = x.to;
  label = x.label;
}

-- the node of the last change, or the source where there is none
last_from : (g : Digraph) (u v last : ℕ) (t : Costs) → v < g.nodes → label_of t.labels v < t.cap → HasSource u g.nodes t → IsLast t.changes (length t.changes) v (label_of t.labels v) last → v ≡ node_by u t.changes last
last_from g u v zero t inside below s x = s.alone v inside (subst (λ (l : ℕ). l < t.cap) (sym (unwound_untouched t.labels t.changes v (λ j lt is. x.none j (omega arith) lt is))) below)
last_from g u v (suc i) t inside below s x = let at : suc i - 1 ≡ i = omega arith in sym (subst (λ (j : ℕ). (change_at t.changes j).node ≡ v) at (x.is (omega arith)).0)

last_label : (g : Digraph) (u v last : ℕ) (t : Costs) → v < g.nodes → label_of t.labels v < t.cap → label_of t.labels u ≡ 0 → HasSource u g.nodes t → IsLast t.changes (length t.changes) v (label_of t.labels v) last
    → label_of t.labels v ≡ label_by t.changes last
last_label g u v zero t inside below none s x = ap (λ (w : ℕ). label_of t.labels w) (last_from g u v zero t inside below s x) ∙ none
last_label g u v (suc i) t inside below none s x = let at : suc i - 1 ≡ i = omega arith in sym (subst (λ (j : ℕ). (change_at t.changes j).label ≡ label_of t.labels v) at (x.is (omega arith)).1)

-- a label is lowered by an edge
pub led_lowered : (g : Digraph) (P : List Bool) (u k : ℕ) (t : Costs) (c : Change) → k < length g.edges → IsTrue (present P k) → (edge_at g k).from < g.nodes → label_of t.labels (edge_at g k).from < t.cap
    → IsLast t.changes (length t.changes) (edge_at g k).from (label_of t.labels (edge_at g k).from) c.before → c.place ≡ k → c.node ≡ (edge_at g k).to → c.old ≡ label_of t.labels c.node
    → c.label ≡ label_of t.labels (edge_at g k).from + cost_of t.limit (edge_at g k) → label_of t.labels u ≡ 0 → AreLed g P u t
    → AreLed g P u (record t { labels = set t.labels c.node c.label; changes = t.changes ++ c ∷ [] })
led_lowered g P u k t c lt here inside below last place node old is none a =
    let cs : List Change = t.changes in
    let ds : List Change = cs ++ c ∷ [] in
    let n : ℕ = length cs in
    let size : length ds ≡ suc n = omega (arith, length-append cs (c ∷ [])) in
    let same : (i : ℕ) → i < n → change_at ds i ≡ change_at cs i = λ i lt. get_or_append_left cs (c ∷ []) no_change i lt in
    let top : c ≡ change_at ds n = sym (get_or-append_seam cs c [] no_change) in
    let back : unwound (set t.labels c.node c.label) ds ≡ unwound t.labels cs = unwound-append (set t.labels c.node c.label) cs (c ∷ []) ∙ ap (λ (ls : List ℕ). unwound ls cs) (unwound_one t.labels c old) in
    let from : (edge_at g k).from ≡ node_by u ds c.before = last_from g u (edge_at g k).from c.before t inside below a.source last ∙ sym (node_same u cs ds n c.before last.held same) in
    let label : label_of t.labels (edge_at g k).from ≡ label_by ds c.before = last_label g u (edge_at g k).from c.before t inside below none a.source last ∙ sym (label_same cs ds n c.before last.held same) in
    record {
      source = record { alone = λ v ltv low. a.source.alone v ltv (subst (λ (ls : List ℕ). label_of ls v < t.cap) back low) };
      each = λ i lti. elim (cases_lt i n) [
        | inl early ↦ led_same g P t.limit u cs ds i (λ j le. same j (omega arith)) (a.each i early)
        | inr late ↦
            let e : n ≡ i = omega arith in
            subst (λ (j : ℕ). IsLed g P t.limit u ds j) e (record {
              before = subst (λ (d : Change). d.before ≤ n) top last.held;
              known = subst (λ (d : Change). d.place < length g.edges) top (subst (λ (j : ℕ). j < length g.edges) (sym place) lt);
              present = subst (λ (d : Change). IsTrue (present P d.place)) top (subst (λ (j : ℕ). IsTrue (present P j)) (sym place) here);
              from = subst (λ (d : Change). (edge_at g d.place).from ≡ node_by u ds d.before) top (subst (λ (j : ℕ). (edge_at g j).from ≡ node_by u ds c.before) (sym place) from);
              to = subst (λ (d : Change). (edge_at g d.place).to ≡ d.node) top (subst (λ (j : ℕ). (edge_at g j).to ≡ c.node) (sym place) (sym node));
              label = subst (λ (d : Change). d.label ≡ label_by ds d.before + cost_of t.limit (edge_at g d.place)) top
                  (subst (λ (j : ℕ). c.label ≡ label_by ds c.before + cost_of t.limit (edge_at g j)) (sym place) (is ∙ ap (λ (m : ℕ). m + cost_of t.limit (edge_at g k)) label));
            })
      ];
    }

-- ---- going back

-- the places lead back from the last change to one, and cost what the label grew by
pub record IsCostBack (cs : List Change) (last here : ℕ) (ks : List ℕ) : Type 0 where
  pub held : here ≤ last
  pub way : (g : Digraph) (P : List Bool) (limit : Limit) (u : ℕ) → ((i : ℕ) → i < last → IsLed g P limit u cs i)
      → IsTrue (is_walk g P (node_by u cs here) (node_by u cs last) (reverse ks)) × (label_by cs here + cost_along limit g (reverse ks) ≡ label_by cs last)

pub cost_back_none : (cs : List Change) (last : ℕ) → IsCostBack cs last last []
cost_back_none cs last = record { held = omega arith; way = λ g P limit u led. (walk_none g P (node_by u cs last), omega arith) }

pub cost_back_more : (cs : List Change) (last i : ℕ) (ks : List ℕ) → (change_at cs i).before ≤ i → IsCostBack cs last (suc i) ks → IsCostBack cs last (change_at cs i).before (ks ++ (change_at cs i).place ∷ [])
cost_back_more cs last i ks b w =
    let held : suc i ≤ last = w.held in
    record {
      held = omega arith;
      way = λ g P limit u led.
          let k : ℕ = (change_at cs i).place in
          let r = w.way g P limit u led in
          let x : IsLed g P limit u cs i = led i (omega arith) in
          let turned : k ∷ reverse ks ≡ reverse (ks ++ k ∷ []) = sym (reverse-append ks (k ∷ [])) in
          let sums : cost_along limit g (k ∷ reverse ks) ≡ cost_of limit (edge_at g k) + cost_along limit g (reverse ks) = sum_by-cons (λ j. cost_of limit (edge_at g j)) k (reverse ks) in
          let label = x.label in
          let far = r.1 in
          subst (λ (js : List ℕ). IsTrue (is_walk g P (node_by u cs (change_at cs i).before) (node_by u cs last) js) × (label_by cs (change_at cs i).before + cost_along limit g js ≡ label_by cs last)) turned (
            walk_front g P (node_by u cs (change_at cs i).before) (change_at cs i).node (node_by u cs last) k (reverse ks) r.0 x.known x.present x.from x.to,
            omega (arith, label, far, sums),
          );
    }

pub cost_back_whole : (cs : List Change) (last here : ℕ) (ks js : List ℕ) → here ≤ 0 → js ≡ reverse ks → IsCostBack cs last here ks
    → (g : Digraph) (P : List Bool) (limit : Limit) (u : ℕ) → ((i : ℕ) → i < last → IsLed g P limit u cs i) → IsTrue (is_walk g P u (node_by u cs last) js) × (cost_along limit g js ≡ label_by cs last)
cost_back_whole cs last here ks js none is w g P limit u led =
    let e : here ≡ 0 = omega arith in
    let r = subst (λ (i : ℕ). IsTrue (is_walk g P (node_by u cs i) (node_by u cs last) (reverse ks)) × (label_by cs i + cost_along limit g (reverse ks) ≡ label_by cs last)) e (w.way g P limit u led) in
    subst (λ (ps : List ℕ). IsTrue (is_walk g P u (node_by u cs last) ps) × (cost_along limit g ps ≡ label_by cs last)) (sym is) (r.0, (let far = r.1 in omega arith))

-- ---- the walk to a node

pub walk_of_given : (g : Digraph) (parts : ℕ → List Bool) (n u kept v l last : ℕ) (t : Costs) (ks : List ℕ) → ((i j : ℕ) → i ≤ j → j < length t.changes → (change_at t.changes i).stamp ≤ (change_at t.changes j).stamp)
    → v < length t.labels → label_of (labels_after kept t) v < t.cap → IsGiven t kept v l last
    → ((g : Digraph) (P : List Bool) (limit : Limit) (u : ℕ) → ((i : ℕ) → i < last → IsLed g P limit u t.changes i) → IsTrue (is_walk g P u (node_by u t.changes last) ks) × (cost_along limit g ks ≡ label_by t.changes last))
    → kept ≤ n → AreLeastAlong g parts n u t → IsTrue (is_walk g (parts kept) u v ks) × (cost_along t.limit g ks ≡ label_of (labels_after kept t) v)
walk_of_given g parts n u kept v l zero t ks rising lt below x way le r =
    let least = r.each kept le in
    let inside : v < g.nodes = (let len = least.len in omega (arith, lt, len, length-unwound t.labels (made_after kept t.changes))) in
    let first : l < t.cap = (let is = x.is in omega arith) in
    let at : v ≡ u = r.source.alone v inside (subst (λ (m : ℕ). m < t.cap) (x.none refl) first) in
    let w = way g (parts kept) t.limit u (λ i none. absurd (omega arith)) in
    let low : label_of (labels_after kept t) u ≤ 0 = least.least u [] (walk_none g (parts kept) u) in
    let none = w.1 in
    subst (λ (x : ℕ). IsTrue (is_walk g (parts kept) u x ks) × (cost_along t.limit g ks ≡ label_of (labels_after kept t) x)) (sym at) (w.0, omega arith)
walk_of_given g parts n u kept v l (suc i) t ks rising lt below x way le r =
    let at : suc i - 1 ≡ i = omega arith in
    let some = subst (λ (j : ℕ). ((change_at t.changes j).node ≡ v) × ((change_at t.changes j).label ≡ l) × ((change_at t.changes j).stamp ≤ kept)) at (x.some (omega arith)) in
    let held : suc i ≤ length t.changes = x.held in
    let w = way g (parts kept) t.limit u (λ j less. r.led kept j le (omega arith) (let s = rising j i (omega arith) (omega arith) in let early = some.2 in omega arith)) in
    (subst (λ (y : ℕ). IsTrue (is_walk g (parts kept) u y ks)) some.0 w.0, w.1 ∙ (some.1 ∙ x.is))
