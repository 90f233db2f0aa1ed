-- Labels that are lowered along edges until each is tight.
use Rattle.std.proofs.Common.{◌≡◌, ℕ, suc, sum, ◌+◌, ◌-◌, ◌<◌, ◌≤◌, Bool, ◌&&◌, List, [], ◌∷◌, ◌++◌, length, set, refl, sym, ap, subst, ◌∙◌, inl, inr, arith}
use Rattle.std.specs.Prelude.{IsTrue, ◌==◌}
use Rattle.std.specs.List.Sorted.{IsPermutation}
use Rattle.std.proofs.lemmas.Bool.{cases_eq, or_cases, or_left, or_right, and_from, and_parts, eq-eqb, eqb-true}
use Rattle.std.proofs.lemmas.List.{get_or-set_same, get_or-set_other}
use Rattle.std.proofs.lemmas.List.Sums.{sum_by-set, sum_by_push}
use Rattle.std.proofs.lemmas.List.Sorted.{list_any-IsPermutation, All-permutation, length_permutation}
use Rattle.std.proofs.lemmas.List.Elements.{All-cons}
use Rattle.mono_graph.specs.declared.edge.Edge.{Edge}
use Rattle.mono_graph.specs.declared.limit.Limit.{Limit}
use Rattle.mono_graph.specs.Digraph.{Digraph, edge_at, present, has, leaving}
use Rattle.mono_graph.specs.Walks.{is_walk, cost_of, cost_along}
use Rattle.mono_graph.proofs.Membership.{has_cons, at_places}
use Rattle.mono_dynamic.specs.declared.change.Change.{Change}
use Rattle.mono_dynamic.specs.declared.waiting.Waiting.{Waiting}
use Rattle.mono_dynamic.specs.Costs.{Costs, label_of, AreAttained, is_waiting, IsTight, AreTight, AreRelaxed, IsLast, AreLed}
use Rattle.mono_dynamic.proofs.CostWalks.{led_lowered}
use Rattle.mono_graph.proofs.GrownWalks.{walk_push}

set_same : (labels : List ℕ) (v l : ℕ) → v < length labels → label_of (set labels v l) v ≡ l
set_same labels v l lt = get_or-set_same labels v l 0 lt

set_other : (labels : List ℕ) (v w l : ℕ) → (w ≡ v → ⊥) → label_of (set labels v l) w ≡ label_of labels w
set_other labels v w l ne = get_or-set_other labels v w l 0 ne

set_lower : (labels : List ℕ) (v w l : ℕ) → v < length labels → l < label_of labels v → label_of (set labels v l) w ≤ label_of labels w
set_lower labels v w l lt below = elim (cases_eq w v) [
  | inl e ↦ subst (λ (x : ℕ). label_of (set labels v l) x ≤ label_of labels x) (sym e) (omega (arith, set_same labels v l lt, below))
  | inr ne ↦ omega (arith, set_other labels v w l ne)
]

waits_still : (es fs : List Waiting) (e : Waiting) (v left : ℕ) → IsPermutation (e ∷ es) fs → IsTrue (is_waiting es v left) → IsTrue (is_waiting fs v left)
waits_still es fs e v left p h = sym (list_any-IsPermutation (λ (x : Waiting). x.node == v && x.left == left) (e ∷ es) fs p) ∙ or_right (e.node == v && e.left == left) (is_waiting es v left) h

waits_now : (es fs : List Waiting) (e : Waiting) (v left : ℕ) → IsPermutation (e ∷ es) fs → e.node ≡ v → e.left ≡ left → IsTrue (is_waiting fs v left)
waits_now es fs e v left p node is =
    sym (list_any-IsPermutation (λ (x : Waiting). x.node == v && x.left == left) (e ∷ es) fs p)
    ∙ or_left (e.node == v && e.left == left) (is_waiting es v left) (and_from (e.node == v) (e.left == left) (eq-eqb e.node v node) (eq-eqb e.left left is))

-- an edge that is looked at is tight, or absent
pub tight_passed : (g : Digraph) (P : List Bool) (limit : Limit) (cap : ℕ) (labels : List ℕ) (es : List Waiting) (k : ℕ) (ks : List ℕ) → (IsTrue (present P k) → IsTight g limit labels k)
    → AreTight g P limit cap labels es (k ∷ ks) → AreTight g P limit cap labels es ks
tight_passed g P limit cap labels es k ks ok t = record {
  each = λ j lt here. elim (t.each j lt here) [
    | inl done ↦ inl done
    | inr due ↦ elim (has_cons k j ks due) [
      | inl e ↦ inl (inl (subst (λ (i : ℕ). IsTight g limit labels i) e (ok (subst (λ (i : ℕ). IsTrue (present P i)) (sym e) here))))
      | inr there ↦ inr there
    ]
  ];
}

-- a label is lowered by an edge
pub tight_lowered : (g : Digraph) (P : List Bool) (limit : Limit) (cap : ℕ) (labels : List ℕ) (es fs : List Waiting) (e : Waiting) (k l : ℕ) (ks : List ℕ) → l ≡ label_of labels (edge_at g k).from + cost_of limit (edge_at g k)
    → (edge_at g k).to < length labels → l < label_of labels (edge_at g k).to → IsPermutation (e ∷ es) fs → e.node ≡ (edge_at g k).to → e.left ≡ cap - label_of (set labels (edge_at g k).to l) (edge_at g k).to
    → AreTight g P limit cap labels es (k ∷ ks) → AreTight g P limit cap (set labels (edge_at g k).to l) fs ks
tight_lowered g P limit cap labels es fs e k l ks is lt below p node left t = record {
  each = λ j ltj here. elim (cases_eq (edge_at g j).from (edge_at g k).to) [
    | inl again ↦ inl (inr (waits_now es fs e (edge_at g j).from (cap - label_of (set labels (edge_at g k).to l) (edge_at g j).from) p (node ∙ sym again)
        (left ∙ ap (λ (v : ℕ). cap - label_of (set labels (edge_at g k).to l) v) (sym again))))
    | inr other ↦
        let same : label_of (set labels (edge_at g k).to l) (edge_at g j).from ≡ label_of labels (edge_at g j).from = set_other labels (edge_at g k).to (edge_at g j).from l other in
        elim (t.each j ltj here) [
          | inl done ↦ elim done [
            | inl tight ↦ inl (inl (let lower = set_lower labels (edge_at g k).to (edge_at g j).to l lt below in omega (arith, lower, same, tight)))
            | inr waits ↦ inl (inr (subst (λ (n : ℕ). IsTrue (is_waiting fs (edge_at g j).from (cap - n))) (sym same) (waits_still es fs e (edge_at g j).from (cap - label_of labels (edge_at g j).from) p waits)))
          ]
          | inr due ↦ elim (has_cons k j ks due) [
            | inl q ↦ inl (inl (subst (λ (i : ℕ). ((edge_at g i).from ≡ (edge_at g k).to → ⊥) → IsTight g limit (set labels (edge_at g k).to l) i) q
                (λ apart. (let from = set_other labels (edge_at g k).to (edge_at g k).from l apart in let to = set_same labels (edge_at g k).to l lt in omega (arith, from, to, is))) other))
            | inr there ↦ inr there
          ]
        ]
  ];
}

pub attained_lowered : (g : Digraph) (P : List Bool) (limit : Limit) (u cap : ℕ) (labels : List ℕ) (k l : ℕ) → k < length g.edges → IsTrue (present P k) → (edge_at g k).from < g.nodes
    → l ≡ label_of labels (edge_at g k).from + cost_of limit (edge_at g k) → (edge_at g k).to < length labels → l < label_of labels (edge_at g k).to → label_of labels (edge_at g k).to ≤ cap
    → AreAttained g P limit u cap labels → AreAttained g P limit u cap (set labels (edge_at g k).to l)
attained_lowered g P limit u cap labels k l lt here inside is room below most a = record {
  walk = λ v ltv low. elim (cases_eq v (edge_at g k).to) [
    | inl e ↦
        let w = a.walk (edge_at g k).from inside (omega arith) in
        let cost : cost_along limit g (w.0 ++ k ∷ []) ≡ label_of (set labels (edge_at g k).to l) (edge_at g k).to =
        sum_by_push (λ (j : ℕ). cost_of limit (edge_at g j)) w.0 k ∙ (ap (λ (n : ℕ). n + cost_of limit (edge_at g k)) w.2 ∙ (sym is ∙ sym (set_same labels (edge_at g k).to l room))) in
        subst (λ (x : ℕ). (ks : List ℕ) × IsTrue (is_walk g P u x ks) × (cost_along limit g ks ≡ label_of (set labels (edge_at g k).to l) x)) (sym e)
        (w.0 ++ k ∷ [], walk_push g P u (edge_at g k).from k w.0 w.1 lt here refl, cost)
    | inr ne ↦
        let same = set_other labels (edge_at g k).to v l ne in
        let w = a.walk v ltv (omega (arith, same, low)) in
        (w.0, w.1, w.2 ∙ sym same)
  ];
}

-- ---- one edge

pub relaxed_pass : (g : Digraph) (P : List Bool) (k : ℕ) (ks : List ℕ) (t : Costs) (es : List Waiting) → (IsTrue (present P k) → IsTight g t.limit t.labels k) → AreRelaxed g P (k ∷ ks) ks t t es es es
relaxed_pass g P k ks t es ok = record {
  inside = λ h. h;
  lower = λ v. omega arith;
  work = omega arith;
  attained = λ u a. a;
  led = λ u none a. a;
  tight = λ a. tight_passed g P t.limit t.cap t.labels es k ks ok a;
}

pub relaxed_lower : (g : Digraph) (P : List Bool) (k cost : ℕ) (ks : List ℕ) (x : Edge) (c : Change) (t new : Costs) (es fs : List Waiting) (left : ℕ) → k < length g.edges → x ≡ edge_at g k → IsTrue (present P k)
    → x.from < g.nodes → x.to < g.nodes → length t.labels ≡ g.nodes → cost ≡ cost_of t.limit x → c.node ≡ x.to → c.place ≡ k → c.old ≡ label_of t.labels c.node → c.label ≡ label_of t.labels x.from + cost → c.label < label_of t.labels x.to → label_of t.labels x.to ≤ t.cap
    → IsLast t.changes (length t.changes) x.from (label_of t.labels x.from) c.before → new ≡ record t { labels = set t.labels c.node c.label; changes = t.changes ++ c ∷ [] } → left ≡ new.cap - label_of new.labels x.to → IsPermutation (record { left = left; node = x.to } ∷ es) fs
    → AreRelaxed g P (k ∷ ks) ks t new es es fs
relaxed_lower g P k cost ks x c t new es fs left lt read here from to len costs node place old is below most last new-is left-is p =
    let room : x.to < length t.labels = omega arith in
    let fewer : length fs ≡ suc (length es) = length_permutation (record { left = left; node = x.to } ∷ es) fs p in
    let full : c.label ≡ label_of t.labels x.from + cost_of t.limit x = omega arith in
    let after : Costs = record t { labels = set t.labels c.node c.label; changes = t.changes ++ c ∷ [] } in
    let labels : set t.labels c.node c.label ≡ set t.labels x.to c.label = ap (λ (v : ℕ). set t.labels v c.label) node in
    let left-at : left ≡ t.cap - label_of (set t.labels x.to c.label) x.to = subst (λ (r : Costs). left ≡ r.cap - label_of r.labels x.to) new-is left-is ∙ ap (λ (ls : List ℕ). t.cap - label_of ls x.to) labels in
    subst (λ (r : Costs). AreRelaxed g P (k ∷ ks) ks t r es es fs) (sym new-is) (record {
      inside = λ h. All-permutation (λ (e : Waiting). e.node < g.nodes) (record { left = left; node = x.to } ∷ es) fs p (All-cons (λ (e : Waiting). e.node < g.nodes) (record { left = left; node = x.to }) es to h);
      lower = λ v. subst (λ (ls : List ℕ). label_of ls v ≤ label_of t.labels v) (sym labels) (set_lower t.labels x.to v c.label room below);
      work = subst (λ (ls : List ℕ). sum ls + length fs ≤ sum t.labels + length es) (sym labels) (omega (arith, fewer, sum_by-set (λ (n : ℕ). n) t.labels x.to c.label 0 room, below));
      attained = λ u a. subst (λ (ls : List ℕ). AreAttained g P t.limit u t.cap ls) (sym labels)
          (subst (λ (y : Edge). (y.from < g.nodes) → (c.label ≡ label_of t.labels y.from + cost_of t.limit y) → (y.to < length t.labels) → (c.label < label_of t.labels y.to) → (label_of t.labels y.to ≤ t.cap) → AreAttained g P t.limit u t.cap (set t.labels y.to c.label)) (sym read)
          (λ p1 p2 p3 p4 p5. attained_lowered g P t.limit u t.cap t.labels k c.label lt here p1 p2 p3 p4 p5 a) from full room below most);
      led = λ u none a.
          subst (λ (y : Edge). (y.from < g.nodes) → (label_of t.labels y.from < t.cap) → IsLast t.changes (length t.changes) y.from (label_of t.labels y.from) c.before → (c.node ≡ y.to) → (c.label ≡ label_of t.labels y.from + cost_of t.limit y) → AreLed g P u after) (sym read)
          (λ p1 p2 p3 p4 p5. led_lowered g P u k t c lt here p1 p2 p3 place p4 old p5 none a) from (omega arith) last node full;
      tight = λ a. subst (λ (ls : List ℕ). AreTight g P t.limit t.cap ls fs ks) (sym labels)
          (subst (λ (y : Edge). (c.label ≡ label_of t.labels y.from + cost_of t.limit y) → (y.to < length t.labels) → (c.label < label_of t.labels y.to) → IsPermutation (record { left = left; node = y.to } ∷ es) fs → (left ≡ t.cap - label_of (set t.labels y.to c.label) y.to) → AreTight g P t.limit t.cap (set t.labels y.to c.label) fs ks) (sym read)
          (λ p2 p3 p4 p5 p6. tight_lowered g P t.limit t.cap t.labels es fs (record { left = left; node = (edge_at g k).to }) k c.label ks p2 p3 p4 p5 refl p6 a) full room below p left-at);
    })

-- ---- one list of edges after another

pub relaxed_none : (g : Digraph) (P : List Bool) (ks : List ℕ) (t : Costs) (es : List Waiting) → AreRelaxed g P ks ks t t es es es
relaxed_none g P ks t es = record { inside = λ h. h; lower = λ v. omega arith; work = omega arith; attained = λ u a. a; led = λ u none a. a; tight = λ a. a }

pub relaxed_trans : (g : Digraph) (P : List Bool) (js ks ls : List ℕ) (a b c : Costs) (waited es fs hs : List Waiting) → b.limit ≡ a.limit → b.cap ≡ a.cap
    → AreRelaxed g P js ks a b waited es fs → AreRelaxed g P ks ls b c fs fs hs → AreRelaxed g P js ls a c waited es hs
relaxed_trans g P js ks ls a b c waited es fs hs limit cap x y = record {
  inside = λ h. y.inside (x.inside h);
  lower = λ v. (let p = x.lower v in let q = y.lower v in omega arith);
  work = let p = x.work in let q = y.work in omega arith;
  attained = λ u h. subst (λ (l : Limit). AreAttained g P l u a.cap c.labels) limit (subst (λ (n : ℕ). AreAttained g P b.limit u n c.labels) cap
      (y.attained u (subst (λ (l : Limit). AreAttained g P l u b.cap b.labels) (sym limit) (subst (λ (n : ℕ). AreAttained g P a.limit u n b.labels) (sym cap) (x.attained u h)))));
  led = λ u none h. y.led u (let p = x.lower u in omega arith) (x.led u none h);
  tight = λ h. subst (λ (l : Limit). AreTight g P l a.cap c.labels hs ls) limit (subst (λ (n : ℕ). AreTight g P b.limit n c.labels hs ls) cap
      (y.tight (subst (λ (l : Limit). AreTight g P l b.cap b.labels fs ks) (sym limit) (subst (λ (n : ℕ). AreTight g P a.limit n b.labels fs ks) (sym cap) (x.tight h)))));
}

-- ---- one node that waited

-- a node whose label is lower by now says nothing
pub relaxed_stale : (g : Digraph) (P : List Bool) (t new : Costs) (e : Waiting) (es : List Waiting) → new ≡ t → (e.left ≡ t.cap - label_of t.labels e.node → ⊥) → AreRelaxed g P [] [] t new (e ∷ es) es es
relaxed_stale g P t new e es same old = subst (λ (r : Costs). AreRelaxed g P [] [] t r (e ∷ es) es es) (sym same) (record {
  inside = λ h. h;
  lower = λ v. omega arith;
  work = omega arith;
  attained = λ u a. a;
  led = λ u none a. a;
  tight = λ a. record {
    each = λ k lt here. elim (a.each k lt here) [
      | inl done ↦ elim done [
        | inl tight ↦ inl (inl tight)
        | inr waits ↦ elim (or_cases (e.node == (edge_at g k).from && e.left == t.cap - label_of t.labels (edge_at g k).from) (is_waiting es (edge_at g k).from (t.cap - label_of t.labels (edge_at g k).from)) waits) [
          | inl it ↦
              let parts = and_parts (e.node == (edge_at g k).from) (e.left == t.cap - label_of t.labels (edge_at g k).from) it in
              absurd (old (eqb-true e.left (t.cap - label_of t.labels (edge_at g k).from) parts.1 ∙ ap (λ (v : ℕ). t.cap - label_of t.labels v) (sym (eqb-true e.node (edge_at g k).from parts.0))))
          | inr there ↦ inl (inr there)
        ]
      ]
      | inr none ↦ absurd cc
    ];
  };
})

pub relaxed_node : (g : Digraph) (P : List Bool) (t new : Costs) (e : Waiting) (es fs : List Waiting) (ks : List ℕ) → ks ≡ leaving g e.node → AreRelaxed g P ks [] t new es es fs → AreRelaxed g P [] [] t new (e ∷ es) es fs
relaxed_node g P t new e es fs ks are r = record {
  inside = r.inside;
  lower = r.lower;
  work = r.work;
  attained = r.attained;
  led = r.led;
  tight = λ a. r.tight (record {
    each = λ k lt here. elim (a.each k lt here) [
      | inl done ↦ elim done [
        | inl tight ↦ inl (inl tight)
        | inr waits ↦ elim (or_cases (e.node == (edge_at g k).from && e.left == t.cap - label_of t.labels (edge_at g k).from) (is_waiting es (edge_at g k).from (t.cap - label_of t.labels (edge_at g k).from)) waits) [
          | inl it ↦
              let parts = and_parts (e.node == (edge_at g k).from) (e.left == t.cap - label_of t.labels (edge_at g k).from) it in
              inr (subst (λ (js : List ℕ). IsTrue (has js k)) (sym are) (at_places (λ f. f.from) g e.node k lt (sym (eqb-true e.node (edge_at g k).from parts.0))))
          | inr there ↦ inl (inr there)
        ]
      ]
      | inr none ↦ absurd cc
    ];
  });
}

pub tight_permuted : (g : Digraph) (P : List Bool) (limit : Limit) (cap : ℕ) (labels : List ℕ) (es fs : List Waiting) (ks : List ℕ) → IsPermutation es fs → AreTight g P limit cap labels es ks → AreTight g P limit cap labels fs ks
tight_permuted g P limit cap labels es fs ks p a = record {
  each = λ k lt here. elim (a.each k lt here) [
    | inl done ↦ elim done [
      | inl tight ↦ inl (inl tight)
      | inr waits ↦ inl (inr (sym (list_any-IsPermutation (λ (x : Waiting). x.node == (edge_at g k).from && x.left == cap - label_of labels (edge_at g k).from) es fs p) ∙ waits))
    ]
    | inr due ↦ inr due
  ];
}

pub relaxed_popped : (g : Digraph) (P : List Bool) (js : List ℕ) (a b c : Costs) (e : Waiting) (waited es fs hs ls : List Waiting) → b.limit ≡ a.limit → b.cap ≡ a.cap
    → AreRelaxed g P js [] a b waited es fs → IsPermutation fs (e ∷ hs) → AreRelaxed g P [] [] b c (e ∷ hs) hs ls → AreRelaxed g P js [] a c waited es ls
relaxed_popped g P js a b c e waited es fs hs ls limit cap x p y =
    let fewer : suc (length hs) ≡ length fs = length_permutation fs (e ∷ hs) p in
    record {
      inside = λ h. y.inside (λ i d lt. All-permutation (λ (w : Waiting). w.node < g.nodes) fs (e ∷ hs) p (x.inside h) (suc i) d (omega arith));
      lower = λ v. (let q = x.lower v in let r = y.lower v in omega arith);
      work = let q = x.work in let r = y.work in omega arith;
      attained = λ u h. subst (λ (l : Limit). AreAttained g P l u a.cap c.labels) limit (subst (λ (n : ℕ). AreAttained g P b.limit u n c.labels) cap
          (y.attained u (subst (λ (l : Limit). AreAttained g P l u b.cap b.labels) (sym limit) (subst (λ (n : ℕ). AreAttained g P a.limit u n b.labels) (sym cap) (x.attained u h)))));
      led = λ u none h. y.led u (let q = x.lower u in omega arith) (x.led u none h);
      tight = λ h. subst (λ (l : Limit). AreTight g P l a.cap c.labels ls []) limit (subst (λ (n : ℕ). AreTight g P b.limit n c.labels ls []) cap
          (y.tight (tight_permuted g P b.limit b.cap b.labels fs (e ∷ hs) [] p (subst (λ (l : Limit). AreTight g P l b.cap b.labels fs []) (sym limit) (subst (λ (n : ℕ). AreTight g P a.limit n b.labels fs []) (sym cap) (x.tight h))))));
    }
