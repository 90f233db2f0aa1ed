-- One more node is visited, or the edge leads to none.
use Rattle.std.proofs.Common.{◌≡◌, ◌≢◌, ℕ, ◌+◌, ◌<◌, ◌≤◌, Bool, true, false, ◌⊎◌, List, [], ◌∷◌, ◌++◌, length, get_or, set, take, min, refl, sym, ap, subst, ◌∙◌, inl, inr, arith, length-append}
use Rattle.std.specs.Prelude.{IsTrue, ◌==◌}
use Rattle.std.proofs.lemmas.Bool.{or_cases, eqb-true, cases_eq, cases_lt, both_ways}
use Rattle.std.proofs.lemmas.List.{length-set, get_or-set_same, get_or-set_other, get_or_append_left, get_or_push}
use Rattle.std.proofs.lemmas.List.Folds.{list_any_more}
use Rattle.mono_graph.specs.Digraph.{Digraph, edge_at, has}
use Rattle.mono_flows.proofs.ListedSums.{fewer}
use Rattle.mono_flows.specs.declared.visit.Visit.{Visit}
use Rattle.mono_flows.specs.Residual.{residual_at, start_of, end_of}
use Rattle.mono_flows.specs.Visits.{visit_at, first_visit, is_marked, IsStep, IsSearchTree, AreMarks, Continues}

abbrev pub Covers : Digraph → List Bool → (ℕ → ℕ) → Bool → List Bool → List ℕ → Type 0
Covers g P f back marks ks = (k : ℕ) → IsTrue (has ks k) → 0 < residual_at g P f k back → IsTrue (is_marked marks (end_of (edge_at g k) back))

pub record Expanding (g : Digraph) (P : List Bool) (f : ℕ → ℕ) (sink : ℕ) (marks0 marks : List Bool) (vs0 vs : List Visit) (back : Bool) (ks : List ℕ) : Type 0 where
  pub visiting : Continues g P f marks0 marks vs0 vs
  pub covers : Covers g P f back marks ks
  pub away : is_marked marks0 sink ≡ false → is_marked marks sink ≡ false

pub begun : (g : Digraph) (P : List Bool) (f : ℕ → ℕ) (marks : List Bool) (vs : List Visit) → IsSearchTree g P f vs → AreMarks g marks vs → Continues g P f marks marks vs vs
begun g P f marks vs tree ok = record {
  tree = tree;
  marks = ok;
  extends = record { grows = omega arith; same = λ i lt. refl; kept = λ u h. h };
  work = omega arith;
}

pub kept_at : (vs : List Visit) (v : Visit) (i : ℕ) → i < length vs → visit_at (vs ++ v ∷ []) i ≡ visit_at vs i
kept_at vs v i lt = get_or_append_left vs (v ∷ []) (first_visit 0 0) i lt

pub new_at : (vs : List Visit) (v : Visit) (i : ℕ) → length vs ≡ i → visit_at (vs ++ v ∷ []) i ≡ v
new_at vs v i e = get_or_push vs v (first_visit 0 0) i e

pub old_or_new : (vs : List Visit) (v : Visit) (i : ℕ) → i < length (vs ++ v ∷ []) → (i < length vs) ⊎ (length vs ≡ i)
old_or_new vs v i lt = elim (cases_lt i (length vs)) [ inl old ↦ inl old | inr new ↦ inr (omega (arith, length-append vs (v ∷ []))) ]

-- a visit is a step where the visit before it stays
pub step_like : (g : Digraph) (P : List Bool) (f : ℕ → ℕ) (vs ws : List Visit) (w : Visit) (i : ℕ) → visit_at ws w.before ≡ visit_at vs w.before → IsStep g P f vs w i → IsStep g P f ws w i
step_like g P f vs ws w i old s = record {
  before = s.before;
  known = s.known;
  start = s.start ∙ ap (λ (x : Visit). x.node) (sym old);
  end = s.end;
  residual = s.residual;
  less = subst (λ (x : Visit). w.residual ≤ x.residual) (sym old) s.less;
}

step_kept : (g : Digraph) (P : List Bool) (f : ℕ → ℕ) (vs : List Visit) (v w : Visit) (i : ℕ) → i ≤ length vs → IsStep g P f vs w i → IsStep g P f (vs ++ v ∷ []) w i
step_kept g P f vs v w i le s = step_like g P f vs (vs ++ v ∷ []) w i (let b = s.before in kept_at vs v w.before (omega arith)) s

pub tree_push : (g : Digraph) (P : List Bool) (f : ℕ → ℕ) (vs : List Visit) (v : Visit) → IsSearchTree g P f vs → IsStep g P f vs v (length vs) → v.node < g.nodes → 0 < v.residual → IsSearchTree g P f (vs ++ v ∷ [])
tree_push g P f vs v t s inside some = record {
  some = let some' = t.some in omega (arith, length-append vs (v ∷ []));
  nodes = λ i lt. elim (old_or_new vs v i lt) [
    | inl old ↦ subst (λ (x : Visit). x.node < g.nodes) (sym (kept_at vs v i old)) (t.nodes i old)
    | inr new ↦ subst (λ (x : Visit). x.node < g.nodes) (sym (new_at vs v i new)) inside
  ];
  residuals = λ i lt. elim (old_or_new vs v i lt) [
    | inl old ↦ subst (λ (x : Visit). 0 < x.residual) (sym (kept_at vs v i old)) (t.residuals i old)
    | inr new ↦ subst (λ (x : Visit). 0 < x.residual) (sym (new_at vs v i new)) some
  ];
  most = λ i lt. elim (old_or_new vs v i lt) [
    | inl old ↦ subst (λ (x : Visit). x.residual ≤ (visit_at (vs ++ v ∷ []) 0).residual) (sym (kept_at vs v i old)) (subst (λ (x : Visit). (visit_at vs i).residual ≤ x.residual) (sym (kept_at vs v 0 t.some)) (t.most i old))
    | inr new ↦ subst (λ (x : Visit). x.residual ≤ (visit_at (vs ++ v ∷ []) 0).residual) (sym (new_at vs v i new)) (subst (λ (x : Visit). v.residual ≤ x.residual) (sym (kept_at vs v 0 t.some))
        (let a = s.less in let b = t.most v.before (s.before) in omega arith))
  ];
  steps = λ i pos lt. elim (old_or_new vs v i lt) [
    | inl old ↦ subst (λ (x : Visit). IsStep g P f (vs ++ v ∷ []) x i) (sym (kept_at vs v i old)) (step_kept g P f vs v (visit_at vs i) i (omega arith) (t.steps i pos old))
    | inr new ↦ subst (λ (x : Visit). IsStep g P f (vs ++ v ∷ []) x i) (sym (new_at vs v i new))
        (subst (λ (j : ℕ). IsStep g P f (vs ++ v ∷ []) v j) new (step_kept g P f vs v v (length vs) (omega arith) s))
  ];
}

marked_here : (marks : List Bool) (u : ℕ) → u < length marks → IsTrue (is_marked (set marks u true) u)
marked_here marks u lt = get_or-set_same marks u true false lt

marked_there : (marks : List Bool) (u w : ℕ) → (w ≢ u) → is_marked (set marks u true) w ≡ is_marked marks w
marked_there marks u w ne = get_or-set_other marks u w true false ne

still_marked : (marks : List Bool) (u w : ℕ) → u < length marks → IsTrue (is_marked marks w) → IsTrue (is_marked (set marks u true) w)
still_marked marks u w lt h = elim (cases_eq w u) [
  | inl e ↦ subst (λ (x : ℕ). IsTrue (is_marked (set marks u true) x)) (sym e) (marked_here marks u lt)
  | inr ne ↦ marked_there marks u w ne ∙ h
]

marks_push : (g : Digraph) (marks : List Bool) (vs : List Visit) (v : Visit) → AreMarks g marks vs → v.node < g.nodes → is_marked marks v.node ≡ false → AreMarks g (set marks v.node true) (vs ++ v ∷ [])
marks_push g marks vs v ok inside new = record {
  len = length-set marks v.node true ∙ ok.len;
  marked = λ i lt. elim (old_or_new vs v i lt) [
    | inl old ↦ subst (λ (x : Visit). IsTrue (is_marked (set marks v.node true) x.node)) (sym (kept_at vs v i old)) (still_marked marks v.node (visit_at vs i).node room (ok.marked i old))
    | inr e ↦ subst (λ (x : Visit). IsTrue (is_marked (set marks v.node true) x.node)) (sym (new_at vs v i e)) (marked_here marks v.node room)
  ];
  visited = λ u h. elim (cases_eq u v.node) [
    | inl e ↦ (length vs, omega (arith, length-append vs (v ∷ [])), ap (λ (x : Visit). x.node) (new_at vs v (length vs) refl) ∙ sym e)
    | inr ne ↦ let r = ok.visited u (sym (marked_there marks v.node u ne) ∙ h) in
        (r.0, let low = r.1 in omega (arith, length-append vs (v ∷ [])), ap (λ (x : Visit). x.node) (kept_at vs v r.0 r.1) ∙ r.2)
  ];
  once = λ i j lti ltj e. elim (old_or_new vs v i lti) [
    | inl oldi ↦ elim (old_or_new vs v j ltj) [
      | inl oldj ↦ ok.once i j oldi oldj (ap (λ (x : Visit). x.node) (sym (kept_at vs v i oldi)) ∙ (e ∙ ap (λ (x : Visit). x.node) (kept_at vs v j oldj)))
      | inr newj ↦ absurd (clash i oldi (ap (λ (x : Visit). x.node) (sym (kept_at vs v i oldi)) ∙ (e ∙ ap (λ (x : Visit). x.node) (new_at vs v j newj))))
    ]
    | inr newi ↦ elim (old_or_new vs v j ltj) [
      | inl oldj ↦ absurd (clash j oldj (ap (λ (x : Visit). x.node) (sym (kept_at vs v j oldj)) ∙ (sym e ∙ ap (λ (x : Visit). x.node) (new_at vs v i newi))))
      | inr newj ↦ sym newi ∙ newj
    ]
  ];
}
  where
    room : v.node < length marks
    room = let len = ok.len in omega arith

    clash : (i : ℕ) → i < length vs → (visit_at vs i).node ≡ v.node → ⊥
    clash i lt e = both_ways (is_marked marks v.node) new (subst (λ (u : ℕ). IsTrue (is_marked marks u)) e (ok.marked i lt))

pub visited : (g : Digraph) (P : List Bool) (f : ℕ → ℕ) (marks0 marks : List Bool) (vs0 vs : List Visit) (v : Visit) → Continues g P f marks0 marks vs0 vs
    → IsStep g P f vs v (length vs) → v.node < g.nodes → 0 < v.residual → is_marked marks v.node ≡ false → Continues g P f marks0 (set marks v.node true) vs0 (vs ++ v ∷ [])
visited g P f marks0 marks vs0 vs v x s inside some new =
    let room : v.node < length marks = let len = x.marks.len in omega arith in
    record {
      tree = tree_push g P f vs v x.tree s inside some;
      marks = marks_push g marks vs v x.marks inside new;
      extends = record {
        grows = let grows = x.extends.grows in omega (arith, length-append vs (v ∷ []));
        same = λ i lt. kept_at vs v i (let grows = x.extends.grows in omega arith) ∙ x.extends.same i lt;
        kept = λ u h. still_marked marks v.node u room (x.extends.kept u h);
      };
      work = let work = x.work in omega (arith, length-append vs (v ∷ []), fewer marks v.node room new);
    }

abbrev pub visit_along : Digraph → List Bool → (ℕ → ℕ) → List Visit → ℕ → ℕ → Bool → Visit
visit_along g P f vs at k back = record { node = end_of (edge_at g k) back; edge = record { place = k; back = back }; before = at; residual = min (residual_at g P f k back) (visit_at vs at).residual }

-- the visit that the code makes
pub step_along : (g : Digraph) (P : List Bool) (f : ℕ → ℕ) (marks0 marks : List Bool) (vs0 vs : List Visit) (at k : ℕ) (back : Bool) → Continues g P f marks0 marks vs0 vs → at < length vs0
    → k < length g.edges → start_of (edge_at g k) back ≡ (visit_at vs0 at).node → 0 < residual_at g P f k back → end_of (edge_at g k) back < g.nodes → is_marked marks (end_of (edge_at g k) back) ≡ false
    → Continues g P f marks0 (set marks (end_of (edge_at g k) back) true) vs0 (vs ++ visit_along g P f vs at k back ∷ [])
step_along g P f marks0 marks vs0 vs at k back x inside known start some low new =
    let inside' : at < length vs = let grows = x.extends.grows in omega arith in
    let had : 0 < (visit_at vs at).residual = x.tree.residuals at inside' in
    visited g P f marks0 marks vs0 vs (visit_along g P f vs at k back) x
    (record {
      before = inside';
      known = known;
      start = start ∙ ap (λ (w : Visit). w.node) (sym (x.extends.same at inside));
      end = refl;
      residual = omega arith;
      less = omega arith;
    }) low (omega arith) new

covers_more : (g : Digraph) (P : List Bool) (f : ℕ → ℕ) (back : Bool) (marks : List Bool) (ks : List ℕ) (i k : ℕ) → i < length ks → k ≡ get_or ks i 0
    → Covers g P f back marks (take i ks) → (0 < residual_at g P f k back → IsTrue (is_marked marks (end_of (edge_at g k) back))) → Covers g P f back marks (take (i + 1) ks)
covers_more g P f back marks ks i k lt is old here j h some =
    elim (or_cases (has (take i ks) j) (get_or ks i 0 == j) (sym (list_any_more (λ m. m == j) ks i 0 lt) ∙ h)) [
      | inl t ↦ old j t some
      | inr e ↦ let same : k ≡ j = is ∙ eqb-true (get_or ks i 0) j e in
          subst (λ (m : ℕ). IsTrue (is_marked marks (end_of (edge_at g m) back))) same (here (subst (λ (m : ℕ). 0 < residual_at g P f m back) (sym same) some))
    ]

pub arrived : (g : Digraph) (P : List Bool) (f : ℕ → ℕ) (marks0 marks ms : List Bool) (vs0 vs us : List Visit) (at k : ℕ) (back : Bool) (v : Visit) → ms ≡ marks → us ≡ vs
    → v ≡ visit_along g P f us at k back → at < length vs0 → k < length g.edges → start_of (edge_at g k) back ≡ (visit_at vs0 at).node
    → 0 < residual_at g P f k back → end_of (edge_at g k) back < g.nodes → is_marked ms (end_of (edge_at g k) back) ≡ false
    → Continues g P f marks0 marks vs0 vs → Continues g P f marks0 (set marks v.node true) vs0 (vs ++ v ∷ [])
arrived g P f marks0 marks ms vs0 vs us at k back v marks-is visits-is is inside known start some low new x =
    let is' : v ≡ visit_along g P f vs at k back = is ∙ ap (λ (ws : List Visit). visit_along g P f ws at k back) visits-is in
    subst (λ (w : Visit). Continues g P f marks0 (set marks w.node true) vs0 (vs ++ w ∷ [])) (sym is')
    (step_along g P f marks0 marks vs0 vs at k back x inside known start some low (subst (λ (bs : List Bool). is_marked bs (end_of (edge_at g k) back) ≡ false) marks-is new))

pub next_visited : (g : Digraph) (P : List Bool) (f : ℕ → ℕ) (sink : ℕ) (marks0 marks new : List Bool) (vs0 vs ws : List Visit) (back : Bool) (ks : List ℕ) (i k : ℕ) (v : Visit)
    → i < length ks → k ≡ get_or ks i 0 → Expanding g P f sink marks0 marks vs0 vs back (take i ks)
    → v.node ≡ end_of (edge_at g k) back → v.node < g.nodes → (v.node ≢ sink)
    → Continues g P f marks0 (set marks v.node true) vs0 (vs ++ v ∷ [])
    → new ≡ set marks v.node true → ws ≡ vs ++ v ∷ []
    → Expanding g P f sink marks0 new vs0 ws back (take (i + 1) ks)
next_visited g P f sink marks0 marks new vs0 vs ws back ks i k v lt is x node-is low apart more marks-is visits-is =
    let room : v.node < length marks = let len = x.visiting.marks.len in omega arith in
    subst (λ (ms : List Bool). Expanding g P f sink marks0 ms vs0 ws back (take (i + 1) ks)) (sym marks-is)
    (subst (λ (us : List Visit). Expanding g P f sink marks0 (set marks v.node true) vs0 us back (take (i + 1) ks)) (sym visits-is)
    (record {
      visiting = more;
      covers = covers_more g P f back (set marks v.node true) ks i k lt is
          (λ j h some. still_marked marks v.node (end_of (edge_at g j) back) room (x.covers j h some))
          (λ _. subst (λ (u : ℕ). IsTrue (is_marked (set marks v.node true) u)) node-is (marked_here marks v.node room));
      away = λ h. marked_there marks v.node sink (λ e. apart (sym e)) ∙ x.away h;
    }))

pub next_passed : (g : Digraph) (P : List Bool) (f : ℕ → ℕ) (sink : ℕ) (marks0 marks : List Bool) (vs0 vs : List Visit) (back : Bool) (ks : List ℕ) (i k : ℕ)
    → i < length ks → k ≡ get_or ks i 0 → Expanding g P f sink marks0 marks vs0 vs back (take i ks)
    → (0 < residual_at g P f k back → IsTrue (is_marked marks (end_of (edge_at g k) back)))
    → Expanding g P f sink marks0 marks vs0 vs back (take (i + 1) ks)
next_passed g P f sink marks0 marks vs0 vs back ks i k lt is x here = record {
  visiting = x.visiting;
  covers = covers_more g P f back marks ks i k lt is x.covers here;
  away = x.away;
}
