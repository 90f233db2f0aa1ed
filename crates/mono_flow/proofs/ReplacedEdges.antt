-- Edges that aren't open any more are replaced in a list, place by place.
use Rattle.std.proofs.Common.{◌≡◌, ◌≢◌, ℕ, suc, ◌+◌, ◌-◌, ◌<◌, ◌≤◌, ◌⊎◌, Bool, false, List, [], ◌∷◌, ◌++◌, length, get_or, set, refl, sym, ap, subst, ◌∙◌, inl, inr, arith, get_or-set_same, get_or-set_other}
use Rattle.std.specs.Prelude.{IsTrue, All}
use Rattle.std.proofs.lemmas.Bool.{both_ways, cases_eq, cases_lt}
use Rattle.std.proofs.lemmas.List.{get_or_default, length-set}
use Rattle.mono_graph.specs.Digraph.{Digraph, has}
use Rattle.mono_graph.proofs.Membership.{has_append_cases, has_append_left, has_cons, has_get_or}
use Rattle.mono_graph.proofs.Pigeons.{all_has}
use Rattle.mono_graph.proofs.Prefixes.{has_new}
use Rattle.mono_theory.proofs.WalksAsEvidence.{all_by}
use Rattle.mono_flow.specs.Growing.{IsReplaced, IsReplacedAt, is_open}

-- a number of the list has a place
pub index_of : (ks : List ℕ) (v : ℕ) → IsTrue (has ks v) → (i : ℕ) × (i < length ks) × (get_or ks i 0 ≡ v)
index_of [] v h = absurd cc
index_of (k ∷ ks) v h = elim (has_cons k v ks h) [
  | inl e ↦ (0, omega arith, e)
  | inr t ↦ let r = index_of ks v t in (suc r.0, omega (arith, r.1), r.2)
]

-- the first places of the list have open edges; the open ones of the list at the beginning are in it, and each fresh one is in it or still fresh
pub record IsReplacing (g : Digraph) (P marks : List Bool) (rest fresh rest' fresh' : List ℕ) (place : ℕ) : Type 0 where
  pub passed : (i : ℕ) → i < place → IsTrue (is_open g P marks (get_or rest' i 0))
  pub within : place ≤ length rest'
  pub known : All (λ k. k < length g.edges) rest'
  pub still_fresh : All (λ k. (k < length g.edges) × IsTrue (is_open g P marks k)) fresh'
  pub kept : (k : ℕ) → IsTrue (has rest k) → IsTrue (is_open g P marks k) → IsTrue (has rest' k)
  pub each_fresh : (k : ℕ) → IsTrue (has fresh k) → IsTrue (has rest' k) ⊎ IsTrue (has fresh' k)

pub replacing_none : {g : Digraph} {P marks : List Bool} {rest fresh : List ℕ} → All (λ k. k < length g.edges) rest → All (λ k. (k < length g.edges) × IsTrue (is_open g P marks k)) fresh → IsReplacing g P marks rest fresh rest fresh 0
replacing_none known fresh = record {
  passed = λ i lt. absurd (omega (arith, lt));
  within = omega arith;
  known = known;
  still_fresh = fresh;
  kept = λ k h o. h;
  each_fresh = λ k h. inr h;
}

pub replacing_open : {g : Digraph} {P marks : List Bool} {rest fresh rest' fresh' : List ℕ} {place : ℕ} → place < length rest' → IsTrue (is_open g P marks (get_or rest' place 0)) → IsReplacing g P marks rest fresh rest' fresh' place
    → IsReplacing g P marks rest fresh rest' fresh' (place + 1)
replacing_open {g = g} {P = P} {marks = marks} {rest' = rest'} {place = place} lt here h = record {
  passed = λ i l. elim (cases_lt i place) [
    | inl early ↦ h.passed i early
    | inr ge ↦ (let is : place ≡ i = omega (arith, ge, l) in subst (λ (j : ℕ). IsTrue (is_open g P marks (get_or rest' j 0))) is here)
  ];
  within = omega (arith, lt);
  known = h.known;
  still_fresh = h.still_fresh;
  kept = h.kept;
  each_fresh = h.each_fresh;
}

-- an edge that isn't open leaves
pub replacing_closed : {g : Digraph} {P marks : List Bool} {rest fresh rest' fresh' rest'' fresh'' : List ℕ} {place next : ℕ} → place < length rest' → is_open g P marks (get_or rest' place 0) ≡ false
    → ((k : ℕ) → IsTrue (has fresh k) → IsTrue (is_open g P marks k)) → All (λ k. k < length g.edges) rest'' → All (λ k. (k < length g.edges) × IsTrue (is_open g P marks k)) fresh''
    → ((k : ℕ) → IsTrue (has fresh' k) → IsTrue (has rest'' k) ⊎ IsTrue (has fresh'' k)) → ((i : ℕ) → place ≤ i → i < next → IsTrue (is_open g P marks (get_or rest'' i 0))) → next ≤ length rest''
    → IsReplacedAt rest' fresh' place rest'' fresh'' next → IsReplacing g P marks rest fresh rest' fresh' place → IsReplacing g P marks rest fresh rest'' fresh'' next
replacing_closed {g = g} {P = P} {marks = marks} {rest' = rest'} {rest'' = rest''} {fresh'' = fresh''} {place = place} lt shut all_open known fresh_known more here within at h = record {
  passed = λ i l. elim (cases_lt i place) [
    | inl early ↦ subst (λ (k : ℕ). IsTrue (is_open g P marks k)) (sym (at.before i early)) (h.passed i early)
    | inr ge ↦ here i ge l
  ];
  within = within;
  known = known;
  still_fresh = fresh_known;
  kept = λ k t o. at.old k (h.kept k t o) (other k o);
  each_fresh = λ k t. elim (h.each_fresh k t) [
    | inl in-rest ↦ inl (at.old k in-rest (other k (all_open k t)))
    | inr in-fresh ↦ more k in-fresh
  ];
}
  where
    other : (k : ℕ) → IsTrue (is_open g P marks k) → k ≢ get_or rest' place 0
    other k o e = both_ways (is_open g P marks (get_or rest' place 0)) shut (subst (λ (j : ℕ). IsTrue (is_open g P marks j)) e o)

-- the last of the fresh ones comes to the place
pub set_replaced : (rest fresh fresh' : List ℕ) (place x : ℕ) → place < length rest → fresh ≡ fresh' ++ x ∷ [] → IsReplacedAt rest fresh place (set rest place x) fresh' (place + 1)
set_replaced rest fresh fresh' place x lt e = record {
  step = inl (x, e, refl, refl);
  old = λ k h ne.
      let p = index_of rest k h in
      subst (λ (v : ℕ). IsTrue (has (set rest place x) v)) (get_or-set_other rest place p.0 x 0 (λ q. ne (sym p.2 ∙ ap (λ (i : ℕ). get_or rest i 0) q)) ∙ p.2)
      (has_get_or (set rest place x) p.0 0 (omega (arith, p.1, length-set rest place x)));
  before = λ i l. get_or-set_other rest place i x 0 (λ q. omega (arith, l, q));
  there = λ k h.
      let p = index_of (set rest place x) k h in
      elim (cases_eq place p.0) [
        | inl q ↦
            let is : x ≡ k = sym (get_or-set_same rest place x 0 lt) ∙ ap (λ (i : ℕ). get_or (set rest place x) i 0) q ∙ p.2 in
            inr (subst (λ (v : ℕ). IsTrue (has fresh v)) is (subst (λ (ks : List ℕ). IsTrue (has ks x)) (sym e) (has_new fresh' x)))
        | inr ne ↦ inl (subst (λ (v : ℕ). IsTrue (has rest v)) (sym (get_or-set_other rest place p.0 x 0 (λ q. ne (sym q))) ∙ p.2)
            (has_get_or rest p.0 0 (omega (arith, p.1, length-set rest place x))))
      ];
}

no_items : (xs : List ℕ) → length xs ≡ 0 → xs ≡ []
no_items [] e = refl
no_items (x ∷ xs) e = absurd (omega (arith, e))

-- the item at a place left for the last of the list
pub record IsSwappedOut (rest rest' : List ℕ) (place : ℕ) : Type 0 where
  pub len : length rest' + 1 ≡ length rest
  pub moved : place < length rest' → get_or rest' place 0 ≡ get_or rest (length rest - 1) 0
  pub kept : (k : ℕ) → k ≢ place → k < length rest' → get_or rest' k 0 ≡ get_or rest k 0

pub swap_replaced : (rest rest' fresh fresh' : List ℕ) (place : ℕ) → place < length rest → length fresh ≡ 0 → length fresh' ≡ 0 → IsSwappedOut rest rest' place → IsReplacedAt rest fresh place rest' fresh' place
swap_replaced rest rest' fresh fresh' place lt none none' s = record {
  step = inr (no_items fresh none, no_items fresh' none', s.len, refl);
  old = λ k h ne.
      let p = index_of rest k h in
      let apart : p.0 ≢ place = λ q. ne (sym p.2 ∙ ap (λ (i : ℕ). get_or rest i 0) q) in
      elim (cases_lt p.0 (length rest')) [
        | inl early ↦ subst (λ (v : ℕ). IsTrue (has rest' v)) (s.kept p.0 apart early ∙ p.2) (has_get_or rest' p.0 0 early)
        | inr ge ↦
            let last : length rest - 1 ≡ p.0 = omega (arith, ge, p.1, s.len) in
            let room : place < length rest' = omega (arith, ge, p.1, s.len, lt, apart) in
            subst (λ (v : ℕ). IsTrue (has rest' v)) (s.moved room ∙ ap (λ (i : ℕ). get_or rest i 0) last ∙ p.2) (has_get_or rest' place 0 room)
      ];
  before = λ i l. s.kept i (λ q. omega (arith, l, q)) (omega (arith, l, lt, s.len));
  there = λ k h.
      let p = index_of rest' k h in
      elim (cases_eq place p.0) [
        | inl q ↦
            let room : place < length rest' = omega (arith, q, p.1) in
            let is : get_or rest (length rest - 1) 0 ≡ k = sym (s.moved room) ∙ ap (λ (i : ℕ). get_or rest' i 0) q ∙ p.2 in
            inl (subst (λ (v : ℕ). IsTrue (has rest v)) is (has_get_or rest (length rest - 1) 0 (omega (arith, lt))))
        | inr ne ↦ inl (subst (λ (v : ℕ). IsTrue (has rest v)) (sym (s.kept p.0 (λ q. ne (sym q)) p.1) ∙ p.2) (has_get_or rest p.0 0 (omega (arith, p.1, s.len))))
      ];
}

in_none : (k : ℕ) → IsTrue (has [] k) → ⊥
in_none k h = cc

the_one : (x k : ℕ) → IsTrue (has (x ∷ []) k) → x ≡ k
the_one x k h = elim (has_cons x k [] h) [
  | inl e ↦ e
  | inr nowhere ↦ absurd (in_none k nowhere)
]

-- a step past an edge that isn't open
pub replacing_step : {g : Digraph} {P marks : List Bool} {rest fresh rest' fresh' rest'' fresh'' : List ℕ} {place next : ℕ} → place < length rest' → is_open g P marks (get_or rest' place 0) ≡ false
    → All (λ k. (k < length g.edges) × IsTrue (is_open g P marks k)) fresh → IsReplacedAt rest' fresh' place rest'' fresh'' next
    → IsReplacing g P marks rest fresh rest' fresh' place → IsReplacing g P marks rest fresh rest'' fresh'' next
replacing_step {g = g} {P = P} {marks = marks} {rest = rest} {fresh = fresh} {rest' = rest'} {fresh' = fresh'} {rest'' = rest''} {fresh'' = fresh''} {place = place} {next = next} lt shut all_open at h = elim at.step [
  | inl w ↦
      let x : ℕ = w.0 in
      let fresh-is : fresh' ≡ fresh'' ++ x ∷ [] = w.1 in
      let rest-is : rest'' ≡ set rest' place x = w.2 in
      let next-is : next ≡ place + 1 = w.3 in
      let there : get_or rest'' place 0 ≡ x = ap (λ (ks : List ℕ). get_or ks place 0) rest-is ∙ get_or-set_same rest' place x 0 lt in
      let len : length rest'' ≡ length rest' = ap (λ (ks : List ℕ). length ks) rest-is ∙ length-set rest' place x in
      let room : place < length rest'' = omega (arith, lt, len) in
      let open_x : IsTrue (is_open g P marks x) = (all_has (λ k. (k < length g.edges) × IsTrue (is_open g P marks k)) fresh' x h.still_fresh (subst (λ (ks : List ℕ). IsTrue (has ks x)) (sym fresh-is) (has_new fresh'' x))).1 in
      replacing_closed lt shut opened known
      (all_by (λ k. (k < length g.edges) × IsTrue (is_open g P marks k)) fresh'' (λ k t.
      all_has (λ j. (j < length g.edges) × IsTrue (is_open g P marks j)) fresh' k h.still_fresh (subst (λ (ks : List ℕ). IsTrue (has ks k)) (sym fresh-is) (has_append_left fresh'' (x ∷ []) k t))))
      (moved x fresh-is there room)
      (λ i low high. (let is : place ≡ i = omega (arith, low, high, next-is) in subst (λ (j : ℕ). IsTrue (is_open g P marks (get_or rest'' j 0))) is (subst (λ (k : ℕ). IsTrue (is_open g P marks k)) (sym there) open_x)))
      (omega (arith, next-is, room)) at h
  | inr w ↦
      let next-is : next ≡ place = w.3 in
      replacing_closed lt shut opened known (subst (λ (ks : List ℕ). All (λ k. (k < length g.edges) × IsTrue (is_open g P marks k)) ks) (sym w.1) (λ i d l. absurd (omega (arith, l))))
      (λ k t. absurd (in_none k (subst (λ (ks : List ℕ). IsTrue (has ks k)) w.0 t)))
      (λ i low high. absurd (omega (arith, low, high, next-is))) (omega (arith, next-is, lt, w.2)) at h
]
  where
    known : All (λ k. k < length g.edges) rest''
    known = all_by (λ k. k < length g.edges) rest'' (λ k t. elim (at.there k t) [
      | inl old ↦ all_has (λ j. j < length g.edges) rest' k h.known old
      | inr new ↦ (all_has (λ j. (j < length g.edges) × IsTrue (is_open g P marks j)) fresh' k h.still_fresh new).0
    ])

    moved : (x : ℕ) → fresh' ≡ fresh'' ++ x ∷ [] → get_or rest'' place 0 ≡ x → place < length rest'' → (k : ℕ) → IsTrue (has fresh' k) → IsTrue (has rest'' k) ⊎ IsTrue (has fresh'' k)
    moved x e there room k t = elim (has_append_cases fresh'' (x ∷ []) k (subst (λ (ks : List ℕ). IsTrue (has ks k)) e t)) [
      | inl still ↦ inr still
      | inr came ↦ inl (subst (λ (v : ℕ). IsTrue (has rest'' v)) (there ∙ the_one x k came) (has_get_or rest'' place 0 room))
    ]

    opened : (k : ℕ) → IsTrue (has fresh k) → IsTrue (is_open g P marks k)
    opened k t = (all_has (λ j. (j < length g.edges) × IsTrue (is_open g P marks j)) fresh k all_open t).1

-- all places were looked at
pub replaced_all : {g : Digraph} {P marks : List Bool} {rest fresh rest' fresh' : List ℕ} {place : ℕ} → length rest' ≤ place → IsReplacing g P marks rest fresh rest' fresh' place → IsReplaced g P marks rest fresh rest' fresh'
replaced_all {g = g} {P = P} {marks = marks} {rest' = rest'} le h = record {
  now_open = λ i d lt. (h.known i d lt, subst (λ (k : ℕ). IsTrue (is_open g P marks k)) (get_or_default rest' i 0 d lt) (h.passed i (omega (arith, lt, le))));
  still_fresh = h.still_fresh;
  kept = h.kept;
  each_fresh = h.each_fresh;
}
