-- Of some absent edges those that are needed, as far as the list was looked through.
use Rattle.std.proofs.Common.{◌≡◌, ◌≢◌, ℕ, ◌+◌, ◌-◌, ◌<◌, ◌≤◌, Bool, true, false, not, List, [], ◌∷◌, ◌++◌, length, get_or, take, filter, refl, sym, ap, subst, ◌∙◌, inl, inr, arith}
use Rattle.std.specs.Prelude.{IsTrue, if◌then◌else◌}
use Rattle.std.proofs.lemmas.Bool.{both_ways, not_from_false, not-true, false_from_ne_true}
use Rattle.std.proofs.lemmas.List.{take_more, take_all}
use Rattle.mono_graph.specs.Digraph.{Digraph, edge_at, has, is_distinct, weight_of}
use Rattle.mono_graph.proofs.CutsBoundFlows.{total, total_is}
use Rattle.mono_graph.proofs.Membership.{has_append_left, has_append_right, has_append_cases, has_cons, has_here, has_there}
use Rattle.mono_graph.proofs.Prefixes.{distinct_take, has_old, has_new, has_other, not_distinct}
use Rattle.mono_flow.specs.Flowing.{AreNeeded, EachIsNeeded}

-- fewer terms make no greater sum
pub total_fewer : (f : ℕ → ℕ) (p q : ℕ → Bool) (ks : List ℕ) → ((k : ℕ) → IsTrue (p k) → IsTrue (q k)) → total f p ks ≤ total f q ks
total_fewer f p q [] h = omega arith
total_fewer f p q (k ∷ ks) h = by (p k) (q k) (h k) (total_fewer f p q ks h)
  where
    by : (a b : Bool) → (IsTrue a → IsTrue b) → total f p ks ≤ total f q ks → (if a then f k else 0) + total f p ks ≤ (if b then f k else 0) + total f q ks
    by true true i le = omega (arith, le)
    by true false i le = absurd (both_ways false refl (i refl))
    by false true i le = omega (arith, le)
    by false false i le = omega (arith, le)

-- the same terms make the same sum
total_same : (f : ℕ → ℕ) (p q : ℕ → Bool) (ks : List ℕ) → ((k : ℕ) → IsTrue (has ks k) → p k ≡ q k) → total f p ks ≡ total f q ks
total_same f p q [] h = refl
total_same f p q (k ∷ ks) h =
    let one : (if p k then f k else 0) ≡ (if q k then f k else 0) = ap (λ (b : Bool). if b then f k else 0) (h k (has_here k ks)) in
    let rest = total_same f p q ks (λ j t. h j (has_there k j ks t)) in
    omega (arith, one, rest)

total_push : (f : ℕ → ℕ) (p : ℕ → Bool) (ks : List ℕ) (k : ℕ) → total f p (ks ++ k ∷ []) ≡ total f p ks + (if p k then f k else 0)
total_push f p [] k = omega arith
total_push f p (j ∷ ks) k = omega (arith, total_push f p ks k)

-- what the edges weigh that aren't named
abbrev pub rest_of : Digraph → List ℕ → List ℕ → ℕ
rest_of g named ks = total (λ k. (edge_at g k).weight) (λ k. not (has named k)) ks

-- the first edges were looked at: those that aren't named weigh at most what was taken from the spare weight, exactly so
-- much where no edge is listed twice, and each named one weighs more than is left
pub record AreNeededSoFar (g : Digraph) (slack : ℕ) (absent named : List ℕ) (left i : ℕ) : Type 0 where
  pub listed : (k : ℕ) → IsTrue (has named k) → IsTrue (has (take i absent) k)
  pub others : rest_of g named (take i absent) + left ≤ slack
  pub exact : IsTrue (is_distinct absent) → rest_of g named (take i absent) + left ≡ slack
  pub heavy : (k : ℕ) → IsTrue (has named k) → left < (edge_at g k).weight

pub so_far_none : (g : Digraph) (slack : ℕ) (absent : List ℕ) → AreNeededSoFar g slack absent [] slack 0
so_far_none g slack absent = record { listed = λ k h. absurd cc; others = omega arith; exact = λ d. omega arith; heavy = λ k h. absurd cc }

-- the next edge isn't one of those before it
is_new : (absent : List ℕ) (i k : ℕ) → take (i + 1) absent ≡ take i absent ++ k ∷ [] → IsTrue (is_distinct absent) → IsTrue (has (take i absent) k) → ⊥
is_new absent i k next d old = not_distinct (take i absent) k old (subst (λ (ks : List ℕ). IsTrue (is_distinct ks)) next (distinct_take absent (i + 1) d))

at_most : (b : Bool) (w : ℕ) → (if b then w else 0) ≤ w
at_most true w = omega arith
at_most false w = omega arith

-- the next edge may come
pub so_far_left : {g : Digraph} {slack left i : ℕ} {absent named : List ℕ} (k : ℕ) → i < length absent → k ≡ get_or absent i 0 → (edge_at g k).weight ≤ left → AreNeededSoFar g slack absent named left i
    → AreNeededSoFar g slack absent named (left - (edge_at g k).weight) (i + 1)
so_far_left {g = g} {left = left} {i = i} {absent = absent} {named = named} k lt is le h =
    let next : take (i + 1) absent ≡ take i absent ++ k ∷ [] = take_more absent i 0 lt ∙ ap (λ (v : ℕ). take i absent ++ v ∷ []) (sym is) in
    record {
      listed = λ j t. subst (λ (ks : List ℕ). IsTrue (has ks j)) (sym next) (has_append_left (take i absent) (k ∷ []) j (h.listed j t));
      others =
          let sum : rest_of g named (take (i + 1) absent) ≡ rest_of g named (take i absent) + (if not (has named k) then (edge_at g k).weight else 0) =
          ap (rest_of g named) next ∙ total_push (λ j. (edge_at g j).weight) (λ j. not (has named j)) (take i absent) k in
          let few = at_most (not (has named k)) (edge_at g k).weight in
          let others = h.others in
          omega (arith, sum, few, others, le);
      exact = λ d.
          let sum : rest_of g named (take (i + 1) absent) ≡ rest_of g named (take i absent) + (if not (has named k) then (edge_at g k).weight else 0) =
          ap (rest_of g named) next ∙ total_push (λ j. (edge_at g j).weight) (λ j. not (has named j)) (take i absent) k in
          let new : has named k ≡ false = false_from_ne_true (has named k) (λ t. is_new absent i k next d (h.listed k t)) in
          let whole : (if not (has named k) then (edge_at g k).weight else 0) ≡ (edge_at g k).weight = ap (λ (b : Bool). if not b then (edge_at g k).weight else 0) new in
          let before = h.exact d in
          omega (arith, sum, whole, before, le);
      heavy = λ j t. let more = h.heavy j t in omega (arith, more);
    }

-- the next edge is named
pub so_far_named : {g : Digraph} {slack left i : ℕ} {absent named : List ℕ} (k : ℕ) → i < length absent → k ≡ get_or absent i 0 → left < (edge_at g k).weight → AreNeededSoFar g slack absent named left i
    → AreNeededSoFar g slack absent (named ++ k ∷ []) left (i + 1)
so_far_named {g = g} {left = left} {i = i} {absent = absent} {named = named} k lt is more h =
    let next : take (i + 1) absent ≡ take i absent ++ k ∷ [] = take_more absent i 0 lt ∙ ap (λ (v : ℕ). take i absent ++ v ∷ []) (sym is) in
    record {
      listed = λ j t. subst (λ (ks : List ℕ). IsTrue (has ks j)) (sym next) (elim (has_append_cases named (k ∷ []) j t) [
        | inl old ↦ has_append_left (take i absent) (k ∷ []) j (h.listed j old)
        | inr new ↦ has_append_right (take i absent) (k ∷ []) j new
      ]);
      others =
          let sum : rest_of g (named ++ k ∷ []) (take (i + 1) absent) ≡ rest_of g (named ++ k ∷ []) (take i absent) + (if not (has (named ++ k ∷ []) k) then (edge_at g k).weight else 0) =
          ap (rest_of g (named ++ k ∷ [])) next ∙ total_push (λ j. (edge_at g j).weight) (λ j. not (has (named ++ k ∷ []) j)) (take i absent) k in
          let none : (if not (has (named ++ k ∷ []) k) then (edge_at g k).weight else 0) ≡ 0 = ap (λ (b : Bool). if not b then (edge_at g k).weight else 0) (has_new named k) in
          let fewer = total_fewer (λ j. (edge_at g j).weight) (λ j. not (has (named ++ k ∷ []) j)) (λ j. not (has named j)) (take i absent) (λ j t.
          not_from_false (has named j) (false_from_ne_true (has named j) (λ old. both_ways (has (named ++ k ∷ []) j) (not-true (has (named ++ k ∷ []) j) t) (has_old named k j old)))) in
          let others = h.others in
          omega (arith, sum, none, fewer, others);
      exact = λ d.
          let sum : rest_of g (named ++ k ∷ []) (take (i + 1) absent) ≡ rest_of g (named ++ k ∷ []) (take i absent) + (if not (has (named ++ k ∷ []) k) then (edge_at g k).weight else 0) =
          ap (rest_of g (named ++ k ∷ [])) next ∙ total_push (λ j. (edge_at g j).weight) (λ j. not (has (named ++ k ∷ []) j)) (take i absent) k in
          let none : (if not (has (named ++ k ∷ []) k) then (edge_at g k).weight else 0) ≡ 0 = ap (λ (b : Bool). if not b then (edge_at g k).weight else 0) (has_new named k) in
          let other : (j : ℕ) → IsTrue (has (take i absent) j) → k ≢ j = λ j t e. is_new absent i k next d (subst (λ (v : ℕ). IsTrue (has (take i absent) v)) (sym e) t) in
          let same : rest_of g (named ++ k ∷ []) (take i absent) ≡ rest_of g named (take i absent) =
          total_same (λ j. (edge_at g j).weight) (λ j. not (has (named ++ k ∷ []) j)) (λ j. not (has named j)) (take i absent) (λ j t. ap not (has_other named k j (other j t))) in
          let before = h.exact d in
          omega (arith, sum, none, same, before);
      heavy = λ j t. elim (has_append_cases named (k ∷ []) j t) [
        | inl old ↦ h.heavy j old
        | inr new ↦ elim (has_cons k j [] new) [
          | inl e ↦ subst (λ (v : ℕ). left < (edge_at g v).weight) e more
          | inr t ↦ absurd cc
        ]
      ];
    }

-- all edges were looked at
pub so_far_all : {g : Digraph} {slack left i : ℕ} {absent named : List ℕ} → length absent ≤ i → AreNeededSoFar g slack absent named left i → AreNeeded g slack absent named
so_far_all {g = g} {i = i} {absent = absent} {named = named} le h =
    let all : take i absent ≡ absent = take_all i absent le in
    record {
      listed = λ k t. subst (λ (ks : List ℕ). IsTrue (has ks k)) all (h.listed k t);
      others =
          let sum : weight_of g (filter (λ k. not (has named k)) absent) ≡ rest_of g named absent = total_is (λ k. (edge_at g k).weight) (λ k. not (has named k)) absent in
          let same : rest_of g named (take i absent) ≡ rest_of g named absent = ap (rest_of g named) all in
          let others = h.others in
          omega (arith, sum, same, others);
    }

pub so_far_each : {g : Digraph} {slack left i : ℕ} {absent named : List ℕ} → length absent ≤ i → AreNeededSoFar g slack absent named left i → IsTrue (is_distinct absent) → EachIsNeeded g slack absent named
so_far_each {g = g} {i = i} {absent = absent} {named = named} le h d = λ k t.
    let sum : weight_of g (filter (λ j. not (has named j)) absent) ≡ rest_of g named absent = total_is (λ j. (edge_at g j).weight) (λ j. not (has named j)) absent in
    let same : rest_of g named (take i absent) ≡ rest_of g named absent = ap (rest_of g named) (take_all i absent le) in
    let exact = h.exact d in
    let heavy = h.heavy k t in
    omega (arith, sum, same, exact, heavy)
