-- A generated text is read without a fault.
use Rattle.std.proofs.Common.{◌≡◌, ℕ, zero, suc, ◌+◌, ◌*◌, ◌<◌, ◌≤◌, max, Bool, true, false, ℤ, pos, neg_ℤ, nat_abs, List, [], ◌∷◌, ◌++◌, length, get_or, map, flat_map, refl, sym, ap, subst, ◌∙◌, arith, append-nil, length-append, eqb, sum_by, cond}
use Rattle.std.specs.Prelude.{All}
use Rattle.std.proofs.Math.Nat.{mod-lt, mul-le-mul_left}
use Rattle.std.proofs.lemmas.Grind.{flat_map-append}
use Rattle.std.proofs.lemmas.List.{map-append}
use Rattle.std.proofs.lemmas.List.Sums.{sum_by-append, sum_by-cons}
use Rattle.rand_pcg.specs.Lcg.{Lcg}
use Rattle.mono_text.specs.Text.{spaced}
use Rattle.mono_graph.specs.Digraph.{Digraph}
use Rattle.mono_graph.specs.declared.edge.Edge.{Edge}
use Rattle.mono_problem.specs.Instance.{Instance}
use Rattle.mono_problem.specs.Growth.{with_edge}
use Rattle.mono_gnf.specs.Printed.{edge_line, clause_line}
use Rattle.mono_gnf.proofs.PrintedClauses.{AreLits, AreClauses}
use Rattle.mono_gnf.proofs.PrintedForms.{CanAddEdge, AddsEdges}
use Rattle.mono_gnf.proofs.Remade.{bare}
use Rattle.mono_gen.specs.Joined.{joined}
use Rattle.mono_gen.specs.Draws.{after, draw}
use Rattle.mono_gen.specs.Lines.{clause}
use Rattle.mono_gen.specs.Generated.{edge_text, drawn_literal, drawn_clause, leads_out, wall_clause}
use Rattle.mono_gen.proofs.Sizes.{IsOn}

-- ---- draws

pub draw_below : (m : ℕ) (g : Lcg) → 0 < m → draw m g < m
unfolding draw
draw_below m g some = mod-lt _ some

-- ---- edges

abbrev pub numbered : List (ℕ × ℕ) → Lcg → ℕ → ℕ × Edge
numbered edges g k = (0, record { number = k + 1; from = (get_or edges k (0, 0)).0; to = (get_or edges k (0, 0)).1; var = k + 1; weight = 1 + draw 9 (after k g) })

-- the edges at the places from 0 to k - 1
abbrev pub numbered_up_to : List (ℕ × ℕ) → Lcg → ℕ → List (ℕ × Edge)
numbered_up_to edges g k = joined (λ j. numbered edges g j ∷ []) k

pub edge_lines-text : (edges : List (ℕ × ℕ)) (g : Lcg) (k : ℕ) → flat_map spaced (map edge_line (numbered_up_to edges g k)) ≡ joined (edge_text edges g) k
unfolding joined
edge_lines-text edges g zero = refl
edge_lines-text edges g (suc k) =
    ap (λ ls. flat_map spaced ls) (map-append edge_line (numbered_up_to edges g k) (numbered edges g k ∷ []))
    ∙ (flat_map-append spaced (map edge_line (numbered_up_to edges g k)) (edge_line (numbered edges g k) ∷ [])
    ∙ (ap (λ t. t ++ (edge_text edges g k ++ [])) (edge_lines-text edges g k) ∙ ap (λ t. joined (edge_text edges g) k ++ t) (append-nil (edge_text edges g k))))

-- one edge more
adds_more : (p q : Instance) (es : List (ℕ × Edge)) (e : ℕ × Edge) (k : ℕ) → AddsEdges p es q → CanAddEdge q e.0 k e.1 → AddsEdges p (es ++ e ∷ []) (with_edge q k e.1)
adds_more p q [] e k same can = (k, subst (λ (r : Instance). CanAddEdge r e.0 k e.1) (sym same) can, ap (λ (r : Instance). with_edge r k e.1) same)
adds_more p q (x ∷ xs) e k adds can = (adds.0, adds.1, adds_more (with_edge p adds.0 x.1) q xs e k adds.2 can)

-- a graph of n * n nodes with these edges, and the variables from 1 to v
abbrev pub boarded : ℕ → ℕ → List Edge → Instance
boarded n v es = bare v ((0, record { nodes = n * n; edges = es }) ∷ [])

can_number : (n v k : ℕ) (es : List Edge) (edges : List (ℕ × ℕ)) (g : Lcg) → n ≤ 100 → length es ≡ k → k < 40000 → IsOn n (get_or edges k (0, 0)) → CanAddEdge (boarded n v es) 0 0 (numbered edges g k).1
can_number n v k es edges g few count small on =
    let square : n * n ≤ n * 100 = mul-le-mul_left n few in
    let weight = draw_below 9 (after k g) (omega arith) in
    let total = sum_by-cons (λ (x : ℕ × Digraph). length x.1.edges) (0, record { nodes = n * n; edges = es }) [] in
    record {
      named = refl;
      identity = omega arith;
      from = on.0;
      to = on.1;
      nodes = omega (arith, square, few);
      some = omega arith;
      var = omega (arith, small);
      weight = omega (arith, weight);
      number = omega (arith, total, count);
      room = omega (arith, total, count, small);
    }

-- what the lines of the first k edges lead to
pub record IsBoarded (n v k : ℕ) (edges : List (ℕ × ℕ)) (g : Lcg) : Type 0 where
  pub held : List Edge
  pub count : length held ≡ k
  pub adds : AddsEdges (boarded n v []) (numbered_up_to edges g k) (boarded n (max v k) held)

pub boards : (n v k : ℕ) (edges : List (ℕ × ℕ)) (g : Lcg) → n ≤ 100 → All (IsOn n) edges → length edges ≤ 40000 → k ≤ length edges → IsBoarded n v k edges g
unfolding joined
boards n v zero edges g few on short within =
    let same : max v 0 ≡ v = omega arith in
    record { held = []; count = refl; adds = ap (λ x. boarded n x []) (sym same) }
boards n v (suc k) edges g few on short within =
    let before = boards n v k edges g few on short (omega (arith, within)) in
    let can = can_number n (max v k) k before.held edges g few before.count (omega (arith, short, within)) (on k (0, 0) (omega (arith, within))) in
    let more = adds_more (boarded n v []) (boarded n (max v k) before.held) (numbered_up_to edges g k) (numbered edges g k) 0 before.adds can in
    let vars : max (max v k) (k + 1) ≡ max v (suc k) = omega arith in
    record {
      held = before.held ++ (numbered edges g k).1 ∷ [];
      count = omega (arith, length-append before.held ((numbered edges g k).1 ∷ []), before.count);
      adds = subst (λ (x : ℕ). AddsEdges (boarded n v []) (numbered_up_to edges g (suc k)) (boarded n x (before.held ++ (numbered edges g k).1 ∷ []))) vars more;
    }

-- ---- clauses

are_appended : (v : ℕ) (xs ys : List (List ℤ)) → AreClauses v xs → AreClauses v ys → AreClauses v (xs ++ ys)
are_appended v [] ys a b = b
are_appended v (x ∷ xs) ys a b = (a.0, are_appended v xs ys a.1 b)

-- at most so many clauses of at most three literals, over the variables from 1 to v
pub record AreFew (v most : ℕ) (cs : List (List ℤ)) : Type 0 where
  pub lits : AreClauses v cs
  pub count : length cs ≤ most
  pub size : sum_by (λ (c : List ℤ). length c) cs ≤ 3 * most

few_none : (v : ℕ) → AreFew v 0 []
few_none v = record { lits = tt; count = omega arith; size = omega arith }

pub few_appended : (v a b : ℕ) (xs ys : List (List ℤ)) → AreFew v a xs → AreFew v b ys → AreFew v (a + b) (xs ++ ys)
few_appended v a b xs ys h k = record {
  lits = are_appended v xs ys h.lits k.lits;
  count = omega (arith, length-append xs ys, h.count, k.count);
  size = omega (arith, sum_by-append (λ (c : List ℤ). length c) xs ys, h.size, k.size);
}

pub few_one : (v : ℕ) (c : List ℤ) → AreLits v c → length c ≤ 3 → AreFew v 1 (c ∷ [])
few_one v c lits short = record {
  lits = (lits, tt);
  count = omega arith;
  size = omega (arith, sum_by-cons (λ (x : List ℤ). length x) c [], short);
}

pub few_more : (v a b : ℕ) (cs : List (List ℤ)) → AreFew v a cs → a ≤ b → AreFew v b cs
few_more v a b cs h low = record { lits = h.lits; count = omega (arith, h.count, low); size = omega (arith, h.size, low) }

pub few_joined : (v n k : ℕ) (f : ℕ → List (List ℤ)) → ((j : ℕ) → j < n → AreFew v 1 (f j)) → k ≤ n → AreFew v k (joined f k)
unfolding joined
few_joined v n zero f each within = few_none v
few_joined v n (suc k) f each within =
    let one : k + 1 ≡ suc k = omega arith in
    subst (λ (m : ℕ). AreFew v m (joined f k ++ f k)) one (few_appended v k 1 (joined f k) (f k) (few_joined v n k f each (omega (arith, within))) (each k (omega (arith, within))))

abbrev pub clauses_text : List (List ℤ) → List ℕ
clauses_text cs = flat_map spaced (map clause_line cs)

pub joined_text : (k : ℕ) (f : ℕ → List (List ℤ)) (t : ℕ → List ℕ) → ((j : ℕ) → clauses_text (f j) ≡ t j) → clauses_text (joined f k) ≡ joined t k
unfolding joined
joined_text zero f t each = refl
joined_text (suc k) f t each =
    ap (λ ls. flat_map spaced ls) (map-append clause_line (joined f k) (f k))
    ∙ (flat_map-append spaced (map clause_line (joined f k)) (map clause_line (f k))
    ∙ (ap (λ x. x ++ clauses_text (f k)) (joined_text k f t each) ∙ ap (λ x. joined t k ++ x) (each k)))

-- ---- drawn clauses

signed_abs : (b : Bool) (n : ℕ) → nat_abs (cond b (neg_ℤ (pos n)) (pos n)) ≡ n
signed_abs true zero = refl
signed_abs true (suc n) = refl
signed_abs false n = refl

abs_drawn : (edges : ℕ) (g : Lcg) → nat_abs (drawn_literal edges g) ≡ 1 + draw edges g
abs_drawn edges g = signed_abs (eqb (draw 2 (after 1 g)) 1) (1 + draw edges g)

drawn_lits : (edges v : ℕ) (g : Lcg) → 0 < edges → edges ≤ v → AreLits v (drawn_clause edges g)
drawn_lits edges v g some within =
    let a = draw_below edges g some in
    let b = draw_below edges (after 1 g) some in
    let d = draw_below edges (after 3 g) some in
    let second = abs_drawn edges (after 1 g) in
    let third = abs_drawn edges (after 3 g) in
    (omega arith, omega (arith, a, within), (omega (arith, second), omega (arith, second, b, within), (omega (arith, third), omega (arith, third, d, within), tt)))

abbrev pub drawn : ℕ → Lcg → ℕ → List (List ℤ)
drawn edges g j = drawn_clause edges (after (5 * j) g) ∷ []

pub drawn_few : (edges v k : ℕ) (g : Lcg) → 0 < edges → edges ≤ v → AreFew v k (joined (drawn edges g) k)
drawn_few edges v k g some within = few_joined v k k (drawn edges g) (λ j low. few_one v (drawn_clause edges (after (5 * j) g)) (drawn_lits edges v (after (5 * j) g) some within) (omega arith)) (omega arith)

-- ---- barred edges

pub barred : ℕ → ℕ → List (ℕ × ℕ) → ℕ → List (List ℤ)
barred n q edges j = cond (leads_out n q (get_or edges j (0, 0))) ((neg_ℤ (pos (j + 1)) ∷ []) ∷ []) []

pub barred_text : (n q : ℕ) (edges : List (ℕ × ℕ)) (j : ℕ) → clauses_text (barred n q edges j) ≡ wall_clause n q edges j
unfolding barred
barred_text n q edges j = by_test (leads_out n q (get_or edges j (0, 0)))
  where
    by_test : (b : Bool) → clauses_text (cond b ((neg_ℤ (pos (j + 1)) ∷ []) ∷ []) []) ≡ cond b (clause (neg_ℤ (pos (j + 1)) ∷ [])) []
    by_test true = append-nil (clause (neg_ℤ (pos (j + 1)) ∷ []))
    by_test false = refl

pub barred_one : (n q v : ℕ) (edges : List (ℕ × ℕ)) (j : ℕ) → j < v → AreFew v 1 (barred n q edges j)
unfolding barred
barred_one n q v edges j low = by_test (leads_out n q (get_or edges j (0, 0)))
  where
    by_test : (b : Bool) → AreFew v 1 (cond b ((neg_ℤ (pos (j + 1)) ∷ []) ∷ []) [])
    by_test true =
        let abs = signed_abs true (j + 1) in
        few_one v (neg_ℤ (pos (j + 1)) ∷ []) (omega (arith, abs), omega (arith, abs, low), tt) (omega arith)
    by_test false = few_more v 0 1 [] (few_none v) (omega arith)
