-- Amounts change along an augmenting path, from its end to its beginning.
use Rattle.std.proofs.Common.{◌≡◌, ◌≢◌, ℕ, ◌+◌, ◌-◌, ◌<◌, ◌≤◌, Bool, true, false, ◌==◌, List, [], ◌∷◌, ◌++◌, length, set, refl, sym, ap, subst, ◌∙◌, inl, inr, arith}
use Rattle.std.specs.Prelude.{IsTrue, if◌then◌else◌}
use Rattle.std.proofs.lemmas.Bool.{cases_eq, eq-eqb, ne_eqb}
use Rattle.std.proofs.lemmas.List.{get_or-set_same, get_or-set_other}
use Rattle.mono_graph.specs.Digraph.{Digraph, edge_at, has}
use Rattle.mono_graph.specs.Flows.{inflow, outflow}
use Rattle.mono_graph.proofs.Prefixes.{has_new, has_old}
use Rattle.mono_flows.proofs.OneEdge.{moved_outflow, moved_inflow}
use Rattle.mono_flows.specs.declared.visit.Visit.{Visit}
use Rattle.mono_flows.specs.Flowing.{IsFlowing}
use Rattle.mono_flows.specs.Residual.{capacity, amount_of, residual_at, start_of, end_of}
use Rattle.mono_flows.specs.Visits.{visit_at, IsStep, IsAugmentingPath}

-- the amounts of f are those of f₀, with more carried along the path from the visit at a place on
pub record Moving (g : Digraph) (P : List Bool) (t extra : ℕ) (vs : List Visit) (f0 f : ℕ → ℕ) (at : ℕ) : Type 0 where
  pub inside : at < length vs
  pub residual : extra ≤ (visit_at vs at).residual
  pub within : (k : ℕ) → k < length g.edges → f k ≤ capacity g P k
  pub fresh : (j : ℕ) → 0 < j → j ≤ at → f (visit_at vs j).edge.place ≡ f0 (visit_at vs j).edge.place
  pub small : (k : ℕ) → f k ≤ f0 k + extra
  pub balance : (u : ℕ) → outflow g f u + inflow g f0 u + (if t == u then extra else 0) ≡ inflow g f u + outflow g f0 u + (if (visit_at vs at).node == u then extra else 0)

pub moving : (g : Digraph) (P : List Bool) (s t most value : ℕ) (vs : List Visit) (f : ℕ → ℕ) → IsAugmentingPath g P f s t most vs → IsFlowing g P s t f value
    → Moving g P t (visit_at vs (length vs - 1)).residual vs f f (length vs - 1)
moving g P s t most value vs f path flow = record {
  inside = let some = path.tree.some in omega arith;
  residual = omega arith;
  within = flow.within;
  fresh = λ j pos le. refl;
  small = λ k. omega arith;
  balance = λ u. subst (λ (w : ℕ). outflow g f u + inflow g f u + (if w == u then (visit_at vs (length vs - 1)).residual else 0) ≡ inflow g f u + outflow g f u + (if (visit_at vs (length vs - 1)).node == u then (visit_at vs (length vs - 1)).residual else 0)) path.last
      (omega arith);
}

-- two visits come by different edges
places_apart : (g : Digraph) (P : List Bool) (f : ℕ → ℕ) (s t most : ℕ) (vs : List Visit) → IsAugmentingPath g P f s t most vs → (i j : ℕ) → 0 < i → i < length vs → 0 < j → j < i → (visit_at vs j).edge.place ≡ (visit_at vs i).edge.place → ⊥
places_apart g P f s t most vs path i j posi lti posj lt same =
    by_side (visit_at vs i).edge.back (visit_at vs j).edge.back si.start si.end sj.start sj.end
  where
    si : IsStep g P f vs (visit_at vs i) i
    si = path.tree.steps i posi lti

    sj : IsStep g P f vs (visit_at vs j) j
    sj = path.tree.steps j posj (omega arith)

    ltj : j < length vs
    ltj = omega arith

    bi : (visit_at vs i).before < length vs
    bi = let b = si.before in omega arith

    bj : (visit_at vs j).before < length vs
    bj = let b = sj.before in omega arith

    ends : (edge_at g (visit_at vs j).edge.place).to ≡ (edge_at g (visit_at vs i).edge.place).to
    ends = ap (λ (k : ℕ). (edge_at g k).to) same

    starts : (edge_at g (visit_at vs j).edge.place).from ≡ (edge_at g (visit_at vs i).edge.place).from
    starts = ap (λ (k : ℕ). (edge_at g k).from) same

    by_side : (b c : Bool) → start_of (edge_at g (visit_at vs i).edge.place) b ≡ (visit_at vs (visit_at vs i).before).node → end_of (edge_at g (visit_at vs i).edge.place) b ≡ (visit_at vs i).node
        → start_of (edge_at g (visit_at vs j).edge.place) c ≡ (visit_at vs (visit_at vs j).before).node → end_of (edge_at g (visit_at vs j).edge.place) c ≡ (visit_at vs j).node → ⊥
    by_side false false p q r w = let e = path.once j i ltj lti (sym w ∙ (ends ∙ q)) in omega arith
    by_side true true p q r w = let e = path.once j i ltj lti (sym w ∙ (starts ∙ q)) in omega arith
    by_side false true p q r w =
        let e = path.once (visit_at vs j).before i bj lti (sym r ∙ (ends ∙ q)) in let b = sj.before in omega arith
    by_side true false p q r w =
        let e = path.once (visit_at vs j).before i bj lti (sym r ∙ (starts ∙ q)) in let b = sj.before in omega arith

set_same : (fs : List ℕ) (k x : ℕ) → k < length fs → amount_of (set fs k x) k ≡ x
set_same fs k x lt = get_or-set_same fs k x 0 lt

set_other : (fs : List ℕ) (k x j : ℕ) → (j ≢ k) → amount_of (set fs k x) j ≡ amount_of fs j
set_other fs k x j ne = get_or-set_other fs k j x 0 ne

plus_flag : (b : Bool) (x e : ℕ) → (if b then (x + e) else 0) ≡ (if b then x else 0) + (if b then e else 0)
plus_flag true x e = refl
plus_flag false x e = refl

-- the edges that carry something are touched
abbrev pub AreTouched : List ℕ → List ℕ → Type 0
AreTouched fs ks = (k : ℕ) → 0 < amount_of fs k → IsTrue (has ks k)

pub touched_more : (fs ks : List ℕ) (x v : ℕ) → AreTouched fs ks → AreTouched (set fs x v) (ks ++ x ∷ [])
touched_more fs ks x v h = λ k some. elim (cases_eq x k) [
  | inl e ↦ subst (λ (j : ℕ). IsTrue (has (ks ++ x ∷ []) j)) e (has_new ks x)
  | inr ne ↦ has_old ks x k (h k (subst (λ (n : ℕ). 0 < n) (set_other fs x v k (λ e. ne (sym e))) some))
]

-- the amount at the edge of a visit changes, and no other
stepped : (g : Digraph) (P : List Bool) (s t most extra : ℕ) (vs : List Visit) (f0 f f' : ℕ → ℕ) (at : ℕ) → IsAugmentingPath g P f0 s t most vs → 0 < at → Moving g P t extra vs f0 f at
    → ((j : ℕ) → (j ≢ (visit_at vs at).edge.place) → f' j ≡ f j)
    → f' (visit_at vs at).edge.place ≤ capacity g P (visit_at vs at).edge.place → f' (visit_at vs at).edge.place ≤ f0 (visit_at vs at).edge.place + extra
    → ((u : ℕ) → outflow g f' u + inflow g f0 u + (if t == u then extra else 0) ≡ inflow g f' u + outflow g f0 u + (if (visit_at vs (visit_at vs at).before).node == u then extra else 0))
    → Moving g P t extra vs f0 f' (visit_at vs at).before
stepped g P s t most extra vs f0 f f' at path pos m there within-here small-here balance =
    let step = path.tree.steps at pos m.inside in
    let k : ℕ = (visit_at vs at).edge.place in
    let earlier : (visit_at vs at).before < at = step.before in
    let left' = m.residual in
    let less' = step.less in
    let inside' = m.inside in
    record {
      inside = omega arith;
      residual = omega arith;
      within = λ j lt. elim (cases_eq j k) [
        | inl e ↦ subst (λ (i : ℕ). f' i ≤ capacity g P i) (sym e) within-here
        | inr ne ↦ subst (λ (x : ℕ). x ≤ capacity g P j) (sym (there j ne)) (m.within j lt)
      ];
      fresh = λ j posj le. there (visit_at vs j).edge.place (λ e. places_apart g P f0 s t most vs path at j pos m.inside posj (omega arith) e) ∙ m.fresh j posj (omega arith);
      small = λ j. elim (cases_eq j k) [
        | inl e ↦ subst (λ (i : ℕ). f' i ≤ f0 i + extra) (sym e) small-here
        | inr ne ↦ subst (λ (x : ℕ). x ≤ f0 j + extra) (sym (there j ne)) (m.small j)
      ];
      balance = balance;
    }

pub forth : (g : Digraph) (P : List Bool) (s t most extra : ℕ) (vs : List Visit) (f0 : ℕ → ℕ) (fs : List ℕ) (at : ℕ) → IsAugmentingPath g P f0 s t most vs → length fs ≡ length g.edges → 0 < at
    → Moving g P t extra vs f0 (amount_of fs) at → (visit_at vs at).edge.back ≡ false
    → Moving g P t extra vs f0 (amount_of (set fs (visit_at vs at).edge.place (amount_of fs (visit_at vs at).edge.place + extra))) (visit_at vs at).before
forth g P s t most extra vs f0 fs at path len pos m ahead =
    let step = path.tree.steps at pos m.inside in
    let k : ℕ = (visit_at vs at).edge.place in
    let f : ℕ → ℕ = amount_of fs in
    let f' : ℕ → ℕ = amount_of (set fs k (amount_of fs k + extra)) in
    let low : k < length fs = let known = step.known in omega arith in
    let here : f' k ≡ f k + extra = set_same fs k (f k + extra) low in
    let there : (j : ℕ) → (j ≢ k) → f' j ≡ f j = λ j ne. set_other fs k (f k + extra) j ne in
    let was : f k ≡ f0 k = m.fresh at pos (omega arith) in
    let from-is : (edge_at g k).from ≡ (visit_at vs (visit_at vs at).before).node = subst (λ (b : Bool). start_of (edge_at g k) b ≡ (visit_at vs (visit_at vs at).before).node) ahead step.start in
    let to-is : (edge_at g k).to ≡ (visit_at vs at).node = subst (λ (b : Bool). end_of (edge_at g k) b ≡ (visit_at vs at).node) ahead step.end in
    let fits : (visit_at vs at).residual ≤ capacity g P k - f0 k = subst (λ (b : Bool). (visit_at vs at).residual ≤ residual_at g P f0 k b) ahead step.residual in
    let some : 0 < (visit_at vs at).residual = path.tree.residuals at m.inside in
    let left' = m.residual in
    let kept = m.within k step.known in
    stepped g P s t most extra vs f0 f f' at path pos m there (omega (arith, here, was, fits, some, left', kept)) (omega (arith, here, was))
    (λ u.
    let out-moved = moved_outflow g f f' k u step.known there in
    let in-moved = moved_inflow g f f' k u step.known there in
    let old = m.balance u in
    let out-flag : (if (edge_at g k).from == u then f' k else 0) ≡ (if (edge_at g k).from == u then f k else 0) + (if (edge_at g k).from == u then extra else 0) =
    ap (λ (x : ℕ). if (edge_at g k).from == u then x else 0) here ∙ plus_flag ((edge_at g k).from == u) (f k) extra in
    let in-flag : (if (edge_at g k).to == u then f' k else 0) ≡ (if (edge_at g k).to == u then f k else 0) + (if (edge_at g k).to == u then extra else 0) =
    ap (λ (x : ℕ). if (edge_at g k).to == u then x else 0) here ∙ plus_flag ((edge_at g k).to == u) (f k) extra in
    let at-to : (if (edge_at g k).to == u then extra else 0) ≡ (if (visit_at vs at).node == u then extra else 0) = ap (λ (w : ℕ). if w == u then extra else 0) to-is in
    let at-from : (if (edge_at g k).from == u then extra else 0) ≡ (if (visit_at vs (visit_at vs at).before).node == u then extra else 0) = ap (λ (w : ℕ). if w == u then extra else 0) from-is in
    omega (arith, out-moved, in-moved, old, out-flag, in-flag, at-to, at-from))

pub back : (g : Digraph) (P : List Bool) (s t most extra : ℕ) (vs : List Visit) (f0 : ℕ → ℕ) (fs : List ℕ) (at : ℕ) → IsAugmentingPath g P f0 s t most vs → length fs ≡ length g.edges → 0 < at
    → Moving g P t extra vs f0 (amount_of fs) at → (visit_at vs at).edge.back ≡ true
    → Moving g P t extra vs f0 (amount_of (set fs (visit_at vs at).edge.place (amount_of fs (visit_at vs at).edge.place - extra))) (visit_at vs at).before
back g P s t most extra vs f0 fs at path len pos m against =
    let step = path.tree.steps at pos m.inside in
    let k : ℕ = (visit_at vs at).edge.place in
    let f : ℕ → ℕ = amount_of fs in
    let f' : ℕ → ℕ = amount_of (set fs k (amount_of fs k - extra)) in
    let low : k < length fs = let known = step.known in omega arith in
    let here' : f' k ≡ f k - extra = set_same fs k (f k - extra) low in
    let there : (j : ℕ) → (j ≢ k) → f' j ≡ f j = λ j ne. set_other fs k (f k - extra) j ne in
    let was : f k ≡ f0 k = m.fresh at pos (omega arith) in
    let from-is : (edge_at g k).from ≡ (visit_at vs at).node = subst (λ (b : Bool). end_of (edge_at g k) b ≡ (visit_at vs at).node) against step.end in
    let to-is : (edge_at g k).to ≡ (visit_at vs (visit_at vs at).before).node = subst (λ (b : Bool). start_of (edge_at g k) b ≡ (visit_at vs (visit_at vs at).before).node) against step.start in
    let fits : (visit_at vs at).residual ≤ f0 k = subst (λ (b : Bool). (visit_at vs at).residual ≤ residual_at g P f0 k b) against step.residual in
    let left' = m.residual in
    let kept = m.within k step.known in
    let here : f k ≡ f' k + extra = omega (arith, here', was, fits, left') in
    stepped g P s t most extra vs f0 f f' at path pos m there (omega (arith, here, kept)) (omega (arith, here, was))
    (λ u.
    let out-moved = moved_outflow g f f' k u step.known there in
    let in-moved = moved_inflow g f f' k u step.known there in
    let old = m.balance u in
    let out-flag : (if (edge_at g k).from == u then f k else 0) ≡ (if (edge_at g k).from == u then f' k else 0) + (if (edge_at g k).from == u then extra else 0) =
    ap (λ (x : ℕ). if (edge_at g k).from == u then x else 0) here ∙ plus_flag ((edge_at g k).from == u) (f' k) extra in
    let in-flag : (if (edge_at g k).to == u then f k else 0) ≡ (if (edge_at g k).to == u then f' k else 0) + (if (edge_at g k).to == u then extra else 0) =
    ap (λ (x : ℕ). if (edge_at g k).to == u then x else 0) here ∙ plus_flag ((edge_at g k).to == u) (f' k) extra in
    let at-from : (if (edge_at g k).from == u then extra else 0) ≡ (if (visit_at vs at).node == u then extra else 0) = ap (λ (w : ℕ). if w == u then extra else 0) from-is in
    let at-to : (if (edge_at g k).to == u then extra else 0) ≡ (if (visit_at vs (visit_at vs at).before).node == u then extra else 0) = ap (λ (w : ℕ). if w == u then extra else 0) to-is in
    omega (arith, out-moved, in-moved, old, out-flag, in-flag, at-to, at-from))

flag_off : (u w e : ℕ) → (u ≢ w) → (if u == w then e else 0) ≡ 0
flag_off u w e ne = ap (λ (b : Bool). if b then e else 0) (ne_eqb u w ne)

flag_at : (u e : ℕ) → (if u == u then e else 0) ≡ e
flag_at u e = ap (λ (b : Bool). if b then e else 0) (eq-eqb u u refl)

pub moved : (g : Digraph) (P : List Bool) (s t most extra value : ℕ) (vs : List Visit) (f0 f : ℕ → ℕ) → IsAugmentingPath g P f0 s t most vs → (s ≢ t) → IsFlowing g P s t f0 value
    → Moving g P t extra vs f0 f 0 → IsFlowing g P s t f (value + extra)
moved g P s t most extra value vs f0 f path apart flow m = record {
  within = m.within;
  balanced = λ u not-s not-t.
      let old = m.balance u in
      let b = flow.balanced u not-s not-t in
      let z : (if t == u then extra else 0) ≡ 0 = flag_off t u extra (λ e. not-t (sym e)) in
      let z' : (if (visit_at vs 0).node == u then extra else 0) ≡ 0 = flag_off (visit_at vs 0).node u extra (λ e. not-s (sym e ∙ path.first)) in
      omega (arith, old, b, z, z');
  source =
      let old = m.balance s in
      let b = flow.source in
      let z : (if t == s then extra else 0) ≡ 0 = flag_off t s extra (λ e. apart (sym e)) in
      let z' : (if (visit_at vs 0).node == s then extra else 0) ≡ extra = subst (λ (w : ℕ). (if w == s then extra else 0) ≡ extra) (sym path.first) (flag_at s extra) in
      omega (arith, old, b, z, z');
  small = λ k. let a = m.small k in let b = flow.small k in omega arith;
}
