-- Witnesses that ask something of some present edges alone: they rest on those of them that are absent.
use Rattle.std.proofs.Common.{◌≡◌, ℕ, ◌<◌, Bool, true, false, not, ◌&&◌, ◌||◌, cond, List, [], ◌∷◌, ◌++◌, get_or, length, refl, sym, ap, subst, ◌∙◌, ◌⊎◌, inl, inr, arith}
use Rattle.std.specs.Prelude.{IsTrue, flat_map}
use Rattle.std.proofs.lemmas.Bool.{or_cases, or_left, and_parts, and_from, both_ways, not-true, not_from_false, cases_Bool, false_from_ne_true}
use Rattle.std.specs.List.{list_all}
use Rattle.mono_graph.specs.declared.edge.Edge.{Edge}
use Rattle.mono_graph.specs.Digraph.{Digraph, IsSubpart, edge_at, present, places, leaving, entering, leads_out, crosses, has}
use Rattle.mono_graph.proofs.Membership.{has_here, has_there, has_cons, has_append_cases, has_append_left, has_append_right, has_filter, filter_has, places_at, at_places}
use Rattle.mono_graph.proofs.Places.{list_all_agree}
use Rattle.mono_problem.specs.declared.atom.Predicate.{Predicate}
use Rattle.mono_steps.specs.declared.lemma.Witness.{Witness}
use Rattle.mono_steps.specs.declared.lemma.Witness.TheVariants as by
use Rattle.mono_steps.specs.Witnesses.{rests_on_present, is_small, names_known, passes}
use Rattle.mono_theory.specs.declared.evidence.Evidence.{Evidence}
use Rattle.mono_theory.specs.Evidences.{only, all_but, uses, IsEvidence}
use Rattle.mono_theory.specs.Resting.{AreAbsent, AreAlike, absent_joining, absent_from, absent_into, absent_out, absent_across}
use Rattle.mono_theory.proofs.EvidenceDecides.{not_in_all_but, in_all_but}
use Rattle.mono_graph.proofs.Pigeons.{all_has}
use Rattle.mono_theory.proofs.WalksAsEvidence.{all_by}

-- ---- the part of all others

-- it has the same edges that pass the test
pub alike_without : {test : Edge → Bool} {g : Digraph} {P : List Bool} {ks : List ℕ} → AreAbsent test g P ks → AreAlike test g P (all_but g ks)
alike_without {test = test} {g = g} {P = P} {ks = ks} h = record {
  each = λ k lt t. elim (cases_Bool (present P k)) [
    | inl on ↦ on ∙ sym (in_all_but g ks k lt (false_from_ne_true (has ks k) (λ m. both_ways (present P k) (all_has (λ j. (j < length g.edges) × (present P j ≡ false)) ks k h.absent m).1 on)))
    | inr off ↦ off ∙ sym (not_in_all_but g ks k lt (h.all k lt t off))
  ];
}

-- a test that fails where some present edge passes another
same_where_passed : (p q t : Bool) → (IsTrue t → p ≡ q) → not (p && t) ≡ not (q && t)
same_where_passed p q true h = ap (λ b. not (b && true)) (h refl)
same_where_passed true true false h = refl
same_where_passed true false false h = refl
same_where_passed false true false h = refl
same_where_passed false false false h = refl

pub alike_none : {test : Edge → Bool} {g : Digraph} {P Q : List Bool} → AreAlike test g P Q
    → list_all (λ k. not (present P k && test (edge_at g k))) (places g) ≡ list_all (λ k. not (present Q k && test (edge_at g k))) (places g)
alike_none {test = test} {g = g} {P = P} {Q = Q} h =
    list_all_agree (λ k. not (present P k && test (edge_at g k))) (λ k. not (present Q k && test (edge_at g k))) 0 (length g.edges) (λ k lo hi.
    same_where_passed (present P k) (present Q k) (test (edge_at g k)) (λ t. h.each k (omega (arith, hi)) t))

-- a test that each present edge passes, where the parts agree on the edges that don't
same_where_failed : (p q b : Bool) → (IsTrue (not b) → p ≡ q) → (not p || b) ≡ (not q || b)
same_where_failed p q false e = ap (λ c. not c || false) (e refl)
same_where_failed true true true e = refl
same_where_failed true false true e = refl
same_where_failed false true true e = refl
same_where_failed false false true e = refl

pub alike_each : (test : Edge → Bool) (g : Digraph) (P Q : List Bool) → AreAlike (λ e. not (test e)) g P Q
    → list_all (λ k. not (present P k) || test (edge_at g k)) (places g) ≡ list_all (λ k. not (present Q k) || test (edge_at g k)) (places g)
alike_each test g P Q h =
    list_all_agree (λ k. not (present P k) || test (edge_at g k)) (λ k. not (present Q k) || test (edge_at g k)) 0 (length g.edges) (λ k lo hi.
    same_where_failed (present P k) (present Q k) (test (edge_at g k)) (λ t. h.each k (omega (arith, hi)) t))

-- ---- evidence

-- a witness that rests on absent edges uses each of them
absent_used : (g : Digraph) (w : Witness) (k : ℕ) → rests_on_present w ≡ false → IsTrue (uses g w k)
absent_used g (by.Path es) k h = refl
absent_used g (by.Cut us) k h = refl
absent_used g (by.Label ls) k h = refl
absent_used g (by.Flow ms) k h = absurd cc
absent_used g (by.FlowCut us) k h = refl
absent_used g (by.Tree es) k h = refl
absent_used g (by.Split us) k h = refl
absent_used g (by.Least es) k h = refl
absent_used g (by.Cycle es) k h = refl
absent_used g (by.Order us) k h = refl

-- a witness that rests on absent edges, and whose test looks only at the edges that pass a test, rests on the absent ones of these
pub resting_evidence : (test : Edge → Bool) (g : Digraph) (P : List Bool) (q : Predicate) (w : Witness) (ks : List ℕ) → rests_on_present w ≡ false → IsTrue (names_known g w) → IsTrue (is_small w)
    → ((Q : List Bool) → AreAlike test g P Q → passes g P q w ≡ passes g Q q w) → AreAbsent test g P ks → IsTrue (passes g P q w) → IsEvidence g P q (record { witness = w; edges = ks })
resting_evidence test g P q w ks sign known small looks h p = record {
  known = known;
  small = small;
  sided = all_by (λ k. (k < length g.edges) × (present P k ≡ rests_on_present w)) ks (λ k t. let a = all_has (λ j. (j < length g.edges) × (present P j ≡ false)) ks k h.absent t in (a.0, a.1 ∙ sym sign));
  used = λ i d lt. absent_used g w (get_or ks i d) sign;
  passes = ap (λ (b : Bool). passes g (cond b (only g ks) (all_but g ks)) q w) sign ∙ sym (looks (all_but g ks) (alike_without h)) ∙ p;
}

-- ---- the edges that leave a set

pub has_flat : (f : ℕ → List ℕ) (us : List ℕ) (u k : ℕ) → IsTrue (has us u) → IsTrue (has (f u) k) → IsTrue (has (flat_map f us) k)
has_flat f [] u k h i = absurd cc
has_flat f (w ∷ us) u k h i = elim (has_cons w u us h) [
  | inl e ↦ has_append_left (f w) (flat_map f us) k (subst (λ (x : ℕ). IsTrue (has (f x) k)) (sym e) i)
  | inr t ↦ has_append_right (f w) (flat_map f us) k (has_flat f us u k t i)
]

record FromFlat (f : ℕ → List ℕ) (us : List ℕ) (k : ℕ) : Type 0 where
  pub node : ℕ
  pub member : IsTrue (has us node)
  pub here : IsTrue (has (f node) k)

flat_has : (f : ℕ → List ℕ) (us : List ℕ) (k : ℕ) → IsTrue (has (flat_map f us) k) → FromFlat f us k
flat_has f [] k h = absurd cc
flat_has f (w ∷ us) k h = elim (has_append_cases (f w) (flat_map f us) k h) [
  | inl here ↦ record { node = w; member = has_here w us; here = here }
  | inr later ↦ (let r = flat_has f us k later in record { node = r.node; member = has_there w r.node us r.member; here = r.here })
]

-- of some edges, one that is absent and joins the set with the rest, and the other way about
joining_has : (g : Digraph) (P : List Bool) (s ks : List ℕ) (k : ℕ) → IsTrue (has (absent_joining g P s ks) k) → IsTrue (has ks k) × (present P k ≡ false)
joining_has g P s ks k h =
    let f = filter_has (λ j. not (present P j) && crosses s (edge_at g j)) ks k h in
    (f.0, not-true (present P k) (and_parts (not (present P k)) (crosses s (edge_at g k)) f.1).0)

has_joining : (g : Digraph) (P : List Bool) (s ks : List ℕ) (k : ℕ) → IsTrue (has ks k) → present P k ≡ false → IsTrue (crosses s (edge_at g k)) → IsTrue (has (absent_joining g P s ks) k)
has_joining g P s ks k here off joins =
    has_filter (λ j. not (present P j) && crosses s (edge_at g j)) ks k here (and_from (not (present P k)) (crosses s (edge_at g k)) (not_from_false (present P k) off) joins)

pub leaving_are_absent : (g : Digraph) (P : List Bool) (s : List ℕ) → AreAbsent (leads_out s) g P (absent_out g P s)
leaving_are_absent g P s = record {
  absent = all_by (λ k. (k < length g.edges) × (present P k ≡ false)) (absent_out g P s) (λ k h.
      let r = flat_has (absent_from g P s) s k h in
      let f = joining_has g P s (leaving g r.node) k r.here in
      ((places_at (λ e. e.from) g r.node k f.0).0, f.1));
  all = λ k lt t off.
      let a = and_parts (has s (edge_at g k).from) (not (has s (edge_at g k).to)) t in
      let u : ℕ = (edge_at g k).from in
      has_flat (absent_from g P s) s u k a.0
      (has_joining g P s (leaving g u) k (at_places (λ e. e.from) g u k lt refl) off (or_left (leads_out s (edge_at g k)) (has s (edge_at g k).to && not (has s (edge_at g k).from)) t));
}

-- ---- the edges that join a set with the rest

cross_cases : (s : List ℕ) (e : Edge) → IsTrue (crosses s e) → IsTrue (leads_out s e) ⊎ (IsTrue (has s e.to) × IsTrue (not (has s e.from)))
cross_cases s e h = elim (or_cases (leads_out s e) (has s e.to && not (has s e.from)) h) [
  | inl out ↦ inl out
  | inr back ↦ inr (and_parts (has s e.to) (not (has s e.from)) back)
]

across_at : Digraph → List Bool → List ℕ → ℕ → List ℕ
across_at g P s u = absent_from g P s u ++ absent_into g P s u

pub crossing_are_absent : (g : Digraph) (P : List Bool) (s : List ℕ) → AreAbsent (crosses s) g P (absent_across g P s)
unfolding across_at
crossing_are_absent g P s = record {
  absent = all_by (λ k. (k < length g.edges) × (present P k ≡ false)) (absent_across g P s) (λ k h.
      let r = flat_has (across_at g P s) s k h in
      elim (has_append_cases (absent_from g P s r.node) (absent_into g P s r.node) k r.here) [
        | inl out ↦ (let f = joining_has g P s (leaving g r.node) k out in ((places_at (λ e. e.from) g r.node k f.0).0, f.1))
        | inr back ↦ (let f = joining_has g P s (entering g r.node) k back in ((places_at (λ e. e.to) g r.node k f.0).0, f.1))
      ]);
  all = λ k lt t off. elim (cross_cases s (edge_at g k) t) [
    | inl out ↦ (
        let u : ℕ = (edge_at g k).from in
        has_flat (across_at g P s) s u k (and_parts (has s (edge_at g k).from) (not (has s (edge_at g k).to)) out).0
        (has_append_left (absent_from g P s u) (absent_into g P s u) k (has_joining g P s (leaving g u) k (at_places (λ e. e.from) g u k lt refl) off t)))
    | inr back ↦ (
        let u : ℕ = (edge_at g k).to in
        has_flat (across_at g P s) s u k back.0 (has_append_right (absent_from g P s u) (absent_into g P s u) k (has_joining g P s (entering g u) k (at_places (λ e. e.to) g u k lt refl) off t)))
  ];
}

-- ---- parts and greater parts

-- what shows by absent edges in a greater part shows it in the part
pub evidence_within : (g : Digraph) (P Q : List Bool) (q : Predicate) (e : Evidence) → rests_on_present e.witness ≡ false → IsSubpart P Q → IsEvidence g Q q e → IsEvidence g P q e
evidence_within g P Q q e rests sub h = record {
  known = h.known;
  small = h.small;
  sided = λ i d lt. let s = h.sided i d lt in (s.0, false_from_ne_true (present P (get_or e.edges i d)) (λ t. both_ways (present Q (get_or e.edges i d)) (s.1 ∙ rests) (sub.keeps (get_or e.edges i d) t)) ∙ sym rests);
  used = h.used;
  passes = h.passes;
}
