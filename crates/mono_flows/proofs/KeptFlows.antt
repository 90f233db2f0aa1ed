-- Amounts that pass the tests of a list are a flow, and the flow that carries them is that flow.
use Rattle.std.proofs.Common.{◌≡◌, ◌≢◌, ℕ, ◌+◌, ◌<◌, ◌≤◌, Bool, true, false, ◌||◌, ◌==◌, List, [], ◌∷◌, ◌++◌, length, get_or, set, take, refl, sym, ap, subst, ◌∙◌, inl, inr, arith}
use Rattle.std.specs.Prelude.{IsTrue, All, if◌then◌else◌}
use Rattle.std.specs.List.{list_all}
use Rattle.std.proofs.lemmas.Bool.{cases_eq, eq-eqb, eqb-true, false_from_ne_true, ne_eqb, or_cases}
use Rattle.std.proofs.lemmas.List.{take_more, take_all, take-map, get_or-set_same, get_or-set_other}
use Rattle.std.proofs.lemmas.List.Elements.{All-head, All-tail}
use Rattle.std.proofs.Math.Path.{fun_ext}
use Rattle.mono_graph.specs.declared.amount.Amount.{Amount}
use Rattle.mono_graph.specs.Digraph.{Digraph, has, is_distinct}
use Rattle.mono_graph.specs.Flows.{amount_at}
use Rattle.mono_graph.proofs.Prefixes.{distinct_take, not_distinct}
use Rattle.mono_flows.specs.Flowing.{IsFlowing}
use Rattle.mono_flows.specs.Listed.{edges_of, can_carry, has_balanced_ends}
use Rattle.mono_flows.specs.Residual.{amount_of}
use Rattle.mono_flows.proofs.Balances.{Tallied, balanced_all, carried_at, in_is, out_is}
use Rattle.mono_flows.proofs.ListedSums.{no_amount, ends_more}

-- ---- the tests

amount_small : (xs : List Amount) (most : ℕ) → All (λ a. a.amount ≤ most) xs → (k : ℕ) → amount_at xs k ≤ most
amount_small [] most h k = omega arith
amount_small (a ∷ xs) most h k = one (a.edge == k) (All-head (λ (b : Amount). b.amount ≤ most) a xs h) (amount_small xs most (All-tail (λ (b : Amount). b.amount ≤ most) a xs h) k)
  where
    one : (b : Bool) → a.amount ≤ most → amount_at xs k ≤ most → (if b then a.amount else amount_at xs k) ≤ most
    one true here later = here
    one false here later = later

balance_at : (s t u into out : ℕ) → IsTrue (u == s || u == t || into == out) → (u ≢ s) → (u ≢ t) → into ≡ out
balance_at s t u into out h not-s not-t = elim (or_cases (u == s || u == t) (into == out) h) [
  | inl end ↦ elim (or_cases (u == s) (u == t) end) [ inl e ↦ absurd (not-s (eqb-true u s e)) | inr e ↦ absurd (not-t (eqb-true u t e)) ]
  | inr e ↦ eqb-true into out e
]

pub tested_flow : (g : Digraph) (P : List Bool) (s t : ℕ) (xs : List Amount) (out into : List ℕ) (value : ℕ) → All (λ a. a.edge < length g.edges) xs → IsTrue (is_distinct (edges_of xs)) → IsTrue (list_all (can_carry g P) xs)
    → Tallied g xs out into → IsTrue (list_all (has_balanced_ends g out into s t) xs) → get_or out s 0 ≡ get_or into s 0 + value → All (λ a. a.amount ≤ value) xs → IsFlowing g P s t (amount_at xs) value
tested_flow g P s t xs out into value known distinct carried tallied balanced surplus small = record {
  within = λ k lt. carried_at g P xs carried k;
  balanced = λ u not-s not-t. in_is g xs u known distinct
      ∙ (sym (tallied.entering u) ∙ (balance_at s t u (get_or into u 0) (get_or out u 0) (balanced_all g out into s t xs tallied balanced u) not-s not-t ∙ (tallied.leaving u ∙ sym (out_is g xs u known distinct))));
  source = omega (arith, out_is g xs s known distinct, in_is g xs s known distinct, tallied.leaving s, tallied.entering s, surplus);
  small = amount_small xs value small;
}

-- ---- the amounts by place

pub push_other : (xs : List Amount) (a : Amount) (k : ℕ) → (a.edge ≢ k) → amount_at (xs ++ a ∷ []) k ≡ amount_at xs k
push_other [] a k ne = ap (λ (b : Bool). if b then a.amount else 0) (ne_eqb a.edge k ne)
push_other (x ∷ xs) a k ne = ap (λ (n : ℕ). if x.edge == k then x.amount else n) (push_other xs a k ne)

pub push_new : (xs : List Amount) (a : Amount) → has (edges_of xs) a.edge ≡ false → amount_at (xs ++ a ∷ []) a.edge ≡ a.amount
push_new [] a h = ap (λ (b : Bool). if b then a.amount else 0) (eq-eqb a.edge a.edge refl)
push_new (x ∷ xs) a h = one (x.edge == a.edge) h (push_new xs a)
  where
    one : (b : Bool) → (b || has (edges_of xs) a.edge) ≡ false → (has (edges_of xs) a.edge ≡ false → amount_at (xs ++ a ∷ []) a.edge ≡ a.amount) → (if b then x.amount else amount_at (xs ++ a ∷ []) a.edge) ≡ a.amount
    one true e later = absurd cc
    one false e later = later e

-- the first amounts are carried
pub record AreCarried (carried : List ℕ) (xs : List Amount) (i : ℕ) : Type 0 where
  pub each : (k : ℕ) → amount_of carried k ≡ amount_at (take i xs) k

pub carried_none : (carried : List ℕ) (xs : List Amount) → ((k : ℕ) → amount_of carried k ≡ 0) → AreCarried carried xs 0
carried_none carried xs h = record { each = h }

pub carried_more : {carried : List ℕ} {xs : List Amount} {i : ℕ} (a : Amount) → i < length xs → a ≡ get_or xs i no_amount → a.edge < length carried → IsTrue (is_distinct (edges_of xs)) → AreCarried carried xs i
    → AreCarried (set carried a.edge a.amount) xs (i + 1)
carried_more {carried = carried} {xs = xs} {i = i} a lt is low distinct h =
    let next : take (i + 1) xs ≡ take i xs ++ a ∷ [] = take_more xs i no_amount lt ∙ ap (λ (b : Amount). take i xs ++ b ∷ []) (sym is) in
    let first : IsTrue (is_distinct (edges_of (take i xs) ++ a.edge ∷ [])) =
    subst (λ (ks : List ℕ). IsTrue (is_distinct ks)) (take-map (λ (b : Amount). b.edge) (i + 1) xs ∙ ends_more (λ (b : Amount). b.edge) xs i a lt is) (distinct_take (edges_of xs) (i + 1) distinct) in
    let new : has (edges_of (take i xs)) a.edge ≡ false = false_from_ne_true (has (edges_of (take i xs)) a.edge) (λ old. not_distinct (edges_of (take i xs)) a.edge old first) in
    record {
      each = λ k. elim (cases_eq a.edge k) [
        | inl e ↦ subst (λ (j : ℕ). amount_of (set carried a.edge a.amount) j ≡ amount_at (take (i + 1) xs) j) e
            (get_or-set_same carried a.edge a.amount 0 low ∙ sym (ap (λ (ys : List Amount). amount_at ys a.edge) next ∙ push_new (take i xs) a new))
        | inr ne ↦ get_or-set_other carried a.edge k a.amount 0 (λ e. ne (sym e)) ∙ (h.each k ∙ sym (ap (λ (ys : List Amount). amount_at ys k) next ∙ push_other (take i xs) a k ne))
      ];
    }

pub carried_all : {carried : List ℕ} {xs : List Amount} {i : ℕ} → length xs ≤ i → AreCarried carried xs i → (k : ℕ) → amount_of carried k ≡ amount_at xs k
carried_all {xs = xs} {i = i} le h k = h.each k ∙ ap (λ (ys : List Amount). amount_at ys k) (take_all i xs le)

-- the same amounts are the same flow
pub same_flowing : {g : Digraph} {P : List Bool} {s t : ℕ} {f : ℕ → ℕ} {value : ℕ} (h : ℕ → ℕ) → ((k : ℕ) → h k ≡ f k) → IsFlowing g P s t f value → IsFlowing g P s t h value
same_flowing {g = g} {P = P} {s = s} {t = t} {f = f} {value = value} h same flow = subst (λ (e : ℕ → ℕ). IsFlowing g P s t e value) (sym (fun_ext same)) flow

-- what carries something is listed
pub carrying_listed : (xs : List Amount) (k : ℕ) → 0 < amount_at xs k → IsTrue (has (edges_of xs) k)
carrying_listed [] k h = absurd (omega arith)
carrying_listed (a ∷ xs) k h = one (a.edge == k) h (carrying_listed xs k)
  where
    one : (b : Bool) → 0 < (if b then a.amount else amount_at xs k) → (0 < amount_at xs k → IsTrue (has (edges_of xs) k)) → IsTrue (b || has (edges_of xs) k)
    one true here later = refl
    one false here later = later here
