-- A table of amounts is drained place by place.
use Rattle.std.proofs.Common.{◌≡◌, ◌≢◌, ℕ, ◌+◌, ◌<◌, ◌≤◌, false, List, [], ◌∷◌, ◌++◌, length, set, refl, sym, ap, subst, ◌∙◌, inl, inr, arith}
use Rattle.std.specs.Prelude.{IsTrue}
use Rattle.std.proofs.lemmas.Bool.{cases_eq, cases_lt, false_from_ne_true}
use Rattle.std.proofs.lemmas.List.{get_or-set_same, get_or-set_other}
use Rattle.std.proofs.lemmas.List.Elements.{All-nil, All-push}
use Rattle.mono_graph.specs.declared.amount.Amount.{Amount}
use Rattle.mono_graph.specs.Digraph.{has, is_distinct}
use Rattle.mono_graph.specs.Flows.{amount_at}
use Rattle.mono_graph.proofs.Prefixes.{distinct_new, has_other}
use Rattle.mono_flows.specs.Drained.{AreDrained}
use Rattle.mono_flows.specs.Listed.{edges_of}
use Rattle.mono_flows.specs.Residual.{amount_of}
use Rattle.mono_flows.proofs.Balances.{absent}
use Rattle.mono_flows.proofs.KeptFlows.{push_new, push_other}

edges_push : (xs : List Amount) (a : Amount) → edges_of (xs ++ a ∷ []) ≡ edges_of xs ++ a.edge ∷ []
edges_push [] a = refl
edges_push (x ∷ xs) a = ap (λ (ks : List ℕ). x.edge ∷ ks) (edges_push xs a)

pub drained_none : (fs : List ℕ) → AreDrained fs fs [] []
drained_none fs = record {
  each = λ k. omega arith;
  empty = λ k h. absurd cc;
  taken = λ k h. absurd cc;
  distinct = refl;
  known = All-nil (λ (a : Amount). a.edge < length fs);
  small = λ v le. All-nil (λ (a : Amount). a.amount ≤ v);
  carrying = All-nil (λ (a : Amount). 0 < a.amount);
}

-- an entry that is 0 already
pub drained_zero : {old now done : List ℕ} {xs : List Amount} (k : ℕ) → amount_of now k ≡ 0 → AreDrained old now done xs → AreDrained old now (done ++ k ∷ []) xs
drained_zero {now = now} {done = done} k zero h = record {
  each = h.each;
  empty = λ j t. elim (cases_eq k j) [
    | inl e ↦ subst (λ (i : ℕ). amount_of now i ≡ 0) e zero
    | inr ne ↦ h.empty j (sym (has_other done k j ne) ∙ t)
  ];
  taken = h.taken;
  distinct = h.distinct;
  known = h.known;
  small = h.small;
  carrying = h.carrying;
}

-- an entry is listed and set to 0
pub drained_some : {old now done : List ℕ} {xs : List Amount} (a : Amount) → a.edge < length now → length now ≡ length old → a.amount ≡ amount_of now a.edge → 0 < a.amount → AreDrained old now done xs
    → AreDrained old (set now a.edge 0) (done ++ a.edge ∷ []) (xs ++ a ∷ [])
drained_some {old = old} {now = now} {done = done} {xs = xs} a low len is some h =
    let new : has (edges_of xs) a.edge ≡ false = false_from_ne_true (has (edges_of xs) a.edge) (λ t. let zero = h.taken a.edge t in absurd (omega (arith, zero, is, some))) in
    let here : amount_of (set now a.edge 0) a.edge ≡ 0 = get_or-set_same now a.edge 0 0 low in
    let there : (k : ℕ) → (a.edge ≢ k) → amount_of (set now a.edge 0) k ≡ amount_of now k = λ k ne. get_or-set_other now a.edge k 0 0 (λ e. ne (sym e)) in
    let own : amount_at (xs ++ a ∷ []) a.edge ≡ a.amount = push_new xs a new in
    let none : amount_at xs a.edge ≡ 0 = absent xs a.edge new in
    let old-here = h.each a.edge in
    let at-here : amount_of (set now a.edge 0) a.edge + amount_at (xs ++ a ∷ []) a.edge ≡ amount_of old a.edge = omega (arith, here, own, none, old-here, is) in
    record {
      each = λ k. elim (cases_eq a.edge k) [
        | inl e ↦ subst (λ (j : ℕ). amount_of (set now a.edge 0) j + amount_at (xs ++ a ∷ []) j ≡ amount_of old j) e at-here
        | inr ne ↦ let other = push_other xs a k ne in let was = h.each k in omega (arith, there k ne, other, was)
      ];
      empty = λ k t. elim (cases_eq a.edge k) [
        | inl e ↦ subst (λ (j : ℕ). amount_of (set now a.edge 0) j ≡ 0) e here
        | inr ne ↦ there k ne ∙ h.empty k (sym (has_other done a.edge k ne) ∙ t)
      ];
      taken = λ k t. elim (cases_eq a.edge k) [
        | inl e ↦ subst (λ (j : ℕ). amount_of (set now a.edge 0) j ≡ 0) e here
        | inr ne ↦ there k ne ∙ h.taken k (sym (has_other (edges_of xs) a.edge k ne) ∙ (sym (ap (λ (ks : List ℕ). has ks k) (edges_push xs a)) ∙ t))
      ];
      distinct = subst (λ (ks : List ℕ). IsTrue (is_distinct ks)) (sym (edges_push xs a)) (distinct_new (edges_of xs) a.edge h.distinct new);
      known = All-push (λ (b : Amount). b.edge < length old) xs a h.known (omega (arith, low, len));
      small = λ v le. All-push (λ (b : Amount). b.amount ≤ v) xs a (h.small v le) (let top = le a.edge in omega (arith, top, is, old-here));
      carrying = All-push (λ (b : Amount). 0 < b.amount) xs a h.carrying some;
    }

-- where each edge that carries something is among them, all carry nothing then, and the list says what they carried
pub drained_empty : {old new edges : List ℕ} {xs : List Amount} → ((k : ℕ) → 0 < amount_of old k → IsTrue (has edges k)) → AreDrained old new edges xs → (k : ℕ) → amount_of new k ≡ 0
drained_empty {old = old} touched h k = elim (cases_lt 0 (amount_of old k)) [
  | inl some ↦ h.empty k (touched k some)
  | inr none ↦ let each = h.each k in omega (arith, none, each)
]

pub drained_same : {old new edges : List ℕ} {xs : List Amount} → ((k : ℕ) → 0 < amount_of old k → IsTrue (has edges k)) → AreDrained old new edges xs → (k : ℕ) → amount_at xs k ≡ amount_of old k
drained_same touched h k = let each = h.each k in let zero = drained_empty touched h k in omega (arith, each, zero)

-- the same lists by other names
pub drained_as : {old now now' done done' : List ℕ} {xs xs' : List Amount} → now' ≡ now → done' ≡ done → xs' ≡ xs → AreDrained old now done xs → AreDrained old now' done' xs'
drained_as {old = old} {now = now} {now' = now'} {done = done} {done' = done'} {xs = xs} n d x h =
    subst (λ (ys : List Amount). AreDrained old now' done' ys) (sym x)
    (subst (λ (ks : List ℕ). AreDrained old now' ks xs) (sym d)
    (subst (λ (fs : List ℕ). AreDrained old fs done xs) (sym n) h))
