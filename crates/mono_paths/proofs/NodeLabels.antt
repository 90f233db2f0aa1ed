-- Labels that are kept as what they are below a cap.
use Rattle.std.proofs.Common.{◌≡◌, ℕ, suc, ◌-◌, ◌<◌, ◌≤◌, true, List, [], ◌∷◌, ◌++◌, length, get_or, set, map, replicate, refl, sym, ap, subst, ◌∙◌, inl, inr, arith}
use Rattle.std.specs.Prelude.{IsTrue, All, ◌==◌, nat_lt, if◌then◌else◌}
use Rattle.std.proofs.lemmas.Bool.{cases_eq, cases_lt, eq-eqb, ne_eqb, lt-ltb, le-ltb, ltb-true}
use Rattle.std.proofs.lemmas.List.{get_or-set_same, get_or-set_other, get_or_past, get_or-map, map-set, length-map}
use Rattle.mono_graph.specs.Digraph.{has}
use Rattle.mono_graph.proofs.Membership.{has_get_or}
use Rattle.mono_paths.specs.NodeLabels.{AreBelowCap}
use Rattle.mono_paths.specs.Spread.{label_of}
use Rattle.mono_graph.proofs.Prefixes.{distinct_new, has_new, has_other}

in_range : (below : List ℕ) (u : ℕ) → 0 < get_or below u 0 → u < length below
in_range below u some = elim (cases_lt u (length below)) [ inl lt ↦ lt | inr past ↦ absurd (omega (arith, get_or_past below u 0 past)) ]

listed_some : (cap : ℕ) (below reached : List ℕ) → AreBelowCap cap below reached → (u : ℕ) → IsTrue (has reached u) → 0 < get_or below u 0
listed_some cap below reached k u h = ltb-true 0 (get_or below u 0) (sym (k.listed u) ∙ h)

-- the nodes that were reached are nodes
pub reached_known : (cap : ℕ) (below reached : List ℕ) → AreBelowCap cap below reached → All (λ u. u < length below) reached
reached_known cap below reached k = λ i d lt. in_range below (get_or reached i d) (listed_some cap below reached k (get_or reached i d) (has_get_or reached i d lt))

pub some_listed : (cap : ℕ) (below reached : List ℕ) → AreBelowCap cap below reached → (u : ℕ) → 0 < get_or below u 0 → IsTrue (has reached u)
some_listed cap below reached k u some = k.listed u ∙ lt-ltb 0 (get_or below u 0) some

-- set back, all labels are the cap
all_at_cap : (cap : ℕ) (below : List ℕ) → ((u : ℕ) → get_or below u 0 ≡ 0) → map (λ (x : ℕ). cap - x) below ≡ replicate (length below) cap
all_at_cap cap [] zeros = refl
all_at_cap cap (x ∷ below) zeros =
    let none : x ≡ 0 = zeros 0 in
    let head : cap - x ≡ cap = omega arith in
    ap (λ (y : ℕ). y ∷ map (λ (z : ℕ). cap - z) below) head ∙ ap (λ (ys : List ℕ). cap ∷ ys) (all_at_cap cap below (λ u. zeros (suc u)))

pub set_back_all : (cap n : ℕ) (below : List ℕ) → length below ≡ n → ((u : ℕ) → get_or below u 0 ≡ 0) → map (λ (x : ℕ). cap - x) below ≡ replicate n cap
set_back_all cap n below len zeros = all_at_cap cap below zeros ∙ ap (λ (m : ℕ). replicate m cap) len

pub kept_none : (cap : ℕ) (below : List ℕ) → ((u : ℕ) → get_or below u 0 ≡ 0) → AreBelowCap cap below []
kept_none cap below zeros = record {
  within = λ u. let none = zeros u in omega arith;
  once = refl;
  listed = λ u. sym (ap (λ (x : ℕ). nat_lt 0 x) (zeros u));
}

-- a node is given something
pub kept_more : (cap : ℕ) (below reached : List ℕ) (u some : ℕ) → u < length below → 0 < some → some ≤ cap → AreBelowCap cap below reached
    → AreBelowCap cap (set below u some) (if get_or below u 0 == 0 then reached ++ u ∷ [] else reached)
kept_more cap below reached u some lt pos low k = record {
  within = λ w. elim (cases_eq u w) [
    | inl e ↦ subst (λ (x : ℕ). get_or (set below u some) x 0 ≤ cap) e (omega (arith, get_or-set_same below u some 0 lt))
    | inr ne ↦ let old = k.within w in omega (arith, get_or-set_other below u w some 0 (λ q. ne (sym q)))
  ];
  once = elim (cases_eq (get_or below u 0) 0) [
    | inl none ↦ rw (eq-eqb (get_or below u 0) 0 none) (distinct_new reached u k.once (k.listed u ∙ ap (λ (x : ℕ). nat_lt 0 x) none))
    | inr had ↦ rw (ne_eqb (get_or below u 0) 0 had) k.once
  ];
  listed = λ w. elim (cases_eq u w) [
    | inl e ↦ subst (λ (x : ℕ). has (if get_or below u 0 == 0 then reached ++ u ∷ [] else reached) x ≡ nat_lt 0 (get_or (set below u some) x 0)) e
        (here ∙ sym (ap (λ (x : ℕ). nat_lt 0 x) (get_or-set_same below u some 0 lt) ∙ lt-ltb 0 some pos))
    | inr ne ↦ elsewhere w ne ∙ (k.listed w ∙ sym (ap (λ (x : ℕ). nat_lt 0 x) (get_or-set_other below u w some 0 (λ q. ne (sym q)))))
  ];
}
  where
    here : has (if get_or below u 0 == 0 then reached ++ u ∷ [] else reached) u ≡ true
    here = elim (cases_eq (get_or below u 0) 0) [
      | inl none ↦ rw (eq-eqb (get_or below u 0) 0 none) (has_new reached u)
      | inr had ↦ rw (ne_eqb (get_or below u 0) 0 had) (some_listed cap below reached k u (omega arith))
    ]

    elsewhere : (w : ℕ) → (u ≡ w → ⊥) → has (if get_or below u 0 == 0 then reached ++ u ∷ [] else reached) w ≡ has reached w
    elsewhere w ne = elim (cases_eq (get_or below u 0) 0) [
      | inl none ↦ rw (eq-eqb (get_or below u 0) 0 none) (has_other reached u w ne)
      | inr had ↦ rw (ne_eqb (get_or below u 0) 0 had) refl
    ]

-- a label that is lowered was above something, so its node is one
pub lowered_known : (cap : ℕ) (below : List ℕ) (u label : ℕ) → label < label_of (map (λ (x : ℕ). cap - x) below) u → (u < length below) × (label < cap)
lowered_known cap below u label low = elim (cases_lt u (length below)) [
  | inl lt ↦ (lt, omega (arith, get_or-map (λ (x : ℕ). cap - x) below u 0 0 lt))
  | inr past ↦ absurd (omega (arith, length-map below (λ (x : ℕ). cap - x), get_or_past (map (λ (x : ℕ). cap - x) below) u 0 (omega (arith, length-map below (λ (x : ℕ). cap - x)))))
]

pub lowered : (cap : ℕ) (below : List ℕ) (u label : ℕ) → label < cap → map (λ (x : ℕ). cap - x) (set below u (cap - label)) ≡ set (map (λ (x : ℕ). cap - x) below) u label
lowered cap below u label lt =
    map-set (λ (x : ℕ). cap - x) below u (cap - label)
    ∙ ap (λ (y : ℕ). set (map (λ (x : ℕ). cap - x) below) u y) (let back : cap - (cap - label) ≡ label = omega arith in back)

-- the nodes that were reached are those whose labels are below the cap
pub reached_below : (cap : ℕ) (below reached : List ℕ) → AreBelowCap cap below reached → (u : ℕ) → u < length (map (λ (x : ℕ). cap - x) below)
    → has reached u ≡ nat_lt (label_of (map (λ (x : ℕ). cap - x) below) u) cap
reached_below cap below reached k u lt =
    let known : u < length below = omega (arith, length-map below (λ (x : ℕ). cap - x)) in
    k.listed u ∙ (same ∙ sym (ap (λ (x : ℕ). nat_lt x cap) (get_or-map (λ (x : ℕ). cap - x) below u 0 0 known)))
  where
    same : nat_lt 0 (get_or below u 0) ≡ nat_lt (cap - get_or below u 0) cap
    same =
        let low : get_or below u 0 ≤ cap = k.within u in
        elim (cases_lt 0 (get_or below u 0)) [
          | inl lt ↦ lt-ltb 0 (get_or below u 0) lt ∙ sym (lt-ltb (cap - get_or below u 0) cap (omega arith))
          | inr le ↦ le-ltb 0 (get_or below u 0) le ∙ sym (le-ltb (cap - get_or below u 0) cap (omega arith))
        ]
