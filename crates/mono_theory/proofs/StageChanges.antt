-- Atoms change their stage by an exchange beside a border.
use Rattle.std.proofs.Common.{◌≡◌, ◌≢◌, ℕ, ◌+◌, ◌-◌, ◌<◌, ◌≤◌, ◌⊎◌, Bool, List, length, get_or, set, map, refl, sym, ap, subst, ◌∙◌, inl, inr, arith, All}
use Rattle.std.specs.Prelude.{replicate, if◌then◌else◌}
use Rattle.std.specs.List.{range_with_len}
use Rattle.std.proofs.lemmas.Bool.{cases_eq, cases_lt, le-ltb, both_ways}
use Rattle.std.proofs.lemmas.List.{length-map, length-set, length-replicate, get_or-replicate, get_or-set_same, get_or-set_other, get_or_default, ext_get_or}
use Rattle.std.proofs.Math.ListN.{get_or-map}
use Rattle.std.proofs.Math.Seq.{map-set_same}
use Rattle.std.proofs.lemmas.List.FromFn.{get_or-range_with_len, length-range_with_len}
use Rattle.mono_theory.specs.declared.stage.Stage.{Stage}
use Rattle.mono_theory.specs.declared.stage.Stage.TheVariants as stage
use Rattle.mono_base.specs.Ranking.{AreInverse, RankingView, exchanged, in_order}
use Rattle.mono_base.proofs.Rankings.{inverse_new}
use Rattle.mono_theory.specs.Stages.{stage_at, undone, IsUpTo, shows, NoneWaits, stage_by, AreRuns, IsChange, IsTable}

-- ---- atoms by place

-- two places have different atoms
pub apart : {items places : List ℕ} → AreInverse items places → (j k : ℕ) → j < length items → k < length items → get_or items j 0 ≡ get_or items k 0 → j ≡ k
apart {items} {places} h j k lj lk e = sym (h.listed j lj).1 ∙ ap (λ (a : ℕ). get_or places a 0) e ∙ (h.listed k lk).1

-- one atom has another stage, and the others have theirs
stage_here : (stages : List Stage) (a : ℕ) (s : Stage) → a < length stages → stage_at (set stages a s) a ≡ s
stage_here stages a s lt = get_or-set_same stages a s stage.Waits lt

stage_there : (stages : List Stage) (a b : ℕ) (s : Stage) → b ≢ a → stage_at (set stages a s) b ≡ stage_at stages b
stage_there stages a b s ne = get_or-set_other stages a b s stage.Waits ne

-- what stands where after an exchange
second_there : (items : List ℕ) (p q : ℕ) → q < length items → get_or (exchanged items p q) q 0 ≡ get_or items p 0
second_there items p q lq = get_or-set_same (set items p (get_or items q 0)) q (get_or items p 0) 0 (omega (arith, lq, length-set items p (get_or items q 0)))

first_there : (items : List ℕ) (p q : ℕ) → p < length items → p ≢ q → get_or (exchanged items p q) p 0 ≡ get_or items q 0
first_there items p q lp ne = get_or-set_other (set items p (get_or items q 0)) q p (get_or items p 0) 0 ne ∙ get_or-set_same items p (get_or items q 0) 0 lp

others_there : (items : List ℕ) (p q k : ℕ) → k ≢ p → k ≢ q → get_or (exchanged items p q) k 0 ≡ get_or items k 0
others_there items p q k np nq = get_or-set_other (set items p (get_or items q 0)) q k (get_or items p 0) 0 nq ∙ get_or-set_other items p k (get_or items q 0) 0 np

pub changed : {items places : List ℕ} {p q : ℕ} (moved : List ℕ) (stages : List Stage) (s : Stage) → AreInverse items places → length stages ≡ length items → moved ≡ exchanged items p q → p < length items → q < length items
    → IsChange items stages moved (set stages (get_or items p 0) s) p q s
changed {items} {places} {p} {q} moved stages s h count e lp lq =
    let a : ℕ = get_or items p 0 in
    let later : List Stage = set stages a s in
    let known : a < length stages = (let low = (h.listed p lp).0 in omega (arith, low, count)) in
    subst (λ (xs : List ℕ). IsChange items stages xs later p q s) (sym e) (record {
      here = ap (stage_at later) (second_there items p q lq) ∙ stage_here stages a s known;
      first = λ ne. ap (stage_at later) (first_there items p q lp ne) ∙ stage_there stages a (get_or items q 0) s (λ same. ne (sym (apart h q p lq lp same)));
      others = λ k lt np nq. ap (stage_at later) (others_there items p q k np nq) ∙ stage_there stages a (get_or items k 0) s (λ same. np (apart h k p lt lp same));
    })

-- ---- the place of an atom

-- an atom that waits is between the borders, and one that stands behind them
pub place_of_waiting : {items : List ℕ} {stages : List Stage} {shown border : ℕ} → AreRuns items stages shown border → (k : ℕ) → k < length items → stage_by items stages k ≡ stage.Waits → (shown ≤ k) × (k < border)
place_of_waiting {items} {stages} {shown} {border} h k lt e = (
  elim (cases_lt k shown) [ inl low ↦ absurd (both_ways (shows (stage_by items stages k)) (ap shows e) (h.show k low)) | inr ge ↦ ge ],
  elim (cases_lt k border) [ inl low ↦ low | inr ge ↦ absurd (let bad : stage.Waits ≡ stage.Stands = sym e ∙ h.stand k ge lt in cc) ],
)

pub place_of_standing : {items : List ℕ} {stages : List Stage} {shown border : ℕ} → AreRuns items stages shown border → (k : ℕ) → k < length items → stage_by items stages k ≡ stage.Stands → border ≤ k
place_of_standing {items} {stages} {shown} {border} h k lt e = elim (cases_lt k border) [
  | inr ge ↦ ge
  | inl low ↦ elim (cases_lt k shown) [
    | inl shown_there ↦ absurd (both_ways (shows (stage_by items stages k)) (ap shows e) (h.show k shown_there))
    | inr ge ↦ absurd (let bad : stage.Stands ≡ stage.Waits = sym e ∙ h.wait k ge low in cc)
  ]
]

up_to_more : (m n : ℕ) (s : Stage) → n ≤ m → IsUpTo n s → IsUpTo m s
up_to_more m n stage.Waits le h = tt
up_to_more m n stage.Stands le h = tt
up_to_more m n (stage.Shows k) le h = omega (arith, le, h)

-- ---- the runs after a change

-- the atom at p, which waited, stands behind the border
pub runs_stand : {items moved : List ℕ} {stages later : List Stage} {shown border p q : ℕ} → AreRuns items stages shown border → IsChange items stages moved later p q stage.Stands → length moved ≡ length items → shown ≤ p → p < border → q + 1 ≡ border
    → AreRuns moved later shown q
runs_stand {items} {moved} {stages} {later} {shown} {border} {p} {q} h c count lo hi at = record {
  order = omega (arith, lo, hi, at);
  within = omega (arith, at, count, h.within);
  show = λ k lt. ap shows (c.others k (omega (arith, lt, h.order, h.within)) (omega (arith, lt, lo)) (omega (arith, lt, lo, hi, at))) ∙ h.show k lt;
  wait = λ k ge lt. elim (cases_eq k p) [
    | inl e ↦ ap (stage_by moved later) e ∙ c.first (omega (arith, e, lt)) ∙ h.wait q (omega (arith, lo, hi, at)) (omega (arith, at))
    | inr ne ↦ c.others k (omega (arith, lt, at, h.within)) ne (omega (arith, lt)) ∙ h.wait k ge (omega (arith, lt, at))
  ];
  stand = λ k ge lt. elim (cases_eq k q) [
    | inl e ↦ ap (stage_by moved later) e ∙ c.here
    | inr ne ↦ c.others k (omega (arith, lt, count)) (omega (arith, ge, ne, hi, at)) ne ∙ h.stand k (omega (arith, ge, ne, at)) (omega (arith, lt, count))
  ];
  later = λ j k m le lt u.
      subst (IsUpTo m) (sym (c.others j (omega (arith, le, lt, h.order, h.within)) (omega (arith, le, lt, lo)) (omega (arith, le, lt, lo, hi, at))))
      (h.later j k m le lt (subst (IsUpTo m) (c.others k (omega (arith, lt, h.order, h.within)) (omega (arith, lt, lo)) (omega (arith, lt, lo, hi, at))) u));
}

-- the atom at p, which waited, shows last
pub runs_show : {items moved : List ℕ} {stages later : List Stage} {shown border p n : ℕ} → AreRuns items stages shown border → IsChange items stages moved later p shown (stage.Shows n) → length moved ≡ length items → shown ≤ p → p < border
    → ((k : ℕ) → k < length items → IsUpTo n (stage_by items stages k)) → AreRuns moved later (shown + 1) border
runs_show {items} {moved} {stages} {later} {shown} {border} {p} {n} h c count lo hi low = record {
  order = omega (arith, lo, hi);
  within = omega (arith, count, h.within);
  show = λ k lt. elim (cases_eq k shown) [
    | inl e ↦ ap shows (ap (stage_by moved later) e ∙ c.here)
    | inr ne ↦ ap shows (c.others k (omega (arith, lt, lo, hi, h.within)) (omega (arith, lt, ne, lo)) ne) ∙ h.show k (omega (arith, lt, ne))
  ];
  wait = λ k ge lt. elim (cases_eq k p) [
    | inl e ↦ ap (stage_by moved later) e ∙ c.first (omega (arith, e, ge)) ∙ h.wait shown (omega arith) (omega (arith, lo, hi))
    | inr ne ↦ c.others k (omega (arith, lt, h.within)) ne (omega (arith, ge)) ∙ h.wait k (omega (arith, ge)) lt
  ];
  stand = λ k ge lt. c.others k (omega (arith, lt, count)) (omega (arith, ge, hi)) (omega (arith, ge, lo, hi)) ∙ h.stand k ge (omega (arith, lt, count));
  later = λ j k m le lt u. elim (cases_eq j shown) [
    | inl e ↦ (let same : j ≡ k = omega (arith, e, le, lt) in subst (λ (i : ℕ). IsUpTo m (stage_by moved later i)) (sym same) u)
    | inr ne ↦ (
        let known : j < length items = omega (arith, le, lt, ne, lo, hi, h.within) in
        let early : j < shown = omega (arith, le, lt, ne) in
        subst (IsUpTo m) (sym (c.others j known (omega (arith, early, lo)) ne)) (elim (cases_eq k shown) [
          | inl e ↦ (let last : n ≤ m = subst (IsUpTo m) (ap (stage_by moved later) e ∙ c.here) u in up_to_more m n (stage_by items stages j) last (low j known))
          | inr apart_there ↦ (let inside : k < shown = omega (arith, lt, apart_there) in h.later j k m le inside (subst (IsUpTo m) (c.others k (omega (arith, inside, lo, hi, h.within)) (omega (arith, inside, lo)) apart_there) u))
        ]))
  ];
}

-- the atom at p, which stood, waits in front of the border
pub runs_wait : {items moved : List ℕ} {stages later : List Stage} {shown border p : ℕ} → AreRuns items stages shown border → IsChange items stages moved later p border stage.Waits → length moved ≡ length items → border ≤ p → p < length items
    → AreRuns moved later shown (border + 1)
runs_wait {items} {moved} {stages} {later} {shown} {border} {p} h c count lo hi = record {
  order = omega (arith, h.order);
  within = omega (arith, count, lo, hi);
  show = λ k lt. ap shows (c.others k (omega (arith, lt, h.order, h.within)) (omega (arith, lt, h.order, lo)) (omega (arith, lt, h.order))) ∙ h.show k lt;
  wait = λ k ge lt. elim (cases_eq k border) [
    | inl e ↦ ap (stage_by moved later) e ∙ c.here
    | inr ne ↦ c.others k (omega (arith, lt, lo, hi)) (omega (arith, lt, ne, lo)) ne ∙ h.wait k ge (omega (arith, lt, ne))
  ];
  stand = λ k ge lt. elim (cases_eq k p) [
    | inl e ↦ ap (stage_by moved later) e ∙ c.first (omega (arith, e, ge)) ∙ h.stand border (omega arith) (omega (arith, lo, hi))
    | inr ne ↦ c.others k (omega (arith, lt, count)) ne (omega (arith, ge)) ∙ h.stand k (omega (arith, ge)) (omega (arith, lt, count))
  ];
  later = λ j k m le lt u.
      subst (IsUpTo m) (sym (c.others j (omega (arith, le, lt, h.order, h.within)) (omega (arith, le, lt, h.order, lo)) (omega (arith, le, lt, h.order))))
      (h.later j k m le lt (subst (IsUpTo m) (c.others k (omega (arith, lt, h.order, h.within)) (omega (arith, lt, h.order, lo)) (omega (arith, lt, h.order))) u));
}

-- ---- going back

-- the last atom that shows waits
pub runs_undone : {items places : List ℕ} {stages : List Stage} {shown left border : ℕ} → AreInverse items places → length stages ≡ length items → AreRuns items stages shown border → left + 1 ≡ shown → AreRuns items (set stages (get_or items left 0) stage.Waits) left border
runs_undone {items} {places} {stages} {shown} {left} {border} inverse count h at =
    let a : ℕ = get_or items left 0 in
    let later : List Stage = set stages a stage.Waits in
    let known : left < length items = omega (arith, at, h.order, h.within) in
    let here : stage_by items later left ≡ stage.Waits = stage_here stages a stage.Waits (let low = (inverse.listed left known).0 in omega (arith, low, count)) in
    let others : (k : ℕ) → k < length items → k ≢ left → stage_by items later k ≡ stage_by items stages k = λ k lt ne. stage_there stages a (get_or items k 0) stage.Waits (λ e. ne (apart inverse k left lt known e)) in
    record {
      order = omega (arith, at, h.order);
      within = h.within;
      show = λ k lt. ap shows (others k (omega (arith, lt, known)) (omega (arith, lt))) ∙ h.show k (omega (arith, lt, at));
      wait = λ k ge lt. elim (cases_eq k left) [
        | inl e ↦ ap (stage_by items later) e ∙ here
        | inr ne ↦ others k (omega (arith, lt, h.within)) ne ∙ h.wait k (omega (arith, ge, ne, at)) lt
      ];
      stand = λ k ge lt. others k lt (omega (arith, ge, at, h.order)) ∙ h.stand k ge lt;
      later = λ j k m le lt u.
          subst (IsUpTo m) (sym (others j (omega (arith, le, lt, known)) (omega (arith, le, lt)))) (h.later j k m le (omega (arith, lt, at)) (subst (IsUpTo m) (others k (omega (arith, lt, known)) (omega (arith, lt))) u));
    }

-- an atom that waits after going back is no other after it
pub undone_already : (kept : ℕ) (stages : List Stage) (a : ℕ) → undone kept (stage_at stages a) ≡ stage.Waits → map (undone kept) (set stages a stage.Waits) ≡ map (undone kept) stages
undone_already kept stages a e = map-set_same (undone kept) stages a stage.Waits stage.Waits (sym e)

undone_same : (kept : ℕ) (s : Stage) → IsUpTo kept s → undone kept s ≡ s
undone_same kept stage.Waits h = refl
undone_same kept stage.Stands h = refl
undone_same kept (stage.Shows m) h = ap (λ (b : Bool). if b then stage.Waits else stage.Shows m) (le-ltb kept m h)

-- where none shows by later literals, going back changes nothing
pub none_later : {items places : List ℕ} {stages : List Stage} {shown border : ℕ} (kept : ℕ) → AreInverse items places → length stages ≡ length items → AreRuns items stages shown border → (shown ≡ 0) ⊎ IsUpTo kept (stage_by items stages (shown - 1)) → map (undone kept) stages ≡ stages
none_later {items} {places} {stages} {shown} {border} kept inverse count h last =
    ext_get_or stage.Waits (map (undone kept) stages) stages (length-map stages (undone kept)) (λ a less.
    let s = inverse.stands a (omega (arith, less, count, length-map stages (undone kept))) in
    get_or-map (undone kept) stages a stage.Waits ∙ subst (λ (b : ℕ). undone kept (stage_at stages b) ≡ stage_at stages b) s.1 (at (get_or places a 0) s.0))
  where
    early : (k : ℕ) → k < shown → (shown ≡ 0) ⊎ IsUpTo kept (stage_by items stages (shown - 1)) → IsUpTo kept (stage_by items stages k)
    early k lt (inl none) = absurd (omega (arith, none, lt))
    early k lt (inr up) = h.later k (shown - 1) kept (omega (arith, lt)) (omega (arith, lt)) up

    at : (k : ℕ) → k < length items → undone kept (stage_by items stages k) ≡ stage_by items stages k
    at k lt = elim (cases_lt k shown) [
      | inl low ↦ undone_same kept (stage_by items stages k) (early k low last)
      | inr ge ↦ elim (cases_lt k border) [
        | inl mid ↦ ap (undone kept) (h.wait k ge mid) ∙ sym (h.wait k ge mid)
        | inr high ↦ ap (undone kept) (h.stand k high lt) ∙ sym (h.stand k high lt)
      ]
    ]

-- ---- a new table

pub table_new : (n : ℕ) → IsTable (in_order n) (replicate n stage.Waits) 0 n
table_new n = record {
  inverse = inverse_new n;
  as_many = length-replicate n stage.Waits ∙ sym (length-range_with_len 0 n);
  runs = record {
    order = omega arith;
    within = omega (arith, length-range_with_len 0 n);
    show = λ k lt. absurd (omega (arith, lt));
    wait = λ k ge lt. get_or-replicate n (get_or (range_with_len 0 n) k 0) stage.Waits stage.Waits (omega (arith, lt, get_or-range_with_len 0 n k 0 lt));
    stand = λ k ge lt. absurd (omega (arith, ge, lt, length-range_with_len 0 n));
    later = λ j k m le lt u. absurd (omega (arith, lt));
  };
}

-- where the borders meet, none waits
pub none_waits : {r : RankingView} {stages : List Stage} {shown border : ℕ} → IsTable r stages shown border → shown ≡ border → NoneWaits stages
none_waits {r} {stages} {shown} {border} h meet = λ i d lt e.
    let s = h.inverse.stands i (omega (arith, lt, h.as_many)) in
    let is : stage_by r.items stages (get_or r.places i 0) ≡ stage.Waits = ap (stage_at stages) s.1 ∙ get_or_default stages i stage.Waits d lt ∙ e in
    let between = place_of_waiting h.runs (get_or r.places i 0) s.0 is in
    omega (arith, meet, between.0, between.1)

-- ---- the table after a change

-- the atom is at this place, in this stage
pub record IsPlaced (items : List ℕ) (stages : List Stage) (a p : ℕ) (s : Stage) : Type 0 where
  pub inside : p < length items
  pub atom : get_or items p 0 ≡ a
  pub its : stage_by items stages p ≡ s

pub placed : {r : RankingView} {stages : List Stage} {shown border : ℕ} (a p : ℕ) (s : Stage) → IsTable r stages shown border → a < length stages → p ≡ get_or r.places a 0 → stage_at stages a ≡ s → IsPlaced r.items stages a p s
placed {r} {stages} a p s h lt at its =
    let there = h.inverse.stands a (omega (arith, lt, h.as_many)) in
    let atom : get_or r.items p 0 ≡ a = ap (λ (q : ℕ). get_or r.items q 0) at ∙ there.1 in
    record { inside = omega (arith, at, there.0); atom = atom; its = ap (stage_at stages) atom ∙ its }

-- what a change leaves
pub record IsChanged (r : RankingView) (stages : List Stage) (r' : RankingView) (stages' : List Stage) (p q : ℕ) (s : Stage) : Type 0 where
  pub inverse : AreInverse r'.items r'.places
  pub as_many : length r'.items ≡ length r.items
  pub written : stages' ≡ set stages (get_or r.items p 0) s
  pub change : IsChange r.items stages r'.items stages' p q s

table_with : {r r' : RankingView} {stages stages' : List Stage} {shown border shown' border' p q : ℕ} {s : Stage} → IsTable r stages shown border → IsChanged r stages r' stages' p q s → AreRuns r'.items stages' shown' border' → IsTable r' stages' shown' border'
table_with {r} {r'} {stages} {stages'} {shown} {border} {shown'} {border'} {p} {q} {s} h c runs = record {
  inverse = c.inverse;
  as_many = ap length c.written ∙ length-set stages (get_or r.items p 0) s ∙ h.as_many ∙ sym c.as_many;
  runs = runs;
}

pub table_stand : {r r' : RankingView} {stages stages' : List Stage} {shown border a p q : ℕ} → IsTable r stages shown border → IsPlaced r.items stages a p stage.Waits → q ≡ border - 1 → IsChanged r stages r' stages' p q stage.Stands → IsTable r' stages' shown q
table_stand {p = p} h x at c = let between = place_of_waiting h.runs p x.inside x.its in table_with h c (runs_stand h.runs c.change c.as_many between.0 between.1 (let high = between.1 in omega (arith, high, at)))

pub table_show : {r r' : RankingView} {stages stages' : List Stage} {shown border a p n : ℕ} → IsTable r stages shown border → IsPlaced r.items stages a p stage.Waits → All (IsUpTo n) stages → IsChanged r stages r' stages' p shown (stage.Shows n) → IsTable r' stages' (shown + 1) border
table_show {r = r} {stages = stages} {p = p} {n = n} h x low c =
    let between = place_of_waiting h.runs p x.inside x.its in
    table_with h c (runs_show h.runs c.change c.as_many between.0 between.1 (λ k lt. low (get_or r.items k 0) stage.Waits (let known = (h.inverse.listed k lt).0 in omega (arith, known, h.as_many))))

pub table_wait : {r r' : RankingView} {stages stages' : List Stage} {shown border a p : ℕ} → IsTable r stages shown border → IsPlaced r.items stages a p stage.Stands → IsChanged r stages r' stages' p border stage.Waits → IsTable r' stages' shown (border + 1)
table_wait {p = p} h x c = table_with h c (runs_wait h.runs c.change c.as_many (place_of_standing h.runs p x.inside x.its) x.inside)
