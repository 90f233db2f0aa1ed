-- Literals that the rest implies are dropped, and the marks become the learned clause.
use Rattle.std.proofs.Common.{◌≡◌, ◌≢◌, ℕ, zero, suc, ◌+◌, ◌-◌, ◌<◌, ◌≤◌, Bool, true, false, List, [], ◌∷◌, ◌++◌, length, take, get_or, set, refl, sym, ap, subst, ◌∙◌, ◌⊎◌, inl, inr, ℤ, neg_ℤ, arith}
use Rattle.std.specs.Prelude.{IsTrue, Some, nat_le, ◌&&◌, Contains}
use Rattle.std.specs.List.Sorted.{IsPermutation}
use Rattle.std.proofs.lemmas.Bool.{and_from, le-leb, cases_Bool, cases_eq, cases_lt, false_from_ne_true}
use Rattle.std.proofs.lemmas.Option.{same_Some}
use Rattle.std.proofs.lemmas.List.Sorted.{Contains-permutation, IsPermutation-sym}
use Rattle.mono_base.specs.Literal.{var_of, has_lit, without, within, lit_at}
use Rattle.mono_graph.proofs.Membership.{same_truth}
use Rattle.mono_problem.specs.Instance.{Instance, numbered}
use Rattle.mono_steps.specs.ChainSteps.{names_vars}
use Rattle.mono_steps.proofs.CarriedSteps.{before_or_last}
use Rattle.mono_trail.specs.TrailView.{TrailView, IsSoundTrail, count_to, StandsAt}
use Rattle.mono_trail.specs.Seen.{is_marked, IsUnseen}
use Rattle.mono_learn.specs.declared.resolvent.Resolvent.{Resolvent}
use Rattle.mono_learn.specs.Reasons.{WasUnit}
use Rattle.mono_learn.specs.Levels.{level_by, highest_of}
use Rattle.mono_steps.specs.New.{IsExactEnd}
use Rattle.mono_learn.specs.Learned.{IsLearnt, IsMinimal}
use Rattle.mono_learn.specs.Asked.{IsDerived}
use Rattle.mono_learn.specs.Resolvents.{FalseBy, AllFalse, MarkedBy, IsMarked}
use Rattle.mono_learn.specs.Resolving.{IsAtLast, HasMinimized}
use Rattle.mono_trail.specs.declared.reason.Reason.TheVariants.{Clause}
use Rattle.mono_trail.specs.Places.{level_at, reason_at}
use Rattle.mono_learn.specs.Minimizing.{IsCovered, IsUncovered, IsKeptFor, AreKept, AreLeft}
use Rattle.mono_learn.proofs.LitSets.{has-append_left, has-append_cases, true_false, has_one, one_cases}
use Rattle.mono_base.proofs.Partials.{neg-neg}
use Rattle.mono_base.proofs.Truth.{same_lit, at_each, from_each}
use Rattle.std.specs.Ordering.{int_eq}
use Rattle.std.proofs.lemmas.Bool.Decides.{Decides-int_eq}
use Rattle.mono_learn.proofs.Joining.{without_more, without_same}
use Rattle.mono_learn.proofs.Marking.{mark_less, unmarked, stays_other}
use Rattle.mono_learn.proofs.PlacesOfLits.{one_place, is_var_false}
use Rattle.mono_learn.proofs.LevelsByPlace.{level_before, level_after, level_high, stands_at_level, highest_has, highest_reached}
use Rattle.mono_learn.proofs.ResolvingSteps.{marked_false, marked_less, goes_on}

-- ---- what the walk leaves

pub minimized_start : (cs : List (List ℤ)) (t : List ℤ) (start place : ℕ) (m : Resolvent) (kept : List ℕ) (used : List ℕ) → IsAtLast cs t start place m used → IsPermutation m.kept.items kept → HasMinimized cs t start place m.seen.items kept used
minimized_start cs t start place m kept used a perm = record {
  end = a.come.end;
  is_end = a.come.is_end;
  named = a.come.named;
  marks = a.come.resolvent.marks;
  high = a.high;
  within = a.within;
  marked = a.marked;
  one = λ k from on. last k from on (cases_eq k place);
  kept_only = λ k h. a.come.resolvent.kept_only k (Contains-permutation kept m.kept.items k (IsPermutation-sym m.kept.items kept perm) h);
  kept_all = λ k lt on. Contains-permutation m.kept.items kept k perm (a.come.resolvent.kept_all k lt on);
}
  where
    last : (k : ℕ) → start ≤ k → is_marked m.seen.items k ≡ true → (k ≡ place) ⊎ (k ≢ place) → k ≡ place
    last k from on (inl e) = e
    last k from on (inr n) = absurd (omega (arith, a.one, a.come.resolvent.counted, mark_less start place m.seen.items a.high a.marked, mark_less start k (set m.seen.items place false) from (stays_other m.seen.items place k n on)))

-- ---- a literal whose reason's other literals are all in the clause

pub covered_more : (t : List ℤ) (seen : List Bool) (c : List ℤ) (k : ℕ) (x l : ℤ) → k < length c → l ≡ get_or c k l → (l ≡ x → ⊥) → MarkedBy t seen (length t) l → IsCovered t seen (without (take k c) x) → IsCovered t seen (without (take (k + 1) c) x)
covered_more t seen c k x l lt e n m h = subst (IsCovered t seen) (sym (without_more c k x l lt e n)) (record { by = λ y has. elim (one_cases (without (take k c) x) l y has) [ inl a ↦ h.by y a | inr s ↦ subst (MarkedBy t seen (length t)) (sym s) m ] })

pub covered_same : (t : List ℤ) (seen : List Bool) (c : List ℤ) (k : ℕ) (x l : ℤ) → k < length c → l ≡ get_or c k l → l ≡ x → IsCovered t seen (without (take k c) x) → IsCovered t seen (without (take (k + 1) c) x)
covered_same t seen c k x l lt e s h = subst (IsCovered t seen) (sym (without_same c k x l lt e s)) h

pub minimizes : (cs : List (List ℤ)) (t : TrailView) (start place q n : ℕ) (seen : List Bool) (kept : List ℕ) (used used' : List ℕ) (r : List ℤ) → IsSoundTrail t → HasMinimized cs t.lits start place seen kept used → q < start → is_marked seen q ≡ true → WasUnit cs t.lits q n → numbered cs n ≡ Some r → IsCovered t.lits seen (without r (lit_at t.lits q)) → used' ≡ used ++ n ∷ []
    → HasMinimized cs t.lits start place (set seen q false) kept used'
minimizes cs t start place q n seen kept used used' r s h low on w is covered eu =
    let x : ℤ = lit_at t.lits q in
    let g = goes_on cs t (place + 1) q n seen used h.end r s h.is_end h.named h.marks on w is in
    let less : IsMarked t.lits (place + 1) (set seen q false) (without h.end (neg_ℤ x)) = marked_less t.lits (place + 1) q seen h.end s.partial (h.marks.below q on) h.marks in
    record {
      end = without h.end (neg_ℤ x) ++ without r x;
      is_end = rw eu g.is_end;
      named = rw eu g.named;
      marks = record {
        slots = less.slots;
        within = less.within;
        below = less.below;
        only = λ l k. elim (has-append_cases (without h.end (neg_ℤ x)) (without r x) l k) [ inl a ↦ less.only l a | inr b ↦ other l (g.others l b) (covered.by l b) ];
        all = λ l m. has-append_left (without h.end (neg_ℤ x)) (without r x) l (less.all l m);
      };
      high = h.high;
      within = h.within;
      marked = stays_other seen q place (λ e. omega (arith, e, low, h.high)) h.marked;
      one = λ k from m. h.one k from (unmarked seen q k m).1;
      kept_only = h.kept_only;
      kept_all = λ k lt m. h.kept_all k lt (unmarked seen q k m).1;
    }
  where
    other : (l : ℤ) → FalseBy t.lits q l → MarkedBy t.lits seen (length t.lits) l → MarkedBy t.lits (set seen q false) (place + 1) l
    other l f m =
        let same : m.place ≡ f.place = one_place t.lits m.place f.place s.partial m.below f.within (ap var_of (m.there ∙ sym f.there)) in
        record { place = m.place; below = h.marks.below m.place m.marked; there = m.there; marked = stays_other seen q m.place (λ e. omega (arith, e, same, f.below)) m.marked }

-- ---- the learned clause

pub kept_none : (t : List ℤ) (start : ℕ) (seen : List Bool) (kept : List ℕ) → AreKept t start seen kept 0 []
kept_none t start seen kept = record { only = λ l h. absurd cc; all = λ j lt on. absurd (omega arith) }

pub kept_more : (t : List ℤ) (start : ℕ) (seen : List Bool) (kept : List ℕ) (i k : ℕ) (x : ℤ) (lits lits' : List ℤ) → AreKept t start seen kept i lits → k ≡ get_or kept i 0 → k < start → is_marked seen k ≡ true → x ≡ neg_ℤ (lit_at t k) → lits' ≡ lits ++ x ∷ [] → AreKept t start seen kept (i + 1) lits'
kept_more t start seen kept i k x lits lits' h is low on ex e = record {
  only = λ l has. elim (one_cases lits x l (subst (λ (c : List ℤ). IsTrue (has_lit c l)) e has)) [
    | inl a ↦ h.only l a
    | inr s ↦ record { place = k; below = low; there = sym (ap neg_ℤ (s ∙ ex) ∙ neg-neg (lit_at t k)); marked = on }
  ];
  all = λ j lt m. subst (λ (c : List ℤ). IsTrue (has_lit c (neg_ℤ (lit_at t (get_or kept j 0))))) (sym e) (elim (before_or_last j i lt) [
    | inl a ↦ has-append_left lits (x ∷ []) (neg_ℤ (lit_at t (get_or kept j 0))) (h.all j a m)
    | inr s ↦ subst (λ (y : ℤ). IsTrue (has_lit (lits ++ x ∷ []) y)) (ex ∙ ap (λ (n : ℕ). neg_ℤ (lit_at t n)) (is ∙ ap (λ (n : ℕ). get_or kept n 0) (sym s))) (has_one lits x)
  ]);
}

pub kept_skip : (t : List ℤ) (start : ℕ) (seen : List Bool) (kept : List ℕ) (i k : ℕ) (lits : List ℤ) → AreKept t start seen kept i lits → k ≡ get_or kept i 0 → is_marked seen k ≡ false → AreKept t start seen kept (i + 1) lits
kept_skip t start seen kept i k lits h is off = record {
  only = h.only;
  all = λ j lt m. elim (before_or_last j i lt) [
    | inl a ↦ h.all j a m
    | inr s ↦ absurd (let z : true ≡ false = sym m ∙ ap (λ (n : ℕ). is_marked seen (get_or kept n 0)) s ∙ ap (is_marked seen) (sym is) ∙ off in cc)
  ];
}

-- the kept literals, and that of the present level, are the end of the chain
pub record IsWhole (cs : List (List ℤ)) (t : TrailView) (start place : ℕ) (others : List ℤ) (x : ℤ) (used : List ℕ) : Type 0 where
  pub exact : IsExactEnd cs (record { clause = others ++ x ∷ []; used = used })
  pub last : FalseBy t.lits (length t.lits) x
  pub high : start ≤ last.place
  pub low : AllFalse t.lits start others

pub whole : (cs : List (List ℤ)) (t : TrailView) (start place : ℕ) (seen : List Bool) (kept used : List ℕ) (i : ℕ) (others : List ℤ) (x : ℤ) → IsSoundTrail t → HasMinimized cs t.lits start place seen kept used → AreKept t.lits start seen kept i others → length kept ≤ i → x ≡ neg_ℤ (lit_at t.lits place) → IsWhole cs t start place others x used
whole cs t start place seen kept used i others x s h a all_in ex = record {
  exact = record { end = h.end; is_end = h.is_end; named = h.named; same = λ l. same_truth (has_lit (others ++ x ∷ []) l) (has_lit h.end l) (to_end l) (from_end l) };
  last = record { place = place; below = h.within; within = h.within; there = sym (ap neg_ℤ ex ∙ neg-neg (lit_at t.lits place)) };
  high = h.high;
  low = record { are = λ l has. let m = a.only l has in record { place = m.place; below = m.below; within = omega (arith, h.marks.below m.place m.marked, h.marks.within); there = m.there } };
}
  where
    to_end : (l : ℤ) → IsTrue (has_lit (others ++ x ∷ []) l) → IsTrue (has_lit h.end l)
    to_end l has = elim (one_cases others x l has) [
      | inl k ↦ (let m = a.only l k in h.marks.all l (record { place = m.place; below = omega (arith, m.below, h.high); there = m.there; marked = m.marked }))
      | inr e ↦ h.marks.all l (record { place = place; below = omega arith; there = sym (ap neg_ℤ (e ∙ ex) ∙ neg-neg (lit_at t.lits place)); marked = h.marked })
    ]

    -- the negation of what stands at a place, from what stands there
    named_by : (l : ℤ) (k : ℕ) → lit_at t.lits k ≡ neg_ℤ l → neg_ℤ (lit_at t.lits k) ≡ l
    named_by l k e = ap neg_ℤ e ∙ neg-neg l

    kept_has : (l : ℤ) (k : ℕ) → lit_at t.lits k ≡ neg_ℤ l → is_marked seen k ≡ true → Contains kept k → IsTrue (has_lit others l)
    kept_has l k there on c =
        let at : get_or kept c.0 0 ≡ k = in_range kept c.0 k c.1 ∙ c.2 in
        subst (λ (y : ℤ). IsTrue (has_lit others y)) (ap (λ (n : ℕ). neg_ℤ (lit_at t.lits n)) at ∙ named_by l k there) (a.all c.0 (omega (arith, c.1, all_in)) (ap (is_marked seen) at ∙ on))
      where
        in_range : (ks : List ℕ) (j d : ℕ) → j < length ks → get_or ks j 0 ≡ get_or ks j d
        in_range [] j d lt = absurd (omega arith)
        in_range (y ∷ ks) zero d lt = refl
        in_range (y ∷ ks) (suc j) d lt = in_range ks j d (omega arith)

    by_level : (l : ℤ) → (m : MarkedBy t.lits seen (place + 1) l) → (m.place < start) ⊎ (start ≤ m.place) → IsTrue (has_lit (others ++ x ∷ []) l)
    by_level l m (inl low) = has-append_left others (x ∷ []) l (kept_has l m.place m.there m.marked (h.kept_all m.place low m.marked))
    by_level l m (inr high) =
        let at : m.place ≡ place = h.one m.place high m.marked in
        subst (λ (y : ℤ). IsTrue (has_lit (others ++ x ∷ []) y)) (ex ∙ ap (λ (n : ℕ). neg_ℤ (lit_at t.lits n)) (sym at) ∙ named_by l m.place m.there) (has_one others x)

    from_end : (l : ℤ) → IsTrue (has_lit h.end l) → IsTrue (has_lit (others ++ x ∷ []) l)
    from_end l has = let m = h.marks.only l has in by_level l m (cases_lt m.place start)

-- what the whole clause teaches
pub teaches : (cs : List (List ℤ)) (t : TrailView) (start place back : ℕ) (others c : List ℤ) (x : ℤ) (used : List ℕ) → IsSoundTrail t → 1 ≤ t.level → start ≡ count_to (t.level - 1) t.marks → IsWhole cs t start place others x used → back ≡ highest_of t others → c ≡ others ++ x ∷ [] → IsLearnt t c back
teaches cs t start place back others c x used s one e w b ec = record {
  lower = elim (highest_reached t others) [ inl none ↦ omega (arith, none, b, one) | inr h ↦ (let f = w.low.are h.lit h.has in omega (arith, h.level, b, level_before t start start h.lit s one e f f.below)) ];
  lit = x;
  has = subst (λ (d : List ℤ). IsTrue (has_lit d x)) (sym ec) (has_one others x);
  present = subst (StandsAt t (neg_ℤ x)) (level_after t start (length t.lits) x s one e w.last w.high) (stands_at_level t (length t.lits) x s w.last);
  others = λ l h n. elim (one_cases others x l (subst (λ (d : List ℤ). IsTrue (has_lit d l)) ec h)) [
    | inl k ↦ (level_by t l, omega (arith, highest_has t others l k, b), stands_at_level t start l s (w.low.are l k))
    | inr at ↦ absurd (n at)
  ];
  reached = elim (highest_reached t others) [ inl none ↦ inl (b ∙ none) | inr h ↦ inr (h.lit, there h.lit h.has, apart h.lit h.has, subst (StandsAt t (neg_ℤ h.lit)) (h.level ∙ sym b) (stands_at_level t start h.lit s (w.low.are h.lit h.has))) ];
}
  where
    there : (l : ℤ) → IsTrue (has_lit others l) → IsTrue (has_lit c l)
    there l h = subst (λ (d : List ℤ). IsTrue (has_lit d l)) (sym ec) (has-append_left others (x ∷ []) l h)

    apart : (l : ℤ) → IsTrue (has_lit others l) → l ≢ x
    apart l h at =
        let f = w.low.are l h in
        omega (arith, w.high, f.below, one_place t.lits f.place w.last.place s.partial f.within w.last.within (ap var_of (f.there ∙ ap neg_ℤ at ∙ sym w.last.there)))

-- a learned clause is false
pub learnt_false : (t : TrailView) (c : List ℤ) (back : ℕ) → IsLearnt t c back → (l : ℤ) → IsTrue (has_lit c l) → FalseBy t.lits (length t.lits) l
learnt_false t c back a l h = by_lit (cases_Bool (int_eq l a.lit))
  where
    stands : (level : ℕ) → StandsAt t (neg_ℤ l) level → FalseBy t.lits (length t.lits) l
    stands level w = record { place = w.place; below = w.within; within = w.within; there = w.there }

    by_lit : (int_eq l a.lit ≡ true) ⊎ (int_eq l a.lit ≡ false) → FalseBy t.lits (length t.lits) l
    by_lit (inl e) = let w = a.present in record { place = w.place; below = w.within; within = w.within; there = w.there ∙ ap neg_ℤ (sym (same_lit l a.lit e)) }
    by_lit (inr e) = let o = a.others l h (λ at. true_false (int_eq l a.lit) ((Decides-int_eq l a.lit).1 at) e) in stands o.0 o.2

-- a clause whose literals are all false on a trail names variables of the problem
pub false_vars : (p : Instance) (t : TrailView) (c : List ℤ) → IsSoundTrail t → t.vars ≡ p.vars → ((l : ℤ) → IsTrue (has_lit c l) → FalseBy t.lits (length t.lits) l) → IsTrue (names_vars p c)
false_vars p t c s ev are_false = from_each (λ l. nat_le 1 (var_of l) && nat_le (var_of l) p.vars) c (λ l h.
    let v = is_var_false t (length t.lits) l s (are_false l h) in
    and_from (nat_le 1 (var_of l)) (nat_le (var_of l) p.vars) (le-leb 1 (var_of l) v.0) (le-leb (var_of l) p.vars (omega (arith, v.1, ev))))

-- ---- the marks are taken away

pub left_start : (seen : List Bool) (kept : List ℕ) (place : ℕ) → AreLeft seen (set seen place false) kept place 0
left_start seen kept place = record { stays = λ k on. (unmarked seen place k on).1; gone = λ k on. (unmarked seen place k on).0; gone_kept = λ j lt. absurd (omega arith) }

pub left_more : (seen now : List Bool) (kept : List ℕ) (place i k : ℕ) → k ≡ get_or kept i 0 → AreLeft seen now kept place i → AreLeft seen (set now k false) kept place (i + 1)
left_more seen now kept place i k is h = record {
  stays = λ j on. h.stays j (unmarked now k j on).1;
  gone = λ j on. h.gone j (unmarked now k j on).1;
  gone_kept = λ j lt. false_from_ne_true (is_marked (set now k false) (get_or kept j 0)) (λ on. elim (before_or_last j i lt) [
    | inl a ↦ (let z : true ≡ false = sym (unmarked now k (get_or kept j 0) on).1 ∙ h.gone_kept j a in cc)
    | inr s ↦ (unmarked now k (get_or kept j 0) on).0 (ap (λ (n : ℕ). get_or kept n 0) s ∙ sym is)
  ]);
}

pub all_gone : (cs : List (List ℤ)) (t : List ℤ) (start place : ℕ) (seen now : List Bool) (kept used : List ℕ) (i : ℕ) → HasMinimized cs t start place seen kept used → AreLeft seen now kept place i → length kept ≤ i → IsUnseen now
all_gone cs t start place seen now kept used i h a le = record { unmarked = λ k. false_from_ne_true (is_marked now k) (λ on. by_level k on (cases_lt k start)) }
  where
    in_range : (ks : List ℕ) (j d : ℕ) → j < length ks → get_or ks j 0 ≡ get_or ks j d
    in_range [] j d lt = absurd (omega arith)
    in_range (y ∷ ks) zero d lt = refl
    in_range (y ∷ ks) (suc j) d lt = in_range ks j d (omega arith)

    by_level : (k : ℕ) → is_marked now k ≡ true → (k < start) ⊎ (start ≤ k) → ⊥
    by_level k on (inr high) = a.gone k on (h.one k high (a.stays k on))
    by_level k on (inl low) =
        let c = h.kept_all k low (a.stays k on) in
        let at : get_or kept c.0 0 ≡ k = in_range kept c.0 k c.1 ∙ c.2 in
        let z : true ≡ false = sym on ∙ ap (is_marked now) (sym at) ∙ a.gone_kept c.0 (omega (arith, c.1, le)) in
        cc

-- ---- the end of an analysis

pub below_trail : (cs : List (List ℤ)) (t : List ℤ) (start last : ℕ) (m : Resolvent) (used : List ℕ) → IsAtLast cs t start last m used → (k : ℕ) → Contains m.kept.items k → k < length t
below_trail cs t start last m used a k h = omega (arith, a.come.resolvent.kept_only k h, a.high, a.within)

pub others_are_false : (cs : List (List ℤ)) (t : List ℤ) (start last : ℕ) (seen : List Bool) (kept used : List ℕ) (i : ℕ) (lits : List ℤ) → HasMinimized cs t start last seen kept used → AreKept t start seen kept i lits → AllFalse t (length t) lits
others_are_false cs t start last seen kept used i lits h a = record { are = λ l has. marked_false t seen (last + 1) start h.end l h.marks (a.only l has) }

-- ---- nothing more can be dropped

-- marks that are taken away leave a literal that isn't in the clause
pub kept_for_fewer : (cs : List (List ℤ)) (t : TrailView) (old new : List Bool) (k : ℕ) → ((j : ℕ) → is_marked new j ≡ true → is_marked old j ≡ true) → IsKeptFor cs t old k → IsKeptFor cs t new k
kept_for_fewer cs t old new k fewer h = record {
  why = λ n r on e is.
      let u = h.why n r (fewer k on) e is in
      record { lit = u.lit; has = u.has; open_by = record { by = u.open_by.by; off = false_from_ne_true (is_marked new u.open_by.by.place) (λ m. true_false (is_marked old u.open_by.by.place) (fewer u.open_by.by.place m) u.open_by.off) } };
}

pub kept_for_other : (cs : List (List ℤ)) (t : TrailView) (seen : List Bool) (k : ℕ) → ((n : ℕ) → reason_at t.marks k ≡ Clause n → ⊥) → IsKeptFor cs t seen k
kept_for_other cs t seen k none = record { why = λ n r on e is. absurd (none n e) }

pub kept_for_uncovered : (cs : List (List ℤ)) (t : TrailView) (seen : List Bool) (k n : ℕ) (r : List ℤ) → reason_at t.marks k ≡ Clause n → numbered cs n ≡ Some r → IsUncovered t.lits seen (without r (lit_at t.lits k)) → IsKeptFor cs t seen k
kept_for_uncovered cs t seen k n r e is u = record {
  why = λ m q on f js.
      let same : n ≡ m = (let g : Clause n ≡ Clause m = sym e ∙ f in cc) in
      let at : r ≡ q = same_Some r q (sym is ∙ ap (numbered cs) same ∙ js) in
      subst (λ (c : List ℤ). IsUncovered t.lits seen (without c (lit_at t.lits k))) at u;
}

pub minimal_is : (cs : List (List ℤ)) (t : TrailView) (start last : ℕ) (seen : List Bool) (kept used : List ℕ) (c : List ℤ) → IsSoundTrail t → 1 ≤ t.level → start ≡ count_to (t.level - 1) t.marks → (h : HasMinimized cs t.lits start last seen kept used) → (e : IsExactEnd cs (record { clause = c; used = used }))
    → ((j : ℕ) → j < length kept → IsKeptFor cs t seen (get_or kept j 0)) → IsMinimal cs t c
minimal_is cs t start last seen kept used c s one es h e needed = record { at = λ k n r lt low has why is. at k n r lt low has why is }
  where
    in_range : (ks : List ℕ) (j d : ℕ) → j < length ks → get_or ks j 0 ≡ get_or ks j d
    in_range [] j d lt = absurd (omega arith)
    in_range (y ∷ ks) zero d lt = refl
    in_range (y ∷ ks) (suc j) d lt = in_range ks j d (omega arith)

    same : e.end ≡ h.end
    same = same_Some e.end h.end (sym e.is_end ∙ h.is_end)

    marked_at : (l : ℤ) (k : ℕ) → k < length t.lits → lit_at t.lits k ≡ neg_ℤ l → IsTrue (has_lit c l) → is_marked seen k ≡ true
    marked_at l k lt there has =
        let m = h.marks.only l (subst (λ (d : List ℤ). IsTrue (has_lit d l)) same (sym (e.same l) ∙ has)) in
        let at : m.place ≡ k = one_place t.lits m.place k s.partial (omega (arith, m.below, h.marks.within)) lt (ap var_of (m.there ∙ sym there)) in
        subst (λ (j : ℕ). is_marked seen j ≡ true) at m.marked

    below_start : (k : ℕ) → k < length t.lits → level_at t.marks k < t.level → (k < start) ⊎ (start ≤ k) → k < start
    below_start k lt low (inl a) = a
    below_start k lt low (inr b) = absurd (omega (arith, low, level_high 0 t.marks t.level k s.climbs one (omega (arith, b, es)) (omega (arith, lt, s.as_many))))

    at : (k n : ℕ) (r : List ℤ) → k < length t.lits → level_at t.marks k < t.level → IsTrue (has_lit c (neg_ℤ (lit_at t.lits k))) → reason_at t.marks k ≡ Clause n → numbered cs n ≡ Some r → within (without r (lit_at t.lits k)) c ≡ false
    at k n r lt low has why is =
        let on : is_marked seen k ≡ true = marked_at (neg_ℤ (lit_at t.lits k)) k lt (sym (neg-neg (lit_at t.lits k))) has in
        let held = h.kept_all k (below_start k lt low (cases_lt k start)) on in
        let found : get_or kept held.0 0 ≡ k = in_range kept held.0 k held.1 ∙ held.2 in
        let u = (subst (IsKeptFor cs t seen) found (needed held.0 held.1)).why n r on why is in
        false_from_ne_true (within (without r (lit_at t.lits k)) c) (λ all.
        true_false (is_marked seen u.open_by.by.place) (marked_at u.lit u.open_by.by.place u.open_by.by.within u.open_by.by.there (at_each (has_lit c) (without r (lit_at t.lits k)) all u.lit u.has)) u.open_by.off)

-- what is finished
pub finished : (cs : List (List ℤ)) (t : TrailView) (last back : ℕ) (seen : List Bool) (kept used : List ℕ) (others c : List ℤ) (x : ℤ) → IsSoundTrail t → 1 ≤ t.level → (h : HasMinimized cs t.lits (count_to (t.level - 1) t.marks) last seen kept used) → AreKept t.lits (count_to (t.level - 1) t.marks) seen kept (length kept) others
    → ((j : ℕ) → j < length kept → IsKeptFor cs t seen (get_or kept j 0)) → back ≡ highest_of t others → x ≡ neg_ℤ (lit_at t.lits last) → c ≡ others ++ x ∷ [] → IsDerived cs t c used back
finished cs t last back seen kept used others c x s one h a needed eb ex ec =
    let start : ℕ = count_to (t.level - 1) t.marks in
    let w : IsWhole cs t start last others x used = whole cs t start last seen kept used (length kept) others x s h a (omega arith) ex in
    let exact : IsExactEnd cs (record { clause = c; used = used }) = subst (λ (d : List ℤ). IsExactEnd cs (record { clause = d; used = used })) (sym ec) w.exact in
    record {
      learnt = teaches cs t start last back others c x used s one refl w eb ec;
      exact = exact;
      minimal = minimal_is cs t start last seen kept used c s one refl h exact needed;
    }
