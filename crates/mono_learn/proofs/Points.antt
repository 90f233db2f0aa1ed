-- The walk back to the first unique implication point, and the clause that is left of it.
use Rattle.std.proofs.Common.{◌≡◌, ◌≢◌, ℕ, zero, suc, ◌+◌, ◌-◌, ◌<◌, ◌≤◌, Bool, true, false, List, [], ◌∷◌, ◌++◌, length, get_or, map, set, refl, sym, ap, subst, ◌∙◌, ◌⊎◌, inl, inr, ℤ, neg_ℤ, arith}
use Rattle.std.specs.Prelude.{IsTrue, Some}
use Rattle.std.proofs.lemmas.Bool.{cases_Bool, cases_lt}
use Rattle.std.proofs.lemmas.Option.{same_Some}
use Rattle.std.proofs.lemmas.List.Sorted.{IsPermutation-refl}
use Rattle.mono_base.specs.Literal.{var_of, has_lit, without, lit_at}
use Rattle.mono_base.proofs.Partials.{neg-neg}
use Rattle.mono_base.proofs.Truth.{at_each, from_each}
use Rattle.mono_problem.specs.Instance.{Instance, numbered}
use Rattle.mono_steps.specs.declared.step.Chain.{Chain}
use Rattle.mono_steps.specs.declared.step.Step.{Step}
use Rattle.mono_steps.specs.declared.step.Step.TheVariants as step
use Rattle.mono_steps.specs.Chains.{chain_end}
use Rattle.mono_steps.specs.ChainSteps.{clauses_named, names_clauses}
use Rattle.mono_steps.specs.Journals.{lemma_steps}
use Rattle.mono_steps.specs.New.{IsExactEnd}
use Rattle.mono_steps.specs.Steps.{clause_of, clauses_after}
use Rattle.mono_steps.proofs.StepLists.{numbered_more}
use Rattle.mono_trail.specs.declared.reason.Reason.TheVariants.{Clause}
use Rattle.mono_trail.specs.Places.{level_at, reason_at}
use Rattle.mono_trail.specs.Seen.{is_marked}
use Rattle.mono_trail.specs.TrailView.{TrailView, IsSoundTrail, StandsAt, count_to}
use Rattle.mono_trail.proofs.Levels.{kept_low}
use Rattle.mono_learn.specs.declared.resolvent.Resolvent.{Resolvent}
use Rattle.mono_learn.specs.Asked.{AsksFor, AddsChains}
use Rattle.mono_learn.specs.FirstPoint.{HasTwoPresent, HasOnePresent, StepsBack, ResolvesBack, LeadsTo, HasResolved, GoesOnWith, IsRedundant, IsMinimized, IsTaught}
use Rattle.mono_learn.specs.Levels.{level_by}
use Rattle.mono_learn.specs.Reasons.{IsFalseClause, HasReasons}
use Rattle.mono_learn.specs.Resolvents.{AllFalse, MarkedBy}
use Rattle.mono_learn.specs.Settled.{Settles}
use Rattle.mono_learn.specs.Minimizing.{IsRedundantAt, AreDropped}
use Rattle.mono_learn.specs.Resolving.{HasCome, IsAtLast, HasMinimized}
use Rattle.mono_learn.proofs.Asking.{clauses_asked, come_asked, named_more, was_unit}
use Rattle.mono_learn.proofs.ChainEnds.{named-push}
use Rattle.mono_learn.proofs.Learning.{clauses_grown}
use Rattle.mono_learn.proofs.LevelsByPlace.{level_before, level_high}
use Rattle.mono_learn.proofs.LitSets.{true_false}
use Rattle.mono_learn.proofs.Marking.{mark_less, has_mark, unmarked}
use Rattle.mono_learn.proofs.PlacesOfLits.{one_place, is_number}
use Rattle.mono_learn.proofs.Settling.{settles_none, clause_after}
use Rattle.mono_learn.proofs.MinimizingSteps.{minimized_start}
use Rattle.mono_learn.proofs.ResolvingSteps.{start_below}

-- ---- one step further

resolves_further : (cs : List (List ℤ)) (t : TrailView) (c : List ℤ) (ns : List ℕ) (e : List ℤ) (n : ℕ) (f : List ℤ) → ResolvesBack cs t c ns e → StepsBack cs t e n f → ResolvesBack cs t c (ns ++ n ∷ []) f
resolves_further cs t c [] e n f w s = (f, subst (λ (x : List ℤ). StepsBack cs t x n f) w s, refl)
resolves_further cs t c (m ∷ ns) e n f w s = (w.0, w.1, resolves_further cs t w.0 ns e n f w.2 s)

pub leads_none : (cs : List (List ℤ)) (t : TrailView) (n : ℕ) (used : List ℕ) → IsFalseClause cs t.lits n → used ≡ n ∷ [] → HasResolved cs t n used
leads_none cs t n used w eu = record {
  at = λ e h.
      let k : chain_end (clauses_named cs used) ≡ Some w.clause = rw (eu, w.is) refl in
      record { clause = w.clause; is = w.is; reasons = []; resolutions = same_Some e w.clause (sym h ∙ k) };
}

-- the clause that the marks stand for has two literals of the present level
two_present : (cs : List (List ℤ)) (t : TrailView) (start p : ℕ) (m : Resolvent) (used : List ℕ) → IsSoundTrail t → 1 ≤ t.level → start ≡ count_to (t.level - 1) t.marks → (h : HasCome cs t.lits start (p + 1) m used) → is_marked m.seen.items p ≡ true → 2 ≤ m.count → HasTwoPresent t h.end
two_present cs t start p m used s one es h on two =
    let high : start ≤ p = omega (arith, start_below cs t.lits start (p + 1) m used h (omega (arith, two))) in
    let k = has_mark start (set m.seen.items p false) (omega (arith, h.resolvent.counted, two, mark_less start p m.seen.items high on)) in
    let u = unmarked m.seen.items p k.place k.marked in
    record {
      one = neg_ℤ (lit_at t.lits p);
      other = neg_ℤ (lit_at t.lits k.place);
      differ = λ e. u.0 (one_place t.lits k.place p s.partial (in_list k.place u.1) (in_list p on) (ap var_of (sym (neg-neg (lit_at t.lits k.place)) ∙ ap neg_ℤ (sym e) ∙ neg-neg (lit_at t.lits p))));
      has_one = has p on;
      has_other = has k.place u.1;
      at_one = stands p on high;
      at_other = stands k.place u.1 k.from;
    }
  where
    in_list : (k : ℕ) → is_marked m.seen.items k ≡ true → k < length t.lits
    in_list k there = omega (arith, h.resolvent.marks.below k there, h.resolvent.marks.within)

    has : (k : ℕ) → is_marked m.seen.items k ≡ true → IsTrue (has_lit h.end (neg_ℤ (lit_at t.lits k)))
    has k there = h.resolvent.marks.all (neg_ℤ (lit_at t.lits k)) (record { place = k; below = h.resolvent.marks.below k there; there = sym (neg-neg (lit_at t.lits k)); marked = there })

    stands : (k : ℕ) → is_marked m.seen.items k ≡ true → start ≤ k → StandsAt t (neg_ℤ (neg_ℤ (lit_at t.lits k))) t.level
    stands k there from = record {
      place = k;
      within = in_list k there;
      there = sym (neg-neg (lit_at t.lits k));
      at = level_high 0 t.marks t.level k s.climbs one (omega (arith, from, es)) (omega (arith, in_list k there, s.as_many));
    }

-- the walk goes on with the reason of the literal at the last marked place
leads_one : (cs : List (List ℤ)) (t : TrailView) (start p conflict : ℕ) (m : Resolvent) (used used' : List ℕ) → IsSoundTrail t → 1 ≤ t.level → start ≡ count_to (t.level - 1) t.marks → HasCome cs t.lits start (p + 1) m used → is_marked m.seen.items p ≡ true → 2 ≤ m.count → HasResolved cs t conflict used → GoesOnWith cs t p used used' → HasResolved cs t conflict used'
leads_one cs t start p conflict m used used' s one es h on two w g = record {
  at = λ e k.
      let before = w.at h.end h.is_end in
      record {
        clause = before.clause;
        is = before.is;
        reasons = before.reasons ++ g.number ∷ [];
        resolutions = resolves_further cs t before.clause before.reasons h.end g.number e before.resolutions (record {
          two = two_present cs t start p m used s one es h on two;
          place = p;
          on_trail = omega (arith, h.resolvent.marks.below p on, h.resolvent.marks.within);
          has = h.resolvent.marks.all (neg_ℤ (lit_at t.lits p)) (record { place = p; below = omega arith; there = sym (neg-neg (lit_at t.lits p)); marked = on });
          last = record { are = λ l q. let x = h.resolvent.marks.only l q in record { place = x.place; below = x.below; within = omega (arith, x.below, h.resolvent.marks.within); there = x.there } };
          why = g.why;
          reason = g.reason;
          is = g.is;
          resolved = sym (named-push cs used g.number h.end g.reason g.is h.is_end) ∙ ap (λ (ns : List ℕ). chain_end (clauses_named cs ns)) (sym g.pushed) ∙ k;
        });
      };
}

-- ---- more clauses, and settled reasons

stands_after : (cs : List (List ℤ)) (t u : TrailView) (l : ℤ) → Settles cs t u → StandsAt t l t.level → StandsAt u l u.level
stands_after cs t u l s w = record {
  place = w.place;
  within = subst (λ (ls : List ℤ). w.place < length ls) (sym s.lits) w.within;
  there = subst (λ (ls : List ℤ). lit_at ls w.place ≡ l) (sym s.lits) w.there;
  at = s.levels w.place ∙ w.at ∙ sym s.level;
}

step_after : (ds cs more : List (List ℤ)) (t u : TrailView) (c : List ℤ) (n : ℕ) (e : List ℤ) → Settles ds t u → StepsBack cs t c n e → StepsBack (cs ++ more) u c n e
step_after ds cs more t u c n e s b = record {
  two = record {
    one = b.two.one;
    other = b.two.other;
    differ = b.two.differ;
    has_one = b.two.has_one;
    has_other = b.two.has_other;
    at_one = stands_after ds t u (neg_ℤ b.two.one) s b.two.at_one;
    at_other = stands_after ds t u (neg_ℤ b.two.other) s b.two.at_other;
  };
  place = b.place;
  on_trail = subst (λ (ls : List ℤ). b.place < length ls) (sym s.lits) b.on_trail;
  has = subst (λ (ls : List ℤ). IsTrue (has_lit c (neg_ℤ (lit_at ls b.place)))) (sym s.lits) b.has;
  last = subst (λ (ls : List ℤ). AllFalse ls (b.place + 1) c) (sym s.lits) b.last;
  why = clause_after ds t u b.place s b.on_trail n b.why;
  reason = b.reason;
  is = numbered_more cs more n (is_number cs n b.reason b.is).high ∙ b.is;
  resolved = b.resolved;
}

resolves_after : (ds cs more : List (List ℤ)) (t u : TrailView) (c : List ℤ) (ns : List ℕ) (e : List ℤ) → Settles ds t u → ResolvesBack cs t c ns e → ResolvesBack (cs ++ more) u c ns e
resolves_after ds cs more t u c [] e s w = w
resolves_after ds cs more t u c (n ∷ ns) e s w = (w.0, step_after ds cs more t u c n w.0 s w.1, resolves_after ds cs more t u w.0 ns e s w.2)

leads_after : (ds cs more : List (List ℤ)) (t u : TrailView) (conflict : ℕ) (e : List ℤ) → Settles ds t u → LeadsTo cs t conflict e → LeadsTo (cs ++ more) u conflict e
leads_after ds cs more t u conflict e s w = record { clause = w.clause; is = numbered_more cs more conflict (is_number cs conflict w.clause w.is).high ∙ w.is; reasons = w.reasons; resolutions = resolves_after ds cs more t u w.clause w.reasons e s w.resolutions }

leads_asked : (p : Instance) (t0 t : TrailView) (j0 j : List Step) (conflict : ℕ) (used : List ℕ) → AsksFor p t0 j0 t j → IsTrue (names_clauses (clauses_after p j0) used) → HasResolved (clauses_after p j0) t0 conflict used → HasResolved (clauses_after p j) t conflict used
leads_asked p t0 t j0 j conflict used a named w =
    let more : List (List ℤ) = map clause_of (lemma_steps a.lemmas) in
    subst (λ (cs : List (List ℤ)). HasResolved cs t conflict used) (sym (clauses_asked p t0 t j0 j a)) (record {
      at = λ e h. leads_after (clauses_after p j) (clauses_after p j0) more t0 t conflict e a.settles (w.at e (ap chain_end (sym (named_more (clauses_after p j0) more used named)) ∙ h));
    })

-- one step of the walk, with the lemmas that it asks for
pub leads_more : (p : Instance) (t0 t : TrailView) (j0 j : List Step) (start place conflict : ℕ) (m : Resolvent) (used used' : List ℕ) → IsSoundTrail t → 1 ≤ t.level → start ≡ count_to (t.level - 1) t.marks → AsksFor p t0 j0 t j → HasCome (clauses_after p j0) t0.lits start (place + 1) m used → is_marked m.seen.items place ≡ true → 2 ≤ m.count
    → HasResolved (clauses_after p j0) t0 conflict used → GoesOnWith (clauses_after p j) t place used used' → HasResolved (clauses_after p j) t conflict used'
leads_more p t0 t j0 j start place conflict m used used' s one es a h on two w g =
    leads_one (clauses_after p j) t start place conflict m used used' s one es (come_asked p t0 t j0 j start (place + 1) m used a h) on two (leads_asked p t0 t j0 j conflict used a h.named w) g

-- ---- the clause that is left

-- the clause of the first unique implication point
point : (cs : List (List ℤ)) (t : TrailView) (start last : ℕ) (m : Resolvent) (used : List ℕ) → IsSoundTrail t → 1 ≤ t.level → start ≡ count_to (t.level - 1) t.marks → (a : IsAtLast cs t.lits start last m used) → HasOnePresent t a.come.end
point cs t start last m used s one es a = record {
  lit = neg_ℤ (lit_at t.lits last);
  has = a.come.resolvent.marks.all (neg_ℤ (lit_at t.lits last)) (record { place = last; below = omega arith; there = sym (neg-neg (lit_at t.lits last)); marked = a.marked });
  present = record { place = last; within = a.within; there = sym (neg-neg (lit_at t.lits last)); at = level_high 0 t.marks t.level last s.climbs one (omega (arith, a.high, es)) (omega (arith, a.within, s.as_many)) };
  others = λ l h n. let w = a.come.resolvent.marks.only l h in lower l w n (cases_lt w.place start);
}
  where
    only : HasMinimized cs t.lits start last m.seen.items m.kept.items used
    only = minimized_start cs t.lits start last m m.kept.items used a (IsPermutation-refl m.kept.items)

    lower : (l : ℤ) → (w : MarkedBy t.lits m.seen.items (last + 1) l) → l ≢ neg_ℤ (lit_at t.lits last) → (w.place < start) ⊎ (start ≤ w.place) → level_by t l < t.level
    lower l w n (inl low) = level_before t start (last + 1) l s one es (record { place = w.place; below = w.below; within = omega (arith, w.below, a.within); there = w.there }) low
    lower l w n (inr high) = absurd (n (sym (neg-neg l) ∙ ap neg_ℤ (sym w.there ∙ ap (lit_at t.lits) (only.one w.place high w.marked))))

in_range : (ks : List ℕ) (j d : ℕ) → j < length ks → get_or ks j 0 ≡ get_or ks j d
in_range [] j d lt = absurd (omega arith)
in_range (y ∷ ks) zero d lt = refl
in_range (y ∷ ks) (suc j) d lt = in_range ks j d (omega arith)

-- it without its redundant literals
minimized : (cs : List (List ℤ)) (t : TrailView) (start last : ℕ) (m : Resolvent) (seen : List Bool) (kept used used' : List ℕ) (c : List ℤ) → IsSoundTrail t → 1 ≤ t.level → start ≡ count_to (t.level - 1) t.marks → (a : IsAtLast cs t.lits start last m used) → HasMinimized cs t.lits start last seen kept used' → IsExactEnd cs (record { clause = c; used = used' })
    → AreDropped cs t m.seen.items seen kept 0 → IsMinimized cs t a.come.end c
minimized cs t start last m seen kept used used' c s one es a h x d = record {
  part = from_each (has_lit a.come.end) c (λ l has. let w = to_new l has in a.come.resolvent.marks.all l (record { place = w.place; below = w.below; there = w.there; marked = d.fewer w.place w.marked }));
  stays = λ k lt has r. stays k lt has r;
  goes = λ k lt has off. goes k lt has off (cases_Bool (is_marked seen k));
}
  where
    only : HasMinimized cs t.lits start last m.seen.items m.kept.items used
    only = minimized_start cs t.lits start last m m.kept.items used a (IsPermutation-refl m.kept.items)

    same : x.end ≡ h.end
    same = same_Some x.end h.end (sym x.is_end ∙ h.is_end)

    to_new : (l : ℤ) → IsTrue (has_lit c l) → MarkedBy t.lits seen (last + 1) l
    to_new l has = h.marks.only l (subst (λ (e : List ℤ). IsTrue (has_lit e l)) same (sym (x.same l) ∙ has))

    from_new : (l : ℤ) → MarkedBy t.lits seen (last + 1) l → IsTrue (has_lit c l)
    from_new l w = x.same l ∙ subst (λ (e : List ℤ). IsTrue (has_lit e l)) (sym same) (h.marks.all l w)

    -- the place of a marked literal's negation
    found : (bs : List Bool) (k : ℕ) → k < length t.lits → MarkedBy t.lits bs (last + 1) (neg_ℤ (lit_at t.lits k)) → is_marked bs k ≡ true
    found bs k lt w =
        let at : w.place ≡ k = one_place t.lits w.place k s.partial (omega (arith, w.below, a.within)) lt (ap var_of (w.there ∙ neg-neg (lit_at t.lits k))) in
        subst (λ (j : ℕ). is_marked bs j ≡ true) at w.marked

    low_place : (k : ℕ) → k < length t.lits → level_at t.marks k < t.level → (k < start) ⊎ (start ≤ k) → k < start
    low_place k lt low (inl b) = b
    low_place k lt low (inr b) = absurd (omega (arith, low, level_high 0 t.marks t.level k s.climbs one (omega (arith, b, es)) (omega (arith, lt, s.as_many))))

    stays : (k : ℕ) → k < length t.lits → IsTrue (has_lit c (neg_ℤ (lit_at t.lits k))) → IsRedundant cs t a.come.end k → ⊥
    stays k lt has r =
        let on : is_marked seen k ≡ true = found seen k lt (to_new (neg_ℤ (lit_at t.lits k)) has) in
        let held = h.kept_all k (low_place k lt r.lower (cases_lt k start)) on in
        let at : get_or kept held.0 0 ≡ k = in_range kept held.0 k held.1 ∙ held.2 in
        let redundant : IsRedundantAt cs t m.seen.items k = record {
          number = r.number;
          reason = r.reason;
          why = r.why;
          is = r.is;
          covered = record { by = λ y q. let w = a.come.resolvent.marks.only y (at_each (has_lit a.come.end) (without r.reason (lit_at t.lits k)) r.others y q) in record { place = w.place; below = omega (arith, w.below, a.within); there = w.there; marked = w.marked } };
        } in
        d.left held.0 (omega arith) held.1 (ap (is_marked seen) at ∙ on) (subst (IsRedundantAt cs t m.seen.items) (sym at) redundant)

    goes : (k : ℕ) → k < length t.lits → IsTrue (has_lit a.come.end (neg_ℤ (lit_at t.lits k))) → has_lit c (neg_ℤ (lit_at t.lits k)) ≡ false → (is_marked seen k ≡ true) ⊎ (is_marked seen k ≡ false) → IsRedundant cs t a.come.end k
    goes k lt has off (inl on) = absurd (true_false (has_lit c (neg_ℤ (lit_at t.lits k))) (from_new (neg_ℤ (lit_at t.lits k)) (record { place = k; below = h.marks.below k on; there = sym (neg-neg (lit_at t.lits k)); marked = on })) off)
    goes k lt has off (inr fell) =
        let on : is_marked m.seen.items k ≡ true = found m.seen.items k lt (a.come.resolvent.marks.only (neg_ℤ (lit_at t.lits k)) has) in
        let r = d.gone k on fell in
        record {
          lower = lower k on fell (cases_lt k start);
          number = r.number;
          why = r.why;
          reason = r.reason;
          is = r.is;
          others = from_each (has_lit a.come.end) (without r.reason (lit_at t.lits k)) (λ y q. let w = r.covered.by y q in a.come.resolvent.marks.all y (record { place = w.place; below = a.come.resolvent.marks.below w.place w.marked; there = w.there; marked = w.marked }));
        }
      where
        lower : (j : ℕ) → is_marked m.seen.items j ≡ true → is_marked seen j ≡ false → (j < start) ⊎ (start ≤ j) → level_at t.marks j < t.level
        lower j stood gone (inl low) = omega (arith, kept_low (t.level - 1) t.marks j (omega (arith, low, es)), one)
        lower j stood gone (inr high) = absurd (true_false (is_marked seen last) h.marked (subst (λ (q : ℕ). is_marked seen q ≡ false) (only.one j high stood) gone))

pub taught : (cs : List (List ℤ)) (t : TrailView) (last conflict : ℕ) (m : Resolvent) (seen : List Bool) (kept used used' : List ℕ) (c : List ℤ) → IsSoundTrail t → 1 ≤ t.level → IsAtLast cs t.lits (count_to (t.level - 1) t.marks) last m used → HasMinimized cs t.lits (count_to (t.level - 1) t.marks) last seen kept used' → IsExactEnd cs (record { clause = c; used = used' })
    → AreDropped cs t m.seen.items seen kept 0 → HasResolved cs t conflict used → IsTaught cs t conflict c
taught cs t last conflict m seen kept used used' c s one a h x d w = record {
  whole = a.come.end;
  leads = w.at a.come.end a.come.is_end;
  point = point cs t (count_to (t.level - 1) t.marks) last m used s one refl a;
  minimized = minimized cs t (count_to (t.level - 1) t.marks) last m seen kept used used' c s one refl a h x d;
}

-- the chain itself joins the journal
pub taught_grown : (p : Instance) (j j' : List Step) (shown : ℕ → List ℤ) (t : TrailView) (conflict : ℕ) (c d : List ℤ) → HasReasons p (clauses_after p j) shown t → AddsChains j j' → d ≡ c → IsTaught (clauses_after p j) t conflict c → IsTaught (clauses_after p j') t conflict d
taught_grown p j j' shown t conflict c d reasons g e w = subst (IsTaught (clauses_after p j') t conflict) (sym e) (subst (λ (cs : List (List ℤ)). IsTaught cs t conflict c) (sym (clauses_grown p j j' g)) (record {
  whole = w.whole;
  leads = leads_after [] (clauses_after p j) more t t conflict w.whole (settles_none [] t) w.leads;
  point = w.point;
  minimized = record {
    part = w.minimized.part;
    stays = λ k lt has r. w.minimized.stays k lt has (record { lower = r.lower; number = r.number; why = r.why; reason = r.reason; is = sym (number_more k r.number lt r.why) ∙ r.is; others = r.others });
    goes = λ k lt has off. let r = w.minimized.goes k lt has off in record { lower = r.lower; number = r.number; why = r.why; reason = r.reason; is = number_more k r.number lt r.why ∙ r.is; others = r.others };
  };
}))
  where
    more : List (List ℤ)
    more = map clause_of (map (λ (q : Chain). step.Chain q) g.chains)

    number_more : (k n : ℕ) → k < length t.lits → reason_at t.marks k ≡ Clause n → numbered (clauses_after p j ++ map clause_of (map (λ (q : Chain). step.Chain q) g.chains)) n ≡ numbered (clauses_after p j) n
    number_more k n lt why =
        let u = was_unit p (clauses_after p j) shown t k n reasons lt why in
        numbered_more (clauses_after p j) (map clause_of (map (λ (q : Chain). step.Chain q) g.chains)) n (is_number (clauses_after p j) n u.clause u.is).high
