-- What each move of the trail keeps: reasons, and quiet below each decision.
use Rattle.std.proofs.Common.{◌≡◌, ℕ, suc, ◌+◌, ◌<◌, ◌≤◌, Bool, true, false, List, [], ◌∷◌, ◌++◌, take, drop, map, length, All, refl, sym, ap, subst, ◌∙◌, inl, inr, ◌⊎◌, ℤ, pos, arith, length-append, cond}
use Rattle.std.specs.Prelude.{IsTrue}
use Rattle.std.proofs.Math.ListN.{get_or-append}
use Rattle.std.proofs.Math.Seq.{get_or-append_seam, take-append_seam}
use Rattle.std.proofs.lemmas.List.{take-append-drop, take-append-le, take-take, get_or-take, length-take}
use Rattle.std.proofs.lemmas.List.Elements.{filter-append}
use Rattle.std.proofs.lemmas.Bool.{cases_lt}
use Rattle.mono_base.specs.Literal.{has_lit, var_of, lit_at}
use Rattle.mono_base.specs.Partial.{others_false}
use Rattle.mono_problem.specs.Instance.{Instance}
use Rattle.mono_trail.specs.declared.reason.Mark.{Mark}
use Rattle.mono_trail.specs.declared.reason.Reason.{Reason}
use Rattle.mono_trail.specs.declared.reason.Reason.TheVariants.{Decided, Clause, Late}
use Rattle.mono_trail.specs.TrailView.{TrailView}
use Rattle.mono_trail.specs.Places.{reason_at, no_mark}
use Rattle.mono_theory.specs.Theories.{Facts, owns_of, concerns_of}
use Rattle.mono_search.specs.TheoryLists.{concerning, with_seen, shown_of, seen_of, IsCurrent}
use Rattle.mono_learn.specs.Reasons.{WasUnit, WasForced, ReasonHolds, HasReasons}
use Rattle.mono_learn.specs.Settled.{SettledReason, Settles}
use Rattle.mono_learn.specs.Explain.{AtomForces}
use Rattle.mono_learn.proofs.Settling.{unit_more, decided_was}
use Rattle.mono_learn.proofs.ChainEnds.{filter_has}
use Rattle.mono_search.specs.Theories.{TheoriesView, HaveSeen, having_seen}
use Rattle.mono_search.specs.State.{WasLate, KeepsReason, KeepsReasons, QuietAt, QuietBelow}
use Rattle.mono_search.proofs.Lists.{has-take, within_by}

-- ---- one reason

unit-same : (cs : List (List ℤ)) (t u : List ℤ) (k n : ℕ) → lit_at u k ≡ lit_at t k → take k u ≡ take k t → WasUnit cs t k n → WasUnit cs u k n
unit-same cs t u k n a b w = record {
  clause = w.clause;
  is = w.is;
  has = subst (λ (l : ℤ). IsTrue (has_lit w.clause l)) (sym a) w.has;
  others = subst (λ (l : ℤ). IsTrue (others_false (take k u) w.clause l)) (sym a) (subst (λ (s : List ℤ). IsTrue (others_false s w.clause (lit_at t k))) (sym b) w.others);
}

late-same : (b : TheoriesView) (t u : List ℤ) (k n m : ℕ) → lit_at u k ≡ lit_at t k → take k u ≡ take k t → WasLate b t k n m → WasLate b u k n m
late-same b t u k n m at front w = record {
  handed = w.handed;
  some = subst (λ (s : List ℤ). m ≤ length (shown_of b.facts s n)) (sym front) w.some;
  forces = subst (λ (l : ℤ). AtomForces b.problem (take m (shown_of b.facts (take k u) n)) n l) (sym at) (subst (λ (s : List ℤ). AtomForces b.problem (take m (shown_of b.facts s n)) n (lit_at t k)) (sym front) w.forces);
}

reason-same : (b : TheoriesView) (cs : List (List ℤ)) (t u : List ℤ) (k : ℕ) (r : Reason) → lit_at u k ≡ lit_at t k → take k u ≡ take k t → KeepsReason b cs t k r → KeepsReason b cs u k r
reason-same b cs t u k Decided at front w = tt
reason-same b cs t u k (Clause n) at front w = unit-same cs t u k n at front w
reason-same b cs t u k (Late n m) at front w = late-same b t u k n m at front w

-- more clauses
reason-more : (b : TheoriesView) (cs ds : List (List ℤ)) (t : List ℤ) (k : ℕ) (r : Reason) → KeepsReason b cs t k r → KeepsReason b (cs ++ ds) t k r
reason-more b cs ds t k Decided w = tt
reason-more b cs ds t k (Clause n) w = unit_more cs ds t k n w
reason-more b cs ds t k (Late n m) w = w

pub reasons-more : (b : TheoriesView) (cs ds : List (List ℤ)) (lits : List ℤ) (marks : List Mark) → KeepsReasons b cs lits marks → KeepsReasons b (cs ++ ds) lits marks
reasons-more b cs ds lits marks r = record { at = λ k lt. reason-more b cs ds lits k (reason_at marks k) (r.at k lt) }

-- ---- a literal joins

-- what stands at a place of a list with one item more
pub push_cases : (n k : ℕ) → k < n + 1 → (k < n) ⊎ (k ≡ n)
push_cases n k lt = elim (cases_lt k n) [ inl low ↦ inl low | inr high ↦ inr (omega (arith, lt, high)) ]

pub reasons-joined : (b : TheoriesView) (cs : List (List ℤ)) (lits : List ℤ) (marks : List Mark) (l : ℤ) (m : Mark) → length marks ≡ length lits → KeepsReasons b cs lits marks → KeepsReason b cs (lits ++ l ∷ []) (length lits) m.reason
    → KeepsReasons b cs (lits ++ l ∷ []) (marks ++ m ∷ [])
reasons-joined b cs lits marks l m same r new = record { at = λ k lt. at k (push_cases (length lits) k (omega (arith, lt, length-append lits (l ∷ [])))) }
  where
    at : (k : ℕ) → (k < length lits) ⊎ (k ≡ length lits) → KeepsReason b cs (lits ++ l ∷ []) k (reason_at (marks ++ m ∷ []) k)
    at k (inl low) =
        let e : reason_at (marks ++ m ∷ []) k ≡ reason_at marks k = ap (λ (x : Mark). x.reason) (get_or-append marks (m ∷ []) no_mark k (omega (arith, low, same))) in
        subst (λ (x : Reason). KeepsReason b cs (lits ++ l ∷ []) k x) (sym e)
        (reason-same b cs lits (lits ++ l ∷ []) k (reason_at marks k) (get_or-append lits (l ∷ []) (pos 0) k low) (take-append-le k lits (l ∷ []) (omega (arith, low))) (r.at k low))
    at k (inr here) =
        let e : reason_at (marks ++ m ∷ []) (length lits) ≡ m.reason = ap (λ (n : ℕ). reason_at (marks ++ m ∷ []) n) (sym same) ∙ ap (λ (x : Mark). x.reason) (get_or-append_seam marks m [] no_mark) in
        subst (λ (n : ℕ). KeepsReason b cs (lits ++ l ∷ []) n (reason_at (marks ++ m ∷ []) n)) (sym here) (subst (λ (x : Reason). KeepsReason b cs (lits ++ l ∷ []) (length lits) x) (sym e) new)

pub below-joined : (p : Instance) (cs : List (List ℤ)) (lits : List ℤ) (marks : List Mark) (l : ℤ) (m : Mark) → length marks ≡ length lits → QuietBelow p cs lits marks → (m.reason ≡ Decided → QuietAt p cs lits)
    → QuietBelow p cs (lits ++ l ∷ []) (marks ++ m ∷ [])
below-joined p cs lits marks l m same q quiet = record { at = λ k lt d. at k (push_cases (length lits) k (omega (arith, lt, length-append lits (l ∷ [])))) d }
  where
    at : (k : ℕ) → (k < length lits) ⊎ (k ≡ length lits) → reason_at (marks ++ m ∷ []) k ≡ Decided → QuietAt p cs (take k (lits ++ l ∷ []))
    at k (inl low) d =
        let e : reason_at (marks ++ m ∷ []) k ≡ reason_at marks k = ap (λ (x : Mark). x.reason) (get_or-append marks (m ∷ []) no_mark k (omega (arith, low, same))) in
        subst (QuietAt p cs) (sym (take-append-le k lits (l ∷ []) (omega (arith, low)))) (q.at k low (sym e ∙ d))
    at k (inr here) d =
        let e : reason_at (marks ++ m ∷ []) (length lits) ≡ m.reason = ap (λ (n : ℕ). reason_at (marks ++ m ∷ []) n) (sym same) ∙ ap (λ (x : Mark). x.reason) (get_or-append_seam marks m [] no_mark) in
        let decided : m.reason ≡ Decided = sym e ∙ ap (λ (n : ℕ). reason_at (marks ++ m ∷ []) n) (sym here) ∙ d in
        subst (QuietAt p cs) (sym (ap (λ (n : ℕ). take n (lits ++ l ∷ [])) here ∙ take-append_seam lits (l ∷ []))) (quiet decided)

-- ---- literals are dropped

pub reasons-lowered : (b : TheoriesView) (cs : List (List ℤ)) (lits : List ℤ) (marks : List Mark) (n : ℕ) → KeepsReasons b cs lits marks → KeepsReasons b cs (take n lits) (take n marks)
reasons-lowered b cs lits marks n r = record {
  at = λ k lt.
      let low : k < n = omega (arith, lt, length-take n lits) in
      let len : k < length lits = omega (arith, lt, length-take n lits) in
      let e : reason_at (take n marks) k ≡ reason_at marks k = ap (λ (x : Mark). x.reason) (get_or-take n marks k no_mark low) in
      subst (λ (x : Reason). KeepsReason b cs (take n lits) k x) (sym e) (reason-same b cs lits (take n lits) k (reason_at marks k) (get_or-take n lits k (pos 0) low) (take-take k n lits (omega (arith, low))) (r.at k len));
}

pub below-lowered : (p : Instance) (cs : List (List ℤ)) (lits : List ℤ) (marks : List Mark) (n : ℕ) → QuietBelow p cs lits marks → QuietBelow p cs (take n lits) (take n marks)
below-lowered p cs lits marks n q = record {
  at = λ k lt d.
      let low : k < n = omega (arith, lt, length-take n lits) in
      let len : k < length lits = omega (arith, lt, length-take n lits) in
      let e : reason_at (take n marks) k ≡ reason_at marks k = ap (λ (x : Mark). x.reason) (get_or-take n marks k no_mark low) in
      subst (QuietAt p cs) (sym (take-take k n lits (omega (arith, low)))) (q.at k len (sym e ∙ d));
}

-- ---- literals are handed on, or taken back

pub shown-at_list : (fs : List Facts) (u t : List ℤ) (n : ℕ) → shown_of (map (with_seen u) fs) t n ≡ shown_of fs t n
shown-at_list [] u t n = refl
shown-at_list (f ∷ fs) u t n = ap (λ (s : List ℤ). cond (owns_of f.atoms n) (concerning f t) s) (shown-at_list fs u t n)

-- the theories may have seen another front of the list, but no less than the places of late literals
pub reasons-having_seen : (b : TheoriesView) (cs : List (List ℤ)) (lits : List ℤ) (marks : List Mark) (u : List ℤ) (n : ℕ) → ((k : ℕ) → k < length lits → k ≤ b.handed → k ≤ n) → KeepsReasons b cs lits marks → KeepsReasons (having_seen b u n) cs lits marks
reasons-having_seen b cs lits marks u n more r = record { at = λ k lt. at k lt (reason_at marks k) (r.at k lt) }
  where
    at : (k : ℕ) → k < length lits → (r : Reason) → KeepsReason b cs lits k r → KeepsReason (having_seen b u n) cs lits k r
    at k lt Decided w = tt
    at k lt (Clause c) w = w
    at k lt (Late a m) w = record {
      handed = more k lt w.handed;
      some = subst (λ (s : List ℤ). m ≤ length s) (sym (shown-at_list b.facts (take n u) (take k lits) a)) w.some;
      forces = subst (λ (s : List ℤ). AtomForces b.problem (take m s) a (lit_at lits k)) (sym (shown-at_list b.facts (take n u) (take k lits) a)) w.forces;
    }

-- ---- reasons are settled

settled_keeps : (b : TheoriesView) (cs : List (List ℤ)) (t : List ℤ) (k : ℕ) (old new : Reason) → KeepsReason b cs t k old → SettledReason cs t k old new → KeepsReason b cs t k new
settled_keeps b cs t k (Late a m) (Clause n) w s = s
settled_keeps b cs t k (Late a m) Decided w s = absurd cc
settled_keeps b cs t k (Late a m) (Late c n) w s = subst (λ (r : Reason). KeepsReason b cs t k r) (sym s) w
settled_keeps b cs t k (Clause c) new w s = subst (λ (r : Reason). KeepsReason b cs t k r) (sym s) w
settled_keeps b cs t k Decided new w s = subst (λ (r : Reason). KeepsReason b cs t k r) (sym s) w

pub reasons-settled : (b : TheoriesView) (cs : List (List ℤ)) (t u : TrailView) → Settles cs t u → KeepsReasons b cs t.lits t.marks → KeepsReasons b cs u.lits u.marks
reasons-settled b cs t u s r = record {
  at = λ k lt.
      let len : k < length t.lits = omega (arith, lt, ap length s.lits) in
      subst (λ (ls : List ℤ). KeepsReason b cs ls k (reason_at u.marks k)) (sym s.lits) (settled_keeps b cs t.lits k (reason_at t.marks k) (reason_at u.marks k) (r.at k len) (s.reasons k len));
}

pub below-settled : (p : Instance) (known cs : List (List ℤ)) (t u : TrailView) → Settles cs t u → QuietBelow p known t.lits t.marks → QuietBelow p known u.lits u.marks
below-settled p known cs t u s q = record {
  at = λ k lt d.
      let len : k < length t.lits = omega (arith, lt, ap length s.lits) in
      subst (λ (ls : List ℤ). QuietAt p known (take k ls)) (sym s.lits) (q.at k len (decided_was cs t.lits k (reason_at t.marks k) (reason_at u.marks k) (s.reasons k len) d));
}

-- ---- what conflict analysis asks

concerned-shorter : (f : Facts) (k h : ℕ) (t : List ℤ) → k ≤ h → (n : ℕ) → n ≤ length (concerning f (take k t)) → (n ≤ length (concerning f (take h t))) × (take n (concerning f (take h t)) ≡ take n (concerning f (take k t)))
concerned-shorter f k h t le n few =
    let e : take k (take h t) ++ drop k (take h t) ≡ take h t = take-append-drop k (take h t) in
    let split : concerning f (take h t) ≡ concerning f (take k t) ++ concerning f (drop k (take h t)) =
    ap (concerning f) (sym e) ∙ filter-append (λ l. concerns_of f.graph f.atoms (var_of l)) (take k (take h t)) (drop k (take h t)) ∙ ap (λ (s : List ℤ). concerning f s ++ concerning f (drop k (take h t))) (take-take k h t le) in (
      omega (arith, few, ap length split, length-append (concerning f (take k t)) (concerning f (drop k (take h t)))),
      ap (take n) split ∙ take-append-le n (concerning f (take k t)) (concerning f (drop k (take h t))) few,
    )

pub concerned-in : (f : Facts) (t : List ℤ) (l : ℤ) → IsTrue (has_lit (concerning f t) l) → IsTrue (has_lit t l)
concerned-in f t l h = (filter_has (λ m. concerns_of f.graph f.atoms (var_of m)) t l h).0

seen-current : (fs : List Facts) (t : List ℤ) (n : ℕ) → All (IsCurrent t) fs → seen_of fs n ≡ shown_of fs t n
seen-current [] t n c = refl
seen-current (f ∷ fs) t n c = cond_same (owns_of f.atoms n) (c 0 f (omega arith)) (seen-current fs t n (λ k d lt. c (suc k) d (omega arith)))
  where
    cond_same : (b : Bool) {x y u v : List ℤ} → x ≡ u → y ≡ v → cond b x y ≡ cond b u v
    cond_same true p q = p
    cond_same false p q = q

pub seen_is_shown : (b : TheoriesView) (t : List ℤ) (n : ℕ) → HaveSeen b t → seen_of b.facts n ≡ shown_of b.facts (take b.handed t) n
seen_is_shown b t n s = seen-current b.facts (take b.handed t) n s.current

shown-shorter : (fs : List Facts) (k h : ℕ) (t : List ℤ) (n : ℕ) → k ≤ h → (m : ℕ) → m ≤ length (shown_of fs (take k t) n) → (m ≤ length (shown_of fs (take h t) n)) × (take m (shown_of fs (take h t) n) ≡ take m (shown_of fs (take k t) n))
shown-shorter [] k h t n le m few = (few, refl)
shown-shorter (f ∷ fs) k h t n le m few = by (owns_of f.atoms n) few (λ e. concerned-shorter f k h t le m e) (λ e. shown-shorter fs k h t n le m e)
  where
    by : (b : Bool) → m ≤ length (cond b (concerning f (take k t)) (shown_of fs (take k t) n))
        → (m ≤ length (concerning f (take k t)) → (m ≤ length (concerning f (take h t))) × (take m (concerning f (take h t)) ≡ take m (concerning f (take k t))))
        → (m ≤ length (shown_of fs (take k t) n) → (m ≤ length (shown_of fs (take h t) n)) × (take m (shown_of fs (take h t) n) ≡ take m (shown_of fs (take k t) n)))
        → (m ≤ length (cond b (concerning f (take h t)) (shown_of fs (take h t) n))) × (take m (cond b (concerning f (take h t)) (shown_of fs (take h t) n)) ≡ take m (cond b (concerning f (take k t)) (shown_of fs (take k t) n)))
    by true few here later = here few
    by false few here later = later few

pub shown-in : (fs : List Facts) (t : List ℤ) (n : ℕ) (l : ℤ) → IsTrue (has_lit (shown_of fs t n) l) → IsTrue (has_lit t l)
shown-in [] t n l h = absurd cc
shown-in (f ∷ fs) t n l h = by (owns_of f.atoms n) h (concerned-in f t l) (shown-in fs t n l)
  where
    by : (b : Bool) → IsTrue (has_lit (cond b (concerning f t) (shown_of fs t n)) l) → (IsTrue (has_lit (concerning f t) l) → IsTrue (has_lit t l)) → (IsTrue (has_lit (shown_of fs t n) l) → IsTrue (has_lit t l)) → IsTrue (has_lit t l)
    by true h here later = here h
    by false h here later = later h

-- a late literal can be explained
late_forced : (b : TheoriesView) (t : List ℤ) (k n m : ℕ) → HaveSeen b t → WasLate b t k n m → WasForced b.problem (λ i. seen_of b.facts i) t k n m
late_forced b t k n m s w =
    let e : seen_of b.facts n ≡ shown_of b.facts (take b.handed t) n = seen_is_shown b t n s in
    let two = shown-shorter b.facts k b.handed t n w.handed m w.some in
    let front : take m (seen_of b.facts n) ≡ take m (shown_of b.facts (take k t) n) = ap (take m) e ∙ two.1 in
    record {
      some = subst (λ (u : List ℤ). m ≤ length u) (sym e) two.0;
      forces = subst (λ (u : List ℤ). AtomForces b.problem u n (lit_at t k)) (sym front) w.forces;
      before = within_by (take m (seen_of b.facts n)) (take k t) (λ l h. shown-in b.facts (take k t) n l (has-take (shown_of b.facts (take k t) n) m l (subst (λ (u : List ℤ). IsTrue (has_lit u l)) front h)));
    }

pub has_reasons : (b : TheoriesView) (cs : List (List ℤ)) (t : TrailView) → HaveSeen b t.lits → KeepsReasons b cs t.lits t.marks → HasReasons b.problem cs (λ i. seen_of b.facts i) t
has_reasons b cs t s r = record { at = λ k lt. at k (reason_at t.marks k) (r.at k lt) }
  where
    at : (k : ℕ) (r : Reason) → KeepsReason b cs t.lits k r → ReasonHolds b.problem cs (λ i. seen_of b.facts i) t.lits k r
    at k Decided w = tt
    at k (Clause n) w = w
    at k (Late n m) w = late_forced b t.lits k n m s w
