-- Reasons while lemmas are made: more clauses, and late reasons that are settled one after the other.
use Rattle.std.proofs.Common.{◌≡◌, ◌≢◌, ℕ, ◌+◌, ◌<◌, List, [], ◌∷◌, ◌++◌, length, take, set, arith, refl, sym, ◌∙◌, ap, get_or, subst, ◌⊎◌, inl, inr, ℤ, neg_ℤ, Some, get_or-set_same, get_or-set_other, length-set, length-append}
use Rattle.std.proofs.lemmas.Bool.{cases_eq}
use Rattle.std.proofs.lemmas.List.{get_or_push}
use Rattle.mono_base.specs.Literal.{has_lit, without, lit_at}
use Rattle.mono_base.specs.Partial.{is_false_in}
use Rattle.mono_base.proofs.Truth.{at_each, from_each}
use Rattle.mono_problem.specs.Instance.{Instance}
use Rattle.mono_steps.specs.declared.lemma.Lemma.{Lemma}
use Rattle.mono_steps.proofs.StepLists.{numbered_more, numbered_is}
use Rattle.mono_trail.specs.declared.reason.Mark.{Mark}
use Rattle.mono_trail.specs.declared.reason.Reason.{Reason}
use Rattle.mono_trail.specs.declared.reason.Reason.TheVariants.{Decided, Clause, Late}
use Rattle.mono_trail.specs.Places.{level_at, reason_at, no_mark}
use Rattle.mono_trail.specs.TrailView.{TrailView}
use Rattle.mono_trail.specs.Moves.{settled_at}
use Rattle.mono_learn.specs.Explain.{IsExplanation}
use Rattle.mono_learn.specs.Reasons.{WasUnit, WasForced, ReasonHolds, HasReasons}
use Rattle.mono_learn.specs.Settled.{SettledReason, Settles}
use Rattle.mono_learn.proofs.PlacesOfLits.{is_number}

-- ---- nothing is settled, and one reason after the other

same_reason : (cs : List (List ℤ)) (t : List ℤ) (k : ℕ) (r : Reason) → SettledReason cs t k r r
same_reason cs t k Decided = refl
same_reason cs t k (Clause n) = refl
same_reason cs t k (Late a m) = refl

pub settles_none : (cs : List (List ℤ)) (t : TrailView) → Settles cs t t
settles_none cs t = record { vars = refl; lits = refl; level = refl; given = refl; as_many = refl; levels = λ k. refl; reasons = λ k lt. same_reason cs t.lits k (reason_at t.marks k) }

then_reason : (cs : List (List ℤ)) (t : List ℤ) (k : ℕ) (a b c : Reason) → SettledReason cs t k a b → SettledReason cs t k b c → SettledReason cs t k a c
then_reason cs t k (Late x m) (Clause n) (Clause i) h g = let e : Clause n ≡ Clause i = sym g in let same : n ≡ i = cc in subst (λ (j : ℕ). WasUnit cs t k j) same h
then_reason cs t k (Late x m) (Clause n) Decided h g = absurd cc
then_reason cs t k (Late x m) (Clause n) (Late y i) h g = absurd cc
then_reason cs t k (Late x m) Decided c h g = absurd cc
then_reason cs t k (Late x m) (Late y i) c h g = subst (λ (r : Reason). SettledReason cs t k r c) h g
then_reason cs t k (Clause n) b c h g = subst (λ (r : Reason). SettledReason cs t k r c) h g
then_reason cs t k Decided b c h g = subst (λ (r : Reason). SettledReason cs t k r c) h g

pub settles_then : (cs : List (List ℤ)) (t u v : TrailView) → Settles cs t u → Settles cs u v → Settles cs t v
settles_then cs t u v a b = record {
  vars = b.vars ∙ a.vars;
  lits = b.lits ∙ a.lits;
  level = b.level ∙ a.level;
  given = b.given ∙ a.given;
  as_many = b.as_many ∙ a.as_many;
  levels = λ k. b.levels k ∙ a.levels k;
  reasons = λ k lt. then_reason cs t.lits k (reason_at t.marks k) (reason_at u.marks k) (reason_at v.marks k) (a.reasons k lt)
      (subst (λ (ls : List ℤ). SettledReason cs ls k (reason_at u.marks k) (reason_at v.marks k)) a.lits (b.reasons k (omega (arith, lt, ap length a.lits))));
}

-- what a reason was before
clause_stays : (cs : List (List ℤ)) (t : List ℤ) (k n : ℕ) (a b : Reason) → SettledReason cs t k a b → a ≡ Clause n → b ≡ Clause n
clause_stays cs t k n (Clause m) b h e = h ∙ e
clause_stays cs t k n (Late x m) b h e = absurd cc
clause_stays cs t k n Decided b h e = absurd cc

late_was : (cs : List (List ℤ)) (t : List ℤ) (k x m : ℕ) (a b : Reason) → SettledReason cs t k a b → b ≡ Late x m → a ≡ Late x m
late_was cs t k x m (Late y i) (Clause n) h e = absurd cc
late_was cs t k x m (Late y i) Decided h e = absurd cc
late_was cs t k x m (Late y i) (Late z j) h e = sym h ∙ e
late_was cs t k x m (Clause n) b h e = sym h ∙ e
late_was cs t k x m Decided b h e = sym h ∙ e

pub decided_was : (cs : List (List ℤ)) (t : List ℤ) (k : ℕ) (a b : Reason) → SettledReason cs t k a b → b ≡ Decided → a ≡ Decided
decided_was cs t k (Late y i) (Clause n) h e = absurd cc
decided_was cs t k (Late y i) Decided h e = absurd cc
decided_was cs t k (Late y i) (Late z j) h e = absurd cc
decided_was cs t k (Clause n) b h e = sym h ∙ e
decided_was cs t k Decided b h e = refl

module _ (cs : List (List ℤ)) (t u : TrailView) (k : ℕ) (s : Settles cs t u) (lt : k < length t.lits) where
  pub clause_after : (n : ℕ) → reason_at t.marks k ≡ Clause n → reason_at u.marks k ≡ Clause n
  clause_after n e = clause_stays cs t.lits k n (reason_at t.marks k) (reason_at u.marks k) (s.reasons k lt) e

  pub late_before : (x m : ℕ) → reason_at u.marks k ≡ Late x m → reason_at t.marks k ≡ Late x m
  late_before x m e = late_was cs t.lits k x m (reason_at t.marks k) (reason_at u.marks k) (s.reasons k lt) e

  pub decided_before : reason_at u.marks k ≡ Decided → reason_at t.marks k ≡ Decided
  decided_before e = decided_was cs t.lits k (reason_at t.marks k) (reason_at u.marks k) (s.reasons k lt) e

-- ---- more clauses

pub unit_more : (cs more : List (List ℤ)) (t : List ℤ) (k n : ℕ) → WasUnit cs t k n → WasUnit (cs ++ more) t k n
unit_more cs more t k n w = record { clause = w.clause; is = numbered_more cs more n (is_number cs n w.clause w.is).high ∙ w.is; has = w.has; others = w.others }

settled_more : (cs more : List (List ℤ)) (t : List ℤ) (k : ℕ) (a b : Reason) → SettledReason cs t k a b → SettledReason (cs ++ more) t k a b
settled_more cs more t k (Late x m) (Clause n) h = unit_more cs more t k n h
settled_more cs more t k (Late x m) Decided h = h
settled_more cs more t k (Late x m) (Late y i) h = h
settled_more cs more t k (Clause n) b h = h
settled_more cs more t k Decided b h = h

pub settles_more : (cs more : List (List ℤ)) (t u : TrailView) → Settles cs t u → Settles (cs ++ more) t u
settles_more cs more t u s = record { vars = s.vars; lits = s.lits; level = s.level; given = s.given; as_many = s.as_many; levels = s.levels; reasons = λ k lt. settled_more cs more t.lits k (reason_at t.marks k) (reason_at u.marks k) (s.reasons k lt) }

holds_more : (p : Instance) (cs more : List (List ℤ)) (shown : ℕ → List ℤ) (t : List ℤ) (k : ℕ) (r : Reason) → ReasonHolds p cs shown t k r → ReasonHolds p (cs ++ more) shown t k r
holds_more p cs more shown t k Decided h = tt
holds_more p cs more shown t k (Clause n) h = unit_more cs more t k n h
holds_more p cs more shown t k (Late x m) h = h

pub reasons_more : (p : Instance) (cs more : List (List ℤ)) (shown : ℕ → List ℤ) (t : TrailView) → HasReasons p cs shown t → HasReasons p (cs ++ more) shown t
reasons_more p cs more shown t r = record { at = λ k lt. holds_more p cs more shown t.lits k (reason_at t.marks k) (r.at k lt) }

-- ---- reasons stay reasons

holds_settled : (p : Instance) (cs : List (List ℤ)) (shown : ℕ → List ℤ) (t : List ℤ) (k : ℕ) (a b : Reason) → ReasonHolds p cs shown t k a → SettledReason cs t k a b → ReasonHolds p cs shown t k b
holds_settled p cs shown t k (Late x m) (Clause n) h s = s
holds_settled p cs shown t k (Late x m) Decided h s = absurd cc
holds_settled p cs shown t k (Late x m) (Late y i) h s = subst (λ (r : Reason). ReasonHolds p cs shown t k r) (sym s) h
holds_settled p cs shown t k (Clause n) b h s = subst (λ (r : Reason). ReasonHolds p cs shown t k r) (sym s) h
holds_settled p cs shown t k Decided b h s = subst (λ (r : Reason). ReasonHolds p cs shown t k r) (sym s) h

pub reasons_settled : (p : Instance) (cs : List (List ℤ)) (shown : ℕ → List ℤ) (t u : TrailView) → Settles cs t u → HasReasons p cs shown t → HasReasons p cs shown u
reasons_settled p cs shown t u s r = record {
  at = λ k lt.
      let len : k < length t.lits = omega (arith, lt, ap length s.lits) in
      subst (λ (ls : List ℤ). ReasonHolds p cs shown ls k (reason_at u.marks k)) (sym s.lits) (holds_settled p cs shown t.lits k (reason_at t.marks k) (reason_at u.marks k) (r.at k len) (s.reasons k len));
}

-- ---- one reason

-- the lemma of a late literal was unit when the literal was forced
pub lemma_was_unit : (p : Instance) (cs : List (List ℤ)) (shown : ℕ → List ℤ) (t : List ℤ) (k a m : ℕ) (l : Lemma) → WasForced p shown t k a m → IsExplanation p (take m (shown a)) a (lit_at t k) l → WasUnit (cs ++ l.clause ∷ []) t k (length cs + 1)
lemma_was_unit p cs shown t k a m l w e = record {
  clause = l.clause;
  is = numbered_is (cs ++ l.clause ∷ []) (length cs + 1) (length cs) l.clause refl (omega (arith, length-append cs (l.clause ∷ []))) ∙ ap Some (get_or_push cs l.clause l.clause (length cs) refl);
  has = e.has;
  others = from_each (is_false_in (take k t)) (without l.clause (lit_at t k)) (λ x h. at_each (has_lit (take k t)) (take m (shown a)) w.before (neg_ℤ x) (at_each (is_false_in (take m (shown a))) (without l.clause (lit_at t k)) e.others x h));
}

pub settles_one : (cs : List (List ℤ)) (t : TrailView) (k a m n : ℕ) → length t.marks ≡ length t.lits → k < length t.lits → reason_at t.marks k ≡ Late a m → WasUnit cs t.lits k n → Settles cs t (settled_at t k n)
settles_one cs t k a m n same lt late unit = record {
  vars = refl;
  lits = refl;
  level = refl;
  given = refl;
  as_many = length-set t.marks k new;
  levels = λ j. level j (cases_eq j k);
  reasons = λ j lt_j. reason j (cases_eq j k);
}
  where
    new : Mark
    new = record { level = level_at t.marks k; reason = Clause n }

    there : get_or (set t.marks k new) k no_mark ≡ new
    there = get_or-set_same t.marks k new no_mark (omega (arith, lt, same))

    level : (j : ℕ) → (j ≡ k) ⊎ (j ≢ k) → level_at (set t.marks k new) j ≡ level_at t.marks j
    level j (inl e) = ap (level_at (set t.marks k new)) e ∙ ap (λ (x : Mark). x.level) there ∙ ap (level_at t.marks) (sym e)
    level j (inr d) = ap (λ (x : Mark). x.level) (get_or-set_other t.marks k j new no_mark d)

    reason : (j : ℕ) → (j ≡ k) ⊎ (j ≢ k) → SettledReason cs t.lits j (reason_at t.marks j) (reason_at (set t.marks k new) j)
    reason j (inl e) =
        let now : reason_at (set t.marks k new) k ≡ Clause n = ap (λ (x : Mark). x.reason) there in
        let here : SettledReason cs t.lits k (reason_at t.marks k) (reason_at (set t.marks k new) k) = subst (λ (r : Reason). SettledReason cs t.lits k r (reason_at (set t.marks k new) k)) (sym late) (subst (λ (r : Reason). SettledReason cs t.lits k (Late a m) r) (sym now) unit) in
        subst (λ (i : ℕ). SettledReason cs t.lits i (reason_at t.marks i) (reason_at (set t.marks k new) i)) (sym e) here
    reason j (inr d) =
        let now : reason_at (set t.marks k new) j ≡ reason_at t.marks j = ap (λ (x : Mark). x.reason) (get_or-set_other t.marks k j new no_mark d) in
        subst (λ (r : Reason). SettledReason cs t.lits j (reason_at t.marks j) r) (sym now) (same_reason cs t.lits j (reason_at t.marks j))

-- the reason at a place that was settled
pub reason_settled : (t : TrailView) (k n : ℕ) → length t.marks ≡ length t.lits → k < length t.lits → reason_at (settled_at t k n).marks k ≡ Clause n
reason_settled t k n same lt = ap (λ (x : Mark). x.reason) (get_or-set_same t.marks k (record { level = level_at t.marks k; reason = Clause n }) no_mark (omega (arith, lt, same)))
