-- Going back: after a restart, and after a clause was learned.
use Rattle.std.proofs.Common.{zero, suc, ◌≡◌, ◌≢◌, ℕ, ◌+◌, ◌-◌, ◌<◌, ◌≤◌, true, not, List, [], ◌∷◌, ◌++◌, length, take, drop, min, map, arith, refl, sym, ◌∙◌, ap, get_or, subst, ◌⊎◌, inl, inr, ℤ, pos, negsuc, neg_ℤ, nat_abs, append_assoc, All, length-append, add-one}
use Rattle.std.specs.Prelude.{Bool, IsTrue, Result, Ok, Err, OnOk, OnErr, ◌&&◌, ◌==◌, if◌then◌else◌}
use Rattle.std.proofs.lemmas.List.{take-take, length-take, get_or-take}
use Rattle.std.proofs.lemmas.List.Folds.{list_all-append, list_any_at}
use Rattle.std.specs.Ordering.{int_eq}
use Rattle.mono_base.proofs.Truth.{lit_itself}
use Rattle.std.proofs.lemmas.Bool.{le-leb, cases_lt, and_from, not_from_false, ne_eqb}
use Rattle.mono_base.specs.Literal.{var_of, has_lit, IsLitWithin, lit_at}
use Rattle.mono_base.specs.Partial.{is_false_in, is_open_in, is_quiet, unit_quiet}
use Rattle.mono_problem.specs.Instance.{Instance}
use Rattle.mono_steps.specs.declared.step.Step.{Step}
use Rattle.mono_steps.specs.Steps.{are_justified, is_refutation, ends_empty, clause_of, clauses_after}
use Rattle.mono_steps.specs.declared.step.Step.TheVariants as step
use Rattle.mono_trail.specs.declared.reason.Mark.{Mark}
use Rattle.mono_trail.specs.declared.reason.Reason.TheVariants.{Decided}
use Rattle.mono_learn.specs.declared.learn.Learnt.{Learnt}
use Rattle.mono_trail.specs.TrailView.{TrailView, IsSoundTrail, count_to, StandsAt}
use Rattle.mono_trail.specs.Places.{level_at, reason_at, no_mark}
use Rattle.mono_trail.specs.Moves.{lowered}
use Rattle.mono_trail.proofs.Levels.{count_within, kept_low, up_to_level}
use Rattle.mono_clauses.specs.Store.{StoreView, Follows, FollowsBelow, AddsClause}
use Rattle.mono_steps.specs.Journals.{known_clauses, has_no_empty, chain_clauses, chain_count, lemma_steps, AddsLemmas}
use Rattle.mono_steps.specs.New.{IsNewClause, HasNewChains, AreNew}
use Rattle.mono_trail.specs.Order.{OrderView, AllOpenWait}
use Rattle.mono_search.specs.TheoryLists.{seen_of, IsCurrent, with_seen}
use Rattle.mono_learn.specs.Reasons.{HasReasons}
use Rattle.mono_learn.specs.Settled.{Settles}
use Rattle.mono_learn.specs.Learned.{Learns, Refutes}
use Rattle.mono_search.specs.Theories.{TheoriesView, HaveSeen, having_seen}
use Rattle.mono_search.specs.declared.search.Outcome.TheVariants as outcome
use Rattle.mono_steps.proofs.FewNew.{enough}
use Rattle.mono_search.specs.State.{StateView, QuietBelow, KeepsReasons, IsJournal, IsOpenJournal, HoldsKnown, IsConsistent, IsReady, IsInConflict}
use Rattle.mono_search.specs.Runs.{Releases, GoesBack, IsEnd}
use Rattle.mono_search.proofs.Lists.{has_before, open_before, open-neg_back, quiet_by_two, others_false_by, same_or_not}
use Rattle.mono_search.proofs.Trails.{not_before, decision_rises}
use Rattle.mono_steps.proofs.NewSteps.{fresh-lemmas, fresh-chain}
use Rattle.mono_steps.proofs.JournalSteps.{known-lemmas, known-chain, chains-lemmas, chain_clauses-append, after-append, no_empty-append, no_empty-lemmas, ends-last}
use Rattle.mono_search.proofs.Holding.{held-chain}
use Rattle.mono_search.proofs.Journals.{named_below}
use Rattle.mono_steps.proofs.StepLists.{length_clauses}
use Rattle.mono_search.proofs.Reasons.{reasons-having_seen, reasons-lowered, below-lowered, reasons-more, reasons-settled, below-settled, has_reasons}
use Rattle.mono_base.proofs.Partials.{is_partial-take}
use Rattle.mono_search.proofs.Growing.{quiet_at_start}
use Rattle.mono_clauses.proofs.FollowsKept.{follows_below_back}
use Rattle.mono_search.proofs.Following.{settling_keeps_below}
use Rattle.mono_search.proofs.Owners.{current-at}
use Rattle.mono_search.proofs.Decisions.{wait-lowered}
use Rattle.mono_search.proofs.Propagating.{state, holds-lemmas, journal-lemmas}

-- what the theories have seen once all have gone back
pub lowered_shown : (b : TheoriesView) (t : TrailView) (level : ℕ) → IsSoundTrail t → HaveSeen (having_seen b t.lits (min b.handed (count_to level t.marks))) (lowered level t).lits
lowered_shown b t level sound =
    let n = count_to level t.marks in
    let h = min b.handed n in
    let few : n ≤ length t.lits = omega (arith, count_within level t.marks, sound.as_many) in
    let front : take h (take n t.lits) ≡ take h t.lits = take-take h n t.lits (omega arith) in
    record {
      within = rw length-take (omega (arith, few));
      current = subst (λ (u : List ℤ). All (IsCurrent u) (map (with_seen (take h t.lits)) b.facts)) (sym front) (current-at b.facts (take h t.lits));
    }

pub lowered_reasons : (b : TheoriesView) (t : TrailView) (cs : List (List ℤ)) (level : ℕ) → KeepsReasons b cs t.lits t.marks → KeepsReasons (having_seen b t.lits (min b.handed (count_to level t.marks))) cs (lowered level t).lits (lowered level t).marks
lowered_reasons b t cs level r =
    let n = count_to level t.marks in
    reasons-having_seen b cs (take n t.lits) (take n t.marks) t.lits (min b.handed n) (λ k lt le. omega (arith, lt, le, length-take n t.lits)) (reasons-lowered b cs t.lits t.marks n r)

-- a restart
pub restarted : (b : TheoriesView) (t u : TrailView) (s : StoreView) (steps : List Step) (o r : OrderView) (level : ℕ) → IsConsistent (state b t s steps o) → FollowsBelow s t → level < t.level → IsSoundTrail u → u ≡ lowered level t → Releases o r (drop (count_to level t.marks) t.lits)
    → IsReady (state (having_seen b t.lits (min b.handed (count_to level t.marks))) u s steps r)
restarted b t u s steps o r level w f lt sound e released = subst (λ (v : TrailView). IsReady (state (having_seen b t.lits (min b.handed (count_to level t.marks))) v s steps r)) (sym e) (record {
  whole = record {
    journal = w.journal;
    held = w.held;
    trail = record {
      vars = w.trail.vars;
      sound = subst IsSoundTrail e sound;
      shown = lowered_shown b t level w.trail.sound;
      reasons = lowered_reasons b t (clauses_after b.problem steps) level w.trail.reasons;
      below = below-lowered b.problem (known_clauses b.problem steps) t.lits t.marks (count_to level t.marks) w.trail.below;
    };
    order = record { vars = released.as_many ∙ w.order.vars; wait = wait-lowered o r t.lits (count_to level t.marks) w.order.wait released };
  };
  follows = follows_below_back s t level w.trail.sound lt f;
})

-- ---- what was learned

abs-neg : (l : ℤ) → nat_abs (neg_ℤ l) ≡ nat_abs l
abs-neg (pos zero) = refl
abs-neg (pos (suc n)) = refl
abs-neg (negsuc n) = refl

some_lit : (c : List ℤ) (l : ℤ) → IsTrue (has_lit c l) → not (length c == 0) ≡ true
some_lit [] l h = absurd cc
some_lit (x ∷ c) l h = not_from_false (length (x ∷ c) == 0) (ne_eqb (length (x ∷ c)) 0 (λ e. omega (arith, e)))

-- the analysis of the conflict n above level 0: what was so before it, and the lemmas and the learned clause that joined the
-- steps, while the trail differs in settled reasons alone
pub record IsAnalysed (b : TheoriesView) (t u : TrailView) (s : StoreView) (steps new : List Step) (o : OrderView) (n : ℕ) (r : Learnt) : Type 0 where
  pub conflict : IsInConflict (state b t s steps o) n
  pub one : 1 ≤ t.level
  pub learns : Learns b.problem t steps new r
  pub settles : Settles (clauses_after b.problem new) t u
  pub justified : IsTrue (are_justified b.problem new)
  pub sound : IsSoundTrail u

-- so it is where the analysis was made of the problem that the theories have
pub analysed : {b : TheoriesView} {t u : TrailView} {s : StoreView} {steps new : List Step} {o : OrderView} {n : ℕ} {r : Learnt} {v : StateView} {p : Instance} → state b t s steps o ≡ v → IsInConflict v n → 1 ≤ v.trail.level → p ≡ b.problem
    → Learns p t steps new r → Settles (clauses_after p new) t u → (IsTrue (are_justified p steps) → IsTrue (are_justified p new)) → IsSoundTrail u → IsAnalysed b t u s steps new o n r
analysed {b} {t} {u} {s} {steps} {new} {o} {n} {r} {v} {p} view conflict one same learns settles keeps sound =
    let before : IsInConflict (state b t s steps o) n = subst (λ (w : StateView). IsInConflict w n) (sym view) conflict in
    let held : IsTrue (are_justified p steps) = subst (λ (q : Instance). IsTrue (are_justified q steps)) (sym same) before.whole.journal.journal.justified in
    record {
      conflict = before;
      one = subst (λ (w : StateView). 1 ≤ w.trail.level) (sym view) one;
      learns = subst (λ (q : Instance). Learns q t steps new r) same learns;
      settles = subst (λ (q : Instance). Settles (clauses_after q new) t u) same settles;
      justified = subst (λ (q : Instance). IsTrue (are_justified q new)) same (keeps held);
      sound = sound;
    }

module _ {b : TheoriesView} {t u : TrailView} {s : StoreView} {steps new : List Step} {o : OrderView} {n : ℕ} {r : Learnt} (analysis : IsAnalysed b t u s steps new o n r) where
  -- the literal of the present level is open before the decision, and the others are false
  open_there : IsTrue (is_open_in (take (count_to (t.level - 1) t.marks) t.lits) analysis.learns.learnt.lit)
  open_there =
      let i = analysis.learns.learnt.present in
      let late : count_to (t.level - 1) t.marks ≤ i.place = elim (cases_lt i.place (count_to (t.level - 1) t.marks)) [
        | inl low ↦ absurd (omega (arith, kept_low (t.level - 1) t.marks i.place low, i.at, analysis.one))
        | inr high ↦ high
      ] in
      open-neg_back (take (count_to (t.level - 1) t.marks) t.lits) analysis.learns.learnt.lit (subst (λ (l : ℤ). IsTrue (is_open_in (take (count_to (t.level - 1) t.marks) t.lits) l)) i.there (open_before t.lits (count_to (t.level - 1) t.marks) i.place analysis.conflict.whole.trail.sound.partial late i.within))

  false_there : (l : ℤ) → IsTrue (has_lit r.clause l) → l ≢ analysis.learns.learnt.lit → IsTrue (is_false_in (take (count_to (t.level - 1) t.marks) t.lits) l)
  false_there l h d =
      let i = analysis.learns.learnt.others l h d in
      let low : i.2.place < count_to (t.level - 1) t.marks = (up_to_level 0 t.marks t.level (t.level - 1) i.2.place analysis.conflict.whole.trail.sound.climbs (omega (arith, i.2.within, analysis.conflict.whole.trail.sound.as_many))).1 (omega (arith, i.2.at, i.1, analysis.learns.learnt.lower)) in
      subst (λ (m : ℤ). IsTrue (has_lit (take (count_to (t.level - 1) t.marks) t.lits) m)) i.2.there (has_before t.lits i.2.place (count_to (t.level - 1) t.marks) low i.2.within)

  in_vars : (l : ℤ) (level : ℕ) → StandsAt t (neg_ℤ l) level → IsLitWithin s.vars l
  in_vars l level i =
      let w = subst (IsLitWithin t.vars) i.there (analysis.conflict.whole.trail.sound.within i.place (pos 0) i.within) in
      (omega (arith, w.0, abs-neg l), omega (arith, w.1, abs-neg l, analysis.conflict.whole.held.vars, analysis.conflict.whole.trail.vars))

  new_clause : IsNewClause (known_clauses b.problem (steps ++ lemma_steps analysis.learns.lemmas)) r.clause
  new_clause = record {
    under = take (count_to (t.level - 1) t.marks) t.lits;
    partial = is_partial-take (count_to (t.level - 1) t.marks) t.lits analysis.conflict.whole.trail.sound.partial;
    quiet = subst (λ (cs : List (List ℤ)). IsTrue (unit_quiet cs (take (count_to (t.level - 1) t.marks) t.lits))) (sym (known-lemmas b.problem steps analysis.learns.lemmas)) (quiet_at_start b t steps analysis.conflict.whole.trail analysis.one).units;
    lit = analysis.learns.learnt.lit;
    is_literal = le-leb 1 (var_of analysis.learns.learnt.lit) (omega (arith, (in_vars analysis.learns.learnt.lit t.level analysis.learns.learnt.present).0));
    has = analysis.learns.learnt.has;
    is_open = open_there;
    others = others_false_by (take (count_to (t.level - 1) t.marks) t.lits) r.clause analysis.learns.learnt.lit false_there;
  }

  pub learned_open : IsOpenJournal b.problem new
  learned_open = record {
    journal = record {
      justified = analysis.justified;
      fresh = subst (HasNewChains b.problem) (sym analysis.learns.pushed) (fresh-chain b.problem (steps ++ lemma_steps analysis.learns.lemmas) (record { clause = r.clause; used = analysis.learns.used }) (fresh-lemmas b.problem steps analysis.learns.lemmas analysis.conflict.whole.journal.journal.fresh) (λ full. record { exact = analysis.learns.exact; new = new_clause }));
    };
    none_empty = subst (λ (ss : List Step). IsTrue (has_no_empty ss)) (sym analysis.learns.pushed)
        (no_empty-append (steps ++ lemma_steps analysis.learns.lemmas) (step.Chain (record { clause = r.clause; used = analysis.learns.used }) ∷ []) (no_empty-append steps (lemma_steps analysis.learns.lemmas) analysis.conflict.whole.journal.none_empty (no_empty-lemmas analysis.learns.lemmas))
        (and_from (not (length r.clause == 0)) true (some_lit r.clause analysis.learns.learnt.lit analysis.learns.learnt.has) refl));
  }

  pub learned_chains : chain_count new ≡ chain_count steps + 1
  learned_chains = ap chain_count analysis.learns.pushed ∙ ap length (chain_clauses-append (steps ++ lemma_steps analysis.learns.lemmas) (step.Chain (record { clause = r.clause; used = analysis.learns.used }) ∷ []))
      ∙ length-append (chain_clauses (steps ++ lemma_steps analysis.learns.lemmas)) (r.clause ∷ []) ∙ ap (λ (k : ℕ). k + 1) (ap length (chains-lemmas steps analysis.learns.lemmas))

  number_is : r.number ≡ suc (length (clauses_after b.problem (steps ++ lemma_steps analysis.learns.lemmas)))
  number_is = analysis.learns.number ∙ ap (λ (ss : List Step). length (clauses_after b.problem ss)) analysis.learns.pushed
      ∙ ap length (after-append b.problem (steps ++ lemma_steps analysis.learns.lemmas) (step.Chain (record { clause = r.clause; used = analysis.learns.used }) ∷ []))
      ∙ length-append (clauses_after b.problem (steps ++ lemma_steps analysis.learns.lemmas)) (r.clause ∷ []) ∙ add-one (length (clauses_after b.problem (steps ++ lemma_steps analysis.learns.lemmas)))

  more_clauses : length (clauses_after b.problem steps) < r.number
  more_clauses = omega (arith, number_is, length_clauses b.problem steps, length_clauses b.problem (steps ++ lemma_steps analysis.learns.lemmas), length-append steps (lemma_steps analysis.learns.lemmas))

  pub learned_rising : All (λ h. h.number < r.number) s.clauses
  learned_rising = named_below (clauses_after b.problem steps) s.clauses r.number more_clauses analysis.conflict.whole.held.named

  pub learned_within : All (IsLitWithin s.vars) r.clause
  learned_within = λ k d lt.
      let l = get_or r.clause k d in
      let h : IsTrue (has_lit r.clause l) = list_any_at (int_eq l) r.clause k d lt (lit_itself l) in
      elim (same_or_not l analysis.learns.learnt.lit) [
        | inl e ↦ subst (IsLitWithin s.vars) (sym e) (in_vars analysis.learns.learnt.lit t.level analysis.learns.learnt.present)
        | inr d ↦ let i = analysis.learns.learnt.others l h d in in_vars l i.0 i.2
      ]

  pub learned_held : (z : StoreView) → AddsClause s z r.number r.clause → HoldsKnown b.problem new b.given z
  learned_held z a =
      let between : List Step = steps ++ lemma_steps analysis.learns.lemmas in
      let before : HoldsKnown b.problem between b.given s = holds-lemmas b.problem steps analysis.learns.lemmas b.given s analysis.conflict.whole.held in
      subst (λ (ss : List Step). HoldsKnown b.problem ss b.given z) (sym analysis.learns.pushed) (held-chain b.problem between b.given s z r.number (record { clause = r.clause; used = analysis.learns.used }) before a number_is)

  known_now : known_clauses b.problem new ≡ known_clauses b.problem steps ++ r.clause ∷ []
  known_now = ap (known_clauses b.problem) analysis.learns.pushed ∙ known-chain b.problem (steps ++ lemma_steps analysis.learns.lemmas) (record { clause = r.clause; used = analysis.learns.used }) ∙ ap (λ (cs : List (List ℤ)). cs ++ r.clause ∷ []) (known-lemmas b.problem steps analysis.learns.lemmas)

  pub learned_follows : (level : ℕ) → level ≤ r.back_to → Follows s (lowered level u)
  learned_follows level le = follows_below_back s u level analysis.sound (omega (arith, le, analysis.learns.learnt.lower, analysis.settles.level)) (settling_keeps_below (clauses_after b.problem new) s t u analysis.settles analysis.conflict.follows)

  -- reasons and quiet below, before the trail goes back
  reasons_now : KeepsReasons b (clauses_after b.problem new) u.lits u.marks
  reasons_now = reasons-settled b (clauses_after b.problem new) t u analysis.settles (subst (λ (cs : List (List ℤ)). KeepsReasons b cs t.lits t.marks) (sym after) (reasons-more b (clauses_after b.problem steps) _ t.lits t.marks analysis.conflict.whole.trail.reasons))
    where
      after : clauses_after b.problem new ≡ clauses_after b.problem steps ++ map clause_of (lemma_steps analysis.learns.lemmas ++ step.Chain (record { clause = r.clause; used = analysis.learns.used }) ∷ [])
      after = ap (clauses_after b.problem) (analysis.learns.pushed ∙ append_assoc steps (lemma_steps analysis.learns.lemmas) (step.Chain (record { clause = r.clause; used = analysis.learns.used }) ∷ [])) ∙ after-append b.problem steps (lemma_steps analysis.learns.lemmas ++ step.Chain (record { clause = r.clause; used = analysis.learns.used }) ∷ [])

  below_now : QuietBelow b.problem (known_clauses b.problem steps) u.lits u.marks
  below_now = below-settled b.problem (known_clauses b.problem steps) (clauses_after b.problem new) t u analysis.settles analysis.conflict.whole.trail.below

  -- a literal whose negation stands at a level not below that of a decision is open before the decision
  open_before_decision : (l : ℤ) (high k : ℕ) → StandsAt t (neg_ℤ l) high → k < length u.lits → reason_at u.marks k ≡ Decided → level_at u.marks k ≤ high → IsTrue (is_open_in (take k u.lits) l)
  open_before_decision l high k i lt d le =
      let inside : i.place < length u.lits = subst (λ (ls : List ℤ). i.place < length ls) (sym analysis.settles.lits) i.within in
      let there : lit_at u.lits i.place ≡ neg_ℤ l = ap (λ (ls : List ℤ). lit_at ls i.place) analysis.settles.lits ∙ i.there in
      let after : k ≤ i.place = not_before 0 u.marks u.level k i.place analysis.sound.climbs (omega (arith, lt, analysis.sound.as_many)) d (omega (arith, le, analysis.settles.levels i.place, i.at)) in
      open-neg_back (take k u.lits) l (subst (λ (m : ℤ). IsTrue (is_open_in (take k u.lits) m)) there (open_before u.lits k i.place analysis.sound.partial after inside))

  quiet_clause : (level : ℕ) → level ≤ r.back_to → (k : ℕ) → k < length u.lits → reason_at u.marks k ≡ Decided → level_at u.marks k ≤ level → IsTrue (is_quiet (take k u.lits) r.clause)
  quiet_clause level le k lt d low = by analysis.learns.learnt.reached
    where
      by : (r.back_to ≡ zero) ⊎ ((l : ℤ) × IsTrue (has_lit r.clause l) × (l ≢ analysis.learns.learnt.lit) × StandsAt t (neg_ℤ l) r.back_to) → IsTrue (is_quiet (take k u.lits) r.clause)
      by (inl none) = absurd (omega (arith, none, le, low, decision_rises 0 u.marks u.level k analysis.sound.climbs (omega (arith, lt, analysis.sound.as_many)) d))
      by (inr (l, h, other, stands)) = quiet_by_two (take k u.lits) r.clause l analysis.learns.learnt.lit h analysis.learns.learnt.has other
          (open_before_decision l r.back_to k stands lt d (omega (arith, low, le)))
          (open_before_decision analysis.learns.learnt.lit t.level k analysis.learns.learnt.present lt d (omega (arith, low, le, analysis.learns.learnt.lower)))

  pub learned_below : (level : ℕ) → level ≤ r.back_to → QuietBelow b.problem (known_clauses b.problem new) (lowered level u).lits (lowered level u).marks
  learned_below level le = record {
    at = λ k lt d.
        let m = count_to level u.marks in
        let front : k < m = omega (arith, lt, length-take m u.lits) in
        let len : k < length u.lits = omega (arith, lt, length-take m u.lits) in
        let reason : reason_at u.marks k ≡ Decided = sym (ap (λ (x : Mark). x.reason) (get_or-take m u.marks k no_mark front)) ∙ d in
        let before = (below-lowered b.problem (known_clauses b.problem steps) u.lits u.marks m below_now).at k lt d in
        let cut : take k (take m u.lits) ≡ take k u.lits = take-take k m u.lits (omega (arith, front)) in
        let here = subst (λ (ls : List ℤ). IsTrue (is_quiet ls r.clause)) (sym cut) (quiet_clause level le k len reason (kept_low level u.marks k front)) in
        record {
          units = subst (λ (cs : List (List ℤ)). IsTrue (unit_quiet cs (take k (take m u.lits)))) (sym known_now)
              (list_all-append (is_quiet (take k (take m u.lits))) (known_clauses b.problem steps) (r.clause ∷ []) ∙ and_from (unit_quiet (known_clauses b.problem steps) (take k (take m u.lits))) (is_quiet (take k (take m u.lits)) r.clause && true) before.units (and_from (is_quiet (take k (take m u.lits)) r.clause) true here refl));
          atoms = before.atoms;
        };
  }

  pub learned_ready : (level : ℕ) (q : OrderView) (v : TrailView) (z : StoreView) → level ≤ r.back_to → IsSoundTrail v → v ≡ lowered level u → Releases o q (drop (count_to level u.marks) u.lits) → AddsClause s z r.number r.clause → Follows z v
      → IsReady (state (having_seen b u.lits (min b.handed (count_to level u.marks))) v z new q)
  learned_ready level q v z le ok e released held follows =
      subst (λ (w : TrailView). IsReady (state (having_seen b u.lits (min b.handed (count_to level u.marks))) w z new q)) (sym e) (record {
        whole = record {
          journal = learned_open;
          held = learned_held z held;
          trail = record {
            vars = analysis.settles.vars ∙ analysis.conflict.whole.trail.vars;
            sound = subst IsSoundTrail e ok;
            shown = lowered_shown b u level analysis.sound;
            reasons = lowered_reasons b u (clauses_after b.problem new) level reasons_now;
            below = learned_below level le;
          };
          order = record {
            vars = released.as_many ∙ analysis.conflict.whole.order.vars;
            wait = wait-lowered o q u.lits (count_to level u.marks) (subst (AllOpenWait o) (sym analysis.settles.lits) analysis.conflict.whole.order.wait) released;
          };
        };
        follows = subst (λ (w : TrailView). Follows z w) e follows;
      })

  pub added : {U E : Type 0} (x : Result U E) (level : ℕ) (q : OrderView) (v : TrailView) (z : StoreView) → level ≤ r.back_to → IsSoundTrail v → v ≡ lowered level u → Releases o q (drop (count_to level u.marks) u.lits) → OnOk x (AddsClause s z r.number r.clause) → Follows z v
      → OnOk x (IsReady (state (having_seen b u.lits (min b.handed (count_to level u.marks))) v z new q))
  added (Ok y) level q v z le ok e released held follows = learned_ready level q v z le ok e released held follows
  added (Err y) level q v z le ok e released held follows = held

  -- where the search is once the clause was learned
  pub went_back : (d : TheoriesView) (v : TrailView) (z : StoreView) (q : OrderView) (restarts : Bool) (level : ℕ) → level ≡ (if restarts then 0 else r.back_to) → v ≡ lowered level u → Releases o q (drop (count_to level u.marks) u.lits)
      → GoesBack (state b t s steps o) (state d v z new q) restarts
  went_back d v z q restarts level is e released = record {
    learnt = r;
    learns = analysis.learns;
    settled = u;
    settles = analysis.settles;
    trail = e ∙ ap (λ (n : ℕ). lowered n u) is;
    order = subst (λ (n : ℕ). Releases o q (drop (count_to n u.marks) u.lits)) is released;
  }

pub on_ok : {U E : Type 0} (x : Result U E) (P : Type 0) → P → OnOk x P
on_ok (Ok y) P h = h
on_ok (Err y) P h = tt

pub on_err : {U E : Type 0} (x : Result U E) (P : Type 0) → P → OnErr x P
on_err (Ok y) P h = tt
on_err (Err y) P h = h

-- ---- the end

-- lemmas joined, and nothing more
pub journal-added : (p : Instance) (old new : List Step) → AddsLemmas old new → IsTrue (are_justified p new) → IsJournal p old → IsJournal p new
journal-added p old new a just j = subst (IsJournal p) (sym a.pushed) (journal-lemmas p old a.lemmas (subst (λ (ss : List Step). IsTrue (are_justified p ss)) a.pushed just) j)

pub journal-refuted : (p : Instance) (old new : List Step) (n : ℕ) → Refutes p old new n → IsTrue (are_justified p new) → IsJournal p old → IsJournal p new
journal-refuted p old new n r just j = record {
  justified = just;
  fresh = subst (HasNewChains p) (sym r.pushed) (fresh-chain p (old ++ lemma_steps r.lemmas) (record { clause = []; used = r.used }) (fresh-lemmas p old r.lemmas j.fresh) (λ full. absurd cc));
}

pub refuted : (p : Instance) (old new : List Step) (n : ℕ) → Refutes p old new n → IsTrue (are_justified p new) → IsTrue (is_refutation p new)
refuted p old new n r just = and_from (are_justified p new) (ends_empty new) just (ap ends_empty r.pushed ∙ ends-last (old ++ lemma_steps r.lemmas) (step.Chain (record { clause = []; used = r.used })))

-- what conflict analysis asks of the reasons
pub asks_reasons : (b : TheoriesView) (t : TrailView) (s : StoreView) (steps : List Step) (o : OrderView) (q : Instance) (n : ℕ) → IsInConflict (state b t s steps o) n → q ≡ b.problem → HasReasons q (clauses_after q steps) (λ i. seen_of b.facts i) t
asks_reasons b t s steps o q n conflict e = subst (λ (p : Instance). HasReasons p (clauses_after p steps) (λ i. seen_of b.facts i) t) (sym e) (has_reasons b (clauses_after b.problem steps) t conflict.whole.trail.shown conflict.whole.trail.reasons)

-- the budget is spent
pub spent : (v w : StateView) (budget n : ℕ) → IsInConflict v n → IsReady w → w.theories.problem ≡ v.theories.problem → w.steps ≡ v.steps → budget ≤ chain_count v.steps → IsEnd budget v w outcome.Unknown
spent v w budget n conflict ready problem steps le =
    let open_journal = ready.whole.journal in
    let new : AreNew w.theories.problem w.steps = record { chains = open_journal.journal.fresh; none_empty = open_journal.none_empty } in
    let same : chain_count w.steps ≡ chain_count v.steps = ap chain_count steps in
    record {
      ends = record { chains = omega (arith, same, le); new = new; few = enough w.theories.problem w.steps budget open_journal.journal.justified new (omega (arith, same, le)) };
      within = omega (arith, same, le);
      ready = λ u. ready;
    }
