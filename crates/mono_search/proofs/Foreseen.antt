-- A lemma that is unit joins the journal and the clauses, and its literal the trail.
use Rattle.std.proofs.Common.{suc, ◌≡◌, ℕ, ◌+◌, ◌<◌, List, [], ◌∷◌, ◌++◌, length, take, arith, refl, sym, ◌∙◌, ap, subst, ℤ, pos, All, length-append, add-one}
use Rattle.std.specs.Prelude.{IsTrue, Option, Some, None, Result, Ok, Err, IfOk, IfSome}
use Rattle.std.proofs.Math.Seq.{get_or-append_seam, take-append_seam}
use Rattle.mono_base.specs.Literal.{has_lit, lit_at, IsLitWithin}
use Rattle.mono_base.specs.Partial.{others_false}
use Rattle.mono_learn.specs.Reasons.{WasUnit}
use Rattle.mono_learn.proofs.LitSets.{has-append_left}
use Rattle.mono_learn.proofs.PlacesOfLits.{has_stands}
use Rattle.mono_clauses.specs.Store.{StoreView, AddsClause, Follows}
use Rattle.mono_clauses.proofs.FollowsKept.{follows_imply}
use Rattle.mono_problem.specs.Instance.{Instance, numbered}
use Rattle.mono_problem.specs.WellFormed.{IsInstance}
use Rattle.mono_steps.specs.declared.lemma.Lemma.{Lemma}
use Rattle.mono_steps.specs.declared.step.Step.{Step}
use Rattle.mono_steps.specs.declared.step.Step.TheVariants as step
use Rattle.mono_steps.specs.Steps.{are_justified, clauses_after}
use Rattle.mono_steps.proofs.JournalSteps.{after-append}
use Rattle.mono_theory.specs.declared.theory.UnitLemma.{UnitLemma}
use Rattle.mono_theory.specs.Owners.{OwnsEach}
use Rattle.mono_trail.specs.declared.reason.Reason.{Reason}
use Rattle.mono_trail.specs.declared.reason.Reason.TheVariants.{Clause, Decided, Late}
use Rattle.mono_trail.specs.Moves.{joined}
use Rattle.mono_trail.specs.Order.{OrderView}
use Rattle.mono_trail.specs.TrailView.{TrailView, IsSoundTrail}
use Rattle.mono_search.specs.Runs.{HasAdvanced, IsUnitNow}
use Rattle.mono_search.specs.State.{HoldsKnown, StateView, IsReady, IsSupported, KeepsReason, QuietAt}
use Rattle.mono_search.specs.Theories.{TheoriesView}
use Rattle.mono_search.specs.TheoryLists.{AnyGives}
use Rattle.mono_search.proofs.Growing.{IsJoining, kept_from, supported_from, kept-joined, not_decided, wait-grown}
use Rattle.mono_search.proofs.Holding.{held-lemma}
use Rattle.mono_search.proofs.Journals.{named_below, numbered-last}
use Rattle.mono_search.proofs.Propagating.{state, all_seen, open-lemmas, supported-lemmas}
use Rattle.mono_search.proofs.UnitLemmas.{unit_by}
use Rattle.mono_steps.specs.Journals.{known_clauses}
use Rattle.mono_trail.specs.Places.{reason_at}

-- what one of the theories has at hand is unit under the trail
pub unit_now : (b : TheoriesView) (t : TrailView) (s : StoreView) (steps : List Step) (o : OrderView) (u : UnitLemma) → IsReady (state b t s steps o) → IsInstance b.problem → OwnsEach b.problem b.facts → b.handed ≡ length t.lits → AnyGives b.facts u → IsUnitNow (state b t s steps o) u
unit_now b t s steps o u ready ok own all any =
    let is = unit_by b.problem b.facts t.lits u ok own (all_seen b t.lits ready.whole.trail.shown all) any in
    record {
      justified = is.justified;
      within = subst (λ (n : ℕ). All (IsLitWithin n) u.lemma.clause) (sym ready.whole.trail.vars) is.within;
      has = is.has;
      is_open = is.is_open;
      others = is.others;
    }

pub found_unit : {E : Type 0} (x : Result (Option UnitLemma) E) (b : TheoriesView) (t : TrailView) (s : StoreView) (steps : List Step) (o : OrderView) → IsReady (state b t s steps o) → IsInstance b.problem → OwnsEach b.problem b.facts → b.handed ≡ length t.lits
    → IfOk x (λ r. IfSome r (AnyGives b.facts)) → IfOk x (λ r. IfSome r (IsUnitNow (state b t s steps o)))
found_unit (Err e) b t s steps o ready ok own all h = h
found_unit (Ok None) b t s steps o ready ok own all h = h
found_unit (Ok (Some u)) b t s steps o ready ok own all h = unit_now b t s steps o u ready ok own all h

-- its open literal is of a variable that is there
pub lit_within : (v : StateView) (u : UnitLemma) → IsUnitNow v u → IsLitWithin v.trail.vars u.lit
lit_within v u unit = let i = has_stands u.lemma.clause u.lit unit.has in subst (λ (l : ℤ). IsLitWithin v.trail.vars l) i.there (unit.within i.place (pos 0) i.within)

-- ---- the lemma joins the journal

module _ (p : Instance) (steps : List Step) (m : Lemma) (n : ℕ) (number : n ≡ length (clauses_after p (steps ++ step.Lemma m ∷ []))) where
  after : clauses_after p (steps ++ step.Lemma m ∷ []) ≡ clauses_after p steps ++ m.clause ∷ []
  after = after-append p steps (step.Lemma m ∷ [])

  pub lemma_next : n ≡ suc (length (clauses_after p steps))
  lemma_next = number ∙ ap length after ∙ length-append (clauses_after p steps) (m.clause ∷ []) ∙ add-one (length (clauses_after p steps))

  pub lemma_there : numbered (clauses_after p (steps ++ step.Lemma m ∷ [])) n ≡ Some m.clause
  lemma_there = ap (numbered (clauses_after p (steps ++ step.Lemma m ∷ []))) lemma_next ∙ ap (λ (cs : List (List ℤ)). numbered cs (suc (length (clauses_after p steps)))) after ∙ numbered-last (clauses_after p steps) m.clause

  pub lemma_clause : (c : List ℤ) → numbered (clauses_after p (steps ++ step.Lemma m ∷ [])) n ≡ Some c → c ≡ m.clause
  lemma_clause c is = same c m.clause (sym is ∙ lemma_there)
    where
      same : (x y : List ℤ) → Some x ≡ Some y → x ≡ y
      same x y e = cc

  pub lemma_rising : (given : ℕ) (s : StoreView) → HoldsKnown p steps given s → All (λ h. h.number < n) s.clauses
  lemma_rising given s h = named_below (clauses_after p steps) s.clauses n (omega (arith, lemma_next)) h.named

-- how many lemmas were given changes no reason
reason-given : (b : TheoriesView) (g : ℕ) (cs : List (List ℤ)) (t : List ℤ) (k : ℕ) (why : Reason) → KeepsReason b cs t k why → KeepsReason (record b { given = g }) cs t k why
reason-given b g cs t k Decided w = w
reason-given b g cs t k (Clause n) w = w
reason-given b g cs t k (Late a m) w = record { handed = w.handed; some = w.some; forces = w.forces }

supported-given : (b : TheoriesView) (t : TrailView) (steps : List Step) (g : ℕ) → IsSupported b t steps → IsSupported (record b { given = g }) t steps
supported-given b t steps g f = record {
  vars = f.vars;
  sound = f.sound;
  shown = record { within = f.shown.within; current = f.shown.current };
  reasons = record { at = λ k lt. reason-given b g (clauses_after b.problem steps) t.lits k (reason_at t.marks k) (f.reasons.at k lt) };
  below = f.below;
}

-- the state once the lemma joined the journal and the clauses, and its literal the trail
module _ (b : TheoriesView) (t : TrailView) (s z : StoreView) (steps : List Step) (o : OrderView) (u : UnitLemma) (n : ℕ) (ok : IsInstance b.problem) (ready : IsReady (state b t s steps o)) (unit : IsUnitNow (state b t s steps o) u)
    (just : IsTrue (are_justified b.problem (steps ++ step.Lemma u.lemma ∷ []))) (number : n ≡ length (clauses_after b.problem (steps ++ step.Lemma u.lemma ∷ []))) (adds : AddsClause s z n u.lemma.clause) (follows : Follows z t) (sound : IsSoundTrail (joined t u.lit (Clause n))) where
  there : numbered (clauses_after b.problem (steps ++ step.Lemma u.lemma ∷ [])) n ≡ Some u.lemma.clause
  there = lemma_there b.problem steps u.lemma n number

  was_unit : WasUnit (clauses_after b.problem (steps ++ step.Lemma u.lemma ∷ [])) (t.lits ++ u.lit ∷ []) (length t.lits) n
  was_unit =
      let at : lit_at (t.lits ++ u.lit ∷ []) (length t.lits) ≡ u.lit = get_or-append_seam t.lits u.lit [] (pos 0) in
      let front : take (length t.lits) (t.lits ++ u.lit ∷ []) ≡ t.lits = take-append_seam t.lits (u.lit ∷ []) in
      record {
        clause = u.lemma.clause;
        is = there;
        has = subst (λ (l : ℤ). IsTrue (has_lit u.lemma.clause l)) (sym at) unit.has;
        others = subst (λ (l : ℤ). IsTrue (others_false (take (length t.lits) (t.lits ++ u.lit ∷ [])) u.lemma.clause l)) (sym at) (subst (λ (ls : List ℤ). IsTrue (others_false ls u.lemma.clause u.lit)) (sym front) unit.others);
      }

  supported : IsSupported b t (steps ++ step.Lemma u.lemma ∷ [])
  supported = supported-lemmas b t steps (u.lemma ∷ []) ready.whole.trail

  kept : IsJoining b (joined t u.lit (Clause n)) (steps ++ step.Lemma u.lemma ∷ [])
  kept = kept-joined b t (steps ++ step.Lemma u.lemma ∷ []) u.lit (Clause n) (kept_from b t (steps ++ step.Lemma u.lemma ∷ []) supported) was_unit (not_decided n (QuietAt b.problem (known_clauses b.problem (steps ++ step.Lemma u.lemma ∷ [])) t.lits))

  pub foreseen : HasAdvanced (state b t s steps o) (state (record b { given = b.given + 1 }) (joined t u.lit (Clause n)) z (steps ++ step.Lemma u.lemma ∷ []) o)
  foreseen = record {
    ready = record {
      whole = record {
        journal = open-lemmas b.problem steps (u.lemma ∷ []) just ready.whole.journal;
        held = held-lemma b.problem steps b.given s z n u.lemma ok unit.justified ready.whole.held adds (lemma_next b.problem steps u.lemma n number);
        trail = supported-given b (joined t u.lit (Clause n)) (steps ++ step.Lemma u.lemma ∷ []) (b.given + 1) (supported_from b (joined t u.lit (Clause n)) (steps ++ step.Lemma u.lemma ∷ []) kept sound);
        order = record { vars = ready.whole.order.vars; wait = wait-grown o t.lits (t.lits ++ u.lit ∷ []) (λ m h. has-append_left t.lits (u.lit ∷ []) m h) ready.whole.order.wait };
      };
      follows = follows_imply z t u.lit (Clause n) ready.whole.trail.sound (λ e. cc) follows;
    };
    vars = refl;
    more = omega (arith, length-append t.lits (u.lit ∷ []));
  }

-- its literals are of variables that are there
pub unit_within : (b : TheoriesView) (t : TrailView) (s : StoreView) (steps : List Step) (o : OrderView) (u : UnitLemma) (n : ℕ) (c : List ℤ) → IsReady (state b t s steps o) → IsUnitNow (state b t s steps o) u
    → n ≡ length (clauses_after b.problem (steps ++ step.Lemma u.lemma ∷ [])) → numbered (clauses_after b.problem (steps ++ step.Lemma u.lemma ∷ [])) n ≡ Some c → All (IsLitWithin s.vars) c
unit_within b t s steps o u n c ready unit number is =
    let vars : t.vars ≡ s.vars = ready.whole.trail.vars ∙ sym ready.whole.held.vars in
    subst (λ (k : ℕ). All (IsLitWithin k) c) vars (subst (λ (d : List ℤ). All (IsLitWithin t.vars) d) (sym (lemma_clause b.problem steps u.lemma n number c is)) unit.within)

-- whatever names the parts have by then
pub joined_lemma : (b d : TheoriesView) (t v : TrailView) (s z : StoreView) (steps new : List Step) (o : OrderView) (u : UnitLemma) (n : ℕ) (c : List ℤ) → IsInstance b.problem → IsReady (state b t s steps o) → IsUnitNow (state b t s steps o) u
    → (IsTrue (are_justified b.problem steps) → IsTrue (are_justified b.problem new)) → n ≡ length (clauses_after b.problem new) → numbered (clauses_after b.problem new) n ≡ Some c → new ≡ steps ++ step.Lemma u.lemma ∷ []
    → AddsClause s z n c → Follows z t → d ≡ record b { given = b.given + 1 } → v ≡ joined t u.lit (Clause n) → IsSoundTrail v → HasAdvanced (state b t s steps o) (state d v z new o)
joined_lemma b d t v s z steps new o u n c ok ready unit keeps number is pushed adds follows more there sound =
    let whole : List Step = steps ++ step.Lemma u.lemma ∷ [] in
    let just : IsTrue (are_justified b.problem whole) = subst (λ (ss : List Step). IsTrue (are_justified b.problem ss)) pushed (keeps ready.whole.journal.journal.justified) in
    let at : n ≡ length (clauses_after b.problem whole) = number ∙ ap (λ (ss : List Step). length (clauses_after b.problem ss)) pushed in
    let named : numbered (clauses_after b.problem whole) n ≡ Some c = ap (λ (ss : List Step). numbered (clauses_after b.problem ss) n) (sym pushed) ∙ is in
    let clause : c ≡ u.lemma.clause = lemma_clause b.problem steps u.lemma n at c named in
    let one : HasAdvanced (state b t s steps o) (state (record b { given = b.given + 1 }) (joined t u.lit (Clause n)) z whole o) =
    foreseen b t s z steps o u n ok ready unit just at (subst (λ (k : List ℤ). AddsClause s z n k) clause adds) follows (subst IsSoundTrail there sound) in
    subst (λ (ss : List Step). HasAdvanced (state b t s steps o) (state d v z ss o)) (sym pushed)
    (subst (λ (w : TrailView). HasAdvanced (state b t s steps o) (state d w z whole o)) (sym there)
    (subst (λ (e : TheoriesView). HasAdvanced (state b t s steps o) (state e (joined t u.lit (Clause n)) z whole o)) (sym more) one))
