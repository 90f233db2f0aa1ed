-- What propagation keeps of a state: literals are handed on, forced literals join the trail, and lemmas the journal.
use Rattle.std.proofs.Common.{suc, ◌≡◌, ℕ, ◌+◌, ◌-◌, ◌<◌, ◌≤◌, List, [], ◌∷◌, ◌++◌, length, map, take, arith, refl, sym, ◌∙◌, ap, subst, ℤ, pos, All, length-append, add-one}
use Rattle.std.specs.Prelude.{Option, Some, None, MatchOption, IsTrue, Result, Ok, Err, IfOk, OnOk, OnErr}
use Rattle.std.proofs.Math.Seq.{get_or-append_seam, take-append_seam}
use Rattle.std.proofs.lemmas.List.{take_all}
use Rattle.mono_base.specs.Literal.{has_lit, lit_at}
use Rattle.mono_base.specs.Partial.{is_false_in, unit_quiet}
use Rattle.mono_problem.specs.Instance.{Instance, numbered}
use Rattle.mono_problem.specs.WellFormed.{IsInstance}
use Rattle.mono_steps.specs.declared.lemma.Lemma.{Lemma}
use Rattle.mono_steps.specs.declared.step.Step.{Step}
use Rattle.mono_steps.specs.Steps.{are_justified, clause_of, clauses_after}
use Rattle.mono_steps.specs.declared.step.Step.TheVariants as step
use Rattle.mono_search.specs.declared.theories.Forced.{Forced}
use Rattle.mono_trail.specs.declared.reason.Reason.TheVariants.{Late}
use Rattle.mono_trail.specs.TrailView.{TrailView, IsSoundTrail, count_to}
use Rattle.mono_trail.specs.Moves.{joined}
use Rattle.mono_clauses.specs.Store.{StoreView}
use Rattle.mono_steps.specs.Journals.{chain_count, known_clauses, lemma_steps}
use Rattle.mono_trail.specs.Order.{OrderView}
use Rattle.mono_search.specs.TheoryLists.{seen_of, shown_of, IsCurrent, IsQuietTheory, IsShort, AnyForces}
use Rattle.mono_learn.specs.Explain.{AtomForces, IsExplanation}
use Rattle.mono_learn.proofs.LitSets.{has-append_left}
use Rattle.mono_theory.specs.Owners.{OwnsEach}
use Rattle.mono_search.specs.Theories.{TheoriesView, HaveSeen, AtomsQuiet, having_seen}
use Rattle.mono_search.specs.State.{StateView, WasLate, KeepsReasons, QuietAt, QuietBelow, IsNamed, IsJournal, IsSupported, IsOpenJournal, HoldsKnown, IsConsistent, IsReady, IsInConflict}
use Rattle.mono_search.specs.Runs.{CanImply, HasAdvanced}
use Rattle.mono_search.proofs.Lists.{has-take, others_false-wider, false_whole}
use Rattle.mono_steps.proofs.NewSteps.{fresh-lemmas}
use Rattle.mono_steps.proofs.JournalSteps.{no_empty-append, no_empty-lemmas, known-lemmas, chains-lemmas, after-append}
use Rattle.mono_search.proofs.Journals.{named-left, numbered-last}
use Rattle.mono_search.proofs.Reasons.{reasons-having_seen, reasons-more, seen_is_shown, shown-in}
use Rattle.mono_search.proofs.Growing.{kept_from, supported_from, kept-joined, wait-grown, present_lit, quiet_at_start}
use Rattle.mono_base.proofs.Partials.{is_partial-take}
use Rattle.mono_clauses.proofs.FollowsKept.{follows_imply}
use Rattle.mono_search.proofs.Following.{following_goes_below}
use Rattle.mono_search.proofs.Owners.{current-at}
use Rattle.mono_search.proofs.Quiets.{quiet_atoms, forced_is, all_short, lemma_not_false}

abbrev pub state : TheoriesView → TrailView → StoreView → List Step → OrderView → StateView
state b t s steps o = record { theories = b; trail = t; store = s; steps = steps; order = o }

-- ---- literals are handed on

pub supported-having_seen : (b : TheoriesView) (t : TrailView) (steps : List Step) (n : ℕ) → n ≤ length t.lits → ((k : ℕ) → k < length t.lits → k ≤ b.handed → k ≤ n) → IsSupported b t steps → IsSupported (having_seen b t.lits n) t steps
supported-having_seen b t steps n le more f = record {
  vars = f.vars;
  sound = f.sound;
  shown = record { within = le; current = current-at b.facts (take n t.lits) };
  reasons = reasons-having_seen b (clauses_after b.problem steps) t.lits t.marks t.lits n more f.reasons;
  below = f.below;
}

pub handed_ready : (v : StateView) → IsReady v → IsReady (record v { theories = having_seen v.theories v.trail.lits (length v.trail.lits) })
handed_ready v r = record {
  whole = record {
    journal = r.whole.journal;
    held = r.whole.held;
    trail = supported-having_seen v.theories v.trail v.steps (length v.trail.lits) (omega arith) (λ k lt le. omega (arith, lt)) r.whole.trail;
    order = r.whole.order;
  };
  follows = r.follows;
}

-- ---- what an atom forces

pub all_seen : (b : TheoriesView) (t : List ℤ) → HaveSeen b t → b.handed ≡ length t → All (IsCurrent t) b.facts
all_seen b t s all = subst (λ (u : List ℤ). All (IsCurrent u) b.facts) (take_all b.handed t (omega (arith, all))) s.current

pub seen_all : (b : TheoriesView) (t : List ℤ) (n : ℕ) → HaveSeen b t → b.handed ≡ length t → seen_of b.facts n ≡ shown_of b.facts t n
seen_all b t n s all = seen_is_shown b t n s ∙ ap (λ (u : List ℤ). shown_of b.facts u n) (take_all b.handed t (omega (arith, all)))

pub can_imply : (b : TheoriesView) (t : TrailView) (s : StoreView) (steps : List Step) (o : OrderView) → IsReady (state b t s steps o) → IsInstance b.problem → OwnsEach b.problem b.facts → b.handed ≡ length t.lits → (r : Forced) → AnyForces b.facts r → CanImply (state b t s steps o) r
can_imply b t s steps o ready ok own all r any =
    let f = forced_is b.problem b.facts t.lits r ok own (all_seen b t.lits ready.whole.trail.shown all) any in
    let e = seen_all b t.lits r.atom ready.whole.trail.shown all in
    record {
      handed = all;
      kept = f.kept ∙ ap length e;
      forces = subst (λ (u : List ℤ). AtomForces b.problem u r.atom r.lit) e f.forces;
      not_yet = f.not_yet;
      within = (f.within.0, omega (arith, f.within.1, ready.whole.trail.vars));
    }

pub force_answer : {E : Type 0} (x : Result (Option Forced) E) (b : TheoriesView) (t : TrailView) (s : StoreView) (steps : List Step) (o : OrderView) → IsReady (state b t s steps o) → IsInstance b.problem → OwnsEach b.problem b.facts → b.handed ≡ length t.lits
    → IfOk x (λ r. MatchOption r (All IsQuietTheory b.facts) (AnyForces b.facts)) → IfOk x (λ r. MatchOption r (AtomsQuiet b.problem t.lits) (CanImply (state b t s steps o)))
force_answer (Err e) b t s steps o ready ok own all h = h
force_answer (Ok None) b t s steps o ready ok own all h = quiet_atoms b.problem b.facts t.lits own (all_seen b t.lits ready.whole.trail.shown all) h
force_answer (Ok (Some r)) b t s steps o ready ok own all h = can_imply b t s steps o ready ok own all r h

pub short_seen : (v : StateView) → IsReady v → IsInstance v.theories.problem → All IsShort v.theories.facts
short_seen v r ok = all_short v.theories v.trail.lits r.whole.trail.shown (omega (arith, r.whole.trail.sound.few_lits, r.whole.trail.vars, ok.vars))

-- ---- a forced literal joins the trail

pub implied : (b : TheoriesView) (t : TrailView) (s : StoreView) (steps : List Step) (o : OrderView) (n k : ℕ) (l : ℤ) → IsReady (state b t s steps o) → CanImply (state b t s steps o) (record { atom = n; lit = l; kept = k }) → IsSoundTrail (joined t l (Late n k))
    → HasAdvanced (state b t s steps o) (state b (joined t l (Late n k)) s steps o)
implied b t s steps o n k l r f sound =
    let front : take (length t.lits) (t.lits ++ l ∷ []) ≡ t.lits = take-append_seam t.lits (l ∷ []) in
    let at : lit_at (t.lits ++ l ∷ []) (length t.lits) ≡ l = get_or-append_seam t.lits l [] (pos 0) in
    let shown : shown_of b.facts (take (length t.lits) (t.lits ++ l ∷ [])) n ≡ shown_of b.facts t.lits n = ap (λ (u : List ℤ). shown_of b.facts u n) front in
    let all : take k (shown_of b.facts t.lits n) ≡ shown_of b.facts t.lits n = take_all k (shown_of b.facts t.lits n) (omega (arith, f.kept)) in
    let late : WasLate b (t.lits ++ l ∷ []) (length t.lits) n k = record {
      handed = omega (arith, f.handed);
      some = omega (arith, f.kept, ap length shown);
      forces = subst (λ (m : ℤ). AtomForces b.problem (take k (shown_of b.facts (take (length t.lits) (t.lits ++ l ∷ [])) n)) n m) (sym at)
          (subst (λ (u : List ℤ). AtomForces b.problem (take k u) n l) (sym shown) (subst (λ (u : List ℤ). AtomForces b.problem u n l) (sym all) f.forces));
    } in
    let kept = kept-joined b t steps l (Late n k) (kept_from b t steps r.whole.trail) late (λ e. cc) in
    record {
      ready = record {
        whole = record {
          journal = r.whole.journal;
          held = r.whole.held;
          trail = supported_from b (joined t l (Late n k)) steps kept sound;
          order = record { vars = r.whole.order.vars; wait = wait-grown o t.lits (t.lits ++ l ∷ []) (λ m h. has-append_left t.lits (l ∷ []) m h) r.whole.order.wait };
        };
        follows = follows_imply s t l (Late n k) r.whole.trail.sound (λ e. cc) r.follows;
      };
      vars = refl;
      more = omega (arith, length-append t.lits (l ∷ []));
    }

-- ---- lemmas join the journal

pub journal-lemmas : (p : Instance) (steps : List Step) (ls : List Lemma) → IsTrue (are_justified p (steps ++ lemma_steps ls)) → IsJournal p steps → IsJournal p (steps ++ lemma_steps ls)
journal-lemmas p steps ls just j = record { justified = just; fresh = fresh-lemmas p steps ls j.fresh }

pub open-lemmas : (p : Instance) (steps : List Step) (ls : List Lemma) → IsTrue (are_justified p (steps ++ lemma_steps ls)) → IsOpenJournal p steps → IsOpenJournal p (steps ++ lemma_steps ls)
open-lemmas p steps ls just g = record { journal = journal-lemmas p steps ls just g.journal; none_empty = no_empty-append steps (lemma_steps ls) g.none_empty (no_empty-lemmas ls) }

pub holds-lemmas : (p : Instance) (steps : List Step) (ls : List Lemma) (given : ℕ) (s : StoreView) → HoldsKnown p steps given s → HoldsKnown p (steps ++ lemma_steps ls) given s
holds-lemmas p steps ls given s h =
    let known : known_clauses p (steps ++ lemma_steps ls) ≡ known_clauses p steps = known-lemmas p steps ls in
    record {
      vars = h.vars;
      named = subst (λ (cs : List (List ℤ)). All (IsNamed cs) s.clauses) (sym (after-append p steps (lemma_steps ls))) (named-left (clauses_after p steps) (map clause_of (lemma_steps ls)) s.clauses h.named);
      count = h.count ∙ ap (λ (n : ℕ). (length p.clauses + n) + given) (sym (ap length (chains-lemmas steps ls)));
      units = λ t quiet. subst (λ (cs : List (List ℤ)). IsTrue (unit_quiet cs t)) (sym known) (h.units t quiet);
      none_false = λ t d quiet. h.none_false t d (subst (λ (cs : List (List ℤ)). QuietAt p cs t) known quiet);
    }

pub supported-lemmas : (b : TheoriesView) (t : TrailView) (steps : List Step) (ls : List Lemma) → IsSupported b t steps → IsSupported b t (steps ++ lemma_steps ls)
supported-lemmas b t steps ls f = record {
  vars = f.vars;
  sound = f.sound;
  shown = f.shown;
  reasons = subst (λ (cs : List (List ℤ)). KeepsReasons b cs t.lits t.marks) (sym (after-append b.problem steps (lemma_steps ls))) (reasons-more b (clauses_after b.problem steps) _ t.lits t.marks f.reasons);
  below = subst (λ (cs : List (List ℤ)). QuietBelow b.problem cs t.lits t.marks) (sym (known-lemmas b.problem steps ls)) f.below;
}

pub consistent-lemmas : (b : TheoriesView) (t : TrailView) (s : StoreView) (steps : List Step) (o : OrderView) (ls : List Lemma) → IsTrue (are_justified b.problem (steps ++ lemma_steps ls)) → IsConsistent (state b t s steps o) → IsConsistent (state b t s (steps ++ lemma_steps ls) o)
consistent-lemmas b t s steps o ls just w = record { journal = open-lemmas b.problem steps ls just w.journal; held = holds-lemmas b.problem steps ls b.given s w.held; trail = supported-lemmas b t steps ls w.trail; order = w.order }

-- the lemma of a forced literal that is false is a conflict
pub explained_conflict : (b : TheoriesView) (t : TrailView) (s : StoreView) (steps : List Step) (o : OrderView) (f : Forced) (m : Lemma) → IsInstance b.problem → IsReady (state b t s steps o) → CanImply (state b t s steps o) f → IsTrue (is_false_in t.lits f.lit)
    → IsExplanation b.problem (take f.kept (seen_of b.facts f.atom)) f.atom f.lit m → IsTrue (are_justified b.problem (steps ++ step.Lemma m ∷ [])) → IsInConflict (state b t s (steps ++ step.Lemma m ∷ []) o) (length (clauses_after b.problem (steps ++ step.Lemma m ∷ [])))
explained_conflict b t s steps o f m ok r can wrong ex just =
    let whole = consistent-lemmas b t s steps o (m ∷ []) just r.whole in
    let cs = clauses_after b.problem steps in
    let after : clauses_after b.problem (steps ++ step.Lemma m ∷ []) ≡ cs ++ m.clause ∷ [] = after-append b.problem steps (step.Lemma m ∷ []) in
    let len : length (clauses_after b.problem (steps ++ step.Lemma m ∷ [])) ≡ suc (length cs) = ap length after ∙ length-append cs (m.clause ∷ []) ∙ add-one (length cs) in
    let there : numbered (clauses_after b.problem (steps ++ step.Lemma m ∷ [])) (length (clauses_after b.problem (steps ++ step.Lemma m ∷ []))) ≡ Some m.clause = ap (λ (n : ℕ). numbered (clauses_after b.problem (steps ++ step.Lemma m ∷ [])) n) len ∙ ap (λ (ds : List (List ℤ)). numbered ds (suc (length cs))) after ∙ numbered-last cs m.clause in
    let others = others_false-wider (take f.kept (seen_of b.facts f.atom)) t.lits m.clause f.lit
    (λ l h. shown-in b.facts t.lits f.atom l (subst (λ (u : List ℤ). IsTrue (has_lit u l)) (seen_all b t.lits f.atom r.whole.trail.shown can.handed) (has-take (seen_of b.facts f.atom) f.kept l h))) ex.others in
    let is_false = false_whole t.lits m.clause f.lit others wrong in
    record {
      whole = whole;
      follows = following_goes_below s t r.follows;
      is_false = record { clause = m.clause; is = there; is_false = is_false };
      present = λ one.
          let start = count_to (t.level - 1) t.marks in
          let quiet = quiet_at_start b t steps r.whole.trail one in
          let p = present_lit t m.clause r.whole.trail.sound one is_false (lemma_not_false b.problem (take start t.lits) ok quiet.atoms (is_partial-take start t.lits r.whole.trail.sound.partial) m ex.justified) in
          record { clause = m.clause; is = there; is_false = is_false; lit = p.lit; has = p.has; present = p.stands };
    }

-- ---- whatever a push answered

pub pushed_journal : {E : Type 0} (x : Result ℕ E) (p : Instance) (old new : List Step) (m : Lemma) → OnOk x (new ≡ old ++ step.Lemma m ∷ []) → OnOk x (IsTrue (are_justified p old) → IsTrue (are_justified p new)) → OnErr x (new ≡ old) → IsJournal p old → IsJournal p new
pushed_journal (Ok n) p old new m ok keeps err j = subst (IsJournal p) (sym ok) (journal-lemmas p old (m ∷ []) (subst (λ (ss : List Step). IsTrue (are_justified p ss)) ok (keeps j.justified)) j)
pushed_journal (Err e) p old new m ok keeps err j = subst (IsJournal p) (sym err) j

pub pushed_chains : {E : Type 0} (x : Result ℕ E) (old new : List Step) (m : Lemma) → OnOk x (new ≡ old ++ step.Lemma m ∷ []) → OnErr x (new ≡ old) → chain_count new ≡ chain_count old
pushed_chains (Ok n) old new m ok err = ap chain_count ok ∙ ap length (chains-lemmas old (m ∷ []))
pushed_chains (Err e) old new m ok err = ap chain_count err

pub pushed_conflict : {E : Type 0} (x : Result ℕ E) (b : TheoriesView) (t : TrailView) (s : StoreView) (steps new : List Step) (o : OrderView) (f : Forced) (m : Lemma) → IsInstance b.problem → IsReady (state b t s steps o) → CanImply (state b t s steps o) f → IsTrue (is_false_in t.lits f.lit)
    → IsExplanation b.problem (take f.kept (seen_of b.facts f.atom)) f.atom f.lit m → OnOk x (new ≡ steps ++ step.Lemma m ∷ []) → IfOk x (λ n. n ≡ length (clauses_after b.problem new)) → OnOk x (IsTrue (are_justified b.problem steps) → IsTrue (are_justified b.problem new)) → IfOk x (IsInConflict (state b t s new o))
pushed_conflict (Err e) b t s steps new o f m ok r can wrong ex is number keeps = is
pushed_conflict (Ok n) b t s steps new o f m ok r can wrong ex is number keeps =
    let just = subst (λ (ss : List Step). IsTrue (are_justified b.problem ss)) is (keeps r.whole.journal.journal.justified) in
    let conflict = explained_conflict b t s steps o f m ok r can wrong ex just in
    subst (λ (k : ℕ). IsInConflict (state b t s new o) k) (sym number) (subst (λ (ss : List Step). IsInConflict (state b t s ss o) (length (clauses_after b.problem ss))) (sym is) conflict)

pub explainable : (b : TheoriesView) (t : TrailView) (s : StoreView) (steps : List Step) (o : OrderView) (f : Forced) → IsReady (state b t s steps o) → CanImply (state b t s steps o) f → (f.kept ≤ length (seen_of b.facts f.atom)) × AtomForces b.problem (take f.kept (seen_of b.facts f.atom)) f.atom f.lit
explainable b t s steps o f r can =
    let e = seen_all b t.lits f.atom r.whole.trail.shown can.handed in
    let all : take f.kept (seen_of b.facts f.atom) ≡ seen_of b.facts f.atom = take_all f.kept (seen_of b.facts f.atom) (omega (arith, can.kept, ap length e)) in
    (omega (arith, can.kept, ap length e), subst (λ (u : List ℤ). AtomForces b.problem u f.atom f.lit) (sym (all ∙ e)) can.forces)

pub implied_as : (b : TheoriesView) (t u : TrailView) (s : StoreView) (steps : List Step) (o : OrderView) (f : Forced) → IsReady (state b t s steps o) → CanImply (state b t s steps o) f → u ≡ joined t f.lit (Late f.atom f.kept) → IsSoundTrail u
    → HasAdvanced (state b t s steps o) (state b u s steps o)
implied_as b t u s steps o f r can e sound = subst (λ (w : TrailView). HasAdvanced (state b t s steps o) (state b w s steps o)) (sym e) (implied b t s steps o f.atom f.kept f.lit r can (subst IsSoundTrail e sound))
