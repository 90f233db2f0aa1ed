-- Where no atom waits, none owes anything; and an atom whose shown evidence is right forces its literal.
use Rattle.std.proofs.Common.{◌≡◌, ℕ, ◌+◌, ◌<◌, ◌⊎◌, Bool, true, false, not, cond, List, length, set, refl, ap, subst, inl, inr, arith, ℤ, pos}
use Rattle.std.specs.Prelude.{IsTrue, Option, Some, IfSome}
use Rattle.std.proofs.lemmas.Bool.{both_ways}
use Rattle.std.proofs.lemmas.List.{get_or_default}
use Rattle.std.proofs.lemmas.List.Sums.{sum_by-set}
use Rattle.mono_base.specs.Partial.{is_true_in, is_false_in}
use Rattle.mono_graph.specs.Digraph.{Digraph, IsGraph}
use Rattle.mono_problem.specs.declared.atom.Atom.{Atom}
use Rattle.mono_problem.specs.Holds.{Holds, falls}
use Rattle.mono_problem.specs.WellFormed.{IsOver}
use Rattle.mono_problem.specs.Quiet.{under, over, IsQuietAtom, TheoryQuiet}
use Rattle.mono_problem.specs.Read.{no_atom}
use Rattle.mono_steps.specs.Switching.{literal_of}
use Rattle.mono_theory.specs.declared.evidence.Evidence.{Evidence}
use Rattle.mono_theory.specs.declared.stage.Stage.{Stage}
use Rattle.mono_theory.specs.declared.stage.Stage.TheVariants as stage
use Rattle.mono_theory.specs.declared.theory.Force.{Force}
use Rattle.mono_theory.specs.declared.theory.Force.TheVariants as force
use Rattle.mono_theory.specs.Evidences.{Decides, shown_by}
use Rattle.mono_theory.specs.Frames.{AreAtomsOf}
use Rattle.mono_theory.specs.Sound.{IsRightIn, IsSound, atom_at, evidence_at}
use Rattle.mono_theory.specs.Stages.{NoneWaits, stage_at, waiting_count, waits}
use Rattle.mono_theory.specs.Supports.{AllQuiet, IsSettled, IsSide, SideIs, SideView, StageIs, part_of}
use Rattle.mono_theory.specs.Theories.{Facts, ForceIs, IsForced, atom_of}
use Rattle.mono_theory.proofs.PartsOfSides.{has_lit-take, part_len}
use Rattle.mono_theory.proofs.KeptEvidenceDecides.{sound_decides}
use Rattle.mono_theory.proofs.ForcedAndExplained.{overdue_is_forced, barred_is_forced}

-- ---- one atom fewer waits

abbrev weight : Stage → ℕ
weight x = cond (waits x) 1 0

pub one_fewer : (xs : List Stage) (a : ℕ) (y : Stage) → a < length xs → stage_at xs a ≡ stage.Waits → waits y ≡ false → waiting_count (set xs a y) + 1 ≡ waiting_count xs
one_fewer xs a y lt e off =
    let one : ℕ = 1 in
    let none : ℕ = 0 in
    let counted : weight (stage_at xs a) ≡ one = ap weight e in
    let left : weight y ≡ none = ap (λ (b : Bool). cond b one none) off in
    omega (arith, sum_by-set weight xs a y stage.Waits lt, counted, left)

-- ---- none waits

pub none_waiting : {f : Facts} {b : Bool} {s : SideView} → IsGraph f.graph → AreAtomsOf f.graph f.atoms → IsSide f b s → NoneWaits s.stages → AllQuiet f b
none_waiting {f = f} {b = b} {s = s} ok atoms h none = record {
  each = λ a lt. by_stage a lt (stage_at s.stages a) refl (h.right a lt);
}
  where
    over : (a : ℕ) → a < length f.atoms → IsOver f.graph (atom_at f.atoms a).predicate
    over a lt = (atoms.over a no_atom lt).1

    by_stage : (a : ℕ) → a < length f.atoms → (x : Stage) → stage_at s.stages a ≡ x → StageIs f b s a x → IsSettled f.seen b (atom_at f.atoms a) ⊎ Decides f.graph (part_of f.graph f.seen b) (atom_at f.atoms a).predicate (shown_by (atom_at f.atoms a).predicate b)
    by_stage a lt stage.Waits e is = absurd (none a stage.Waits (omega (arith, lt, h.stages_len)) e)
    by_stage a lt stage.Stands e is = inr (sound_decides f.graph (part_of f.graph f.seen b) (atom_at f.atoms a).predicate b (evidence_at s.supports a) ok (over a lt) (part_len f.graph f.seen b) (h.supports.each a lt) is)
    by_stage a lt (stage.Shows m) e is = inl (has_lit-take m f.seen (literal_of (shown_by (atom_at f.atoms a).predicate (not b)) (atom_at f.atoms a).var) is.settled)

-- ---- what is shown forces

pub forced_by : (g : Digraph) (atoms : List Atom) (t : List ℤ) (x : Atom) (b : Bool) → atom_of atoms x.number ≡ Some x → Decides g (part_of g t b) x.predicate (shown_by x.predicate (not b)) → is_true_in t (literal_of (shown_by x.predicate (not b)) x.var) ≡ false
    → IsForced g atoms t x.number (literal_of (shown_by x.predicate (not b)) x.var)
forced_by g atoms t x b found d missing = by (falls x.predicate) (λ holds off. overdue_is_forced g atoms t x found (holds, off)) (λ fails off. barred_is_forced g atoms t x found (fails, off)) b d missing
  where
    by : (f : Bool) → (Holds g (cond f (over g t) (under g t)) x.predicate → is_true_in t (pos x.var) ≡ false → IsForced g atoms t x.number (literal_of true x.var))
        → ((¬ Holds g (cond f (under g t) (over g t)) x.predicate) → is_false_in t (pos x.var) ≡ false → IsForced g atoms t x.number (literal_of false x.var))
        → (b : Bool) → Decides g (part_of g t b) x.predicate (cond f (not (not b)) (not b)) → is_true_in t (literal_of (cond f (not (not b)) (not b)) x.var) ≡ false → IsForced g atoms t x.number (literal_of (cond f (not (not b)) (not b)) x.var)
    by false up down true d missing = down d missing
    by false up down false d missing = up d missing
    by true up down true d missing = up d missing
    by true up down false d missing = down d missing

pub shown_forces : (g : Digraph) (atoms : List Atom) (t : List ℤ) (x : Atom) (b : Bool) (o : Option Evidence) → IsGraph g → IsOver g x.predicate → atom_of atoms x.number ≡ Some x → IfSome o (IsSound g x.predicate (not b))
    → IsRightIn (part_of g t b) (not b) o → is_true_in t (literal_of (shown_by x.predicate (not b)) x.var) ≡ false → IsForced g atoms t x.number (literal_of (shown_by x.predicate (not b)) x.var)
shown_forces g atoms t x b o ok over found sound right missing = forced_by g atoms t x b found (sound_decides g (part_of g t b) x.predicate (not b) o ok over (part_len g t b) sound right) missing

-- ---- both sides

quiet_atom : (g : Digraph) (t : List ℤ) (x : Atom) → IsSettled t false x ⊎ Decides g (part_of g t false) x.predicate (shown_by x.predicate false) → IsSettled t true x ⊎ Decides g (part_of g t true) x.predicate (shown_by x.predicate true) → IsQuietAtom g t x
quiet_atom g t x surely possibly = by (falls x.predicate) surely possibly
  where
    by : (f : Bool) → IsTrue (is_true_in t (literal_of (cond f (not true) true) x.var)) ⊎ Decides g (under g t) x.predicate (cond f (not false) false)
        → IsTrue (is_true_in t (literal_of (cond f (not false) false) x.var)) ⊎ Decides g (over g t) x.predicate (cond f (not true) true)
        → (Holds g (cond f (over g t) (under g t)) x.predicate → IsTrue (is_true_in t (pos x.var))) × (is_false_in t (pos x.var) ≡ false → Holds g (cond f (under g t) (over g t)) x.predicate)
    by false s p = (
      λ holds. elim s [ inl settled ↦ settled | inr fails ↦ absurd (fails holds) ],
      λ free. elim p [ inl settled ↦ absurd (both_ways (is_false_in t (pos x.var)) free settled) | inr holds ↦ holds ],
    )
    by true s p = (
      λ holds. elim p [ inl settled ↦ settled | inr fails ↦ absurd (fails holds) ],
      λ free. elim s [ inl settled ↦ absurd (both_ways (is_false_in t (pos x.var)) free settled) | inr holds ↦ holds ],
    )

pub quiet_by_sides : (f : Facts) → AllQuiet f false → AllQuiet f true → TheoryQuiet f.graph f.atoms f.seen
quiet_by_sides f surely possibly k d lt =
    subst (IsQuietAtom f.graph f.seen) (get_or_default f.atoms k no_atom d lt) (quiet_atom f.graph f.seen (atom_at f.atoms k) (surely.each k lt) (possibly.each k lt))

pub sides_are_force : (f : Facts) → AllQuiet f false → (r : Force) → SideIs f true r → ForceIs f.graph f.atoms f.seen r
sides_are_force f surely force.Quiet possibly = quiet_by_sides f surely possibly
sides_are_force f surely (force.Literal n l) forced = forced
