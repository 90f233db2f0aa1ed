-- Kept evidence decides its predicate wherever its edges are as it needs them.
use Rattle.std.proofs.Common.{◌≡◌, ℕ, ◌<◌, Bool, true, false, not, cond, List, length, set, refl, sym, ap, subst, ◌∙◌, inl, inr, arith}
use Rattle.std.proofs.Math.Bool.{beq}
use Rattle.std.specs.Prelude.{IsTrue, Option, Some, None, IfSome, MatchOption}
use Rattle.std.proofs.lemmas.Bool.{cases_eq}
use Rattle.std.proofs.lemmas.List.{get_or-set_same, get_or-set_other, length-set}
use Rattle.mono_graph.specs.Digraph.{Digraph, IsGraph, present, has}
use Rattle.mono_graph.proofs.Membership.{has_get_or}
use Rattle.mono_problem.specs.declared.atom.Atom.{Atom}
use Rattle.mono_problem.specs.declared.atom.Predicate.{Predicate}
use Rattle.mono_problem.specs.Holds.{falls}
use Rattle.mono_problem.specs.WellFormed.{IsOver}
use Rattle.mono_steps.specs.declared.lemma.Witness.{Witness}
use Rattle.mono_steps.specs.Witnesses.{is_positive, rests_on_present, passes}
use Rattle.mono_steps.proofs.Witnessed.{passes-larger, passes-smaller}
use Rattle.mono_theory.specs.declared.evidence.Evidence.{Evidence}
use Rattle.mono_theory.specs.Evidences.{Decides, shown_by, IsEvidence, only, all_but}
use Rattle.mono_theory.specs.Sound.{AllHave, AreSound, EdgesBelow, IsRightIn, IsSound, IsWitnessIn, atom_at, evidence_at}
use Rattle.mono_theory.proofs.EvidenceDecides.{IsSided, by_value, decides, sign_of, evidence_passes, only-within, within-all_but}
use Rattle.mono_graph.proofs.Pigeons.{all_has}

-- ---- evidence that a search found

pub evidence_is_sound : (g : Digraph) (P : List Bool) (q : Predicate) (e : Evidence) (b : Bool) → rests_on_present e.witness ≡ b → IsEvidence g P q e → IsSound g q b e
evidence_is_sound g P q e b s h =
    let x = by_value s h in
    record { rests = s; known = h.known; small = h.small; held = λ i d lt. (h.sided i d lt).0; used = h.used; passes = x.passes }

pub evidence_has : (g : Digraph) (P : List Bool) (q : Predicate) (e : Evidence) (b : Bool) → rests_on_present e.witness ≡ b → IsEvidence g P q e → AllHave P b e.edges
evidence_has g P q e b s h = λ i d lt. (h.sided i d lt).1 ∙ s

-- ---- where it is right

pub sound_is_sided : (g : Digraph) (P : List Bool) (q : Predicate) (b : Bool) (e : Evidence) → IsSound g q b e → AllHave P b e.edges → IsSided g P q e b
sound_is_sided g P q b e h have = record {
  rests = h.rests;
  known = h.known;
  small = h.small;
  sided = λ k t. (all_has (λ j. j < length g.edges) e.edges k h.held t, all_has (λ j. present P j ≡ b) e.edges k have t);
  passes = h.passes;
}

pub sound_is_evidence : (g : Digraph) (P : List Bool) (q : Predicate) (b : Bool) (e : Evidence) → IsSound g q b e → AllHave P b e.edges → IsEvidence g P q e
sound_is_evidence g P q b e h have = record {
  known = h.known;
  small = h.small;
  sided = λ i d lt. (h.held i d lt, have i d lt ∙ sym h.rests);
  used = h.used;
  passes = subst (λ (c : Bool). IsTrue (passes g (cond c (only g e.edges) (all_but g e.edges)) q e.witness)) (sym h.rests) h.passes;
}

pub sound_decides : (g : Digraph) (P : List Bool) (q : Predicate) (b : Bool) (o : Option Evidence) → IsGraph g → IsOver g q → length P ≡ length g.edges → IfSome o (IsSound g q b) → IsRightIn P b o → Decides g P q (shown_by q b)
sound_decides g P q b None ok over len h right = absurd right
sound_decides g P q b (Some e) ok over len h right = subst (λ (c : Bool). Decides g P q (shown_by q c)) h.rests (subst (Decides g P q) (sign_of g P q e.witness (evidence_passes g P q e len (sound_is_evidence g P q b e h right))) (decides g P q e ok over len (sound_is_evidence g P q b e h right)))

-- ---- predicates that rise as edges come: what rests on present edges shows that they hold

pub shown_rising : (q : Predicate) (b : Bool) → falls q ≡ false → shown_by q b ≡ b
shown_rising q b rising = ap (λ f. cond f (not b) b) rising

pub rising_decides : (g : Digraph) (P : List Bool) (q : Predicate) (b : Bool) (o : Option Evidence) → falls q ≡ false → IsGraph g → IsOver g q → length P ≡ length g.edges → IfSome o (IsSound g q b) → IsRightIn P b o → Decides g P q b
rising_decides g P q b o rising ok over len h right = subst (Decides g P q) (shown_rising q b rising) (sound_decides g P q b o ok over len h right)

pub rising_sign : (g : Digraph) (P : List Bool) (q : Predicate) (w : Witness) (b : Bool) → falls q ≡ false → rests_on_present w ≡ b → IsTrue (passes g P q w) → is_positive w ≡ b
rising_sign g P q w b rising rests h = sign_of g P q w h ∙ shown_rising q (rests_on_present w) rising ∙ rests

-- ---- its witness passes over the part

pub sound_witness : (g : Digraph) (P : List Bool) (q : Predicate) (b : Bool) (e : Evidence) → length P ≡ length g.edges → IsSound g q b e → AllHave P b e.edges → IsWitnessIn g P q b e.witness
sound_witness g P q true e len h have =
    let x = sound_is_sided g P q true e h have in
    record { rests = h.rests; known = h.known; small = h.small; passes = passes-larger g (only g e.edges) P q e.witness (only-within g e.edges P (λ k t. (x.sided k t).1)) h.rests h.passes }
sound_witness g P q false e len h have =
    let x = sound_is_sided g P q false e h have in
    record { rests = h.rests; known = h.known; small = h.small; passes = passes-smaller g P (all_but g e.edges) q e.witness (within-all_but g e.edges P len (λ k t. (x.sided k t).1)) h.rests h.passes }

pub sound_witness_of : (g : Digraph) (P : List Bool) (q : Predicate) (b : Bool) (o : Option Evidence) (w : Witness) → length P ≡ length g.edges → IfSome o (IsSound g q b) → IsRightIn P b o → MatchOption o ⊥ (λ e. w ≡ e.witness) → IsWitnessIn g P q b w
sound_witness_of g P q b None w len h have is = absurd is
sound_witness_of g P q b (Some e) w len h have is = subst (IsWitnessIn g P q b) (sym is) (sound_witness g P q b e len h have)

pub sound_below : (g : Digraph) (q : Predicate) (b : Bool) (n : ℕ) (o : Option Evidence) → n ≡ length g.edges → IfSome o (IsSound g q b) → EdgesBelow n o
sound_below g q b n None len h = h
sound_below g q b n (Some e) len h = λ i d lt. (let below = h.held i d lt in omega (arith, below, len))

-- it is right in another part that agrees on its edges
pub right_by : (g : Digraph) (q : Predicate) (b : Bool) (P Q : List Bool) (o : Option Evidence) → IfSome o (IsSound g q b) → IsRightIn P b o → ((k : ℕ) → k < length g.edges → IfSome o (λ e. IsTrue (has e.edges k)) → present P k ≡ b → present Q k ≡ b) → IsRightIn Q b o
right_by g q b P Q None s h step = h
right_by g q b P Q (Some e) s h step = λ i d lt. step _ (s.held i d lt) (has_get_or e.edges i d lt) (h i d lt)

-- ---- one atom has other evidence

pub sound_put : {g : Digraph} {atoms : List Atom} {b : Bool} {xs : List (Option Evidence)} (a : ℕ) (e : Evidence) → a < length atoms → IsSound g (atom_at atoms a).predicate b e → AreSound g atoms b xs → AreSound g atoms b (set xs a (Some e))
sound_put {g = g} {atoms = atoms} {b = b} {xs = xs} a e lt this h =
    let here : evidence_at (set xs a (Some e)) a ≡ Some e = get_or-set_same xs a (Some e) None (omega (arith, lt, h.len)) in
    record {
      len = length-set xs a (Some e) ∙ h.len;
      each = λ x below. elim (cases_eq x a) [
        | inl s ↦ subst (λ (y : ℕ). IfSome (evidence_at (set xs a (Some e)) y) (IsSound g (atom_at atoms y).predicate b)) (sym s) (rw here this)
        | inr ne ↦ rw (get_or-set_other xs a x (Some e) None ne) (h.each x below)
      ];
    }

-- ---- two Booleans that are alike

pub not_unlike : (a b : Bool) → not (beq a b) ≡ false → a ≡ b
not_unlike true true h = refl
not_unlike true false h = absurd cc
not_unlike false true h = absurd cc
not_unlike false false h = refl

pub not_alike : (a b : Bool) → not (beq a b) ≡ true → a ≡ not b
not_alike true true h = absurd cc
not_alike true false h = refl
not_alike false true h = refl
not_alike false false h = absurd cc

pub like : (a b : Bool) → beq a b ≡ true → a ≡ b
like true true h = refl
like true false h = absurd cc
like false true h = absurd cc
like false false h = refl

pub unlike : (a b : Bool) → beq a b ≡ false → a ≡ not b
unlike true true h = absurd cc
unlike true false h = refl
unlike false true h = refl
unlike false false h = absurd cc
