-- Parts that have the same edges pass the same witnesses: the two that are kept, and the one that a clause leaves.
use Rattle.std.proofs.Common.{◌≡◌, ℕ, ◌<◌, Bool, true, false, not, ◌&&◌, cond, List, [], ◌∷◌, length, Some, None, refl, sym, ap, subst, ◌∙◌, ℤ, pos, neg_ℤ, arith}
use Rattle.std.specs.Prelude.{IsTrue, if◌then◌else◌}
use Rattle.mono_base.specs.Literal.{has_lit}
use Rattle.mono_graph.specs.declared.edge.Edge.{Edge}
use Rattle.mono_graph.specs.Digraph.{Digraph, IsPartOf, IsSubpart, edge_at, part_by, present}
use Rattle.mono_graph.proofs.Membership.{same_truth}
use Rattle.mono_graph.proofs.Parts.{in_part_by, length-part_by, part_by-has}
use Rattle.mono_graph.proofs.Places.{present_below}
use Rattle.mono_problem.specs.declared.atom.Atom.{Atom}
use Rattle.mono_problem.specs.declared.atom.Predicate.{Predicate}
use Rattle.mono_steps.specs.declared.fault.StepFault.TheVariants as fault
use Rattle.mono_steps.specs.declared.lemma.Witness.{Witness}
use Rattle.mono_steps.specs.Faults.{first_failed}
use Rattle.mono_steps.specs.Switching.{literal_of}
use Rattle.mono_steps.specs.Witnesses.{easiest_part, rests_on_present, part_for, part_free, part_not, passes, predicate_literal, shows_clause}
use Rattle.mono_steps.proofs.LemmaFaults.{length-part_for}
use Rattle.mono_steps.proofs.Witnessed.{passes-same, passes_over_easiest}

module _ (g : Digraph) where
  subpart : (P Q : List Bool) → IsPartOf P g → ((k : ℕ) → k < length g.edges → present P k ≡ present Q k) → IsSubpart P Q
  subpart P Q fits same = record { keeps = λ k here. let low = present_below P k here in sym (same k (omega (arith, low, fits))) ∙ here }

  pub same_passes : (P Q : List Bool) (q : Predicate) (w : Witness) → IsPartOf P g → IsPartOf Q g → ((k : ℕ) → k < length g.edges → present P k ≡ present Q k) → passes g P q w ≡ passes g Q q w
  same_passes P Q q w here there same = passes-same g P Q q w (subpart P Q here same) (subpart Q P there (λ k low. sym (same k low)))

  present_by : (test : Edge → Bool) (k : ℕ) → k < length g.edges → present (part_by test g) k ≡ test (edge_at g k)
  present_by test k low = same_truth (present (part_by test g) k) (test (edge_at g k)) (in_part_by test g k) (part_by-has test g k low)

  -- the part that has each edge, or none, by the word
  pub easiest_passes : (P : List Bool) (q : Predicate) (w : Witness) → IsPartOf P g → ((k : ℕ) → k < length g.edges → present P k ≡ rests_on_present w) → passes g P q w ≡ passes g (easiest_part g w) q w
  easiest_passes P q w fits each = same_passes P (easiest_part g w) q w fits (length-part_by (λ e. rests_on_present w) g) (λ k low. each k low ∙ sym (present_by (λ e. rests_on_present w) k low))

  -- the part that the clause leaves
  pub clause_passes : (P : List Bool) (c : List ℤ) (q : Predicate) (w : Witness) (b : Bool) → b ≡ rests_on_present w → IsPartOf P g
      → ((k : ℕ) → k < length g.edges → present P k ≡ cond (has_lit c (literal_of (not b) (edge_at g k).var)) b (not b)) → passes g P q w ≡ passes g (part_for c g w) q w
  clause_passes P c q w b is fits each = by_word b each ∙ ap (λ (d : Bool). passes g (if d then part_not c g else part_free c g) q w) is
    where
      swapped : (h : Bool) → cond h false true ≡ not h
      swapped true = refl
      swapped false = refl

      kept : (h : Bool) → cond h true false ≡ h
      kept true = refl
      kept false = refl

      by_word : (d : Bool) → ((k : ℕ) → k < length g.edges → present P k ≡ cond (has_lit c (literal_of (not d) (edge_at g k).var)) d (not d)) → passes g P q w ≡ passes g (if d then part_not c g else part_free c g) q w
      by_word true at = same_passes P (part_not c g) q w fits (length-part_by (λ e. has_lit c (neg_ℤ (pos e.var))) g)
          (λ k low. at k low ∙ kept (has_lit c (neg_ℤ (pos (edge_at g k).var))) ∙ sym (present_by (λ e. has_lit c (neg_ℤ (pos e.var))) k low))
      by_word false at = same_passes P (part_free c g) q w fits (length-part_by (λ e. not (has_lit c (pos e.var))) g)
          (λ k low. at k low ∙ swapped (has_lit c (pos (edge_at g k).var)) ∙ sym (present_by (λ e. not (has_lit c (pos e.var))) k low))

-- what was changed is changed back
pub put_back : (h b old mid new : Bool) → old ≡ not b → mid ≡ cond h b old → new ≡ cond h (not b) mid → new ≡ not b
put_back true b old mid new was there back = back
put_back false b old mid new was there back = back ∙ there ∙ was

-- where the witness passes over what the clause leaves, only the literal of the predicate can be missing
fault_by : (e p own : Bool) → (IsTrue p → IsTrue e) → IsTrue p → (if own then None else Some fault.MissingLiteral) ≡ first_failed ((not e, fault.WitnessFails) ∷ (not (own && p), fault.MissingLiteral) ∷ [])
fault_by true true true f h = refl
fault_by true true false f h = refl
fault_by false true own f h = absurd (let r = f refl in cc)
fault_by e false own f h = absurd cc

pub fault_of_passing : (g : Digraph) (x : Atom) (c : List ℤ) (w : Witness) (own : Bool) → own ≡ has_lit c (predicate_literal x w) → IsTrue (passes g (part_for c g w) x.predicate w)
    → (if own then None else Some fault.MissingLiteral) ≡ first_failed ((not (passes g (easiest_part g w) x.predicate w), fault.WitnessFails) ∷ (not (shows_clause g x c w), fault.MissingLiteral) ∷ [])
fault_of_passing g x c w own is h =
    subst (λ (b : Bool). (if own then None else Some fault.MissingLiteral) ≡ first_failed ((not (passes g (easiest_part g w) x.predicate w), fault.WitnessFails) ∷ (not (b && passes g (part_for c g w) x.predicate w), fault.MissingLiteral) ∷ [])) is
    (fault_by (passes g (easiest_part g w) x.predicate w) (passes g (part_for c g w) x.predicate w) own (passes_over_easiest g (part_for c g w) x.predicate w (length-part_for c g w)) h)
