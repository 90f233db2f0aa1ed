-- A lemma is justified exactly where the checks in their order find no fault.
use Rattle.std.proofs.Common.{◌≡◌, Bool, true, false, not, ◌&&◌, ◌||◌, List, [], ◌∷◌, Option, Some, None, length, refl, sym, ap, subst, ◌∙◌, ℤ, ◌↔◌}
use Rattle.std.proofs.Math.Path.{fun_ext}
use Rattle.std.specs.Prelude.{IsTrue, if◌then◌else◌, pos, neg_ℤ}
use Rattle.std.proofs.lemmas.Bool.{and_parts, and_from}
use Rattle.mono_base.specs.Literal.{has_lit}
use Rattle.mono_graph.specs.Digraph.{Digraph, part_by}
use Rattle.mono_graph.proofs.Parts.{length-part_by}
use Rattle.mono_problem.specs.declared.atom.Atom.{Atom}
use Rattle.mono_problem.specs.Instance.{Instance, graph_at, numbered}
use Rattle.mono_steps.specs.declared.lemma.Lemma.{Lemma}
use Rattle.mono_steps.specs.declared.lemma.Witness.{Witness}
use Rattle.mono_steps.specs.declared.fault.StepFault.{StepFault}
use Rattle.mono_steps.specs.declared.fault.StepFault.TheVariants as fault
use Rattle.mono_steps.specs.ChainSteps.{names_vars}
use Rattle.mono_steps.specs.Current.{IsSetOf}
use Rattle.mono_steps.specs.Faults.{first_failed}
use Rattle.mono_steps.specs.Witnesses.{serves, is_shown, rests_on_present, is_small, names_known, passes, part_not, part_free, part_for, easiest_part, predicate_literal, shows_clause, justifies_by, justifies, lemma_fault_by, lemma_fault}
use Rattle.mono_steps.proofs.Witnessed.{passes_over_easiest}

pub length-part_for : (c : List ℤ) (g : Digraph) (w : Witness) → length (part_for c g w) ≡ length g.edges
length-part_for c g w = by_word (rests_on_present w)
  where
    by_word : (b : Bool) → length (if b then part_not c g else part_free c g) ≡ length g.edges
    by_word true = length-part_by (λ e. has_lit c (neg_ℤ (pos e.var))) g
    by_word false = length-part_by (λ e. not (has_lit c (pos e.var))) g

-- a clause that has what it needs has a witness that can pass
needed_passes : (g : Digraph) (x : Atom) (c : List ℤ) (w : Witness) → IsTrue (shows_clause g x c w) → IsTrue (passes g (easiest_part g w) x.predicate w)
needed_passes g x c w h = passes_over_easiest g (part_for c g w) x.predicate w (length-part_for c g w) (and_parts (has_lit c (predicate_literal x w)) (passes g (part_for c g w) x.predicate w) h).1

-- the checks by their results: the word serves, the variables and what the witness names are known, the witness can pass, the
-- clause has what it needs
abbrev checked : Bool → Bool → Bool → Bool → Bool → Option StepFault
checked s v k b o = first_failed ((not s, fault.WrongKind) ∷ (not v || not k, fault.UnknownNumber) ∷ (not b, fault.WitnessFails) ∷ (not o, fault.MissingLiteral) ∷ [])

all_pass : (v s k m b o : Bool) → IsTrue (v && (s && k && m && o)) → (IsTrue o → IsTrue b) → IsTrue m × (checked s v k b o ≡ None)
all_pass true true true true true true h f = (refl, refl)
all_pass true true true true false true h f = absurd (let e = f refl in cc)
all_pass v s k m b o h f = absurd cc

none_fails : (s v k m b o : Bool) → IsTrue m → checked s v k b o ≡ None → IsTrue (v && (s && k && m && o))
none_fails true true true true true true h e = refl
none_fails s v k m b o h e = absurd cc

pub justified_no_fault : (p : Instance) (l : Lemma) → IsTrue (justifies p l) ↔ (IsTrue (is_small l.witness) × (lemma_fault p l ≡ None))
justified_no_fault p l = by_atom (numbered p.atoms l.atom)
  where
    by_atom : (o : Option Atom) → IsTrue (elim o [ None ↦ false | Some x ↦ justifies_by p x l ]) ↔ (IsTrue (is_small l.witness) × ((elim o [ None ↦ Some fault.UnknownAtom | Some x ↦ lemma_fault_by p x l ]) ≡ None))
    by_atom None = (λ h. absurd cc, λ h. absurd (let e = h.1 in cc))
    by_atom (Some x) =
        let g : Digraph = graph_at p x.graph in
        let w : Witness = l.witness in (
          λ h. all_pass (names_vars p l.clause) (serves w x.predicate) (names_known g w) (is_small w) (passes g (easiest_part g w) x.predicate w) (shows_clause g x l.clause w) h (needed_passes g x l.clause w),
          λ h. none_fails (serves w x.predicate) (names_vars p l.clause) (names_known g w) (is_small w) (passes g (easiest_part g w) x.predicate w) (shows_clause g x l.clause w) h.0 h.1,
        )

-- a lemma that its predicate's graph shows is justified where its variables are the problem's
pub shown_justified : (p : Instance) (x : Atom) (l : Lemma) → numbered p.atoms l.atom ≡ Some x → IsTrue (names_vars p l.clause) → IsTrue (is_shown (graph_at p x.graph) x l) → IsTrue (justifies p l)
shown_justified p x l e names shown =
    subst (λ (o : Option Atom). IsTrue (elim o [ None ↦ false | Some y ↦ justifies_by p y l ])) (sym e) (and_from (names_vars p l.clause) (is_shown (graph_at p x.graph) x l) names shown)

-- ---- what is left once the lemma's numbers are known

-- two lists with the same literals show the same
same_shown : (g : Digraph) (x : Atom) (s c : List ℤ) (w : Witness) → IsSetOf s c → shows_clause g x s w ≡ shows_clause g x c w
same_shown g x s c w same = ap (λ (h : ℤ → Bool). h (predicate_literal x w) && passes g (if rests_on_present w then part_by (λ e. h (neg_ℤ (pos e.var))) g else part_by (λ e. not (h (pos e.var))) g) x.predicate w) (fun_ext same)

pub last_checks : (p : Instance) (l : Lemma) (x : Atom) (s : List ℤ) → numbered p.atoms l.atom ≡ Some x → IsTrue (serves l.witness x.predicate) → IsTrue (names_vars p l.clause) → IsTrue (names_known (graph_at p x.graph) l.witness) → IsSetOf s l.clause
    → first_failed ((not (passes (graph_at p x.graph) (easiest_part (graph_at p x.graph) l.witness) x.predicate l.witness), fault.WitnessFails) ∷ (not (shows_clause (graph_at p x.graph) x s l.witness), fault.MissingLiteral) ∷ []) ≡ lemma_fault p l
last_checks p l x s number serve vars known same =
    let g : Digraph = graph_at p x.graph in
    let e : Bool = passes g (easiest_part g l.witness) x.predicate l.witness in
    ap (λ (b : Bool). first_failed ((not e, fault.WitnessFails) ∷ (not b, fault.MissingLiteral) ∷ [])) (same_shown g x s l.clause l.witness same)
    ∙ sym (ap (λ (o : Option Atom). elim o [ None ↦ Some fault.UnknownAtom | Some y ↦ lemma_fault_by p y l ]) number
    ∙ ap (λ (b : Bool). checked b (names_vars p l.clause) (names_known g l.witness) e (shows_clause g x l.clause l.witness)) serve
    ∙ ap (λ (b : Bool). checked true b (names_known g l.witness) e (shows_clause g x l.clause l.witness)) vars
    ∙ ap (λ (b : Bool). checked true true b e (shows_clause g x l.clause l.witness)) known)
