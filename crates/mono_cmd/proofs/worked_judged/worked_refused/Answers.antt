use Rattle.std.proofs.Common.{◌≡◌, ℕ, List, Option, Some, None, codes, refl, ap, sym, subst, ◌∙◌, arith, inl, inr}
use Rattle.std.specs.Fmt.{digits}
use Rattle.std.specs.Prelude.{slice_index}
use Rattle.mono_problem.specs.Instance.{Instance}
use Rattle.mono_gnf.specs.Faults.{first_fault}
use Rattle.mono_gnf.specs.Statements.{statement_of}
use Rattle.mono_gnf.specs.declared.fault.GnfFault.{GnfFault}
use Rattle.mono_gnf.specs.declared.fault.GnfFault.TheVariants as fault
use Rattle.mono_best.specs.Asking.{HasBoundedAtom}
use Rattle.mono_forms.specs.declared.asking.AskRefusal.{AskRefusal}
use Rattle.mono_forms.specs.declared.asking.AskRefusal.TheVariants as refusal
use Rattle.mono_words.specs.declared.command.Command.TheVariants as command
use Rattle.mono_forms.specs.declared.ending.Ending.TheVariants as ending
use Rattle.mono_forms.specs.BestTexts.{refusal_text}
use Rattle.mono_forms.specs.Endings.{text_of}
use Rattle.mono_cmd.specs.Refusals.{IsRefusal}
use Rattle.mono_forms.specs.Runs.{IsUnasked}
use Rattle.mono_cmd.proofs.worked_judged.worked_refused.Goals as goal

unknown_word : first_fault (codes "x") ≡ Some (1, fault.UnknownWord)
unfolding statement_of
unknown_word = refl

text_1 : codes "refused 1 UnknownWord\n" ≡ text_of (ending.Refused 1 fault.UnknownWord)
unfolding digits
text_1 = refl

text_0 : codes "refused 0 TooMany\n" ≡ text_of (ending.Refused 0 fault.TooMany)
unfolding digits
text_0 = refl

pub returns-clause-fault : goal.returns-clause-fault
returns-clause-fault c = inl (record { line = 1; fault = fault.UnknownWord; first = unknown_word; is = text_1 })

abbrev line_of : Option (ℕ × GnfFault) → ℕ
line_of None = 0
line_of (Some found) = found.0

abbrev kind_of : Option (ℕ × GnfFault) → GnfFault
kind_of None = fault.UnknownWord
kind_of (Some found) = found.1

-- the one fault is told by its own line
its_line : (line : ℕ) (f : GnfFault) → first_fault (codes "x") ≡ Some (line, f) → codes "refused 2 UnknownWord\n" ≡ text_of (ending.Refused line f) → ⊥
its_line line f first is =
    let same : Some (1, fault.UnknownWord) ≡ Some (line, f) = sym unknown_word ∙ first in
    let number : 1 ≡ line = ap line_of same in
    let kind : fault.UnknownWord ≡ f = ap kind_of same in
    let text : codes "refused 2 UnknownWord\n" ≡ text_of (ending.Refused 1 fault.UnknownWord) =
    subst (λ (g : GnfFault). codes "refused 2 UnknownWord\n" ≡ text_of (ending.Refused 1 g)) (sym kind)
    (subst (λ (n : ℕ). codes "refused 2 UnknownWord\n" ≡ text_of (ending.Refused n f)) (sym number) is) in
    let byte : 50 ≡ 49 = ap (λ (t : List ℕ). slice_index t 8) (text ∙ sym text_1) in
    omega (arith, byte)

pub returns-clause-other_line : goal.returns-clause-other_line
returns-clause-other_line c = by_case
  where
    by_case : IsRefusal (Some (command.Print (codes "f"))) (codes "x") (codes "refused 2 UnknownWord\n") → ⊥
    by_case (inl named) = its_line named.line named.fault named.first named.is
    by_case (inr unaskable) = unaskable.unasked

pub returns-clause-nothing_asked : goal.returns-clause-nothing_asked
returns-clause-nothing_asked c = λ text written h. h.unasked

pub returns-clause-of_a_problem : goal.returns-clause-of_a_problem
returns-clause-of_a_problem c = λ found text written h. (h.problem, h.stands)

pub returns-clause-no_room : goal.returns-clause-no_room
returns-clause-no_room c = λ text p lits stands none. inr (record { problem = p; stands = stands; unasked = (none, text_0) })

pub returns-clause-no_room_to_judge : goal.returns-clause-no_room_to_judge
returns-clause-no_room_to_judge c = λ text p lits stands none. inr (record { problem = p; stands = stands; unasked = (none, text_0) })

pub returns-clause-room : goal.returns-clause-room
returns-clause-room c = λ p lits written room h. h.0 room

pub returns-clause-no_predicate : goal.returns-clause-no_predicate
returns-clause-no_predicate c = λ text p stands none.
    inr (record { problem = p; stands = stands; unasked = record { refusal = refusal.BadAtom; right = none; is = refl } })

-- the reason is told by its text
bad_atom : (p : Instance) (Fits : Type 0) (r : AskRefusal) → HasBoundedAtom p 1 → IsUnasked p 1 Fits r → codes "refused 0 BadAtom\n" ≡ refusal_text r → ⊥
bad_atom p Fits refusal.BadAtom there right is = right there
bad_atom p Fits refusal.BadBound there right is = let byte : 65 ≡ 66 = ap (λ (t : List ℕ). slice_index t 13) is in omega (arith, byte)
bad_atom p Fits refusal.TooMany there right is = let byte : 66 ≡ 84 = ap (λ (t : List ℕ). slice_index t 10) is in omega (arith, byte)

bad_bound : (p : Instance) (r : AskRefusal) → IsUnasked p 1 (Unit {0}) r → codes "refused 0 BadBound\n" ≡ refusal_text r → ⊥
bad_bound p refusal.BadAtom right is = let byte : 66 ≡ 65 = ap (λ (t : List ℕ). slice_index t 13) is in omega (arith, byte)
bad_bound p refusal.BadBound right is = right.1 tt
bad_bound p refusal.TooMany right is = let byte : 66 ≡ 84 = ap (λ (t : List ℕ). slice_index t 10) is in omega (arith, byte)

pub returns-clause-predicate : goal.returns-clause-predicate
returns-clause-predicate c = λ p there h. bad_atom p _ h.refusal there h.right h.is

pub returns-clause-best_has_no_bad_bound : goal.returns-clause-best_has_no_bad_bound
returns-clause-best_has_no_bad_bound c = λ p h. bad_bound p h.refusal h.right h.is
