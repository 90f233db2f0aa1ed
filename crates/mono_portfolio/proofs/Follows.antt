-- Taken clauses follow from the problem.
use Rattle.std.proofs.Common.{ℕ, zero, suc, ◌-◌, ◌<◌, Bool, List, [], ◌∷◌, length, map, get_or, refl, sym, ◌∙◌, arith, ℤ, All}
use Rattle.std.specs.Prelude.{IsTrue, ◌↔◌}
use Rattle.std.proofs.lemmas.Bool.{and_parts, and_from}
use Rattle.std.proofs.lemmas.List.Folds.{list_all-append}
use Rattle.std.proofs.lemmas.List.Elements.{All-head, All-tail}
use Rattle.mono_base.specs.Literal.{clause_true, all_true}
use Rattle.mono_problem.specs.Instance.{Instance}
use Rattle.mono_problem.specs.WellFormed.{IsInstance}
use Rattle.mono_problem.specs.Holds.{Satisfies}
use Rattle.mono_steps.specs.declared.step.Step.{Step}
use Rattle.mono_steps.specs.Steps.{clause_of, clauses_after, are_justified}
use Rattle.mono_steps.proofs.StepTruth.{justified_true}
use Rattle.mono_steps.proofs.StepLists.{length_clauses}
use Rattle.mono_portfolio.specs.Extended.{board_clause, extended, has_chain}
use Rattle.mono_portfolio.proofs.Held.{held_number}

true_at : (a : ℕ → Bool) (cs : List (List ℤ)) (k : ℕ) → IsTrue (all_true a cs) → k < length cs → IsTrue (clause_true a (get_or cs k []))
true_at a [] k h lt = absurd (omega arith)
true_at a (c ∷ cs) zero h lt = (and_parts (clause_true a c) (all_true a cs) h).0
true_at a (c ∷ cs) (suc k) h lt = true_at a cs k (and_parts (clause_true a c) (all_true a cs) h).1 (omega arith)

all_taken : (p : Instance) (board : List Step) (a : ℕ → Bool) (taken : List ℕ) → IsTrue (all_true a (clauses_after p board)) → All (λ n. IsTrue (has_chain p board n)) taken
    → IsTrue (all_true a (map (board_clause p board) taken))
all_taken p board a [] h held = refl
all_taken p board a (n ∷ ns) h held =
    let at = held_number p board n (All-head (λ n. IsTrue (has_chain p board n)) n ns held) in
    and_from (clause_true a (board_clause p board n)) (all_true a (map (board_clause p board) ns))
    (true_at a (clauses_after p board) (n - 1) h (omega (arith, at.low, at.high, length_clauses p board)))
    (all_taken p board a ns h (All-tail (λ n. IsTrue (has_chain p board n)) n ns held))

pub follows : (p : Instance) (board : List Step) (taken : List ℕ) (a : ℕ → Bool) → IsInstance p → IsTrue (are_justified p board) → All (λ n. IsTrue (has_chain p board n)) taken
    → Satisfies p a ↔ Satisfies (extended p board taken) a
follows p board taken a ok j held = (there, back)
  where
    there : Satisfies p a → Satisfies (extended p board taken) a
    there s =
        let all : IsTrue (all_true a (clauses_after p board)) = list_all-append (clause_true a) p.clauses (map clause_of board) ∙ and_from (all_true a p.clauses) (all_true a (map clause_of board)) s.0 (justified_true p a board ok j s) in
        (list_all-append (clause_true a) p.clauses (map (board_clause p board) taken) ∙ and_from (all_true a p.clauses) (all_true a (map (board_clause p board) taken)) s.0 (all_taken p board a taken all held), s.1)

    back : Satisfies (extended p board taken) a → Satisfies p a
    back s = ((and_parts (all_true a p.clauses) (all_true a (map (board_clause p board) taken)) (sym (list_all-append (clause_true a) p.clauses (map (board_clause p board) taken)) ∙ s.0)).0, s.1)
