-- What the checker keeps, behind one more line.
use Rattle.std.proofs.Common.{◌≡◌, ℕ, ◌+◌, ◌≤◌, Bool, true, false, not, ◌&&◌, ◌||◌, List, [], ◌∷◌, ◌++◌, map, find, length, Option, Some, None, option_map, refl, sym, ap, subst, ◌∙◌, All, ℤ, is_some, append-nil, length-append, arith}
use Rattle.std.specs.Prelude.{IsTrue, unwrap_or, if◌then◌else◌}
use Rattle.std.specs.List.{last_or}
use Rattle.std.specs.Option.{option_or}
use Rattle.std.proofs.lemmas.Bool.{and_parts}
use Rattle.std.proofs.lemmas.List.{map-append}
use Rattle.std.proofs.lemmas.List.Concat.{flat_map-append}
use Rattle.std.proofs.lemmas.List.Elements.{filter_map-append, All-push}
use Rattle.std.proofs.lemmas.List.Folds.{find-append}
use Rattle.mono_base.specs.Literal.{IsLitWithin}
use Rattle.mono_problem.specs.declared.atom.Atom.{Atom}
use Rattle.mono_problem.specs.Instance.{Instance, graph_at, numbered}
use Rattle.mono_steps.specs.declared.fault.StepFault.{StepFault}
use Rattle.mono_steps.specs.declared.fault.StepFault.TheVariants as fault
use Rattle.mono_steps.specs.declared.lemma.Lemma.{Lemma}
use Rattle.mono_steps.specs.declared.step.Step.{Step}
use Rattle.mono_steps.specs.declared.step.Step.TheVariants as step
use Rattle.mono_steps.specs.Faults.{first_failed}
use Rattle.mono_steps.specs.ChainSteps.{names_vars, names_clauses, clauses_named, covers}
use Rattle.mono_steps.specs.Chains.{chain_end}
use Rattle.mono_steps.specs.Witnesses.{lemma_fault, lemma_fault_by, serves, names_known as names_known_by, passes, easiest_part, shows_clause}
use Rattle.mono_steps.specs.Steps.{step_fault, clause_of, is_empty_chain, ends_empty}
use Rattle.mono_steps.proofs.ChainFaults.{no_fault_in}
use Rattle.mono_answer.specs.declared.item.Item.{Item}
use Rattle.mono_answer.specs.declared.item.Item.TheVariants as says
use Rattle.mono_check.specs.declared.step_lines.StepLines.{StepLines}
use Rattle.mono_check.specs.Values.{lits_in, ends_in, literals_in, has_ended, end_line}
use Rattle.mono_check.specs.StepLines.{step_line_fault, reason_of, clauses_in, steps_in, step_in, is_chain}
use Rattle.mono_steps.specs.Journals.{chain_count}
use Rattle.mono_steps.proofs.StepVars.{vars_within}
use Rattle.mono_steps.proofs.JournalSteps.{ends-last, chains-lemmas, count-chain}
use Rattle.mono_check.specs.Lines.{last_of, last_line}
use Rattle.mono_check.specs.Seen.{AreStepsAfter, AreStepsKept, steps_kept}
use Rattle.mono_check.specs.SoFar.{ModelSoFar, StepsSoFar, model_more, steps_more}

pub unmapped : {A B : Type 0} (f : A → B) (o : Option A) → option_map f o ≡ None → o ≡ None
unmapped f None h = refl
unmapped f (Some x) h = absurd cc

pub both_none : {A : Type 0} (o q : Option A) → option_or o q ≡ None → (o ≡ None) × (q ≡ None)
both_none None q h = (refl, h)
both_none (Some x) q h = absurd cc

last_push : (xs : List ℕ) (o : Option ℕ) (n : ℕ) → last_or o (xs ++ n ∷ []) ≡ Some n
last_push [] o n = refl
last_push (x ∷ xs) o n = last_push xs (Some x) n

last_more : (before : List (ℕ × Option Item)) (n : ℕ) (i : Option Item) → Some n ≡ last_of (before ++ (n, i) ∷ [])
last_more before n i = sym (ap (last_or None) (map-append (λ (l : ℕ × Option Item). l.0) before ((n, i) ∷ [])) ∙ last_push (map (λ (l : ℕ × Option Item). l.0) before) None n)

-- ---- the lines of a model

pub literals_more : (before : List (ℕ × Option Item)) (n : ℕ) (i : Option Item) → literals_in before ++ lits_in i ≡ literals_in (before ++ (n, i) ∷ [])
literals_more before n i = sym (flat_map-append (λ (l : ℕ × Option Item). lits_in l.1) before ((n, i) ∷ []) ∙ ap (λ (ls : List ℤ). literals_in before ++ ls) (append-nil (lits_in i)))

end_more : (before : List (ℕ × Option Item)) (n : ℕ) (i : Option Item) → option_or (end_line before) (if ends_in i then Some n else None) ≡ end_line (before ++ (n, i) ∷ [])
end_more before n i = by_find (find (λ (l : ℕ × Option Item). ends_in l.1) before) (ends_in i) ∙ sym (ap (option_map (λ (l : ℕ × Option Item). l.0)) (find-append (λ (l : ℕ × Option Item). ends_in l.1) before ((n, i) ∷ [])))
  where
    by_find : (o : Option (ℕ × Option Item)) (b : Bool) → option_or (option_map (λ l. l.0) o) (if b then Some n else None) ≡ option_map (λ l. l.0) (option_or o (if b then Some (n, i) else None))
    by_find None true = refl
    by_find None false = refl
    by_find (Some l) b = refl

pub ended_by_line : (ls : List (ℕ × Option Item)) → has_ended ls ≡ is_some (end_line ls)
ended_by_line [] = refl
ended_by_line (l ∷ ls) = by_head (ends_in l.1) (ended_by_line ls)
  where
    by_head : (b : Bool) → has_ended ls ≡ is_some (end_line ls) → (b || has_ended ls) ≡ is_some (option_map (λ (k : ℕ × Option Item). k.0) (if b then Some l else find (λ (k : ℕ × Option Item). ends_in k.1) ls))
    by_head true h = refl
    by_head false h = h

-- ---- the lines of steps

steps_push : (before : List (ℕ × Option Item)) (n : ℕ) (s : Step) → steps_in (before ++ (n, Some (says.Step s)) ∷ []) ≡ steps_in before ++ s ∷ []
steps_push before n s = filter_map-append (λ (l : ℕ × Option Item). step_in l.1) before ((n, Some (says.Step s)) ∷ [])

pub clauses_push : (before : List (ℕ × Option Item)) (n : ℕ) (s : Step) → clauses_in (before ++ (n, Some (says.Step s)) ∷ []) ≡ clauses_in before ++ clause_of s ∷ []
clauses_push before n s = ap (map clause_of) (steps_push before n s) ∙ map-append clause_of (steps_in before) (s ∷ [])

count_push : (ss : List Step) (s : Step) → (if is_chain s then chain_count ss + 1 else chain_count ss) ≡ chain_count (ss ++ s ∷ [])
count_push ss (step.Lemma l) = sym (ap length (chains-lemmas ss (l ∷ [])))
count_push ss (step.Chain c) = sym (count-chain ss c)

few_more : (b : Bool) (k n : ℕ) → k ≤ n → (if b then k + 1 else k) ≤ n + 1
few_more true k n h = omega arith
few_more false k n h = omega arith

second_passes : (a v k c d : Bool) → first_failed ((a, fault.WrongKind) ∷ (not v || not k, fault.UnknownNumber) ∷ (c, fault.WitnessFails) ∷ (d, fault.MissingLiteral) ∷ []) ≡ None → IsTrue v
second_passes true v k c d h = absurd cc
second_passes false true k c d h = refl
second_passes false false k c d h = absurd cc

lemma_names : (p : Instance) (l : Lemma) → lemma_fault p l ≡ None → IsTrue (names_vars p l.clause)
lemma_names p l h = by_atom (numbered p.atoms l.atom) h
  where
    by_atom : (o : Option Atom) → ◌≡◌ {A = Option StepFault} (elim o [ None ↦ Some fault.UnknownAtom | Some x ↦ lemma_fault_by p x l ]) None → IsTrue (names_vars p l.clause)
    by_atom None e = absurd cc
    by_atom (Some x) e =
        let g = graph_at p x.graph in
        second_passes (not (serves l.witness x.predicate)) (names_vars p l.clause) (names_known_by g l.witness) (not (passes g (easiest_part g l.witness) x.predicate l.witness)) (not (shows_clause g x l.clause l.witness)) e

names_known : (p : Instance) (earlier : List (List ℤ)) (s : Step) → step_fault p earlier s ≡ None → IsTrue (names_vars p (clause_of s))
names_known p earlier (step.Lemma l) h = lemma_names p l h
names_known p earlier (step.Chain c) h =
    let justified = (no_fault_in p earlier c).0 h in
    let a = and_parts (names_vars p c.clause && names_clauses earlier c.used) (covers c.clause (chain_end (clauses_named earlier c.used))) justified in
    (and_parts (names_vars p c.clause) (names_clauses earlier c.used) a.0).0

-- behind a step without a fault, what is kept is what it has to be
pub steps_stay : (p : Instance) (s after : StepLines) (n : ℕ) (r : Step) → AreStepsKept p s → None ≡ step_line_fault p s.earlier.items (Some (says.Step r)) → AreStepsAfter s n r after → AreStepsKept p after
steps_stay p s after n r kept h k =
    let none : step_fault p (p.clauses ++ s.earlier.items) r ≡ None = unmapped reason_of (step_fault p (p.clauses ++ s.earlier.items) r) (sym h) in
    let longer : length after.earlier.items ≡ length s.earlier.items + 1 = ap length k.earlier ∙ length-append s.earlier.items (clause_of r ∷ []) in
    record {
      size = k.checker ∙ kept.size;
      known = subst (λ (cs : List (List ℤ)). All (All (IsLitWithin p.vars)) cs) (sym k.earlier) (All-push (All (IsLitWithin p.vars)) s.earlier.items (clause_of r) kept.known (vars_within p (clause_of r) (names_known p (p.clauses ++ s.earlier.items) r none)));
      few = (let f = few_more (is_chain r) s.chains (length s.earlier.items) kept.few in omega (arith, f, longer, k.chains));
    }

same_steps : (c d : List (List ℤ)) (k m : ℕ) (a b : Bool) (l n : ℕ) → c ≡ d → k ≡ m → a ≡ b → l ≡ n → ◌≡◌ {A = StepsSoFar} (record { clauses = c; chains = k; ends_empty = a; last = l }) (record { clauses = d; chains = m; ends_empty = b; last = n })
same_steps c d k m a b l n e f g h = cc

-- and they are one step more
pub steps_grow : (s after : StepLines) (n : ℕ) (r : Step) → AreStepsAfter s n r after → (k : ℕ) → steps_kept k after ≡ steps_more n (Some (says.Step r)) (steps_kept k s)
steps_grow s after n r k status =
    same_steps after.earlier.items (s.earlier.items ++ clause_of r ∷ []) after.chains (if is_chain r then s.chains + 1 else s.chains) after.ends_empty (is_empty_chain r) (unwrap_or after.last status) n
    k.earlier k.chains k.ends (ap (λ (o : Option ℕ). unwrap_or o status) k.last)

-- ---- what lines say, as the checker keeps it

-- of the lines of steps behind the status line, line n
abbrev pub steps_said : ℕ → List (ℕ × Option Item) → StepsSoFar
steps_said n ls = record { clauses = clauses_in ls; chains = chain_count (steps_in ls); ends_empty = ends_empty (steps_in ls); last = last_line n ls }

last_is : (before : List (ℕ × Option Item)) (n m : ℕ) (i : Option Item) → last_line n (before ++ (m, i) ∷ []) ≡ m
last_is before n m i = ap (λ (o : Option ℕ). unwrap_or o n) (sym (last_more before m i))

pub steps_said_more : (p : Instance) (n : ℕ) (before : List (ℕ × Option Item)) (m : ℕ) (i : Option Item) → None ≡ step_line_fault p (clauses_in before) i → steps_said n (before ++ (m, i) ∷ []) ≡ steps_more m i (steps_said n before)
steps_said_more p n before m None h = absurd cc
steps_said_more p n before m (Some (says.Status q)) h = absurd cc
steps_said_more p n before m (Some (says.Values zs)) h = absurd cc
steps_said_more p n before m (Some (says.Step r)) h =
    same_steps (clauses_in (before ++ (m, Some (says.Step r)) ∷ [])) (clauses_in before ++ clause_of r ∷ []) (chain_count (steps_in (before ++ (m, Some (says.Step r)) ∷ []))) (if is_chain r then chain_count (steps_in before) + 1 else chain_count (steps_in before))
    (ends_empty (steps_in (before ++ (m, Some (says.Step r)) ∷ []))) (is_empty_chain r) (last_line n (before ++ (m, Some (says.Step r)) ∷ [])) m
    (clauses_push before m r) (ap chain_count (steps_push before m r) ∙ sym (count_push (steps_in before) r)) (ap ends_empty (steps_push before m r) ∙ ends-last (steps_in before) r) (last_is before n m (Some (says.Step r)))

-- of the lines of a model behind the status line, line n
abbrev pub model_said : ℕ → List (ℕ × Option Item) → ModelSoFar
model_said n ls = record { lits = literals_in ls; end = end_line ls; last = last_line n ls }

same_model_said : (c d : List ℤ) (a b : Option ℕ) (l n : ℕ) → c ≡ d → a ≡ b → l ≡ n → ◌≡◌ {A = ModelSoFar} (record { lits = c; end = a; last = l }) (record { lits = d; end = b; last = n })
same_model_said c d a b l n e f g = cc

pub model_said_more : (n : ℕ) (before : List (ℕ × Option Item)) (m : ℕ) (i : Option Item) → model_said n (before ++ (m, i) ∷ []) ≡ model_more m i (model_said n before)
model_said_more n before m i =
    same_model_said (literals_in (before ++ (m, i) ∷ [])) (literals_in before ++ lits_in i) (end_line (before ++ (m, i) ∷ [])) (option_or (end_line before) (if ends_in i then Some m else None)) (last_line n (before ++ (m, i) ∷ [])) m
    (sym (literals_more before m i)) (sym (end_more before m i)) (last_is before n m i)
