-- What the store holds when a learned clause joins it, or the clause of a lemma.
use Rattle.std.proofs.Common.{suc, ◌≡◌, ℕ, ◌+◌, List, [], ◌∷◌, ◌++◌, length, arith, refl, sym, ◌∙◌, ap, subst, ℤ, All, length-append}
use Rattle.std.specs.Prelude.{IsTrue, true, ◌&&◌}
use Rattle.std.proofs.lemmas.Bool.{and_parts, and_from}
use Rattle.std.proofs.lemmas.List.{map-append}
use Rattle.std.proofs.lemmas.List.Elements.{All-append}
use Rattle.std.proofs.lemmas.List.Folds.{list_all-append}
use Rattle.mono_base.specs.Partial.{is_false_clause, is_quiet, unit_quiet}
use Rattle.mono_problem.specs.Instance.{Instance}
use Rattle.mono_problem.specs.WellFormed.{IsInstance}
use Rattle.mono_steps.specs.declared.lemma.Lemma.{Lemma}
use Rattle.mono_steps.specs.declared.step.Chain.{Chain}
use Rattle.mono_steps.specs.declared.step.Step.{Step}
use Rattle.mono_steps.specs.declared.step.Step.TheVariants as step
use Rattle.mono_steps.specs.Steps.{clauses_after}
use Rattle.mono_steps.specs.Journals.{known_clauses}
use Rattle.mono_steps.specs.Witnesses.{justifies}
use Rattle.mono_steps.proofs.JournalSteps.{after-append, chains-lemmas, count-chain, known-chain, known-lemmas}
use Rattle.mono_clauses.specs.Store.{Held, StoreView, AddsClause, lists_of}
use Rattle.mono_search.specs.State.{HoldsKnown, IsNamed, QuietAt}
use Rattle.mono_search.proofs.Growing.{quiet_not_false}
use Rattle.mono_search.proofs.Journals.{all_cons, all_none, named-push}
use Rattle.mono_search.proofs.Quiets.{lemma_not_false}

-- quiet clauses, with one more behind them
quiet_parts : (cs : List (List ℤ)) (c t : List ℤ) → IsTrue (unit_quiet (cs ++ c ∷ []) t) → IsTrue (unit_quiet cs t) × IsTrue (is_quiet t c)
quiet_parts cs c t h =
    let a = and_parts (unit_quiet cs t) (is_quiet t c && true) (sym (list_all-append (is_quiet t) cs (c ∷ [])) ∙ h) in
    (a.0, (and_parts (is_quiet t c) true a.1).0)

quiet_from : (cs : List (List ℤ)) (c t : List ℤ) → IsTrue (unit_quiet cs t) → IsTrue (is_quiet t c) → IsTrue (unit_quiet (cs ++ c ∷ []) t)
quiet_from cs c t old new = list_all-append (is_quiet t) cs (c ∷ []) ∙ and_from (unit_quiet cs t) (is_quiet t c && true) old (and_from (is_quiet t c) true new refl)

-- a clause that joins, by its number
module _ (p : Instance) (steps : List Step) (given : ℕ) (s z : StoreView) (n : ℕ) (c : List ℤ) (h : HoldsKnown p steps given s) (adds : AddsClause s z n c) (number : n ≡ suc (length (clauses_after p steps))) where
  lists : lists_of z.clauses ≡ lists_of s.clauses ++ c ∷ []
  lists = ap lists_of adds.clauses ∙ map-append (λ (k : Held). k.lits) s.clauses (record { number = n; lits = c } ∷ [])

  more : length z.clauses ≡ length s.clauses + 1
  more = ap length adds.clauses ∙ length-append s.clauses (record { number = n; lits = c } ∷ [])

  parts : (t : List ℤ) → IsTrue (unit_quiet (lists_of z.clauses) t) → IsTrue (unit_quiet (lists_of s.clauses) t) × IsTrue (is_quiet t c)
  parts t quiet = quiet_parts (lists_of s.clauses) c t (subst (λ (cs : List (List ℤ)). IsTrue (unit_quiet cs t)) lists quiet)

  named : (new : List Step) → clauses_after p new ≡ clauses_after p steps ++ c ∷ [] → All (IsNamed (clauses_after p new)) z.clauses
  named new after =
      subst (λ (hs : List Held). All (IsNamed (clauses_after p new)) hs) (sym adds.clauses)
      (subst (λ (cs : List (List ℤ)). All (IsNamed cs) (s.clauses ++ record { number = n; lits = c } ∷ [])) (sym after) (named-push (clauses_after p steps) c s.clauses n number h.named))

  none_false : (t : List ℤ) → All (λ (k : Held). IsTrue (is_false_clause t k.lits) → ⊥) s.clauses → (IsTrue (is_false_clause t c) → ⊥) → All (λ (k : Held). IsTrue (is_false_clause t k.lits) → ⊥) z.clauses
  none_false t old new =
      let P : Held → Type 0 = λ (k : Held). IsTrue (is_false_clause t k.lits) → ⊥ in
      subst (λ (hs : List Held). All P hs) (sym adds.clauses) (All-append P s.clauses (record { number = n; lits = c } ∷ []) old (all_cons P (record { number = n; lits = c }) [] new (all_none P)))

-- a learned clause
pub held-chain : (p : Instance) (steps : List Step) (given : ℕ) (s z : StoreView) (n : ℕ) (c : Chain) → HoldsKnown p steps given s → AddsClause s z n c.clause → n ≡ suc (length (clauses_after p steps)) → HoldsKnown p (steps ++ step.Chain c ∷ []) given z
held-chain p steps given s z n c h adds number =
    let known : known_clauses p (steps ++ step.Chain c ∷ []) ≡ known_clauses p steps ++ c.clause ∷ [] = known-chain p steps c in
    record {
      vars = adds.vars ∙ h.vars;
      named = named p steps given s z n c.clause h adds number (steps ++ step.Chain c ∷ []) (after-append p steps (step.Chain c ∷ []));
      count = omega (arith, h.count, more p steps given s z n c.clause h adds number, count-chain steps c);
      units = λ t quiet.
          let both = parts p steps given s z n c.clause h adds number t quiet in
          subst (λ (cs : List (List ℤ)). IsTrue (unit_quiet cs t)) (sym known) (quiet_from (known_clauses p steps) c.clause t (h.units t both.0) both.1);
      none_false = λ t d quiet.
          let both = quiet_parts (known_clauses p steps) c.clause t (subst (λ (cs : List (List ℤ)). IsTrue (unit_quiet cs t)) known quiet.units) in
          none_false p steps given s z n c.clause h adds number t (h.none_false t d (record { units = both.0; atoms = quiet.atoms })) (quiet_not_false t c.clause d both.1);
    }

-- the clause of a lemma
pub held-lemma : (p : Instance) (steps : List Step) (given : ℕ) (s z : StoreView) (n : ℕ) (m : Lemma) → IsInstance p → IsTrue (justifies p m) → HoldsKnown p steps given s → AddsClause s z n m.clause → n ≡ suc (length (clauses_after p steps))
    → HoldsKnown p (steps ++ step.Lemma m ∷ []) (given + 1) z
held-lemma p steps given s z n m ok just h adds number =
    let known : known_clauses p (steps ++ step.Lemma m ∷ []) ≡ known_clauses p steps = known-lemmas p steps (m ∷ []) in
    record {
      vars = adds.vars ∙ h.vars;
      named = named p steps given s z n m.clause h adds number (steps ++ step.Lemma m ∷ []) (after-append p steps (step.Lemma m ∷ []));
      count = omega (arith, h.count, more p steps given s z n m.clause h adds number, ap length (chains-lemmas steps (m ∷ [])));
      units = λ t quiet. subst (λ (cs : List (List ℤ)). IsTrue (unit_quiet cs t)) (sym known) (h.units t (parts p steps given s z n m.clause h adds number t quiet).0);
      none_false = λ t d quiet.
          let before : QuietAt p (known_clauses p steps) t = subst (λ (cs : List (List ℤ)). QuietAt p cs t) known quiet in
          none_false p steps given s z n m.clause h adds number t (h.none_false t d before) (lemma_not_false p t ok before.atoms d m just);
    }
