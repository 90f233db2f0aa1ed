-- Rows of the steps that a conflict adds.
use Rattle.std.proofs.Common.{◌≡◌, ℕ, false, true, Bool, List, [], ◌∷◌, ◌++◌, refl, sym, ap, subst, inl, inr, ℤ, pos, arith}
use Rattle.std.specs.Prelude.{Some}
use Rattle.std.specs.Ordering.{int_eq}
use Rattle.std.proofs.lemmas.Bool.{or_cases}
use Rattle.std.proofs.lemmas.Option.{same_Some}
use Rattle.mono_base.specs.Literal.{has_lit}
use Rattle.mono_base.proofs.Truth.{same_lit}
use Rattle.mono_steps.specs.declared.lemma.Lemma.{Lemma}
use Rattle.mono_steps.specs.declared.step.Step.{Step}
use Rattle.mono_steps.specs.declared.step.Step.TheVariants as step
use Rattle.mono_steps.specs.Journals.{lemma_steps}
use Rattle.mono_steps.specs.New.{IsExactEnd}
use Rattle.mono_steps.specs.Steps.{clauses_after}
use Rattle.mono_steps.specs.WorkedLemmas.{chain}
use Rattle.mono_learn.specs.Learned.{IsLearnt, Learns, Refutes}
use Rattle.mono_rows.specs.SmallConflict.{denied, learnt, one_level, one_sign}

-- ---- the first step

-- the clause and the numbers of a chain
abbrev clause_first : List Step → List ℤ
clause_first [] = []
clause_first (step.Chain c ∷ ss) = c.clause
clause_first (step.Lemma l ∷ ss) = []

abbrev used_first : List Step → List ℕ
used_first [] = []
used_first (step.Chain c ∷ ss) = c.used
used_first (step.Lemma l ∷ ss) = []

abbrev is_chain_first : List Step → Bool
is_chain_first [] = false
is_chain_first (step.Chain c ∷ ss) = true
is_chain_first (step.Lemma l ∷ ss) = false

-- where one chain joined, it is that chain
same_clause : (ls : List Lemma) (c d : List ℤ) (ns ms : List ℕ) → chain c ns ∷ [] ≡ ([] ++ lemma_steps ls) ++ chain d ms ∷ [] → c ≡ d
same_clause [] c d ns ms e = ap clause_first e
same_clause (l ∷ ls) c d ns ms e = absurd (let f : true ≡ false = ap is_chain_first e in cc)

some_step : (ls : List Lemma) (s : Step) → [] ≡ ([] ++ lemma_steps ls) ++ s ∷ [] → ⊥
some_step [] s e = cc
some_step (l ∷ ls) s e = cc

-- ---- clauses

pub clause_1_is_learnt : IsLearnt one_level (pos 1 ∷ []) 0
clause_1_is_learnt = record {
  lower = omega arith;
  lit = pos 1;
  has = refl;
  present = record { place = 0; within = omega arith; there = refl; at = refl };
  others = λ l h n. elim (or_cases (int_eq l (pos 1)) false h) [ inl e ↦ absurd (n (same_lit l (pos 1) e)) | inr z ↦ absurd cc ];
  reached = inl refl;
}

pub clause_1 : Learns denied one_level [] (chain (pos 1 ∷ []) (2 ∷ 1 ∷ []) ∷ []) (learnt (pos 1 ∷ []) 0 3)
clause_1 = record {
  lemmas = [];
  used = 2 ∷ 1 ∷ [];
  pushed = refl;
  number = refl;
  exact = record { named = refl; end = pos 1 ∷ []; is_end = refl; same = λ l. refl };
  learnt = clause_1_is_learnt;
}

pub not_clause_2 : Learns denied one_level [] (chain (pos 1 ∷ []) (2 ∷ 1 ∷ []) ∷ []) (learnt (pos 2 ∷ []) 0 3) → ⊥
not_clause_2 h = let e : pos 1 ∷ [] ≡ pos 2 ∷ [] = same_clause h.lemmas (pos 1 ∷ []) (pos 2 ∷ []) (2 ∷ 1 ∷ []) h.used h.pushed in cc

pub not_another_step : Learns denied one_level [] (chain (pos 2 ∷ []) (1 ∷ []) ∷ []) (learnt (pos 1 ∷ []) 0 3) → ⊥
not_another_step h = let e : pos 2 ∷ [] ≡ pos 1 ∷ [] = same_clause h.lemmas (pos 2 ∷ []) (pos 1 ∷ []) (1 ∷ []) h.used h.pushed in cc

-- the end of the first clause alone is that clause
not_the_end : (c ns end : List ℤ) → Some ns ≡ Some end → ((l : ℤ) → has_lit c l ≡ has_lit end l) → (l : ℤ) → has_lit c l ≡ false → has_lit ns l ≡ true → ⊥
not_the_end c ns end e same l off on =
    let f : has_lit ns l ≡ has_lit end l = ap (λ (d : List ℤ). has_lit d l) (same_Some ns end e) in
    let g : has_lit c l ≡ has_lit end l = same l in
    cc

pub not_by_clause_1 : Learns denied one_level [] (chain (pos 1 ∷ []) (1 ∷ []) ∷ []) (learnt (pos 1 ∷ []) 0 3) → ⊥
not_by_clause_1 h = by_steps h.lemmas h.used h.pushed h.exact
  where
    by_steps : (ls : List Lemma) (ns : List ℕ) → chain (pos 1 ∷ []) (1 ∷ []) ∷ [] ≡ ([] ++ lemma_steps ls) ++ chain (pos 1 ∷ []) ns ∷ [] → IsExactEnd (clauses_after denied ([] ++ lemma_steps ls)) (record { clause = pos 1 ∷ []; used = ns }) → ⊥
    by_steps [] ns e x =
        let y : IsExactEnd denied.clauses (record { clause = pos 1 ∷ []; used = 1 ∷ [] }) = subst (λ (ms : List ℕ). IsExactEnd denied.clauses (record { clause = pos 1 ∷ []; used = ms })) (sym (ap used_first e)) x in
        let f : Some (pos 1 ∷ pos 2 ∷ []) ≡ Some y.end = y.is_end in
        not_the_end (pos 1 ∷ []) (pos 1 ∷ pos 2 ∷ []) y.end f y.same (pos 2) refl refl
    by_steps (l ∷ ls) ns e x = let f : true ≡ false = ap is_chain_first e in cc

-- ---- refutations

pub refuted : Refutes one_sign [] (chain [] (1 ∷ 2 ∷ []) ∷ []) 3
refuted = record {
  lemmas = [];
  used = 1 ∷ 2 ∷ [];
  pushed = refl;
  number = refl;
  exact = record { named = refl; end = []; is_end = refl; same = λ l. refl };
}

pub not_without_a_chain : Refutes one_sign [] [] 2 → ⊥
not_without_a_chain h = some_step h.lemmas (chain [] h.used) h.pushed

pub not_by_one_clause : Refutes one_sign [] (chain [] (1 ∷ []) ∷ []) 3 → ⊥
not_by_one_clause h = by_steps h.lemmas h.used h.pushed h.exact
  where
    by_steps : (ls : List Lemma) (ns : List ℕ) → chain [] (1 ∷ []) ∷ [] ≡ ([] ++ lemma_steps ls) ++ chain [] ns ∷ [] → IsExactEnd (clauses_after one_sign ([] ++ lemma_steps ls)) (record { clause = []; used = ns }) → ⊥
    by_steps [] ns e x =
        let y : IsExactEnd one_sign.clauses (record { clause = []; used = 1 ∷ [] }) = subst (λ (ms : List ℕ). IsExactEnd one_sign.clauses (record { clause = []; used = ms })) (sym (ap used_first e)) x in
        let f : Some (pos 1 ∷ []) ≡ Some y.end = y.is_end in
        not_the_end [] (pos 1 ∷ []) y.end f y.same (pos 1) refl refl
    by_steps (l ∷ ls) ns e x = let f : true ≡ false = ap is_chain_first e in cc
