-- What lemmas and chains that join the steps do to the clauses.
use Rattle.std.proofs.Common.{◌≡◌, ℕ, ◌+◌, not, Bool, cond, List, [], ◌∷◌, ◌++◌, length, map, refl, sym, ap, ◌∙◌, arith, append_assoc, length-append}
use Rattle.std.specs.Prelude.{IsTrue, count_by}
use Rattle.std.proofs.lemmas.Bool.{and_from, and_parts}
use Rattle.std.proofs.lemmas.List.{append-nil, map-append}
use Rattle.std.proofs.lemmas.List.Folds.{list_all-append}
use Rattle.std.proofs.lemmas.List.Sums.{sum_by-cons}
use Rattle.mono_problem.specs.Instance.{Instance}
use Rattle.mono_steps.specs.declared.lemma.Lemma.{Lemma}
use Rattle.mono_steps.specs.declared.step.Chain.{Chain}
use Rattle.mono_steps.specs.declared.step.Step.{Step}
use Rattle.mono_steps.specs.declared.step.Step.TheVariants as step
use Rattle.mono_steps.specs.Steps.{clause_of, clauses_after, is_empty_chain, is_full_chain, ends_empty}
use Rattle.mono_steps.specs.Journals.{chain_clauses, chain_count, known_clauses, has_no_empty, lemma_steps}

pub chain_clauses-append : (ss rs : List Step) → chain_clauses (ss ++ rs) ≡ chain_clauses ss ++ chain_clauses rs
chain_clauses-append [] rs = refl
chain_clauses-append (step.Lemma l ∷ ss) rs = chain_clauses-append ss rs
chain_clauses-append (step.Chain c ∷ ss) rs = ap (λ cs. c.clause ∷ cs) (chain_clauses-append ss rs)

pub chain_clauses-lemmas : (ls : List Lemma) → chain_clauses (lemma_steps ls) ≡ []
chain_clauses-lemmas [] = refl
chain_clauses-lemmas (l ∷ ls) = chain_clauses-lemmas ls

-- lemmas don't change what was learned
pub chains-lemmas : (ss : List Step) (ls : List Lemma) → chain_clauses (ss ++ lemma_steps ls) ≡ chain_clauses ss
chains-lemmas ss ls = chain_clauses-append ss (lemma_steps ls) ∙ ap (λ cs. chain_clauses ss ++ cs) (chain_clauses-lemmas ls) ∙ append-nil (chain_clauses ss)

pub known-lemmas : (p : Instance) (ss : List Step) (ls : List Lemma) → known_clauses p (ss ++ lemma_steps ls) ≡ known_clauses p ss
known-lemmas p ss ls = ap (λ cs. p.clauses ++ cs) (chains-lemmas ss ls)

-- a chain joins
pub known-chain : (p : Instance) (ss : List Step) (c : Chain) → known_clauses p (ss ++ step.Chain c ∷ []) ≡ known_clauses p ss ++ c.clause ∷ []
known-chain p ss c = ap (λ cs. p.clauses ++ cs) (chain_clauses-append ss (step.Chain c ∷ [])) ∙ sym (append_assoc p.clauses (chain_clauses ss) (c.clause ∷ []))

pub count-chain : (ss : List Step) (c : Chain) → chain_count (ss ++ step.Chain c ∷ []) ≡ chain_count ss + 1
count-chain ss c = ap length (chain_clauses-append ss (step.Chain c ∷ [])) ∙ length-append (chain_clauses ss) (c.clause ∷ [])

pub after-append : (p : Instance) (ss rs : List Step) → clauses_after p (ss ++ rs) ≡ clauses_after p ss ++ map clause_of rs
after-append p ss rs = ap (λ cs. p.clauses ++ cs) (map-append clause_of ss rs) ∙ sym (append_assoc p.clauses (map clause_of ss) (map clause_of rs))

-- ---- the empty clause

pub no_empty-append : (ss rs : List Step) → IsTrue (has_no_empty ss) → IsTrue (has_no_empty rs) → IsTrue (has_no_empty (ss ++ rs))
no_empty-append ss rs a b = list_all-append (λ s. not (is_empty_chain s)) ss rs ∙ and_from (has_no_empty ss) (has_no_empty rs) a b

pub no_empty-lemmas : (ls : List Lemma) → IsTrue (has_no_empty (lemma_steps ls))
no_empty-lemmas [] = refl
no_empty-lemmas (l ∷ ls) = no_empty-lemmas ls

pub ends-last : (ss : List Step) (s : Step) → ends_empty (ss ++ s ∷ []) ≡ is_empty_chain s
ends-last [] s = refl
ends-last (x ∷ []) s = refl
ends-last (x ∷ y ∷ ss) s = ends-last (y ∷ ss) s

-- where no chain has the empty clause, each chain counts
pub full_count : (ss : List Step) → IsTrue (has_no_empty ss) → count_by is_full_chain ss ≡ chain_count ss
full_count [] h = refl
full_count (step.Lemma l ∷ ss) h =
    let e : count_by is_full_chain (step.Lemma l ∷ ss) ≡ 0 + count_by is_full_chain ss = sum_by-cons (λ s. cond (is_full_chain s) 1 0) (step.Lemma l) ss in
    omega (arith, e, full_count ss h)
full_count (step.Chain c ∷ ss) h =
    let a = and_parts (is_full_chain (step.Chain c)) (has_no_empty ss) h in
    let e : count_by is_full_chain (step.Chain c ∷ ss) ≡ cond {A = ℕ} (is_full_chain (step.Chain c)) 1 0 + count_by is_full_chain ss = sum_by-cons (λ s. cond (is_full_chain s) 1 0) (step.Chain c) ss in
    let one : cond {A = ℕ} (is_full_chain (step.Chain c)) 1 0 ≡ 1 = ap (λ (b : Bool). cond {A = ℕ} b 1 0) a.0 in
    omega (arith, e, one, full_count ss a.1)
