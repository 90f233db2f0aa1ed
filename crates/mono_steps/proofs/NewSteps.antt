-- New steps: their chains' clauses, one by one and in pairs, and more steps.
use Rattle.std.proofs.Common.{◌≡◌, zero, suc, Bool, true, false, not, ◌||◌, ◌==◌, List, [], ◌∷◌, ◌++◌, length, map, get_or, refl, sym, subst, ◌∙◌, ℤ, arith, append_assoc}
use Rattle.std.specs.Prelude.{IsTrue}
use Rattle.std.specs.List.{list_all, AllPairs}
use Rattle.std.proofs.lemmas.Bool.{and_parts, and_from, and_left, or_from, or_parts, not-true, not_from_false, false_from_ne_true}
use Rattle.std.proofs.lemmas.List.{append-nil}
use Rattle.std.proofs.lemmas.List.Folds.{list_all-append}
use Rattle.std.proofs.lemmas.List.Sums.{AllPass-from_list_all}
use Rattle.mono_base.specs.Literal.{within, is_same_set, has_opposites}
use Rattle.mono_base.specs.Partial.{is_quiet, unit_quiet}
use Rattle.mono_problem.specs.Instance.{Instance}
use Rattle.mono_steps.specs.declared.lemma.Lemma.{Lemma}
use Rattle.mono_steps.specs.declared.step.Chain.{Chain}
use Rattle.mono_steps.specs.declared.step.Step.{Step}
use Rattle.mono_steps.specs.declared.step.Step.TheVariants as step
use Rattle.mono_steps.specs.Journals.{chain_clauses, known_clauses, has_no_empty, lemma_steps}
use Rattle.mono_steps.specs.New.{IsNewClause, IsNewChain, HasNewChainsAfter, HasNewChains, AreNew, contains_one}
use Rattle.mono_steps.specs.Steps.{clause_of, clauses_after, is_empty_chain, is_full_chain}
use Rattle.mono_steps.proofs.LeftOpen.{not_empty, no_opposites, contains_no_quiet}

-- ---- clauses that are new one after the other

-- each clause is new after those known and those before it
abbrev pub AreNewClauses : List (List ℤ) → List (List ℤ) → Type 0
AreNewClauses known [] = Unit {0}
AreNewClauses known (c ∷ cs) = IsNewClause known c × AreNewClauses (known ++ c ∷ []) cs

pub new_clauses : (all known : List (List ℤ)) (ss : List Step) → HasNewChainsAfter all known ss → IsTrue (has_no_empty ss) → AreNewClauses known (chain_clauses ss)
new_clauses all known [] h none = tt
new_clauses all known (step.Lemma l ∷ ss) h none = new_clauses (all ++ l.clause ∷ []) known ss h none
new_clauses all known (step.Chain c ∷ ss) h none =
    let a = and_parts (is_full_chain (step.Chain c)) (has_no_empty ss) none in
    ((h.0 a.0).new, new_clauses (all ++ c.clause ∷ []) (known ++ c.clause ∷ []) ss h.1 a.1)

pub clauses_of_new : (p : Instance) (ss : List Step) → AreNew p ss → AreNewClauses p.clauses (chain_clauses ss)
clauses_of_new p ss h = new_clauses p.clauses p.clauses ss h.chains h.none_empty

-- ---- one by one

pub all_nonempty : (known cs : List (List ℤ)) → AreNewClauses known cs → IsTrue (list_all (λ c. not (length c == 0)) cs)
all_nonempty known [] h = refl
all_nonempty known (c ∷ cs) h =
    and_from (not (length c == 0)) (list_all (λ d. not (length d == 0)) cs) (not_from_false (length c == 0) (not_empty known c h.0)) (all_nonempty (known ++ c ∷ []) cs h.1)

pub all_one_sign : (known cs : List (List ℤ)) → AreNewClauses known cs → IsTrue (list_all (λ c. not (has_opposites c)) cs)
all_one_sign known [] h = refl
all_one_sign known (c ∷ cs) h =
    and_from (not (has_opposites c)) (list_all (λ d. not (has_opposites d)) cs) (not_from_false (has_opposites c) (no_opposites known c h.0)) (all_one_sign (known ++ c ∷ []) cs h.1)

-- ---- in pairs

-- the clauses are quiet wherever those known are
pub record Covers (known ds : List (List ℤ)) : Type 0 where
  pub quiet : (t : List ℤ) → IsTrue (unit_quiet known t) → IsTrue (unit_quiet ds t)

push_parts : (known : List (List ℤ)) (c t : List ℤ) → IsTrue (unit_quiet (known ++ c ∷ []) t) → IsTrue (unit_quiet known t) × IsTrue (unit_quiet (c ∷ []) t)
push_parts known c t q = and_parts (unit_quiet known t) (unit_quiet (c ∷ []) t) (sym (list_all-append (is_quiet t) known (c ∷ [])) ∙ q)

covers_more : (known ds : List (List ℤ)) (c : List ℤ) → Covers known ds → Covers (known ++ c ∷ []) ds
covers_more known ds c v = record { quiet = λ t q. v.quiet t (push_parts known c t q).0 }

covers_last : (known : List (List ℤ)) (c : List ℤ) → Covers (known ++ c ∷ []) (c ∷ [])
covers_last known c = record { quiet = λ t q. (push_parts known c t q).1 }

-- a new clause contains none of them
contains_none : (known : List (List ℤ)) (c : List ℤ) (new : IsNewClause known c) (ds : List (List ℤ)) → IsTrue (unit_quiet ds new.under) → contains_one ds c ≡ false
contains_none known c new [] q = refl
contains_none known c new (d ∷ ds) q =
    let a = and_parts (is_quiet new.under d) (unit_quiet ds new.under) q in
    or_from (within d c) (contains_one ds c) (false_from_ne_true (within d c) (λ w. contains_no_quiet known c new d a.0 w)) (contains_none known c new ds a.1)

pub all_contain_none : (known cs ds : List (List ℤ)) → AreNewClauses known cs → Covers known ds → IsTrue (list_all (λ c. not (contains_one ds c)) cs)
all_contain_none known [] ds h v = refl
all_contain_none known (c ∷ cs) ds h v =
    and_from (not (contains_one ds c)) (list_all (λ e. not (contains_one ds e)) cs)
    (not_from_false (contains_one ds c) (contains_none known c h.0 ds (v.quiet h.0.under h.0.quiet)))
    (all_contain_none (known ++ c ∷ []) cs ds h.1 (covers_more known ds c v))

pub none_of_the_problem : (p : Instance) (ss : List Step) → AreNew p ss → IsTrue (list_all (λ c. not (contains_one p.clauses c)) (chain_clauses ss))
none_of_the_problem p ss h = all_contain_none p.clauses (chain_clauses ss) p.clauses (clauses_of_new p ss h) (record { quiet = λ t q. q })

-- no clause contains an earlier one
pub pairs_apart : (known cs : List (List ℤ)) → AreNewClauses known cs → AllPairs (λ (d c : List ℤ). within d c ≡ false) cs
pairs_apart known [] h i j x lt low = absurd (omega arith)
pairs_apart known (c ∷ cs) h i zero x lt low = absurd (omega arith)
pairs_apart known (c ∷ cs) h zero (suc j) x lt low =
    let all = all_contain_none (known ++ c ∷ []) cs (c ∷ []) h.1 (covers_last known c) in
    let at = AllPass-from_list_all (λ (d : List ℤ). not (contains_one (c ∷ []) d)) cs all j x (omega (arith, low)) in
    let d = get_or cs j x in
    (or_parts (within c d) false (not-true (within c d || false) at)).0
pairs_apart known (c ∷ cs) h (suc i) (suc j) x lt low = pairs_apart (known ++ c ∷ []) cs h.1 i j x (omega (arith, lt)) (omega (arith, low))

-- so no two are the same
pub pairs_differ : (known cs : List (List ℤ)) → AreNewClauses known cs → AllPairs (λ (d c : List ℤ). is_same_set d c ≡ false) cs
pairs_differ known cs h i j x lt low =
    let d = get_or cs i x in
    let c = get_or cs j x in
    and_left (within d c) (within c d) (pairs_apart known cs h i j x lt low)

-- ---- more steps

pub new-append : (all known : List (List ℤ)) (ss rs : List Step) → HasNewChainsAfter all known ss → HasNewChainsAfter (all ++ map clause_of ss) (known ++ chain_clauses ss) rs → HasNewChainsAfter all known (ss ++ rs)
new-append all known [] rs h k =
    let e : HasNewChainsAfter all (known ++ []) rs = subst (λ (cs : List (List ℤ)). HasNewChainsAfter cs (known ++ []) rs) (append-nil all) k in
    subst (λ (cs : List (List ℤ)). HasNewChainsAfter all cs rs) (append-nil known) e
new-append all known (step.Lemma l ∷ ss) rs h k =
    new-append (all ++ l.clause ∷ []) known ss rs h (subst (λ (cs : List (List ℤ)). HasNewChainsAfter cs (known ++ chain_clauses ss) rs) (sym (append_assoc all (l.clause ∷ []) (map clause_of ss))) k)
new-append all known (step.Chain c ∷ ss) rs h k =
    let e : HasNewChainsAfter ((all ++ c.clause ∷ []) ++ map clause_of ss) (known ++ c.clause ∷ chain_clauses ss) rs =
    subst (λ (cs : List (List ℤ)). HasNewChainsAfter cs (known ++ c.clause ∷ chain_clauses ss) rs) (sym (append_assoc all (c.clause ∷ []) (map clause_of ss))) k in
    let g = subst (λ (cs : List (List ℤ)). HasNewChainsAfter ((all ++ c.clause ∷ []) ++ map clause_of ss) cs rs) (sym (append_assoc known (c.clause ∷ []) (chain_clauses ss))) e in
    (h.0, new-append (all ++ c.clause ∷ []) (known ++ c.clause ∷ []) ss rs h.1 g)

pub new-lemmas : (all known : List (List ℤ)) (ls : List Lemma) → HasNewChainsAfter all known (lemma_steps ls)
new-lemmas all known [] = tt
new-lemmas all known (l ∷ ls) = new-lemmas (all ++ l.clause ∷ []) known ls

-- lemmas join
pub fresh-lemmas : (p : Instance) (ss : List Step) (ls : List Lemma) → HasNewChains p ss → HasNewChains p (ss ++ lemma_steps ls)
fresh-lemmas p ss ls h = new-append p.clauses p.clauses ss (lemma_steps ls) h (new-lemmas (clauses_after p ss) (known_clauses p ss) ls)

-- a chain joins
pub fresh-chain : (p : Instance) (ss : List Step) (c : Chain) → HasNewChains p ss → (IsTrue (is_full_chain (step.Chain c)) → IsNewChain (clauses_after p ss) (known_clauses p ss) c) → HasNewChains p (ss ++ step.Chain c ∷ [])
fresh-chain p ss c h new = new-append p.clauses p.clauses ss (step.Chain c ∷ []) h (new, tt)

-- the empty clause joins
pub fresh-empty : (p : Instance) (ss : List Step) (s : Step) → HasNewChains p ss → IsTrue (is_empty_chain s) → HasNewChains p (ss ++ s ∷ [])
fresh-empty p ss (step.Lemma l) h e = absurd cc
fresh-empty p ss (step.Chain c) h e = fresh-chain p ss c h (λ full. absurd (never (length c.clause == 0) e full))
  where
    never : (b : Bool) → IsTrue b → IsTrue (not b) → ⊥
    never true e f = cc
    never false e f = cc

pub new-front : (all known : List (List ℤ)) (ss rs : List Step) → HasNewChainsAfter all known (ss ++ rs) → HasNewChainsAfter all known ss
new-front all known [] rs h = tt
new-front all known (step.Lemma l ∷ ss) rs h = new-front (all ++ l.clause ∷ []) known ss rs h
new-front all known (step.Chain c ∷ ss) rs h = (h.0, new-front (all ++ c.clause ∷ []) (known ++ c.clause ∷ []) ss rs h.1)
