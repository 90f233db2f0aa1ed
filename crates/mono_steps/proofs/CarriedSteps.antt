-- Justified steps stay justified where they are carried to clauses that have what they name.
use Rattle.std.proofs.Common.{◌≡◌, ℕ, zero, suc, ◌+◌, ◌-◌, ◌<◌, ◌≤◌, Bool, true, false, ◌&&◌, ◌==◌, cond, List, [], ◌∷◌, ◌++◌, length, map, get_or, Option, None, Some, refl, sym, ap, subst, ◌∙◌, ◌⊎◌, inl, inr, ℤ, arith, length-append}
use Rattle.std.specs.Prelude.{IsTrue, slice_get, nat_le}
use Rattle.std.specs.List.{cons_option}
use Rattle.std.proofs.lemmas.Bool.{and_parts, and_from, or_left, or_right, cases_lt, eq-eqb, le-leb, leb-true, leb-false}
use Rattle.std.proofs.lemmas.Option.{slice_get_within}
use Rattle.mono_graph.specs.Digraph.{Digraph}
use Rattle.mono_problem.specs.declared.atom.Atom.{Atom}
use Rattle.mono_problem.specs.Instance.{Instance, numbered, graph_at, no_graph}
use Rattle.mono_steps.specs.declared.lemma.Lemma.{Lemma}
use Rattle.mono_steps.specs.declared.step.Chain.{Chain}
use Rattle.mono_steps.specs.ChainSteps.{names_vars, names_clauses, clauses_named, covers, is_justified_chain}
use Rattle.mono_steps.specs.Chains.{chain_end}
use Rattle.mono_steps.specs.declared.step.Step.{Step}
use Rattle.mono_steps.specs.declared.step.Step.TheVariants as step
use Rattle.mono_steps.specs.Needed.{is_set}
use Rattle.mono_steps.specs.Renumbering.{pick, rank, has_number, with_numbers, steps_with_numbers, KeepsNamed, MayBeCarried}
use Rattle.mono_steps.specs.Steps.{clause_of, is_justified_step, are_justified_after, are_justified, is_empty_chain, ends_empty, is_refutation}
use Rattle.mono_steps.specs.Witnesses.{is_shown, justifies}
use Rattle.mono_steps.proofs.StepLists.{numbered_more, numbered_is}
use Rattle.mono_steps.proofs.Ranks.{rank_step, rank_skip, rank_less, rank_zero}

-- ---- a chain whose numbers are exchanged for others of the same clauses

-- each number's clause has the new number
abbrev Renumbers : (ℕ → ℕ) → List (List ℤ) → List (List ℤ) → List ℕ → Type 0
Renumbers f cs ds [] = Unit {0}
Renumbers f cs ds (n ∷ ns) = (numbered ds (f n) ≡ numbered cs n) × (1 ≤ f n) × (f n ≤ length ds) × Renumbers f cs ds ns

same_named : (f : ℕ → ℕ) (cs ds : List (List ℤ)) (used : List ℕ) → Renumbers f cs ds used → clauses_named ds (map f used) ≡ clauses_named cs used
same_named f cs ds [] r = refl
same_named f cs ds (n ∷ ns) r = ap (λ (o : Option (List ℤ)). cons_option o (clauses_named ds (map f ns))) r.0 ∙ ap (cons_option (numbered cs n)) (same_named f cs ds ns r.3)

new_names : (f : ℕ → ℕ) (cs ds : List (List ℤ)) (used : List ℕ) → Renumbers f cs ds used → IsTrue (names_clauses ds (map f used))
new_names f cs ds [] r = refl
new_names f cs ds (n ∷ ns) r = and_from (nat_le 1 (f n) && nat_le (f n) (length ds)) (names_clauses ds (map f ns)) (and_from (nat_le 1 (f n)) (nat_le (f n) (length ds)) (le-leb 1 (f n) r.1) (le-leb (f n) (length ds) r.2)) (new_names f cs ds ns r.3)

chain_carried : (p q : Instance) (f : ℕ → ℕ) (cs ds : List (List ℤ)) (c : Chain) → IsTrue (names_vars q c.clause) → Renumbers f cs ds c.used → IsTrue (is_justified_chain p cs c) → IsTrue (is_justified_chain q ds (record { clause = c.clause; used = map f c.used }))
chain_carried p q f cs ds c vars r h =
    let a = and_parts (names_vars p c.clause && names_clauses cs c.used) (covers c.clause (chain_end (clauses_named cs c.used))) h in
    and_from (names_vars q c.clause && names_clauses ds (map f c.used)) (covers c.clause (chain_end (clauses_named ds (map f c.used))))
    (and_from (names_vars q c.clause) (names_clauses ds (map f c.used)) vars (new_names f cs ds c.used r))
    (subst (λ (xs : List (List ℤ)). IsTrue (covers c.clause (chain_end xs))) (sym (same_named f cs ds c.used r)) a.1)

-- ---- a lemma over the same graphs and atoms

abbrev shown_by : Instance → List (ℕ × Digraph) → Lemma → Option Atom → Bool
shown_by q gs l o = elim o [ None ↦ false | Some x ↦ names_vars q l.clause && is_shown (get_or gs x.graph no_graph).1 x l ]

shown_over : (p q : Instance) (l : Lemma) → IsTrue (names_vars q l.clause) → (o : Option Atom) → IsTrue (shown_by p p.graphs l o) → IsTrue (shown_by q p.graphs l o)
shown_over p q l vars None h = h
shown_over p q l vars (Some x) h = and_from (names_vars q l.clause) (is_shown (graph_at p x.graph) x l) vars (and_parts (names_vars p l.clause) (is_shown (graph_at p x.graph) x l) h).1

lemma_carried : (p q : Instance) (l : Lemma) → q.graphs ≡ p.graphs → q.atoms ≡ p.atoms → IsTrue (names_vars q l.clause) → IsTrue (justifies p l) → IsTrue (justifies q l)
lemma_carried p q l same_graphs same_atoms vars h =
    subst (λ (gs : List (ℕ × Digraph)). IsTrue (shown_by q gs l (numbered q.atoms l.atom))) (sym same_graphs)
    (subst (λ (xs : List Atom). IsTrue (shown_by q p.graphs l (numbered xs l.atom))) (sym same_atoms) (shown_over p q l vars (numbered p.atoms l.atom) h))

-- ---- numbers of clauses that are there

record IsThere (n m : ℕ) : Type 0 where
  low : 1 ≤ n
  high : n ≤ m

is_there : (xs : List (List ℤ)) (n : ℕ) (x : List ℤ) → numbered xs n ≡ Some x → IsThere n (length xs)
is_there xs zero x e = absurd cc
is_there xs (suc n) x e = record { low = omega arith; high = let h = slice_get_within xs n x e in omega (arith, h) }

-- ---- the clauses so far: the old ones, and the new ones

record Carries (old new : List (List ℤ)) (flags : List Bool) (i : ℕ) (cs ds : List (List ℤ)) : Type 0 where
  old_len : length cs ≡ length old + i
  new_len : length ds ≡ length new + rank flags i
  old_same : (n : ℕ) → n ≤ length old → numbered cs n ≡ numbered old n
  new_same : (n : ℕ) → n ≤ length new → numbered ds n ≡ numbered new n
  steps : (k : ℕ) → k < i → is_set flags k ≡ true → numbered ds (length new + 1 + rank flags k) ≡ numbered cs (length old + 1 + k)

carries_start : (old new : List (List ℤ)) (flags : List Bool) → Carries old new flags 0 old new
carries_start old new flags = record {
  old_len = omega arith;
  new_len = omega (arith, rank_zero flags);
  old_same = λ n low. refl;
  new_same = λ n low. refl;
  steps = λ k lt on. absurd (omega (arith, lt));
}

pub before_or_last : (k i : ℕ) → k < i + 1 → (k < i) ⊎ (k ≡ i)
before_or_last k i lt = elim (cases_lt k i) [ inl before ↦ inl before | inr from ↦ inr (omega (arith, from, lt)) ]

last_number : (ds : List (List ℤ)) (x : List ℤ) (n : ℕ) → n ≡ length ds + 1 → numbered (ds ++ x ∷ []) n ≡ Some x
last_number ds x n e = numbered_is (ds ++ x ∷ []) n (length ds) x e (omega (arith, length-append ds (x ∷ []))) ∙ ap Some (get_last ds)
  where
    get_last : (ys : List (List ℤ)) → get_or (ys ++ x ∷ []) (length ys) x ≡ x
    get_last [] = refl
    get_last (y ∷ ys) = get_last ys

carries_skip : (old new : List (List ℤ)) (flags : List Bool) (i : ℕ) (cs ds : List (List ℤ)) (x : List ℤ) → Carries old new flags i cs ds → is_set flags i ≡ false → Carries old new flags (i + 1) (cs ++ x ∷ []) ds
carries_skip old new flags i cs ds x h off = record {
  old_len = omega (arith, h.old_len, length-append cs (x ∷ []));
  new_len = omega (arith, h.new_len, rank_skip flags i off);
  old_same = λ n low. numbered_more cs (x ∷ []) n (omega (arith, h.old_len, low)) ∙ h.old_same n low;
  new_same = h.new_same;
  steps = λ k lt on. by_case k on (before_or_last k i lt);
}
  where
    by_case : (k : ℕ) → is_set flags k ≡ true → (k < i) ⊎ (k ≡ i) → numbered ds (length new + 1 + rank flags k) ≡ numbered (cs ++ x ∷ []) (length old + 1 + k)
    by_case k on (inl lt) = h.steps k lt on ∙ sym (numbered_more cs (x ∷ []) (length old + 1 + k) (omega (arith, h.old_len, lt)))
    by_case k on (inr e) = absurd (let both : true ≡ false = sym on ∙ ap (is_set flags) e ∙ off in cc)

carries_take : (old new : List (List ℤ)) (flags : List Bool) (i : ℕ) (cs ds : List (List ℤ)) (x : List ℤ) → Carries old new flags i cs ds → is_set flags i ≡ true → Carries old new flags (i + 1) (cs ++ x ∷ []) (ds ++ x ∷ [])
carries_take old new flags i cs ds x h set_i = record {
  old_len = omega (arith, h.old_len, length-append cs (x ∷ []));
  new_len = omega (arith, h.new_len, rank_step flags i set_i, length-append ds (x ∷ []));
  old_same = λ n low. numbered_more cs (x ∷ []) n (omega (arith, h.old_len, low)) ∙ h.old_same n low;
  new_same = λ n low. numbered_more ds (x ∷ []) n (omega (arith, h.new_len, low)) ∙ h.new_same n low;
  steps = λ k lt on. by_case k on (before_or_last k i lt);
}
  where
    by_case : (k : ℕ) → is_set flags k ≡ true → (k < i) ⊎ (k ≡ i) → numbered (ds ++ x ∷ []) (length new + 1 + rank flags k) ≡ numbered (cs ++ x ∷ []) (length old + 1 + k)
    by_case k on (inl lt) =
        numbered_more ds (x ∷ []) (length new + 1 + rank flags k) (omega (arith, h.new_len, rank_less flags k i lt on)) ∙ h.steps k lt on ∙ sym (numbered_more cs (x ∷ []) (length old + 1 + k) (omega (arith, h.old_len, lt)))
    by_case k on (inr e) =
        let same : rank flags k ≡ rank flags i = ap (rank flags) e in
        last_number ds x (length new + 1 + rank flags k) (omega (arith, h.new_len, same)) ∙ sym (last_number cs x (length old + 1 + k) (omega (arith, h.old_len, e)))

-- ---- the steps

clause_carried : (f : ℕ → ℕ) (s : Step) → clause_of (with_numbers f s) ≡ clause_of s
clause_carried f (step.Lemma l) = refl
clause_carried f (step.Chain d) = refl

pub empty_carried : (f : ℕ → ℕ) (s : Step) → is_empty_chain (with_numbers f s) ≡ is_empty_chain s
empty_carried f (step.Lemma l) = refl
empty_carried f (step.Chain d) = refl

-- one number that a step names
one_number : (q : Instance) (old new : List (List ℤ)) (flags : List Bool) (f : ℕ → ℕ) (i : ℕ) (cs ds : List (List ℤ)) (d : Chain) (n : ℕ) → Carries old new flags i cs ds
    → ((k : ℕ) → k < i → f (length old + 1 + k) ≡ length new + 1 + rank flags k) → KeepsNamed q old new flags f (step.Chain d)
    → IsTrue (has_number d.used n) → 1 ≤ n → n ≤ length cs → (numbered ds (f n) ≡ numbered cs n) × IsThere (f n) (length ds)
one_number q old new flags f i cs ds d n h places keeps has low high = by_case (nat_le n (length old)) refl
  where
    by_case : (b : Bool) → nat_le n (length old) ≡ b → (numbered ds (f n) ≡ numbered cs n) × IsThere (f n) (length ds)
    by_case true e =
        let le : n ≤ length old = leb-true n (length old) e in
        let here : numbered old n ≡ Some (get_or old (n - 1) []) = numbered_is old n (n - 1) [] (omega (arith, low)) (omega (arith, low, le)) in
        let there = is_there new (f n) (get_or old (n - 1) []) (keeps.clauses n has le ∙ here) in
        (h.new_same (f n) there.high ∙ keeps.clauses n has le ∙ sym (h.old_same n le), record { low = there.low; high = omega (arith, there.high, h.new_len) })
    by_case false e =
        let k = n - length old - 1 in
        let lt : length old < n = leb-false n (length old) e in
        let at : n ≡ length old + 1 + k = omega (arith, lt) in
        let within : k < i = omega (arith, lt, high, h.old_len) in
        let on : is_set flags k ≡ true = keeps.steps k (subst (λ (m : ℕ). IsTrue (has_number d.used m)) at has) in
        let new_is : f n ≡ length new + 1 + rank flags k = ap f at ∙ places k within in
        (ap (numbered ds) new_is ∙ h.steps k within on ∙ ap (numbered cs) (sym at), record { low = omega (arith, new_is); high = omega (arith, new_is, h.new_len, rank_less flags k i within on) })

all_numbers : (q : Instance) (old new : List (List ℤ)) (flags : List Bool) (f : ℕ → ℕ) (i : ℕ) (cs ds : List (List ℤ)) (d : Chain) (ns : List ℕ) → Carries old new flags i cs ds
    → ((k : ℕ) → k < i → f (length old + 1 + k) ≡ length new + 1 + rank flags k) → KeepsNamed q old new flags f (step.Chain d)
    → ((n : ℕ) → IsTrue (has_number ns n) → IsTrue (has_number d.used n)) → IsTrue (names_clauses cs ns) → Renumbers f cs ds ns
all_numbers q old new flags f i cs ds d [] h places keeps among names = tt
all_numbers q old new flags f i cs ds d (n ∷ ns) h places keeps among names =
    let a = and_parts (nat_le 1 n && nat_le n (length cs)) (names_clauses cs ns) names in
    let b = and_parts (nat_le 1 n) (nat_le n (length cs)) a.0 in
    let one = one_number q old new flags f i cs ds d n h places keeps (among n (or_left (n == n) (has_number ns n) (eq-eqb n n refl))) (leb-true 1 n b.0) (leb-true n (length cs) b.1) in
    (one.0, one.1.low, one.1.high, all_numbers q old new flags f i cs ds d ns h places keeps (λ m k. among m (or_right (n == m) (has_number ns m) k)) a.1)

step_carried : (p q : Instance) (old new : List (List ℤ)) (flags : List Bool) (f : ℕ → ℕ) (i : ℕ) (cs ds : List (List ℤ)) (s : Step) → q.graphs ≡ p.graphs → q.atoms ≡ p.atoms → Carries old new flags i cs ds
    → ((k : ℕ) → k < i → f (length old + 1 + k) ≡ length new + 1 + rank flags k) → KeepsNamed q old new flags f s → IsTrue (is_justified_step p cs s) → IsTrue (is_justified_step q ds (with_numbers f s))
step_carried p q old new flags f i cs ds (step.Lemma l) same_graphs same_atoms h places keeps j = lemma_carried p q l same_graphs same_atoms keeps.vars j
step_carried p q old new flags f i cs ds (step.Chain d) same_graphs same_atoms h places keeps j =
    let a = and_parts (names_vars p d.clause && names_clauses cs d.used) (covers d.clause (chain_end (clauses_named cs d.used))) j in
    let b = and_parts (names_vars p d.clause) (names_clauses cs d.used) a.0 in
    chain_carried p q f cs ds d keeps.vars (all_numbers q old new flags f i cs ds d d.used h places keeps (λ n has. has) b.1) j

steps_carried : (p q : Instance) (old new : List (List ℤ)) (flags : List Bool) (f : ℕ → ℕ) (i : ℕ) (cs ds : List (List ℤ)) (bs : List Bool) (ss : List Step) → q.graphs ≡ p.graphs → q.atoms ≡ p.atoms → Carries old new flags i cs ds
    → ((k : ℕ) → is_set bs k ≡ is_set flags (i + k)) → ((j : ℕ) (s : Step) → is_set bs j ≡ true → slice_get ss j ≡ Some s → KeepsNamed q old new flags f s)
    → ((k : ℕ) → k < i + length ss → f (length old + 1 + k) ≡ length new + 1 + rank flags k)
    → IsTrue (are_justified_after p cs ss) → IsTrue (are_justified_after q ds (pick bs (map (with_numbers f) ss)))
steps_carried p q old new flags f i cs ds [] ss same_graphs same_atoms h same keeps places all = refl
steps_carried p q old new flags f i cs ds (b ∷ bs) [] same_graphs same_atoms h same keeps places all = refl
steps_carried p q old new flags f i cs ds (b ∷ bs) (s ∷ ss) same_graphs same_atoms h same keeps places all =
    let a = and_parts (is_justified_step p cs s) (are_justified_after p (cs ++ clause_of s ∷ []) ss) all in
    let here : b ≡ is_set flags i = same 0 ∙ ap (is_set flags) (add_zero i) in
    let rest : (k : ℕ) → is_set bs k ≡ is_set flags (i + 1 + k) = λ k. same (suc k) ∙ ap (is_set flags) (add_suc i k) in
    by_flag b refl here a.0 (λ ds' g. steps_carried p q old new flags f (i + 1) (cs ++ clause_of s ∷ []) ds' bs ss same_graphs same_atoms g rest (λ j t on at. keeps (suc j) t on at) (λ k lt. places k (omega (arith, lt))) a.1)
  where
    add_zero : (n : ℕ) → n + 0 ≡ n
    add_zero n = omega arith

    add_suc : (n k : ℕ) → n + suc k ≡ n + 1 + k
    add_suc n k = omega arith

    by_flag : (on : Bool) → b ≡ on → b ≡ is_set flags i → IsTrue (is_justified_step p cs s) → ((ds' : List (List ℤ)) → Carries old new flags (i + 1) (cs ++ clause_of s ∷ []) ds' → IsTrue (are_justified_after q ds' (pick bs (map (with_numbers f) ss))))
        → IsTrue (are_justified_after q ds (cond on (with_numbers f s ∷ pick bs (map (with_numbers f) ss)) (pick bs (map (with_numbers f) ss))))
    by_flag false e here j ih = ih ds (carries_skip old new flags i cs ds (clause_of s) h (sym here ∙ e))
    by_flag true e here j ih =
        let g : Carries old new flags (i + 1) (cs ++ clause_of s ∷ []) (ds ++ clause_of (with_numbers f s) ∷ []) = subst (λ (x : List ℤ). Carries old new flags (i + 1) (cs ++ clause_of s ∷ []) (ds ++ x ∷ [])) (sym (clause_carried f s)) (carries_take old new flags i cs ds (clause_of s) h (sym here ∙ e)) in
        and_from (is_justified_step q ds (with_numbers f s)) (are_justified_after q (ds ++ clause_of (with_numbers f s) ∷ []) (pick bs (map (with_numbers f) ss)))
        (step_carried p q old new flags f i cs ds s same_graphs same_atoms h (λ k lt. places k (omega (arith, lt))) (keeps 0 s e refl) j) (ih (ds ++ clause_of (with_numbers f s) ∷ []) g)

pub carried_justified : (p q : Instance) (old new : List (List ℤ)) (flags : List Bool) (f : ℕ → ℕ) (steps : List Step) → MayBeCarried p q old new flags f steps → IsTrue (are_justified_after p old steps) → IsTrue (are_justified_after q new (steps_with_numbers f flags steps))
carried_justified p q old new flags f steps may all =
    steps_carried p q old new flags f 0 old new flags steps may.graphs may.atoms (carries_start old new flags) (λ k. let z : k ≡ 0 + k = omega arith in ap (is_set flags) z) may.named (λ k lt. may.places k (omega (arith, lt))) all

-- ---- the last step

ends_cons : (x : Step) (ss : List Step) → IsTrue (ends_empty ss) → IsTrue (ends_empty (x ∷ ss))
ends_cons x [] h = absurd cc
ends_cons x (s ∷ ss) h = h

pub ends_carried : (f : ℕ → ℕ) (bs : List Bool) (ss : List Step) → length bs ≡ length ss → is_set bs (length ss - 1) ≡ true → IsTrue (ends_empty ss) → IsTrue (ends_empty (pick bs (map (with_numbers f) ss)))
ends_carried f bs [] len last h = absurd cc
ends_carried f [] (s ∷ ss) len last h = absurd (omega arith)
ends_carried f (b ∷ []) (s ∷ []) len last h = let on : b ≡ true = last in subst (λ (v : Bool). IsTrue (ends_empty (cond v (with_numbers f s ∷ []) []))) (sym on) (empty_carried f s ∙ h)
ends_carried f (b ∷ d ∷ bs) (s ∷ []) len last h = absurd (omega arith)
ends_carried f (b ∷ bs) (s ∷ t ∷ ss) len last h =
    let e : length (s ∷ t ∷ ss) - 1 ≡ suc (length (t ∷ ss) - 1) = omega arith in
    by_flag b (ends_carried f bs (t ∷ ss) (omega arith) (sym (ap (is_set (b ∷ bs)) e) ∙ last) h)
  where
    by_flag : (v : Bool) → IsTrue (ends_empty (pick bs (map (with_numbers f) (t ∷ ss)))) → IsTrue (ends_empty (cond v (with_numbers f s ∷ pick bs (map (with_numbers f) (t ∷ ss))) (pick bs (map (with_numbers f) (t ∷ ss)))))
    by_flag true e = ends_cons (with_numbers f s) (pick bs (map (with_numbers f) (t ∷ ss))) e
    by_flag false e = e

pub carried_refutes : (p q : Instance) (flags : List Bool) (f : ℕ → ℕ) (steps : List Step) → MayBeCarried p q p.clauses q.clauses flags f steps → length flags ≡ length steps → is_set flags (length steps - 1) ≡ true
    → IsTrue (is_refutation p steps) → IsTrue (is_refutation q (steps_with_numbers f flags steps))
carried_refutes p q flags f steps may len last r =
    let a = and_parts (are_justified p steps) (ends_empty steps) r in
    and_from (are_justified q (steps_with_numbers f flags steps)) (ends_empty (steps_with_numbers f flags steps))
    (carried_justified p q p.clauses q.clauses flags f steps may a.0) (ends_carried f flags steps len last a.1)
