-- Justified steps are within the format of answers: their text can be read.
use Rattle.std.proofs.Common.{◌≡◌, ℕ, zero, suc, ◌+◌, ◌-◌, ◌^◌, ◌<◌, ◌≤◌, ◌==◌, ◌&&◌, Bool, false, not, ℤ, List, [], ◌∷◌, ◌++◌, length, Option, Some, None, refl, subst, arith}
use Rattle.std.specs.Prelude.{IsTrue, All, nat_abs, nat_le, nat_lt, is_some}
use Rattle.std.specs.List.{list_all}
use Rattle.std.proofs.lemmas.Bool.{and_parts, and_from, not_from_false, ne_eqb, le-leb, leb-true, ltb-true, eqb-true}
use Rattle.std.proofs.lemmas.List.{length-append}
use Rattle.std.proofs.lemmas.List.Quantifiers.{position-Some}
use Rattle.std.proofs.lemmas.Option.{slice_get_within, get_or_from_slice_get}
use Rattle.mono_base.specs.declared.limits.TheConstants.{MAX_VARS, MAX_NODES, MAX_EDGES, MAX_WITNESS_VALUE}
use Rattle.mono_base.specs.Literal.{var_of}
use Rattle.mono_graph.specs.Digraph.{Digraph, no_edge, place_of}
use Rattle.mono_graph.specs.declared.label.Label.{Label}
use Rattle.mono_graph.specs.declared.amount.Amount.{Amount}
use Rattle.mono_problem.specs.declared.atom.Atom.{Atom}
use Rattle.mono_problem.specs.Instance.{Instance, no_graph, graph_at, numbered}
use Rattle.mono_problem.specs.WellFormed.{IsInstance}
use Rattle.mono_steps.specs.declared.lemma.Lemma.{Lemma}
use Rattle.mono_steps.specs.declared.lemma.Witness.{Witness}
use Rattle.mono_steps.specs.declared.lemma.Witness.TheVariants as by
use Rattle.mono_steps.specs.declared.step.Chain.{Chain}
use Rattle.mono_steps.specs.declared.step.Step.{Step}
use Rattle.mono_steps.specs.declared.step.Step.TheVariants as step
use Rattle.mono_steps.specs.Chains.{chain_end}
use Rattle.mono_steps.specs.ChainSteps.{names_vars, names_clauses, clauses_named, covers}
use Rattle.mono_steps.specs.Witnesses.{serves, names_known, is_small, shows_clause, is_shown, justifies_by, justifies}
use Rattle.mono_steps.specs.Steps.{clause_of, is_justified_step, are_justified_after}
use Rattle.mono_answer.specs.Printed.{is_literal, is_name, is_value, is_clause_number, is_witness_within, is_step_within}

-- ---- lists of tests

all_more : {A : Type 0} (f g : A → Bool) (xs : List A) → ((x : A) → IsTrue (f x) → IsTrue (g x)) → IsTrue (list_all f xs) → IsTrue (list_all g xs)
all_more f g [] less h = refl
all_more f g (x ∷ xs) less h = let a = and_parts (f x) (list_all f xs) h in and_from (g x) (list_all g xs) (less x a.0) (all_more f g xs less a.1)

all_both : {A : Type 0} (f g k : A → Bool) (xs : List A) → ((x : A) → IsTrue (f x) → IsTrue (g x) → IsTrue (k x)) → IsTrue (list_all f xs) → IsTrue (list_all g xs) → IsTrue (list_all k xs)
all_both f g k [] less h j = refl
all_both f g k (x ∷ xs) less h j =
    let a = and_parts (f x) (list_all f xs) h in
    let b = and_parts (g x) (list_all g xs) j in
    and_from (k x) (list_all k xs) (less x a.0 b.0) (all_both f g k xs less a.1 b.1)

-- ---- numbers

literal_within : (vars : ℕ) (l : ℤ) → vars ≤ MAX_VARS → IsTrue (nat_le 1 (var_of l) && nat_le (var_of l) vars) → IsTrue (is_literal l)
literal_within vars l few h =
    let a = and_parts (nat_le 1 (var_of l)) (nat_le (var_of l) vars) h in
    let low = leb-true 1 (var_of l) a.0 in
    let high = leb-true (var_of l) vars a.1 in
    and_from (not (nat_abs l == 0)) (nat_le (nat_abs l) MAX_VARS)
    (not_from_false (nat_abs l == 0) (ne_eqb (nat_abs l) 0 (λ e. omega (arith, low, e))))
    (le-leb (nat_abs l) MAX_VARS (omega (arith, high, few)))

clause_within : (p : Instance) (c : List ℤ) → p.vars ≤ MAX_VARS → IsTrue (names_vars p c) → IsTrue (list_all is_literal c)
clause_within p c few h = all_more (λ l. nat_le 1 (var_of l) && nat_le (var_of l) p.vars) is_literal c (λ l k. literal_within p.vars l few k) h

name_within : (n : ℕ) → n ≤ 1000000 → IsTrue (is_name n)
name_within n few = le-leb n (2 ^ 32 - 1) (omega (arith, few))

-- ---- witnesses

record IsLimited (g : Digraph) : Type 0 where
  nodes : g.nodes ≤ MAX_NODES
  numbers : All (λ e. e.number ≤ MAX_EDGES) g.edges

node_within : (g : Digraph) (u : ℕ) → IsLimited g → IsTrue (nat_lt u g.nodes) → IsTrue (is_name u)
node_within g u limited h = name_within u (omega (arith, ltb-true u g.nodes h, limited.nodes))

edge_within : (g : Digraph) (n : ℕ) → IsLimited g → IsTrue (is_some (place_of g n)) → IsTrue (is_name n)
edge_within g n limited some = by_place (place_of g n) refl some
  where
    by_place : (o : Option ℕ) → place_of g n ≡ o → IsTrue (is_some o) → IsTrue (is_name n)
    by_place None e h = absurd cc
    by_place (Some k) e h =
        let at = position-Some (λ d. d.number == n) g.edges k no_edge e in
        let few = limited.numbers k no_edge at.0 in
        name_within n (omega (arith, eqb-true _ n at.1, few))

witness_within : (g : Digraph) (w : Witness) → IsLimited g → IsTrue (names_known g w) → IsTrue (is_small w) → IsTrue (is_witness_within w)
witness_within g (by.Path es) limited h small = all_more (λ n. is_some (place_of g n)) is_name es (λ n k. edge_within g n limited k) h
witness_within g (by.Cut us) limited h small = all_more (λ u. nat_lt u g.nodes) is_name us (λ u k. node_within g u limited k) h
witness_within g (by.Label ls) limited h small =
    all_both (λ (l : Label). nat_lt l.node g.nodes) (λ (l : Label). nat_le l.value MAX_WITNESS_VALUE) (λ (l : Label). is_name l.node && is_value l.value) ls
    (λ l k j. and_from (is_name l.node) (is_value l.value) (node_within g l.node limited k) j) h small
witness_within g (by.Flow ms) limited h small =
    all_both (λ (m : Amount). is_some (place_of g m.edge)) (λ (m : Amount). nat_le m.amount MAX_WITNESS_VALUE) (λ (m : Amount). is_name m.edge && is_value m.amount) ms
    (λ m k j. and_from (is_name m.edge) (is_value m.amount) (edge_within g m.edge limited k) j) h small
witness_within g (by.FlowCut us) limited h small = all_more (λ u. nat_lt u g.nodes) is_name us (λ u k. node_within g u limited k) h
witness_within g (by.Tree es) limited h small = all_more (λ n. is_some (place_of g n)) is_name es (λ n k. edge_within g n limited k) h
witness_within g (by.Split us) limited h small = all_more (λ u. nat_lt u g.nodes) is_name us (λ u k. node_within g u limited k) h
witness_within g (by.Least es) limited h small = all_more (λ n. is_some (place_of g n)) is_name es (λ n k. edge_within g n limited k) h
witness_within g (by.Cycle es) limited h small = all_more (λ n. is_some (place_of g n)) is_name es (λ n k. edge_within g n limited k) h
witness_within g (by.Order us) limited h small = all_more (λ u. nat_lt u g.nodes) is_name us (λ u k. node_within g u limited k) h

-- ---- lemmas

-- the item of a number is one of the list
numbered_low : {A : Type 0} (xs : List A) (n : ℕ) (x : A) → numbered xs n ≡ Some x → n ≤ length xs
numbered_low xs zero x e = omega arith
numbered_low xs (suc k) x e = let low = slice_get_within xs k x e in omega (arith, low)

its_graph : (p : Instance) (n : ℕ) (x : Atom) → IsInstance p → numbered p.atoms n ≡ Some x → x.graph < length p.graphs
its_graph p zero x ok e = absurd cc
its_graph p (suc k) x ok e =
    let low = slice_get_within p.atoms k x e in
    let same = get_or_from_slice_get p.atoms k x x e in
    subst (λ (y : Atom). y.graph < length p.graphs) same (ok.atoms k x low).graph

lemma_within : (p : Instance) (l : Lemma) → IsInstance p → IsTrue (justifies p l) → IsTrue (is_step_within (step.Lemma l))
lemma_within p l ok h = by_atom (numbered p.atoms l.atom) refl h
  where
    by_atom : (o : Option Atom) → numbered p.atoms l.atom ≡ o → IsTrue (elim o [ None ↦ false | Some x ↦ justifies_by p x l ]) → IsTrue (is_step_within (step.Lemma l))
    by_atom None e j = absurd cc
    by_atom (Some x) e j =
        let g : Digraph = graph_at p x.graph in
        let declared = ok.graphs x.graph no_graph (its_graph p l.atom x ok e) in
        let limited : IsLimited g = record { nodes = declared.graph.few_nodes; numbers = λ k d low. omega (arith, (declared.within k d low).1, ok.few_edges) } in
        let a = and_parts (names_vars p l.clause) (is_shown g x l) j in
        let b = and_parts (serves l.witness x.predicate && names_known g l.witness && is_small l.witness) (shows_clause g x l.clause l.witness) a.1 in
        let c = and_parts (serves l.witness x.predicate && names_known g l.witness) (is_small l.witness) b.0 in
        let known = (and_parts (serves l.witness x.predicate) (names_known g l.witness) c.0).1 in
        and_from (is_name l.atom && list_all is_literal l.clause) (is_witness_within l.witness)
        (and_from (is_name l.atom) (list_all is_literal l.clause) (name_within l.atom (omega (arith, numbered_low p.atoms l.atom x e, ok.few_atoms))) (clause_within p l.clause ok.vars a.0))
        (witness_within g l.witness limited known c.1)

-- ---- chains

names_one : (earlier : List (List ℤ)) (c : List ℤ) (used : List ℕ) → IsTrue (covers c (chain_end (clauses_named earlier used))) → IsTrue (not (length used == 0))
names_one earlier c [] h = absurd cc
names_one earlier c (n ∷ ns) h = not_from_false (length (n ∷ ns) == 0) (ne_eqb (length (n ∷ ns)) 0 (λ e. omega (arith, e)))

chain_within : (p : Instance) (earlier : List (List ℤ)) (c : Chain) → IsInstance p → length earlier < 2 ^ 64 → IsTrue (is_justified_step p earlier (step.Chain c)) → IsTrue (is_step_within (step.Chain c))
chain_within p earlier c ok few h =
    let a = and_parts (names_vars p c.clause && names_clauses earlier c.used) (covers c.clause (chain_end (clauses_named earlier c.used))) h in
    let b = and_parts (names_vars p c.clause) (names_clauses earlier c.used) a.0 in
    and_from (list_all is_literal c.clause && list_all is_clause_number c.used) (not (length c.used == 0))
    (and_from (list_all is_literal c.clause) (list_all is_clause_number c.used) (clause_within p c.clause ok.vars b.0)
    (all_more (λ n. nat_le 1 n && nat_le n (length earlier)) is_clause_number c.used
    (λ n k. le-leb n (2 ^ 64 - 1) (omega (arith, few, leb-true n (length earlier) (and_parts (nat_le 1 n) (nat_le n (length earlier)) k).1))) b.1))
    (names_one earlier c.clause c.used a.1)

-- ---- steps

step_within : (p : Instance) (earlier : List (List ℤ)) (s : Step) → IsInstance p → length earlier < 2 ^ 64 → IsTrue (is_justified_step p earlier s) → IsTrue (is_step_within s)
step_within p earlier (step.Lemma l) ok few h = lemma_within p l ok h
step_within p earlier (step.Chain c) ok few h = chain_within p earlier c ok few h

pub steps_within : (p : Instance) (earlier : List (List ℤ)) (ss : List Step) → IsInstance p → length earlier + length ss < 2 ^ 64 → IsTrue (are_justified_after p earlier ss) → IsTrue (list_all is_step_within ss)
steps_within p earlier [] ok few h = refl
steps_within p earlier (s ∷ ss) ok few h =
    let a = and_parts (is_justified_step p earlier s) (are_justified_after p (earlier ++ clause_of s ∷ []) ss) h in
    and_from (is_step_within s) (list_all is_step_within ss)
    (step_within p earlier s ok (omega (arith, few)) a.0)
    (steps_within p (earlier ++ clause_of s ∷ []) ss ok (omega (arith, few, length-append earlier (clause_of s ∷ []))) a.1)
