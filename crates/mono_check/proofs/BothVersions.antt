-- What the lines of an answer's printed texts come to in both versions, whatever their numbers are.
use Rattle.std.proofs.Common.{◌≡◌, ℕ, ◌+◌, ◌-◌, ◌<◌, ◌≤◌, ◌^◌, Bool, true, false, ◌&&◌, List, [], ◌∷◌, ◌++◌, length, map, Option, Some, None, option_map, decimal, refl, sym, ap, ◌∙◌, arith}
use Rattle.std.specs.Prelude.{IsTrue, ℤ, nat_le, nat_lt, option_and_then}
use Rattle.std.specs.List.{list_all}
use Rattle.std.proofs.lemmas.Bool.{and_parts, and_from, ltb-true, leb-true, le-leb}
use Rattle.mono_problem.specs.Instance.{Instance}
use Rattle.mono_steps.specs.declared.lemma.Witness.{Witness}
use Rattle.mono_steps.specs.declared.step.Step.{Step}
use Rattle.mono_steps.specs.declared.step.Step.TheVariants as step
use Rattle.mono_answer.specs.declared.item.Item.{Item}
use Rattle.mono_answer.specs.declared.item.Item.TheVariants as says
use Rattle.mono_answer.specs.declared.version.Version.TheVariants as version
use Rattle.mono_answer.specs.Items.{item_of, lemma_item, name_of, literals_of, witness_of}
use Rattle.mono_answer.specs.Versions.{items_by, turned_numbers, turned, turned_steps, names_earlier, all_name_earlier}
use Rattle.mono_answer.specs.Printed.{numbers_text, with_zero, word_for, word_text, witness_text, step_line, is_literal, is_clause_number}
use Rattle.mono_answer.proofs.KeptLines.{items_from, word_line}
use Rattle.mono_answer.proofs.ReadBack.{literals_read}
use Rattle.mono_answer.proofs.RoundTrip.{chain_said, turned_twice}
use Rattle.mono_check.specs.Migrations.{has_literals}
use Rattle.mono_check.specs.SoFar.{StepsSoFar, or_fault, steps_behind, steps_more}
use Rattle.mono_check.specs.StepLines.{step_line_fault}

-- ---- a lemma's line says a lemma, or nothing

abbrev is_no_chain : Option Item → Bool
is_no_chain None = true
is_no_chain (Some (says.Step (step.Lemma l))) = true
is_no_chain (Some (says.Step (step.Chain c))) = false
is_no_chain (Some (says.Status k)) = false
is_no_chain (Some (says.Values zs)) = false

by_witness : (a : ℕ) (c : List ℤ) (o : Option Witness) → is_no_chain (option_map (lemma_item a c) o) ≡ true
by_witness a c None = refl
by_witness a c (Some x) = refl

by_literals : (f : List (List ℕ) → Option Witness) (a : ℕ) (o : Option (List ℤ × List (List ℕ)))
    → is_no_chain (option_and_then (λ p. option_map (lemma_item a p.0) (f p.1)) o) ≡ true
by_literals f a None = refl
by_literals f a (Some p) = by_witness a p.0 (f p.1)

by_atom : (f : List (List ℕ) → Option Witness) (ts : List (List ℕ)) (o : Option ℕ)
    → is_no_chain (option_and_then (λ a. option_and_then (λ p. option_map (lemma_item a p.0) (f p.1)) (literals_of ts)) o) ≡ true
by_atom f ts None = refl
by_atom f ts (Some a) = by_literals f a (literals_of ts)

word_no_chain : (x : Witness) (t : List ℕ) (ts : List (List ℕ)) → is_no_chain (item_of (word_text (word_for x) ∷ t ∷ ts)) ≡ true
word_no_chain x t ts = ap is_no_chain (word_line (word_for x) (t ∷ ts)).1 ∙ by_atom (witness_of (word_for x)) ts (name_of t)

-- ---- steps come to the same, told in either version

-- what lines come to behind each beginning, the first being of number m in version 2
AlikeBehind : Instance → Bool → ℕ → List (ℕ × Option Item) → List (ℕ × Option Item) → Type 0
AlikeBehind p refutes m xs ys = (s : StepsSoFar) → steps_behind p refutes s (items_by version.Two m xs) ≡ steps_behind p refutes s ys

-- a line that is the same in both, and says no chain
no_chain_first : (p : Instance) (refutes : Bool) (m n : ℕ) (o : Option Item) (xs ys : List (ℕ × Option Item)) → is_no_chain o ≡ true → AlikeBehind p refutes (m + 1) xs ys → AlikeBehind p refutes m ((n, o) ∷ xs) ((n, o) ∷ ys)
unfolding AlikeBehind
no_chain_first p refutes m n None xs ys e h = λ s. refl
no_chain_first p refutes m n (Some (says.Step (step.Lemma l))) xs ys e h = λ s.
    ap (or_fault n (step_line_fault p s.clauses (Some (says.Step (step.Lemma l))))) (h (steps_more n (Some (says.Step (step.Lemma l))) s))
no_chain_first p refutes m n (Some (says.Step (step.Chain c))) xs ys e h = absurd cc
no_chain_first p refutes m n (Some (says.Status k)) xs ys e h = absurd cc
no_chain_first p refutes m n (Some (says.Values zs)) xs ys e h = absurd cc

-- a line that says a step in both, turned in one
turned_first : (p : Instance) (refutes : Bool) (m n : ℕ) (a b : Option Item) (s t : Step) (xs ys : List (ℕ × Option Item)) → a ≡ Some (says.Step s) → b ≡ Some (says.Step t) → turned m s ≡ t
    → AlikeBehind p refutes (m + 1) xs ys → AlikeBehind p refutes m ((n, a) ∷ xs) ((n, b) ∷ ys)
unfolding AlikeBehind
turned_first p refutes m n a b s t xs ys first second same h = λ k.
    ap (λ (o : Option Item). steps_behind p refutes k (items_by version.Two m ((n, o) ∷ xs))) first
    ∙ (ap (λ (r : Step). steps_behind p refutes k ((n, Some (says.Step r)) ∷ items_by version.Two (m + 1) xs)) same
    ∙ (ap (or_fault n (step_line_fault p k.clauses (Some (says.Step t)))) (h (steps_more n (Some (says.Step t)) k))
    ∙ ap (λ (o : Option Item). steps_behind p refutes k ((n, o) ∷ ys)) (sym second)))

-- ---- chains

chain_none : (c : List ℤ) → IsTrue (list_all is_literal c) → item_of (step_line (step.Chain (record { clause = c; used = [] }))) ≡ None
chain_none c lits = rw (literals_read c [] lits) refl

earlier_within : (m : ℕ) (ds : List ℕ) → m ≤ 2 ^ 64 → IsTrue (list_all (λ d. nat_le 1 d && nat_lt d m) ds) → IsTrue (list_all is_clause_number ds)
earlier_within m [] few h = refl
earlier_within m (d ∷ ds) few h =
    let p = and_parts (nat_le 1 d && nat_lt d m) (list_all (λ e. nat_le 1 e && nat_lt e m) ds) h in
    let below : d < m = ltb-true d m (and_parts (nat_le 1 d) (nat_lt d m) p.0).1 in
    let low : d ≤ 2 ^ 64 - 1 = omega arith in
    and_from (is_clause_number d) (list_all is_clause_number ds) (le-leb d (2 ^ 64 - 1) low) (earlier_within m ds few p.1)

turned_within : (m : ℕ) (ds : List ℕ) → m ≤ 2 ^ 64 → IsTrue (list_all (λ d. nat_le 1 d && nat_lt d m) ds) → IsTrue (list_all is_clause_number (turned_numbers m ds))
turned_within m [] few h = refl
turned_within m (d ∷ ds) few h =
    let p = and_parts (nat_le 1 d && nat_lt d m) (list_all (λ e. nat_le 1 e && nat_lt e m) ds) h in
    let some : 1 ≤ d = leb-true 1 d (and_parts (nat_le 1 d) (nat_lt d m) p.0).0 in
    let low : m - d ≤ 2 ^ 64 - 1 = omega arith in
    and_from (is_clause_number (m - d)) (list_all is_clause_number (turned_numbers m ds)) (le-leb (m - d) (2 ^ 64 - 1) low) (turned_within m ds few p.1)

chain_first : (p : Instance) (refutes : Bool) (m n : ℕ) (c : List ℤ) (used : List ℕ) (xs ys : List (ℕ × Option Item)) → IsTrue (list_all is_literal c) → IsTrue (list_all (λ d. nat_le 1 d && nat_lt d m) used) → m ≤ 2 ^ 64
    → AlikeBehind p refutes (m + 1) xs ys
    → AlikeBehind p refutes m ((n, item_of (step_line (turned m (step.Chain (record { clause = c; used = used }))))) ∷ xs) ((n, item_of (step_line (step.Chain (record { clause = c; used = used })))) ∷ ys)
chain_first p refutes m n c [] xs ys lits names few h = rw (chain_none c lits) (no_chain_first p refutes m n None xs ys refl h)
chain_first p refutes m n c (u ∷ us) xs ys lits names few h =
    let here = step.Chain (record { clause = c; used = u ∷ us }) in
    turned_first p refutes m n (item_of (step_line (turned m here))) (item_of (step_line here)) (turned m here) here xs ys
    (chain_said c (m - u) (turned_numbers m us) lits (turned_within m (u ∷ us) few names)) (chain_said c u us lits (earlier_within m (u ∷ us) few names)) (turned_twice m here names) h

-- ---- all steps

-- the first has the number m and stands in line n
pub steps_alike : (p : Instance) (refutes : Bool) (m n : ℕ) (ss : List Step) → IsTrue (list_all has_literals ss) → IsTrue (all_name_earlier m ss) → m + length ss ≤ 2 ^ 64
    → (s : StepsSoFar) → steps_behind p refutes s (items_by version.Two m (items_from n (map step_line (turned_steps m ss)))) ≡ steps_behind p refutes s (items_from n (map step_line ss))
unfolding AlikeBehind
steps_alike p refutes m n [] lits names few = λ s. refl
steps_alike p refutes m n (step.Lemma l ∷ ss) lits names few =
    no_chain_first p refutes m n (item_of (step_line (step.Lemma l))) (items_from (n + 1) (map step_line (turned_steps (m + 1) ss))) (items_from (n + 1) (map step_line ss))
    (word_no_chain l.witness (decimal l.atom) (numbers_text (with_zero l.clause) ++ witness_text l.witness))
    (steps_alike p refutes (m + 1) (n + 1) ss lits names (omega (arith, few)))
steps_alike p refutes m n (step.Chain c ∷ ss) lits names few =
    let both = and_parts (list_all is_literal c.clause) (list_all has_literals ss) lits in
    let earlier = and_parts (names_earlier m (step.Chain c)) (all_name_earlier (m + 1) ss) names in
    chain_first p refutes m n c.clause c.used (items_from (n + 1) (map step_line (turned_steps (m + 1) ss))) (items_from (n + 1) (map step_line ss))
    both.0 earlier.0 (omega (arith, few))
    (steps_alike p refutes (m + 1) (n + 1) ss both.1 earlier.1 (omega (arith, few)))
