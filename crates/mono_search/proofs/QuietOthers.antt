-- The theories that aren't listed are quiet.
use Rattle.std.proofs.Common.{◌≡◌, ◌∙◌, ℕ, ◌<◌, Bool, true, false, List, [], All, get_or, set, length, sym, ap, subst, inl, inr, arith}
use Rattle.std.proofs.lemmas.Bool.{cases_eq, both_ways}
use Rattle.std.proofs.lemmas.List.{length-set, get_or-set_same, get_or-set_other, get_or_default}
use Rattle.mono_graph.specs.Digraph.{has}
use Rattle.mono_theory.specs.Theories.{Facts}
use Rattle.mono_search.specs.TheoryLists.{IsQuietTheory, OthersAreQuiet}

-- where all are listed
pub all_listed : (fs : List Facts) (listed : List Bool) → length listed ≡ length fs → ((i : ℕ) → i < length fs → get_or listed i false ≡ true) → OthersAreQuiet fs listed
all_listed fs listed all on = record { count = all; quiet = λ i f lt off. absurd (both_ways (get_or listed i false) off (on i lt)) }

-- a theory that changes is listed
pub changed : (fs : List Facts) (listed : List Bool) (p : ℕ) (f : Facts) → p < length fs → OthersAreQuiet fs listed → OthersAreQuiet (set fs p f) (set listed p true)
changed fs listed p f lt o = record {
  count = length-set listed p true ∙ o.count ∙ sym (length-set fs p f);
  quiet = λ i d within off. elim (cases_eq i p) [
    | inl e ↦ absurd (both_ways (get_or (set listed p true) i false) off
        (ap (λ (j : ℕ). get_or (set listed p true) j false) e ∙ get_or-set_same listed p true false (let all = o.count in omega (arith, all, lt))))
    | inr ne ↦ subst IsQuietTheory (sym (get_or-set_other fs p i f d ne))
        (o.quiet i d (omega (arith, within, length-set fs p f)) (sym (get_or-set_other listed p i true false ne) ∙ off))
  ];
}

-- a theory that was asked and is quiet leaves the list
pub settled : (fs : List Facts) (listed : List Bool) (p : ℕ) (f : Facts) → p < length fs → f ≡ get_or fs p f → IsQuietTheory f → OthersAreQuiet fs listed → OthersAreQuiet fs (set listed p false)
settled fs listed p f lt at q o = record {
  count = length-set listed p false ∙ o.count;
  quiet = λ i d within off. elim (cases_eq i p) [
    | inl e ↦ subst (λ (j : ℕ). IsQuietTheory (get_or fs j d)) (sym e) (subst IsQuietTheory (at ∙ get_or_default fs p f d lt) q)
    | inr ne ↦ o.quiet i d within (sym (get_or-set_other listed p i false false ne) ∙ off)
  ];
}

-- where none is listed all are quiet
pub all_quiet : (fs : List Facts) (listed : List Bool) (places : List ℕ) → OthersAreQuiet fs listed → ((p : ℕ) → has places p ≡ get_or listed p false) → places ≡ [] → All IsQuietTheory fs
all_quiet fs listed places o exact none i f lt = o.quiet i f lt (sym (exact i) ∙ ap (λ (ps : List ℕ). has ps i) none)
