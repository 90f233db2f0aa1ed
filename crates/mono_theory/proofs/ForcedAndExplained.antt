-- What atoms force and quiet is, and what the explanation of a forced literal is as a lemma.
use Rattle.std.proofs.Common.{◌≡◌, ℕ, suc, Bool, true, false, not, List, [], ◌∷◌, cond, eqb, eq-eqb, refl, sym, ap, subst, ◌∙◌, ◌⊎◌, inl, inr, arith, ℤ, pos, neg_ℤ, All, length, take}
use Rattle.std.specs.Prelude.{IsTrue, Option, Some, None, MatchOption, Contains}
use Rattle.std.specs.List.{list_any}
use Rattle.std.specs.Ordering.{int_eq}
use Rattle.std.proofs.lemmas.Bool.{both_ways, eqb-true, and_parts, and_from, not-true, not_from_false, cases_Bool}
use Rattle.std.proofs.lemmas.List.{take_all}
use Rattle.std.proofs.lemmas.List.Folds.{list_any_at}
use Rattle.mono_base.specs.Literal.{has_lit, without}
use Rattle.mono_base.specs.Partial.{is_true_in, is_false_in, is_open_in, is_partial, others_false}
use Rattle.mono_base.proofs.Partials.{false_not_true}
use Rattle.mono_base.proofs.Truth.{same_lit, at_each}
use Rattle.mono_graph.specs.Digraph.{Digraph}
use Rattle.mono_problem.specs.declared.atom.Atom.{Atom}
use Rattle.mono_problem.specs.Quiet.{Forces, IsQuietAtom, TheoryQuiet, part_to_hold, part_to_fail}
use Rattle.mono_problem.specs.Holds.{Holds}
use Rattle.mono_steps.proofs.Sets.{has-without}
use Rattle.mono_steps.specs.declared.lemma.Lemma.{Lemma}
use Rattle.mono_steps.specs.Switching.{literal_of}
use Rattle.mono_steps.specs.Witnesses.{is_shown}
use Rattle.mono_theory.specs.Theories.{atom_of, IsLemmaOf, IsForced, IsLemmaFor}

-- ---- the atom of a number

pub found_at : (atoms : List Atom) (n : ℕ) (x : Atom) → atom_of atoms n ≡ Some x → Contains atoms x × (x.number ≡ n)
found_at [] n x e = absurd cc
found_at (y ∷ ys) n x e = by (eqb y.number n) refl (λ f. found_at ys n x f) e
  where
    by : (b : Bool) → eqb y.number n ≡ b → (atom_of ys n ≡ Some x → Contains ys x × (x.number ≡ n)) → cond b (Some y) (atom_of ys n) ≡ Some x → Contains (y ∷ ys) x × (x.number ≡ n)
    by true q rest f = let same : y ≡ x = cc in ((0, omega arith, same), subst (λ (z : Atom). z.number ≡ n) same (eqb-true y.number n q))
    by false q rest f = let (c, m) = rest f in ((suc c.0, (let lt = c.1 in omega (arith, lt)), c.2), m)

-- what holds of all atoms, of one that was found
pub of_found : (P : Atom → Type 0) (atoms : List Atom) (n : ℕ) (x : Atom) → All P atoms → atom_of atoms n ≡ Some x → P x
of_found P atoms n x h e = let (k, lt, at) = (found_at atoms n x e).0 in subst P at (h k x lt)

pub own_var : (atoms : List Atom) (n : ℕ) (x : Atom) → atom_of atoms n ≡ Some x → IsTrue (list_any (λ (y : Atom). eqb y.var x.var) atoms)
own_var atoms n x e = let (k, lt, at) = (found_at atoms n x e).0 in list_any_at (λ (y : Atom). eqb y.var x.var) atoms k x lt (eq-eqb _ x.var (ap (λ (y : Atom). y.var) at))

-- ---- what is forced

forced_from : (g : Digraph) (atoms : List Atom) (t : List ℤ) (x : Atom) (l : ℤ) → atom_of atoms x.number ≡ Some x → Forces g x t l → is_true_in t l ≡ false → IsForced g atoms t x.number l
forced_from g atoms t x l e h missing = record { forces = subst (λ (o : Option Atom). MatchOption o ⊥ (λ y. Forces g y t l)) (sym e) h; not_yet = missing }

-- an atom whose predicate holds whatever comes forces its variable, and one whose predicate fails whatever comes the negation
pub overdue_is_forced : (g : Digraph) (atoms : List Atom) (t : List ℤ) (x : Atom) → atom_of atoms x.number ≡ Some x → Holds g (part_to_hold x.predicate g t) x.predicate × (is_true_in t (pos x.var) ≡ false) → IsForced g atoms t x.number (literal_of true x.var)
overdue_is_forced g atoms t x e h = forced_from g atoms t x (pos x.var) e (inl (refl, h.0)) h.1

pub barred_is_forced : (g : Digraph) (atoms : List Atom) (t : List ℤ) (x : Atom) → atom_of atoms x.number ≡ Some x → (¬ Holds g (part_to_fail x.predicate g t) x.predicate) × (is_false_in t (pos x.var) ≡ false) → IsForced g atoms t x.number (literal_of false x.var)
barred_is_forced g atoms t x e h = forced_from g atoms t x (neg_ℤ (pos x.var)) e (inr (refl, h.0)) h.1

loud : (g : Digraph) (t : List ℤ) (x : Atom) (l : ℤ) → Forces g x t l → is_true_in t l ≡ false → IsQuietAtom g t x → ⊥
loud g t x l (inl (e, holds)) missing q = both_ways (is_true_in t l) missing (subst (λ (m : ℤ). IsTrue (is_true_in t m)) (sym e) (q.0 holds))
loud g t x l (inr (e, fails)) missing q = fails (q.1 (ap (has_lit t) (sym e) ∙ missing))

pub forced_is_loud : (g : Digraph) (atoms : List Atom) (t : List ℤ) (n : ℕ) (l : ℤ) → IsForced g atoms t n l → ¬ TheoryQuiet g atoms t
forced_is_loud g atoms t n l u q = by (atom_of atoms n) refl u.forces
  where
    by : (o : Option Atom) → atom_of atoms n ≡ o → MatchOption o ⊥ (λ x. Forces g x t l) → ⊥
    by None e f = f
    by (Some x) e f = loud g t x l f u.not_yet (of_found (IsQuietAtom g t) atoms n x q e)

-- ---- the lemma of a forced literal

-- each literal of the clause but x is false
pub false_but : (t c : List ℤ) (x : ℤ) → IsTrue (others_false t c x) → (l : ℤ) → IsTrue (has_lit c l) → (l ≡ x) ⊎ IsTrue (is_false_in t l)
false_but t c x h l e = elim (cases_Bool (int_eq x l)) [
  | inl s ↦ inl (sym (same_lit x l s))
  | inr s ↦ inr (at_each (is_false_in t) (without c x) h l (has-without c x l ∙ and_from (not (int_eq x l)) (has_lit c l) (not_from_false (int_eq x l) s) e))
]

open_not_false : (t : List ℤ) (l : ℤ) → IsTrue (is_open_in t l) → IsTrue (is_false_in t l) → ⊥
open_not_false t l o f = both_ways (is_false_in t l) (not-true (is_false_in t l) (and_parts (not (is_true_in t l)) (not (is_false_in t l)) o).1) f

-- the explanation of a forced literal, with the whole list
pub finding_by : (g : Digraph) (atoms : List Atom) (t : List ℤ) (n : ℕ) (l : ℤ) (m : Lemma) (kept : ℕ) → IsTrue (is_partial t) → IsForced g atoms t n l → kept ≡ length t
    → IsLemmaOf g atoms (take kept t) n l m → IsLemmaFor g atoms t m
finding_by g atoms t n l m kept p u whole x =
    let s : IsLemmaOf g atoms t n l m = subst (λ (r : List ℤ). IsLemmaOf g atoms r n l m) (take_all kept t (omega arith)) x in
    let others = false_but t m.clause l s.others in
    record {
      shown = subst (λ (k : ℕ). MatchOption (atom_of atoms k) ⊥ (λ y. IsTrue (is_shown g y m))) (sym s.number) s.shown;
      concerned = s.concerned;
      none_true = λ k h. elim (others k h) [ inl e ↦ ap (is_true_in t) e ∙ u.not_yet | inr f ↦ false_not_true t k p f ];
      one_open = λ j k hj hk oj ok.
          elim (others j hj) [
            | inl e ↦ elim (others k hk) [ inl f ↦ e ∙ sym f | inr f ↦ absurd (open_not_false t k ok f) ]
            | inr e ↦ absurd (open_not_false t j oj e)
          ];
      lit = l;
      has = s.has;
      forced = subst (λ (k : ℕ). IsForced g atoms t k l) (sym s.number) u;
    }
