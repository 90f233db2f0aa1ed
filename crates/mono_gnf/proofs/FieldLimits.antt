-- What a word line says is within the limits of its fields.
use Rattle.std.proofs.Common.{◌≡◌, ℕ, zero, suc, ◌+◌, ◌≤◌, Bool, true, false, cond, List, [], ◌∷◌, length, get_or, Option, Some, None, Result, Ok, Err, refl, subst, arith, ltb, drop, ◌==◌}
use Rattle.std.specs.Prelude.{not, ◌&&◌}
use Rattle.std.proofs.lemmas.Bool.Decides.{nat_tests}
use Rattle.std.proofs.lemmas.Int.{ints}
use Rattle.mono_text.specs.declared.number.NumberRefusal.{NumberRefusal}
use Rattle.mono_text.specs.declared.number.NumberRefusal.TheVariants as refusal
use Rattle.mono_text.specs.declared.field.FieldRefusal.TheVariants as field
use Rattle.mono_text.specs.declared.field.FieldRefusal.{FieldRefusal}
use Rattle.mono_text.specs.Numbers.{natural, within}
use Rattle.mono_text.specs.Fields.{onto, fields_from, fields_of}
use Rattle.mono_problem.specs.declared.atom.Predicate.TheVariants as kind
use Rattle.mono_problem.specs.WellFormed.{IsMost, IsLeast}
use Rattle.mono_gnf.specs.declared.fault.GnfFault.{GnfFault}
use Rattle.mono_gnf.specs.declared.fault.GnfFault.TheVariants as fault
use Rattle.mono_gnf.specs.declared.statement.BoundedKind.{BoundedKind}
use Rattle.mono_gnf.specs.declared.statement.BoundedKind.TheVariants as bounded_kind
use Rattle.mono_gnf.specs.declared.statement.Statement.{Statement}
use Rattle.mono_gnf.specs.declared.statement.Statement.TheVariants as says
use Rattle.mono_gnf.specs.declared.statement.Word.{Word}
use Rattle.mono_gnf.specs.declared.statement.Word.TheVariants as word
use Rattle.mono_gnf.specs.Statements.{MAX_WIDE, field as field_at, word_of, with_fields, names_other_form, has_int, edge_of, bounded_by, form_of, statement_of, at_most, at_least}
use Rattle.mono_gnf.specs.Within.{IsWithin, IsBounded}
use Rattle.mono_base.specs.declared.limits.TheConstants.{MAX_VARS, MAX_NODES, MAX_WEIGHT, MAX_BOUND}

-- ---- the fields

within_limit : (limit n : ℕ) (o : Option ℕ) → within limit o ≡ Ok n → n ≤ limit
within_limit limit n None h = absurd cc
within_limit limit n (Some m) h = go (ltb limit m) refl h where
  go : (b : Bool) → ltb limit m ≡ b → cond b (Err refusal.TooLarge) (Ok m) ≡ Ok n → n ≤ limit
  go true test e = absurd cc
  go false test e = let same : m ≡ n = cc in let low : m ≤ limit = grind (arith, nat_tests) in omega arith

-- the fields are within their limits, each at its place
abbrev AreWithin : List ℕ → List ℕ → Type 0
AreWithin limits fs = (i : ℕ) → get_or fs i 0 ≤ get_or limits i 0

one_more : (l : ℕ) (ls fs : List ℕ) (n : ℕ) (ns : List ℕ) → n ≤ l → AreWithin ls ns → n ∷ ns ≡ fs → AreWithin (l ∷ ls) fs
one_more l ls fs n ns low more e = subst (AreWithin (l ∷ ls)) e (λ i. at i) where
  at : (i : ℕ) → get_or (n ∷ ns) i 0 ≤ get_or (l ∷ ls) i 0
  at zero = low
  at (suc i) = more i

onto_within : (k l : ℕ) (ls fs : List ℕ) (o : Option ℕ) (r : Result ℕ NumberRefusal) (others : Result (List ℕ) FieldRefusal) → within l o ≡ r → ((ns : List ℕ) → others ≡ Ok ns → AreWithin ls ns) → onto k r others ≡ Ok fs → AreWithin (l ∷ ls) fs
onto_within k l ls fs o (Err e) others a b h = absurd cc
onto_within k l ls fs o (Ok n) (Err e) a b h = absurd cc
onto_within k l ls fs o (Ok n) (Ok ns) a b h = one_more l ls fs n ns (within_limit l n o a) (b ns refl) cc

from_within : (k : ℕ) (limits : List ℕ) (ts : List (List ℕ)) (fs : List ℕ) → fields_from k limits ts ≡ Ok fs → AreWithin limits fs
from_within k [] ts [] h = λ i. omega arith
from_within k [] ts (f ∷ fs) h = absurd cc
from_within k (l ∷ ls) [] fs h = absurd cc
from_within k (l ∷ ls) (t ∷ ts) fs h = onto_within k l ls fs (natural t) (within l (natural t)) (fields_from (k + 1) ls ts) refl (λ ns e. from_within (k + 1) ls ts ns e) h

fields_within : (limits : List ℕ) (ts : List (List ℕ)) (fs : List ℕ) → fields_of limits ts ≡ Ok fs → AreWithin limits fs
fields_within limits ts fs h = go (length ts == length limits) h where
  go : (b : Bool) → cond b (fields_from 0 limits ts) (Err field.Count) ≡ Ok fs → AreWithin limits fs
  go true e = from_within 0 limits ts fs e
  go false e = absurd cc

-- what is said is said of fields within their limits
said : (limits : List ℕ) (ts : List (List ℕ)) (say : List ℕ → Statement) (s : Statement) → with_fields (fields_of limits ts) say ≡ Ok s → ((fs : List ℕ) → AreWithin limits fs → IsWithin (say fs)) → IsWithin s
said limits ts say s h all = go (fields_of limits ts) refl h where
  go : (r : Result (List ℕ) FieldRefusal) → fields_of limits ts ≡ r → with_fields r say ≡ Ok s → IsWithin s
  go (Err e) is e2 = absurd cc
  go (Ok fs) is e2 = let same : say fs ≡ s = cc in subst IsWithin same (all fs (fields_within limits ts fs is))

-- ---- bounds

most_within : (strict : Bool) (k : ℕ) → k ≤ MAX_BOUND → IsMost (at_most strict k)
most_within true k h = (omega (arith, ints), omega (arith, ints))
most_within false k h = (omega (arith, ints), omega (arith, ints))

least_within : (strict : Bool) (k : ℕ) → k ≤ MAX_BOUND → IsLeast (at_least strict k)
least_within true k h = (omega (arith, ints), omega (arith, ints))
least_within false k h = (omega (arith, ints), omega (arith, ints))

-- ---- the forms

or_fault : (b : Bool) (e : GnfFault) (r : Result Statement GnfFault) (s : Statement) → cond b (Err e) r ≡ Ok s → r ≡ Ok s
or_fault true e r s h = absurd cc
or_fault false e r s h = h

bounded_within : (m : BoundedKind) (strict : Bool) (u v k : ℕ) → k ≤ MAX_BOUND → IsBounded (bounded_by m strict u v k)
bounded_within bounded_kind.Steps strict u v k low = most_within strict k low
bounded_within bounded_kind.Distance strict u v k low = most_within strict k low
bounded_within bounded_kind.Flow strict u v f low = least_within strict f low

edge_within : (ts : List (List ℕ)) (s : Statement) → edge_of ts ≡ Ok s → IsWithin s
edge_within ts s h = go (length ts == 5) h where
  heavy : List ℕ
  heavy = MAX_WIDE ∷ MAX_WIDE ∷ MAX_WIDE ∷ MAX_VARS ∷ MAX_WEIGHT ∷ []

  light : List ℕ
  light = MAX_WIDE ∷ MAX_WIDE ∷ MAX_WIDE ∷ MAX_VARS ∷ []

  weighted : List ℕ → Statement
  weighted fs = says.Edge (field_at fs 0) (field_at fs 1) (field_at fs 2) (field_at fs 3) (field_at fs 4)

  bare : List ℕ → Statement
  bare fs = says.Edge (field_at fs 0) (field_at fs 1) (field_at fs 2) (field_at fs 3) 1

  go : (b : Bool) → cond b (with_fields (fields_of heavy ts) weighted) (with_fields (fields_of light ts) bare) ≡ Ok s → IsWithin s
  go true e = said heavy ts weighted s e (λ fs low. (low 3, low 4))
  go false e = said light ts bare s e (λ fs low. (low 3, omega arith))

form_within : (w : Word) (ts : List (List ℕ)) (s : Statement) → form_of w ts ≡ Ok s → IsWithin s
form_within word.Header ts s h = said (MAX_VARS ∷ MAX_WIDE ∷ []) (drop 1 ts) (λ fs. says.Header (field_at fs 0)) s (or_fault (names_other_form ts) fault.UnknownWord _ s h) (λ fs low. low 0)
form_within word.Digraph ts s h = said (MAX_NODES ∷ MAX_WIDE ∷ MAX_WIDE ∷ []) (cond (length ts == 4) (drop 1 ts) ts) (λ fs. says.Graph (field_at fs 2) (field_at fs 0)) s (or_fault (length ts == 4 && not (has_int ts)) fault.WeightWord _ s h) (λ fs low. (low 2, low 0))
form_within word.Edge ts s h = edge_within ts s h
form_within word.Reach ts s h = said (MAX_WIDE ∷ MAX_WIDE ∷ MAX_WIDE ∷ MAX_VARS ∷ []) ts (λ fs. says.Atom (field_at fs 0) (field_at fs 3) (kind.Reach (field_at fs 1) (field_at fs 2))) s h (λ fs low. (low 3, tt))
form_within (word.Bounded m strict) ts s h = said (MAX_WIDE ∷ MAX_WIDE ∷ MAX_WIDE ∷ MAX_VARS ∷ MAX_BOUND ∷ []) ts (λ fs. says.Atom (field_at fs 0) (field_at fs 3) (bounded_by m strict (field_at fs 1) (field_at fs 2) (field_at fs 4))) s h (λ fs low. (low 3, bounded_within m strict (field_at fs 1) (field_at fs 2) (get_or fs 4 0) (low 4)))
form_within (word.Tree strict) ts s h = said (MAX_WIDE ∷ MAX_VARS ∷ MAX_BOUND ∷ []) ts (λ fs. says.Atom (field_at fs 0) (field_at fs 1) (kind.Tree (at_most strict (field_at fs 2)))) s h (λ fs low. (low 1, most_within strict (get_or fs 2 0) (low 2)))
form_within word.Acyclic ts s h = said (MAX_WIDE ∷ MAX_VARS ∷ []) ts (λ fs. says.Atom (field_at fs 0) (field_at fs 1) kind.Acyclic) s h (λ fs low. (low 1, tt))

pub statement_within : (line : List (List ℕ)) (s : Statement) → statement_of line ≡ Ok s → IsWithin s
unfolding statement_of
statement_within [] s h = absurd cc
statement_within (t ∷ ts) s h = go (word_of t) h where
  go : (o : Option Word) → ◌≡◌ {A = Result Statement GnfFault} (elim o [ None ↦ Err fault.UnknownWord | Some w ↦ form_of w ts ]) (Ok s) → IsWithin s
  go None e = absurd cc
  go (Some w) e = form_within w ts s e
