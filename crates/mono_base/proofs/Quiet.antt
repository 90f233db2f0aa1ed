-- Clauses that are quiet under a partial assignment with no open literal are true wherever it is extended.
use Rattle.std.proofs.Common.{◌≡◌, ℕ, Bool, false, List, [], ◌∷◌, refl, inl, inr, subst}
use Rattle.std.specs.Prelude.{ℤ, IsTrue, not, filter}
use Rattle.std.specs.List.{list_any, list_all}
use Rattle.std.proofs.lemmas.Bool.{or_cases, or_left, or_right, and_parts, and_from, not-true}
use Rattle.mono_base.specs.Literal.{lit_true, clause_true, all_true}
use Rattle.mono_base.proofs.Truth.{at_each}
use Rattle.mono_base.specs.Partial.{Extends, HasNoOpen, has_no_open, is_open_in, is_true_in, is_quiet, has_two, unit_quiet}

filter-none : (p : ℤ → Bool) (c : List ℤ) → IsTrue (list_all (λ l. not (p l)) c) → filter p c ≡ []
filter-none p [] h = refl
filter-none p (l ∷ ls) h =
    let parts = and_parts (not (p l)) (list_all (λ m. not (p m)) ls) h in
    let off : p l ≡ false = not-true (p l) parts.0 in
    rw off (filter-none p ls parts.1)

true_by_extension : (a : ℕ → Bool) (t c : List ℤ) → Extends a t → IsTrue (list_any (is_true_in t) c) → IsTrue (clause_true a c)
true_by_extension a t [] e h = absurd cc
true_by_extension a t (l ∷ ls) e h =
    elim (or_cases (is_true_in t l) (list_any (is_true_in t) ls) h) [
      | inl here ↦ or_left (lit_true a l) (clause_true a ls) (at_each (lit_true a) t e l here)
      | inr later ↦ or_right (lit_true a l) (clause_true a ls) (true_by_extension a t ls e later)
    ]

quiet_is_true : (a : ℕ → Bool) (t c : List ℤ) → Extends a t → IsTrue (list_all (λ l. not (is_open_in t l)) c) → IsTrue (is_quiet t c) → IsTrue (clause_true a c)
quiet_is_true a t c e none quiet =
    elim (or_cases (list_any (is_true_in t) c) (has_two (filter (is_open_in t) c)) quiet) [
      | inl holds ↦ true_by_extension a t c e holds
      | inr two ↦
          let P : List ℤ → Type 0 = λ ls. IsTrue (has_two ls) in
          let never : IsTrue (has_two []) = subst P (filter-none (is_open_in t) c none) two in
          absurd cc
    ]

pub quiet_are_true : (a : ℕ → Bool) (t : List ℤ) (clauses : List (List ℤ)) → Extends a t → HasNoOpen t clauses → IsTrue (unit_quiet clauses t) → IsTrue (all_true a clauses)
quiet_are_true a t [] e none quiet = refl
quiet_are_true a t (c ∷ cs) e none quiet =
    let n = and_parts (list_all (λ l. not (is_open_in t l)) c) (has_no_open t cs) none in
    let q = and_parts (is_quiet t c) (unit_quiet cs t) quiet in
    and_from (clause_true a c) (all_true a cs) (quiet_is_true a t c e n.0 q.0) (quiet_are_true a t cs e n.1 q.1)
