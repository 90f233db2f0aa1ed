-- What unit propagation gives from assumptions that are true in a partial assignment, where every clause is quiet there.
use Rattle.std.proofs.Common.{◌≡◌, false, not, ◌&&◌, ◌||◌, List, [], ◌∷◌, filter, map, sym, ap, subst, ◌∙◌, inl, inr, ℤ, refl}
use Rattle.std.specs.Prelude.{IsTrue, neg_ℤ, pos}
use Rattle.std.specs.Ordering.{int_eq}
use Rattle.std.specs.List.{list_any}
use Rattle.std.proofs.lemmas.Bool.{and_parts, or_cases, or_left, or_right, or_from, not-true, both_ways, false_from_ne_true}
use Rattle.std.proofs.lemmas.Bool.Decides.{Decides-int_eq}
use Rattle.mono_base.specs.Literal.{has_lit, without}
use Rattle.mono_base.specs.Partial.{is_partial, is_true_in, is_false_in, is_open_in, is_false_clause, others_false, has_two, is_quiet, unit_quiet}
use Rattle.mono_base.proofs.Truth.{same_lit, at_each}
use Rattle.mono_base.proofs.Partials.{neg-neg, one_sign}
use Rattle.mono_steps.specs.New.{IsNewClause}
use Rattle.mono_steps.specs.Propagated.{is_unit_with, is_propagated, has_false}
use Rattle.mono_steps.proofs.LitTests.{found, has-filter, no_two}
use Rattle.mono_steps.proofs.LeftOpen.{others_are_false, open_not_true, open_not_false}
use Rattle.mono_steps.proofs.Sets.{has-without}

-- the literals of the second list are among those of the first
record Holds (t s : List ℤ) : Type 0 where
  each : (m : ℤ) → IsTrue (has_lit s m) → IsTrue (has_lit t m)

-- a quiet clause isn't false
not_false : (t s d : List ℤ) → IsTrue (is_partial t) → Holds t s → IsTrue (is_quiet t d) → IsTrue (is_false_clause s d) → ⊥
not_false t s d p sub q all =
    let off : (k : ℤ) → IsTrue (has_lit d k) → IsTrue (is_false_in t k) = λ k h. sub.each (neg_ℤ k) (at_each (is_false_in s) d all k h) in
    elim (or_cases (list_any (is_true_in t) d) (has_two (filter (is_open_in t) d)) q) [
      | inl some ↦ let f = found (is_true_in t) d some in one_sign t f.lit p f.passes (off f.lit f.has)
      | inr two ↦ both_ways (has_two (filter (is_open_in t) d)) (no_two (filter (is_open_in t) d) (pos 0) (λ k h.
          let a = and_parts (is_open_in t k) (has_lit d k) (sym (has-filter (is_open_in t) d k) ∙ h) in
          absurd (open_not_false t k a.0 (off k a.1)))) two
    ]

-- the only literal of a quiet clause that isn't false is true
unit_true : (t s d : List ℤ) (m : ℤ) → IsTrue (is_partial t) → Holds t s → IsTrue (is_quiet t d) → IsTrue (others_false s d m) → IsTrue (has_lit t m)
unit_true t s d m p sub q all =
    elim (or_cases (list_any (is_true_in t) d) (has_two (filter (is_open_in t) d)) q) [
      | inl some ↦
          let f = found (is_true_in t) d some in
          elim (others_are_false s d m f.lit all f.has) [
            | inl same ↦ subst (λ (x : ℤ). IsTrue (has_lit t x)) same f.passes
            | inr off ↦ absurd (one_sign t f.lit p f.passes (sub.each (neg_ℤ f.lit) off))
          ]
      | inr two ↦ absurd (both_ways (has_two (filter (is_open_in t) d)) (no_two (filter (is_open_in t) d) m (λ k h.
          let a = and_parts (is_open_in t k) (has_lit d k) (sym (has-filter (is_open_in t) d k) ∙ h) in
          elim (others_are_false s d m k all a.1) [
            | inl same ↦ same
            | inr off ↦ absurd (open_not_false t k a.0 (sub.each (neg_ℤ k) off))
          ])) two)
    ]

some_unit_true : (t s : List ℤ) (ds : List (List ℤ)) (m : ℤ) → IsTrue (is_partial t) → Holds t s → IsTrue (unit_quiet ds t) → IsTrue (is_unit_with s ds m) → IsTrue (has_lit t m)
some_unit_true t s [] m p sub q h = absurd cc
some_unit_true t s (d ∷ ds) m p sub q h =
    let a = and_parts (is_quiet t d) (unit_quiet ds t) q in
    elim (or_cases (has_lit d m && others_false s d m) (is_unit_with s ds m) h) [
      | inl here ↦ unit_true t s d m p sub a.0 (and_parts (has_lit d m) (others_false s d m) here).1
      | inr later ↦ some_unit_true t s ds m p sub a.1 later
    ]

none_false : (t s : List ℤ) (ds : List (List ℤ)) → IsTrue (is_partial t) → Holds t s → IsTrue (unit_quiet ds t) → has_false ds s ≡ false
none_false t s [] p sub q = refl
none_false t s (d ∷ ds) p sub q =
    let a = and_parts (is_quiet t d) (unit_quiet ds t) q in
    or_from (is_false_clause s d) (has_false ds s) (false_from_ne_true (is_false_clause s d) (λ all. not_false t s d p sub a.0 all)) (none_false t s ds p sub a.1)

-- what is propagated is true
propagated_true : (t : List ℤ) (known : List (List ℤ)) (assumed s : List ℤ) → IsTrue (is_partial t) → Holds t assumed → IsTrue (unit_quiet known t) → IsTrue (is_propagated known assumed s) → Holds t s
propagated_true t known assumed [] p sub q h = record { each = λ m k. absurd cc }
propagated_true t known assumed (x ∷ s) p sub q h =
    let a = and_parts (has_lit assumed x || is_unit_with s known x) (is_propagated known assumed s) h in
    let rest = propagated_true t known assumed s p sub q a.1 in
    let first : IsTrue (has_lit t x) = elim (or_cases (has_lit assumed x) (is_unit_with s known x) a.0) [
      | inl here ↦ sub.each x here
      | inr unit ↦ some_unit_true t s known x p rest q unit
    ] in
    record {
      each = λ m k. elim (or_cases (int_eq m x) (has_lit s m) k) [
        | inl e ↦ subst (λ (y : ℤ). IsTrue (has_lit t y)) (sym (same_lit m x e)) first
        | inr e ↦ rest.each m e
      ];
    }

-- negations
has-map_neg : (c : List ℤ) (m : ℤ) → IsTrue (has_lit (map neg_ℤ c) m) → IsTrue (has_lit c (neg_ℤ m))
has-map_neg [] m h = absurd cc
has-map_neg (x ∷ c) m h = elim (or_cases (int_eq m (neg_ℤ x)) (has_lit (map neg_ℤ c) m) h) [
  | inl e ↦ or_left (int_eq (neg_ℤ m) x) (has_lit c (neg_ℤ m)) ((Decides-int_eq (neg_ℤ m) x).1 (ap neg_ℤ (same_lit m (neg_ℤ x) e) ∙ neg-neg x))
  | inr e ↦ or_right (int_eq (neg_ℤ m) x) (has_lit c (neg_ℤ m)) (has-map_neg c m e)
]

-- whoever assumes the other literals of a new clause false, and propagates units, gets neither the one left nor a false clause
pub not_propagated : (known : List (List ℤ)) (c : List ℤ) → IsNewClause known c
    → (l : ℤ) × IsTrue (has_lit c l) × ((s : List ℤ) → IsTrue (is_propagated known (map neg_ℤ (without c l)) s) → (has_lit s l ≡ false) × (has_false known s ≡ false))
not_propagated known c new = (new.lit, new.has, λ s h. (stays_out s (held s h), none_false new.under s known new.partial (held s h) new.quiet))
  where
    assumed : Holds new.under (map neg_ℤ (without c new.lit))
    assumed = record {
      each = λ m h.
          let a = and_parts (not (int_eq new.lit (neg_ℤ m))) (has_lit c (neg_ℤ m)) (sym (has-without c new.lit (neg_ℤ m)) ∙ has-map_neg (without c new.lit) m h) in
          elim (others_are_false new.under c new.lit (neg_ℤ m) new.others a.1) [
            | inl same ↦ absurd (both_ways (int_eq new.lit (neg_ℤ m)) (not-true (int_eq new.lit (neg_ℤ m)) a.0) ((Decides-int_eq new.lit (neg_ℤ m)).1 (sym same)))
            | inr off ↦ subst (λ (x : ℤ). IsTrue (has_lit new.under x)) (neg-neg m) off
          ];
    }

    held : (s : List ℤ) → IsTrue (is_propagated known (map neg_ℤ (without c new.lit)) s) → Holds new.under s
    held s h = propagated_true new.under known (map neg_ℤ (without c new.lit)) s new.partial assumed new.quiet h

    stays_out : (s : List ℤ) → Holds new.under s → has_lit s new.lit ≡ false
    stays_out s b = false_from_ne_true (has_lit s new.lit) (λ x. open_not_true new.under new.lit new.is_open (b.each new.lit x))
