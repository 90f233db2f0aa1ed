-- Rows of stores that follow a trail, and of trails that grow by clauses.
use Rattle.std.proofs.Common.{◌≡◌, ℕ, zero, suc, ◌+◌, ◌<◌, ◌≤◌, List, [], ◌∷◌, ◌++◌, length, length-append, refl, sym, ap, subst, ◌∙◌, inl, inr, ℤ, pos, neg_ℤ, arith}
use Rattle.std.specs.Prelude.{Some, None}
use Rattle.std.proofs.lemmas.Option.{same_Some}
use Rattle.mono_base.specs.Literal.{lit_at}
use Rattle.mono_trail.specs.Places.{level_at}
use Rattle.mono_trail.specs.TrailView.{TrailView}
use Rattle.mono_clauses.specs.Propagation.{Grows, same, implies, gives, FalseFound}
use Rattle.mono_clauses.proofs.Growth.{Grows-level}
use Rattle.mono_clauses.specs.Store.{Held, IsTrueBy, Follows, FollowsBelow, watch_at, other}
use Rattle.mono_steps.specs.WorkedLemmas.{minus}
use Rattle.mono_rows.specs.TwoClauses.{two_clauses, watching, at_first, decided, implied, decided_again}

-- ---- stores

-- no literal is watched by both of two watchers, or by one that isn't there
never_alone : (w : ℕ) (a : ℤ) → watch_at (Some (pos 1) ∷ Some (pos 2) ∷ []) w ≡ Some a → watch_at (Some (pos 1) ∷ Some (pos 2) ∷ []) (other w) ≡ Some a → ⊥
never_alone zero a e f = let g : Some (pos 1) ≡ Some (pos 2) = e ∙ sym f in cc
never_alone (suc zero) a e f = let g : Some (pos 2) ≡ Some (pos 1) = e ∙ sym f in cc
never_alone (suc (suc w)) a e f = let g : None ≡ Some a = e in cc

never_watched : (w : ℕ) (a : ℤ) → watch_at [] w ≡ Some a → ⊥
never_watched zero a e = let g : None ≡ Some a = e in cc
never_watched (suc w) a e = let g : None ≡ Some a = e in cc

at_level_1 : (given p : ℕ) → p < 1 → level_at (decided given).marks p ≡ 1
at_level_1 given zero lt = refl
at_level_1 given (suc p) lt = absurd (omega (arith, lt))

pub waits_to_be_given : Follows (watching (Some (pos 1) ∷ Some (pos 2) ∷ [])) (decided 0)
waits_to_be_given = record {
  vars = refl;
  at = λ w a b e f. record { at = λ p lt there. inr (omega arith, at_level_1 0 p lt) };
  alone = λ w a e f. absurd (never_alone w a e f);
}

pub lags_at_the_present_level : FollowsBelow (watching (Some (pos 1) ∷ Some (pos 2) ∷ [])) (decided 1)
lags_at_the_present_level = record {
  vars = refl;
  at = λ w a b e f p lt there low. absurd (omega (arith, low, at_level_1 1 p lt));
  alone = λ w a e f. absurd (never_alone w a e f);
}

-- of 1 and 2, the negation of 1 alone stands there, and 2 is true at its level
mate_at_its_level : (w : ℕ) (a b : ℤ) → watch_at (Some (pos 1) ∷ Some (pos 2) ∷ []) w ≡ Some a → watch_at (Some (pos 1) ∷ Some (pos 2) ∷ []) (other w) ≡ Some b → (p : ℕ) → p < 2
    → lit_at (minus 1 ∷ pos 2 ∷ []) p ≡ neg_ℤ a → IsTrueBy (implied 2) b (level_at (implied 2).marks p)
mate_at_its_level zero a b e f zero lt there = subst (λ (x : ℤ). IsTrueBy (implied 2) x 1) (same_Some (pos 2) b f) (record { place = 1; within = omega arith; there = refl; low = omega arith })
mate_at_its_level zero a b e f (suc zero) lt there = let g : pos 2 ≡ minus 1 = there ∙ ap (λ (x : ℤ). neg_ℤ x) (sym (same_Some (pos 1) a e)) in absurd cc
mate_at_its_level zero a b e f (suc (suc p)) lt there = absurd (omega (arith, lt))
mate_at_its_level (suc zero) a b e f zero lt there = let g : minus 1 ≡ minus 2 = there ∙ ap (λ (x : ℤ). neg_ℤ x) (sym (same_Some (pos 2) a e)) in absurd cc
mate_at_its_level (suc zero) a b e f (suc zero) lt there = let g : pos 2 ≡ minus 2 = there ∙ ap (λ (x : ℤ). neg_ℤ x) (sym (same_Some (pos 2) a e)) in absurd cc
mate_at_its_level (suc zero) a b e f (suc (suc p)) lt there = absurd (omega (arith, lt))
mate_at_its_level (suc (suc w)) a b e f p lt there = let g : None ≡ Some a = e in absurd cc

pub follows_at_its_level : Follows (watching (Some (pos 1) ∷ Some (pos 2) ∷ [])) (implied 2)
follows_at_its_level = record {
  vars = refl;
  at = λ w a b e f. record { at = λ p lt there. inl (mate_at_its_level w a b e f p lt there) };
  alone = λ w a e f. absurd (never_alone w a e f);
}

-- 2 alone is watched, and true
watched_2 : (w : ℕ) (a : ℤ) → watch_at (Some (pos 2) ∷ Some (pos 2) ∷ []) w ≡ Some a → pos 2 ≡ a
watched_2 zero a e = same_Some (pos 2) a e
watched_2 (suc zero) a e = same_Some (pos 2) a e
watched_2 (suc (suc w)) a e = let g : None ≡ Some a = e in absurd cc

true_at_first : (w : ℕ) (a : ℤ) → watch_at (Some (pos 2) ∷ Some (pos 2) ∷ []) w ≡ Some a → IsTrueBy at_first a 0
true_at_first w a e = subst (λ (x : ℤ). IsTrueBy at_first x 0) (watched_2 w a e) (record { place = 0; within = omega arith; there = refl; low = omega arith })

not_negated : (a : ℤ) → pos 2 ≡ a → (p : ℕ) → p < 1 → lit_at (pos 2 ∷ []) p ≡ neg_ℤ a → ⊥
not_negated a is zero lt there = let g : pos 2 ≡ minus 2 = there ∙ ap (λ (x : ℤ). neg_ℤ x) (sym is) in cc
not_negated a is (suc p) lt there = omega (arith, lt)

pub follows_alone : Follows (watching (Some (pos 2) ∷ Some (pos 2) ∷ [])) at_first
follows_alone = record {
  vars = refl;
  at = λ w a b e f. record { at = λ p lt there. absurd (not_negated a (watched_2 w a e) p lt there) };
  alone = λ w a e f. true_at_first w a e;
}

pub follows_alone_below : FollowsBelow (watching (Some (pos 2) ∷ Some (pos 2) ∷ [])) at_first
follows_alone_below = record {
  vars = refl;
  at = λ w a b e f p lt there low. absurd (omega (arith, low));
  alone = λ w a e f. true_at_first w a e;
}

pub false_by_both : FalseFound (watching []) (decided_again (minus 2 ∷ []) 2) 4
false_by_both = record {
  is_false = record { place = 0; within = omega arith; number = refl; is_false = refl };
  follows = record {
    vars = refl;
    at = λ w a b e f p lt there low. absurd (never_watched w a e);
    alone = λ w a e f. absurd (never_watched w a e);
  };
}

pub never_true_by : (level : ℕ) → IsTrueBy (decided_again (minus 2 ∷ []) 2) (pos 2) level → ⊥
never_true_by level b = at b.place b.within b.there
  where
    at : (k : ℕ) → k < 2 → lit_at (minus 1 ∷ minus 2 ∷ []) k ≡ pos 2 → ⊥
    at zero lt e = cc
    at (suc zero) lt e = cc
    at (suc (suc k)) lt e = omega (arith, lt)

-- ---- trails

pub grows_by_unit : Grows two_clauses (decided 1) (implied 1)
grows_by_unit = implies (decided 1) (implied 1) 4 (pos 2) (same (decided 1) refl) (record { place = 0; within = omega arith; number = refl; has = refl; is_open = refl; others = refl }) refl

pub grows_by_giving : Grows two_clauses (decided 0) (decided 1)
grows_by_giving = gives (decided 0) (decided 1) (same (decided 0) refl) (omega arith) refl

-- without clauses no literal joins
none_joins : (t u : TrailView) → Grows [] t u → length u.lits ≡ length t.lits
none_joins t u (same v e) = ap (λ (w : TrailView). length w.lits) e
none_joins t u (implies a v n x g unit e) = absurd (omega (arith, unit.within))
none_joins t u (gives a v g some e) = ap (λ (w : TrailView). length w.lits) e ∙ none_joins t a g

pub not_without_clauses : Grows [] (decided 1) (implied 1) → ⊥
not_without_clauses g = let e : 2 ≡ 1 = none_joins (decided 1) (implied 1) g in omega (arith, e)

-- no more is given than stands there
few_given : (cs : List Held) (t u : TrailView) → Grows cs t u → t.given ≤ length t.lits → u.given ≤ length u.lits
few_given cs t u (same v e) few = subst (λ (w : TrailView). w.given ≤ length w.lits) (sym e) few
few_given cs t u (implies a v n x g unit e) few =
    let more : length (a.lits ++ x ∷ []) ≡ length a.lits + 1 = grind (arith, length-append) in
    subst (λ (w : TrailView). w.given ≤ length w.lits) (sym e) (let before = few_given cs t a g few in omega (arith, before, more))
few_given cs t u (gives a v g some e) few = subst (λ (w : TrailView). w.given ≤ length w.lits) (sym e) (omega (arith, some))

pub not_beyond_the_end : Grows two_clauses (decided 1) (decided 2) → ⊥
not_beyond_the_end g = let few : 2 ≤ 1 = few_given two_clauses (decided 1) (decided 2) g (omega arith) in omega (arith, few)

pub not_by_deciding : Grows two_clauses (decided 1) (decided_again (pos 3 ∷ []) 1) → ⊥
not_by_deciding g = let e : 2 ≡ 1 = Grows-level two_clauses (decided 1) (decided_again (pos 3 ∷ []) 1) g in omega (arith, e)
