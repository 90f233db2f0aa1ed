-- Clauses that are due and true: watched by a literal that fell no earlier, or alone.
use Rattle.std.proofs.Common.{◌≡◌, ℕ, zero, suc, ◌+◌, ◌*◌, ◌<◌, ◌≤◌, eqb, true, false, List, [], ◌∷◌, length, get_or, arith, refl, sym, subst, ◌∙◌, ap, add-one, eq-eqb, eqb-true, inl}
use Rattle.std.specs.Prelude.{ℤ, pos, neg_ℤ, Option, Some, option_map, IsTrue}
use Rattle.std.proofs.lemmas.Bool.{false_from_ne_true, both_ways}
use Rattle.mono_base.specs.Literal.{var_of, lit_at}
use Rattle.mono_base.specs.Partial.{has_var, is_partial, value_by}
use Rattle.mono_base.specs.declared.value.Value.TheVariants.{Yes, No}
use Rattle.mono_base.proofs.Partials.{var-neg, joined, has_var_of}
use Rattle.mono_trail.specs.Places.{place_in, level_at}
use Rattle.mono_trail.specs.TrailView.{TrailView, IsSoundTrail}
use Rattle.mono_clauses.proofs.DueClauses.{attach_guarded}
use Rattle.mono_clauses.proofs.Literals.{yes_stands, stands_has}
use Rattle.mono_clauses.proofs.WatchGuards.{unfalse_guards}
use Rattle.mono_clauses.specs.Lists.{Stands}
use Rattle.mono_clauses.specs.Store.{Held, clause_at, IsTrueBy}
use Rattle.mono_clauses.specs.Visits.{FellAt, IsLate, IsFollowing, Tried}
use Rattle.mono_clauses.specs.Watching.{WatchesView, attached}

-- where a literal stands, there is its variable's place
pub standing_place : (t : List ℤ) (k : ℕ) → IsTrue (is_partial t) → k < length t → place_in t (var_of (get_or t k (pos 0))) ≡ Some k
standing_place [] k p lt = absurd (omega (arith, lt))
standing_place (x ∷ t) zero p lt = let e : eqb (var_of x) (var_of x) ≡ true = eq-eqb (var_of x) (var_of x) refl in rw e refl
standing_place (x ∷ t) (suc k) p lt =
    let less : k < length t = omega (arith, lt) in
    let j = joined x t p in
    let has : IsTrue (has_var t (var_of (get_or t k (pos 0)))) = has_var_of t (get_or t k (pos 0)) (var_of (get_or t k (pos 0))) (stands_has t (get_or t k (pos 0)) (record { place = k; within = less; there = refl })) refl in
    let off : eqb (var_of x) (var_of (get_or t k (pos 0))) ≡ false = false_from_ne_true (eqb (var_of x) (var_of (get_or t k (pos 0)))) (λ e. both_ways (has_var t (var_of x)) j.new (subst (λ (v : ℕ). IsTrue (has_var t v)) (sym (eqb-true (var_of x) (var_of (get_or t k (pos 0))) e)) has)) in
    rw (off, standing_place t k j.rest less, add-one) refl

-- the level of a variable is that of the place where its literal stands
pub standing_level : (t : TrailView) (k v : ℕ) (l : ℤ) → IsSoundTrail t → k < length t.lits → lit_at t.lits k ≡ l → var_of l ≡ v → option_map (level_at t.marks) (place_in t.lits v) ≡ Some (level_at t.marks k)
standing_level t k v l sound lt e f = ap (λ (o : Option ℕ). option_map (level_at t.marks) o) (ap (place_in t.lits) (sym f ∙ ap var_of (sym e)) ∙ standing_place t.lits k sound.partial lt)

pub fell_at : (t : TrailView) (level low : ℕ) (x : ℤ) → IsSoundTrail t → Some level ≡ option_map (level_at t.marks) (place_in t.lits (var_of x)) → low ≤ level → FellAt t low x
fell_at t level low x sound e le = record { at = λ p lt f. (let g : Some level ≡ Some (level_at t.marks p) = e ∙ standing_level t p (var_of x) (neg_ℤ x) sound lt f (var-neg x) in let h : level ≡ level_at t.marks p = cc in omega (arith, h, le)) }

yes_no : Yes ≡ No → ⊥
yes_no z = cc

-- a true literal is so by its level
true_by : (t : TrailView) (level high : ℕ) (x : ℤ) → IsSoundTrail t → value_by t.lits x ≡ Yes → Some level ≡ option_map (level_at t.marks) (place_in t.lits (var_of x)) → level ≤ high → IsTrueBy t x high
true_by t level high x sound holds e le =
    let s = yes_stands t.lits x holds in
    let g : Some level ≡ Some (level_at t.marks s.place) = e ∙ standing_level t s.place (var_of x) x sound s.within s.there refl in
    let h : level ≡ level_at t.marks s.place = cc in
    record { place = s.place; within = s.within; there = s.there; low = omega (arith, h, le) }

-- a due clause that comes to be watched by its true literal and one that fell no earlier
pub attach_late : (cs : List Held) (v u : WatchesView) (t : TrailView) (k level : ℕ) (x y : ℤ) → IsSoundTrail t → IsFollowing cs v t → k < length cs → Stands (clause_at cs k).lits x → value_by t.lits x ≡ Yes → Some level ≡ option_map (level_at t.marks) (place_in t.lits (var_of x)) → IsLate t (clause_at cs k).lits x level y
    → u ≡ attached (attached v (2 * k) x) (2 * k + 1) y → Tried cs v u t t k
attach_late cs v u t k level x y sound i lt has holds e late j = attach_guarded cs v u t k x y i lt has late.has (λ z. absurd (late.other (sym z))) (λ n. unfalse_guards t n x y sound (λ no. yes_no (sym holds ∙ no))) (λ n. record { at = λ p q f. inl (true_by t level (level_at t.marks p) x sound holds e (late.fell.at p q f)) }) j

-- or by its true literal alone, at level 0
pub attach_alone : (cs : List Held) (v u : WatchesView) (t : TrailView) (k level : ℕ) (x : ℤ) → IsSoundTrail t → IsFollowing cs v t → k < length cs → Stands (clause_at cs k).lits x → value_by t.lits x ≡ Yes → Some level ≡ option_map (level_at t.marks) (place_in t.lits (var_of x)) → level ≤ 0
    → u ≡ attached (attached v (2 * k) x) (2 * k + 1) x → Tried cs v u t t k
attach_alone cs v u t k level x sound i lt has holds e le j = attach_guarded cs v u t k x x i lt has has (λ z. true_by t level 0 x sound holds e le) (λ n. unfalse_guards t n x x sound (λ no. yes_no (sym holds ∙ no))) (λ n. unfalse_guards t n x x sound (λ no. yes_no (sym holds ∙ no))) j
