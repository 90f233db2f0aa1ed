-- Literals over different variables, one literal after the other, and a set that has them.
use Rattle.std.proofs.Common.{◌≡◌, ℕ, suc, Bool, true, false, not, ◌&&◌, ◌||◌, ◌==◌, cond, List, [], ◌∷◌, ◌++◌, take, drop, get_or, length, ◌+◌, ◌<◌, append_assoc, append-nil, refl, sym, ap, subst, ◌∙◌, ℤ, neg_ℤ}
use Rattle.std.specs.Prelude.{IsTrue, nat_le}
use Rattle.std.specs.Ordering.{int_eq}
use Rattle.std.specs.List.{IsDistinct, AllByRecursion}
use Rattle.std.proofs.lemmas.Bool.{and_parts, and_from, or_parts, or_left, eq-eqb, both_ways, false_from_ne_true}
use Rattle.std.proofs.lemmas.List.{take-append-drop}
use Rattle.std.proofs.lemmas.List.Elements.{filter-append, filter_more}
use Rattle.std.proofs.lemmas.List.Folds.{list_any-append, list_all-append}
use Rattle.std.proofs.Math.Path.{fun_ext}
use Rattle.std.proofs.Math.Seq.{drop-cons}
use Rattle.mono_base.specs.Literal.{has_lit, var_of}
use Rattle.mono_base.specs.LitSet.{LiteralSet}
use Rattle.mono_base.specs.Partial.{has_var, is_partial, is_open_in}
use Rattle.mono_base.proofs.Truth.{same_lit}
use Rattle.mono_base.proofs.Members.{same_length}
use Rattle.mono_base.proofs.Partials.{joined, open_is_new, new_is_open, is_partial-push, later_is_new}
use Rattle.mono_problem.specs.Instance.{Instance}
use Rattle.mono_steps.specs.ChainSteps.{names_vars}
use Rattle.mono_check.specs.Values.{are_values, is_end, literals_among}
use Rattle.mono_check.specs.Seen.{AreMembers, fits, is_new}

abbrev pub is_known : Instance → ℤ → Bool
is_known p l = nat_le 1 (var_of l) && nat_le (var_of l) p.vars

-- a literal over one more of the problem's variables
pub new_fits : (p : Instance) (ls : List ℤ) (l : ℤ) → IsTrue (are_values p ls) → is_new p ls l ≡ true → IsTrue (are_values p (ls ++ l ∷ []))
new_fits p ls l h new =
    let a = and_parts (names_vars p ls) (is_partial ls) h in
    let b = and_parts (is_known p l) (is_open_in ls l) new in
    and_from (names_vars p (ls ++ l ∷ [])) (is_partial (ls ++ l ∷ []))
    (list_all-append (is_known p) ls (l ∷ []) ∙ and_from (names_vars p ls) (names_vars p (l ∷ [])) a.0 (and_from (is_known p l) true b.0 refl))
    (is_partial-push ls l a.1 (and_parts (nat_le 1 (var_of l)) (nat_le (var_of l) p.vars) b.0).0 (open_is_new ls l b.1))

-- a literal of values is new to those before it
fits_new : (p : Instance) (ls : List ℤ) (l : ℤ) (more : List ℤ) → IsTrue (are_values p (ls ++ l ∷ more)) → is_new p ls l ≡ true
fits_new p ls l more h =
    let a = and_parts (names_vars p (ls ++ l ∷ more)) (is_partial (ls ++ l ∷ more)) h in
    let names : IsTrue (names_vars p ls && (is_known p l && names_vars p more)) = sym (list_all-append (is_known p) ls (l ∷ more)) ∙ a.0 in
    let b = and_parts (names_vars p ls) (is_known p l && names_vars p more) names in
    let c = and_parts (is_known p l) (names_vars p more) b.1 in
    let here : IsTrue (has_var (l ∷ more) (var_of l)) = or_left (var_of l == var_of l) (has_var more (var_of l)) (eq-eqb (var_of l) (var_of l) refl) in
    and_from (is_known p l) (is_open_in ls l) c.0 (new_is_open ls l (later_is_new ls (l ∷ more) (var_of l) a.1 here))

-- any other literal, whatever follows it
pub no_more_values : (p : Instance) (ls : List ℤ) (l : ℤ) (more : List ℤ) → is_new p ls l ≡ false → are_values p (ls ++ l ∷ more) ≡ false
no_more_values p ls l more old = false_from_ne_true (are_values p (ls ++ l ∷ more)) (λ h. both_ways (is_new p ls l) old (fits_new p ls l more h))

-- ---- a set with the literals

pub same_tests : (p : Instance) (lits : List ℤ) (s : LiteralSet) → AreMembers p lits s → has_lit s.members ≡ has_lit lits
same_tests p lits s m = fun_ext m.has

same_new : (p : Instance) (lits : List ℤ) (s : LiteralSet) (l : ℤ) → AreMembers p lits s → is_new p s.members l ≡ is_new p lits l
same_new p lits s l m = ap (λ (f : ℤ → Bool). is_known p l && (not (f l) && not (f (neg_ℤ l)))) (same_tests p lits s m)

grown : (p : Instance) (xs : List ℤ) (s after : LiteralSet) (z : ℤ) → AreMembers p xs s → is_new p s.members z ≡ true → after.vars ≡ s.vars → ((m : ℤ) → has_lit after.members m ≡ (has_lit s.members m || int_eq m z)) → AreMembers p (xs ++ z ∷ []) after
grown p xs s after z so new vars has = record {
  vars = vars ∙ so.vars;
  has = λ m. has m ∙ ap (λ (b : Bool). b || int_eq m z) (so.has m) ∙ ap (λ (b : Bool). has_lit xs m || b) (sym (or_none (int_eq m z))) ∙ sym (list_any-append (int_eq m) xs (z ∷ []));
  values = new_fits p xs z so.values (sym (same_new p xs s z so) ∙ new);
}
  where
    or_none : (b : Bool) → (b || false) ≡ b
    or_none true = refl
    or_none false = refl

-- ---- the numbers of a line one after the other

more_lits : (zs : List ℤ) (i : ℕ) (z : ℤ) → i < length zs → z ≡ get_or zs i z → literals_among (take (i + 1) zs) ≡ literals_among (take i zs) ++ cond (not (is_end z)) (z ∷ []) []
more_lits zs i z low at = filter_more (λ w. not (is_end w)) zs i z low ∙ ap (λ (w : ℤ). literals_among (take i zs) ++ cond (not (is_end w)) (w ∷ []) []) (sym at)

pub one_more : (p : Instance) (lits zs : List ℤ) (s after : LiteralSet) (i : ℕ) (z : ℤ) → i < length zs → z ≡ get_or zs i z → AreMembers p (lits ++ literals_among (take i zs)) s → fits p s.members z ≡ true → after.vars ≡ s.vars
    → ((m : ℤ) → has_lit after.members m ≡ (has_lit s.members m || (not (is_end z) && int_eq m z))) → AreMembers p (lits ++ literals_among (take (i + 1) zs)) after
one_more p lits zs s after i z low at so found vars has = by_end (is_end z) refl
  where
    xs : List ℤ
    xs = literals_among (take i zs)

    unchanged : (b : Bool) → (b || false) ≡ b
    unchanged true = refl
    unchanged false = refl

    by_end : (b : Bool) → is_end z ≡ b → AreMembers p (lits ++ literals_among (take (i + 1) zs)) after
    by_end true e =
        let same : literals_among (take (i + 1) zs) ≡ literals_among (take i zs) = more_lits zs i z low at ∙ ap (λ (b : Bool). literals_among (take i zs) ++ cond (not b) (z ∷ []) []) e ∙ append-nil (literals_among (take i zs)) in
        let kept : AreMembers p (lits ++ literals_among (take i zs)) after = record {
          vars = vars ∙ so.vars;
          has = λ m. has m ∙ ap (λ (b : Bool). has_lit s.members m || (not b && int_eq m z)) e ∙ unchanged (has_lit s.members m) ∙ so.has m;
          values = so.values;
        } in
        subst (λ (ys : List ℤ). AreMembers p (lits ++ ys) after) (sym same) kept
    by_end false e =
        let new : is_new p s.members z ≡ true = sym (ap (λ (b : Bool). b || is_new p s.members z) e) ∙ found in
        let list : lits ++ literals_among (take (i + 1) zs) ≡ (lits ++ literals_among (take i zs)) ++ z ∷ [] =
        ap (λ (ys : List ℤ). lits ++ ys) (more_lits zs i z low at ∙ ap (λ (b : Bool). literals_among (take i zs) ++ cond (not b) (z ∷ []) []) e) ∙ sym (append_assoc lits (literals_among (take i zs)) (z ∷ [])) in
        subst (λ (ys : List ℤ). AreMembers p ys after) (sym list)
        (grown p (lits ++ literals_among (take i zs)) s after z so new vars (λ m. has m ∙ ap (λ (b : Bool). has_lit s.members m || (not b && int_eq m z)) e))

pub stopped_at : (p : Instance) (lits zs : List ℤ) (s : LiteralSet) (i : ℕ) (z : ℤ) → i < length zs → z ≡ get_or zs i z → AreMembers p (lits ++ literals_among (take i zs)) s → fits p s.members z ≡ false → are_values p (lits ++ literals_among zs) ≡ false
stopped_at p lits zs s i z low at so found =
    let b = or_parts (is_end z) (is_new p s.members z) found in
    let old : is_new p (lits ++ literals_among (take i zs)) z ≡ false = sym (same_new p (lits ++ literals_among (take i zs)) s z so) ∙ b.1 in
    let rest : drop i zs ≡ z ∷ drop (suc i) zs = drop-cons zs i z low ∙ ap (λ (w : ℤ). w ∷ drop (suc i) zs) (sym at) in
    let kept : literals_among (z ∷ drop (suc i) zs) ≡ z ∷ literals_among (drop (suc i) zs) = ap (λ (e : Bool). cond (not e) (z ∷ literals_among (drop (suc i) zs)) (literals_among (drop (suc i) zs))) b.0 in
    let split : literals_among zs ≡ literals_among (take i zs) ++ z ∷ literals_among (drop (suc i) zs) =
    ap literals_among (sym (take-append-drop i zs) ∙ ap (λ (ys : List ℤ). take i zs ++ ys) rest)
    ∙ filter-append (λ w. not (is_end w)) (take i zs) (z ∷ drop (suc i) zs) ∙ ap (λ (ys : List ℤ). literals_among (take i zs) ++ ys) kept in
    ap (λ (ys : List ℤ). are_values p (lits ++ ys)) split
    ∙ ap (are_values p) (sym (append_assoc lits (literals_among (take i zs)) (z ∷ literals_among (drop (suc i) zs))))
    ∙ no_more_values p (lits ++ literals_among (take i zs)) z (literals_among (drop (suc i) zs)) old

-- ---- how many literals there are

apart : (l : ℤ) (t : List ℤ) → has_var t (var_of l) ≡ false → AllByRecursion (λ (y : ℤ). int_eq l y ≡ false) t
apart l [] h = tt
apart l (m ∷ t) h =
    let s = or_parts (var_of m == var_of l) (has_var t (var_of l)) h in
    (false_from_ne_true (int_eq l m) (λ e. both_ways (var_of m == var_of l) s.0 (eq-eqb (var_of m) (var_of l) (ap var_of (sym (same_lit l m e))))), apart l t s.1)

pub distinct_lits : (t : List ℤ) → IsTrue (is_partial t) → IsDistinct int_eq t
unfolding IsDistinct
distinct_lits [] p = tt
distinct_lits (l ∷ t) p = let j = joined l t p in (apart l t j.new, distinct_lits t j.rest)

pub as_many : (p : Instance) (lits : List ℤ) (s : LiteralSet) → AreMembers p lits s → IsDistinct int_eq s.members → length s.members ≡ length lits
as_many p lits s m distinct = same_length s.members lits distinct (distinct_lits lits (and_parts (names_vars p lits) (is_partial lits) m.values).1) m.has
