-- Two lists of the same literals, as the literals so far of a model: no line behind them tells the two apart.
use Rattle.std.proofs.Common.{◌≡◌, ℕ, Bool, true, false, not, ◌&&◌, ◌||◌, List, [], ◌∷◌, ◌++◌, map, length, length-append, Option, Some, None, inl, inr, ◌+◌, refl, sym, ap, subst, ◌∙◌, append_assoc, append-nil, is_some, ℤ, pos, neg_ℤ}
use Rattle.std.specs.Prelude.{IsTrue, nat_lt, unwrap_or, IfNone, if◌then◌else◌}
use Rattle.std.specs.Ordering.{int_eq}
use Rattle.std.specs.Option.{option_or}
use Rattle.std.specs.List.{IsDistinct, AllByRecursion, range_with_len}
use Rattle.std.proofs.lemmas.Bool.{and_parts, and_from, or_cases, or_left, or_right, both_ways, false_from_ne_true}
use Rattle.std.proofs.lemmas.List.Folds.{list_any-append}
use Rattle.std.proofs.Math.Path.{fun_ext}
use Rattle.mono_base.specs.Literal.{has_lit, var_of}
use Rattle.mono_base.specs.LitSet.{LiteralSet}
use Rattle.mono_base.specs.Partial.{has_var, is_partial}
use Rattle.mono_base.proofs.Truth.{same_lit, lit_itself}
use Rattle.mono_base.proofs.Members.{same_length}
use Rattle.mono_base.proofs.Partials.{join, has_either, one_sign}
use Rattle.mono_problem.specs.Instance.{Instance}
use Rattle.mono_steps.specs.ChainSteps.{names_vars}
use Rattle.mono_answer.specs.declared.item.Item.{Item}
use Rattle.mono_answer.specs.declared.item.Item.TheVariants as says
use Rattle.mono_check.specs.declared.reason.Reason.{Reason}
use Rattle.mono_check.specs.declared.values.Values.{Values}
use Rattle.mono_check.specs.Values.{are_values, literals_among, has_end, passes_end, value_fault, lits_in, ends_in}
use Rattle.mono_check.specs.Seen.{AreMembers, AreValuesAfter, AreValuesKept, is_new, model_kept}
use Rattle.mono_check.specs.SoFar.{ModelSoFar, or_fault, model_behind, model_more}
use Rattle.mono_check.specs.Verdicts.{ended_outcome}
use Rattle.mono_steps.proofs.LeftOpen.{is_lit_in}
use Rattle.mono_check.proofs.Literals.{is_known, new_fits, no_more_values, distinct_lits}
use Rattle.mono_check.proofs.ValueFaults.{told}

-- both are values
pub record AreAlike (p : Instance) (a b : List ℤ) : Type 0 where
  pub first : IsTrue (are_values p a)
  pub second : IsTrue (are_values p b)
  pub same : (m : ℤ) → has_lit a m ≡ has_lit b m

alike_new : (p : Instance) (a b : List ℤ) (l : ℤ) → AreAlike p a b → is_new p a l ≡ is_new p b l
alike_new p a b l h = ap (λ (f : ℤ → Bool). is_known p l && (not (f l) && not (f (neg_ℤ l)))) (fun_ext h.same)

same_behind : (a b more : List ℤ) → ((m : ℤ) → has_lit a m ≡ has_lit b m) → (m : ℤ) → has_lit (a ++ more) m ≡ has_lit (b ++ more) m
same_behind a b more h m = list_any-append (int_eq m) a more ∙ ap (λ (x : Bool). x || has_lit more m) (h m) ∙ sym (list_any-append (int_eq m) b more)

push_alike : (p : Instance) (a b : List ℤ) (l : ℤ) → AreAlike p a b → is_new p a l ≡ true → AreAlike p (a ++ l ∷ []) (b ++ l ∷ [])
push_alike p a b l h new = record {
  first = new_fits p a l h.first new;
  second = new_fits p b l h.second (sym (alike_new p a b l h) ∙ new);
  same = same_behind a b (l ∷ []) h.same;
}

-- with the same literals behind them, either both are values or none is
one_value : (p : Instance) (a b : List ℤ) (l : ℤ) (more : List ℤ) (x : Bool) → is_new p a l ≡ x → AreAlike p a b → (AreAlike p (a ++ l ∷ []) (b ++ l ∷ []) → are_values p ((a ++ l ∷ []) ++ more) ≡ are_values p ((b ++ l ∷ []) ++ more))
    → are_values p (a ++ l ∷ more) ≡ are_values p (b ++ l ∷ more)
one_value p a b l more true e h rest = ap (are_values p) (sym (append_assoc a (l ∷ []) more)) ∙ rest (push_alike p a b l h e) ∙ ap (are_values p) (append_assoc b (l ∷ []) more)
one_value p a b l more false e h rest = no_more_values p a l more e ∙ sym (no_more_values p b l more (sym (alike_new p a b l h) ∙ e))

same_values : (p : Instance) (a b more : List ℤ) → AreAlike p a b → are_values p (a ++ more) ≡ are_values p (b ++ more)
same_values p a b [] h = ap (are_values p) (append-nil a) ∙ h.first ∙ sym (ap (are_values p) (append-nil b) ∙ h.second)
same_values p a b (l ∷ more) h = one_value p a b l more (is_new p a l) refl h (same_values p (a ++ l ∷ []) (b ++ l ∷ []) more)

partial_of : (p : Instance) (a : List ℤ) → IsTrue (are_values p a) → IsTrue (is_partial a)
partial_of p a h = (and_parts (names_vars p a) (is_partial a) h).1

as_long : (p : Instance) (a b : List ℤ) → AreAlike p a b → length a ≡ length b
as_long p a b h = same_length a b (distinct_lits a (partial_of p a h.first)) (distinct_lits b (partial_of p b h.second)) h.same

as_long_behind : (p : Instance) (a b more : List ℤ) → AreAlike p a b → length (a ++ more) ≡ length (b ++ more)
as_long_behind p a b more h = length-append a more ∙ ap (λ (n : ℕ). n + length more) (as_long p a b h) ∙ sym (length-append b more)

-- ---- one line

alike_fault : (p : Instance) (a b : List ℤ) (ended : Bool) (i : Option Item) → AreAlike p a b → value_fault p a ended i ≡ value_fault p b ended i
alike_fault p a b ended None h = refl
alike_fault p a b ended (Some (says.Status k)) h = refl
alike_fault p a b ended (Some (says.Step s)) h = refl
alike_fault p a b ended (Some (says.Values zs)) h =
    ap (λ (x : Bool). told (passes_end ended zs) x (has_end zs && nat_lt (length (a ++ literals_among zs)) p.vars)) (same_values p a b (literals_among zs) h)
    ∙ ap (λ (n : ℕ). told (passes_end ended zs) (are_values p (b ++ literals_among zs)) (has_end zs && nat_lt n p.vars)) (as_long_behind p a b (literals_among zs) h)

told_values : (x y z : Bool) → None ≡ told x y z → IsTrue y
told_values true y z h = absurd cc
told_values false true z h = refl
told_values false false z h = absurd cc

-- a line without a fault leaves values
values_left : (p : Instance) (a : List ℤ) (ended : Bool) (i : Option Item) → None ≡ value_fault p a ended i → IsTrue (are_values p (a ++ lits_in i))
values_left p a ended None h = absurd cc
values_left p a ended (Some (says.Status k)) h = absurd cc
values_left p a ended (Some (says.Step s)) h = absurd cc
values_left p a ended (Some (says.Values zs)) h = told_values (passes_end ended zs) (are_values p (a ++ literals_among zs)) (has_end zs && nat_lt (length (a ++ literals_among zs)) p.vars) h

alike_line : (p : Instance) (a b : List ℤ) (ended : Bool) (i : Option Item) → AreAlike p a b → None ≡ value_fault p a ended i → AreAlike p (a ++ lits_in i) (b ++ lits_in i)
alike_line p a b ended i h none = record {
  first = values_left p a ended i none;
  second = values_left p b ended i (none ∙ alike_fault p a b ended i h);
  same = same_behind a b (lits_in i) h.same;
}

-- ---- all lines

abbrev so_far_by : List ℤ → Option ℕ → ℕ → ModelSoFar
so_far_by lits end last = record { lits = lits; end = end; last = last }

next_line : (p : Instance) (a b : List ℤ) (end : Option ℕ) (last n : ℕ) (i : Option Item) (ls : List (ℕ × Option Item)) (o : Option Reason) → o ≡ value_fault p a (is_some end) i → AreAlike p a b
    → (AreAlike p (a ++ lits_in i) (b ++ lits_in i) → model_behind p (model_more n i (so_far_by a end last)) ls ≡ model_behind p (model_more n i (so_far_by b end last)) ls)
    → model_behind p (so_far_by a end last) ((n, i) ∷ ls) ≡ model_behind p (so_far_by b end last) ((n, i) ∷ ls)
next_line p a b end last n i ls (Some r) e h rest =
    let here = model_behind p (model_more n i (so_far_by a end last)) ls in
    let there = model_behind p (model_more n i (so_far_by b end last)) ls in
    ap (λ (o : Option Reason). or_fault n o here) (sym e) ∙ ap (λ (o : Option Reason). or_fault n o there) (e ∙ alike_fault p a b (is_some end) i h)
next_line p a b end last n i ls None e h rest =
    let here = model_behind p (model_more n i (so_far_by a end last)) ls in
    let there = model_behind p (model_more n i (so_far_by b end last)) ls in
    ap (λ (o : Option Reason). or_fault n o here) (alike_fault p a b (is_some end) i h)
    ∙ ap (or_fault n (value_fault p b (is_some end) i)) (rest (alike_line p a b (is_some end) i h e))

pub alike_behind : (p : Instance) (a b : List ℤ) (end : Option ℕ) (last : ℕ) (ls : List (ℕ × Option Item)) → AreAlike p a b → model_behind p (so_far_by a end last) ls ≡ model_behind p (so_far_by b end last) ls
alike_behind p a b end last [] h = ap (λ (f : ℤ → Bool). ended_outcome p end last (map (λ x. f (pos x)) (range_with_len 1 p.vars))) (fun_ext h.same)
alike_behind p a b end last ((n, i) ∷ ls) h =
    next_line p a b end last n i ls (value_fault p a (is_some end) i) refl h (alike_behind p (a ++ lits_in i) (b ++ lits_in i) (option_or end (if ends_in i then Some n else None)) n ls)

-- ---- the members of a set

names_known : (p : Instance) (lits : List ℤ) (m : ℤ) → IsTrue (names_vars p lits) → IsTrue (has_lit lits m) → IsTrue (is_known p m)
names_known p [] m h k = absurd cc
names_known p (l ∷ t) m h k =
    let a = and_parts (is_known p l) (names_vars p t) h in
    elim (or_cases (int_eq m l) (has_lit t m) k) [
      | inl here ↦ subst (λ (x : ℤ). IsTrue (is_known p x)) (sym (same_lit m l here)) a.0
      | inr later ↦ names_known p t m a.1 later
    ]

names_members : (p : Instance) (lits t : List ℤ) → IsTrue (names_vars p lits) → ((m : ℤ) → IsTrue (has_lit t m) → IsTrue (has_lit lits m)) → IsTrue (names_vars p t)
names_members p lits [] h k = refl
names_members p lits (l ∷ t) h k =
    and_from (is_known p l) (names_vars p t) (names_known p lits l h (k l (or_left (int_eq l l) (has_lit t l) (lit_itself l)))) (names_members p lits t h (λ m there. k m (or_right (int_eq m l) (has_lit t m) there)))

not_later : (l : ℤ) (t : List ℤ) → AllByRecursion (λ (y : ℤ). int_eq l y ≡ false) t → has_lit t l ≡ false
not_later l [] h = refl
not_later l (m ∷ t) h = ap (λ (x : Bool). x || has_lit t l) h.0 ∙ not_later l t h.1

members_partial : (lits t : List ℤ) → IsTrue (is_partial lits) → IsDistinct int_eq t → ((m : ℤ) → IsTrue (has_lit t m) → IsTrue (has_lit lits m)) → IsTrue (is_partial t)
unfolding IsDistinct
members_partial lits [] h d k = refl
members_partial lits (l ∷ t) h d k =
    let here : IsTrue (has_lit lits l) = k l (or_left (int_eq l l) (has_lit t l) (lit_itself l)) in
    join l t (record {
      lit = is_lit_in lits l h here;
      new = false_from_ne_true (has_var t (var_of l)) (λ v. elim (has_either t l v) [
        | inl same ↦ both_ways (has_lit t l) (not_later l t d.0) same
        | inr other ↦ one_sign lits l h here (k (neg_ℤ l) (or_right (int_eq (neg_ℤ l) l) (has_lit t (neg_ℤ l)) other))
      ]);
      rest = members_partial lits t h d.1 (λ m there. k m (or_right (int_eq m l) (has_lit t m) there));
    })

-- each once, the members of a set with these literals are values too
pub members_alike : (p : Instance) (lits : List ℤ) (s : LiteralSet) → AreMembers p lits s → IsDistinct int_eq s.members → AreAlike p s.members lits
members_alike p lits s m d =
    let a = and_parts (names_vars p lits) (is_partial lits) m.values in
    let there : (l : ℤ) → IsTrue (has_lit s.members l) → IsTrue (has_lit lits l) = λ l h. sym (m.has l) ∙ h in
    record {
      first = and_from (names_vars p s.members) (is_partial s.members) (names_members p lits s.members a.0 there) (members_partial lits s.members a.1 d there);
      second = m.values;
      same = m.has;
    }

-- ---- what is kept

pub itself : (p : Instance) (v : Values) → AreValuesKept p v → AreMembers p v.set.members v.set
itself p v k = record { vars = k.vars; has = λ m. refl; values = k.values }

values_stay : (p : Instance) (v after : Values) (n : ℕ) (i : Option Item) → AreValuesAfter p v.set.members v n i after → IsDistinct int_eq after.set.members → AreValuesKept p after
values_stay p v after n i k d = record { vars = k.set.vars; values = (members_alike p (v.set.members ++ lits_in i) after.set k.set d).first }

values_grow : (p : Instance) (v after : Values) (n : ℕ) (i : Option Item) → AreValuesAfter p v.set.members v n i after → IsDistinct int_eq after.set.members
    → (status : ℕ) (ls : List (ℕ × Option Item)) → model_behind p (model_kept status after) ls ≡ model_behind p (model_more n i (model_kept status v)) ls
values_grow p v after n i k d status ls =
    alike_behind p after.set.members (v.set.members ++ lits_in i) after.end (unwrap_or after.last status) ls (members_alike p (v.set.members ++ lits_in i) after.set k.set d)
    ∙ ap (λ (o : Option ℕ). model_behind p (so_far_by (v.set.members ++ lits_in i) o (unwrap_or after.last status)) ls) k.end
    ∙ ap (λ (o : Option ℕ). model_behind p (so_far_by (v.set.members ++ lits_in i) (option_or v.end (if ends_in i then Some n else None)) (unwrap_or o status)) ls) k.last

-- where a line had no fault
pub values_stay_by : (p : Instance) (v after : Values) (n : ℕ) (i : Option Item) (o : Option Reason) → IfNone o (AreValuesAfter p v.set.members v n i after) → IsDistinct int_eq after.set.members → IfNone o (AreValuesKept p after)
values_stay_by p v after n i None k d = values_stay p v after n i k d
values_stay_by p v after n i (Some r) k d = tt

pub values_grow_by : (p : Instance) (v after : Values) (n : ℕ) (i : Option Item) (o : Option Reason) → IfNone o (AreValuesAfter p v.set.members v n i after) → IsDistinct int_eq after.set.members
    → IfNone o ((status : ℕ) (ls : List (ℕ × Option Item)) → model_behind p (model_kept status after) ls ≡ model_behind p (model_more n i (model_kept status v)) ls)
values_grow_by p v after n i None k d = values_grow p v after n i k d
values_grow_by p v after n i (Some r) k d = tt
