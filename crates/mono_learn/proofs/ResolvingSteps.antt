-- The steps of a resolution back along a trail.
use Rattle.std.proofs.Common.{◌≡◌, ◌≢◌, ℕ, ◌+◌, ◌-◌, ◌<◌, ◌≤◌, Bool, true, false, List, [], ◌∷◌, ◌++◌, length, set, refl, sym, ap, subst, ◌∙◌, ℤ, neg_ℤ, arith, get_or-set_same}
use Rattle.std.specs.Prelude.{IsTrue, Some, nat_le, ◌&&◌}
use Rattle.std.proofs.lemmas.Bool.{and_from, le-leb}
use Rattle.std.proofs.lemmas.List.{length-set}
use Rattle.std.proofs.lemmas.List.Folds.{list_all-append}
use Rattle.std.proofs.lemmas.Option.{same_Some}
use Rattle.mono_base.specs.Literal.{var_of, has_lit, without, lit_at}
use Rattle.mono_problem.specs.Instance.{numbered}
use Rattle.mono_steps.specs.Chains.{chain_end}
use Rattle.mono_steps.specs.ChainSteps.{clauses_named, names_clauses}
use Rattle.mono_base.specs.Partial.{is_partial}
use Rattle.mono_trail.specs.TrailView.{TrailView, IsSoundTrail}
use Rattle.mono_trail.specs.Seen.{is_marked}
use Rattle.mono_learn.specs.declared.resolvent.Resolvent.{Resolvent}
use Rattle.mono_learn.specs.Reasons.{WasUnit}
use Rattle.mono_learn.specs.Resolvents.{FalseBy, AllFalse, MarkedBy, IsMarked, IsResolvent}
use Rattle.mono_learn.specs.Joins.{Joins, StandsFor}
use Rattle.mono_learn.specs.Resolving.{HasCome}
use Rattle.mono_learn.proofs.LitSets.{without_has, has-without, same_if}
use Rattle.mono_base.proofs.Partials.{neg-neg}
use Rattle.mono_learn.proofs.ChainEnds.{ClashesAt, resolvent_is, named-push}
use Rattle.mono_learn.proofs.Marking.{mark_less, marked_within, has_mark, unmarked, stays_other}
use Rattle.mono_learn.proofs.PlacesOfLits.{one_place, no_opposites, is_var_at, reason_others, unit_number}

-- what a marked literal is
pub marked_false : (t : List ℤ) (seen : List Bool) (top n : ℕ) (e : List ℤ) (l : ℤ) → IsMarked t top seen e → MarkedBy t seen n l → FalseBy t (length t) l
marked_false t seen top n e l f m = let w = f.below m.place m.marked in record { place = m.place; below = omega (arith, w, f.within); within = omega (arith, w, f.within); there = m.there }

-- the literal at a marked place is taken out of the clause
pub marked_less : (t : List ℤ) (top p : ℕ) (seen : List Bool) (e : List ℤ) → IsTrue (is_partial t) → p < top → IsMarked t top seen e → IsMarked t top (set seen p false) (without e (neg_ℤ (lit_at t p)))
marked_less t top p seen e d lt f = record {
  slots = omega (arith, f.slots, length-set seen p false);
  within = f.within;
  below = λ k on. f.below k (unmarked seen p k on).1;
  only = λ l h. let r = without_has e (neg_ℤ (lit_at t p)) l h in stays l (f.only l r.0) r.1;
  all = λ l m. has-without e (neg_ℤ (lit_at t p)) l (λ s. apart l m s) (f.all l (record { place = m.place; below = m.below; there = m.there; marked = (unmarked seen p m.place m.marked).1 }));
}
  where
    stays : (l : ℤ) → MarkedBy t seen top l → (l ≡ neg_ℤ (lit_at t p) → ⊥) → MarkedBy t (set seen p false) top l
    stays l m n =
        let other : m.place ≢ p = λ s. n (sym (neg-neg l) ∙ ap neg_ℤ (sym m.there ∙ ap (lit_at t) s)) in
        record { place = m.place; below = m.below; there = m.there; marked = stays_other seen p m.place other m.marked }

    apart : (l : ℤ) → MarkedBy t (set seen p false) top l → l ≡ neg_ℤ (lit_at t p) → ⊥
    apart l m s =
        let same : lit_at t m.place ≡ lit_at t p = m.there ∙ ap neg_ℤ s ∙ neg-neg (lit_at t p) in
        let at : m.place ≡ p = one_place t m.place p d (omega (arith, m.below, f.within)) (omega (arith, lt, f.within)) (ap var_of same) in
        (unmarked seen p m.place m.marked).0 at

-- nothing is marked at the last place
pub lower_top : (t : List ℤ) (p : ℕ) (seen : List Bool) (e : List ℤ) → is_marked seen p ≡ false → IsMarked t (p + 1) seen e → IsMarked t p seen e
lower_top t p seen e off f = record {
  slots = f.slots;
  within = omega (arith, f.within);
  below = low;
  only = λ l h. let m = f.only l h in record { place = m.place; below = low m.place m.marked; there = m.there; marked = m.marked };
  all = λ l m. f.all l (record { place = m.place; below = omega (arith, m.below); there = m.there; marked = m.marked });
}
  where
    not_p : (k : ℕ) → is_marked seen k ≡ true → k ≢ p
    not_p k on e = let z : true ≡ false = sym (subst (λ (i : ℕ). is_marked seen i ≡ true) e on) ∙ off in cc

    low : (k : ℕ) → is_marked seen k ≡ true → k < p
    low k on = omega (arith, f.below k on, not_p k on)

set_off : (seen : List Bool) (p : ℕ) → is_marked seen p ≡ true → is_marked (set seen p false) p ≡ false
set_off seen p on = get_or-set_same seen p false false (marked_within p seen on)

-- the literal at the last marked place is taken out
pub marks_less : (t : List ℤ) (start p : ℕ) (seen : List Bool) (kept : List ℕ) (count : ℕ) (e : List ℤ) → IsTrue (is_partial t) → start ≤ p → is_marked seen p ≡ true → IsResolvent t start (p + 1) seen kept count e → IsResolvent t start p (set seen p false) kept (count - 1) (without e (neg_ℤ (lit_at t p)))
marks_less t start p seen kept count e d high on f = record {
  marks = lower_top t p (set seen p false) (without e (neg_ℤ (lit_at t p))) (set_off seen p on) (marked_less t (p + 1) p seen e d (omega arith) f.marks);
  counted = omega (arith, f.counted, mark_less start p seen high on);
  kept_only = f.kept_only;
  kept_all = λ k lt h. f.kept_all k lt (unmarked seen p k h).1;
}

-- why exactly one variable clashes: all of the clause is false, and all of the reason but the literal that it implied
pub clashes_at : (t : TrailView) (p : ℕ) (e r : List ℤ) → IsSoundTrail t → p < length t.lits → ((l : ℤ) → IsTrue (has_lit e l) → FalseBy t.lits (length t.lits) l) → IsTrue (has_lit e (neg_ℤ (lit_at t.lits p))) → IsTrue (has_lit r (lit_at t.lits p))
    → ((l : ℤ) → IsTrue (has_lit r l) → (l ≡ lit_at t.lits p → ⊥) → FalseBy t.lits p l) → ClashesAt e r (lit_at t.lits p)
clashes_at t p e r s lt is_false first second others = record {
  positive = (is_var_at t p s lt).0;
  first = first;
  second = second;
  only = λ l h k. same_if l (lit_at t.lits p) (λ n. both l (others l h n) (is_false (neg_ℤ l) k));
}
  where
    both : (l : ℤ) → FalseBy t.lits p l → FalseBy t.lits (length t.lits) (neg_ℤ l) → ⊥
    both l g f = no_opposites t f.place g.place l s f.within g.within (f.there ∙ neg-neg l) g.there

pub names-push : (cs : List (List ℤ)) (used : List ℕ) (n : ℕ) → IsTrue (names_clauses cs used) → 1 ≤ n → n ≤ length cs → IsTrue (names_clauses cs (used ++ n ∷ []))
names-push cs used n h low high = list_all-append (λ m. nat_le 1 m && nat_le m (length cs)) used (n ∷ []) ∙ and_from (names_clauses cs used) (names_clauses cs (n ∷ [])) h (and_from (nat_le 1 n && nat_le n (length cs)) true (and_from (nat_le 1 n) (nat_le n (length cs)) (le-leb 1 n low) (le-leb n (length cs) high)) refl)

-- a chain that is resolved with the reason of the literal at a marked place
pub record GoesOn (cs : List (List ℤ)) (t : List ℤ) (used : List ℕ) (n p : ℕ) (e r : List ℤ) : Type 0 where
  pub is_end : chain_end (clauses_named cs (used ++ n ∷ [])) ≡ Some (without e (neg_ℤ (lit_at t p)) ++ without r (lit_at t p))
  pub named : IsTrue (names_clauses cs (used ++ n ∷ []))
  pub others : (l : ℤ) → IsTrue (has_lit (without r (lit_at t p)) l) → FalseBy t p l

pub goes_on : (cs : List (List ℤ)) (t : TrailView) (top p n : ℕ) (seen : List Bool) (used : List ℕ) (e r : List ℤ) → IsSoundTrail t → chain_end (clauses_named cs used) ≡ Some e → IsTrue (names_clauses cs used) → IsMarked t.lits top seen e → is_marked seen p ≡ true → WasUnit cs t.lits p n → numbered cs n ≡ Some r → GoesOn cs t.lits used n p e r
goes_on cs t top p n seen used e r s is_end named f on w is =
    let x : ℤ = lit_at t.lits p in
    let same : w.clause ≡ r = same_Some w.clause r (sym w.is ∙ is) in
    let lt : p < top = f.below p on in
    let in_front : IsTrue (has_lit e (neg_ℤ x)) = f.all (neg_ℤ x) (record { place = p; below = lt; there = sym (neg-neg x); marked = on }) in
    let others : (l : ℤ) → IsTrue (has_lit r l) → (l ≡ x → ⊥) → FalseBy t.lits p l = λ l k d. reason_others cs t.lits p n w l (subst (λ (c : List ℤ). IsTrue (has_lit c l)) (sym same) k) d in
    let clash : ClashesAt e r x = clashes_at t p e r s (omega (arith, lt, f.within)) (λ l k. marked_false t.lits seen top top e l f (f.only l k)) in_front (subst (λ (c : List ℤ). IsTrue (has_lit c x)) same w.has) others in
    record {
      is_end = named-push cs used n e r is is_end ∙ resolvent_is e r x clash;
      named = names-push cs used n named (unit_number cs t.lits p n w).low (unit_number cs t.lits p n w).high;
      others = λ l k. let q = without_has r x l k in others l q.0 q.1;
    }

-- the chain goes one clause further
pub comes_further : (cs : List (List ℤ)) (t : TrailView) (start p n : ℕ) (old mid new : Resolvent) (used used' : List ℕ) (r : List ℤ) → IsSoundTrail t → HasCome cs t.lits start (p + 1) old used → start ≤ p → is_marked old.seen.items p ≡ true → WasUnit cs t.lits p n → numbered cs n ≡ Some r
    → mid.seen.items ≡ set old.seen.items p false → mid.kept.items ≡ old.kept.items → mid.count ≡ old.count - 1 → Joins t.lits start mid new (without r (lit_at t.lits p)) → used' ≡ used ++ n ∷ [] → HasCome cs t.lits start p new used'
comes_further cs t start p n old mid new used used' r s h high on w is es ek ec j eu =
    let g = goes_on cs t (p + 1) p n old.seen.items used h.end r s h.is_end h.named h.resolvent.marks on w is in
    let less : StandsFor t.lits start p mid (without h.end (neg_ℤ (lit_at t.lits p))) = rw (es, ek, ec) (marks_less t.lits start p old.seen.items old.kept.items old.count h.end s.partial high on h.resolvent) in
    record {
      end = without h.end (neg_ℤ (lit_at t.lits p)) ++ without r (lit_at t.lits p);
      is_end = rw eu g.is_end;
      named = rw eu g.named;
      resolvent = j.resolvent p (without h.end (neg_ℤ (lit_at t.lits p))) g.others less;
    }

-- a place that isn't marked is passed
pub comes_past : (cs : List (List ℤ)) (t : List ℤ) (start p : ℕ) (m : Resolvent) (used : List ℕ) → HasCome cs t start (p + 1) m used → is_marked m.seen.items p ≡ false → HasCome cs t start p m used
comes_past cs t start p m used h off = record {
  end = h.end;
  is_end = h.is_end;
  named = h.named;
  resolvent = record { marks = lower_top t p m.seen.items h.end off h.resolvent.marks; counted = h.resolvent.counted; kept_only = h.resolvent.kept_only; kept_all = h.resolvent.kept_all };
}

-- the other literals of a reason are false
pub reason_false : (cs : List (List ℤ)) (t : List ℤ) (k n : ℕ) (r : List ℤ) (x : ℤ) → WasUnit cs t k n → numbered cs n ≡ Some r → x ≡ lit_at t k → AllFalse t (length t) (without r x)
reason_false cs t k n r x w is e = record {
  are = λ l h.
      let q = without_has r x l h in
      let f = reason_others cs t k n w l (subst (λ (c : List ℤ). IsTrue (has_lit c l)) (same_Some r w.clause (sym is ∙ w.is)) q.0) (λ s. q.1 (s ∙ sym e)) in
      record { place = f.place; below = f.within; within = f.within; there = f.there };
}

-- where a literal of the present level is in the clause
pub start_below : (cs : List (List ℤ)) (t : List ℤ) (start top : ℕ) (m : Resolvent) (used : List ℕ) → HasCome cs t start top m used → 1 ≤ m.count → start < top
start_below cs t start top m used h c = let k = has_mark start m.seen.items (omega (arith, h.resolvent.counted, c)) in omega (arith, k.from, h.resolvent.marks.below k.place k.marked)

-- where there are two, the last isn't the first of its level
pub other_left : (cs : List (List ℤ)) (t : List ℤ) (start p : ℕ) (m : Resolvent) (used : List ℕ) → HasCome cs t start (p + 1) m used → is_marked m.seen.items p ≡ true → 2 ≤ m.count → start < p
other_left cs t start p m used h on c =
    let high : start ≤ p = omega (arith, start_below cs t start (p + 1) m used h (omega (arith, c))) in
    let k = has_mark start (set m.seen.items p false) (omega (arith, h.resolvent.counted, c, mark_less start p m.seen.items high on)) in
    let u = unmarked m.seen.items p k.place k.marked in
    let low : k.place < p = omega (arith, h.resolvent.marks.below k.place u.1, u.0) in
    omega (arith, k.from, low)

pub come_at : (cs : List (List ℤ)) (t : List ℤ) (start n : ℕ) (m : Resolvent) (used : List ℕ) → start < n → HasCome cs t start n m used → HasCome cs t start (n - 1 + 1) m used
come_at cs t start n m used lt h = let e : n ≡ n - 1 + 1 = omega arith in subst (λ (k : ℕ). HasCome cs t start k m used) e h
