-- The lists of the nodes with a label, when one label is rewritten to another.
use Rattle.std.proofs.Common.{◌≡◌, ℕ, zero, suc, ◌<◌, ◌≤◌, ◌+◌, ◌^◌, Bool, ◌==◌, cond, List, [], ◌∷◌, ◌++◌, length, get_or, set, refl, sym, ap, subst, ◌∙◌, inl, inr, arith, ◌⊎◌, zero-add}
use Rattle.std.specs.Prelude.{IsTrue}
use Rattle.std.specs.List.{range_with_len}
use Rattle.std.specs.Prelude.{All}
use Rattle.std.proofs.Common.{Vec, Global}
use Rattle.std.proofs.lemmas.List.Elements.{All-tail}
use Rattle.std.proofs.lemmas.List.FromFn.{length-range_with_len, get_or-range_with_len}
use Rattle.mono_trees.specs.Lists.{lists_of}
use Rattle.std.proofs.Math.ListN.{length-set}
use Rattle.std.proofs.lemmas.List.{get_or-set_same, get_or-set_other, get_or_past, set-get_or}
use Rattle.std.proofs.lemmas.Bool.{eq-eqb, ne_eqb, cases_eq, cases_lt, false_from_ne_true}
use Rattle.mono_graph.specs.Digraph.{has}
use Rattle.mono_graph.proofs.Membership.{has_cons, has_here, has_append_cases, has_append_left, has_append_right}
use Rattle.mono_trees.specs.Kept.{AreLists, moved_label}

-- a label's list may have the label itself
pub own_listed : (labels : List ℕ) (lists : List (List ℕ)) (l : ℕ) → AreLists labels lists → l < length labels → get_or labels l 0 ≡ l
    → AreLists labels (set lists l (get_or lists l [] ++ l ∷ []))
own_listed labels lists l kept lt own = record {
  few = kept.few;
  len = length-set lists l _ ∙ kept.len;
  label = kept.label;
  own = kept.own;
  held = λ u below. at_held u below (kept.held u below) (cases_eq (get_or labels u 0) l);
  only = λ m u below h. at_only m u below (cases_eq m l) h;
}
  where
    more : List ℕ
    more = get_or lists l [] ++ l ∷ []

    same : get_or (set lists l (get_or lists l [] ++ l ∷ [])) l [] ≡ get_or lists l [] ++ l ∷ []
    same = get_or-set_same lists l _ [] (omega (arith, kept.len))

    at_held : (u : ℕ) → u < length labels → (u ≡ get_or labels u 0) ⊎ IsTrue (has (get_or lists (get_or labels u 0) []) u) → (get_or labels u 0 ≡ l) ⊎ (get_or labels u 0 ≡ l → ⊥)
        → (u ≡ get_or labels u 0) ⊎ IsTrue (has (get_or (set lists l (get_or lists l [] ++ l ∷ [])) (get_or labels u 0) []) u)
    at_held u below (inl e) c = inl e
    at_held u below (inr h) (inl e) =
        let there : IsTrue (has (get_or lists l []) u) = subst (λ (m : ℕ). IsTrue (has (get_or lists m []) u)) e h in
        inr (subst (λ (m : ℕ). IsTrue (has (get_or (set lists l (get_or lists l [] ++ l ∷ [])) m []) u)) (sym e)
        (subst (λ (ks : List ℕ). IsTrue (has ks u)) (sym same) (has_append_left (get_or lists l []) (l ∷ []) u there)))
    at_held u below (inr h) (inr ne) =
        inr (subst (λ (ks : List ℕ). IsTrue (has ks u)) (sym (get_or-set_other lists l (get_or labels u 0) _ [] ne)) h)

    at_only : (m u : ℕ) → m < length labels → (m ≡ l) ⊎ (m ≡ l → ⊥) → IsTrue (has (get_or (set lists l (get_or lists l [] ++ l ∷ [])) m []) u) → (u < length labels) × (get_or labels u 0 ≡ m)
    at_only m u below (inl e) h =
        let here : IsTrue (has (get_or lists l [] ++ l ∷ []) u) = subst (λ (ks : List ℕ). IsTrue (has ks u)) same (subst (λ (k : ℕ). IsTrue (has (get_or (set lists l (get_or lists l [] ++ l ∷ [])) k []) u)) e h) in
        elim (has_append_cases (get_or lists l []) (l ∷ []) u here) [
          | inl old ↦ let r = kept.only l u lt old in (r.0, r.1 ∙ sym e)
          | inr new ↦ elim (has_cons l u [] new) [
            | inl is ↦ (subst (λ (k : ℕ). k < length labels) is lt, subst (λ (k : ℕ). get_or labels k 0 ≡ m) is (own ∙ sym e))
            | inr none ↦ absurd cc
          ]
        ]
    at_only m u below (inr ne) h = kept.only m u below (subst (λ (ks : List ℕ). IsTrue (has ks u)) (get_or-set_other lists l m _ [] ne) h)

-- the nodes of the list are those with the label
pub listed : (labels : List ℕ) (lists : List (List ℕ)) (small : ℕ) → AreLists labels lists → small < length labels
    → IsTrue (has (get_or lists small []) small) → (u : ℕ) → u < length labels → has (get_or lists small []) u ≡ (get_or labels u 0 == small)
listed labels lists small kept lt itself u below = by_label (cases_eq (get_or labels u 0) small)
  where
    by_label : (get_or labels u 0 ≡ small) ⊎ (get_or labels u 0 ≡ small → ⊥) → has (get_or lists small []) u ≡ (get_or labels u 0 == small)
    by_label (inl e) =
        elim (kept.held u below) [
          | inl is ↦ subst (λ (k : ℕ). IsTrue (has (get_or lists small []) k)) (sym (is ∙ e)) itself ∙ sym (eq-eqb (get_or labels u 0) small e)
          | inr there ↦ subst (λ (m : ℕ). IsTrue (has (get_or lists m []) u)) e there ∙ sym (eq-eqb (get_or labels u 0) small e)
        ]
    by_label (inr ne) = false_from_ne_true (has (get_or lists small []) u) (λ h. ne (kept.only small u lt h).1) ∙ sym (ne_eqb (get_or labels u 0) small ne)

pub moved_at : (labels new : List ℕ) (lists : List (List ℕ)) (small large : ℕ) → AreLists labels lists → small < length labels
    → IsTrue (has (get_or lists small []) small)
    → ((u : ℕ) → get_or new u 0 ≡ cond (has (get_or lists small []) u) large (get_or labels u 0))
    → (u : ℕ) → u < length labels → get_or new u 0 ≡ moved_label small large (get_or labels u 0)
moved_at labels new lists small large kept lt itself is u below =
    is u ∙ ap (λ (b : Bool). cond b large (get_or labels u 0)) (listed labels lists small kept lt itself u below)

moved_yes : (small large l : ℕ) → l ≡ small → moved_label small large l ≡ large
moved_yes small large l e = ap (λ (b : Bool). cond b large l) (eq-eqb l small e)

moved_no : (small large l : ℕ) → (l ≡ small → ⊥) → moved_label small large l ≡ l
moved_no small large l ne = ap (λ (b : Bool). cond b large l) (ne_eqb l small ne)

pub merged : (labels new : List ℕ) (lists : List (List ℕ)) (small large : ℕ) → AreLists labels lists → small < length labels → large < length labels
    → get_or labels large 0 ≡ large → (small ≡ large → ⊥) → IsTrue (has (get_or lists small []) small) → length new ≡ length labels
    → ((u : ℕ) → u < length labels → get_or new u 0 ≡ moved_label small large (get_or labels u 0))
    → AreLists new (set (set lists small []) large (get_or (set lists small []) large [] ++ get_or lists small []))
merged labels new lists small large kept lt lt' own apart itself same is = record {
  few = rw same kept.few;
  len = length-set (set lists small []) large _ ∙ (length-set lists small [] ∙ (kept.len ∙ sym same));
  label = λ u below. at_label u (omega arith) (cases_eq (get_or labels u 0) small);
  own = λ u below. at_own u (omega arith) (cases_eq (get_or labels u 0) small);
  held = λ u below. at_held u (omega arith) (cases_eq (get_or labels u 0) small);
  only = λ m u below h. at_only m u (omega arith) (cases_eq m large) h;
}
  where
    bare : List (List ℕ)
    bare = set lists small []

    full : List (List ℕ)
    full = set (set lists small []) large (get_or (set lists small []) large [] ++ get_or lists small [])

    long : length (set lists small []) ≡ length labels
    long = length-set lists small [] ∙ kept.len

    new_yes : (u : ℕ) → u < length labels → get_or labels u 0 ≡ small → get_or new u 0 ≡ large
    new_yes u below e = is u below ∙ moved_yes small large (get_or labels u 0) e

    new_no : (u : ℕ) → u < length labels → (get_or labels u 0 ≡ small → ⊥) → get_or new u 0 ≡ get_or labels u 0
    new_no u below ne = is u below ∙ moved_no small large (get_or labels u 0) ne

    at_label : (u : ℕ) → u < length labels → (get_or labels u 0 ≡ small) ⊎ (get_or labels u 0 ≡ small → ⊥) → get_or new u 0 < length new
    at_label u below (inl e) = let x = new_yes u below e in omega arith
    at_label u below (inr ne) = let x = new_no u below ne in let y = kept.label u below in omega arith

    large_stays : get_or new large 0 ≡ large
    large_stays = new_no large lt' (λ e. apart (sym e ∙ own)) ∙ own

    at_own : (u : ℕ) → u < length labels → (get_or labels u 0 ≡ small) ⊎ (get_or labels u 0 ≡ small → ⊥) → get_or new (get_or new u 0) 0 ≡ get_or new u 0
    at_own u below (inl e) = ap (λ (k : ℕ). get_or new k 0) (new_yes u below e) ∙ (large_stays ∙ sym (new_yes u below e))
    at_own u below (inr ne) =
        let x : get_or new u 0 ≡ get_or labels u 0 = new_no u below ne in
        let y : get_or labels (get_or labels u 0) 0 ≡ get_or labels u 0 = kept.own u below in
        ap (λ (k : ℕ). get_or new k 0) x ∙ (new_no (get_or labels u 0) (kept.label u below) (λ e. ne (sym y ∙ e)) ∙ (y ∙ sym x))

    at_large : get_or (set (set lists small []) large (get_or (set lists small []) large [] ++ get_or lists small [])) large [] ≡ get_or (set lists small []) large [] ++ get_or lists small []
    at_large = get_or-set_same (set lists small []) large _ [] (omega (arith, long))

    front : get_or (set lists small []) large [] ≡ get_or lists large []
    front = get_or-set_other lists small large [] [] (λ e. apart (sym e))

    at_held : (u : ℕ) → u < length labels → (get_or labels u 0 ≡ small) ⊎ (get_or labels u 0 ≡ small → ⊥)
        → (u ≡ get_or new u 0) ⊎ IsTrue (has (get_or (set (set lists small []) large (get_or (set lists small []) large [] ++ get_or lists small [])) (get_or new u 0) []) u)
    at_held u below (inl e) =
        inr (subst (λ (k : ℕ). IsTrue (has (get_or (set (set lists small []) large (get_or (set lists small []) large [] ++ get_or lists small [])) k []) u)) (sym (new_yes u below e))
        (subst (λ (ks : List ℕ). IsTrue (has ks u)) (sym at_large)
        (has_append_right (get_or (set lists small []) large []) (get_or lists small []) u
        (listed labels lists small kept lt itself u below ∙ eq-eqb (get_or labels u 0) small e))))
    at_held u below (inr ne) = by_old (kept.held u below) (cases_eq (get_or labels u 0) large)
      where
        by_old : (u ≡ get_or labels u 0) ⊎ IsTrue (has (get_or lists (get_or labels u 0) []) u) → (get_or labels u 0 ≡ large) ⊎ (get_or labels u 0 ≡ large → ⊥)
            → (u ≡ get_or new u 0) ⊎ IsTrue (has (get_or (set (set lists small []) large (get_or (set lists small []) large [] ++ get_or lists small [])) (get_or new u 0) []) u)
        by_old (inl e) c = inl (e ∙ sym (new_no u below ne))
        by_old (inr h) (inl e) =
            let there : IsTrue (has (get_or lists large []) u) = subst (λ (m : ℕ). IsTrue (has (get_or lists m []) u)) e h in
            inr (subst (λ (k : ℕ). IsTrue (has (get_or (set (set lists small []) large (get_or (set lists small []) large [] ++ get_or lists small [])) k []) u)) (sym (new_no u below ne ∙ e))
            (subst (λ (ks : List ℕ). IsTrue (has ks u)) (sym at_large)
            (has_append_left (get_or (set lists small []) large []) (get_or lists small []) u (subst (λ (ks : List ℕ). IsTrue (has ks u)) (sym front) there))))
        by_old (inr h) (inr far) =
            inr (subst (λ (k : ℕ). IsTrue (has (get_or (set (set lists small []) large (get_or (set lists small []) large [] ++ get_or lists small [])) k []) u)) (sym (new_no u below ne))
            (subst (λ (ks : List ℕ). IsTrue (has ks u))
            (sym (get_or-set_other (set lists small []) large (get_or labels u 0) _ [] far ∙ get_or-set_other lists small (get_or labels u 0) [] [] ne)) h))

    at_only : (m u : ℕ) → m < length labels → (m ≡ large) ⊎ (m ≡ large → ⊥)
        → IsTrue (has (get_or (set (set lists small []) large (get_or (set lists small []) large [] ++ get_or lists small [])) m []) u) → (u < length new) × (get_or new u 0 ≡ m)
    at_only m u below (inl e) h =
        let here : IsTrue (has (get_or (set lists small []) large [] ++ get_or lists small []) u) =
        subst (λ (ks : List ℕ). IsTrue (has ks u)) at_large (subst (λ (k : ℕ). IsTrue (has (get_or (set (set lists small []) large (get_or (set lists small []) large [] ++ get_or lists small [])) k []) u)) e h) in
        elim (has_append_cases (get_or (set lists small []) large []) (get_or lists small []) u here) [
          | inl old ↦ let r = kept.only large u lt' (subst (λ (ks : List ℕ). IsTrue (has ks u)) front old) in
              (omega (arith, r.0), new_no u r.0 (λ s. apart (sym s ∙ r.1)) ∙ (r.1 ∙ sym e))
          | inr moved ↦ let r = kept.only small u lt moved in
              (omega (arith, r.0), new_yes u r.0 r.1 ∙ sym e)
        ]
    at_only m u below (inr far) h = by_small (cases_eq m small)
      where
        rest : IsTrue (has (get_or (set lists small []) m []) u)
        rest = subst (λ (ks : List ℕ). IsTrue (has ks u)) (get_or-set_other (set lists small []) large m _ [] far) h

        by_small : (m ≡ small) ⊎ (m ≡ small → ⊥) → (u < length new) × (get_or new u 0 ≡ m)
        by_small (inl e) =
            let none : IsTrue (has [] u) = subst (λ (ks : List ℕ). IsTrue (has ks u)) (get_or-set_same lists small [] [] (omega (arith, kept.len))) (subst (λ (k : ℕ). IsTrue (has (get_or (set lists small []) k []) u)) e rest) in
            absurd cc
        by_small (inr ne) =
            let r = kept.only m u below (subst (λ (ks : List ℕ). IsTrue (has ks u)) (get_or-set_other lists small m [] [] ne) rest) in
            (omega (arith, r.0), new_no u r.0 (λ s. ne (sym r.1 ∙ s)) ∙ r.1)

pub itself_listed : (rows new : List (List ℕ)) (l : ℕ) → l < length rows → new ≡ set rows l (get_or rows l [] ++ l ∷ []) → IsTrue (has (get_or new l []) l)
itself_listed rows new l lt e =
    subst (λ (xs : List (List ℕ)). IsTrue (has (get_or xs l []) l)) (sym e)
    (subst (λ (ks : List ℕ). IsTrue (has ks l)) (sym (get_or-set_same rows l _ [] lt)) (has_append_right (get_or rows l []) (l ∷ []) l (has_here l [])))

set_back : (rows : List (List ℕ)) (l : ℕ) → set (set rows l []) l (get_or rows l []) ≡ rows
set_back [] l = refl
set_back (r ∷ rs) zero = refl
set_back (r ∷ rs) (suc l) = ap (λ (xs : List (List ℕ)). r ∷ xs) (set_back rs l)

-- the whole of a merge, over the lists as they were after each step
pub kept_after_own : (labels : List ℕ) (rows rows1 : List (List ℕ)) (small : ℕ) → AreLists labels rows → small < length labels → get_or labels small 0 ≡ small
    → rows1 ≡ set rows small (get_or rows small [] ++ small ∷ []) → AreLists labels rows1
kept_after_own labels rows rows1 small kept lt own e = subst (λ (xs : List (List ℕ)). AreLists labels xs) (sym e) (own_listed labels rows small kept lt own)

pub kept_after_back : (labels : List ℕ) (rows1 rows2 rows3 rows4 : List (List ℕ)) (bare nodes : List ℕ) (small : ℕ) → AreLists labels rows1
    → bare ≡ [] → nodes ≡ get_or rows1 small [] → rows2 ≡ set rows1 small bare → rows3 ≡ rows2 → rows4 ≡ set rows3 small nodes → AreLists labels rows4
kept_after_back labels rows1 rows2 rows3 rows4 bare nodes small kept b n e2 e3 e4 =
    let back : rows4 ≡ rows1 = e4 ∙ (ap (λ (xs : List (List ℕ)). set xs small nodes) (e3 ∙ (e2 ∙ ap (λ (ks : List ℕ). set rows1 small ks) b))
    ∙ (ap (λ (ks : List ℕ). set (set rows1 small []) small ks) n ∙ set_back rows1 small)) in
    subst (λ (xs : List (List ℕ)). AreLists labels xs) (sym back) kept

pub kept_after_merge : (labels new : List ℕ) (rows1 rows2 rows3 : List (List ℕ)) (bare nodes lent : List ℕ) (small large : ℕ) → AreLists labels rows1
    → small < length labels → large < length labels → get_or labels large 0 ≡ large → (small ≡ large → ⊥) → IsTrue (has (get_or rows1 small []) small)
    → bare ≡ [] → nodes ≡ get_or rows1 small [] → lent ≡ nodes → rows2 ≡ set rows1 small bare → rows3 ≡ set rows2 large (get_or rows2 large [] ++ lent)
    → length new ≡ length labels → ((u : ℕ) → u < length labels → get_or new u 0 ≡ moved_label small large (get_or labels u 0))
    → AreLists new rows3
kept_after_merge labels new rows1 rows2 rows3 bare nodes lent small large kept lt lt' own apart itself b n ln e2 e3 same is =
    let two : rows2 ≡ set rows1 small [] = e2 ∙ ap (λ (ks : List ℕ). set rows1 small ks) b in
    let three : rows3 ≡ set (set rows1 small []) large (get_or (set rows1 small []) large [] ++ get_or rows1 small []) =
    e3 ∙ (ap (λ (xs : List (List ℕ)). set xs large (get_or xs large [] ++ lent)) two
    ∙ ap (λ (ks : List ℕ). set (set rows1 small []) large (get_or (set rows1 small []) large [] ++ ks)) (ln ∙ n)) in
    subst (λ (xs : List (List ℕ)). AreLists new xs) (sym three) (merged labels new rows1 small large kept lt lt' own apart itself same is)

-- an empty list in the place of an empty one
pub put_empty : (rows1 rows2 rows3 rows4 : List (List ℕ)) (bare nodes moved : List ℕ) (small large : ℕ) → small < length rows1 → (small ≡ large → ⊥)
    → bare ≡ [] → rows2 ≡ set rows1 small bare → rows3 ≡ set rows2 large moved → nodes ≡ [] → rows4 ≡ set rows3 small nodes → rows4 ≡ rows3
put_empty rows1 rows2 rows3 rows4 bare nodes moved small large lt apart b e2 e3 n e4 =
    let was : get_or rows3 small [] ≡ [] = ap (λ (xs : List (List ℕ)). get_or xs small []) e3
    ∙ (get_or-set_other rows2 large small moved [] apart
    ∙ (ap (λ (xs : List (List ℕ)). get_or xs small []) (e2 ∙ ap (λ (ks : List ℕ). set rows1 small ks) b) ∙ get_or-set_same rows1 small [] [] lt)) in
    e4 ∙ (ap (λ (ks : List ℕ). set rows3 small ks) (n ∙ sym was) ∙ set-get_or rows3 small [])

pub kept_as : (labels : List ℕ) (rows3 rows4 : List (List ℕ)) → rows4 ≡ rows3 → AreLists labels rows3 → AreLists labels rows4
kept_as labels rows3 rows4 e h = subst (λ (rows : List (List ℕ)). AreLists labels rows) (sym e) h

-- each node as its own label, and no lists
pub own_lists : (labels : List ℕ) (rows : List (List ℕ)) → length labels < 2 ^ 32 → length rows ≡ length labels → ((u : ℕ) → u < length labels → get_or labels u 0 ≡ u)
    → ((l : ℕ) → get_or rows l [] ≡ []) → AreLists labels rows
own_lists labels rows few len own empty = record {
  few = few;
  len = len;
  label = λ u below. rw (own u below) below;
  own = λ u below. ap (λ (k : ℕ). get_or labels k 0) (own u below);
  held = λ u below. inl (sym (own u below));
  only = λ l u below h. absurd (let none : IsTrue (has [] u) = subst (λ (ks : List ℕ). IsTrue (has ks u)) (empty l) h in cc);
}

pub range_at : (count u : ℕ) → u < length (range_with_len 0 count) → get_or (range_with_len 0 count) u 0 ≡ u
range_at count u below = get_or-range_with_len 0 count u 0 (omega (arith, length-range_with_len 0 count)) ∙ zero-add u

-- one more list emptied
pub emptied_more : (was now : List (List ℕ)) (i : ℕ) → ((l : ℕ) → l < i → get_or was l [] ≡ []) → now ≡ set was i [] → (l : ℕ) → l < i + 1 → get_or now l [] ≡ []
emptied_more was now i h is l lt = elim (cases_eq l i) [
  | inl e ↦ ap (λ (rows : List (List ℕ)). get_or rows l []) is ∙ (ap (λ (k : ℕ). get_or (set was i []) k []) e ∙ at (cases_lt i (length was)))
  | inr ne ↦ ap (λ (rows : List (List ℕ)). get_or rows l []) is ∙ (get_or-set_other was i l [] [] ne ∙ h l (omega arith))
]
  where
    at : (i < length was) ⊎ (length was ≤ i) → get_or (set was i []) i [] ≡ []
    at (inl below) = get_or-set_same was i [] [] below
    at (inr past) = get_or_past (set was i []) i [] (omega (arith, length-set was i []))

-- one more node as its own label
pub renumbered_more : (was now : List ℕ) (i : ℕ) → ((u : ℕ) → u < i → get_or was u 0 ≡ u) → i < length was → now ≡ set was i i → (u : ℕ) → u < i + 1 → get_or now u 0 ≡ u
renumbered_more was now i h below is u lt = elim (cases_eq u i) [
  | inl e ↦ ap (λ (ls : List ℕ). get_or ls u 0) is ∙ (ap (λ (k : ℕ). get_or (set was i i) k 0) e ∙ (get_or-set_same was i i 0 below ∙ sym e))
  | inr ne ↦ ap (λ (ls : List ℕ). get_or ls u 0) is ∙ (get_or-set_other was i u i 0 ne ∙ h u (omega arith))
]

pub empty_rows_at : (rows : List (Vec ℕ Global)) (l : ℕ) → All (λ row. row.items ≡ []) rows → get_or (lists_of rows) l [] ≡ []
empty_rows_at [] l e = refl
empty_rows_at (r ∷ rs) zero e = e 0 r (omega arith)
empty_rows_at (r ∷ rs) (suc l) e = empty_rows_at rs l (All-tail (λ (row : Vec ℕ Global). row.items ≡ []) r rs e)
