-- Clauses in one flat list, when one joins, leaves, or has another literal at its head.
use Rattle.std.proofs.Common.{◌≡◌, ℕ, suc, ◌+◌, ◌-◌, ◌<◌, ◌≤◌, List, [], ◌∷◌, ◌++◌, length, get_or, take, drop, map, set, min, Bool, true, false, ltb, eqb, arith, refl, sym, ◌∙◌, ap, subst, length-append, get_or-set_same, get_or-set_other, ◌≢◌, ◌⊎◌, inl, inr}
use Rattle.std.specs.Prelude.{ℤ, pos, slice_range, Option, Some, None, IsSome}
use Rattle.std.specs.Option.{option_to_list}
use Rattle.std.proofs.lemmas.List.{take-append-le, drop-append-le, get_or-take, get_or-drop, length-drop, length-take, map-append, get_or_append_left, get_or-append_right, take_all}
use Rattle.std.proofs.Math.Seq.{drop-append_seam, get_or-append_seam, map-set_same}
use Rattle.std.proofs.lemmas.List.{length-map, length-set, get_or-map, get_or_read}
use Rattle.std.proofs.lemmas.Bool.{ltb-true, ltb-false}
use Rattle.std.proofs.lemmas.Bool.Decides.{eqb_tells}
use Rattle.mono_base.specs.Literal.{var_of, lit_at}
use Rattle.mono_clauses.proofs.OldAndNew.{old_or_new}
use Rattle.mono_clauses.specs.ClauseList.{ClausesView, with_clause, Undone}
use Rattle.mono_clauses.specs.ClauseValues.{AllVars}
use Rattle.mono_clauses.specs.FlatList.{clause_of, no_entry, IsFlat}
use Rattle.mono_clauses.specs.Lists.{Stands}
use Rattle.mono_clauses.specs.Store.{Held, clause_at, no_clause}
use Rattle.mono_clauses.specs.declared.clauses.Entry.{Entry}

-- a part of the flat list stays when literals join
range_stays : (flat more : List ℤ) (s e : ℕ) → s ≤ e → e ≤ length flat → slice_range (flat ++ more) s e ≡ slice_range flat s e
range_stays flat more s e a b =
    let w : s ≤ length flat = omega arith in
    let v : e - s ≤ length (drop s flat) = rw length-drop (omega arith) in
    ap (take (e - s)) (drop-append-le s flat more w) ∙ take-append-le (e - s) (drop s flat) more v

pub held_stay : (flat more : List ℤ) (held : List Entry) → ((k : ℕ) → k < length held → (get_or held k no_entry).start ≤ (get_or held k no_entry).end) → ((k : ℕ) → k < length held → (get_or held k no_entry).end ≤ length flat) → map (clause_of (flat ++ more)) held ≡ map (clause_of flat) held
held_stay flat more [] s e = refl
held_stay flat more (h ∷ hs) s e =
    let one : clause_of (flat ++ more) h ≡ clause_of flat h = ap (λ (c : List ℤ). let r : Held = record { number = h.number; lits = c } in r) (range_stays flat more h.start h.end (s 0 (omega arith)) (e 0 (omega arith))) in
    let rest : map (clause_of (flat ++ more)) hs ≡ map (clause_of flat) hs = held_stay flat more hs (λ k lt. s (suc k) (omega arith)) (λ k lt. e (suc k) (omega arith)) in
    cc

-- the new clause is the literals that joined
pub range_new : (flat more : List ℤ) → slice_range (flat ++ more) (length flat) (length flat + length more) ≡ more
range_new flat more = rw drop-append_seam (take_all (length flat + length more - length flat) more (omega arith))

pub range_within : (vars : ℕ) (flat : List ℤ) (s e : ℕ) → AllVars vars flat → s ≤ e → e ≤ length flat → AllVars vars (slice_range flat s e)
range_within vars flat s e r a b = record {
  at = λ k lt.
      let n : k < e - s = omega (arith, length-take (e - s) (drop s flat), lt) in
      let same : get_or (slice_range flat s e) k (pos 0) ≡ get_or flat (s + k) (pos 0) = get_or-take (e - s) (drop s flat) k (pos 0) n ∙ get_or-drop s flat k (pos 0) in
      let in_flat = r.at (s + k) (omega arith) in
      subst (λ (l : ℤ). (1 ≤ var_of l) × (var_of l ≤ vars)) (sym same) in_flat;
}

-- what contracts see of the clauses when one joins
pub view_added : (vars n start end : ℕ) (cached : ℤ) (flat more flat' : List ℤ) (held held' : List Entry) (v : ClausesView) → IsFlat vars flat held → record { vars = vars; list = map (clause_of flat) held } ≡ v
    → flat' ≡ flat ++ more → held' ≡ held ++ record { number = n; start = start; end = end; cached = cached } ∷ [] → start ≡ length flat → end ≡ length flat' → record { vars = vars; list = map (clause_of flat') held' } ≡ with_clause v n more
view_added vars n start end cached flat more flat' held held' v f at ef eh es ee =
    let new : end ≡ length flat + length more = ee ∙ ap length ef ∙ length-append flat more in
    rw (← at, ef, eh, map-append, held_stay flat more held f.starts f.ends, es, new, range_new flat more) refl

-- a list without its last clause
pub flat_less : (vars : ℕ) (flat : List ℤ) (held less : List Entry) (o : Option Entry) → held ≡ less ++ option_to_list o → IsFlat vars flat held → IsFlat vars flat less
flat_less vars flat held less o e f = record {
  starts = λ k lt. subst (λ (h : Entry). h.start ≤ h.end) (same k lt) (f.starts k (longer k lt));
  ends = λ k lt. subst (λ (h : Entry). h.end ≤ length flat) (same k lt) (f.ends k (longer k lt));
  ranged = f.ranged;
  are_cached = λ k lt some. subst (λ (h : Entry). Stands (clause_of flat h).lits h.cached) (same k lt) (f.are_cached k (longer k lt) (subst (λ (h : Entry). 0 < length (clause_of flat h).lits) (sym (same k lt)) some));
}
  where
    same : (k : ℕ) → k < length less → get_or held k no_entry ≡ get_or less k no_entry
    same k lt = ap (λ (hs : List Entry). get_or hs k no_entry) e ∙ get_or_append_left less (option_to_list o) no_entry k lt

    longer : (k : ℕ) → k < length less → k < length held
    longer k lt = omega (arith, ap (λ (hs : List Entry). length hs) e, length-append less (option_to_list o), lt)

pub undone_of : (vars : ℕ) (flat : List ℤ) (held less : List Entry) (o : Option Entry) (v : ClausesView) → record { vars = vars; list = map (clause_of flat) held } ≡ v → held ≡ less ++ option_to_list o → IsSome o → Undone v (record { vars = vars; list = map (clause_of flat) less })
undone_of vars flat held less None v at e some = absurd cc
undone_of vars flat held less (Some h) v at e some = subst (λ (q : ClausesView). Undone q (record { vars = vars; list = map (clause_of flat) less })) at (record { vars = refl; last = clause_of flat h; was = ap (map (clause_of flat)) e ∙ map-append (clause_of flat) less (h ∷ []) })

abbrev pub newest : ℕ → ℤ → List ℤ → List ℤ → Entry
newest n cached flat more = record { number = n; start = length flat; end = length flat + length more; cached = cached }

-- the clauses when one joins
pub flat_added : (vars n : ℕ) (cached : ℤ) (flat more : List ℤ) (held : List Entry) → IsFlat vars flat held → AllVars vars more → (0 < length more → Stands more cached) → IsFlat vars (flat ++ more) (held ++ newest n cached flat more ∷ [])
flat_added vars n cached flat more held f r s = record {
  starts = λ k lt. by_start k (age k lt);
  ends = λ k lt. by_end k (age k lt);
  ranged = record { at = λ k lt. by_range k lt (ltb k (length flat)) refl };
  are_cached = λ k lt some. by_cached k some (age k lt);
}
  where
    age : (k : ℕ) → k < length (held ++ newest n cached flat more ∷ []) → (k < length held) ⊎ (k ≡ length held)
    age k lt = old_or_new k (length held) (omega (arith, lt, length-append held (newest n cached flat more ∷ [])))

    was : (k : ℕ) → k < length held → get_or held k no_entry ≡ get_or (held ++ newest n cached flat more ∷ []) k no_entry
    was k lt = sym (get_or_append_left held (newest n cached flat more ∷ []) no_entry k lt)

    new : (k : ℕ) → k ≡ length held → newest n cached flat more ≡ get_or (held ++ newest n cached flat more ∷ []) k no_entry
    new k e = sym (ap (λ (j : ℕ). get_or (held ++ newest n cached flat more ∷ []) j no_entry) e ∙ get_or-append_seam held (newest n cached flat more) [] no_entry)

    by_start : (k : ℕ) → (k < length held) ⊎ (k ≡ length held) → (get_or (held ++ newest n cached flat more ∷ []) k no_entry).start ≤ (get_or (held ++ newest n cached flat more ∷ []) k no_entry).end
    by_start k (inl lt) = subst (λ (h : Entry). h.start ≤ h.end) (was k lt) (f.starts k lt)
    by_start k (inr e) = subst (λ (h : Entry). h.start ≤ h.end) (new k e) (omega arith)

    by_end : (k : ℕ) → (k < length held) ⊎ (k ≡ length held) → (get_or (held ++ newest n cached flat more ∷ []) k no_entry).end ≤ length (flat ++ more)
    by_end k (inl lt) = subst (λ (h : Entry). h.end ≤ length (flat ++ more)) (was k lt) (omega (arith, f.ends k lt, length-append flat more))
    by_end k (inr e) = subst (λ (h : Entry). h.end ≤ length (flat ++ more)) (new k e) (omega (arith, length-append flat more))

    by_range : (k : ℕ) → k < length (flat ++ more) → (b : Bool) → ltb k (length flat) ≡ b → (1 ≤ var_of (lit_at (flat ++ more) k)) × (var_of (lit_at (flat ++ more) k) ≤ vars)
    by_range k lt true e = subst (λ (l : ℤ). (1 ≤ var_of l) × (var_of l ≤ vars)) (sym (get_or_append_left flat more (pos 0) k (ltb-true k (length flat) e))) (f.ranged.at k (ltb-true k (length flat) e))
    by_range k lt false e =
        let le : length flat ≤ k = ltb-false k (length flat) e in
        let there : get_or (flat ++ more) k (pos 0) ≡ get_or more (k - length flat) (pos 0) = get_or-append_right flat more (length flat) k (pos 0) refl le in
        subst (λ (l : ℤ). (1 ≤ var_of l) × (var_of l ≤ vars)) (sym there) (r.at (k - length flat) (omega (arith, lt, le, length-append flat more)))

    by_cached : (k : ℕ) → 0 < length (clause_of (flat ++ more) (get_or (held ++ newest n cached flat more ∷ []) k no_entry)).lits → (k < length held) ⊎ (k ≡ length held) → Stands (clause_of (flat ++ more) (get_or (held ++ newest n cached flat more ∷ []) k no_entry)).lits (get_or (held ++ newest n cached flat more ∷ []) k no_entry).cached
    by_cached k some (inl lt) =
        let stays : slice_range (flat ++ more) (get_or held k no_entry).start (get_or held k no_entry).end ≡ slice_range flat (get_or held k no_entry).start (get_or held k no_entry).end = range_stays flat more (get_or held k no_entry).start (get_or held k no_entry).end (f.starts k lt) (f.ends k lt) in
        let here : 0 < length (clause_of (flat ++ more) (get_or held k no_entry)).lits = subst (λ (h : Entry). 0 < length (clause_of (flat ++ more) h).lits) (sym (was k lt)) some in
        let old = f.are_cached k lt (subst (λ (c : List ℤ). 0 < length c) stays here) in
        subst (λ (h : Entry). Stands (clause_of (flat ++ more) h).lits h.cached) (was k lt) (subst (λ (c : List ℤ). Stands c (get_or held k no_entry).cached) (sym stays) old)
    by_cached k some (inr e) =
        let here : 0 < length (clause_of (flat ++ more) (newest n cached flat more)).lits = subst (λ (h : Entry). 0 < length (clause_of (flat ++ more) h).lits) (sym (new k e)) some in
        let own : slice_range (flat ++ more) (length flat) (length flat + length more) ≡ more = range_new flat more in
        subst (λ (h : Entry). Stands (clause_of (flat ++ more) h).lits h.cached) (new k e) (subst (λ (c : List ℤ). Stands c cached) (sym own) (s (subst (λ (c : List ℤ). 0 < length c) own here)))

abbrev pub renewed : Entry → ℤ → Entry
renewed h lit = record { number = h.number; start = h.start; end = h.end; cached = lit }

-- another third literal
pub flat_cached : (vars k : ℕ) (lit : ℤ) (flat : List ℤ) (held : List Entry) → IsFlat vars flat held → k < length held → Stands (clause_of flat (get_or held k no_entry)).lits lit → IsFlat vars flat (set held k (renewed (get_or held k no_entry) lit))
flat_cached vars k lit flat held f lt s = record {
  starts = λ j l. by_start j (rw length-set at l) (eqb_tells k j);
  ends = λ j l. by_end j (rw length-set at l) (eqb_tells k j);
  ranged = f.ranged;
  are_cached = λ j l some. by_cached j (rw length-set at l) some (eqb_tells k j);
}
  where
    own : (j : ℕ) → k ≡ j → renewed (get_or held k no_entry) lit ≡ get_or (set held k (renewed (get_or held k no_entry) lit)) j no_entry
    own j e = sym (ap (λ (i : ℕ). get_or (set held k (renewed (get_or held k no_entry) lit)) i no_entry) (sym e) ∙ get_or-set_same held k (renewed (get_or held k no_entry) lit) no_entry lt)

    others : (j : ℕ) → k ≢ j → get_or held j no_entry ≡ get_or (set held k (renewed (get_or held k no_entry) lit)) j no_entry
    others j n = sym (get_or-set_other held k j (renewed (get_or held k no_entry) lit) no_entry (λ e. n (sym e)))

    by_start : (j : ℕ) → j < length held → ((eqb k j ≡ true) × (k ≡ j)) ⊎ ((eqb k j ≡ false) × (k ≢ j)) → (get_or (set held k (renewed (get_or held k no_entry) lit)) j no_entry).start ≤ (get_or (set held k (renewed (get_or held k no_entry) lit)) j no_entry).end
    by_start j l (inl q) = subst (λ (h : Entry). h.start ≤ h.end) (own j q.1) (f.starts k lt)
    by_start j l (inr o) = subst (λ (h : Entry). h.start ≤ h.end) (others j o.1) (f.starts j l)

    by_end : (j : ℕ) → j < length held → ((eqb k j ≡ true) × (k ≡ j)) ⊎ ((eqb k j ≡ false) × (k ≢ j)) → (get_or (set held k (renewed (get_or held k no_entry) lit)) j no_entry).end ≤ length flat
    by_end j l (inl q) = subst (λ (h : Entry). h.end ≤ length flat) (own j q.1) (f.ends k lt)
    by_end j l (inr o) = subst (λ (h : Entry). h.end ≤ length flat) (others j o.1) (f.ends j l)

    by_cached : (j : ℕ) → j < length held → 0 < length (clause_of flat (get_or (set held k (renewed (get_or held k no_entry) lit)) j no_entry)).lits → ((eqb k j ≡ true) × (k ≡ j)) ⊎ ((eqb k j ≡ false) × (k ≢ j)) → Stands (clause_of flat (get_or (set held k (renewed (get_or held k no_entry) lit)) j no_entry)).lits (get_or (set held k (renewed (get_or held k no_entry) lit)) j no_entry).cached
    by_cached j l some (inl q) = subst (λ (h : Entry). Stands (clause_of flat h).lits h.cached) (own j q.1) s
    by_cached j l some (inr o) = subst (λ (h : Entry). Stands (clause_of flat h).lits h.cached) (others j o.1) (f.are_cached j l (subst (λ (h : Entry). 0 < length (clause_of flat h).lits) (sym (others j o.1)) some))

pub clause_is : (flat : List ℤ) (held : List Entry) (k : ℕ) → k < length held → clause_at (map (clause_of flat) held) k ≡ clause_of flat (get_or held k no_entry)
clause_is flat held k lt = get_or-map (clause_of flat) held k no_entry no_clause lt

-- contracts see no change
pub view_cached : (flat : List ℤ) (held : List Entry) (k : ℕ) (lit : ℤ) → map (clause_of flat) (set held k (record { number = (get_or held k no_entry).number; start = (get_or held k no_entry).start; end = (get_or held k no_entry).end; cached = lit })) ≡ map (clause_of flat) held
view_cached flat held k lit = map-set_same (clause_of flat) held k (record { number = (get_or held k no_entry).number; start = (get_or held k no_entry).start; end = (get_or held k no_entry).end; cached = lit }) no_entry refl

length_range : (flat : List ℤ) (s e : ℕ) → s ≤ e → e ≤ length flat → length (slice_range flat s e) ≡ e - s
length_range flat s e a b = length-take (e - s) (drop s flat) ∙ (let l : length (drop s flat) ≡ length flat - s = length-drop s flat in let m : min (e - s) (length (drop s flat)) ≡ e - s = omega (arith, l, a, b) in m)

-- what is known of the entry at a place, and of the clause that it makes
pub record IsEntry (vars : ℕ) (flat : List ℤ) (v : ClausesView) (k : ℕ) (h : Entry) : Type 0 where
  pub starts : h.start ≤ h.end
  pub ends : h.end ≤ length flat
  pub clause : clause_of flat h ≡ clause_at v.list k
  pub len : h.end - h.start ≡ length (clause_at v.list k).lits
  pub cached : 0 < length (clause_at v.list k).lits → Stands (clause_at v.list k).lits h.cached
  pub ranged : AllVars v.vars (slice_range flat h.start h.end)

pub entry_is : (vars : ℕ) (flat : List ℤ) (held : List Entry) (v : ClausesView) (k : ℕ) (h : Entry) → IsFlat vars flat held → record { vars = vars; list = map (clause_of flat) held } ≡ v
    → k < length v.list → h ≡ get_or held k h → IsEntry vars flat v k h
entry_is vars flat held v k h f at inside read =
    let lt : k < length held = (let n = rw (← at) at inside in omega (arith, n, length-map held (clause_of flat))) in
    let there : get_or held k no_entry ≡ h = sym (get_or_read held k h lt read no_entry) in
    let clause : clause_of flat h ≡ clause_at v.list k = rw (← at, clause_is flat held k lt, there) refl in
    let starts : h.start ≤ h.end = subst (λ (q : Entry). q.start ≤ q.end) there (f.starts k lt) in
    let ends : h.end ≤ length flat = subst (λ (q : Entry). q.end ≤ length flat) there (f.ends k lt) in
    let cached : 0 < length (clause_of flat h).lits → Stands (clause_of flat h).lits h.cached = subst (λ (q : Entry). 0 < length (clause_of flat q).lits → Stands (clause_of flat q).lits q.cached) there (f.are_cached k lt) in
    record {
      starts = starts;
      ends = ends;
      clause = clause;
      len = subst (λ (q : Held). h.end - h.start ≡ length q.lits) clause (omega (arith, length-take (h.end - h.start) (drop h.start flat), length-drop h.start flat, starts, ends));
      cached = subst (λ (q : Held). 0 < length q.lits → Stands q.lits h.cached) clause cached;
      ranged = subst (λ (q : ClausesView). AllVars q.vars (slice_range flat h.start h.end)) at (range_within vars flat h.start h.end f.ranged starts ends);
    }
