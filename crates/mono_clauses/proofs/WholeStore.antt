-- The store from the parts that it has.
use Rattle.std.proofs.Common.{◌≡◌, ℕ, suc, ◌+◌, ◌-◌, ◌*◌, ◌/◌, ◌<◌, List, [], ◌∷◌, ◌++◌, length, get_or, arith, refl, sym, ◌∙◌, ap, subst, ◌⊎◌, inl, inr, length-append}
use Rattle.std.specs.Prelude.{ℤ, Option, Some, None, IsTrue}
use Rattle.std.proofs.lemmas.Bool.{and_from}
use Rattle.std.proofs.lemmas.List.{get_or_append_left, get_or_past}
use Rattle.std.proofs.Math.Seq.{get_or-append_seam}
use Rattle.mono_base.specs.Partial.{is_quiet, unit_quiet}
use Rattle.mono_trail.specs.TrailView.{TrailView, IsSoundTrail}
use Rattle.mono_clauses.proofs.DueClauses.{times_place}
use Rattle.mono_clauses.proofs.FollowsKept.{below_of}
use Rattle.mono_clauses.proofs.Growth.{Grows-vars, HasTrue-grows}
use Rattle.mono_clauses.proofs.Literals.{IsQuiet, quiet_clause}
use Rattle.mono_clauses.proofs.OneWatcher.{some_within}
use Rattle.mono_clauses.proofs.OldAndNew.{old_or_new}
use Rattle.mono_clauses.proofs.Times.{none_more, times_same, times_other}
use Rattle.mono_clauses.proofs.WatchGuards.{half_even, other_half, other_other, quiet_watched}
use Rattle.mono_clauses.specs.ClauseList.{ClausesView, with_clause}
use Rattle.mono_clauses.specs.ClauseValues.{HasTrue}
use Rattle.mono_clauses.specs.Lists.{Stands, times}
use Rattle.mono_clauses.specs.Propagation.{QuietFound, FalseFound}
use Rattle.mono_clauses.specs.Store.{Held, no_clause, clause_at, lists_of, StoreView, watch_at, other, Guards, Follows}
use Rattle.mono_clauses.specs.Visits.{Pair, Paired, IsFollowing, Watched, DueVisited, Followed, Failed, DueKept, IsStore}
use Rattle.mono_clauses.specs.Watching.{WatchesView, more_watches}

pub times-append : (k : ℕ) (xs ys : List ℕ) → times k (xs ++ ys) ≡ times k xs + times k ys
times-append k [] ys = omega arith
times-append k (x ∷ xs) ys = omega (arith, times-append k xs ys)

-- a store that follows a trail is ready to be looked at
pub following_of : (c : ClausesView) (v : WatchesView) (due : List ℕ) (s : StoreView) (t : TrailView) → IsStore c v due → (let r : StoreView = record { vars = c.vars; clauses = c.list; watched = v.watched } in r) ≡ s → Follows s t → IsFollowing c.list v t
following_of c v due s t i e f =
    let g : Follows (record { vars = c.vars; clauses = c.list; watched = v.watched }) t = subst (λ (q : StoreView). Follows q t) (sym e) f in
    record { vars = sym i.vars ∙ g.vars; paired = i.paired; empty = i.empty; guarded = record { at = λ w a b h k. (let z : t.given ≡ t.given - 0 = omega arith in subst (λ (n : ℕ). Guards t n a b) z (g.at w a b h k)); alone = g.alone } }

pub follows_of : (c : ClausesView) (v : WatchesView) (t : TrailView) → c.vars ≡ v.vars → IsFollowing c.list v t → Follows (record { vars = c.vars; clauses = c.list; watched = v.watched }) t
follows_of c v t e i = record { vars = e ∙ i.vars; at = λ w a b h k. (let z : t.given - 0 ≡ t.given = omega arith in subst (λ (n : ℕ). Guards t n a b) z (i.guarded.at w a b h k)); alone = i.guarded.alone }

pub store_kept : (c : ClausesView) (v u : WatchesView) (due less : List ℕ) → IsStore c v due → u.vars ≡ v.vars → Paired c.list u.watched → u.ahead ≡ [] → DueKept c.list u less → IsStore c u less
store_kept c v u due less i e p h d = record { vars = i.vars ∙ sym e; paired = p; empty = h; kept = d }

-- every clause is quiet once all due ones were settled and all watches looked at
pub quiet_all : (c : ClausesView) (v x u : WatchesView) (due : List ℕ) (t s r : TrailView) → IsSoundTrail r → DueKept c.list x due → DueVisited c.list v x t s due → Followed c.list x u s r → (k : ℕ) → k < length c.list → IsQuiet r.lits (clause_at c.list k).lits
quiet_all c v x u due t s r sound i d f k lt = by_watch k lt (watch_at u.watched (2 * k)) refl
  where
    guards : (w : ℕ) (a b : ℤ) → watch_at u.watched w ≡ Some a → watch_at u.watched (other w) ≡ Some b → Guards r (length r.lits) a b
    guards w a b g h = let z : r.given - 0 ≡ length r.lits = omega (arith, f.all_given) in subst (λ (n : ℕ). Guards r n a b) z (f.following.guarded.at w a b g h)

    by_watch : (k : ℕ) → k < length c.list → (o : Option ℤ) → watch_at u.watched (2 * k) ≡ o → IsQuiet r.lits (clause_at c.list k).lits
    by_watch k lt None e =
        let mid : watch_at x.watched (2 * k) ≡ None = f.before.back (2 * k) e in
        let j = times_place k due (i.has_due k lt mid) in
        let true_then : HasTrue s.lits (clause_at c.list (get_or due j.0 0)).lits = d.done j.0 j.1.0 (ap (λ (n : ℕ). watch_at x.watched (2 * n)) j.1.1 ∙ mid) in
        let true_here : HasTrue s.lits (clause_at c.list k).lits = subst (λ (n : ℕ). HasTrue s.lits (clause_at c.list n).lits) j.1.1 true_then in
        record { why = inl (HasTrue-grows c.list s r (clause_at c.list k).lits f.grows true_here) }
    by_watch k lt (Some a) e =
        let p = f.following.paired.watcher (2 * k) a e in
        let q = f.following.paired.watcher (other (2 * k)) p.mate p.is in
        let has_a : Stands (clause_at c.list k).lits a = subst (λ (n : ℕ). Stands (clause_at c.list n).lits a) (half_even k) p.has in
        let has_b : Stands (clause_at c.list k).lits p.mate = subst (λ (n : ℕ). Stands (clause_at c.list n).lits p.mate) (other_half (2 * k) ∙ half_even k) q.has in
        quiet_watched r (clause_at c.list k).lits a p.mate sound has_a has_b (λ z. f.following.guarded.alone (2 * k) a e (p.is ∙ ap Some (sym z))) (guards (2 * k) a p.mate e p.is)
        (guards (other (2 * k)) p.mate a p.is (ap (watch_at u.watched) (other_other (2 * k)) ∙ e))

-- so the clauses held are quiet
pub quiet_lists : (cs : List Held) (u : List ℤ) → ((k : ℕ) → k < length cs → IsQuiet u (clause_at cs k).lits) → IsTrue (unit_quiet (lists_of cs) u)
quiet_lists [] u q = refl
quiet_lists (c ∷ cs) u q = and_from (is_quiet u c.lits) (unit_quiet (lists_of cs) u) (quiet_clause u c.lits (q 0 (omega arith))) (quiet_lists cs u (λ k lt. q (suc k) (omega (arith, lt))))

pub quiet_found : (c : ClausesView) (v x u : WatchesView) (due : List ℕ) (t s r : TrailView) → IsSoundTrail r → DueKept c.list x due → DueVisited c.list v x t s due → Followed c.list x u s r → c.vars ≡ u.vars → QuietFound (record { vars = c.vars; clauses = c.list; watched = u.watched }) r
quiet_found c v x u due t s r sound i d f z = record {
  quiet = quiet_lists c.list r.lits (quiet_all c v x u due t s r sound i d f);
  all_given = f.all_given;
  follows = follows_of c u r z f.following;
}

pub false_found : (c : ClausesView) (v u : WatchesView) (t r : TrailView) (n : ℕ) → Failed c.list v u t r n → c.vars ≡ u.vars → FalseFound (record { vars = c.vars; clauses = c.list; watched = u.watched }) r n
false_found c v u t r n f z = record {
  is_false = f.is_false;
  follows = below_of (record { vars = c.vars; clauses = c.list; watched = u.watched }) r f.ahead (z ∙ f.vars) f.guarded;
}

pub failed_vars : (c : List Held) (v u : WatchesView) (t r : TrailView) (n : ℕ) → v.vars ≡ t.vars → Failed c v u t r n → u.vars ≡ v.vars
failed_vars c v u t r n e f = f.vars ∙ Grows-vars c t r f.grows ∙ sym e

pub due_vars : (c : List Held) (v u : WatchesView) (t s : TrailView) (due : List ℕ) → v.vars ≡ t.vars → DueVisited c v u t s due → u.vars ≡ v.vars
due_vars c v u t s due e d = d.following.vars ∙ Grows-vars c t s d.grows ∙ sym e

pub followed_vars : (c : List Held) (v u : WatchesView) (t s : TrailView) → v.vars ≡ t.vars → Followed c v u t s → u.vars ≡ v.vars
followed_vars c v u t s e d = d.following.vars ∙ Grows-vars c t s d.grows ∙ sym e

-- a clause joins
pub store_added : (c : ClausesView) (v : WatchesView) (due : List ℕ) (n : ℕ) (lits : List ℤ) → IsStore c v due → IsStore (with_clause c n lits) (more_watches v) (due ++ length c.list ∷ [])
store_added c v due n lits i = record {
  vars = i.vars;
  paired = record { count = omega (arith, i.paired.count, length-append (v.watched ++ None ∷ []) (None ∷ []), length-append v.watched (None ∷ []), length-append c.list (record { number = n; lits = lits } ∷ [])); watcher = pair };
  empty = i.empty;
  kept = record {
    are_due = record { at = λ j lt. due_at j (old_or_new j (length due) (omega (arith, lt, length-append due (length c.list ∷ [])))) };
    has_due = λ k lt f. has k f (old_or_new k (length c.list) (omega (arith, lt, length-append c.list (record { number = n; lits = lits } ∷ []))));
  };
}
  where
    same : (w : ℕ) → watch_at ((v.watched ++ None ∷ []) ++ None ∷ []) w ≡ watch_at v.watched w
    same w = none_more (v.watched ++ None ∷ []) w ∙ none_more v.watched w

    pair : (w : ℕ) (a : ℤ) → watch_at ((v.watched ++ None ∷ []) ++ None ∷ []) w ≡ Some a → Pair (clause_at (c.list ++ record { number = n; lits = lits } ∷ []) (w / 2)).lits a (watch_at ((v.watched ++ None ∷ []) ++ None ∷ []) (other w))
    pair w a e =
        let before : watch_at v.watched w ≡ Some a = sym (same w) ∙ e in
        let p = i.paired.watcher w a before in
        let lt : w / 2 < length c.list = omega (arith, some_within v.watched w a before, i.paired.count) in
        let here : clause_at (c.list ++ record { number = n; lits = lits } ∷ []) (w / 2) ≡ clause_at c.list (w / 2) = get_or_append_left c.list (record { number = n; lits = lits } ∷ []) no_clause (w / 2) lt in
        record { has = subst (λ (q : Held). Stands q.lits a) (sym here) p.has; mate = p.mate; is = same (other w) ∙ p.is }

    due_at : (j : ℕ) → (j < length due) ⊎ (j ≡ length due) → get_or (due ++ length c.list ∷ []) j 0 < length (c.list ++ record { number = n; lits = lits } ∷ [])
    due_at j (inl lt) = omega (arith, get_or_append_left due (length c.list ∷ []) 0 j lt, i.kept.are_due.at j lt, length-append c.list (record { number = n; lits = lits } ∷ []))
    due_at j (inr e) = omega (arith, ap (λ (m : ℕ). get_or (due ++ length c.list ∷ []) m 0) e, get_or-append_seam due (length c.list) [] 0, length-append c.list (record { number = n; lits = lits } ∷ []))

    has : (k : ℕ) → watch_at ((v.watched ++ None ∷ []) ++ None ∷ []) (2 * k) ≡ None → (k < length c.list) ⊎ (k ≡ length c.list) → 0 < times k (due ++ length c.list ∷ [])
    has k f (inl lt) = omega (arith, times-append k due (length c.list ∷ []), i.kept.has_due k lt (sym (same (2 * k)) ∙ f))
    has k f (inr e) = omega (arith, times-append k due (length c.list ∷ []), once)
      where
        once : times k (length c.list ∷ []) ≡ 1
        once = subst (λ (m : ℕ). times k (m ∷ []) ≡ 1) e (times_same k [])

-- a clause that watches nothing changes nothing
follows_more : (s : StoreView) (t : TrailView) (cs : List Held) → Follows s t → Follows (record { vars = s.vars; clauses = cs; watched = (s.watched ++ None ∷ []) ++ None ∷ [] }) t
follows_more s t cs f = record {
  vars = f.vars;
  at = λ w a b e g. f.at w a b (sym (same w) ∙ e) (sym (same (other w)) ∙ g);
  alone = λ w a e g. f.alone w a (sym (same w) ∙ e) (sym (same (other w)) ∙ g);
}
  where
    same : (k : ℕ) → watch_at ((s.watched ++ None ∷ []) ++ None ∷ []) k ≡ watch_at s.watched k
    same k = none_more (s.watched ++ None ∷ []) k ∙ none_more s.watched k

-- what contracts see of a clause that joined
pub added_follows : (c d : ClausesView) (v u : WatchesView) (o : StoreView) (t : TrailView) (n : ℕ) (lits : List ℤ) → (let q : StoreView = record { vars = c.vars; clauses = c.list; watched = v.watched } in q) ≡ o → d ≡ with_clause c n lits → u ≡ more_watches v → Follows o t → Follows (record { vars = d.vars; clauses = d.list; watched = u.watched }) t
added_follows c d v u o t n lits at e g f =
    let old : Follows (record { vars = c.vars; clauses = c.list; watched = v.watched }) t = subst (λ (q : StoreView). Follows q t) (sym at) f in
    subst (λ (q : ClausesView). Follows (record { vars = q.vars; clauses = q.list; watched = u.watched }) t) (sym e)
    (subst (λ (q : WatchesView). Follows (record { vars = c.vars; clauses = c.list ++ record { number = n; lits = lits } ∷ []; watched = q.watched }) t) (sym g)
    (follows_more (record { vars = c.vars; clauses = c.list; watched = v.watched }) t (c.list ++ record { number = n; lits = lits } ∷ []) old))

-- a clause that is watched at once isn't due
pub store_watched : (c : ClausesView) (v u : WatchesView) (due : List ℕ) (t : TrailView) (k : ℕ) → IsStore c v (due ++ k ∷ []) → v.vars ≡ t.vars → Watched c.list v u t k → IsStore c u due
store_watched c v u due t k i e w = record {
  vars = i.vars ∙ e ∙ sym w.following.vars;
  paired = w.following.paired;
  empty = w.following.empty;
  kept = record {
    are_due = record { at = λ j lt. omega (arith, get_or_append_left due (k ∷ []) 0 j lt, i.kept.are_due.at j (omega (arith, lt, length-append due (k ∷ [])))) };
    has_due = λ m lt f. omega (arith, i.kept.has_due m lt (w.before.back (2 * m) f), times-append m due (k ∷ []), times_other m k [] (λ z. w.busy (ap (λ (n : ℕ). watch_at u.watched (2 * n)) (sym z) ∙ f)));
  };
}

-- the watchers of a clause that joins watch nothing
pub idle_more : (cs : List Held) (v u : WatchesView) (k : ℕ) → Paired cs v.watched → k ≡ length cs → u ≡ more_watches v → watch_at u.watched (2 * k) ≡ None
idle_more cs v u k p e g =
    ap (λ (q : WatchesView). watch_at q.watched (2 * k)) g
    ∙ none_more (v.watched ++ None ∷ []) (2 * k) ∙ none_more v.watched (2 * k) ∙ get_or_past v.watched (2 * k) None (omega (arith, p.count, e))
