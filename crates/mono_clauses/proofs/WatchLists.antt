-- What a step does to the watch lists: a watcher joins a stack, leaves one, or is passed.
use Rattle.std.proofs.Common.{◌≡◌, ◌≢◌, ℕ, zero, suc, ◌+◌, ◌*◌, ◌/◌, ◌%◌, ◌<◌, ◌≤◌, Bool, true, false, List, [], ◌∷◌, ◌++◌, length, get_or, set, arith, refl, sym, ◌∙◌, ap, subst, cond, eqb, eq-eqb, eqb-true, length-append, get_or-set_other, get_or-set_same, ◌⊎◌, inl, inr}
use Rattle.std.specs.Prelude.{ℤ, Option, Some, None, replicate}
use Rattle.std.proofs.lemmas.Bool.Decides.{eqb_tells}
use Rattle.std.proofs.lemmas.List.{length-set, get_or_append_left, append_assoc, length-replicate, length-map, map-append, map-set}
use Rattle.mono_base.specs.Literal.{slot}
use Rattle.mono_clauses.proofs.ChunkPool.{free_place, absent_at, pool_put, pool_remove, some_free, pool_more, room_more}
use Rattle.mono_clauses.proofs.ChunkStacks.{one_same, one_other, tells, stack_set, sum_set, sum_at, sum_two, times-append, watchers_absent, watchers_swap, at_watchers, all_absent}
use Rattle.mono_clauses.proofs.Times.{times_same, none_more, joins_other}
use Rattle.mono_base.proofs.Sparse.{slot_injective}
use Rattle.mono_clauses.specs.Lists.{times, list_at, IsFree}
use Rattle.mono_clauses.specs.Stacks.{below, IsStack, watcher_at, watchers_at, all_watchers, sum_of, bottoms, one, busy, HasRoom, IsPool, IsThere, IsBeingVisited, IsChunked, Higher, Fresh, Climbed, Put, Removed}
use Rattle.mono_clauses.specs.Store.{watch_at}
use Rattle.mono_clauses.specs.Watching.{is_watching}

-- how many watchers are busy
pub busy_le : (ws : List (Option ℤ)) → busy ws ≤ length ws
busy_le [] = omega arith
busy_le (None ∷ ws) = omega (arith, busy_le ws)
busy_le (Some a ∷ ws) = omega (arith, busy_le ws)

pub busy_more : (ws : List (Option ℤ)) → busy (ws ++ None ∷ []) ≡ busy ws
busy_more [] = refl
busy_more (None ∷ ws) = busy_more ws
busy_more (Some a ∷ ws) = ap suc (busy_more ws)

pub busy_set : (ws : List (Option ℤ)) (w : ℕ) (l : ℤ) → w < length ws → watch_at ws w ≡ None → busy (set ws w (Some l)) ≡ busy ws + 1
busy_set [] w l lt e = absurd (omega (arith, lt))
busy_set (None ∷ ws) zero l lt e = omega arith
busy_set (Some a ∷ ws) zero l lt e = absurd cc
busy_set (None ∷ ws) (suc w) l lt e = busy_set ws w l (omega (arith, lt)) e
busy_set (Some a ∷ ws) (suc w) l lt e = omega (arith, busy_set ws w l (omega (arith, lt)) e)

pub busy_same : (ws : List (Option ℤ)) (w : ℕ) (l a : ℤ) → watch_at ws w ≡ Some a → busy (set ws w (Some l)) ≡ busy ws
busy_same [] w l a e = refl
busy_same (None ∷ ws) zero l a e = absurd cc
busy_same (Some b ∷ ws) zero l a e = refl
busy_same (None ∷ ws) (suc w) l a e = busy_same ws w l a e
busy_same (Some b ∷ ws) (suc w) l a e = ap suc (busy_same ws w l a e)

-- no list is walked any more
pub chunk_close : {vars : ℕ} {links cells free_chunks heads : List ℕ} {watched : List (Option ℤ)} {list : ℕ} {ahead : List ℕ} (list' : ℕ) → IsChunked vars links cells free_chunks heads watched list ahead → IsChunked vars links cells free_chunks heads watched list' []
chunk_close list' i = record { lists = i.lists; pool = i.pool; size = i.size; room = i.room; entries = i.entries; there = i.there; being_visited = λ z. absurd (omega (arith, z)) }

pub chunk_take : {vars : ℕ} {links cells free_chunks heads : List ℕ} {watched : List (Option ℤ)} {list : ℕ} {ahead : List ℕ} (c : ℕ) → (i : IsChunked vars links cells free_chunks heads watched list ahead) → c < 2 * vars + 2 → IsChunked vars links cells free_chunks heads watched c (list_at i.lists c)
chunk_take c i lt = record { lists = i.lists; pool = i.pool; size = i.size; room = i.room; entries = i.entries; there = i.there; being_visited = λ z. record { within = omega (arith, lt, i.pool.as_many); kept = []; split = refl } }

pub chunk_keep : {vars : ℕ} {links cells free_chunks heads : List ℕ} {watched : List (Option ℤ)} {list : ℕ} (x : ℕ) (rest : List ℕ) → IsChunked vars links cells free_chunks heads watched list (x ∷ rest) → IsChunked vars links cells free_chunks heads watched list rest
chunk_keep x rest i =
    let s = i.being_visited (omega arith) in
    record { lists = i.lists; pool = i.pool; size = i.size; room = i.room; entries = i.entries; there = i.there; being_visited = λ z. record { within = s.within; kept = s.kept ++ x ∷ []; split = s.split ∙ sym (append_assoc s.kept (x ∷ []) rest) } }

-- the watchers ahead
pub ahead_those : {vars : ℕ} {links cells free_chunks heads : List ℕ} {watched : List (Option ℤ)} {list : ℕ} {ahead : List ℕ} (l : ℤ) (w : ℕ) → (i : IsChunked vars links cells free_chunks heads watched list ahead) → watch_at watched w ≡ Some l → times w (watchers_at cells (list_at i.lists (slot l))) ≡ 1
ahead_those {cells = cells} l w i e = ap (times w) (sym (at_watchers cells i.lists (slot l))) ∙ (i.there w).at (slot l) ∙ ap (λ (o : Option ℤ). one (is_watching o (slot l))) e ∙ ap one (eq-eqb (slot l) (slot l) refl)

pub ahead_others : {vars : ℕ} {links cells free_chunks heads : List ℕ} {watched : List (Option ℤ)} {list : ℕ} {ahead : List ℕ} (l : ℤ) (w : ℕ) → (i : IsChunked vars links cells free_chunks heads watched list ahead) → watch_at watched w ≢ Some l → times w (watchers_at cells (list_at i.lists (slot l))) ≡ 0
ahead_others {cells = cells} {watched = watched} l w i n = ap (times w) (sym (at_watchers cells i.lists (slot l))) ∙ (i.there w).at (slot l) ∙ ap one (by_watch (watch_at watched w) n)
  where
    by_watch : (o : Option ℤ) → o ≢ Some l → is_watching o (slot l) ≡ false
    by_watch None m = refl
    by_watch (Some a) m = by_test (eqb_tells (slot a) (slot l))
      where
        by_test : ((eqb (slot a) (slot l) ≡ true) × (slot a ≡ slot l)) ⊎ ((eqb (slot a) (slot l) ≡ false) × (slot a ≢ slot l)) → eqb (slot a) (slot l) ≡ false
        by_test (inl s) = absurd (m (ap Some (slot_injective a l s.1)))
        by_test (inr o) = o.0

-- a free watcher joins the list of what it watches from now on
there_joins : (watched : List (Option ℤ)) (ls : List (List ℕ)) (c w : ℕ) (l : ℤ) → IsFree ls w → ((v : ℕ) → v ≢ w → IsThere (watch_at watched v) ls v) → c ≡ slot l → c < length ls → w < length watched
    → (v : ℕ) → IsThere (watch_at (set watched w (Some l)) v) (set ls c (w ∷ list_at ls c)) v
there_joins watched ls c w l f p e lt wt v = by_test (eqb_tells w v)
  where
    own : (k : ℕ) → ((eqb c k ≡ true) × (c ≡ k)) ⊎ ((eqb c k ≡ false) × (c ≢ k)) → times w (list_at (set ls c (w ∷ list_at ls c)) k) ≡ cond (eqb (slot l) k) 1 0
    own k (inl s) =
        let one : times w (list_at (set ls c (w ∷ list_at ls c)) c) ≡ 1 = ap (times w) (get_or-set_same ls c (w ∷ list_at ls c) [] lt) ∙ times_same w (list_at ls c) ∙ ap suc (f.at c) in
        ap (λ (j : ℕ). times w (list_at (set ls c (w ∷ list_at ls c)) j)) (sym s.1) ∙ one ∙ sym (ap (λ (b : Bool). cond b 1 0) (eq-eqb (slot l) k (sym e ∙ s.1)))
    own k (inr o) =
        let off : eqb (slot l) k ≡ false = ap (λ (n : ℕ). eqb n k) (sym e) ∙ o.0 in
        ap (times w) (get_or-set_other ls c k (w ∷ list_at ls c) [] (λ z. o.1 (sym z))) ∙ f.at k ∙ sym (ap (λ (b : Bool). cond b 1 0) off)

    by_test : ((eqb w v ≡ true) × (w ≡ v)) ⊎ ((eqb w v ≡ false) × (w ≢ v)) → IsThere (watch_at (set watched w (Some l)) v) (set ls c (w ∷ list_at ls c)) v
    by_test (inl s) = subst (λ (u : ℕ). IsThere (watch_at (set watched w (Some l)) u) (set ls c (w ∷ list_at ls c)) u) s.1
        (subst (λ (o : Option ℤ). IsThere o (set ls c (w ∷ list_at ls c)) w) (sym (get_or-set_same watched w (Some l) None wt)) (record { at = λ k. own k (eqb_tells c k) }))
    by_test (inr o) =
        let off : v ≢ w = λ z. o.1 (sym z) in
        subst (λ (q : Option ℤ). IsThere q (set ls c (w ∷ list_at ls c)) v) (sym (get_or-set_other watched w v (Some l) None off))
        (record { at = λ k. joins_other ls c w v k lt off ∙ (p v off).at k })

-- the watchers after a place joined a stack
joined_watchers : (cells : List ℕ) (x w : ℕ) (lists : List (List ℕ)) (c : ℕ) → sum_of (times x) lists ≡ 0 → x < length cells → all_watchers (set cells x w) (set lists c (x ∷ list_at lists c)) ≡ set (all_watchers cells lists) c (w ∷ list_at (all_watchers cells lists) c)
joined_watchers cells x w lists c none lt =
    let a : all_watchers (set cells x w) (set lists c (x ∷ list_at lists c)) ≡ set (all_watchers (set cells x w) lists) c (watchers_at (set cells x w) (x ∷ list_at lists c)) = map-set (watchers_at (set cells x w)) lists c (x ∷ list_at lists c) in
    let b : all_watchers (set cells x w) lists ≡ all_watchers cells lists = all_absent cells x w lists none in
    let d : watcher_at (set cells x w) x ≡ w = get_or-set_same cells x w 0 lt in
    let e : watchers_at (set cells x w) (list_at lists c) ≡ list_at (all_watchers cells lists) c = watchers_absent cells x w (list_at lists c) (absent_at (times x) lists c refl none) ∙ sym (at_watchers cells lists c) in
    let f : watchers_at (set cells x w) (x ∷ list_at lists c) ≡ w ∷ list_at (all_watchers cells lists) c = cc in
    a ∙ ap (λ (ls : List (List ℕ)). set ls c (watchers_at (set cells x w) (x ∷ list_at lists c))) b ∙ ap (set (all_watchers cells lists) c) f

pub climbed_length : (links free_chunks : List ℕ) (top : ℕ) (links' free_chunks' : List ℕ) (x : ℕ) → Climbed links free_chunks top links' free_chunks' x → length links' ≡ length links
climbed_length links free_chunks top links' free_chunks' x k = by_case k.is
  where
    by_case : Higher links free_chunks top links' free_chunks' x ⊎ Fresh links free_chunks top links' free_chunks' x → length links' ≡ length links
    by_case (inl h) = ap (λ (ys : List ℕ). length ys) h.same_links
    by_case (inr f) = ap (λ (ys : List ℕ). length ys) f.linked ∙ length-set links (x / 8) top

-- a stack that lacks the place stays
pub climbed_stack : (slots : ℕ) (links free_chunks heads : List ℕ) (lists : List (List ℕ)) (top : ℕ) (links' free_chunks' : List ℕ) (x h : ℕ) (xs : List ℕ) → IsPool slots links free_chunks heads lists → Climbed links free_chunks top links' free_chunks' x → IsStack links h xs → times x xs ≡ 0 → IsStack links' h xs
climbed_stack slots links free_chunks heads lists top links' free_chunks' x h xs i k p e = by_case k.is
  where
    by_case : Higher links free_chunks top links' free_chunks' x ⊎ Fresh links free_chunks top links' free_chunks' x → IsStack links' h xs
    by_case (inl g) = subst (λ (ls : List ℕ). IsStack ls h xs) (sym g.same_links) p
    by_case (inr f) =
        let split : times x free_chunks ≡ times x free_chunks' + times x (x ∷ []) = ap (times x) f.taken ∙ times-append x free_chunks' (x ∷ []) in
        let bottom : x % 8 ≡ 0 = (i.are_free x (let o = one_same x x refl in omega (arith, split, o))).0 in
        let same : 8 * (x / 8) ≡ x = omega (arith, bottom) in
        subst (λ (ls : List ℕ). IsStack ls h xs) (sym f.linked) (stack_set links h xs (x / 8) top p (ap (λ (y : ℕ). times y xs) same ∙ e))

-- a watcher is in no stack, and comes onto one next
pub record IsLoose (vars : ℕ) (links cells free_chunks heads : List ℕ) (watched : List (Option ℤ)) (w : ℕ) (lists : List (List ℕ)) : Type 0 where
  pub pool : IsPool (2 * vars + 2) links free_chunks heads lists
  pub size : length cells ≡ 8 * length links
  pub room : HasRoom (length watched) (2 * vars + 2) (length links)
  pub within : w < length watched
  pub entries : (l : ℤ) → sum_of length lists + 1 ≡ busy (set watched w (Some l))
  pub free : IsFree (all_watchers cells lists) w
  pub there : (v : ℕ) → v ≢ w → IsThere (watch_at watched v) (all_watchers cells lists) v

-- the loose watcher comes onto the stack of a literal
pub loose_joins : {vars : ℕ} {links cells free_chunks heads : List ℕ} {watched : List (Option ℤ)} {w : ℕ} {lists : List (List ℕ)} (c : ℕ) (l : ℤ) (links' cells' free_chunks' heads' : List ℕ) (list : ℕ) (ahead : List ℕ) → IsLoose vars links cells free_chunks heads watched w lists → c ≡ slot l → c < 2 * vars + 2
    → (q : Put cells links free_chunks heads c w cells' links' free_chunks' heads') → (0 < length ahead → IsBeingVisited (set lists c (q.place ∷ list_at lists c)) list ahead) → IsChunked vars links' cells' free_chunks' heads' (set watched w (Some l)) list ahead
loose_joins {vars = vars} {links = links} {cells = cells} {free_chunks = free_chunks} {heads = heads} {watched = watched} {w = w} {lists = lists} c l links' cells' free_chunks' heads' list ahead i e lt q being_visited =
    let unused = free_place (2 * vars + 2) links free_chunks heads lists c links' free_chunks' q.place i.pool lt q.climbed in
    let len = climbed_length links free_chunks (get_or heads c 4294967295) links' free_chunks' q.place q.climbed in
    let watchers : all_watchers cells' (set lists c (q.place ∷ list_at lists c)) ≡ set (all_watchers cells lists) c (w ∷ list_at (all_watchers cells lists) c) = ap (λ (cs : List ℕ). all_watchers cs (set lists c (q.place ∷ list_at lists c))) q.written ∙ joined_watchers cells q.place w lists c unused.0 (omega (arith, unused.1, i.size)) in
    record {
      lists = set lists c (q.place ∷ list_at lists c);
      pool = subst (λ (hs : List ℕ). IsPool (2 * vars + 2) links' free_chunks' hs (set lists c (q.place ∷ list_at lists c))) (sym q.headed) (pool_put (2 * vars + 2) links free_chunks heads lists c links' free_chunks' q.place i.pool lt q.climbed);
      size = omega (arith, ap (λ (ys : List ℕ). length ys) q.written, length-set cells q.place w, i.size, len);
      room = room_more (length watched) (length (set watched w (Some l))) (2 * vars + 2) (length links) (length links') (omega (arith, length-set watched w (Some l))) (omega (arith, len)) i.room;
      entries = (let s = sum_set length lists c (q.place ∷ list_at lists c) (omega (arith, lt, i.pool.as_many)) in omega (arith, s, i.entries l));
      there = λ v. subst (λ (ls : List (List ℕ)). IsThere (watch_at (set watched w (Some l)) v) ls v) (sym watchers)
          (there_joins watched (all_watchers cells lists) c w l i.free i.there e (omega (arith, lt, i.pool.as_many, length-map lists (watchers_at cells))) i.within v);
      being_visited = being_visited;
    }

pub loose_free : {vars : ℕ} {links cells free_chunks heads : List ℕ} {watched : List (Option ℤ)} {w : ℕ} {lists : List (List ℕ)} (l : ℤ) → IsLoose vars links cells free_chunks heads watched w lists → 0 < length free_chunks
loose_free {vars = vars} {links = links} {free_chunks = free_chunks} {heads = heads} {watched = watched} {w = w} {lists = lists} l i =
    some_free (2 * vars + 2) links free_chunks heads lists (length watched) i.pool (omega (arith, i.entries l, busy_le (set watched w (Some l)), length-set watched w (Some l))) i.room

-- a watcher that watches nothing is loose
pub loose_idle : {vars : ℕ} {links cells free_chunks heads : List ℕ} {watched : List (Option ℤ)} {list : ℕ} {ahead : List ℕ} (w : ℕ) → (i : IsChunked vars links cells free_chunks heads watched list ahead) → watch_at watched w ≡ None → w < length watched → IsLoose vars links cells free_chunks heads watched w i.lists
loose_idle {watched = watched} w i n lt = record {
  pool = i.pool;
  size = i.size;
  room = i.room;
  within = lt;
  entries = λ l. omega (arith, i.entries, busy_set watched w l lt n);
  free = record { at = λ k. (i.there w).at k ∙ ap (λ (o : Option ℤ). one (is_watching o k)) n };
  there = λ v m. i.there v;
}

watching_at : (o : Option ℤ) (ls : List (List ℕ)) (w k : ℕ) → IsThere o ls w → 1 ≤ times w (list_at ls k) → is_watching o k ≡ true
watching_at o ls w k p lt = by_test (is_watching o k) refl
  where
    by_test : (b : Bool) → is_watching o k ≡ b → is_watching o k ≡ true
    by_test true e = e
    by_test false e = absurd (let f : times w (list_at ls k) ≡ cond false 1 0 = rw e at (p.at k) in omega (arith, f, lt))

watching_slot : (o : Option ℤ) (k : ℕ) → is_watching o k ≡ true → (a : ℤ) × ((o ≡ Some a) × (slot a ≡ k))
watching_slot None k e = absurd cc
watching_slot (Some a) k e = (a, (refl, eqb-true (slot a) k e))

watchers_in : (cells : List ℕ) (x : ℕ) (xs : List ℕ) → 1 ≤ times x xs → 1 ≤ times (watcher_at cells x) (watchers_at cells xs)
watchers_in cells x [] lt = absurd (omega (arith, lt))
watchers_in cells x (y ∷ xs) lt = by_test (tells y x) (watchers_in cells x xs)
  where
    by_test : (y ≡ x) ⊎ (y ≢ x) → (1 ≤ times x xs → 1 ≤ times (watcher_at cells x) (watchers_at cells xs)) → 1 ≤ times (watcher_at cells x) (watchers_at cells (y ∷ xs))
    by_test (inl s) ih = let f = one_same (watcher_at cells y) (watcher_at cells x) (ap (watcher_at cells) s) in omega (arith, f)
    by_test (inr o) ih = let f = one_other y x o in omega (arith, ih (omega (arith, lt, f)))

-- the top place of the walked stack, and what is left of the stack below it
pub record First (kept : List ℕ) (x : ℕ) (rest : List ℕ) : Type 0 where
  pub top : ℕ
  pub tail : List ℕ
  pub kept_now : List ℕ
  pub was : kept ++ x ∷ rest ≡ top ∷ tail
  pub now : tail ≡ kept_now ++ rest

first_known : (kept : List ℕ) (x : ℕ) (rest : List ℕ) → First kept x rest
first_known [] x rest = record { top = x; tail = rest; kept_now = []; was = refl; now = refl }
first_known (y ∷ kept) x rest = record { top = y; tail = kept ++ x ∷ rest; kept_now = kept ++ x ∷ []; was = refl; now = sym (append_assoc kept (x ∷ []) rest) }

-- the top watcher takes the place of another, which leaves
removed_times : (cells : List ℕ) (t : ℕ) (tl : List ℕ) (x v : ℕ) → x < length cells → times x (t ∷ tl) ≡ 1 → times v (watchers_at (set cells x (watcher_at cells t)) tl) + one (eqb (watcher_at cells x) v) ≡ times v (watchers_at cells (t ∷ tl))
removed_times cells t tl x v lt e = by_test (tells t x)
  where
    by_test : (t ≡ x) ⊎ (t ≢ x) → times v (watchers_at (set cells x (watcher_at cells t)) tl) + one (eqb (watcher_at cells x) v) ≡ times v (watchers_at cells (t ∷ tl))
    by_test (inl s) =
        let f = one_same t x s in
        let a = ap (times v) (watchers_absent cells x (watcher_at cells t) tl (omega (arith, e, f))) in
        let b : one (eqb (watcher_at cells t) v) ≡ one (eqb (watcher_at cells x) v) = ap (λ (z : ℕ). one (eqb (watcher_at cells z) v)) s in
        omega (arith, a, b)
    by_test (inr o) = let f = one_other t x o in omega (arith, watchers_swap cells x (watcher_at cells t) v tl lt (omega (arith, e, f)))

-- what is known of the first place ahead
pub record Facts (vars : ℕ) (links cells free_chunks heads : List ℕ) (watched : List (Option ℤ)) (list : ℕ) (lists : List (List ℕ)) (x : ℕ) (rest : List ℕ) : Type 0 where
  pub in_slots : list < 2 * vars + 2
  pub first : (k : List ℕ) × First k x rest
  pub split : list_at lists list ≡ first.1.top ∷ first.1.tail
  pub top : get_or heads list 4294967295 ≡ first.1.top
  pub top_within : first.1.top < 8 * length links
  pub within : x < length cells
  pub alone : times x (list_at lists list) ≡ 1
  pub not_after : times x rest ≡ 0
  pub lit : ℤ
  pub watching : watch_at watched (watcher_at cells x) ≡ Some lit
  pub is_slot : slot lit ≡ list
  pub once : times (watcher_at cells x) (watchers_at cells (list_at lists list)) ≡ 1
  pub gone : times (watcher_at cells x) (watchers_at cells rest) ≡ 0
  pub elsewhere : (k : ℕ) → k ≢ list → times (watcher_at cells x) (list_at (all_watchers cells lists) k) ≡ 0
  pub no_place : (k : ℕ) → k ≢ list → times x (list_at lists k) ≡ 0

in_stack : (links : List ℕ) (h : ℕ) (xs : List ℕ) (x : ℕ) → IsStack links h xs → 1 ≤ times x xs → x < 8 * length links
in_stack links h [] x p lt = absurd (omega (arith, lt))
in_stack links h (y ∷ xs) x p lt = by_test (tells y x) (in_stack links (below links y) xs x p.1)
  where
    by_test : (y ≡ x) ⊎ (y ≢ x) → (1 ≤ times x xs → x < 8 * length links) → x < 8 * length links
    by_test (inl s) ih = omega (arith, p.0.within, s)
    by_test (inr o) ih = let f = one_other y x o in ih (omega (arith, lt, f))

pub facts : {vars : ℕ} {links cells free_chunks heads : List ℕ} {watched : List (Option ℤ)} {list : ℕ} (x : ℕ) (rest : List ℕ) → (i : IsChunked vars links cells free_chunks heads watched list (x ∷ rest)) → Facts vars links cells free_chunks heads watched list i.lists x rest
facts {vars = vars} {links = links} {cells = cells} {free_chunks = free_chunks} {heads = heads} {watched = watched} {list = list} x rest i = record {
  in_slots = in_slots;
  first = (s.kept, f);
  split = split;
  top = stack.0.is;
  top_within = stack.0.within;
  within = omega (arith, i.size, in_stack links (get_or heads list 4294967295) (list_at i.lists list) x (i.pool.stacks list in_slots) (omega (arith, count)));
  alone = alone;
  not_after = omega (arith, count, alone, o);
  lit = own_slot.0;
  watching = own_slot.1.0;
  is_slot = own_slot.1.1;
  once = once;
  gone = (let g = one_same (watcher_at cells x) (watcher_at cells x) refl in omega (arith, once, watchers_count, g));
  elsewhere = λ k n. elsewhere k n (eqb_tells (slot own_slot.0) k);
  no_place = λ k n. (let two = sum_two (times x) i.lists list k refl s.within n in omega (arith, two, alone, i.pool.once x));
}
  where
    s : IsBeingVisited i.lists list (x ∷ rest)
    s = i.being_visited (omega arith)

    in_slots : list < 2 * vars + 2
    in_slots = omega (arith, s.within, i.pool.as_many)

    f : First s.kept x rest
    f = first_known s.kept x rest

    split : list_at i.lists list ≡ f.top ∷ f.tail
    split = s.split ∙ f.was

    stack : IsStack links (get_or heads list 4294967295) (f.top ∷ f.tail)
    stack = subst (λ (ys : List ℕ). IsStack links (get_or heads list 4294967295) ys) split (i.pool.stacks list in_slots)

    o : one (eqb x x) ≡ 1
    o = one_same x x refl

    count : times x (list_at i.lists list) ≡ times x s.kept + (1 + times x rest)
    count = ap (times x) s.split ∙ times-append x s.kept (x ∷ rest) ∙ (let q : times x s.kept + times x (x ∷ rest) ≡ times x s.kept + (1 + times x rest) = omega (arith, o) in q)

    alone : times x (list_at i.lists list) ≡ 1
    alone = omega (arith, count, sum_at (times x) i.lists list refl, i.pool.once x)

    watchers_count : times (watcher_at cells x) (watchers_at cells (list_at i.lists list)) ≡ times (watcher_at cells x) (watchers_at cells s.kept) + times (watcher_at cells x) (watcher_at cells x ∷ watchers_at cells rest)
    watchers_count = ap (λ (ys : List ℕ). times (watcher_at cells x) (watchers_at cells ys)) s.split ∙ ap (times (watcher_at cells x)) (map-append (watcher_at cells) s.kept (x ∷ rest)) ∙ times-append (watcher_at cells x) (watchers_at cells s.kept) (watcher_at cells x ∷ watchers_at cells rest)

    some : 1 ≤ times (watcher_at cells x) (list_at (all_watchers cells i.lists) list)
    some = omega (arith, watchers_in cells x (list_at i.lists list) (omega (arith, alone)), ap (times (watcher_at cells x)) (at_watchers cells i.lists list))

    watching : is_watching (watch_at watched (watcher_at cells x)) list ≡ true
    watching = watching_at (watch_at watched (watcher_at cells x)) (all_watchers cells i.lists) (watcher_at cells x) list (i.there (watcher_at cells x)) some

    own_slot : (a : ℤ) × ((watch_at watched (watcher_at cells x) ≡ Some a) × (slot a ≡ list))
    own_slot = watching_slot (watch_at watched (watcher_at cells x)) list watching

    once : times (watcher_at cells x) (watchers_at cells (list_at i.lists list)) ≡ 1
    once = ap (times (watcher_at cells x)) (sym (at_watchers cells i.lists list)) ∙ (i.there (watcher_at cells x)).at list ∙ ap one watching

    elsewhere : (k : ℕ) → k ≢ list → ((eqb (slot own_slot.0) k ≡ true) × (slot own_slot.0 ≡ k)) ⊎ ((eqb (slot own_slot.0) k ≡ false) × (slot own_slot.0 ≢ k)) → times (watcher_at cells x) (list_at (all_watchers cells i.lists) k) ≡ 0
    elsewhere k n (inl q) = absurd (n (sym q.1 ∙ own_slot.1.1))
    elsewhere k n (inr q) = (i.there (watcher_at cells x)).at k ∙ ap (λ (y : Option ℤ). one (is_watching y k)) own_slot.1.0 ∙ ap one q.0

-- the watcher of the first place ahead is loose once it was removed
pub loose_removed : {vars : ℕ} {links cells free_chunks heads : List ℕ} {watched : List (Option ℤ)} {list : ℕ} (x : ℕ) (rest : List ℕ) (cells' free_chunks' heads' : List ℕ) → (i : IsChunked vars links cells free_chunks heads watched list (x ∷ rest)) → (f : Facts vars links cells free_chunks heads watched list i.lists x rest) → watcher_at cells x < length watched
    → Removed cells links free_chunks heads list x cells' free_chunks' heads' → IsLoose vars links cells' free_chunks' heads' watched (watcher_at cells x) (set i.lists list f.first.1.tail)
loose_removed {vars = vars} {links = links} {cells = cells} {free_chunks = free_chunks} {heads = heads} {watched = watched} {list = list} x rest cells' free_chunks' heads' i f lt r = record {
  pool = subst (λ (hs : List ℕ). IsPool (2 * vars + 2) links free_chunks' hs out) (sym r.headed)
      (subst (λ (ss : List ℕ). IsPool (2 * vars + 2) links ss (set heads list (below links (get_or heads list 4294967295))) out) (sym r.are_free)
      (pool_remove (2 * vars + 2) links free_chunks heads i.lists list f.first.1.top f.first.1.tail i.pool f.in_slots f.split));
  size = omega (arith, ap (λ (ys : List ℕ). length ys) r.moved, length-set cells x (watcher_at cells (get_or heads list 4294967295)), i.size);
  room = i.room;
  within = lt;
  entries = λ l. (let s = sum_set length i.lists list f.first.1.tail in_lists in omega (arith, s, ap (λ (ys : List ℕ). length ys) f.split, i.entries, busy_same watched (watcher_at cells x) l f.lit f.watching));
  free = record { at = λ k. unused k (tells list k) };
  there = λ v n. record { at = λ k. there v n k (tells list k) ∙ (i.there v).at k };
}
  where
    out : List (List ℕ)
    out = set i.lists list f.first.1.tail

    in_lists : list < length i.lists
    in_lists = omega (arith, f.in_slots, i.pool.as_many)

    moved : cells' ≡ set cells x (watcher_at cells f.first.1.top)
    moved = r.moved ∙ ap (λ (t : ℕ). set cells x (watcher_at cells t)) f.top

    -- how often a watcher stands in the walked list
    own : (v : ℕ) → times v (list_at (all_watchers cells' (set i.lists list f.first.1.tail)) list) + one (eqb (watcher_at cells x) v) ≡ times v (list_at (all_watchers cells i.lists) list)
    own v =
        let a : list_at (all_watchers cells' (set i.lists list f.first.1.tail)) list ≡ watchers_at (set cells x (watcher_at cells f.first.1.top)) f.first.1.tail = at_watchers cells' (set i.lists list f.first.1.tail) list ∙ ap (watchers_at cells') (get_or-set_same i.lists list f.first.1.tail [] in_lists) ∙ ap (λ (cs : List ℕ). watchers_at cs f.first.1.tail) moved in
        let b : list_at (all_watchers cells i.lists) list ≡ watchers_at cells (f.first.1.top ∷ f.first.1.tail) = at_watchers cells i.lists list ∙ ap (watchers_at cells) f.split in
        let c = removed_times cells f.first.1.top f.first.1.tail x v f.within (ap (times x) (sym f.split) ∙ f.alone) in
        omega (arith, ap (times v) a, ap (times v) b, c)

    -- and in another
    others : (k : ℕ) → list ≢ k → list_at (all_watchers cells' (set i.lists list f.first.1.tail)) k ≡ list_at (all_watchers cells i.lists) k
    others k n =
        at_watchers cells' (set i.lists list f.first.1.tail) k ∙ ap (watchers_at cells') (get_or-set_other i.lists list k f.first.1.tail [] (λ z. n (sym z))) ∙ ap (λ (cs : List ℕ). watchers_at cs (list_at i.lists k)) moved
        ∙ watchers_absent cells x (watcher_at cells f.first.1.top) (list_at i.lists k) (f.no_place k (λ z. n (sym z))) ∙ sym (at_watchers cells i.lists k)

    unused : (k : ℕ) → (list ≡ k) ⊎ (list ≢ k) → times (watcher_at cells x) (list_at (all_watchers cells' (set i.lists list f.first.1.tail)) k) ≡ 0
    unused k (inl e) = subst (λ (j : ℕ). times (watcher_at cells x) (list_at (all_watchers cells' (set i.lists list f.first.1.tail)) j) ≡ 0) e
        (let g = one_same (watcher_at cells x) (watcher_at cells x) refl in omega (arith, own (watcher_at cells x), g, f.once, ap (times (watcher_at cells x)) (at_watchers cells i.lists list)))
    unused k (inr n) = ap (times (watcher_at cells x)) (others k n) ∙ f.elsewhere k (λ z. n (sym z))

    there : (v : ℕ) → v ≢ watcher_at cells x → (k : ℕ) → (list ≡ k) ⊎ (list ≢ k) → times v (list_at (all_watchers cells' (set i.lists list f.first.1.tail)) k) ≡ times v (list_at (all_watchers cells i.lists) k)
    there v n k (inl e) = subst (λ (j : ℕ). times v (list_at (all_watchers cells' (set i.lists list f.first.1.tail)) j) ≡ times v (list_at (all_watchers cells i.lists) j)) e
        (let g = one_other (watcher_at cells x) v (λ z. n (sym z)) in omega (arith, own v, g))
    there v n k (inr m) = ap (times v) (others k m)

-- the first watcher ahead went to another stack
pub record Shifted (vars : ℕ) (links cells free_chunks heads links' : List ℕ) (cells' free_chunks' heads' : List ℕ) (watched : List (Option ℤ)) (list : ℕ) (rest : List ℕ) : Type 0 where
  pub is : IsChunked vars links' cells' free_chunks' heads' watched list rest
  pub watchers : watchers_at cells' rest ≡ watchers_at cells rest
  pub stack : (h : ℕ) → IsStack links h rest → IsStack links' h rest

pub chunk_shift : {vars : ℕ} {links cells free_chunks heads : List ℕ} {watched : List (Option ℤ)} {list : ℕ} (x : ℕ) (rest : List ℕ) (c : ℕ) (l : ℤ) (cells₁ free_chunks₁ heads₁ links' cells' free_chunks' heads' : List ℕ) → (i : IsChunked vars links cells free_chunks heads watched list (x ∷ rest)) → (f : Facts vars links cells free_chunks heads watched list i.lists x rest)
    → watcher_at cells x < length watched → watch_at watched (watcher_at cells x) ≢ Some l → c ≡ slot l → c < 2 * vars + 2 → Removed cells links free_chunks heads list x cells₁ free_chunks₁ heads₁ → Put cells₁ links free_chunks₁ heads₁ c (watcher_at cells x) cells' links' free_chunks' heads' → Shifted vars links cells free_chunks heads links' cells' free_chunks' heads' (set watched (watcher_at cells x) (Some l)) list rest
chunk_shift {vars = vars} {links = links} {cells = cells} {free_chunks = free_chunks} {heads = heads} {watched = watched} {list = list} x rest c l cells₁ free_chunks₁ heads₁ links' cells' free_chunks' heads' i f lt other e cl r q = record {
  is = loose_joins c l links' cells' free_chunks' heads' list rest loose e cl q (λ z. record { within = within; kept = f.first.1.kept_now; split = being_visited });
  watchers = ap (λ (cs : List ℕ). watchers_at cs rest) q.written ∙ watchers_absent cells₁ q.place (watcher_at cells x) rest not_placed ∙ ap (λ (cs : List ℕ). watchers_at cs rest) r.moved ∙ watchers_absent cells x (watcher_at cells (get_or heads list 4294967295)) rest f.not_after;
  stack = λ h p. climbed_stack (2 * vars + 2) links free_chunks₁ heads₁ (set i.lists list f.first.1.tail) (get_or heads₁ c 4294967295) links' free_chunks' q.place h rest loose.pool q.climbed p not_placed;
}
  where
    loose : IsLoose vars links cells₁ free_chunks₁ heads₁ watched (watcher_at cells x) (set i.lists list f.first.1.tail)
    loose = loose_removed x rest cells₁ free_chunks₁ heads₁ i f lt r

    in_lists : list < length i.lists
    in_lists = omega (arith, f.in_slots, i.pool.as_many)

    differ : list ≢ c
    differ z = other (f.watching ∙ ap Some (slot_injective f.lit l (f.is_slot ∙ z ∙ e)))

    now : list_at (set i.lists list f.first.1.tail) list ≡ f.first.1.kept_now ++ rest
    now = get_or-set_same i.lists list f.first.1.tail [] in_lists ∙ f.first.1.now

    being_visited : list_at (set (set i.lists list f.first.1.tail) c (q.place ∷ list_at (set i.lists list f.first.1.tail) c)) list ≡ f.first.1.kept_now ++ rest
    being_visited = get_or-set_other (set i.lists list f.first.1.tail) c list (q.place ∷ list_at (set i.lists list f.first.1.tail) c) [] differ ∙ now

    within : list < length (set (set i.lists list f.first.1.tail) c (q.place ∷ list_at (set i.lists list f.first.1.tail) c))
    within = omega (arith, in_lists, length-set (set i.lists list f.first.1.tail) c (q.place ∷ list_at (set i.lists list f.first.1.tail) c), length-set i.lists list f.first.1.tail)

    not_placed : times q.place rest ≡ 0
    not_placed =
        let unused = free_place (2 * vars + 2) links free_chunks₁ heads₁ (set i.lists list f.first.1.tail) c links' free_chunks' q.place loose.pool cl q.climbed in
        let none = absent_at (times q.place) (set i.lists list f.first.1.tail) list refl unused.0 in
        let all : times q.place (f.first.1.kept_now ++ rest) ≡ 0 = ap (times q.place) (sym now) ∙ none in
        omega (arith, all, times-append q.place f.first.1.kept_now rest)

-- two watchers more
pub chunk_grow : {vars : ℕ} {links cells free_chunks heads : List ℕ} {watched : List (Option ℤ)} {list : ℕ} {ahead : List ℕ} → IsChunked vars links cells free_chunks heads watched list ahead → HasRoom (length watched + 2) (2 * vars + 2) (length links) → IsChunked vars links cells free_chunks heads ((watched ++ None ∷ []) ++ None ∷ []) list ahead
chunk_grow {vars = vars} {links = links} {cells = cells} {watched = watched} i room = record {
  lists = i.lists;
  pool = i.pool;
  size = i.size;
  room = room_more (length watched + 2) (length ((watched ++ None ∷ []) ++ None ∷ [])) (2 * vars + 2) (length links) (length links) (omega (arith, length-append (watched ++ None ∷ []) (None ∷ []), length-append watched (None ∷ []))) (omega arith) room;
  entries = i.entries ∙ sym (busy_more (watched ++ None ∷ []) ∙ busy_more watched);
  there = λ w. subst (λ (o : Option ℤ). IsThere o (all_watchers cells i.lists) w) (sym (none_more (watched ++ None ∷ []) w ∙ none_more watched w)) (i.there w);
  being_visited = i.being_visited;
}

watchers_append : (links cells more : List ℕ) (h : ℕ) (xs : List ℕ) → IsStack links h xs → length cells ≡ 8 * length links → watchers_at (cells ++ more) xs ≡ watchers_at cells xs
watchers_append links cells more h [] p e = refl
watchers_append links cells more h (x ∷ xs) p e =
    let a : watcher_at (cells ++ more) x ≡ watcher_at cells x = get_or_append_left cells more 0 x (omega (arith, p.0.within, e)) in
    let b : watchers_at (cells ++ more) xs ≡ watchers_at cells xs = watchers_append links cells more (below links x) xs p.1 e in
    cc

all_append : (links cells more : List ℕ) (hs : ℕ → ℕ) (ls : List (List ℕ)) → ((k : ℕ) → k < length ls → IsStack links (hs k) (list_at ls k)) → length cells ≡ 8 * length links → all_watchers (cells ++ more) ls ≡ all_watchers cells ls
all_append links cells more hs [] p e = refl
all_append links cells more hs (xs ∷ ls) p e =
    let a : watchers_at (cells ++ more) xs ≡ watchers_at cells xs = watchers_append links cells more (hs 0) xs (p 0 (omega arith)) e in
    let b : all_watchers (cells ++ more) ls ≡ all_watchers cells ls = all_append links cells more (λ k. hs (suc k)) ls (λ k lt. p (suc k) (omega (arith, lt))) e in
    cc

-- a chunk more
pub chunk_more : {vars : ℕ} {links cells free_chunks heads : List ℕ} {watched : List (Option ℤ)} {list : ℕ} {ahead : List ℕ} (v : ℕ) (more : List ℕ) → IsChunked vars links cells free_chunks heads watched list ahead → 8 * (length links + 1) ≤ 4294967295 → length more ≡ 8 → IsChunked vars (links ++ v ∷ []) (cells ++ more) (free_chunks ++ (8 * length links) ∷ []) heads watched list ahead
chunk_more {vars = vars} {links = links} {cells = cells} {free_chunks = free_chunks} {heads = heads} {watched = watched} v more i few m = record {
  lists = i.lists;
  pool = pool_more (2 * vars + 2) links free_chunks heads i.lists v i.pool few;
  size = omega (arith, i.size, m, length-append cells more, length-append links (v ∷ []));
  room = room_more (length watched) (length watched) (2 * vars + 2) (length links) (length (links ++ v ∷ [])) (omega arith) (omega (arith, length-append links (v ∷ []))) i.room;
  entries = i.entries;
  there = λ w. subst (λ (ls : List (List ℕ)). IsThere (watch_at watched w) ls w) (sym (all_append links cells more (λ k. get_or heads k 4294967295) i.lists (λ k lt. i.pool.stacks k (omega (arith, lt, i.pool.as_many))) i.size)) (i.there w);
  being_visited = i.being_visited;
}

-- no chunk and no watcher
empty_at : (n k : ℕ) → list_at (replicate n []) k ≡ []
empty_at zero k = refl
empty_at (suc n) zero = refl
empty_at (suc n) (suc k) = empty_at n k

end_at : (n k : ℕ) → get_or (replicate {A = ℕ} n 4294967295) k 4294967295 ≡ 4294967295
end_at zero k = refl
end_at (suc n) zero = refl
end_at (suc n) (suc k) = end_at n k

sum_empty : (f : List ℕ → ℕ) (n : ℕ) → f [] ≡ 0 → sum_of f (replicate n []) ≡ 0
sum_empty f zero z = refl
sum_empty f (suc n) z = omega (arith, z, sum_empty f n z)

pool_none : (n : ℕ) → IsPool n [] [] (replicate n 4294967295) (replicate n [])
pool_none n = record {
  few = omega arith;
  many = length-replicate n 4294967295;
  as_many = length-replicate n [];
  stacks = λ k lt. subst (λ (xs : List ℕ). IsStack [] (get_or (replicate n 4294967295) k 4294967295) xs) (sym (empty_at n k)) (end_at n k);
  once = λ x. omega (arith, sum_empty (times x) n refl);
  are_free = λ x p. absurd (omega (arith, p));
  chunks = omega (arith, sum_empty bottoms n refl);
}

pub chunk_none : (vars n : ℕ) → n ≡ 2 * vars + 2 → IsChunked vars [] [] [] (replicate n 4294967295) [] 0 []
chunk_none vars n e = record {
  lists = replicate n [];
  pool = subst (λ (m : ℕ). IsPool m [] [] (replicate n 4294967295) (replicate n [])) e (pool_none n);
  size = omega arith;
  room = inl (omega arith);
  entries = sum_empty length n refl;
  there = λ w. record { at = λ k. ap (times w) (at_watchers [] (replicate n []) k) ∙ ap (λ (xs : List ℕ). times w (watchers_at [] xs)) (empty_at n k) };
  being_visited = λ z. absurd (omega (arith, z));
}

-- the same by equal parts
pub chunk_as : {vars : ℕ} {links cells free_chunks heads : List ℕ} {watched : List (Option ℤ)} {list : ℕ} {ahead : List ℕ} (ahead' : List ℕ) → IsChunked vars links cells free_chunks heads watched list ahead → ahead' ≡ ahead → IsChunked vars links cells free_chunks heads watched list ahead'
chunk_as {vars = vars} {links = links} {cells = cells} {free_chunks = free_chunks} {heads = heads} {watched = watched} {list = list} ahead' i e = subst (λ (xs : List ℕ). IsChunked vars links cells free_chunks heads watched list xs) (sym e) i
