-- Places ahead on the list that is visited.
use Rattle.std.proofs.Common.{◌≡◌, ◌≢◌, ℕ, zero, suc, ◌+◌, ◌*◌, ◌%◌, ◌<◌, ◌≤◌, List, [], ◌∷◌, ◌++◌, length, set, arith, refl, sym, ◌∙◌, ap, subst, ◌⊎◌, inl, inr}
use Rattle.std.specs.Prelude.{ℤ, Option, Some, replicate}
use Rattle.std.proofs.lemmas.List.{length-map}
use Rattle.mono_base.specs.Literal.{slot}
use Rattle.mono_clauses.proofs.WatchLists.{Facts, Shifted, chunk_shift, chunk_more}
use Rattle.mono_clauses.proofs.ChunkStacks.{one_same, sum_at, times-append}
use Rattle.mono_clauses.specs.Lists.{times, list_at}
use Rattle.mono_clauses.specs.Stacks.{below, IsPlace, IsStack, Rest, watcher_at, watchers_at, bottoms, IsPool, IsChunked, Higher, Fresh, Climbed, Put, Removed, same_stack}
use Rattle.mono_clauses.specs.Store.{watch_at}

-- the first place ahead
pub record Head (links : List ℕ) (h : ℕ) (xs : List ℕ) : Type 0 where
  pub rest : List ℕ
  pub was : xs ≡ h ∷ rest
  pub place : IsPlace links h h
  pub stack : IsStack links (below links h) rest

head_of : (links : List ℕ) (h : ℕ) (xs : List ℕ) → IsStack links h xs → 0 < length xs → Head links h xs
head_of links h [] p lt = absurd (omega (arith, lt))
head_of links h (x ∷ xs) p lt = record {
  rest = xs;
  was = ap (λ (y : ℕ). y ∷ xs) (sym p.0.is);
  place = subst (λ (y : ℕ). IsPlace links h y) (sym p.0.is) p.0;
  stack = subst (λ (y : ℕ). IsStack links (below links y) xs) (sym p.0.is) p.1;
}

pub first_place : (links cells : List ℕ) (h : ℕ) (r : Rest links h) → 0 < length (watchers_at cells r.places) → Head links h r.places
first_place links cells h r lt = head_of links h r.places r.is (omega (arith, lt, length-map r.places (watcher_at cells)))

some_places : (links : List ℕ) (h : ℕ) (xs : List ℕ) → IsStack links h xs → h ≢ 4294967295 → 0 < length xs
some_places links h [] p n = absurd (n p)
some_places links h (x ∷ xs) p n = omega arith

pub some_place : (links : List ℕ) (h : ℕ) (r : Rest links h) → h ≢ 4294967295 → Head links h r.places
some_place links h r n = head_of links h r.places r.is (some_places links h r.places r.is n)

pub no_place : (links : List ℕ) (h : ℕ) (r : Rest links h) → h ≡ 4294967295 → r.places ≡ []
no_place links h r e = same_stack links h r.places [] r.is e

pub climbed_within : (links free_chunks : List ℕ) (top : ℕ) (links' free_chunks' : List ℕ) (x : ℕ) → Climbed links free_chunks top links' free_chunks' x → (top % 8 ≢ 7 → top < 8 * length links) → ((y : ℕ) → 1 ≤ times y free_chunks → (y % 8 ≡ 0) × (y < 8 * length links)) → x < 8 * length links
climbed_within links free_chunks top links' free_chunks' x k t s = by_case k.is
  where
    by_case : Higher links free_chunks top links' free_chunks' x ⊎ Fresh links free_chunks top links' free_chunks' x → x < 8 * length links
    by_case (inl h) = omega (arith, h.place, h.inside, t h.inside)
    by_case (inr f) =
        let o = one_same x x refl in
        let e : times x free_chunks ≡ times x free_chunks' + times x (x ∷ []) = ap (times x) f.taken ∙ times-append x free_chunks' (x ∷ []) in
        (s x (omega (arith, e, o))).1

-- a stack's chunk is not spare
pub pool_room : (slots : ℕ) (links free_chunks heads : List ℕ) (lists : List (List ℕ)) (c x : ℕ) (xs : List ℕ) → IsPool slots links free_chunks heads lists → list_at lists c ≡ x ∷ xs → x % 8 ≡ 0 → length free_chunks < length links
pool_room slots links free_chunks heads lists c x xs i e z =
    let o = one_same (x % 8) 0 z in
    let b : bottoms (list_at lists c) ≡ bottoms (x ∷ xs) = ap bottoms e in
    omega (arith, o, b, sum_at bottoms lists c refl, i.chunks)

pub some_within : (ws : List (Option ℤ)) (w : ℕ) (a : ℤ) → watch_at ws w ≡ Some a → w < length ws
some_within [] w a e = absurd cc
some_within (x ∷ ws) zero a e = omega arith
some_within (x ∷ ws) (suc w) a e = omega (arith, some_within ws w a e)

pub chunk_shift_as : {vars : ℕ} {links cells free_chunks heads : List ℕ} {watched : List (Option ℤ)} {list : ℕ} (x : ℕ) (rest : List ℕ) (w : ℕ) → w ≡ watcher_at cells x → (c : ℕ) (l : ℤ) (cells₁ free_chunks₁ heads₁ links' cells' free_chunks' heads' : List ℕ) → (i : IsChunked vars links cells free_chunks heads watched list (x ∷ rest)) → (f : Facts vars links cells free_chunks heads watched list i.lists x rest)
    → watcher_at cells x < length watched → watch_at watched (watcher_at cells x) ≢ Some l → c ≡ slot l → c < 2 * vars + 2 → Removed cells links free_chunks heads list x cells₁ free_chunks₁ heads₁ → Put cells₁ links free_chunks₁ heads₁ c w cells' links' free_chunks' heads' → Shifted vars links cells free_chunks heads links' cells' free_chunks' heads' (set watched w (Some l)) list rest
chunk_shift_as {vars = vars} {links = links} {cells = cells} {free_chunks = free_chunks} {heads = heads} {watched = watched} {list = list} x rest w e c l cells₁ free_chunks₁ heads₁ links' cells' free_chunks' heads' i f lt other v cl r =
    subst (λ (n : ℕ). Put cells₁ links free_chunks₁ heads₁ c n cells' links' free_chunks' heads' → Shifted vars links cells free_chunks heads links' cells' free_chunks' heads' (set watched n (Some l)) list rest) (sym e)
    (λ q. chunk_shift x rest c l cells₁ free_chunks₁ heads₁ links' cells' free_chunks' heads' i f lt other v cl r q)

-- so it is of equal lists
pub chunk_eq : {vars : ℕ} {links cells free_chunks heads : List ℕ} {watched : List (Option ℤ)} {list : ℕ} {ahead : List ℕ} (links' cells' free_chunks' : List ℕ) (watched' : List (Option ℤ)) (ahead' : List ℕ) → IsChunked vars links cells free_chunks heads watched list ahead → links' ≡ links → cells' ≡ cells → free_chunks' ≡ free_chunks → watched' ≡ watched → ahead' ≡ ahead → IsChunked vars links' cells' free_chunks' heads watched' list ahead'
chunk_eq {vars = vars} {links = links} {cells = cells} {free_chunks = free_chunks} {heads = heads} {watched = watched} {list = list} {ahead = ahead} links' cells' free_chunks' watched' ahead' i a b c d e =
    subst (λ (ls : List ℕ). IsChunked vars ls cells' free_chunks' heads watched' list ahead') (sym a)
    (subst (λ (cs : List ℕ). IsChunked vars links cs free_chunks' heads watched' list ahead') (sym b)
    (subst (λ (ss : List ℕ). IsChunked vars links cells ss heads watched' list ahead') (sym c)
    (subst (λ (ws : List (Option ℤ)). IsChunked vars links cells free_chunks heads ws list ahead') (sym d)
    (subst (λ (hs : List ℕ). IsChunked vars links cells free_chunks heads watched list hs) (sym e) i))))

-- a free chunk more
pub chunk_added : {vars : ℕ} {links cells free_chunks heads : List ℕ} {watched : List (Option ℤ)} {list : ℕ} {ahead : List ℕ} (links' cells' free_chunks' : List ℕ) → IsChunked vars links cells free_chunks heads watched list ahead
    → cells' ≡ cells ++ replicate 8 0 → links' ≡ links ++ 4294967295 ∷ [] → free_chunks' ≡ free_chunks ++ (8 * length links) ∷ [] → 8 * (length links + 1) ≤ 4294967295 → IsChunked vars links' cells' free_chunks' heads watched list ahead
chunk_added {watched = watched} {ahead = ahead} links' cells' free_chunks' i more_cells more_links more_free few =
    chunk_eq links' cells' free_chunks' watched ahead (chunk_more 4294967295 (replicate 8 0) i few refl) more_links more_cells more_free refl refl

-- a watcher's number is short
pub watched_few : {vars : ℕ} {links cells free_chunks heads : List ℕ} {watched : List (Option ℤ)} {list : ℕ} {ahead : List ℕ} → IsChunked vars links cells free_chunks heads watched list ahead → length watched ≤ 4294967295
watched_few {vars = vars} {links = links} {watched = watched} i = by_case i.room
  where
    by_case : (length watched ≤ length links) ⊎ (length watched + 7 * (2 * vars + 2) ≤ 8 * length links) → length watched ≤ 4294967295
    by_case (inl each) = omega (arith, each, i.pool.few)
    by_case (inr lt) = omega (arith, lt, i.pool.few)
