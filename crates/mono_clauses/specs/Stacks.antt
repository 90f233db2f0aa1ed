-- The watch lists: stacks of watchers in chunks of eight cells.
--
-- A place is the index of a cell. From the first cell of a chunk the chunk's link leads to the top place of the next chunk, which is full; from
-- another cell the way leads to the cell before it. The greatest link ends a stack: like the top place of a full chunk it is one below a multiple of eight.
use Rattle.std.proofs.Common.{◌≡◌, ◌≢◌, ℕ, suc, Bool, refl, sym, ap, subst, ◌∙◌, ◌+◌, ◌-◌, ◌*◌, ◌/◌, ◌%◌, ◌<◌, ◌≤◌, List, [], ◌∷◌, ◌++◌, length, get_or, set, map, ◌⊎◌}
use Rattle.std.specs.Prelude.{ℤ, Option, Some, None, if◌then◌else◌, ◌==◌}
use Rattle.std.specs.Coded.{×_prop, le_prop}
use Rattle.std.proofs.Math.Nat.{ℕ_set, lt_irrefl}
use Rattle.mono_clauses.specs.Lists.{times, list_at}
use Rattle.mono_clauses.specs.Store.{watch_at}
use Rattle.mono_clauses.specs.Watching.{is_watching}

-- the place below one
abbrev pub below : List ℕ → ℕ → ℕ
below links x = if x % 8 == 0 then get_or links (x / 8) 4294967295 else x - 1

-- a place in a stack
pub record IsPlace (links : List ℕ) (h x : ℕ) : Type 0 where
  pub is : h ≡ x
  pub within : x < 8 * length links
  pub short : x < 4294967295
  pub full : below links x % 8 ≡ (x + 7) % 8

-- from a top place the way leads through these to the end
abbrev pub IsStack : List ℕ → ℕ → List ℕ → Type 0
IsStack links h [] = h ≡ 4294967295
IsStack links h (x ∷ xs) = IsPlace links h x × IsStack links (below links x) xs

-- the places from one on
pub record Rest (links : List ℕ) (h : ℕ) : Type 0 where
  pub places : List ℕ
  pub is : IsStack links h places

-- ---- a place determines those below it

abbrev place_of : (links : List ℕ) (h x : ℕ) → h ≡ x → x < 8 * length links → x < 4294967295 → below links x % 8 ≡ (x + 7) % 8 → IsPlace links h x
place_of links h x i w s f = record { is = i; within = w; short = s; full = f }

IsPlace-prop : (links : List ℕ) (h x : ℕ) → IsProp (IsPlace links h x)
IsPlace-prop links h x a b =
    ap (λ i. place_of links h x i a.within a.short a.full) (ℕ_set h x a.is b.is)
    ∙ ap (λ w. place_of links h x b.is w a.short a.full) (le_prop a.within b.within)
    ∙ ap (λ s. place_of links h x b.is b.within s a.full) (le_prop a.short b.short)
    ∙ ap (λ f. place_of links h x b.is b.within b.short f) (ℕ_set (below links x % 8) ((x + 7) % 8) a.full b.full)

pub same_stack : (links : List ℕ) (h : ℕ) (a b : List ℕ) → IsStack links h a → IsStack links h b → a ≡ b
same_stack links h [] [] p q = refl
same_stack links h [] (y ∷ b) p q = absurd (lt_irrefl 4294967295 (subst (λ (n : ℕ). n < 4294967295) (sym q.0.is ∙ p) q.0.short))
same_stack links h (x ∷ a) [] p q = absurd (lt_irrefl 4294967295 (subst (λ (n : ℕ). n < 4294967295) (sym p.0.is ∙ q) p.0.short))
same_stack links h (x ∷ a) (y ∷ b) p q =
    let e : x ≡ y = sym p.0.is ∙ q.0.is in
    let t : a ≡ b = same_stack links (below links x) a b p.1 (subst (λ (z : ℕ). IsStack links (below links z) b) (sym e) q.1) in
    ap (λ (z : ℕ). z ∷ a) e ∙ ap (λ (zs : List ℕ). y ∷ zs) t

IsStack-prop : (links : List ℕ) (h : ℕ) (a : List ℕ) → IsProp (IsStack links h a)
IsStack-prop links h [] = ℕ_set h 4294967295
IsStack-prop links h (x ∷ a) = ×_prop (IsPlace-prop links h x) (IsStack-prop links (below links x) a)

abbrev pack : (links : List ℕ) (h : ℕ) (xs : List ℕ) → IsStack links h xs → Rest links h
pack links h xs p = record { places = xs; is = p }

pub Rest-prop : (links : List ℕ) (h : ℕ) → IsProp (Rest links h)
Rest-prop links h x y =
    let same : x.places ≡ y.places = same_stack links h x.places y.places x.is y.is in
    subst (λ (xs : List ℕ). (q : IsStack links h xs) → pack links h x.places x.is ≡ pack links h xs q) same
    (λ q. ap (pack links h x.places) (IsStack-prop links h x.places x.is q)) y.is

-- ---- the watchers in the cells

-- the watcher in a cell
abbrev pub watcher_at : List ℕ → ℕ → ℕ
watcher_at cells x = get_or cells x 0

-- the watchers at places
abbrev pub watchers_at : List ℕ → List ℕ → List ℕ
watchers_at cells xs = map (watcher_at cells) xs

abbrev pub all_watchers : List ℕ → List (List ℕ) → List (List ℕ)
all_watchers cells lists = map (watchers_at cells) lists

abbrev pub sum_of : (List ℕ → ℕ) → List (List ℕ) → ℕ
sum_of f [] = 0
sum_of f (xs ∷ ls) = f xs + sum_of f ls

abbrev pub one : Bool → ℕ
one b = if b then 1 else 0

-- how many places are the first cell of a chunk
abbrev pub bottoms : List ℕ → ℕ
bottoms [] = 0
bottoms (x ∷ xs) = (if x % 8 == 0 then 1 else 0) + bottoms xs

-- how many watchers watch something
abbrev pub busy : List (Option ℤ) → ℕ
busy [] = 0
busy (None ∷ ws) = busy ws
busy (Some a ∷ ws) = suc (busy ws)

-- the stacks at these places, and the free chunks: no place is in use twice
pub record IsPool (slots : ℕ) (links free_chunks heads : List ℕ) (lists : List (List ℕ)) : Type 0 where
  pub few : 8 * length links ≤ 4294967295
  pub many : length heads ≡ slots
  pub as_many : length lists ≡ slots
  pub stacks : (k : ℕ) → k < slots → IsStack links (get_or heads k 4294967295) (list_at lists k)
  pub once : (x : ℕ) → sum_of (times x) lists + times x free_chunks ≤ 1
  pub are_free : (x : ℕ) → 1 ≤ times x free_chunks → (x % 8 ≡ 0) × (x < 8 * length links)
  pub chunks : sum_of bottoms lists + length free_chunks ≡ length links

-- a watcher stands once in the list of what it watches, and in no other
pub record IsThere (o : Option ℤ) (ls : List (List ℕ)) (w : ℕ) : Type 0 where
  pub at : (k : ℕ) → times w (list_at ls k) ≡ (if is_watching o k then 1 else 0)

-- the list is visited: a part is passed, and the rest is ahead
pub record IsBeingVisited (lists : List (List ℕ)) (list : ℕ) (ahead : List ℕ) : Type 0 where
  pub within : list < length lists
  pub kept : List ℕ
  pub split : list_at lists list ≡ kept ++ ahead

-- chunks have room for so many watchers in so many stacks: there is one for each, or a cell for each though the top chunk of each stack lacks seven
abbrev pub HasRoom : ℕ → ℕ → ℕ → Type 0
HasRoom watchers slots chunks = (watchers ≤ chunks) ⊎ (watchers + 7 * slots ≤ 8 * chunks)

-- the chunks have room for each watcher
pub record IsChunked (vars : ℕ) (links cells free_chunks heads : List ℕ) (watched : List (Option ℤ)) (list : ℕ) (ahead : List ℕ) : Type 0 where
  pub lists : List (List ℕ)
  pub pool : IsPool (2 * vars + 2) links free_chunks heads lists
  pub size : length cells ≡ 8 * length links
  pub room : HasRoom (length watched) (2 * vars + 2) (length links)
  pub entries : sum_of length lists ≡ busy watched
  pub there : (w : ℕ) → IsThere (watch_at watched w) (all_watchers cells lists) w
  pub being_visited : 0 < length ahead → IsBeingVisited lists list ahead

-- the next cell of the top chunk
pub record Higher (links free_chunks : List ℕ) (top : ℕ) (links' free_chunks' : List ℕ) (x : ℕ) : Type 0 where
  pub inside : top % 8 ≢ 7
  pub place : x ≡ top + 1
  pub same_links : links' ≡ links
  pub same_free : free_chunks' ≡ free_chunks

-- the first cell of a free chunk
pub record Fresh (links free_chunks : List ℕ) (top : ℕ) (links' free_chunks' : List ℕ) (x : ℕ) : Type 0 where
  pub full : top % 8 ≡ 7
  pub taken : free_chunks ≡ free_chunks' ++ x ∷ []
  pub linked : links' ≡ set links (x / 8) top

-- a place was found on top of a stack
pub record Climbed (links free_chunks : List ℕ) (top : ℕ) (links' free_chunks' : List ℕ) (x : ℕ) : Type 0 where
  pub is : Higher links free_chunks top links' free_chunks' x ⊎ Fresh links free_chunks top links' free_chunks' x

-- a watcher came onto a stack
pub record Put (cells links free_chunks heads : List ℕ) (slot watcher : ℕ) (cells' links' free_chunks' heads' : List ℕ) : Type 0 where
  pub place : ℕ
  pub climbed : Climbed links free_chunks (get_or heads slot 4294967295) links' free_chunks' place
  pub written : cells' ≡ set cells place watcher
  pub headed : heads' ≡ set heads slot place

abbrev pub freed : List ℕ → ℕ → List ℕ
freed free_chunks x = if x % 8 == 0 then free_chunks ++ x ∷ [] else free_chunks

-- the watcher at a place left a stack: the top one took its place
pub record Removed (cells links free_chunks heads : List ℕ) (slot place : ℕ) (cells' free_chunks' heads' : List ℕ) : Type 0 where
  pub moved : cells' ≡ set cells place (watcher_at cells (get_or heads slot 4294967295))
  pub headed : heads' ≡ set heads slot (below links (get_or heads slot 4294967295))
  pub are_free : free_chunks' ≡ freed free_chunks (get_or heads slot 4294967295)
