-- More atoms watch, edge after edge.
use Rattle.std.proofs.Common.{◌≡◌, ℕ, zero, suc, ◌+◌, ◌<◌, List, [], ◌∷◌, ◌++◌, length, get_or, refl, sym, subst, ◌∙◌, inl, inr, arith, All}
use Rattle.std.specs.Prelude.{IsTrue, Option, Some, None, slice_set}
use Rattle.std.specs.List.{Contains}
use Rattle.std.proofs.lemmas.Bool.{cases_eq, cases_lt}
use Rattle.std.proofs.lemmas.List.{get_or-set_same, get_or-set_other, length-set}
use Rattle.std.proofs.lemmas.List.Elements.{All-push, Contains-append_left, Contains-push}
use Rattle.mono_theory.specs.declared.evidence.Evidence.{Evidence}
use Rattle.mono_theory.specs.declared.watch.Watch.{Watch}
use Rattle.mono_graph.specs.Digraph.{has}
use Rattle.mono_graph.proofs.Membership.{has_cons}
use Rattle.mono_theory.specs.Sound.{evidence_at}
use Rattle.mono_theory.specs.Watching.{watching, watch_by, AreBelow, AllWatch, AreWatched, IsEdgeAt, IsGrown, WatchesIts}

-- an edge that a list has stands at a place of it
pub place_of_edge : (ks : List ℕ) (k : ℕ) → IsTrue (has ks k) → (i : ℕ) × IsEdgeAt ks i k
place_of_edge [] k h = absurd cc
place_of_edge (x ∷ ks) k h = elim (has_cons x k ks h) [
  | inl e ↦ (zero, record { held = omega arith; is = e })
  | inr t ↦ (let p = place_of_edge ks k t in (suc p.0, record { held = (let lt = p.1.held in omega (arith, lt)); is = p.1.is }))
]

pub grown_more : {ws vs us : List (List Watch)} → IsGrown ws vs → IsGrown vs us → IsGrown ws us
grown_more h g = record { len = g.len ∙ h.len; each = λ k w t. g.each k w (h.each k w t) }

pub grown_same : (ws : List (List Watch)) → IsGrown ws ws
grown_same ws = record { len = refl; each = λ k w t. t }

-- one more watch at one edge
abbrev pushed : List (List Watch) → ℕ → Watch → List (List Watch)
pushed ws k w = slice_set ws k (watching ws k ++ w ∷ [])

at_pushed : (ws : List (List Watch)) (k : ℕ) (w : Watch) → k < length ws → watching (pushed ws k w) k ≡ watching ws k ++ w ∷ []
at_pushed ws k w lt = get_or-set_same ws k (watching ws k ++ w ∷ []) [] lt

pub grown_by_one : (ws vs : List (List Watch)) (k : ℕ) (w : Watch) → k < length ws → vs ≡ pushed ws k w → IsGrown ws vs
grown_by_one ws vs k w lt e = subst (IsGrown ws) (sym e) (record {
  len = length-set ws k (watching ws k ++ w ∷ []);
  each = λ j x t. elim (cases_eq j k) [
    | inl s ↦ (let t' = subst (λ (i : ℕ). Contains (watching ws i) x) s t in
        subst (λ (i : ℕ). Contains (watching (pushed ws k w) i) x) (sym s)
        (subst (λ (us : List Watch). Contains us x) (sym (at_pushed ws k w lt)) (Contains-append_left (watching ws k) (w ∷ []) x t')))
    | inr ne ↦ subst (λ (us : List Watch). Contains us x) (sym (get_or-set_other ws k j (watching ws k ++ w ∷ []) [] ne)) t
  ];
})

pub watches_pushed : (ws vs : List (List Watch)) (k : ℕ) (w : Watch) → k < length ws → vs ≡ pushed ws k w → Contains (watching vs k) w
watches_pushed ws vs k w lt e =
    subst (λ (us : List (List Watch)). Contains (watching us k) w) (sym e)
    (subst (λ (us : List Watch). Contains us w) (sym (at_pushed ws k w lt)) (Contains-push (watching ws k) w))

pub below_pushed : (n : ℕ) (ws vs : List (List Watch)) (k : ℕ) (w : Watch) → k < length ws → w.atom < n → vs ≡ pushed ws k w → AreBelow n ws → AreBelow n vs
below_pushed n ws vs k w lt low e h = subst (AreBelow n) (sym e) (λ j. elim (cases_eq j k) [
  | inl s ↦ subst (λ (i : ℕ). All (λ x. x.atom < n) (watching (pushed ws k w) i)) (sym s) (rw (at_pushed ws k w lt) (All-push (λ x. x.atom < n) (watching ws k) w (h k) low))
  | inr ne ↦ rw (get_or-set_other ws k j (watching ws k ++ w ∷ []) [] ne) (h j)
])

pub watched_still : {ws vs : List (List Watch)} {a : ℕ} {ks : List ℕ} → IsGrown ws vs → AreWatched ws a ks → AreWatched vs a ks
watched_still {a = a} {ks = ks} g h = record { each = λ i lt. g.each (get_or ks i 0) (watch_by a i) (h.each i lt) }

-- the atom watches the first edges, each by its place
abbrev pub FirstWatched : List (List Watch) → ℕ → List ℕ → ℕ → Type 0
FirstWatched ws a ks n = (i : ℕ) → i < n → Contains (watching ws (get_or ks i 0)) (watch_by a i)

pub watched_more : {ws vs : List (List Watch)} {a : ℕ} (ks : List ℕ) (n : ℕ) → IsGrown ws vs → Contains (watching vs (get_or ks n 0)) (watch_by a n) → FirstWatched ws a ks n → FirstWatched vs a ks (n + 1)
watched_more {vs = vs} {a = a} ks n g this h i lt = elim (cases_lt i n) [
  | inl early ↦ g.each (get_or ks i 0) (watch_by a i) (h i early)
  | inr ge ↦ (let same : n ≡ i = omega (arith, ge, lt) in subst (λ (j : ℕ). Contains (watching vs (get_or ks j 0)) (watch_by a j)) same this)
]

pub watches_still : {ws vs : List (List Watch)} (a : ℕ) (o : Option Evidence) → IsGrown ws vs → WatchesIts ws a o → WatchesIts vs a o
watches_still a None g s = s
watches_still a (Some e) g s = watched_still g s

pub all_watch_still : {ws vs : List (List Watch)} {ss : List (Option Evidence)} {n : ℕ} → IsGrown ws vs → AllWatch ws ss n → AllWatch vs ss n
all_watch_still {ss = ss} g h = record { each = λ a lt. watches_still a (evidence_at ss a) g (h.each a lt) }

pub all_watch_more : (ws vs : List (List Watch)) (ss : List (Option Evidence)) (n : ℕ) → IsGrown ws vs → AllWatch ws ss n → WatchesIts vs n (evidence_at ss n) → AllWatch vs ss (n + 1)
all_watch_more ws vs ss n g h this = record {
  each = λ a lt. elim (cases_lt a n) [
    | inl early ↦ watches_still a (evidence_at ss a) g (h.each a early)
    | inr ge ↦ (let same : n ≡ a = omega (arith, ge, lt) in subst (λ (j : ℕ). WatchesIts vs j (evidence_at ss j)) same this)
  ];
}
