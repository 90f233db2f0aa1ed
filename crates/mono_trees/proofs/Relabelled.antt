-- Labels that tell what edges join, after one more edge.
use Rattle.std.proofs.Common.{◌≡◌, ℕ, zero, suc, ◌<◌, ◌&&◌, ◌||◌, ◌==◌, List, [], ◌∷◌, ◌++◌, length, get_or, refl, sym, ap, subst, ◌∙◌, inl, inr, arith, ◌⊎◌, Contains}
use Rattle.std.specs.Prelude.{IsTrue}
use Rattle.std.proofs.lemmas.Bool.{eq-eqb}
use Rattle.std.proofs.lemmas.Bool.Decides.{nat_tests}
use Rattle.std.proofs.lemmas.List.Elements.{Contains-append_cases, Contains-append_left}
use Rattle.mono_graph.specs.declared.edge.Edge.{Edge}
use Rattle.mono_graph.specs.Trees.{joins}
use Rattle.mono_graph.proofs.Joins.{has_joined, joins_by, own_edges, at_contained, all_contained, joins-within, joins-push}
use Rattle.mono_graph.proofs.Membership.{same_truth}
use Rattle.mono_trees.specs.Tells.{Tells, same_label}
use Rattle.mono_trees.specs.Kept.{moved_label}

-- one label became another
same_moved : (p q a b : ℕ) → (moved_label p q a == moved_label p q b) ≡ (((a == b) || ((a == p) && (q == b))) || ((a == q) && (p == b)))
same_moved p q a b = grind (arith, nat_tests)

same_moved_back : (p q a b : ℕ) → (moved_label q p a == moved_label q p b) ≡ (((a == b) || ((a == p) && (q == b))) || ((a == q) && (p == b)))
same_moved_back p q a b = grind (arith, nat_tests)

pub tells_joined : (es : List Edge) (e : Edge) (old new : List ℕ) (small large : ℕ) → Tells es old → length new ≡ length old → e.from < length old → e.to < length old
    → ((u : ℕ) → u < length old → get_or new u 0 ≡ moved_label small large (get_or old u 0))
    → ((small ≡ get_or old e.from 0) × (large ≡ get_or old e.to 0)) ⊎ ((small ≡ get_or old e.to 0) × (large ≡ get_or old e.from 0))
    → Tells (es ++ e ∷ []) new
tells_joined es e old new small large tells same from to is ends = record { exact = λ u v lu lv. at u v (omega arith) (omega arith) }
  where
    moved : (u v : ℕ) → u < length old → v < length old
        → (moved_label small large (get_or old u 0) == moved_label small large (get_or old v 0))
        ≡ (((same_label old u v) || ((same_label old u e.from) && (same_label old e.to v))) || ((same_label old u e.to) && (same_label old e.from v)))
    moved u v lu lv = elim ends [
      | inl x ↦ rw (x.0, x.1) (same_moved (get_or old e.from 0) (get_or old e.to 0) (get_or old u 0) (get_or old v 0))
      | inr x ↦ rw (x.0, x.1) (same_moved_back (get_or old e.from 0) (get_or old e.to 0) (get_or old u 0) (get_or old v 0))
    ]

    at : (u v : ℕ) → u < length old → v < length old → same_label new u v ≡ joins (es ++ e ∷ []) u v
    at u v lu lv =
        let a : same_label new u v ≡ (moved_label small large (get_or old u 0) == moved_label small large (get_or old v 0)) = rw (is u lu, is v lv) refl in
        let b : (((same_label old u v) || ((same_label old u e.from) && (same_label old e.to v))) || ((same_label old u e.to) && (same_label old e.from v))) ≡ joins (e ∷ es) u v =
        rw (tells.exact u v lu lv, tells.exact u e.from lu from, tells.exact e.to v to lv, tells.exact u e.to lu to, tells.exact e.from v from lv) refl in
        a ∙ (moved u v lu lv ∙ (b ∙ sym (joins-push es e u v)))

-- an edge between joined nodes joins no more
pub tells_known : (es : List Edge) (e : Edge) (labels : List ℕ) → Tells es labels → IsTrue (joins es e.from e.to) → Tells (es ++ e ∷ []) labels
tells_known es e labels tells known = record {
  exact = λ u v lu lv. tells.exact u v lu lv ∙ same_truth (joins es u v) (joins (es ++ e ∷ []) u v)
      (joins-within es (es ++ e ∷ []) (λ x h. Contains-append_left es (e ∷ []) x h) u v)
      (joins_by (es ++ e ∷ []) es (all_contained (has_joined es) (es ++ e ∷ []) (λ x h. elim (Contains-append_cases es (e ∷ []) x h) [
        | inl a ↦ at_contained (has_joined es) es x (own_edges es) a
        | inr b ↦ itself x b
      ])) u v);
}
  where
    itself : (x : Edge) → Contains (e ∷ []) x → IsTrue (has_joined es x)
    itself x (zero, lt, at) = subst (λ (y : Edge). IsTrue (has_joined es y)) at known
    itself x (suc k, lt, at) = absurd (omega arith)

pub get_default : (xs : List ℕ) (i d e : ℕ) → i < length xs → get_or xs i d ≡ get_or xs i e
get_default [] i d e lt = absurd (omega arith)
get_default (x ∷ xs) zero d e lt = refl
get_default (x ∷ xs) (suc i) d e lt = get_default xs i d e (omega arith)

-- an edge between two nodes with the labels first and second
pub join_apart : (es : List Edge) (e : Edge) (u v : ℕ) (old items new : List ℕ) (first second small large : ℕ) → items ≡ old → u < length old → v < length old
    → first ≡ get_or items u first → second ≡ get_or items v second
    → ((small ≡ first) × (large ≡ second)) ⊎ ((small ≡ second) × (large ≡ first))
    → length new ≡ length items → ((w : ℕ) → w < length items → get_or new w 0 ≡ moved_label small large (get_or items w 0))
    → e.from ≡ u → e.to ≡ v → Tells es old → Tells (es ++ e ∷ []) new
join_apart es e u v old items new first second small large same lu lv f s ends len is from to tells =
    let tells' : Tells es items = subst (λ (ls : List ℕ). Tells es ls) (sym same) tells in
    let lu' : u < length items = rw same lu in
    let lv' : v < length items = rw same lv in
    let f' : first ≡ get_or items e.from 0 = f ∙ (get_default items u first 0 lu' ∙ ap (λ (k : ℕ). get_or items k 0) (sym from)) in
    let s' : second ≡ get_or items e.to 0 = s ∙ (get_default items v second 0 lv' ∙ ap (λ (k : ℕ). get_or items k 0) (sym to)) in
    tells_joined es e items new small large tells' len (rw from lu') (rw to lv') is
    (elim ends [ inl x ↦ inl (x.0 ∙ f', x.1 ∙ s') | inr x ↦ inr (x.0 ∙ s', x.1 ∙ f') ])

pub join_known : (es : List Edge) (e : Edge) (u v : ℕ) (old items : List ℕ) (first second : ℕ) → items ≡ old → u < length old → v < length old
    → first ≡ get_or items u first → second ≡ get_or items v second → first ≡ second
    → e.from ≡ u → e.to ≡ v → Tells es old → Tells (es ++ e ∷ []) old
join_known es e u v old items first second same lu lv f s eq from to tells =
    let lu' : u < length items = rw same lu in
    let lv' : v < length items = rw same lv in
    let x : get_or items u 0 ≡ get_or items v 0 = get_default items u 0 first lu' ∙ (sym f ∙ (eq ∙ (s ∙ get_default items v second 0 lv'))) in
    let y : get_or old u 0 ≡ get_or old v 0 = subst (λ (ls : List ℕ). get_or ls u 0 ≡ get_or ls v 0) same x in
    tells_known es e old tells (rw (from, to) (sym (tells.exact u v lu lv) ∙ eq-eqb (get_or old u 0) (get_or old v 0) y))

pub tells_none : (labels : List ℕ) → ((u : ℕ) → u < length labels → get_or labels u 0 ≡ u) → Tells [] labels
tells_none labels own = record { exact = λ u v lu lv. rw (own u lu, own v lv) refl }

-- the same where the labels were lent
pub join_lent : (es : List Edge) (e : Edge) (u v : ℕ) (old items lent new : List ℕ) (first second small large : ℕ) → items ≡ old → lent ≡ items → u < length old → v < length old
    → first ≡ get_or items u first → second ≡ get_or items v second
    → ((small ≡ first) × (large ≡ second)) ⊎ ((small ≡ second) × (large ≡ first))
    → length new ≡ length lent → ((w : ℕ) → w < length lent → get_or new w 0 ≡ moved_label small large (get_or lent w 0))
    → e.from ≡ u → e.to ≡ v → Tells es old → Tells (es ++ e ∷ []) new
join_lent es e u v old items lent new first second small large same is-lent lu lv f s ends len is =
    join_apart es e u v old lent new first second small large (is-lent ∙ same) lu lv
    (subst (λ (ls : List ℕ). first ≡ get_or ls u first) (sym is-lent) f) (subst (λ (ls : List ℕ). second ≡ get_or ls v second) (sym is-lent) s) ends len is
