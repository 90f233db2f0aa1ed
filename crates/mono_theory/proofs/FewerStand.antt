-- Fewer atoms stand, edge after edge.
use Rattle.std.proofs.Common.{◌≡◌, ◌≢◌, ℕ, ◌+◌, ◌<◌, ◌⊎◌, List, [], ◌∷◌, ◌++◌, length, take, get_or, set, refl, sym, ap, subst, ◌∙◌, inl, inr}
use Rattle.std.specs.Prelude.{IsTrue, Option}
use Rattle.std.specs.List.{Contains}
use Rattle.std.proofs.lemmas.Bool.{cases_eq}
use Rattle.std.proofs.lemmas.List.{get_or-set_same, get_or-set_other, length-set, take_more}
use Rattle.std.proofs.lemmas.List.Elements.{Contains-push_cases}
use Rattle.mono_graph.specs.Digraph.{has}
use Rattle.mono_graph.proofs.Membership.{has_append_cases, has_cons}
use Rattle.mono_theory.specs.declared.evidence.Evidence.{Evidence}
use Rattle.mono_theory.specs.declared.stage.Stage.{Stage}
use Rattle.mono_theory.specs.declared.stage.Stage.TheVariants as stage
use Rattle.mono_theory.specs.declared.watch.Watch.{Watch}
use Rattle.mono_theory.specs.Sound.{RestsOn, evidence_at}
use Rattle.mono_theory.specs.Stages.{stage_at, waiting}
use Rattle.mono_theory.specs.Watching.{AreInvalidated, IsInvalidated, NoneStandsOn, RestsAt, watching}

pub none_invalidated : (xs : List (Option Evidence)) (ks : List ℕ) (stages : List Stage) → AreInvalidated xs ks stages stages
none_invalidated xs ks stages = record { len = refl; each = λ a. inl refl }

waits_not_stands : (s : Stage) → s ≡ stage.Waits → s ≢ stage.Stands
waits_not_stands s w e = let bad : stage.Waits ≡ stage.Stands = sym w ∙ e in cc

pub invalidated_more : {xs : List (Option Evidence)} {ks : List ℕ} {before mid after : List Stage} → AreInvalidated xs ks before mid → AreInvalidated xs ks mid after → AreInvalidated xs ks before after
invalidated_more {xs} {ks} {before} {mid} {after} h k = record {
  len = k.len ∙ h.len;
  each = λ a. by a (h.each a) (k.each a);
}
  where
    by : (a : ℕ) → (stage_at mid a ≡ stage_at before a) ⊎ IsInvalidated xs ks before mid a → (stage_at after a ≡ stage_at mid a) ⊎ IsInvalidated xs ks mid after a → (stage_at after a ≡ stage_at before a) ⊎ IsInvalidated xs ks before after a
    by a (inl e) (inl s) = inl (s ∙ e)
    by a (inl e) (inr lost) = inr (record { stood = sym e ∙ lost.stood; waits = lost.waits; edge = lost.edge; among = lost.among; rests = lost.rests })
    by a (inr lost) (inl s) = inr (record { stood = lost.stood; waits = s ∙ lost.waits; edge = lost.edge; among = lost.among; rests = lost.rests })
    by a (inr lost) (inr again) = absurd (waits_not_stands (stage_at mid a) lost.waits again.stood)

-- one atom waits, if it stands
pub invalidated_one : (xs : List (Option Evidence)) (ks : List ℕ) (stages : List Stage) (a k : ℕ) → a < length stages → IsTrue (has ks k) → RestsOn (evidence_at xs a) k → AreInvalidated xs ks stages (set stages a (waiting (stage_at stages a)))
invalidated_one xs ks stages a k lt among rests = record {
  len = length-set stages a (waiting (stage_at stages a));
  each = λ x. elim (cases_eq x a) [
    | inl e ↦ subst (λ (y : ℕ). (stage_at (set stages a (waiting (stage_at stages a))) y ≡ stage_at stages y) ⊎ IsInvalidated xs ks stages (set stages a (waiting (stage_at stages a))) y) (sym e) (by (stage_at stages a) refl)
    | inr ne ↦ inl (get_or-set_other stages a x (waiting (stage_at stages a)) stage.Waits ne)
  ];
}
  where
    here : stage_at (set stages a (waiting (stage_at stages a))) a ≡ waiting (stage_at stages a)
    here = get_or-set_same stages a (waiting (stage_at stages a)) stage.Waits lt

    by : (s : Stage) → stage_at stages a ≡ s → (stage_at (set stages a (waiting (stage_at stages a))) a ≡ stage_at stages a) ⊎ IsInvalidated xs ks stages (set stages a (waiting (stage_at stages a))) a
    by stage.Waits e = inl (here ∙ ap waiting e ∙ sym e)
    by stage.Stands e = inr (record { stood = e; waits = here ∙ ap waiting e; edge = k; among = among; rests = rests })
    by (stage.Shows m) e = inl (here ∙ ap waiting e ∙ sym e)

never_stands : (s : Stage) → waiting s ≢ stage.Stands
never_stands stage.Waits e = cc
never_stands stage.Stands e = cc
never_stands (stage.Shows m) e = cc

pub gone_one : (stages : List Stage) (a : ℕ) → a < length stages → stage_at (set stages a (waiting (stage_at stages a))) a ≢ stage.Stands
gone_one stages a lt e = never_stands (stage_at stages a) (sym (get_or-set_same stages a (waiting (stage_at stages a)) stage.Waits lt) ∙ e)

-- where it doesn't stand it still doesn't
pub still_gone : {xs : List (Option Evidence)} {ks : List ℕ} {before after : List Stage} → AreInvalidated xs ks before after → (a : ℕ) → stage_at before a ≢ stage.Stands → stage_at after a ≢ stage.Stands
still_gone {xs} {ks} {before} {after} h a gone e = elim (h.each a) [
  | inl same ↦ gone (sym same ∙ e)
  | inr lost ↦ waits_not_stands (stage_at after a) lost.waits e
]

pub still_none : {xs : List (Option Evidence)} {ks : List ℕ} {before after : List Stage} {ws : List Watch} {k : ℕ} → AreInvalidated xs ks before after → NoneStandsOn xs before ws k → NoneStandsOn xs after ws k
still_none h n = record { each = λ w t r. still_gone h w.atom (n.each w t r) }

-- one more atom doesn't stand on the edge
pub none_more : {xs : List (Option Evidence)} {ks : List ℕ} {before after : List Stage} {k : ℕ} (ws : List Watch) (i : ℕ) (d : Watch) → i < length ws → AreInvalidated xs ks before after
    → (RestsAt (evidence_at xs (get_or ws i d).atom) (get_or ws i d).place k → stage_at after (get_or ws i d).atom ≢ stage.Stands) → NoneStandsOn xs before (take i ws) k → NoneStandsOn xs after (take (i + 1) ws) k
none_more {xs} {ks} {before} {after} {k} ws i d lt step this n =
    let more : take (i + 1) ws ≡ take i ws ++ get_or ws i d ∷ [] = take_more ws i d lt in
    record {
      each = λ w t r. elim (Contains-push_cases (take i ws) (get_or ws i d) w (subst (λ (us : List Watch). Contains us w) more t)) [
        | inl early ↦ still_gone step w.atom (n.each w early r)
        | inr e ↦ subst (λ (u : Watch). RestsAt (evidence_at xs u.atom) u.place k → stage_at after u.atom ≢ stage.Stands) e this r
      ];
    }

-- one more edge on which no atom that watches it stands
pub edges_more : {xs : List (Option Evidence)} {ks : List ℕ} {before after : List Stage} (ws : List (List Watch)) (edges : List ℕ) (i : ℕ) → i < length edges → AreInvalidated xs ks before after
    → NoneStandsOn xs after (watching ws (get_or edges i 0)) (get_or edges i 0) → ((k : ℕ) → IsTrue (has (take i edges) k) → NoneStandsOn xs before (watching ws k) k)
    → (k : ℕ) → IsTrue (has (take (i + 1) edges) k) → NoneStandsOn xs after (watching ws k) k
edges_more {xs} {ks} {before} {after} ws edges i lt step this n k t =
    let more : take (i + 1) edges ≡ take i edges ++ get_or edges i 0 ∷ [] = take_more edges i 0 lt in
    elim (has_append_cases (take i edges) (get_or edges i 0 ∷ []) k (subst (λ (js : List ℕ). IsTrue (has js k)) more t)) [
      | inl early ↦ still_none step (n k early)
      | inr last ↦ elim (has_cons (get_or edges i 0) k [] last) [
        | inl e ↦ subst (λ (j : ℕ). NoneStandsOn xs after (watching ws j) j) e this
        | inr none ↦ absurd cc
      ]
    ]
