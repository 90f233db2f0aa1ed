-- What is kept on a side stays right when one more literal is seen.
use Rattle.std.proofs.Common.{◌≡◌, ℕ, ◌<◌, Bool, not, List, [], ◌∷◌, ◌++◌, length, take, get_or, refl, sym, subst, ◌∙◌, inl, inr, arith, ℤ, pos, int_lt}
use Rattle.std.specs.Prelude.{IsTrue, Option, Some, None, IfSome}
use Rattle.std.specs.List.{Contains}
use Rattle.std.proofs.lemmas.Bool.{cases_eq}
use Rattle.std.proofs.lemmas.List.{get_or-map, length-map, take-append-le, length-append}
use Rattle.mono_base.specs.Literal.{is_lit, var_of}
use Rattle.mono_graph.specs.Digraph.{Digraph, edge_at, no_edge, has}
use Rattle.mono_problem.specs.declared.atom.Atom.{Atom}
use Rattle.mono_theory.specs.declared.evidence.Evidence.{Evidence}
use Rattle.mono_theory.specs.declared.stage.Stage.{Stage}
use Rattle.mono_theory.specs.declared.stage.Stage.TheVariants as stage
use Rattle.mono_bounds.specs.Bound.{edge_vars}
use Rattle.mono_bounds.specs.Index.{ArePlacesOf}
use Rattle.mono_theory.specs.Sound.{IsRightIn, atom_at, evidence_at}
use Rattle.mono_theory.specs.Stages.{stage_at}
use Rattle.mono_theory.specs.Supports.{IsKeptBy, IsSettled, IsShown, IsSide, SideView, StageIs, part_of}
use Rattle.mono_theory.specs.Theories.{Facts, but_last, last_seen, seeing}
use Rattle.mono_theory.specs.Watching.{AreInvalidated, IsEdgeAt, NoneStandsOn, RestsAt, WatchesIts, watch_by, watching}
use Rattle.mono_theory.proofs.LastSeen.{seeing_last}
use Rattle.mono_theory.proofs.PartsOfSides.{other_sign, unswitched_at}
use Rattle.mono_theory.proofs.KeptEvidenceDecides.{right_by}
use Rattle.mono_theory.proofs.MoreWatch.{place_of_edge}

-- an atom that is shown still is
shown_seen : {f : Facts} {b thorough : Bool} {o : Option Evidence} {x : Atom} {m : ℕ} (l : ℤ) → IsShown f b thorough o x m → IsShown (seeing f l) b thorough o x m
shown_seen {f = f} {b = b} {o = o} {x = x} {m = m} l h =
    let same : take m f.seen ≡ take m (f.seen ++ l ∷ []) = sym (take-append-le m f.seen (l ∷ []) h.within) in
    record {
      within = omega (arith, h.within, length-append f.seen (l ∷ []));
      settled = subst (λ (u : List ℤ). IsSettled u b x) same h.settled;
      right = λ t. subst (λ (u : List ℤ). IsRightIn (part_of f.graph u b) (not b) o) same (h.right t);
    }

-- the stages that are so with one more literal
side_seen : {f : Facts} {b : Bool} {s : SideView} (l : ℤ) (stages : List Stage) → length stages ≡ length s.stages → ((a : ℕ) → a < length f.atoms → StageIs (seeing f l) b s a (stage_at stages a)) → IsSide f b s
    → IsSide (seeing f l) b (record { possible = s.possible; supports = s.supports; shown = s.shown; watchers = s.watchers; stages = stages; thorough = s.thorough })
side_seen {f = f} {b = b} {s = s} l stages len right h = record {
  sign = h.sign;
  supports = record { len = h.supports.len; each = h.supports.each };
  shown = record { len = h.shown.len; each = h.shown.each };
  watchers_len = h.watchers_len;
  stages_len = len ∙ h.stages_len;
  known = h.known;
  watched = record { each = h.watched.each };
  right = λ a lt. under_stages a (stage_at stages a) (right a lt);
}
  where
    under_stages : (a : ℕ) (x : Stage) → StageIs (seeing f l) b s a x → StageIs (seeing f l) b (record { possible = s.possible; supports = s.supports; shown = s.shown; watchers = s.watchers; stages = stages; thorough = s.thorough }) a x
    under_stages a stage.Waits is = tt
    under_stages a stage.Stands is = is
    under_stages a (stage.Shows m) is = is

-- the last literal is one more behind the others
pub side_last : {b : Bool} {s : SideView} (f : Facts) → 0 < length f.seen → IsSide (seeing (but_last f) (last_seen f)) b s → IsSide f b s
side_last {b = b} {s = s} f some h = subst (λ (e : Facts). IsSide e b s) (seeing_last f some) h

-- ---- a literal that changes no edge of the side

pub side_other_sign : {f : Facts} {b : Bool} {s : SideView} (l : ℤ) → IsTrue (is_lit l) → int_lt (pos 0) l ≡ b → IsSide f b s → IsSide (seeing f l) b s
side_other_sign {f = f} {b = b} {s = s} l p sign h =
    side_seen {f = f} {b = b} {s = s} l s.stages refl (λ a lt. same a (stage_at s.stages a) (h.right a lt)) h
  where
    same : (a : ℕ) (x : Stage) → StageIs f b s a x → StageIs (seeing f l) b s a x
    same a stage.Waits is = tt
    same a stage.Stands is = subst (λ (P : List Bool). IsRightIn P b (evidence_at s.supports a)) (sym (other_sign f.graph f.seen l b p sign)) is
    same a (stage.Shows m) is = shown_seen l is

-- ---- one that changes some

-- the edges of the variable, by the list of variables
pub place_var : (g : Digraph) (k : ℕ) → k < length g.edges → get_or (edge_vars g) k 0 ≡ (edge_at g k).var
place_var g k lt = get_or-map (λ d. d.var) g.edges k no_edge 0 lt

-- an atom that still stands has no edge of the variable in its support
still_right : {f : Facts} {b : Bool} {s : SideView} (l : ℤ) (ks : List ℕ) (stages : List Stage) → ArePlacesOf (edge_vars f.graph) (var_of l) ks → ((k : ℕ) → IsTrue (has ks k) → NoneStandsOn s.supports stages (watching s.watchers k) k)
    → (a : ℕ) → a < length f.atoms → stage_at stages a ≡ stage.Stands → StageIs f b s a stage.Stands → IsSide f b s → StageIs (seeing f l) b s a stage.Stands
still_right {f = f} {b = b} {s = s} l ks stages places none a lt stands is h =
    right_by f.graph (atom_at f.atoms a).predicate b (part_of f.graph f.seen b) (part_of f.graph (f.seen ++ l ∷ []) b) (evidence_at s.supports a) (h.supports.each a lt) is (λ k below mine on. elim (cases_eq (edge_at f.graph k).var (var_of l)) [
      | inl e ↦ absurd (stood k (none k (places.all k (omega (arith, below, length-map f.graph.edges (λ d. d.var))) (place_var f.graph k below ∙ e))) (evidence_at s.supports a) refl (h.watched.each a lt) mine is)
      | inr ne ↦ unswitched_at f.graph f.seen l k b below ne ∙ on
    ])
  where
    stood : (k : ℕ) → NoneStandsOn s.supports stages (watching s.watchers k) k → (o : Option Evidence) → evidence_at s.supports a ≡ o → WatchesIts s.watchers a o → IfSome o (λ e. IsTrue (has e.edges k)) → IsRightIn (part_of f.graph f.seen b) b o → ⊥
    stood k n None same w m r = absurd r
    stood k n (Some e) same w m r =
        let p = place_of_edge e.edges k m in
        let at : IsEdgeAt e.edges p.0 k = p.1 in
        n.each (watch_by a p.0) (subst (λ (j : ℕ). Contains (watching s.watchers j) (watch_by a p.0)) at.is (w.each p.0 at.held)) (subst (λ (x : Option Evidence). RestsAt x p.0 k) (sym same) at) stands

pub side_invalidated : {f : Facts} {b : Bool} {s : SideView} (l : ℤ) (ks : List ℕ) (stages : List Stage) → ArePlacesOf (edge_vars f.graph) (var_of l) ks → AreInvalidated s.supports ks s.stages stages
    → ((k : ℕ) → IsTrue (has ks k) → NoneStandsOn s.supports stages (watching s.watchers k) k) → IsSide f b s
    → IsSide (seeing f l) b (record { possible = s.possible; supports = s.supports; shown = s.shown; watchers = s.watchers; stages = stages; thorough = s.thorough })
side_invalidated {f = f} {b = b} {s = s} l ks stages places fewer none h = side_seen {f = f} {b = b} {s = s} l stages fewer.len (λ a lt. elim (fewer.each a) [
  | inl same ↦ kept a lt (stage_at stages a) refl (subst (StageIs f b s a) (sym same) (h.right a lt))
  | inr lost ↦ subst (StageIs (seeing f l) b s a) (sym lost.waits) tt
]) h
  where
    kept : (a : ℕ) → a < length f.atoms → (x : Stage) → stage_at stages a ≡ x → StageIs f b s a x → StageIs (seeing f l) b s a x
    kept a lt stage.Waits e is = tt
    kept a lt stage.Stands e is = still_right {f = f} {b = b} {s = s} l ks stages places none a lt e is h
    kept a lt (stage.Shows m) e is = shown_seen l is

-- ---- what is kept

pub kept_same : (g : Digraph) (b : Bool) (l : ℤ) (s : SideView) → IsKeptBy g b l s s
kept_same g b l s = record { same = refl; len = refl; each = λ a. inl refl }

pub kept_invalidated : (g : Digraph) (b : Bool) (l : ℤ) (s : SideView) (ks : List ℕ) (stages : List Stage) → int_lt (pos 0) l ≡ not b → ArePlacesOf (edge_vars g) (var_of l) ks → AreInvalidated s.supports ks s.stages stages
    → IsKeptBy g b l s (record { possible = s.possible; supports = s.supports; shown = s.shown; watchers = s.watchers; stages = stages; thorough = s.thorough })
kept_invalidated g b l s ks stages changes places fewer = record {
  same = refl;
  len = fewer.len;
  each = λ a. elim (fewer.each a) [
    | inl same ↦ inl same
    | inr lost ↦ inr (record {
      stood = lost.stood;
      waits = lost.waits;
      changes = changes;
      rests = (let at = places.each lost.edge lost.among in let held : lost.edge < length g.edges = omega (arith, at.held, length-map g.edges (λ d. d.var)) in
          record { edge = lost.edge; held = held; var = sym (place_var g lost.edge held) ∙ at.is; rests = lost.rests });
    })
  ];
}
