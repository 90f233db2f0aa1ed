-- What watches each edge: an atom, and the place of the edge among those on which its support rests.
use Rattle.std.specs.Prelude.{◌≡◌, ◌≢◌, ℕ, ◌<◌, ◌⊎◌, List, [], Option, IfSome, MatchOption, length, slice_index_or, IsTrue, All}
use Rattle.std.specs.List.{Contains}
use Rattle.mono_graph.specs.Digraph.{has}
use Rattle.mono_theory.specs.declared.evidence.Evidence.{Evidence}
use Rattle.mono_theory.specs.declared.stage.Stage.{Stage}
use Rattle.mono_theory.specs.declared.stage.Stage.TheVariants as stage
use Rattle.mono_theory.specs.declared.watch.Watch.{Watch}
use Rattle.mono_theory.specs.Sound.{evidence_at, RestsOn}
use Rattle.mono_theory.specs.Stages.{stage_at}

-- what watches the edge
abbrev pub watching : List (List Watch) → ℕ → List Watch
watching watchers k = slice_index_or watchers k []

-- the atom, and the place of an edge in its support
abbrev pub watch_by : ℕ → ℕ → Watch
watch_by a i = record { atom = a; place = i }

-- each atom that watches an edge is below the number
abbrev pub AreBelow : ℕ → List (List Watch) → Type 0
AreBelow n watchers = (k : ℕ) → All (λ w. w.atom < n) (watching watchers k)

-- the atom watches each of the edges, by its place among them
pub record AreWatched (watchers : List (List Watch)) (a : ℕ) (ks : List ℕ) : Type 0 where
  pub each : (i : ℕ) → i < length ks → Contains (watching watchers (slice_index_or ks i 0)) (watch_by a i)

-- what watched an edge still does
pub record IsGrown (watchers more : List (List Watch)) : Type 0 where
  pub len : length more ≡ length watchers
  pub each : (k : ℕ) (w : Watch) → Contains (watching watchers k) w → Contains (watching more k) w

-- the atom watches the edges of its support
abbrev pub WatchesIts : List (List Watch) → ℕ → Option Evidence → Type 0
WatchesIts watchers a o = IfSome o (λ e. AreWatched watchers a e.edges)

-- each of the first n atoms watches the edges of its support
pub record AllWatch (watchers : List (List Watch)) (supports : List (Option Evidence)) (n : ℕ) : Type 0 where
  pub each : (a : ℕ) → a < n → WatchesIts watchers a (evidence_at supports a)

-- the place is among those of a list, and the edge stands there
pub record IsEdgeAt (ks : List ℕ) (i k : ℕ) : Type 0 where
  pub held : i < length ks
  pub is : slice_index_or ks i 0 ≡ k

-- there is evidence, and the edge stands at this place among those on which it rests
abbrev pub RestsAt : Option Evidence → ℕ → ℕ → Type 0
RestsAt o i k = MatchOption o ⊥ (λ e. IsEdgeAt e.edges i k)

-- the atom stood, and waits now; its support rests on one of the edges
pub record IsInvalidated (supports : List (Option Evidence)) (ks : List ℕ) (before after : List Stage) (a : ℕ) : Type 0 where
  pub stood : stage_at before a ≡ stage.Stands
  pub waits : stage_at after a ≡ stage.Waits
  pub edge : ℕ
  pub among : IsTrue (has ks edge)
  pub rests : RestsOn (evidence_at supports a) edge

-- some atoms that stood wait now, each with a support that rests on one of the edges; all others are as before
pub record AreInvalidated (supports : List (Option Evidence)) (ks : List ℕ) (before after : List Stage) : Type 0 where
  pub len : length after ≡ length before
  pub each : (a : ℕ) → (stage_at after a ≡ stage_at before a) ⊎ IsInvalidated supports ks before after a

-- no atom stands on the edge at the place by which it watches it
pub record NoneStandsOn (supports : List (Option Evidence)) (stages : List Stage) (ws : List Watch) (k : ℕ) : Type 0 where
  pub each : (w : Watch) → Contains ws w → RestsAt (evidence_at supports w.atom) w.place k → stage_at stages w.atom ≢ stage.Stands
