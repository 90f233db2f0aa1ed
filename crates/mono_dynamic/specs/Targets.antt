-- Which targets are reached from a source in a part that loses edges and gets the last of them back.
use Rattle.std.specs.Prelude.{◌≡◌, ◌≢◌, ℕ, ◌+◌, ◌<◌, ◌≤◌, ◌&&◌, not, ◌↔◌, Bool, true, false, List, [], length, slice_index_or, Option, None, Some, IfSome, IsTrue, All, nat_le, if◌then◌else◌}
use Rattle.std.specs.Option.{is_some, is_none}
use Rattle.mono_graph.specs.Digraph.{Digraph, present, has, IsSubpart}
use Rattle.mono_graph.specs.Walks.{is_path}
use Rattle.mono_dynamic.specs.declared.cost_source.CostSource.{CostSource}
use Rattle.mono_dynamic.specs.declared.walk_target.WalkTarget.{WalkTarget}
use Rattle.mono_dynamic.specs.Arrivals.{IsTree}
use Rattle.mono_dynamic.specs.Rows.{no_row}
use Rattle.mono_dynamic.specs.Ways.{Ways, first_ways, has_target, ways_of, IsPriced, IsSameSource}

-- The walks of the last search and the targets that were sought. What they lack was out of reach after `since` steps, if
-- that still tells anything, and with step `lost` an edge of the walks went, if one did.
pub record Targets : Type 0 where
  pub ways : Ways
  pub targets : List WalkTarget
  pub since : Option ℕ
  pub lost : Option ℕ

-- it is known that no walk leads to the target within its limit
abbrev pub is_lacking : Targets → WalkTarget → Bool
is_lacking r t = is_some r.since && not (has_target r.ways t)

-- of each target it is known whether it is reached
abbrev pub is_settled : Targets → Bool
is_settled r = is_some r.since && is_none r.lost

-- the step, if it is one of the first `kept`
abbrev pub step_within : Option ℕ → ℕ → Option ℕ
step_within None kept = None
step_within (Some n) kept = if nat_le n kept then Some n else None

-- the step is an earlier one, if there is one
abbrev pub IsBefore : ℕ → Option ℕ → Type 0
IsBefore m lost = IfSome lost (λ k. m < k)

-- Up to n steps, the tree is one after each number of them before its edge went. What it lacks was out of reach after
-- `since` steps.
pub record AreTold (g : Digraph) (parts : ℕ → List Bool) (n : ℕ) (r : Targets) : Type 0 where
  pub tree : (m : ℕ) → m ≤ n → IsBefore m r.lost → IsTree g (parts m) r.ways.tree.source r.ways.tree.arrivals
  pub priced : IsPriced g r.ways
  pub past : IfSome r.lost (λ k. k ≤ n)
  pub early : IfSome r.since (λ s. s ≤ n)
  pub lacking : IfSome r.since (λ s. All (λ t. has_target r.ways t ≡ false
      → (ks : List ℕ) → IsTrue (is_path g (parts s) r.ways.tree.source t.node t.limit ks) → ⊥) r.targets)

-- up to n steps, edges only go
pub record OnlyShrink (parts : ℕ → List Bool) (n : ℕ) : Type 0 where
  pub each : (i j : ℕ) → i ≤ j → j ≤ n → IsSubpart (parts j) (parts i)

-- of the edges of P only some at these places aren't in Q
pub record IsShrunk (P Q : List Bool) (ks : List ℕ) : Type 0 where
  pub each : (k : ℕ) → IsTrue (present P k) → has ks k ≡ false → IsTrue (present Q k)

-- ---- rows from several sources

-- for graphs of how many nodes, and a row for each source
pub record TargetRows : Type 0 where
  pub nodes : ℕ
  pub rows : List Targets

abbrev pub no_targets : Targets
no_targets = record { ways = ways_of no_row None; targets = []; since = None; lost = None }

abbrev pub targets_at : List Targets → ℕ → Targets
targets_at rows i = slice_index_or rows i no_targets

-- before any search
abbrev pub unsearched : ℕ → CostSource → Targets
unsearched n s = record { ways = first_ways n s; targets = []; since = None; lost = None }

-- edges at these places went with the step of this number
pub record IsShrunkRow (g : Digraph) (ks : List ℕ) (number : ℕ) (old new : Targets) : Type 0 where
  pub same : new ≡ record { ways = old.ways; targets = old.targets; since = old.since; lost = new.lost }
  pub told : (parts : ℕ → List Bool) (n : ℕ) → number ≡ n + 1 → IsShrunk (parts n) (parts number) ks → AreTold g parts n old → AreTold g parts number new

-- the edges of the steps after the first `kept` came back
pub record IsUndoneRow (kept : ℕ) (old new : Targets) : Type 0 where
  pub ways : new.ways ≡ old.ways
  pub targets : new.targets ≡ old.targets
  pub lacking : (t : WalkTarget) → is_lacking new t ≡ true → is_lacking old t ≡ true
  pub told : (g : Digraph) (parts : ℕ → List Bool) (n : ℕ) → kept ≤ n → AreTold g parts n old → AreTold g parts kept new

-- the part after so many steps was searched, and memory may have been missing
pub record IsSearchedRow (g : Digraph) (P : List Bool) (number : ℕ) (old new : Targets) : Type 0 where
  pub from : IsSameSource old.ways new.ways
  pub targets : new.targets ≡ old.targets
  pub told : (parts : ℕ → List Bool) → parts number ≡ P → OnlyShrink parts number → AreTold g parts number new

-- of each target it is known whether it is reached. Whether all are
pub record IsSettledBy (whole : Bool) (old new : Targets) : Type 0 where
  pub settled : is_settled new ≡ true
  pub all : IsTrue whole ↔ All (λ t. is_lacking new t ≡ false) old.targets

-- of the rows this one alone has changed
pub record IsOneChanged (Is : Targets → Targets → Type 0) (olds news : List Targets) (i : ℕ) : Type 0 where
  pub len : length news ≡ length olds
  pub here : Is (targets_at olds i) (targets_at news i)
  pub others : (j : ℕ) → j ≢ i → targets_at news j ≡ targets_at olds j
