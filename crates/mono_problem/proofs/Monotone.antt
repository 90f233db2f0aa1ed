-- Every predicate is monotonic: what holds in a part holds in each larger part.
use Rattle.std.proofs.Common.{◌≡◌, Bool, true, false, cond, List, ℤ, refl, int_le}
use Rattle.std.specs.Prelude.{IsTrue}
use Rattle.mono_graph.proofs.RisingRanks.{acyclic-smaller}
use Rattle.std.proofs.lemmas.Bool.{and_parts, and_from}
use Rattle.mono_graph.specs.Digraph.{Digraph, IsSubpart}
use Rattle.mono_graph.specs.declared.limit.Limit.TheVariants as limit
use Rattle.mono_graph.specs.Flows.{is_flow, value_of}
use Rattle.mono_graph.proofs.Subparts.{is_path-larger, is_flow-larger, is_tree-larger}
use Rattle.mono_problem.specs.declared.atom.Predicate.{Predicate}
use Rattle.mono_problem.specs.declared.atom.Predicate.TheVariants as kind
use Rattle.mono_problem.specs.Quiet.{under, over, part_to_hold, part_to_fail}
use Rattle.mono_problem.specs.Holds.{Holds, falls}

-- one that rises
pub Holds-larger : (g : Digraph) (P Q : List Bool) → IsSubpart P Q → (q : Predicate) → falls q ≡ false → Holds g P q → Holds g Q q
Holds-larger g P Q s (kind.Reach u v) rises (ks, h) = (ks, is_path-larger g P Q s u v limit.Free ks h)
Holds-larger g P Q s (kind.Steps u v most) rises (ks, h) = (ks, is_path-larger g P Q s u v (limit.Steps most) ks h)
Holds-larger g P Q s (kind.Distance u v most) rises (ks, h) = (ks, is_path-larger g P Q s u v (limit.Weight most) ks h)
Holds-larger g P Q s (kind.Flow a b least) rises (f, h) =
    let p = and_parts (is_flow g P a b f) (int_le least (value_of g a f)) h in
    (f, and_from (is_flow g Q a b f) (int_le least (value_of g a f)) (is_flow-larger g P Q s a b f p.0) p.1)
Holds-larger g P Q s (kind.Tree most) rises (ks, h) = (ks, is_tree-larger g P Q s most ks h)
Holds-larger g P Q s kind.Acyclic rises h = absurd cc

-- one that falls
pub Holds-smaller : (g : Digraph) (P Q : List Bool) → IsSubpart P Q → (q : Predicate) → IsTrue (falls q) → Holds g Q q → Holds g P q
Holds-smaller g P Q s kind.Acyclic falling h = acyclic-smaller g P Q s h
Holds-smaller g P Q s (kind.Reach u v) falling h = absurd cc
Holds-smaller g P Q s (kind.Steps u v most) falling h = absurd cc
Holds-smaller g P Q s (kind.Distance u v most) falling h = absurd cc
Holds-smaller g P Q s (kind.Flow a b least) falling h = absurd cc
Holds-smaller g P Q s (kind.Tree most) falling h = absurd cc

-- ---- between the bounds

-- a part between the bounds
pub record IsBetween (g : Digraph) (t : List ℤ) (P : List Bool) : Type 0 where
  pub above : IsSubpart (under g t) P
  pub below : IsSubpart P (over g t)

-- what holds whatever comes holds in each part between the bounds
pub holds_between : (g : Digraph) (t : List ℤ) (P : List Bool) (q : Predicate) → IsBetween g t P → Holds g (part_to_hold q g t) q → Holds g P q
holds_between g t P q b h = by (falls q) refl h
  where
    by : (f : Bool) → falls q ≡ f → Holds g (cond f (over g t) (under g t)) q → Holds g P q
    by true e h = Holds-smaller g P (over g t) b.below q e h
    by false e h = Holds-larger g (under g t) P b.above q e h

-- what holds in a part between the bounds doesn't fail whatever comes
pub between_holds : (g : Digraph) (t : List ℤ) (P : List Bool) (q : Predicate) → IsBetween g t P → Holds g P q → Holds g (part_to_fail q g t) q
between_holds g t P q b h = by (falls q) refl
  where
    by : (f : Bool) → falls q ≡ f → Holds g (cond f (under g t) (over g t)) q
    by true e = Holds-smaller g (under g t) P b.above q e h
    by false e = Holds-larger g P (over g t) b.below q e h

-- where the bounds meet, both parts are what is between
pub part_met : (g : Digraph) (t : List ℤ) (P : List Bool) (q : Predicate) → under g t ≡ P → over g t ≡ P → (part_to_hold q g t ≡ P) × (part_to_fail q g t ≡ P)
part_met g t P q u o = by (falls q)
  where
    by : (f : Bool) → (cond f (over g t) (under g t) ≡ P) × (cond f (under g t) (over g t) ≡ P)
    by true = (o, u)
    by false = (u, o)
