-- What a checker keeps between two tests: room for as many nodes as a graph has, none of them marked.
use Rattle.std.specs.Prelude.{◌≡◌, ℕ, false, length, slice_index_or}
use Rattle.mono_trees.specs.declared.checker.TreeChecker.TheInside.{Inside}

abbrev pub node_count : Inside → ℕ
node_count c = length c.inside.items

pub record IsClear (c : Inside) : Type 0 where
  pub seen_len : length c.seen.items ≡ length c.inside.items
  pub components_len : length c.components ≡ length c.inside.items
  pub inside_clear : (u : ℕ) → slice_index_or c.inside.items u false ≡ false
  pub seen_clear : (u : ℕ) → slice_index_or c.seen.items u false ≡ false
