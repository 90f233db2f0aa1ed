-- What a checker keeps between two tests: room for as many nodes as a graph has, none of them listed or seen.
use Rattle.std.specs.Prelude.{◌≡◌, ℕ, false, length, slice_index_or}
use Rattle.mono_paths.specs.declared.checker.WalkChecker.TheInside.{Inside}

abbrev pub node_count : Inside → ℕ
node_count c = length c.table.listed.items

pub record IsClear (c : Inside) : Type 0 where
  pub values_len : length c.table.values.items ≡ length c.table.listed.items
  pub clear : (u : ℕ) → slice_index_or c.table.listed.items u false ≡ false
  pub seen_len : length c.seen.items ≡ length c.table.listed.items
  pub seen_clear : (u : ℕ) → slice_index_or c.seen.items u false ≡ false
