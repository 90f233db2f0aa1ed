use Rattle.std.proofs.Common.{◌≡◌, ◌<◌, ◌↔◌, ℕ, pos, false, length}
use Rattle.std.specs.Prelude.{IsTrue, slice_index_or}
use Rattle.mono_paths.specs.Asked.{limit_by, target_at, HasPath}
use Rattle.mono_paths.specs.Searches.{IsLabelSearch, source_of}
use Rattle.mono_paths.proofs.asked.which_are_reached.Given as goal

abbrev pub invariant-loop-target : goal.invariant-loop-target
invariant-loop-target l = record {
  len : length l.search.labels.each ≡ length l.fn.search.labels.each;
  cap : l.search.labels.cap ≡ l.initial.search.labels.cap;
  source : source_of l.search ≡ l.from;
  search : IsLabelSearch l.graph l.part (limit_by l.measure (pos 0)) l.search;
  count : length l.answers.items ≡ l.target-index;
  each : (i : ℕ) → i < l.target-index → IsTrue (slice_index_or l.answers.items i false) ↔ HasPath l.graph l.part l.from (target_at l.targets i).node (limit_by l.measure (target_at l.targets i).most);
}
