use Rattle.std.proofs.Common.{◌≡◌, ◌+◌, length, sum}
use Rattle.mono_paths.specs.Queues.{waiting_count}
use Rattle.mono_paths.specs.Searches.{IsLabelSearch, source_of}
use Rattle.mono_paths.proofs.search.LabelSearch.goes_to.Given as goal

abbrev pub invariant-loop-limit : goal.invariant-loop-limit
invariant-loop-limit l = record {
  len : length l.self.labels.each ≡ length l.fn.self.labels.each;
  cap : l.self.labels.cap ≡ l.fn.self.labels.cap;
  source : source_of l.self ≡ source_of l.fn.self;
  search : IsLabelSearch l.graph l.part l.limit l.self;
}

abbrev pub decreases-loop-limit : goal.decreases-loop-limit
decreases-loop-limit l = sum l.self.labels.each + waiting_count l.self.waiting (length l.self.visits.items)
