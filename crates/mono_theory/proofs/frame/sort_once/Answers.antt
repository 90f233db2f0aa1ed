use Rattle.std.proofs.lemmas.List.Filters.{dedup_is}
use Rattle.std.proofs.lemmas.Map.Keys.{IsStrictlyIncreasing-dedup}
use Rattle.mono_theory.proofs.SortedOnce.{kept_once}
use Rattle.mono_theory.proofs.frame.sort_once.Goals as goal

pub returns : goal.returns
returns c =
    let is = dedup_is _ _ _ c.dedup.ensures.filtered in
    record {
      rising = rw is (IsStrictlyIncreasing-dedup _ c.sort_unstable.ensures.sorted);
      same = λ v. kept_once _ _ _ v c.sort_unstable.ensures.permutation is;
    }
