use Rattle.std.proofs.Common.{◌≡◌, ◌≤◌, ◌+◌, ◌++◌, ℕ, List, length}
use Rattle.mono_check.specs.Checking.{later_by}
use Rattle.mono_check.specs.Judges.{IsSoundJudge, judging, size_of}
use Rattle.mono_check.proofs.judge.Judge.feed.Given as goal

abbrev pub invariant-lines : goal.invariant-lines
invariant-lines l =
    record {
      kept : IsSoundJudge l.problem l.self;
      size : size_of l.self + length l.rest ≤ size_of l.initial.self + length l.piece;
      later : (rest : List ℕ) → later_by l.problem (judging l.self) (l.rest ++ rest) ≡ later_by l.problem (judging l.initial.self) (l.piece ++ rest);
    }

abbrev pub decreases-lines : goal.decreases-lines
decreases-lines l = length l.rest
