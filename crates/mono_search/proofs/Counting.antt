-- What is counted of the learned clauses, from call to call.
use Rattle.std.proofs.Common.{◌≡◌, ℕ, ◌+◌, Bool, List, sym, subst}
use Rattle.mono_steps.specs.declared.step.Step.{Step}
use Rattle.mono_steps.specs.Journals.{chain_count}
use Rattle.mono_search.specs.Restarts.{Counted, Counts, CountedAfter, KeepsCount}

-- no clause was learned
pub counted_none : (v w : List Step) (c : Counted) → w ≡ v → KeepsCount (chain_count v) (chain_count w) c c
counted_none v w c same counted = subst (λ (s : List Step). CountedAfter (chain_count s) c) (sym same) counted

-- as many clauses are learned as before
pub counted_as_many : (m n : ℕ) (c : Counted) → n ≡ m → KeepsCount m n c c
counted_as_many m n c same counted = subst (λ (k : ℕ). CountedAfter k c) (sym same) counted

-- one clause was learned
pub counted_one : (m n : ℕ) (old new : Counted) (restarts : Bool) → n ≡ m + 1 → Counts old new restarts → KeepsCount m n old new
counted_one m n old new restarts next counts counted = CountedAfter.one_more m n old new restarts counted next counts
