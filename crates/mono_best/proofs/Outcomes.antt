-- Two outcomes for one predicate: two best bounds are one, and no two of the others come together.
use Rattle.std.proofs.Common.{◌≡◌, ℕ, ◌+◌, Bool, true, false, List, refl, arith, ℤ, pos, negsuc, ◌<ℤ◌, ◌≤ℤ◌, inl, inr}
use Rattle.std.specs.Prelude.{IsTrue, ◌⊎◌, int_lt}
use Rattle.std.proofs.lemmas.Int.{ints}
use Rattle.mono_base.specs.declared.limits.TheConstants.{MAX_BOUND}
use Rattle.mono_base.specs.Literal.{value_in}
use Rattle.mono_graph.proofs.CutsBoundWalks.{lt_from_test}
use Rattle.mono_problem.specs.declared.atom.Predicate.{Predicate}
use Rattle.mono_problem.specs.declared.atom.Predicate.TheVariants as kind
use Rattle.mono_problem.specs.Instance.{Instance}
use Rattle.mono_problem.specs.WellFormed.{IsInstance}
use Rattle.mono_steps.specs.declared.step.Step.{Step}
use Rattle.mono_steps.specs.Trimmed.{IsTrimRefutation}
use Rattle.mono_best.specs.Asking.{asking, predicate_of, HasBoundedAtom, HasRoomToAsk}
use Rattle.mono_best.specs.Bounds.{has_bound, is_flow, weakest, IsBoundOf}
use Rattle.mono_best.specs.Best.{IsBest, IsBeyond}
use Rattle.mono_best.specs.Optimum.{IsBetter, IsOptimum}
use Rattle.mono_best.proofs.Numbers.{never}
use Rattle.mono_best.proofs.Asked.{satisfied_before, asked_holds}
use Rattle.mono_best.proofs.Optimal.{optimal, never_met}

as_most : (m : ℕ) (b : ℤ) → pos 0 ≤ℤ b → b ≤ℤ pos m → (negsuc 0 ≤ℤ b) × (b ≤ℤ pos m)
as_most m b low high = (omega (arith, ints, low), high)

as_least : (m : ℕ) (b : ℤ) → pos 0 ≤ℤ b → b ≤ℤ pos m → (pos 0 ≤ℤ b) × (b ≤ℤ pos (m + 1))
as_least m b low high = (low, omega (arith, ints, high))

itself_least : (m : ℕ) → (pos 0 ≤ℤ pos (m + 1)) × (pos (m + 1) ≤ℤ pos (m + 1))
itself_least m = (omega (arith, ints), omega (arith, ints))

below_next : (m : ℕ) (b : ℤ) → b ≤ℤ pos m → b <ℤ pos (m + 1)
below_next m b high = omega (arith, ints, high)

most_or_least : (q : Predicate) (b : ℤ) → IsTrue (has_bound q) → pos 0 ≤ℤ b → b ≤ℤ pos MAX_BOUND → IsBoundOf q b
most_or_least (kind.Reach u v) b has low high = never has
most_or_least (kind.Steps u v most) b has low high = as_most MAX_BOUND b low high
most_or_least (kind.Distance u v most) b has low high = as_most MAX_BOUND b low high
most_or_least (kind.Flow s t least) b has low high = as_least MAX_BOUND b low high
most_or_least (kind.Tree most) b has low high = as_most MAX_BOUND b low high
most_or_least kind.Acyclic b has low high = never has

pub best_or_never : (p : Instance) (n : ℕ) (b : ℤ) (model : List Bool) (steps later : List Step) → IsInstance p → HasBoundedAtom p n → HasRoomToAsk p
    → IsBest p n b model steps → IsTrimRefutation (asking p n (weakest (predicate_of p n))) later → ⊥
best_or_never p n b model steps later ok atom room h refuted =
    let a = value_in model in
    never_met p n later ok atom room refuted a b (satisfied_before p n b a h.met.satisfies) (most_or_least (predicate_of p n) b atom.bounded h.low h.high) (asked_holds p n b a h.met.satisfies)

-- a flow beyond every bound that can be written
pub beyond_flow : (q : Predicate) → IsTrue (is_flow q) → IsBoundOf q (pos (MAX_BOUND + 1))
beyond_flow (kind.Reach u v) h = never h
beyond_flow (kind.Steps u v most) h = never h
beyond_flow (kind.Distance u v most) h = never h
beyond_flow (kind.Flow s t least) h = itself_least MAX_BOUND
beyond_flow (kind.Tree most) h = never h
beyond_flow kind.Acyclic h = never h

pub never_or_beyond : (p : Instance) (n : ℕ) (model : List Bool) (later : List Step) → IsInstance p → HasBoundedAtom p n → HasRoomToAsk p
    → IsTrimRefutation (asking p n (weakest (predicate_of p n))) later → IsBeyond p n model → ⊥
never_or_beyond p n model later ok atom room refuted h =
    let a = value_in model in
    let b = pos (MAX_BOUND + 1) in
    never_met p n later ok atom room refuted a b (satisfied_before p n b a h.met.satisfies) (beyond_flow (predicate_of p n) h.flow) (asked_holds p n b a h.met.satisfies)

better_flow : (q : Predicate) (b : ℤ) → IsTrue (is_flow q) → b ≤ℤ pos MAX_BOUND → IsBetter q (pos (MAX_BOUND + 1)) b
better_flow (kind.Reach u v) b h high = never h
better_flow (kind.Steps u v most) b h high = never h
better_flow (kind.Distance u v most) b h high = never h
better_flow (kind.Flow s t least) b h high = below_next MAX_BOUND b high
better_flow (kind.Tree most) b h high = never h
better_flow kind.Acyclic b h high = never h

pub best_or_beyond : (p : Instance) (n : ℕ) (b : ℤ) (model other : List Bool) (steps : List Step) → IsInstance p → HasBoundedAtom p n → HasRoomToAsk p
    → IsBest p n b model steps → IsBeyond p n other → ⊥
best_or_beyond p n b model other steps ok atom room h beyond =
    let a = value_in other in
    let c = pos (MAX_BOUND + 1) in
    (optimal p n b model steps ok atom room h).best a c (satisfied_before p n c a beyond.met.satisfies) (better_flow (predicate_of p n) b beyond.flow h.high) (asked_holds p n c a beyond.met.satisfies)

-- of two bounds that differ one is better
other_better : (q : Predicate) (b c : ℤ) → IsTrue (has_bound q) → b <ℤ c → IsBetter q c b ⊎ IsBetter q b c
other_better (kind.Reach u v) b c has lt = never has
other_better (kind.Steps u v most) b c has lt = inr lt
other_better (kind.Distance u v most) b c has lt = inr lt
other_better (kind.Flow s t least) b c has lt = inl lt
other_better (kind.Tree most) b c has lt = inr lt
other_better kind.Acyclic b c has lt = never has

not_apart : (p : Instance) (n : ℕ) (b c : ℤ) → IsTrue (has_bound (predicate_of p n)) → IsOptimum p n b → IsOptimum p n c → b <ℤ c → ⊥
not_apart p n b c has x y lt = elim (other_better (predicate_of p n) b c has lt) [
  | inl better ↦ x.best y.met.0 c y.met.1 better y.met.2
  | inr better ↦ y.best x.met.0 b x.met.1 better x.met.2
]

same_or_apart : (b c : ℤ) (s t : Bool) → int_lt b c ≡ s → int_lt c b ≡ t → (b ≡ c) ⊎ (b <ℤ c) ⊎ (c <ℤ b)
same_or_apart b c true t e f = inr (inl (lt_from_test b c e))
same_or_apart b c false true e f = inr (inr (lt_from_test c b f))
same_or_apart b c false false e f = inl (grind (arith, ints))

one_optimum : (p : Instance) (n : ℕ) (b c : ℤ) → IsTrue (has_bound (predicate_of p n)) → IsOptimum p n b → IsOptimum p n c → b ≡ c
one_optimum p n b c has x y = elim (same_or_apart b c (int_lt b c) (int_lt c b) refl refl) [
  | inl same ↦ same
  | inr apart ↦ elim apart [ inl lt ↦ absurd (not_apart p n b c has x y lt) | inr lt ↦ absurd (not_apart p n c b has y x lt) ]
]

pub one_best : (p : Instance) (n : ℕ) (b c : ℤ) (model other : List Bool) (steps later : List Step) → IsInstance p → HasBoundedAtom p n → HasRoomToAsk p
    → IsBest p n b model steps → IsBest p n c other later → b ≡ c
one_best p n b c model other steps later ok atom room x y = one_optimum p n b c atom.bounded (optimal p n b model steps ok atom room x) (optimal p n c other later ok atom room y)
