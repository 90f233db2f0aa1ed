use Rattle.std.proofs.Common.{◌≡◌, ℕ, ◌<◌, get_or, false}
use Rattle.mono_theory.specs.Theories.{Facts, owns_of}
use Rattle.mono_theory.specs.Owners.{facts_of}
use Rattle.mono_search.proofs.explaining.first_owner.Given as goal

abbrev pub invariant-loop-place : goal.invariant-loop-place
invariant-loop-place g l =
    let t = g.T.Theory in
    record { none : (k : ℕ) (d : Facts) → k < l.place → owns_of (get_or (facts_of t.graph t.atoms t.seen l.theories) k d).atoms l.atom ≡ false }
