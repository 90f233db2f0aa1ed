use Rattle.std.proofs.Common.{◌≡◌, ◌∙◌, ap, refl, Some, ℕ, Bool, true, false, leb}
use Rattle.std.specs.Bool.{OnTrue}
use Rattle.std.specs.Option.{option_map}
use Rattle.std.proofs.lemmas.Bool.{leb-true}
use Rattle.mono_base.specs.Literal.{var_of}
use Rattle.mono_clauses.proofs.LateWatches.{fell_at}
use Rattle.mono_clauses.specs.Visits.{FellAt}
use Rattle.mono_trail.specs.Places.{place_in, level_at}
use Rattle.mono_clauses.proofs.due.fell.Goals as goal

pub returns-in-Some : goal.returns-in-Some
returns-in-Some c = by_test (leb c.args.level c.in-Some.own) refl
  where
    own : Some c.in-Some.own ≡ option_map (level_at c.args.trail.now.marks) (place_in c.args.trail.now.lits (var_of c.args.lit))
    own = c.in-Some.ensures ∙ ap (λ (v : ℕ). option_map (level_at c.args.trail.now.marks) (place_in c.args.trail.now.lits v)) c.var.ensures.value

    by_test : (b : Bool) → leb c.args.level c.in-Some.own ≡ b → OnTrue b (FellAt c.args.trail.now c.args.level c.args.lit)
    by_test true e = fell_at c.args.trail.now c.in-Some.own c.args.level c.args.lit c.known.ensures.sound own (leb-true c.args.level c.in-Some.own e)
    by_test false e = tt
