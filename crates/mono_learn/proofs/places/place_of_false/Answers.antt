use Rattle.std.proofs.Common.{◌≡◌, sym, ◌∙◌, ap, subst, length, Some}
use Rattle.std.proofs.lemmas.Option.{same_Some}
use Rattle.mono_trail.specs.Places.{place_in}
use Rattle.mono_learn.specs.Resolvents.{IsFalseAt}
use Rattle.mono_learn.proofs.PlacesOfLits.{is_var_false, place_of_false}
use Rattle.mono_learn.proofs.places.place_of_false.Goals as goal
use Rattle.mono_learn.proofs.places.place_of_false.Goals.{After-place_of}

found : (c : After-place_of) → c.place_of.result ≡ Some c.requires.is_false.place
found c = c.place_of.ensures ∙ ap (place_in c.args.trail.now.lits) c.var.ensures.value ∙ place_of_false c.args.trail.now.lits (length c.args.trail.now.lits) c.args.lit c.requires.sound.partial c.requires.is_false

pub place_of-requires : goal.place_of-requires
place_of-requires c = rw c.var.ensures.value (is_var_false c.args.trail.now (length c.args.trail.now.lits) c.args.lit c.requires.sound c.requires.is_false)

pub unreachable-requires : goal.unreachable-requires
unreachable-requires c = c.in_default.not-Some c.requires.is_false.place (found (goal.at.unreachable-requires c).After-place_of)

pub returns : goal.returns
returns c =
    let same = same_Some c.in-Some.place c.requires.is_false.place (sym c.in-Some.is ∙ found (goal.at.returns c).After-place_of) in
    subst (λ k. IsFalseAt c.args.trail.now.lits k c.args.lit) (sym same) (record { within = c.requires.is_false.within; there = c.requires.is_false.there })
