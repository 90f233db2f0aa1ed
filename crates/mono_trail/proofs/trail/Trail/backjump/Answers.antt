use Rattle.std.proofs.Common.{arith, ◌≡◌, ◌-◌, ℕ, List, refl, length, take, drop}
use Rattle.std.specs.Prelude.{ℤ}
use Rattle.std.proofs.lemmas.List.{take_all, length-drop}
use Rattle.mono_trail.specs.TrailView.{count_to}
use Rattle.mono_trail.proofs.Keeps.{kept_back}
use Rattle.mono_trail.proofs.Values.{drop_fits}
use Rattle.mono_trail.proofs.trail.Trail.backjump.Goals as goal

-- a slice from a place on
rest_is : (k : ℕ) (t : List ℤ) → take (length t - k) (drop k t) ≡ drop k t
rest_is k t = take_all (length t - k) (drop k t) (omega (arith, length-drop k t))

pub unset-requires : goal.unset-requires
unset-requires c =
    let kept = c.self.invariant.0 in
    rw (c.deref.ensures.value, rest_is) (drop_fits c.self.inside.vars c.self.inside.lits.items c.self.inside.values.items c.count_to-kept.result kept.values_are kept.sound.within)

pub invariant_of-self : goal.invariant_of-self
invariant_of-self c =
    let low = rw (← c.self.view_is) at c.requires in
    let count : c.count_to-kept.result ≡ count_to c.args.level c.self.inside.marks.items = rw (← c.self.view_is) at c.count_to-kept.ensures.count in (
      kept_back _ _ _ _ _ _ _ _ _ _ _ _ _ c.args.level c.self.invariant.0 low
          (rw (c.truncate.ensures.items, c.truncate-2.ensures.items, c.min-self-inside.ensures, count) refl)
          (rw (c.unset.ensures, c.deref.ensures.value, rest_is, count) refl)
          c.truncate-3.ensures.items
          (omega (arith, c.truncate.ensures.capacity)) (omega (arith, c.truncate-2.ensures.capacity)) (omega (arith, c.truncate-3.ensures.capacity)),
      c.self.invariant.1,
    )
