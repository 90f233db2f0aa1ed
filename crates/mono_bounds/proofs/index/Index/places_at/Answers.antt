use Rattle.std.proofs.Common.{◌≡◌, List, ℕ, ap, arith, ◌∙◌}
use Rattle.mono_bounds.specs.Index.{within}
use Rattle.mono_bounds.proofs.Switches.{entries_len, span_held}
use Rattle.mono_bounds.proofs.index.Index.places_at.Goals as goal

pub items_between-requires : goal.items_between-requires
items_between-requires c = rw c.as_slice.ensures.value (rw (← c.self.view_is) at c.requires)

places_are : (c : goal.After-items_between) → c.items_between.result.now ≡ within c.self.inside.places.items c.args.span
places_are c = c.items_between.ensures ∙ ap (λ (ks : List ℕ). within ks c.args.span) c.as_slice.ensures.value

pub returns-clause-places : goal.returns-clause-places
returns-clause-places c = rw (← c.self.view_is) (places_are c)

pub returns-clause-held : goal.returns-clause-held
returns-clause-held c =
    let fits = rw (← c.self.view_is) at c.requires in
    rw (places_are c, ← c.self.view_is)
    (span_held c.self.inside.keys.items c.self.inside.entries c.self.inside.places.items c.args.span.start c.args.span.end c.self.invariant (omega (arith, fits, entries_len c.self.invariant)))
