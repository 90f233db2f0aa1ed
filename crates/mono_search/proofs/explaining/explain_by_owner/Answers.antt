use Rattle.std.proofs.Common.{◌≡◌, ◌∙◌, Some, length, take, refl, sym, ap, subst, arith}
use Rattle.std.specs.Prelude.{Option, IfOk, MatchOption}
use Rattle.std.proofs.lemmas.List.{length-map}
use Rattle.mono_theory.specs.Theories.{Facts, IsLemmaOf}
use Rattle.mono_theory.specs.Owners.{fact_of, facts_of}
use Rattle.mono_search.specs.TheoryLists.{owner_of}
use Rattle.mono_search.proofs.Sweeps.{map_at, same_write}
use Rattle.mono_search.proofs.KnownOwners.{owner_is, has_owner, has_entry}
use Rattle.mono_search.proofs.explaining.explain_by_owner.Goals as goal
use Rattle.mono_search.proofs.explaining.explain_by_owner.Goals.{After-index_mut-theory}
use Rattle.mono_search.proofs.explaining.explain_by_owner.Given as given

pub place_of_owner-place-requires-clause-owned : goal.place_of_owner-place-requires-clause-owned
place_of_owner-place-requires-clause-owned g c =
    let t = g.T.Theory in
    rw c.as_slice.ensures.value (has_owner (facts_of t.graph t.atoms t.seen c.args.theories.now.items) c.args.atom c.args.lit c.args.kept c.requires.can)

pub place_of_owner-place-requires-clause-within : goal.place_of_owner-place-requires-clause-within
place_of_owner-place-requires-clause-within g c =
    let t = g.T.Theory in
    let facts = facts_of t.graph t.atoms t.seen c.args.theories.now.items in
    has_entry facts c.args.atom (length c.args.owners.now) c.requires.known.fits (has_owner facts c.args.atom c.args.lit c.args.kept c.requires.can)

pub index_mut-theory-requires : goal.index_mut-theory-requires
index_mut-theory-requires g c =
    let t = g.T.Theory in
    let owned = rw c.as_slice.ensures.value at c.place_of_owner-place.ensures in
    let lt = owned.within in
    omega (arith, lt, length-map c.args.theories.now.items (fact_of t.graph t.atoms t.seen))

-- the theory at the place is the owner
owner : (g : given.Over) (c : After-index_mut-theory g) → owner_of (facts_of g.T.Theory.graph g.T.Theory.atoms g.T.Theory.seen c.args.theories.now.items) c.args.atom ≡ Some (fact_of g.T.Theory.graph g.T.Theory.atoms g.T.Theory.seen c.index_mut-theory.result.now)
owner g c =
    let fact = fact_of g.T.Theory.graph g.T.Theory.atoms g.T.Theory.seen in
    let items = c.args.theories.now.items in
    let theory = c.index_mut-theory.result.now in
    let owned = rw c.as_slice.ensures.value at c.place_of_owner-place.ensures in
    owner_is (facts_of g.T.Theory.graph g.T.Theory.atoms g.T.Theory.seen items) c.args.atom c.place_of_owner-place.result (fact theory) c.requires.once owned
    ∙ ap (λ (f : Facts). Some f) (sym (ap fact c.index_mut-theory.ensures.value ∙ map_at fact items c.place_of_owner-place.result theory))

pub explain-requires-clause-within : goal.explain-requires-clause-within
explain-requires-clause-within g c =
    let can = rw (owner g (goal.at.explain-requires-clause-within g c).After-index_mut-theory) at c.requires.can in can.within

pub explain-requires-clause-forces : goal.explain-requires-clause-forces
explain-requires-clause-forces g c =
    let can = rw (owner g (goal.at.explain-requires-clause-forces g c).After-index_mut-theory) at c.requires.can in can.forces

pub returns-clause-same : goal.returns-clause-same
returns-clause-same g c =
    same_write (fact_of g.T.Theory.graph g.T.Theory.atoms g.T.Theory.seen) c.args.theories.now.items c.args.theories.now.items c.place_of_owner-place.result c.index_mut-theory.result.now c.explain.new.self refl c.index_mut-theory.ensures.value
    (rw (c.explain.ensures.graph, c.explain.ensures.atoms, c.explain.ensures.seen) refl)

pub returns-clause-lemma : goal.returns-clause-lemma
returns-clause-lemma g c =
    subst (λ (o : Option Facts). IfOk c.explain.result (λ m. MatchOption o ⊥ (λ (f : Facts). IsLemmaOf f.graph f.atoms (take c.args.kept f.seen) c.args.atom c.args.lit m)))
    (sym (owner g (goal.at.returns-clause-lemma g c).After-index_mut-theory)) c.explain.ensures.lemma
