use Rattle.std.proofs.Common.{◌≡◌, ◌∙◌, false, sym, ap, subst, arith}
use Rattle.std.specs.Prelude.{IsSome, Option}
use Rattle.std.proofs.lemmas.Bool.{false≢true}
use Rattle.std.proofs.lemmas.List.{length-map}
use Rattle.mono_theory.specs.Theories.{Facts, owns_of}
use Rattle.mono_theory.specs.Owners.{fact_of, facts_of}
use Rattle.mono_search.proofs.Sweeps.{one_more, map_at}
use Rattle.mono_search.proofs.Owners.{no_owner}
use Rattle.mono_search.proofs.explaining.first_owner.Goals as goal

pub loop-place-preserved : goal.loop-place-preserved
loop-place-preserved g c =
    let fact = fact_of g.T.Theory.graph g.T.Theory.atoms g.T.Theory.seen in
    let items = c.args.theories.now in
    record {
      none = one_more (λ (f : Facts). owns_of f.atoms c.args.atom ≡ false) (facts_of g.T.Theory.graph g.T.Theory.atoms g.T.Theory.seen items) c.loop-place.place (fact c.index-theories-place.result) (omega (arith, c.loop-place-test.true, length-map items fact))
          (ap fact c.index-theories-place.is ∙ map_at fact items c.loop-place.place c.index-theories-place.result) (sym c.owns.ensures ∙ c.if-owns.false) c.loop-place.invariant.none;
    }

pub unreachable-requires : goal.unreachable-requires
unreachable-requires g c =
    let none = no_owner (facts_of g.T.Theory.graph g.T.Theory.atoms g.T.Theory.seen c.args.theories.now) c.args.atom
    (λ k d lt. c.loop-place.invariant.none k d (omega (arith, lt, length-map c.args.theories.now (fact_of g.T.Theory.graph g.T.Theory.atoms g.T.Theory.seen), c.loop-place-test.false))) in
    absurd (false≢true (subst (λ (o : Option Facts). IsSome o) none c.requires))
