use Rattle.std.proofs.Common.{◌≡◌, ◌∙◌, ◌<◌, ℕ, false, get_or, set, length, map, arith, sym, ap, subst}
use Rattle.mono_theory.specs.Owners.{fact_of, facts_of}
use Rattle.mono_search.specs.TheoryLists.{IsShort, OthersAreQuiet}
use Rattle.mono_search.proofs.Sweeps.{same_read, same_write}
use Rattle.mono_search.proofs.QuietOthers.{settled}
use Rattle.mono_search.proofs.KnownOwners.{owner_fits, one_known}
use Rattle.mono_search.proofs.asking.force_any.Goals as goal
use Rattle.mono_search.proofs.asking.force_any.Goals.{After-index_mut-theory, After-force_one}
use Rattle.mono_search.proofs.asking.force_any.Given as given

within : (g : given.Over) (c : After-index_mut-theory g) → c.in-Some.place < length (facts_of g.T.Theory.graph g.T.Theory.atoms g.T.Theory.seen c.args.theories.now.items)
within g c =
    let last = rw c.in-Some.is at c.last.ensures.last in
    let lt = last.within in
    let all = c.loop-place.invariant.others.count in
    omega (arith, lt, all)

-- the fact of the theory at the place
read : (g : given.Over) (c : After-index_mut-theory g) → let fact = fact_of g.T.Theory.graph g.T.Theory.atoms g.T.Theory.seen in fact c.index_mut-theory.result.now ≡ get_or (map fact c.args.theories.now.items) c.in-Some.place (fact c.index_mut-theory.result.now)
read g c = same_read (fact_of g.T.Theory.graph g.T.Theory.atoms g.T.Theory.seen) _ _ c.in-Some.place c.index_mut-theory.result.now c.loop-place.invariant.same c.index_mut-theory.ensures.value

same : (g : given.Over) (c : After-force_one g) → facts_of g.T.Theory.graph g.T.Theory.atoms g.T.Theory.seen (set c.loop-place.theories.items c.in-Some.place c.force_one.new.theory) ≡ facts_of g.T.Theory.graph g.T.Theory.atoms g.T.Theory.seen c.args.theories.now.items
same g c =
    let t = g.T.Theory in
    same_write (fact_of t.graph t.atoms t.seen) _ _ c.in-Some.place c.index_mut-theory.result.now c.force_one.new.theory c.loop-place.invariant.same c.index_mut-theory.ensures.value c.force_one.ensures.same

pub force_one-requires : goal.force_one-requires
force_one-requires g c =
    let at : After-index_mut-theory g = (goal.at.force_one-requires g c).After-index_mut-theory in
    subst IsShort (sym (read g at)) (c.requires.short c.in-Some.place (fact_of g.T.Theory.graph g.T.Theory.atoms g.T.Theory.seen c.index_mut-theory.result.now) (within g at))

pub returns-in_err-forced-clause-same : goal.returns-in_err-forced-clause-same
returns-in_err-forced-clause-same g c = same g (goal.at.returns-in_err-forced-clause-same g c).After-force_one

pub returns-in-Some-2-clause-same : goal.returns-in-Some-2-clause-same
returns-in-Some-2-clause-same g c = same g (goal.at.returns-in-Some-2-clause-same g c).After-force_one

pub index_mut-requires : goal.index_mut-requires
index_mut-requires g c =
    let at : After-index_mut-theory g = (goal.at.index_mut-requires g c).After-index_mut-theory in
    let its = rw c.in-Some-2.is at c.in_ok-forced.ensures.answer in
    let fits = owner_fits (facts_of g.T.Theory.graph g.T.Theory.atoms g.T.Theory.seen c.args.theories.now.items) c.loop-place.owners.items c.in-Some.place c.in-Some-2.forced (fact_of g.T.Theory.graph g.T.Theory.atoms g.T.Theory.seen c.index_mut-theory.result.now)
    c.loop-place.invariant.known (within g at) (read g at) its in
    omega (arith, fits)

pub returns-in-Some-2-clause-known : goal.returns-in-Some-2-clause-known
returns-in-Some-2-clause-known g c =
    let at : After-index_mut-theory g = (goal.at.returns-in-Some-2-clause-known g c).After-index_mut-theory in
    let its = rw c.in-Some-2.is at c.in_ok-forced.ensures.answer in
    one_known (facts_of g.T.Theory.graph g.T.Theory.atoms g.T.Theory.seen c.args.theories.now.items) c.loop-place.owners.items c.in-Some.place c.in-Some-2.forced (fact_of g.T.Theory.graph g.T.Theory.atoms g.T.Theory.seen c.index_mut-theory.result.now)
    c.loop-place.invariant.known (within g at) (read g at) its

pub returns-in-Some-2-clause-answer : goal.returns-in-Some-2-clause-answer
returns-in-Some-2-clause-answer g c =
    let at : After-index_mut-theory g = (goal.at.returns-in-Some-2-clause-answer g c).After-index_mut-theory in
    let its = rw c.in-Some-2.is at c.in_ok-forced.ensures.answer in
    (c.in-Some.place, fact_of g.T.Theory.graph g.T.Theory.atoms g.T.Theory.seen c.index_mut-theory.result.now, within g at, sym (read g at), its)

pub loop-place-preserved : goal.loop-place-preserved
loop-place-preserved g c =
    let after : After-index_mut-theory g = (goal.at.loop-place-preserved g c).After-index_mut-theory in
    let facts = facts_of g.T.Theory.graph g.T.Theory.atoms g.T.Theory.seen c.args.theories.now.items in
    let last = rw c.in-Some.is at c.last.ensures.last in
    let quiet = rw c.in_default-2.is at c.in_ok-forced.ensures.answer in
    record {
      others = subst (OthersAreQuiet facts) (sym (c.remove_last.ensures.off ∙ ap (λ (p : ℕ). set c.loop-place.worklist.listed p false) (sym last.is)))
          (settled facts c.loop-place.worklist.listed c.in-Some.place _ (within g after) (read g after) quiet c.loop-place.invariant.others);
      known = c.loop-place.invariant.known;
      same = same g (goal.at.loop-place-preserved g c).After-force_one;
    }
