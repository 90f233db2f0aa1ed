use Rattle.std.proofs.Common.{◌≡◌, ◌∙◌, ◌<◌, ◌+◌, ℕ, sym, ap, subst, arith, length, take, get_or, All, List, []}
use Rattle.std.proofs.lemmas.List.{length-take, take_all}
use Rattle.mono_base.specs.Literal.{IsLitWithin}
use Rattle.mono_clauses.specs.Store.{StoreView, Held}
use Rattle.mono_trail.specs.TrailView.{TrailView}
use Rattle.mono_search.specs.Stored.{inputs_from}
use Rattle.mono_search.proofs.Journals.{inputs_below, inputs-more}
use Rattle.mono_search.proofs.Following.{new_follows}
use Rattle.mono_search.proofs.inputs.input_store.Goals as goal

pub add-requires-clause-within : goal.add-requires-clause-within
add-requires-clause-within c = subst (λ (n : ℕ). All (IsLitWithin n) c.clause.result.now) (sym c.loop-place.invariant.vars) c.clause.ensures.within

pub add-requires-clause-rising : goal.add-requires-clause-rising
add-requires-clause-rising c =
    let cs = take c.loop-place.place c.args.problem.now.clauses in
    subst (λ (hs : List Held). All (λ (h : Held). h.number < c.from.result + 1) hs) (sym c.loop-place.invariant.clauses) (inputs_below 0 cs (c.from.result + 1) (omega (arith, c.from.ensures, length-take c.loop-place.place c.args.problem.now.clauses)))

pub loop-place-init : goal.loop-place-init
loop-place-init c =
    let e = c.in_ok-store.ensures in
    record {
      vars = ap (λ (s : StoreView). s.vars) e ∙ c.vars.ensures.vars;
      clauses = ap (λ (s : StoreView). s.clauses) e;
      follows = new_follows c.in_ok-store.store c.args.trail.now c.vars.result e (c.vars.ensures.vars ∙ sym (ap (λ (t : TrailView). t.vars) c.requires));
    }

pub loop-place-preserved : goal.loop-place-preserved
loop-place-preserved c =
    let k = c.loop-place.place in
    let lt : k < length c.args.problem.now.clauses = omega (arith, c.loop-place-test.true, c.clause_count-place-end.ensures) in
    let at : c.clause.result.now ≡ get_or c.args.problem.now.clauses k [] = c.clause.ensures.clause ∙ ap (λ (n : ℕ). get_or c.args.problem.now.clauses n []) (omega arith) in
    let e = c.in_ok-add.ensures.ok in
    record {
      vars = e.vars ∙ c.loop-place.invariant.vars;
      clauses = e.clauses ∙ inputs-more c.loop-place.store.clauses c.args.problem.now.clauses k (c.from.result + 1) c.clause.result.now [] c.loop-place.invariant.clauses lt at (omega (arith, c.from.ensures));
      follows = c.in_ok-add.ensures.follows;
    }

pub returns : goal.returns
returns c =
    let all : take c.loop-place.place c.args.problem.now.clauses ≡ c.args.problem.now.clauses = take_all c.loop-place.place c.args.problem.now.clauses (omega (arith, c.loop-place-test.false, c.clause_count-place-end.ensures)) in
    record { vars = c.loop-place.invariant.vars; clauses = c.loop-place.invariant.clauses ∙ ap (inputs_from 0) all; follows = c.loop-place.invariant.follows }
