use Rattle.mono_search.proofs.ConcernTables.{listed}
use Rattle.std.proofs.Common.{◌≡◌, ◌∙◌, ℕ, sym, ap, subst, arith, length, All, ℤ, pos, refl}
use Rattle.std.specs.Prelude.{IsTrue}
use Rattle.std.proofs.lemmas.List.{get_or_read}
use Rattle.mono_base.specs.Partial.{is_open_in}
use Rattle.mono_base.specs.Literal.{IsLitWithin, lit_at}
use Rattle.mono_theory.specs.Theories.{Facts}
use Rattle.mono_theory.specs.Owners.{facts_of}
use Rattle.mono_search.specs.TheoryLists.{handed_on}
use Rattle.mono_search.specs.Theories.{TheoriesView, having_seen}
use Rattle.mono_search.proofs.Owners.{all_fresh}
use Rattle.mono_search.proofs.HandedOn.{handed_step, handed_already, all_kept}
use Rattle.mono_search.proofs.theories.Theories.hand_on.Goals as goal

pub hand_to-requires-clause-fresh : goal.hand_to-requires-clause-fresh
hand_to-requires-clause-fresh g c =
    let t = g.T.Theory in
    let h = c.loop-self.self-inside.handed in
    let lits = c.args.lits.now in
    let facts = facts_of t.graph t.atoms t.seen c.loop-self.self-inside.theories.items in
    let fresh = all_fresh facts lits h c.requires.partial c.loop-self-test.true c.loop-self.invariant.shown.current in
    let same : c.index-lits-self.result ≡ lit_at lits h = get_or_read lits h c.index-lits-self.result c.loop-self-test.true c.index-lits-self.is (pos 0) in
    subst (λ (l : ℤ). All (λ (f : Facts). IsTrue (is_open_in f.seen l)) facts) (sym same) fresh

pub hand_to-requires-clause-places : goal.hand_to-requires-clause-places
hand_to-requires-clause-places g c =
    let t = g.T.Theory in
    let facts = facts_of t.graph t.atoms t.seen c.loop-self.self-inside.theories.items in
    let vars : c.args.self.now.problem.vars ≡ c.loop-self.self-inside.problem.now.vars = sym (ap (λ (b : TheoriesView). b.problem.vars) c.loop-self.invariant.from) in
    listed c.loop-self.self-inside.problem.now.vars facts c.loop-self.self-inside.concerned c.args.lits.now c.loop-self.self-inside.handed c.var.result c.index-lits-self.result c.list.result.now
    (subst (λ (n : ℕ). All (IsLitWithin n) c.args.lits.now) vars c.requires.within) c.loop-self.invariant.kept.concerned c.loop-self-test.true c.index-lits-self.is c.var.ensures.value c.list.ensures

pub hand_to-requires-clause-others : goal.hand_to-requires-clause-others
hand_to-requires-clause-others g c = c.loop-self.invariant.kept.others

pub loop-self-preserved : goal.loop-self-preserved
loop-self-preserved g c =
    let t = g.T.Theory in
    let facts = facts_of t.graph t.atoms t.seen c.loop-self.self-inside.theories.items in
    let new = facts_of t.graph t.atoms t.seen c.hand_to.new.theories.items in
    let now : TheoriesView = record { problem = c.loop-self.self-inside.problem.now; facts = facts; handed = c.loop-self.self-inside.handed; given = c.loop-self.self-inside.given } in
    let s = handed_step c.args.self.now now c.args.lits.now c.index-lits-self.result new c.loop-self.invariant.from c.loop-self-test.true c.index-lits-self.is c.hand_to.ensures.facts in
    record {
      kept = all_kept (handed_on c.index-lits-self.result) now.problem facts new c.loop-self.self-inside.concerned c.loop-self.self-inside.owners.items c.loop-self.self-inside.counts.items c.loop-self.self-inside.counts.items c.loop-self.self-inside.worklist.listed c.hand_to.new.worklist.listed
          (λ f. refl) (λ f. refl) c.hand_to.ensures.facts c.loop-self.invariant.kept.zero c.hand_to.ensures.others c.loop-self.invariant.kept;
      shown = s.shown;
      from = s.from;
    }

pub invariant_of-self : goal.invariant_of-self
invariant_of-self g c = c.loop-self.invariant.kept

pub returns : goal.returns
returns g c =
    let all : c.loop-self.self-inside.handed ≡ length c.args.lits.now = omega (arith, c.loop-self-test.false, c.loop-self.invariant.shown.within) in
    c.loop-self.invariant.from ∙ ap (having_seen c.args.self.now c.args.lits.now) all

pub loop-self-init : goal.loop-self-init
loop-self-init g c =
    let shown = rw (← c.self.view_is) at c.requires.shown in
    record { kept = c.self.invariant; shown = shown; from = rw (← c.self.view_is) (handed_already _ c.args.lits.now shown) }
