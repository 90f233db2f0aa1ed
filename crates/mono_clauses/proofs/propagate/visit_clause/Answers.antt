use Rattle.std.proofs.Common.{◌≡◌, ◌≢◌, ◌<◌, ◌/◌, ℕ, List, length, arith, sym, refl, ap, subst, ◌∙◌, Some, None}
use Rattle.std.specs.Prelude.{ℤ}
use Rattle.mono_base.specs.Literal.{IsLitWithin}
use Rattle.mono_base.proofs.Partials.{open_from_unset}
use Rattle.mono_base.specs.Partial.{value_by}
use Rattle.mono_clauses.proofs.Literals.{yes_stands}
use Rattle.mono_clauses.proofs.OneWatcher.{WatcherFacts, watcher_facts, mate_has, looked_true, looked_move, looked_implied, found_false, var_of_lit, not_decided}
use Rattle.mono_clauses.specs.ClauseValues.{IsAnotherUnfalse, FalseBut}
use Rattle.mono_clauses.specs.Lists.{Stands}
use Rattle.mono_clauses.specs.Store.{clause_at, watch_at, other}
use Rattle.mono_clauses.proofs.propagate.visit_clause.Goals as goal
use Rattle.mono_clauses.proofs.propagate.visit_clause.Goals.{After-known, After-watch-mate}

facts : (c : After-known) → WatcherFacts c.args.clauses.now.list c.args.watches.now c.args.watcher c.args.lit
facts c = watcher_facts c.args.clauses.now.list c.args.watches.now c.args.trail.now c.args.lit c.args.watcher c.requires.visiting c.requires.first

pub watch-mate-requires-clause-in_range : goal.watch-mate-requires-clause-in_range
watch-mate-requires-clause-in_range c = rw c.other_watcher.ensures (facts (goal.at.watch-mate-requires-clause-in_range c).After-known).other_within

some_none : (a : ℤ) → Some a ≡ None → ⊥
some_none a e = cc

pub watch-mate-requires-clause-busy : goal.watch-mate-requires-clause-busy
watch-mate-requires-clause-busy c =
    let f = facts (goal.at.watch-mate-requires-clause-busy c).After-known in
    λ n. some_none f.mate (sym f.mate_is ∙ ap (watch_at c.args.watches.now.watched) (sym c.other_watcher.ensures) ∙ n)

mate_is : (c : After-watch-mate) → watch_at c.args.watches.now.watched (other c.args.watcher) ≡ Some c.watch-mate.result
mate_is c = ap (watch_at c.args.watches.now.watched) (sym c.other_watcher.ensures) ∙ c.watch-mate.ensures

some_ahead : (c : After-known) → 0 < length c.args.watches.now.ahead
some_ahead c = omega (arith, ap (λ (h : List ℕ). length h) (facts c).ahead)

pub keep-requires : goal.keep-requires
keep-requires c = some_ahead (goal.at.keep-requires c).After-known

pub keep-requires-in-Unset : goal.keep-requires-in-Unset
keep-requires-in-Unset c = some_ahead (goal.at.keep-requires-in-Unset c).After-known

has : (c : After-watch-mate) → Stands (clause_at c.args.clauses.now.list (c.args.watcher / 2)).lits c.watch-mate.result
has c = mate_has c.args.clauses.now.list c.args.watches.now c.args.trail.now c.args.lit c.watch-mate.result c.args.watcher c.requires.visiting (mate_is c)

mate_var : (c : After-watch-mate) → IsLitWithin c.args.trail.now.vars c.watch-mate.result
mate_var c =
    let f = watcher_facts c.args.clauses.now.list c.args.watches.now c.args.trail.now c.args.lit c.args.watcher c.requires.visiting c.requires.first in
    var_of_lit c.args.trail.now.vars c.args.clauses.now.vars (clause_at c.args.clauses.now.list (c.args.watcher / 2)).lits (clause_at c.args.clauses.now.list (c.args.watcher / 2)).lits c.watch-mate.result (c.known-2.ensures.ranged (c.args.watcher / 2) f.clause_within) (c.requires.vars ∙ c.requires.visiting.vars) refl (has c)

own : (c : After-known) → watch_at c.args.watches.now.watched c.args.watcher ≡ Some c.args.lit
own c = (facts c).own

pub value-requires : goal.value-requires
value-requires c = mate_var (goal.at.value-requires c).After-watch-mate

pub value-requires-2 : goal.value-requires-2
value-requires-2 c = mate_var (goal.at.value-requires-2 c).After-watch-mate

pub returns-in-Yes-clause-none : goal.returns-in-Yes-clause-none
returns-in-Yes-clause-none c =
    looked_true c.args.clauses.now.list c.args.watches.now c.keep.new.self c.args.trail.now c.args.lit c.watch-mate.result c.args.watcher c.known.ensures.sound c.requires.visiting c.requires.first
    (own (goal.at.returns-in-Yes-clause-none c).After-known) (mate_is (goal.at.returns-in-Yes-clause-none c).After-watch-mate) (yes_stands c.args.trail.now.lits c.watch-mate.result (sym c.in-Yes.ensures)) c.keep.ensures

same_mate : (c : After-watch-mate) → c.args.lit ≢ c.watch-mate.result
same_mate c =
    let f = watcher_facts c.args.clauses.now.list c.args.watches.now c.args.trail.now c.args.lit c.args.watcher c.requires.visiting c.requires.first in
    let e : Some f.mate ≡ Some c.watch-mate.result = sym f.mate_is ∙ mate_is c in
    λ z. f.differ (z ∙ (let q : c.watch-mate.result ≡ f.mate = cc in q))

pub next_watch-requires : goal.next_watch-requires
next_watch-requires c =
    let f = facts (goal.at.next_watch-requires c).After-known in
    let m = (goal.at.next_watch-requires c).After-watch-mate in
    record { vars = c.requires.vars ∙ c.requires.visiting.vars; in_range = f.clause_within; has_mate = has m; has_lit = f.has_own; differ = same_mate m; falsified = c.requires.visiting.is_false }

pub set_cached-requires : goal.set_cached-requires
set_cached-requires c =
    let f = facts (goal.at.set_cached-requires c).After-known in
    record { in_range = f.clause_within; has = f.has_own }

next_range : (c : After-watch-mate) (x : ℤ) → Stands (clause_at c.args.clauses.now.list (c.args.watcher / 2)).lits x → IsLitWithin c.args.trail.now.vars x
next_range c x s =
    let f = watcher_facts c.args.clauses.now.list c.args.watches.now c.args.trail.now c.args.lit c.args.watcher c.requires.visiting c.requires.first in
    var_of_lit c.args.trail.now.vars c.args.clauses.now.vars (clause_at c.args.clauses.now.list (c.args.watcher / 2)).lits (clause_at c.args.clauses.now.list (c.args.watcher / 2)).lits x (c.known-2.ensures.ranged (c.args.watcher / 2) f.clause_within) (c.requires.vars ∙ c.requires.visiting.vars) refl s

pub shift-requires : goal.shift-requires
shift-requires c =
    let sp : IsAnotherUnfalse c.args.trail.now.lits (clause_at c.args.clauses.now.list (c.args.watcher / 2)).lits c.watch-mate.result c.in-Some.next = c.in-Some.ensures.some in
    let m = (goal.at.shift-requires c).After-watch-mate in
    let f = facts (goal.at.shift-requires c).After-known in
    let r = next_range m c.in-Some.next sp.has in
    record {
      in_range = subst (λ (n : ℕ). IsLitWithin n c.in-Some.next) (sym c.requires.visiting.vars) r;
      some = some_ahead (goal.at.shift-requires c).After-known;
      another = λ w e g. sp.unfalse (let same : w ≡ c.args.watcher = (let q : Some w ≡ Some c.args.watcher = sym e ∙ c.requires.first in cc) in
          let own_here : Some c.in-Some.next ≡ Some c.args.lit = sym g ∙ ap (watch_at c.args.watches.now.watched) same ∙ f.own in
          let lit : c.in-Some.next ≡ c.args.lit = cc in ap (value_by c.args.trail.now.lits) lit ∙ c.requires.visiting.is_false);
    }

pub returns-in-Some-clause-none : goal.returns-in-Some-clause-none
returns-in-Some-clause-none c =
    let sp : IsAnotherUnfalse c.args.trail.now.lits (clause_at c.args.clauses.now.list (c.args.watcher / 2)).lits c.watch-mate.result c.in-Some.next = c.in-Some.ensures.some in
    let m = (goal.at.returns-in-Some-clause-none c).After-watch-mate in
    looked_move c.args.clauses.now.list c.args.watches.now c.shift.new.self c.args.trail.now c.args.lit c.watch-mate.result c.in-Some.next c.args.watcher c.known.ensures.sound c.requires.visiting c.requires.first
    (own (goal.at.returns-in-Some-clause-none c).After-known) (mate_is m) sp c.shift.ensures

pub returns-in-No-clause-some : goal.returns-in-No-clause-some
returns-in-No-clause-some c =
    let here : FalseBut c.args.trail.now.lits (clause_at c.args.clauses.now.list (c.args.watcher / 2)).lits c.watch-mate.result = c.in_default-next_watch.ensures.none in
    found_false c.args.clauses.now.list c.args.watches.now c.args.trail.now c.watch-mate.result c.args.watcher c.number.result (facts (goal.at.returns-in-No-clause-some c).After-known).clause_within c.number.ensures here (sym c.in-No.ensures)

pub imply-requires : goal.imply-requires
imply-requires c = record { in_range = mate_var (goal.at.imply-requires c).After-watch-mate; is_open = open_from_unset c.args.trail.now.lits c.watch-mate.result (sym c.in-Unset.ensures); implied = not_decided c.number-in-Unset.result }

pub returns-in-Unset-clause-none : goal.returns-in-Unset-clause-none
returns-in-Unset-clause-none c =
    let here : FalseBut c.args.trail.now.lits (clause_at c.args.clauses.now.list (c.args.watcher / 2)).lits c.watch-mate.result = c.in_default-next_watch.ensures.none in
    let m = (goal.at.returns-in-Unset-clause-none c).After-watch-mate in
    looked_implied c.args.clauses.now.list c.args.watches.now c.keep-in-Unset.new.self c.args.trail.now c.imply.new.self c.args.lit c.watch-mate.result c.args.watcher c.number-in-Unset.result c.known.ensures.sound c.known-in-Unset.ensures.sound c.requires.visiting c.requires.first
    (own (goal.at.returns-in-Unset-clause-none c).After-known) (mate_is m) (facts (goal.at.returns-in-Unset-clause-none c).After-known).clause_within c.number-in-Unset.ensures
    (record { has = has m; is_open = sym c.in-Unset.ensures; others = here }) c.imply.ensures c.keep-in-Unset.ensures

pub keep-requires-in-Yes-value : goal.keep-requires-in-Yes-value
keep-requires-in-Yes-value c = some_ahead (goal.at.keep-requires-in-Yes-value c).After-known
