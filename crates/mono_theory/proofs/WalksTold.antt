-- What the rows of the possibly present edges tell of atoms by the walks for which they ask.
use Rattle.std.proofs.Common.{◌≡◌, ℕ, ◌<◌, Bool, not, List, length, get_or, take, true, false, refl, sym, ap, subst, ◌∙◌, arith, ℤ}
use Rattle.std.specs.Prelude.{IsTrue}
use Rattle.std.proofs.lemmas.Bool.{and_from, and_parts}
use Rattle.std.proofs.lemmas.List.{take_all}
use Rattle.mono_graph.specs.Digraph.{Digraph}
use Rattle.mono_graph.specs.Walks.{is_light, is_path, is_walk}
use Rattle.mono_graph.proofs.Subparts.{is_walk-larger}
use Rattle.mono_dynamic.specs.declared.walk_target.WalkTarget.{WalkTarget}
use Rattle.mono_dynamic.specs.Ways.{no_target, IsTargetOf}
use Rattle.mono_dynamic.specs.Targets.{Targets, OnlyShrink, targets_at}
use Rattle.mono_dynamic.proofs.Lacking.{lacks, leads}
use Rattle.mono_problem.specs.declared.atom.Predicate.{Predicate}
use Rattle.mono_problem.specs.Holds.{falls}
use Rattle.mono_problem.specs.Quiet.{over}
use Rattle.mono_problem.specs.Read.{no_atom}
use Rattle.mono_theory.specs.Asked.{asks_walk, first_node, last_node, limit_of}
use Rattle.mono_theory.specs.Evidences.{Decides, shown_by}
use Rattle.mono_theory.specs.PossibleRows.{PossibleView, AreSettledRows, AreTargetsOf, RowsStand, is_cut_off, possible_parts, target_at}
use Rattle.mono_theory.specs.RowSides.{AreRowsFor, AreUpToDate, DecidesRest, RowsView}
use Rattle.mono_theory.specs.Supports.{atom_at, part_of}
use Rattle.mono_theory.specs.Theories.{Facts, cut_to}
use Rattle.mono_theory.proofs.AskedRows.{holds_walk, walk_holds, walk_rises}
use Rattle.mono_theory.proofs.KeptEvidenceDecides.{shown_rising}
use Rattle.mono_theory.proofs.PossibleParts.{fewer_possible}

-- the row of the atom at a place
abbrev row_by : PossibleView → ℕ → Targets
row_by s a = targets_at s.rows.rows (get_or s.row_of a 0)

-- a walk as the row is asked for is one as the predicate asks for, and the other way about
asked_are : {f : Facts} {s : PossibleView} (a : ℕ) (ks : List ℕ) → a < length f.atoms → AreTargetsOf s f
    → is_path f.graph (possible_parts f (length f.seen)) (row_by s a).ways.tree.source (target_at s.targets a).node (target_at s.targets a).limit ks
    ≡ is_path f.graph (possible_parts f (length f.seen)) (first_node (atom_at f.atoms a).predicate) (last_node (atom_at f.atoms a).predicate) (limit_of (atom_at f.atoms a).predicate) ks
asked_are {f = f} {s = s} a ks lt h =
    ap (λ (u : ℕ). is_path f.graph (possible_parts f (length f.seen)) u (target_at s.targets a).node (target_at s.targets a).limit ks) (h.own a lt).source
    ∙ ap (λ (t : WalkTarget). is_path f.graph (possible_parts f (length f.seen)) (first_node (atom_at f.atoms a).predicate) t.node t.limit ks) (h.targets.each a no_target lt).is

-- so many first literals are all
all_seen : (f : Facts) → take (length f.seen) f.seen ≡ f.seen
all_seen f = take_all (length f.seen) f.seen (omega arith)

-- an atom fails of which it is known that there is no such walk
pub cut_off_fails : {f : Facts} {s : PossibleView} (a : ℕ) → a < length f.atoms → OnlyShrink (possible_parts f) (length f.seen) → AreTargetsOf s f → is_cut_off s a ≡ true
    → Decides f.graph (over f.graph f.seen) (atom_at f.atoms a).predicate (shown_by (atom_at f.atoms a).predicate false)
cut_off_fails {f = f} {s = s} a lt shrink h off =
    let q = (atom_at f.atoms a).predicate in
    let asks = h.asks.each a no_atom lt in
    let asked = h.asked.each a (let len = h.row_len in omega (arith, lt, len)) in
    let none = lacks f.graph (possible_parts f) (length f.seen) (target_at s.targets a) (row_by s a) (h.told (get_or s.row_of a 0) (h.own a lt).held) shrink asked off in
    subst (λ (t : List ℤ). Decides f.graph (over f.graph t) q (shown_by q false)) (all_seen f)
    (subst (Decides f.graph (possible_parts f (length f.seen)) q) (sym (shown_rising q false (walk_rises q asks)))
    (λ holds. (let walk = holds_walk f.graph (possible_parts f (length f.seen)) q asks holds in none walk.0 (asked_are a walk.0 lt h ∙ walk.1))))

-- where it is known of each walk whether there is one, all other atoms hold
pub rest_is_reached : {f : Facts} {s : PossibleView} → AreTargetsOf s f → AreSettledRows s.rows.rows → DecidesRest f true (is_cut_off s)
rest_is_reached {f = f} {s = s} h settled = record {
  each = λ a lt on. (
      let q = (atom_at f.atoms a).predicate in
      let asks = h.asks.each a no_atom lt in
      let own = h.own a lt in
      let row = own.held in
      let target : IsTargetOf (row_by s a).ways (target_at s.targets a) = subst (IsTargetOf (row_by s a).ways) (sym (h.targets.each a no_target lt).is) own.target in
      let walk = leads f.graph (possible_parts f) (length f.seen) (target_at s.targets a) (row_by s a) (h.told (get_or s.row_of a 0) row) (settled.each (get_or s.row_of a 0) row) on target in
      subst (λ (t : List ℤ). Decides f.graph (over f.graph t) q (shown_by q true)) (all_seen f)
      (subst (Decides f.graph (possible_parts f (length f.seen)) q) (sym (shown_rising q true (walk_rises q asks)))
      (walk_holds f.graph (possible_parts f (length f.seen)) q asks (walk.0, sym (asked_are a walk.0 lt h) ∙ walk.1))));
}

-- ---- what is known once more literals were seen

-- where the first literals leave no walk as the predicate asks for, no more do all
pub none_later : (g : Digraph) (t : List ℤ) (n : ℕ) (q : Predicate) → IsTrue (asks_walk q) → Decides g (part_of g (take n t) true) q (shown_by q false) → (ks : List ℕ) → IsTrue (is_path g (over g t) (first_node q) (last_node q) (limit_of q) ks) → ⊥
none_later g t n q asks fails ks on =
    let both = and_parts (is_walk g (over g t) (first_node q) (last_node q) ks) (is_light (limit_of q) g ks) on in
    subst (Decides g (over g (take n t)) q) (shown_rising q false (walk_rises q asks)) fails
    (walk_holds g (over g (take n t)) q asks (
      ks,
      and_from (is_walk g (over g (take n t)) (first_node q) (last_node q) ks) (is_light (limit_of q) g ks)
          (is_walk-larger g (over g t) (over g (take n t)) (fewer_possible g t n) (first_node q) (last_node q) ks both.0) both.1,
    ))

by_lacking : (g : Digraph) (P : List Bool) (q : Predicate) (b : Bool) → falls q ≡ false → (IsTrue b → Decides g P q (shown_by q false)) → (b ≡ false → Decides g P q (shown_by q true)) → Decides g P q (not b)
by_lacking g P q true rising fails holds = subst (Decides g P q) (shown_rising q false rising) (fails refl)
by_lacking g P q false rising fails holds = subst (Decides g P q) (shown_rising q true rising) (holds refl)

-- where the rows are up to date, an atom holds unless it is known that there is no walk as it asks for
pub lacking_decides : {covers : Predicate → Bool} {f : Facts} {s : RowsView PossibleView} (a : ℕ) (b : Bool) → a < length f.atoms → AreRowsFor covers true AreTargetsOf is_cut_off f s → AreUpToDate RowsStand f s → b ≡ is_cut_off s.rows a
    → (IsTrue b → Decides f.graph (part_of f.graph (take s.looked f.seen) true) (atom_at f.atoms a).predicate (shown_by (atom_at f.atoms a).predicate false)) → Decides f.graph (over f.graph f.seen) (atom_at f.atoms a).predicate (not b)
lacking_decides {f = f} {s = s} a b lt h stands is fails =
    let q = (atom_at f.atoms a).predicate in
    let all = stands.looked in
    let rest : DecidesRest (cut_to s.looked f) true (is_cut_off s.rows) = rest_is_reached h.rows stands.stand in
    subst (λ (t : List ℤ). Decides f.graph (over f.graph t) q (not b)) (take_all s.looked f.seen (omega (arith, all)))
    (by_lacking f.graph (over f.graph (take s.looked f.seen)) q b (walk_rises q (h.rows.asks.each a no_atom lt)) fails (λ off. rest.each a lt (sym is ∙ off)))
