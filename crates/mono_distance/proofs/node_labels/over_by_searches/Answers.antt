use Rattle.std.proofs.Common.{◌≡◌, ℕ, arith, false, true}
use Rattle.std.specs.Prelude.{IfSome}
use Rattle.std.proofs.lemmas.Option.{IfSome_then}
use Rattle.mono_problem.specs.Quiet.{over}
use Rattle.mono_problem.specs.Read.{no_atom}
use Rattle.mono_theory.specs.Sound.{IsWitnessIn, evidence_at}
use Rattle.mono_theory.specs.Stages.{stage_at}
use Rattle.mono_theory.specs.Supports.{atom_at}
use Rattle.mono_distance.specs.Readings.{over_of}
use Rattle.mono_distance.proofs.ReadLabels.{known_read, below_read, over_decides, over_read}
use Rattle.mono_distance.proofs.node_labels.over_by_searches.Goals as goal

pub shown_witness-witness-requires : goal.shown_witness-witness-requires
shown_witness-witness-requires c = (let len = c.requires.right.side.stages_len in omega (arith, len, c.requires.place))

pub returns-clause-value : goal.returns-clause-value
returns-clause-value c =
    let f = c.args.frame.now in
    let s = c.args.kept.now in
    let a : ℕ = c.args.place in
    let x = c.args.asked in
    let h = c.requires.right in
    known_read s a c.args.node x.from x.to c.over_by.result x.limit (atom_at f.atoms a).predicate c.requires.asked
    (over_read c.shown_witness-witness.result (λ w. w.now) c.over_by.result x.limit c.args.node (stage_at s.stages a) (evidence_at s.shown a) c.over_by.ensures
    (c.shown_witness-witness.ensures.none f true h.side h.thorough) c.shown_witness-witness.ensures.shows c.shown_witness-witness.ensures.its)

pub returns-clause-below : goal.returns-clause-below
returns-clause-below c =
    let f = c.args.frame.now in
    let a : ℕ = c.args.place in
    let x = c.args.asked in
    let q = (atom_at f.atoms a).predicate in
    let right : IfSome c.shown_witness-witness.result (λ w. IsWitnessIn f.graph (over f.graph f.seen) q false w.now) =
    IfSome_then c.shown_witness-witness.result c.shown_witness-witness.ensures.right (λ w r. r f true c.requires.right.side) in
    below_read c.shown_witness-witness.result (λ w. w.now) c.over_by.result f.graph (over f.graph f.seen) q x.from x.to c.args.node x.limit c.requires.asked c.requires.limit c.requires.kind c.over_by.ensures right

pub returns-clause-decides : goal.returns-clause-decides
returns-clause-decides c none last =
    let f = c.args.frame.now in
    let s = c.args.kept.now in
    let a : ℕ = c.args.place in
    let x = c.args.asked in
    let h = c.requires.right in
    let atoms = c.known.ensures.atoms in
    let read : c.over_by.result ≡ over_of x.limit c.args.node (stage_at s.stages a) (evidence_at s.shown a) =
    over_read c.shown_witness-witness.result (λ w. w.now) c.over_by.result x.limit c.args.node (stage_at s.stages a) (evidence_at s.shown a) c.over_by.ensures
    (c.shown_witness-witness.ensures.none f true h.side h.thorough) c.shown_witness-witness.ensures.shows c.shown_witness-witness.ensures.its in
    over_decides f s a x.from x.to c.args.node c.over_by.result x.limit c.known.ensures.graph (atoms.over a no_atom c.requires.place).1 c.requires.kind c.requires.place none h c.requires.asked read last
