use Rattle.std.proofs.Common.{sym, subst, arith}
use Rattle.std.specs.Prelude.{IsTrue}
use Rattle.std.proofs.lemmas.Bool.{and_parts}
use Rattle.mono_graph.specs.Walks.{is_light, is_path, is_walk}
use Rattle.mono_dynamic.specs.Ways.{no_target}
use Rattle.mono_problem.specs.Read.{no_atom}
use Rattle.mono_theory.specs.declared.evidence.Evidence.{Evidence}
use Rattle.mono_theory.specs.Asked.{first_node, last_node, limit_of}
use Rattle.mono_theory.specs.Evidences.{IsEvidence}
use Rattle.mono_theory.specs.Supports.{atom_at}
use Rattle.mono_theory.specs.SureParts.{sure_parts}
use Rattle.mono_theory.proofs.SureEdges.{walk_places}
use Rattle.mono_theory.proofs.SureRowsStay.{kept_walk, row_held, sure_in, target_fits}
use Rattle.mono_theory.proofs.WalksAsEvidence.{walk_shows}
use Rattle.mono_theory.proofs.sure_rows.SureRowsRows.evidence.Goals as goal

pub target-target-requires : goal.target-target-requires
target-target-requires g c = (let len = c.requires.right.targets.len in omega (arith, len, c.requires.place))

pub row-row-requires-clause-place : goal.row-row-requires-clause-place
row-row-requires-clause-place g c = (let len = c.requires.right.served.len in omega (arith, len, c.requires.place))

pub row-row-requires-clause-row : goal.row-row-requires-clause-row
row-row-requires-clause-row g c = row_held c.args.place c.requires.place c.requires.right

pub walk_within-requires : goal.walk_within-requires
walk_within-requires g c = target_fits g.R.SourceRow.fits g.met.R.ShowsWalks.is_fit c.args.place c.row-row.result.now c.target-target.result c.requires.place c.row-row.ensures c.target-target.ensures c.requires.right

pub walk_evidence-requires : goal.walk_evidence-requires
walk_evidence-requires g c =
    let law = g.met.R.ShowsWalks in
    let f = c.args.frame.now in
    let q = (atom_at f.atoms c.args.place).predicate in
    let ks = c.in-Some.walk.items in
    let P = sure_parts f c.args.kept in
    let path : IsTrue (is_path f.graph P (first_node q) (last_node q) (limit_of q) ks) =
    kept_walk g.R.ShowsWalks.can_show c.args.place c.row-row.result.now c.target-target.result c.min-stamp.result c.args.kept ks c.requires.place c.row-row.ensures c.target-target.ensures (omega (arith, c.min-stamp.ensures)) (omega (arith, c.min-stamp.ensures))
    (law.serves q (c.requires.covered.each c.args.place no_atom c.requires.place)) (rw c.in-Some.is at c.in_ok-walk.ensures) (sure_in law.same f c.args.looked c.requires.looked c.requires.right) in
    rw c.graph.ensures.graph (walk_places f.graph P (first_node q) (last_node q) ks (and_parts (is_walk f.graph P (first_node q) (last_node q) ks) (is_light (limit_of q) f.graph ks) path).0)

pub returns : goal.returns
returns g c =
    let law = g.met.R.ShowsWalks in
    let f = c.args.frame.now in
    let q = (atom_at f.atoms c.args.place).predicate in
    let ks = c.in-Some.walk.items in
    let P = sure_parts f c.args.kept in
    let h = sure_in law.same f c.args.looked c.requires.looked c.requires.right in
    let path : IsTrue (is_path f.graph P (first_node q) (last_node q) (limit_of q) ks) =
    kept_walk g.R.ShowsWalks.can_show c.args.place c.row-row.result.now c.target-target.result c.min-stamp.result c.args.kept ks c.requires.place c.row-row.ensures c.target-target.ensures (omega (arith, c.min-stamp.ensures)) (omega (arith, c.min-stamp.ensures))
    (law.serves q (c.requires.covered.each c.args.place no_atom c.requires.place)) (rw c.in-Some.is at c.in_ok-walk.ensures) h in
    let places = walk_places f.graph P (first_node q) (last_node q) ks (and_parts (is_walk f.graph P (first_node q) (last_node q) ks) (is_light (limit_of q) f.graph ks) path).0 in
    subst (λ (e : Evidence). IsEvidence f.graph P q e) (sym (rw c.graph.ensures.graph at c.in_ok-evidence.ensures)) (walk_shows f.graph P q ks (h.targets.each c.args.place no_target c.requires.place).asks c.graph.ensures.known places path)
