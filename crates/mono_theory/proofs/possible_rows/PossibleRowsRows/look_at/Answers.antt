use Rattle.std.proofs.Common.{◌+◌, arith, refl, sym, ◌∙◌}
use Rattle.mono_theory.proofs.FramesStay.{lit_by}
use Rattle.mono_theory.proofs.PartsFollow.{next_of}
use Rattle.mono_theory.proofs.PossibleParts.{all_places, places_known, possible_same, possible_shrunk, rows_passed, rows_shrunk, shrunk_shows, targets_cut, targets_in}
use Rattle.mono_theory.proofs.possible_rows.PossibleRowsRows.look_at.Goals as goal

pub returns-then-is_positive-clause-looked : goal.returns-then-is_positive-clause-looked
returns-then-is_positive-clause-looked g c =
    let f = c.args.frame.now in
    let n = c.args.looked in
    let h = targets_in f n (omega (arith, c.requires.more)) c.requires.right in
    let same = possible_same f n c.args.lit c.requires.more c.requires.next (lit_by c.args.lit (omega (arith, c.var.ensures.low, c.var.ensures.value))) (sym c.is_positive.ensures ∙ c.if-is_positive.true) in
    targets_cut f (n + 1) (omega (arith, c.requires.more)) (rows_passed n same h)

pub shrink-requires-clause-places : goal.shrink-requires-clause-places
shrink-requires-clause-places g c = rw c.graph.ensures.graph (places_known c.args.frame.now.graph _ c.edges_at.result.now _ refl c.edges_at.ensures)

pub returns-clause-looked : goal.returns-clause-looked
returns-clause-looked g c =
    let f = c.args.frame.now in
    let n = c.args.looked in
    let h = targets_in f n (omega (arith, c.requires.more)) (rw (← c.self.view_is) at c.requires.right) in
    let ks = c.edges_at.result.now in
    let its = next_of f n c.args.lit ks c.requires.more c.requires.next c.known.ensures.partial c.edges_at.ensures in
    let shrunk = possible_shrunk f n c.args.lit ks c.requires.more c.requires.next (λ k lt e. all_places f.graph _ ks _ k refl its.places lt e) in
    targets_cut f (n + 1) (omega (arith, c.requires.more)) (rows_shrunk n ks c.shrink.new.self c.shrink.ensures.nodes (rw c.graph.ensures.graph at c.shrink.ensures.rows) shrunk h)

pub returns-clause-due : goal.returns-clause-due
returns-clause-due g c =
    let f = c.args.frame.now in
    let n = c.args.looked in
    let h = targets_in f n (omega (arith, c.requires.more)) (rw (← c.self.view_is) at c.requires.right) in
    record {
      size = refl;
      stay = λ a off. off;
      newly = λ a lt off on. rw (← c.self.view_is) (sym (shrunk_shows n (n + 1) c.graph.result.now c.edges_at.result.now c.shrink.new.self.rows a h lt c.shrink.ensures.rows) ∙ on);
    }
