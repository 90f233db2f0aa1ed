use Rattle.std.proofs.Common.{◌≡◌, ◌+◌, not, take, sym, ◌∙◌, arith, pos, int_lt}
use Rattle.mono_theory.proofs.FramesStay.{lit_by}
use Rattle.mono_theory.proofs.KeptEvidenceDecides.{like, unlike}
use Rattle.mono_theory.proofs.PartsFollow.{IsNextOf, edges_held, next_of, part_back, part_still}
use Rattle.mono_theory.proofs.rows_side.follow_back.Goals as goal

pub returns-then-is_positive-possible : goal.returns-then-is_positive-possible
returns-then-is_positive-possible c =
    let f = c.args.frame.now in
    let l = c.literal_at-lit.result in
    let sign : int_lt (pos 0) l ≡ c.args.possible = sym c.is_positive.ensures ∙ like c.is_positive.result c.args.possible c.if-is_positive-possible.true in
    let lit = lit_by l (omega (arith, c.var.ensures.low, c.var.ensures.value)) in
    c.requires.part ∙ part_still f c.args.place l c.args.possible c.requires.place (sym c.literal_at-lit.ensures) lit sign

pub set_all-requires : goal.set_all-requires
set_all-requires c =
    let f = c.args.frame.now in
    let ks = c.edges_at.result.now in
    let its : IsNextOf f c.args.place c.literal_at-lit.result ks = next_of f c.args.place c.literal_at-lit.result ks c.requires.place (sym c.literal_at-lit.ensures) c.known.ensures.partial c.edges_at.ensures in
    edges_held (take (c.args.place + 1) f.seen) c.args.possible c.args.part.now c.requires.part its

pub returns : goal.returns
returns c =
    let f = c.args.frame.now in
    let l = c.literal_at-lit.result in
    let ks = c.edges_at.result.now in
    let its : IsNextOf f c.args.place l ks = next_of f c.args.place l ks c.requires.place (sym c.literal_at-lit.ensures) c.known.ensures.partial c.edges_at.ensures in
    let sign : int_lt (pos 0) l ≡ not c.args.possible = sym c.is_positive.ensures ∙ unlike c.is_positive.result c.args.possible c.if-is_positive-possible.false in
    part_back f c.args.place l c.args.possible ks c.args.part.now c.set_all.new.part its sign c.requires.part c.set_all.ensures.size c.set_all.ensures.done c.set_all.ensures.others
