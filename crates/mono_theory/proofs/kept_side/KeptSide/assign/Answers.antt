use Rattle.std.proofs.Common.{◌≡◌, ◌<◌, ◌-◌, ℕ, List, ℤ, not, arith, sym, ap, subst, ◌∙◌, length, get_or, pos, nat_abs, int_lt}
use Rattle.std.specs.Prelude.{IsTrue}
use Rattle.std.proofs.lemmas.List.{get_or_default}
use Rattle.mono_base.specs.Literal.{is_lit}
use Rattle.mono_bounds.specs.Bound.{edge_vars}
use Rattle.mono_bounds.specs.Index.{ArePlacesOf}
use Rattle.mono_theory.specs.Supports.{SideView}
use Rattle.mono_theory.specs.Theories.{Facts, but_last, last_seen}
use Rattle.mono_theory.proofs.FramesStay.{lit_by}
use Rattle.mono_theory.proofs.OneMoreSeen.{kept_invalidated, side_invalidated, side_last, side_other_sign}
use Rattle.mono_theory.proofs.KeptEvidenceDecides.{not_alike, not_unlike}
use Rattle.mono_theory.proofs.kept_side.KeptSide.assign.Goals as goal

-- the literal is the last one
last_is : (f : Facts) (seen : ℕ) (l : ℤ) → 0 < length f.seen → seen ≡ length f.seen → l ≡ get_or f.seen (seen - 1) l → l ≡ last_seen f
last_is f seen l some count at = at ∙ ap (λ (n : ℕ). get_or f.seen (n - 1) l) count ∙ get_or_default f.seen (length f.seen - 1) l (pos 0) (omega (arith, some))

-- and these are its edges
places_of_last : (f : Facts) (seen : ℕ) (ks : List ℕ) → seen ≡ length f.seen → ArePlacesOf (edge_vars f.graph) (nat_abs (get_or f.seen (seen - 1) (pos 0))) ks → ArePlacesOf (edge_vars f.graph) (nat_abs (last_seen f)) ks
places_of_last f seen ks count places = subst (λ (n : ℕ). ArePlacesOf (edge_vars f.graph) (nat_abs (get_or f.seen (n - 1) (pos 0))) ks) count places

pub literal_at-lit-requires : goal.literal_at-lit-requires
literal_at-lit-requires c = omega (arith, c.seen-seen.ensures.count, c.requires.some)

pub edges_at-edges-requires : goal.edges_at-edges-requires
edges_at-edges-requires c = omega (arith, c.seen-seen.ensures.count, c.requires.some)

pub returns-then-is_positive-self-clause-side : goal.returns-then-is_positive-self-clause-side
returns-then-is_positive-self-clause-side c =
    let f = c.args.frame.now in
    let ks = c.edges_at-edges.result.now in
    let places = places_of_last f c.seen-seen.result ks c.seen-seen.ensures.count c.edges_at-edges.ensures in
    side_last f c.requires.some
    (side_invalidated {f = but_last f} {b = c.self.inside.possible} (last_seen f) ks c.invalidate.new.stages places c.invalidate.ensures.fewer c.invalidate.ensures.none (rw (← c.self.view_is) at c.requires.side))

pub returns-then-is_positive-self-clause-kept : goal.returns-then-is_positive-self-clause-kept
returns-then-is_positive-self-clause-kept c =
    let f = c.args.frame.now in
    let ks = c.edges_at-edges.result.now in
    let l = c.literal_at-lit.result in
    let last : l ≡ last_seen f = last_is f c.seen-seen.result l c.requires.some c.seen-seen.ensures.count c.literal_at-lit.ensures in
    let places = places_of_last f c.seen-seen.result ks c.seen-seen.ensures.count c.edges_at-edges.ensures in
    let sign : int_lt (pos 0) (last_seen f) ≡ not c.self.inside.possible = ap (int_lt (pos 0)) (sym last) ∙ sym c.is_positive.ensures ∙ not_alike c.is_positive.result c.self.inside.possible c.if-is_positive-self.true in
    rw (← c.self.view_is) (kept_invalidated f.graph c.self.inside.possible (last_seen f) _ ks c.invalidate.new.stages sign places c.invalidate.ensures.fewer)

pub returns-else-is_positive-self-clause-side : goal.returns-else-is_positive-self-clause-side
returns-else-is_positive-self-clause-side c =
    let f = c.args.frame.now in
    let own : c.self.inside.possible ≡ c.args.self.now.possible = ap (λ (v : SideView). v.possible) c.self.view_is in
    let l = c.literal_at-lit.result in
    let last : l ≡ last_seen f = last_is f c.seen-seen.result l c.requires.some c.seen-seen.ensures.count c.literal_at-lit.ensures in
    let lit = lit_by l (omega (arith, c.var.ensures.low, c.var.ensures.value)) in
    side_last f c.requires.some
    (side_other_sign {f = but_last f} {b = c.args.self.now.possible} (last_seen f) (subst (λ (m : ℤ). IsTrue (is_lit m)) last lit)
    (ap (int_lt (pos 0)) (sym last) ∙ sym c.is_positive.ensures ∙ (not_unlike c.is_positive.result c.self.inside.possible c.if-is_positive-self.false ∙ own)) c.requires.side)
