use Rattle.std.proofs.Common.{refl, sym, ◌∙◌}
use Rattle.mono_theory.proofs.FramesStay.{number_is_held, atom_place, place_number, found_by_place}
use Rattle.mono_theory.proofs.frame.Frame.place_of.Goals as goal

pub unreachable-requires : goal.unreachable-requires
unreachable-requires c = number_is_held c.self.inside.atoms.items c.self.inside.numbers.keys c.args.number c.self.invariant.numbered (rw (← c.self.view_is) at c.requires) c.in_default.ensures

pub returns-clause-held : goal.returns-clause-held
returns-clause-held c = rw (← c.self.view_is) (atom_place c.self.inside.atoms.items c.self.inside.numbers.keys c.args.number c.in-Some.place c.self.invariant.numbered c.in-Some.ensures)

pub returns-clause-is : goal.returns-clause-is
returns-clause-is c = rw (← c.self.view_is)
    (found_by_place c.self.inside.graph c.self.inside.atoms.items c.self.inside.numbers.keys c.args.number c.in-Some.place _ c.self.invariant.known c.self.invariant.numbered c.in-Some.ensures refl).0

pub returns-clause-alone : goal.returns-clause-alone
returns-clause-alone c =
    let held = atom_place c.self.inside.atoms.items c.self.inside.numbers.keys c.args.number c.in-Some.place c.self.invariant.numbered c.in-Some.ensures in
    let own = place_number c.self.inside.atoms.items c.self.inside.numbers.keys c.args.number c.in-Some.place c.self.invariant.numbered c.in-Some.ensures in
    rw (← c.self.view_is) (λ k lt same. c.self.invariant.known.apart k c.in-Some.place lt held (same ∙ sym own))
