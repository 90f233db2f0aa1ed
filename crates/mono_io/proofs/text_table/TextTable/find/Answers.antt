use Rattle.std.proofs.Common.{◌≡◌, ◌∙◌, ap, subst, MatchOption, None}
use Rattle.mono_io.specs.Entries.{texts_of}
use Rattle.mono_io.specs.Shelf.{Texts, text_named}
use Rattle.mono_io.specs.Texts.{StandsAt}
use Rattle.mono_io.proofs.NamedTexts.{found_place}
use Rattle.mono_io.proofs.text_table.TextTable.find.Goals as goal

pub returns : goal.returns
returns c =
    let name = c.args.name.now in
    let place = c.position_of.result in
    subst (λ (texts : Texts). MatchOption place (text_named name texts ≡ None) (StandsAt texts name))
    (ap texts_of c.deref.ensures.value ∙ c.self.view_is)
    (found_place place _ name c.position_of.ensures)
