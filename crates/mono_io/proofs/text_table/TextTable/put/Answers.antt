use Rattle.std.proofs.Common.{◌≡◌, subst, refl, List, set, Some, None, position, bytes_eq, string_bytes}
use Rattle.mono_io.specs.Entries.{texts_of}
use Rattle.mono_io.specs.Shelf.{Texts}
use Rattle.mono_io.specs.Texts.{Puts}
use Rattle.mono_io.specs.declared.text_table.Entry.{Entry}
use Rattle.mono_io.proofs.NamedTexts.{Puts-replaced, Puts-added}
use Rattle.mono_io.proofs.text_table.TextTable.put.Goals as goal

pub returns-in-Some-clause-ok : goal.returns-in-Some-clause-ok
returns-in-Some-clause-ok c =
    let found = subst (λ (entries : List Entry). Some c.in-Some.at ≡ position (λ e. bytes_eq (string_bytes e.name) c.args.name.now) entries) c.deref.ensures.value c.in-Some.ensures in
    let entry : Entry = record { name = c.index_mut.result.now.name; text = c.in_ok-text.text } in
    let puts = Puts-replaced c.self.inside.entries.items c.args.name.now c.args.text.now c.in-Some.at c.index_mut.result.now entry found c.index_mut.ensures.value refl c.in_ok-text.ensures.items in
    subst (λ (texts : Texts). Puts texts (texts_of (set c.self.inside.entries.items c.in-Some.at entry)) c.args.name.now c.args.text.now) c.self.view_is puts

pub returns-in_ok-push-in-None-clause-ok : goal.returns-in_ok-push-in-None-clause-ok
returns-in_ok-push-in-None-clause-ok c =
    let found = subst (λ (entries : List Entry). None ≡ position (λ e. bytes_eq (string_bytes e.name) c.args.name.now) entries) c.deref.ensures.value c.in-None.ensures in
    let entry : Entry = record { name = c.in_ok-name-in-None.name; text = c.in_ok-text.text } in
    let puts = Puts-added c.self.inside.entries.items c.push.new.self.items c.args.name.now c.args.text.now entry found c.in_ok-push-in-None.ensures.items c.in_ok-name-in-None.ensures.ok c.in_ok-text.ensures.items in
    subst (λ (texts : Texts). Puts texts (texts_of c.push.new.self.items) c.args.name.now c.args.text.now) c.self.view_is puts
