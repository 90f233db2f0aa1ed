use Rattle.mono_forms.proofs.forms.migration.Goals as goal

pub returns : goal.returns
returns g c = c.migrated.ensures c.args.file.now (g.S.Shelf.seen c.args.shelf.now) c.in_ok-input.ensures
