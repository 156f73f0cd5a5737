use Rattle.std.proofs.Common.{◌≡◌, refl, rules}
use Rattle.outside.proofs.FilesLemmas.{files_of-insert}
use Rattle.outside.proofs.memory_shelf.MemShelf.place.Goals as goal

pub returns-clause-ok : goal.returns-clause-ok
returns-clause-ok c =
    let set = files_of-insert c.self.inside.files c.insert.new.self c.in_ok-key.key c.in_ok-copy.copy c.in_ok-insert.ensures.updates in
    let copied : c.in_ok-copy.copy.items ≡ c.args.bytes.now = search rules in
    rw (set, c.in_ok-key.ensures.ok, copied, ← c.self.view_is) refl
