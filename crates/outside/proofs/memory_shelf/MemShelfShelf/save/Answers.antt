use Rattle.std.proofs.Common.{◌∙◌, ap}
use Rattle.std.specs.FinMap.{get}
use Rattle.outside.specs.Files.{files_of}
use Rattle.outside.proofs.FilesLemmas.{get-insert_other, get-insert_same}
use Rattle.outside.proofs.memory_shelf.MemShelfShelf.save.Goals as goal

pub returns-clause-others : goal.returns-clause-others
returns-clause-others c = λ n differs.
    ap (λ shelf. get shelf.files n) c.in_ok-place.ensures.ok
    ∙ get-insert_other (files_of c.self.inside.files) c.args.name.now c.args.bytes.now n differs
    ∙ ap (λ shelf. get shelf.files n) c.self.view_is

pub returns-clause-ok : goal.returns-clause-ok
returns-clause-ok c =
    ap (λ shelf. get shelf.files c.args.name.now) c.in_ok-place.ensures.ok
    ∙ get-insert_same (files_of c.self.inside.files) c.args.name.now c.args.bytes.now
