use Rattle.std.proofs.Common.{◌∙◌, Some, ap, sym}
use Rattle.std.specs.Option.{option_map}
use Rattle.outside.proofs.FilesLemmas.{get-files_of}
use Rattle.outside.proofs.memory_shelf.MemShelf.held.Goals as goal

pub returns-in-None : goal.returns-in-None
returns-in-None c =
    rw (← c.self.view_is) (ap (option_map (λ v. v.items)) c.in-None.ensures.value ∙ sym (get-files_of c.self.inside.files c.args.name.now))

pub returns-in-Some : goal.returns-in-Some
returns-in-Some c =
    rw (← c.self.view_is) (ap Some c.as_slice.ensures.value ∙ ap (option_map (λ v. v.items)) c.in-Some.ensures.value ∙ sym (get-files_of c.self.inside.files c.args.name.now))
