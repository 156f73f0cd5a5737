use Rattle.std.proofs.Common.{suc, sym, subst, map, ◌∙◌}
use Rattle.std.specs.Prelude.{IfSome}
use Rattle.graph_core.specs.Graphs.{Block, block_view, instruction_view, scalar_view}
use Rattle.copy_pass_rule.specs.Flow.{AreKnownIn, AreRead, IsReadBlock, unled, missing_in}
use Rattle.graph_paths.specs.PathMarksTable.{bits_of}
use Rattle.copy_pass_rule.proofs.Standing.{known_from}
use Rattle.copy_pass_rule.proofs.Walked.{block_led}
use Rattle.copy_pass_rule.proofs.blocks.read_block.Goals as goal

pub returns-then-not-get-clause-read : goal.returns-then-not-get-clause-read
returns-then-not-get-clause-read c =
    subst (λ (b : Block). IsReadBlock (map scalar_view c.args.scalars.now) c.args.copies.now.all.now (bits_of c.args.starts.now) c.args.number (block_view c.args.block.now) b) (sym c.in_ok-same.ensures) (unled (sym c.get.ensures ∙ c.if-not-get.true))

pub returns-clause-read : goal.returns-clause-read
returns-clause-read c =
    let scalars = map scalar_view c.args.scalars.now in
    let read = subst (λ o. IfSome o (λ made. AreRead scalars c.args.copies.now.all.now c.args.number (map instruction_view c.args.block.now.instructions.items) (missing_in (bits_of c.copy_from.new.self) 0) (map instruction_view made.items) (missing_in (bits_of c.read_instructions.new.walk) 0)))
    c.in-Some.is
    (subst (λ xs. IfSome c.in_ok-instructions.field-0 (λ made. AreRead scalars c.args.copies.now.all.now c.args.number (map instruction_view xs) (missing_in (bits_of c.copy_from.new.self) 0) (map instruction_view made.items) (missing_in (bits_of c.read_instructions.new.walk) 0)))
    c.deref.ensures.value c.in_ok-instructions.ensures.read) in
    block_led scalars c.args.copies.now.all.now (bits_of c.args.starts.now) c.args.number (block_view c.args.block.now) (map instruction_view c.in-Some.instructions.items) (missing_in (bits_of c.copy_from.new.self) 0) (missing_in (bits_of c.read_instructions.new.walk) 0) _
    (sym c.get.ensures ∙ c.if-not-get.false) (λ k. c.copy_from.ensures.there _) read c.read_end.ensures

pub returns-in_default-clause-none : goal.returns-in_default-clause-none
returns-in_default-clause-none c = λ e.
    (let scalars = map scalar_view c.args.scalars.now in
    let copies = c.args.copies.now.all.now in
    let here = missing_in (bits_of c.copy_from.new.self) 0 in
    record {
      led = sym c.get.ensures ∙ c.if-not-get.false;
      unknown = λ known. c.in_ok-instructions.ensures.none c.in_default.is
          (subst (λ xs. AreKnownIn scalars copies c.args.number (map instruction_view xs) here) (sym c.deref.ensures.value)
          (known_from scalars copies c.args.number (map instruction_view c.args.block.now.instructions.items) here
          (missing_in (bits_of c.args.starts.now) c.args.number) (λ k. c.copy_from.ensures.there (suc k)) known));
    })
