use Rattle.std.proofs.Common.{◌≡◌, ℕ, suc, ◌<◌, Bool, List, length, map, refl, sym, ap, ◌∙◌, subst, arith}
use Rattle.std.specs.Prelude.{IfSome}
use Rattle.std.proofs.lemmas.List.{length-map}
use Rattle.std.proofs.lemmas.Option.{slice_get_within}
use Rattle.graph_core.specs.Graphs.{Instruction, Move, Name, block_view, graph_view, instruction_view, scalar_view}
use Rattle.graph_paths.specs.PathMarksTable.{bits_of}
use Rattle.graph_paths.proofs.Leading.{block_there}
use Rattle.copy_pass_rule.specs.declared.copies.CopyAt.{CopyAt}
use Rattle.copy_pass_rule.specs.Along.{IsPoint, IsReadBy}
use Rattle.copy_pass_rule.specs.Copying.{AreOfOneType}
use Rattle.copy_pass_rule.specs.Flow.{AreFound, line_of, lines_of, missing_in, missing_where}
use Rattle.copy_pass_rule.specs.Known.{IsNoCopy}
use Rattle.copy_pass_rule.proofs.Pointed.{read_at}
use Rattle.copy_pass_rule.proofs.finding.copy_at.Goals as goal

pub returns-in-Some-copy_of : goal.returns-in-Some-copy_of
returns-in-Some-copy_of c =
    let g = graph_view c.args.graph.now in
    let all = c.args.graph.now.blocks.items in
    let n = c.args.number in
    let i = instruction_view c.args.instruction.now in
    let point : IsPoint g n c.args.left i = c.requires.stands in
    let copies = c.in-Some.copies.all.now in
    let bits = bits_of c.in_ok-starts.starts in
    let missing : ℕ → Bool = missing_in (bits_of c.walk_to.new.marks) 0 in
    let same : copies ≡ c.args.found.now = subst (λ o. IfSome o (λ made. made.all.now ≡ c.args.found.now)) c.in-Some.is c.in_ok-copies.ensures.all in
    let found : AreFound (lines_of g.blocks) copies bits = subst (λ xs. AreFound (lines_of (map block_view xs)) copies bits) c.deref.ensures.value c.in_ok-starts.ensures.found in
    let many : length (map block_view all) ≡ length all = length-map all block_view in
    let inside : n < length (map block_view all) = slice_get_within (map block_view all) n point.block point.is in
    let lt : n < length all = omega (arith, inside, many) in
    let b = c.index-block.result.now in
    let made : Instruction = Move c.in-Some-copy_of.target (Name c.in-Some-copy_of.source) in
    let read : IsReadBy g n point.block i point.rest copies made =
    read_at g n c.args.left i point copies bits found missing (block_view b) (block_there block_view all n b lt c.index-block.ensures)
    (λ k d at. c.walk_to.ensures.walked k d at ∙ ap (missing_where d n (suc c.args.left) (line_of (block_view b)).writes) (c.copy_from.ensures.there (suc k))) made (sym c.in-Some-copy_of.ensures.0 ∙ c.in_ok-made.ensures) in
    let typed = subst (λ ss. AreOfOneType (map scalar_view ss) c.in-Some-copy_of.target c.in-Some-copy_of.source) c.deref-2.ensures.value
    c.in-Some-copy_of.ensures.1 in
    record { point = point; read = subst (λ (xs : List CopyAt). IsReadBy g n point.block i point.rest xs made) same read; typed = typed; in_block = refl; there = refl }

pub returns : goal.returns
returns c =
    let g = graph_view c.args.graph.now in
    let all = c.args.graph.now.blocks.items in
    let n = c.args.number in
    let i = instruction_view c.args.instruction.now in
    let point : IsPoint g n c.args.left i = c.requires.stands in
    let copies = c.in-Some.copies.all.now in
    let bits = bits_of c.in_ok-starts.starts in
    let missing : ℕ → Bool = missing_in (bits_of c.walk_to.new.marks) 0 in
    let same : copies ≡ c.args.found.now = subst (λ o. IfSome o (λ made. made.all.now ≡ c.args.found.now)) c.in-Some.is c.in_ok-copies.ensures.all in
    let found : AreFound (lines_of g.blocks) copies bits = subst (λ xs. AreFound (lines_of (map block_view xs)) copies bits) c.deref.ensures.value c.in_ok-starts.ensures.found in
    let many : length (map block_view all) ≡ length all = length-map all block_view in
    let inside : n < length (map block_view all) = slice_get_within (map block_view all) n point.block point.is in
    let lt : n < length all = omega (arith, inside, many) in
    let b = c.index-block.result.now in
    let made : Instruction = instruction_view c.in_ok-made.made in
    let read : IsReadBy g n point.block i point.rest copies made =
    read_at g n c.args.left i point copies bits found missing (block_view b) (block_there block_view all n b lt c.index-block.ensures)
    (λ k d at. c.walk_to.ensures.walked k d at ∙ ap (missing_where d n (suc c.args.left) (line_of (block_view b)).writes) (c.copy_from.ensures.there (suc k))) made c.in_ok-made.ensures in
    let never = subst (λ ss. IsNoCopy (map scalar_view ss) made) c.deref-2.ensures.value c.in-None.ensures in
    record { point = point; made = made; read = subst (λ (xs : List CopyAt). IsReadBy g n point.block i point.rest xs made) same read; never = never }
