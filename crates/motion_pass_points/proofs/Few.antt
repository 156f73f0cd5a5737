-- How many computations blocks do, and of what names they are made.
use Rattle.std.proofs.Common.{◌≡◌, ℕ, suc, ◌+◌, ◌≤◌, Bool, true, false, Option, Some, None, List, [], ◌∷◌, ◌++◌, length, sym, ap, ◌∙◌, arith}
use Rattle.std.specs.Prelude.{if◌then◌else◌}
use Rattle.std.specs.List.{AllByRecursion}
use Rattle.std.proofs.lemmas.List.{length-append}
use Rattle.graph_core.specs.Graphs.{Instruction, Marker, Note, Block}
use Rattle.graph_core.specs.Computations.{Computation, computed_by}
use Rattle.graph_core.specs.Validity.{counts, total}
use Rattle.motion_pass_points.specs.MotionPointsComputing.{computed_along, with_some}
use Rattle.motion_pass_points.specs.Named.{AreNamed, counted_in}
use Rattle.motion_pass_points.specs.Numbers.{AreOnce, none, again, first, computed_in}
use Rattle.base_laws.proofs.Lists.{all_one_more, both_all, parts_all}

-- what is in a list once is no more than the list
pub once_few : {A : Type 0} {list once : List A} → AreOnce list once → length once ≤ length list
once_few none = omega arith
once_few (again {list} {once} {a} k before at) = (let rest = once_few before in let more = length-append list (a ∷ []) in omega (arith, rest, more))
once_few (first {list} {once} {a} before new) = (let rest = once_few before in let more = length-append list (a ∷ []) in let longer = length-append once (a ∷ []) in omega (arith, rest, more, longer))

-- and is so where all of the list is
pub once_all : {A : Type 0} (P : A → Type 0) {list once : List A} → AreOnce list once → AllByRecursion P list → AllByRecursion P once
once_all P none all = tt
once_all P (again {list} {once} {a} k before at) all = once_all P before (parts_all P list (a ∷ []) all).0
once_all P (first {list} {once} {a} before new) all = (let parts = parts_all P list (a ∷ []) all in all_one_more P once a (once_all P before parts.0) parts.1.0)

-- an instruction that computes is counted
one_few : (i : Instruction) (more : List Computation) → length (with_some (computed_by i) more) ≤ counts i + length more
one_few (Marker p) more = omega arith
one_few (Note x v) more = omega arith
one_few _ more = omega arith

pub along_few : (all : List Instruction) → length (computed_along all) ≤ total counts all
along_few [] = omega arith
along_few (i ∷ rest) = (let one = one_few i (computed_along rest) in let more = along_few rest in omega (arith, one, more))

told_few : {A : Type 0} (flag : Bool) (all : List A) → length (if flag then all else []) ≤ length all
told_few true all = omega arith
told_few false all = omega arith

-- what blocks compute is no more than they count
pub blocks_few : (told : ℕ → Bool) (n : ℕ) (blocks : List Block) → length (computed_in told n blocks) ≤ counted_in blocks
blocks_few told n [] = omega arith
blocks_few told n (b ∷ more) =
    (let one = told_few (told n) (computed_along b.instructions) in
    let counted = along_few b.instructions in
    let rest = blocks_few told (n + 1) more in
    let both = length-append (if told n then computed_along b.instructions else []) (computed_in told (n + 1) more) in
    omega (arith, one, counted, rest, both))

told_named : (flag : Bool) (P : Computation → Type 0) (all : List Computation) → AllByRecursion P all → AllByRecursion P (if flag then all else [])
told_named true P all is = is
told_named false P all is = tt

-- what blocks compute is so where what each computes is
pub blocks_all : (P : Computation → Type 0) (told : ℕ → Bool) (n : ℕ) (blocks : List Block) → AllByRecursion (λ (b : Block). AllByRecursion P (computed_along b.instructions)) blocks → AllByRecursion P (computed_in told n blocks)
blocks_all P told n [] all = tt
blocks_all P told n (b ∷ more) all =
    both_all P (if told n then computed_along b.instructions else []) (computed_in told (n + 1) more) (told_named (told n) P (computed_along b.instructions) all.0) (blocks_all P told (n + 1) more all.1)

-- what is ahead, where an instruction that computes comes first
pub one_ahead : (i : Instruction) (e : Computation) (rest all : List Instruction) → computed_by i ≡ Some e → all ≡ i ∷ rest → length (computed_along all) ≡ suc (length (computed_along rest))
one_ahead i e rest all is whole = ap (λ xs. length (computed_along xs)) whole ∙ ap (λ o. length (with_some o (computed_along rest))) is

-- where one comes first that does not
pub none_ahead : (i : Instruction) (rest all : List Instruction) → computed_by i ≡ None → all ≡ i ∷ rest → length (computed_along all) ≡ length (computed_along rest)
none_ahead i rest all is whole = ap (λ xs. length (computed_along xs)) whole ∙ ap (λ o. length (with_some o (computed_along rest))) is

-- where a block comes first
pub block_ahead : (told : ℕ → Bool) (n : ℕ) (b : Block) (rest all : List Block) (flag : Bool) → flag ≡ told n → all ≡ b ∷ rest
    → length (computed_in told n all) ≡ length (if flag then computed_along b.instructions else []) + length (computed_in told (n + 1) rest)
block_ahead told n b rest all flag same whole =
    ap (λ bs. length (computed_in told n bs)) whole ∙ length-append (if told n then computed_along b.instructions else []) (computed_in told (n + 1) rest)
    ∙ ap (λ (f : Bool). length (if f then computed_along b.instructions else []) + length (computed_in told (n + 1) rest)) (sym same)
