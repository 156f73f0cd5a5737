-- What a valid unit has is few, and its names are those of its graphs.
use Rattle.std.proofs.Common.{◌≡◌, ℕ, ◌+◌, ◌<◌, ◌≤◌, ◌^◌, Some, None, List, [], ◌∷◌, ◌++◌, length, map, sym, ap, ◌∙◌, subst, arith}
use Rattle.std.specs.List.{AllByRecursion}
use Rattle.std.specs.List.Sorted.{IsPermutation}
use Rattle.std.proofs.lemmas.List.{length-append, length-map}
use Rattle.std.proofs.lemmas.List.Sorted.{length_permutation}
use Rattle.std.proofs.lemmas.Option.{none-some, same_Some}
use Rattle.memory_map.specs.declared.map.Room.{Room}
use Rattle.memory_map.specs.declared.map.Room.TheVariants.{Small, Large}
use Rattle.places.specs.declared.flow.Assignment.{Assignment}
use Rattle.debug_records.specs.declared.change.Change.{Change}
use Rattle.debug_records.specs.declared.change.Kind.{Kind}
use Rattle.debug_records.specs.declared.change.PassName.{PassName}
use Rattle.graph_core.specs.Bounds.{most_blocks, most_instructions}
use Rattle.graph_core.specs.Graphs.{Instruction, Marker, Note, Move, Operate, Truncate, Same as SameOf, Address, Load, Store, Zero, CopyWords, Call, Block, Graph, UnitForm}
use Rattle.graph_core.specs.Uses.{target_of}
use Rattle.graph_core.specs.Validity.{IsBlock, IsGraph, IsInstruction, total}
use Rattle.base_laws.proofs.Lists.{all_so, all_within, got_one}
use Rattle.pass_law.specs.declared.cases.Case.{Case}
use Rattle.pass_law.specs.Cases as cases
use Rattle.pass_law.specs.Changes.{AreCasesOf}
use Rattle.pass_law.specs.Kept.{EachFunction}
use Rattle.dead_pass_rule.specs.Free.{AreNamed}
use Rattle.dead_pass_notes.specs.declared.idle_graph.IdleGraph.{IdleGraph}
use Rattle.dead_pass_notes.specs.Idle.{IsOf, graph_of}
use Rattle.dead_pass_notes.specs.Writes.{IsRemovedWrite}

pub few_rooms : (room : Room) → (most_blocks room + 2 < 2 ^ 32) × (most_instructions room < 2 ^ 31)
few_rooms Small = (omega arith, omega arith)
few_rooms Large = (omega arith, omega arith)

-- each graph has few blocks where all of them have
pub few_blocks : (gs : List Graph) (most : ℕ) → total (λ (g : Graph). length g.blocks) gs ≤ most → most + 2 < 2 ^ 32 → AllByRecursion (λ (g : Graph). length g.blocks + 2 < 2 ^ 32) gs
few_blocks [] most all few = tt
few_blocks (g ∷ gs) most all few = (omega (arith, all, few), few_blocks gs most (omega (arith, all)) few)

-- the name that an instruction writes is one of its graph
target_named : (u : UnitForm) (g : Graph) (i : Instruction) (x : ℕ) → IsInstruction u g i → target_of i ≡ Some x → x < g.name_count
target_named u g (Marker p) x is q = absurd (none-some x q)
target_named u g (Note y v) x is q = absurd (none-some x q)
target_named u g (Move y a) x is q = subst (λ z. z < g.name_count) (same_Some y x q) is.0
target_named u g (Operate y o a b) x is q = subst (λ z. z < g.name_count) (same_Some y x q) is.0
target_named u g (Truncate y t a) x is q = subst (λ z. z < g.name_count) (same_Some y x q) is.0
target_named u g (SameOf y a b) x is q = subst (λ z. z < g.name_count) (same_Some y x q) is.0
target_named u g (Address y object) x is q = subst (λ z. z < g.name_count) (same_Some y x q) is.0
target_named u g (Load y e l) x is q = subst (λ z. z < g.name_count) (same_Some y x q) is.0
target_named u g (Store e l a) x is q = absurd (none-some x q)
target_named u g (Zero object words) x is q = absurd (none-some x q)
target_named u g (CopyWords object bytes words) x is q = absurd (none-some x q)
target_named u g (Call None f all) x is q = absurd (none-some x q)
target_named u g (Call (Some y) f all) x is q = subst (λ z. z < g.name_count) (same_Some y x q) is.0

named : (u : UnitForm) (g : Graph) → IsGraph u g → AreNamed g.blocks g.name_count
named u g valid n b before rest i x at parts target =
    let block : IsBlock u g b = got_one (IsBlock u g) g.blocks n b valid.blocks at in
    let all : AllByRecursion (IsInstruction u g) (before ++ i ∷ rest) = subst (λ l. AllByRecursion (IsInstruction u g) l) parts block.instructions in
    target_named u g i x (all_within (IsInstruction u g) before i rest all) target

pub all_named : (u : UnitForm) (gs : List Graph) → AllByRecursion (IsGraph u) gs → AllByRecursion (λ (g : Graph). AreNamed g.blocks g.name_count) gs
all_named u gs valid = all_so (IsGraph u) (λ (g : Graph). AreNamed g.blocks g.name_count) (λ g is. named u g is) gs valid

length_logged : (pass : PassName) (kind : Kind) (n : ℕ) (all : List Case) → length (cases.logged pass kind n all) ≡ length all
length_logged pass kind n [] = omega arith
length_logged pass kind n (c ∷ more) = (let rest = length_logged pass kind (n + 1) more in omega (arith, rest))

-- a log with the changes of cases is as much longer
pub log_grown : (pass : PassName) (kind : Kind) (n : ℕ) (old new : List Change) (before after : List Case) → new ≡ old ++ cases.logged pass kind n after → IsPermutation before after → length new ≡ length old + length before
log_grown pass kind n old new before after appended moved =
    let sum = length-append old (cases.logged pass kind n after) in
    let whole = ap (λ (l : List Change). length l) appended in
    let one = length_logged pass kind n after in
    let same = length_permutation before after moved in
    omega (arith, sum, whole, one, same)

-- cases of what is read of a list are those of the list
pub cases_of : (assignments : List Assignment) (before : List Graph) (idle read : List IdleGraph) (all : List Case) → read ≡ idle → map graph_of idle ≡ before → AllByRecursion (IsOf assignments) idle
    → ((a : List Assignment) → AllByRecursion (IsOf a) read → AreCasesOf (λ g h. IsRemovedWrite a g) (map graph_of read) (map graph_of read) all) → AreCasesOf (λ g h. IsRemovedWrite assignments g) before before all
cases_of assignments before idle read all same was of are =
    subst (λ gs. AreCasesOf (λ g h. IsRemovedWrite assignments g) gs gs all) was
    (subst (λ (xs : List IdleGraph). AreCasesOf (λ g h. IsRemovedWrite assignments g) (map graph_of xs) (map graph_of xs) all) same
    (are assignments (subst (λ (xs : List IdleGraph). AllByRecursion (IsOf assignments) xs) (sym same) of)))

-- and so what is made of each
pub made_of : (IsMade : Graph → Graph → Type 0) (before after : List Graph) (idle read : List IdleGraph) → read ≡ idle → map graph_of idle ≡ before → EachFunction IsMade (map graph_of read) after → EachFunction IsMade before after
made_of IsMade before after idle read same was made =
    subst (λ gs. EachFunction IsMade gs after) was (subst (λ (xs : List IdleGraph). EachFunction IsMade (map graph_of xs) after) same made)
