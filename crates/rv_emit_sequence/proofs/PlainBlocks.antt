-- Blocks as they stand where nothing is held.
use Rattle.std.proofs.Common.{◌≡◌, ◌<◌, ◌≤◌, ◌+◌, ℕ, Bool, Some, List, [], ◌∷◌, ◌++◌, length, map, slice_get, slice_index, refl, sym, ap, ◌∙◌, subst, arith, append_assoc}
use Rattle.std.specs.List.{AllByRecursion}
use Rattle.std.proofs.lemmas.List.{length_push}
use Rattle.graph_core.specs.Graphs.{Block, Graph}
use Rattle.graph_core.specs.Paths.{Among, front, behind}
use Rattle.rv_emit_sequence.specs.Sequences.{Ground, SequenceForm, Standing, counted, plainly, AreInARow, AreOnce, HasEnd, IsSequenceOf, IsStanding, begun, ended, with_standing}
use Rattle.rv_emit_sequence.proofs.Standing.{sequence_is}

count_is : (n : ℕ) → n < 4294967295 → counted n ≡ n
count_is n low = omega (arith, low)

-- Their numbers go up by one.
plain_above : (blocks : List Block) (n m : ℕ) → n + length blocks < 4294967295 → Among m (map (λ (x : Standing). x.number) (plainly n blocks)) → n ≤ m
plain_above [] n m low there = elim there [ ]
plain_above (b ∷ more) n _ low front = omega arith
plain_above (b ∷ more) n m low (behind there) =
    let next : counted (n + 1) ≡ n + 1 = count_is (n + 1) (omega (arith, low)) in
    let later : counted (n + 1) ≤ m = plain_above more (counted (n + 1)) m (omega (arith, low, next)) there in
    omega (arith, later, next)

plain_once : (blocks : List Block) (n : ℕ) → n + length blocks < 4294967295 → AreOnce (map (λ (x : Standing). x.number) (plainly n blocks))
plain_once [] n low = tt
plain_once (b ∷ more) n low =
    let next : counted (n + 1) ≡ n + 1 = count_is (n + 1) (omega (arith, low)) in
    ((λ there. let above : counted (n + 1) ≤ n = plain_above more (counted (n + 1)) n (omega (arith, low, next)) there in absurd (omega (arith, above, next))), plain_once more (counted (n + 1)) (omega (arith, low, next)))

plain_low : (blocks : List Block) (n all : ℕ) → n + length blocks ≡ all → all < 4294967295 → AllByRecursion (λ m. m < all) (map (λ (x : Standing). x.number) (plainly n blocks))
plain_low [] n all e low = tt
plain_low (b ∷ more) n all e low =
    let next : counted (n + 1) ≡ n + 1 = count_is (n + 1) (omega (arith, low, e)) in
    (omega (arith, e), plain_low more (counted (n + 1)) all (omega (arith, e, next)) low)

plain_length : (blocks : List Block) (n : ℕ) → length (map (λ (x : Standing). x.number) (plainly n blocks)) ≡ length blocks
plain_length [] n = refl
plain_length (b ∷ more) n = omega (arith, plain_length more (counted (n + 1)))

plain_first : (blocks : List Block) → slice_index (map (λ (x : Standing). x.number) (plainly 0 blocks)) 0 ≡ 0
plain_first [] = refl
plain_first (b ∷ more) = refl

-- Each is followed by the next one, and the last one by the end.
plain_row : (e : ℕ) (blocks : List Block) (n : ℕ) → n + length blocks ≡ e → e < 4294967295 → AreInARow e (plainly n blocks)
plain_row e [] n last low = tt
plain_row e (b ∷ []) n last low = (let next : counted (n + 1) ≡ e = omega (arith, low, last) in next, tt)
plain_row e (b ∷ c ∷ more) n last low =
    let next : counted (n + 1) ≡ n + 1 = count_is (n + 1) (omega (arith, low, last)) in
    (refl, plain_row e (c ∷ more) (counted (n + 1)) (omega (arith, last, next)) low)

get_behind : (before : List Block) (b : Block) (more : List Block) (n : ℕ) → length before ≡ n → slice_get (before ++ b ∷ more) n ≡ Some b
get_behind [] b more n e = subst (λ k. slice_get (b ∷ more) k ≡ Some b) e refl
get_behind (x ∷ before) b more n e = subst (λ k. slice_get (x ∷ (before ++ b ∷ more)) k ≡ Some b) e (get_behind before b more (length before) refl)

plain_standing : (g : Ground) (before blocks : List Block) (n : ℕ) → length before ≡ n → n + length blocks < 4294967295 → AllByRecursion (IsStanding g (before ++ blocks) (λ m. [])) (plainly n blocks)
plain_standing g before [] n e low = tt
plain_standing g before (b ∷ more) n e low =
    let next : counted (n + 1) ≡ n + 1 = count_is (n + 1) (omega (arith, low)) in
    let count : length (before ++ b ∷ []) ≡ n + 1 = length_push before b ∙ ap (λ k. k + 1) e in (
      record {
        block = get_behind before b more n e;
        known = refl;
        loads = tt;
        leads = λ l to x there. elim there [ ];
      },
      subst (λ all. AllByRecursion (IsStanding g all (λ m. [])) (plainly (counted (n + 1)) more)) (append_assoc before (b ∷ []) more)
          (plain_standing g (before ++ b ∷ []) more (counted (n + 1)) (count ∙ sym next) (omega (arith, low, next))),
    )

-- That is a sequence of the function.
pub plain_sequence : (g : Ground) (f : Graph) (is_main : Bool) (s t : SequenceForm) → s ≡ with_standing g (plainly 0 f.blocks) (begun g f is_main) → t ≡ ended g s → HasEnd g f → IsSequenceOf g f is_main t
plain_sequence g f is_main s t put e end =
    sequence_is g f is_main (λ n. []) (map (λ (x : Standing). x.number) (plainly 0 f.blocks)) s t end (λ n. tt) refl
    (record { all = plain_length f.blocks 0; first = plain_first f.blocks; low = plain_low f.blocks 0 (length f.blocks) (omega arith) few; once = plain_once f.blocks 0 (omega (arith, few)) })
    (record { standing = plainly 0 f.blocks; order = refl; next = plain_row g.end f.blocks 0 (omega (arith, last)) (omega (arith, last, few)); all = plain_standing g [] f.blocks 0 refl (omega (arith, few)); pieces = put })
    e
  where
    last : g.end ≡ length f.blocks
    last = end.label

    few : length f.blocks < 4294967295
    few = end.few
