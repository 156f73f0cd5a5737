-- Instructions and blocks of which something is left, one by one.
use Rattle.std.proofs.Common.{◌≡◌, ◌+◌, ◌-◌, ◌<◌, ◌≤◌, ℕ, zero, suc, Bool, List, [], ◌∷◌, ◌++◌, length, map, sym, ap, ◌∙◌, subst, arith, append_assoc, get_or, take, drop}
use Rattle.std.proofs.lemmas.List.{length-map}
use Rattle.std.specs.List.{AllByRecursion}
use Rattle.graph_core.specs.Graphs.{NoteValue, Instruction, Note, Block}
use Rattle.dead_pass_rule.specs.Removing.{without}
use Rattle.dead_pass.specs.LeftBy.{IsKeptAs, noted, IsPushed, went, stayed, AreLeftBy, none, gone, kept, IsLeftBlockBy, AreLeftBlocksBy, IsNoteOf, notes}
pub use Rattle.base_laws.proofs.Lists.{append_nil, rest_is}

-- a note of the same scalar
pub kept_note : (x : ℕ) (v : NoteValue) (j : Instruction) → IsNoteOf x j → IsKeptAs (Note x v) j
kept_note x v _ notes = noted

module _ (goes : ℕ → Bool) where
  -- What is still to be gone over, behind what is left so far.
  pub data IsAhead (all ahead left : List Instruction) : Type 0 where
    goes_on : ((later : List Instruction) → AreLeftBy goes ahead later → AreLeftBy goes all (left ++ later)) → IsAhead all ahead left

  pub ahead_first : (all : List Instruction) → IsAhead all all []
  ahead_first all = goes_on (λ later is. is)

  ahead_next : (all ahead left longer : List Instruction) (i : Instruction) → IsPushed (goes (length ahead)) i left longer → IsAhead all (i ∷ ahead) left → IsAhead all ahead longer
  ahead_next all ahead left longer i (went is grown) (goes_on go) =
      goes_on (λ later are. (let P : List Instruction → Type 0 = λ l. AreLeftBy goes all l in subst P (sym (append_assoc left (without i) later) ∙ ap (λ l. l ++ later) (sym grown)) (go (without i ++ later) (gone is are))))
  ahead_next all ahead left longer i (stayed {j} is is_kept grown) (goes_on go) =
      goes_on (λ later are. (let P : List Instruction → Type 0 = λ l. AreLeftBy goes all l in subst P (sym (append_assoc left (j ∷ []) later) ∙ ap (λ l. l ++ later) (sym grown)) (go (j ∷ later) (kept is is_kept are))))

  pub ahead_step : {A : Type 0} (view : A → Instruction) (all left longer : List Instruction) (ahead : List A) (x : A) (count : ℕ) (going : Bool) → 1 ≤ length ahead → x ≡ get_or ahead 0 x → count ≡ length (take (length ahead - 1) (drop 1 ahead)) → going ≡ goes count
      → IsPushed going (view x) left longer → IsAhead all (map view ahead) left → IsAhead all (map view (take (length ahead - 1) (drop 1 ahead))) longer
  ahead_step view all left longer [] x count going le e counts is_going pushed old = absurd (omega (arith, le))
  ahead_step view all left longer (y ∷ ahead) x count going le e counts is_going pushed old =
      let here : IsPushed going (view y) left longer = subst (λ z. IsPushed going (view z) left longer) e pushed in
      let counted : going ≡ goes (length (map view ahead)) = is_going ∙ ap goes (counts ∙ ap (λ l. length l) (rest_is y ahead) ∙ sym (length-map ahead view)) in
      subst (λ zs. IsAhead all (map view zs) longer) (sym (rest_is y ahead)) (ahead_next all (map view ahead) left longer (view y) (subst (λ b. IsPushed b (view y) left longer) counted here) old)

  pub ahead_done : {A : Type 0} (view : A → Instruction) (all left : List Instruction) (ahead : List A) → length ahead < 1 → IsAhead all (map view ahead) left → AreLeftBy goes all left
  ahead_done view all left [] lt (goes_on go) = (let P : List Instruction → Type 0 = λ l. AreLeftBy goes all l in subst P (append_nil left) (go [] none))
  ahead_done view all left (y ∷ ahead) lt old = absurd (omega (arith, lt))

-- The same of blocks, the first of which has this number.
module _ (goes : (block left : ℕ) → Bool) (led : ℕ → Bool) where
  pub data AreAhead (all ahead : List Block) (number : ℕ) (left : List Block) : Type 0 where
    go_on : ((later : List Block) → AreLeftBlocksBy goes led number ahead later → AreLeftBlocksBy goes led 0 all (left ++ later)) → AreAhead all ahead number left

  pub blocks_first : (all : List Block) → AreAhead all all 0 []
  blocks_first all = go_on (λ later is. is)

  pub blocks_step : {A : Type 0} (view : A → Block) (all left longer : List Block) (ahead : List A) (number : ℕ) (x : A) (made : Block) → 1 ≤ length ahead → x ≡ get_or ahead 0 x → longer ≡ left ++ made ∷ [] → IsLeftBlockBy goes led number (view x) made → AreAhead all (map view ahead) number left
      → AreAhead all (map view (take (length ahead - 1) (drop 1 ahead))) (number + 1) longer
  blocks_step view all left longer [] number x made le e grown is old = absurd (omega (arith, le))
  blocks_step view all left longer (y ∷ ahead) number x made le e grown is (go_on go) =
      let here : IsLeftBlockBy goes led number (view y) made = subst (λ z. IsLeftBlockBy goes led number (view z) made) e is in
      subst (λ zs. AreAhead all (map view zs) (number + 1) longer) (sym (rest_is y ahead))
      (go_on (λ later are. (let P : List Block → Type 0 = λ l. AreLeftBlocksBy goes led 0 all l in subst P (sym (append_assoc left (made ∷ []) later) ∙ ap (λ l. l ++ later) (sym grown)) (go (made ∷ later) (here, are)))))

  pub blocks_done : {A : Type 0} (view : A → Block) (all left : List Block) (ahead : List A) (number : ℕ) → length ahead < 1 → AreAhead all (map view ahead) number left → AreLeftBlocksBy goes led 0 all left
  blocks_done view all left [] number lt (go_on go) = (let P : List Block → Type 0 = λ l. AreLeftBlocksBy goes led 0 all l in subst P (append_nil left) (go [] tt))
  blocks_done view all left (y ∷ ahead) number lt old = absurd (omega (arith, lt))

-- one block less is ahead
pub rest_count : {A : Type 0} (ahead : List A) → 1 ≤ length ahead → length (take (length ahead - 1) (drop 1 ahead)) + 1 ≡ length ahead
rest_count [] le = absurd (omega (arith, le))
rest_count (y ∷ ahead) le = (let e = ap (λ l. length l) (rest_is y ahead) in omega (arith, e))

-- what is so of all that is ahead
pub first_of_all : {A : Type 0} (P : A → Type 0) (ahead : List A) (x : A) → 1 ≤ length ahead → x ≡ get_or ahead 0 x → AllByRecursion P ahead → P x
first_of_all P [] x le e all = absurd (omega (arith, le))
first_of_all P (y ∷ ahead) x le e all = subst P (sym e) all.0

pub all_behind : {A : Type 0} (P : A → Type 0) (ahead : List A) → 1 ≤ length ahead → AllByRecursion P ahead → AllByRecursion P (take (length ahead - 1) (drop 1 ahead))
all_behind P [] le all = absurd (omega (arith, le))
all_behind {A} P (y ∷ ahead) le all = (let Q : List A → Type 0 = λ zs. AllByRecursion P zs in subst Q (sym (rest_is y ahead)) all.1)

pub all_unmapped : {A B : Type 0} (P : B → Type 0) (view : A → B) (xs : List A) → AllByRecursion P (map view xs) → AllByRecursion (λ x. P (view x)) xs
all_unmapped P view [] all = tt
all_unmapped P view (x ∷ xs) all = (all.0, all_unmapped P view xs all.1)

pub one_of_all : {A : Type 0} (P : A → Type 0) (all : List A) (k : ℕ) (x : A) → k < length all → x ≡ get_or all k x → AllByRecursion P all → P x
one_of_all P [] k x lt e all = absurd (omega (arith, lt))
one_of_all P (y ∷ more) zero x lt e all = subst P (sym e) all.0
one_of_all P (y ∷ more) (suc k) x lt e all = one_of_all P more k x (omega (arith, lt)) e all.1
