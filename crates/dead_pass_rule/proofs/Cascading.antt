-- A pass in which writes go, point by point.
use Rattle.std.proofs.Common.{◌≡◌, ◌≢◌, ℕ, suc, ◌+◌, ◌<◌, ◌⊎◌, inl, inr, Bool, true, false, true≢false, Option, Some, List, [], ◌∷◌, ◌++◌, length, refl, sym, ap, ◌∙◌, subst, arith, length-append}
use Rattle.std.specs.Prelude.{◌&&◌, slice_get}
use Rattle.std.proofs.lemmas.Bool.{cases_eq}
use Rattle.std.proofs.lemmas.Option.{same_Some, slice_get_within}
use Rattle.places.specs.declared.flow.Assignment.{Assignment}
use Rattle.graph_core.specs.Graphs.{Instruction, End, Block, Graph}
use Rattle.graph_core.specs.Validity.{place_behind}
use Rattle.graph_paths.specs.Reached.{AreLed}
use Rattle.dead_pass_rule.specs.Idle.{Goes}
use Rattle.dead_pass_rule.specs.Asking.{Turns, is_going, IsAsked, TellsAsked}
use Rattle.dead_pass_rule.specs.Certified.{IsFree}
use Rattle.dead_pass_rule.specs.Cascade.{AllGo, AllStay, AreNeeded}
use Rattle.dead_pass_rule.proofs.Certificate.{shall_go, tells_both, tells_less, tells_more, tells_on_going}

-- a list is split at one point
pub split_same : (xs ys : List Instruction) (i j : Instruction) (r s : List Instruction) → xs ++ i ∷ r ≡ ys ++ j ∷ s → length r ≡ length s → (xs ≡ ys) × (i ≡ j) × (r ≡ s)
split_same [] [] i j r s q e = (refl, cc, cc)
split_same [] (y ∷ ys) i j r s q e =
    (let counts : length (i ∷ r) ≡ length (y ∷ (ys ++ j ∷ s)) = ap (λ (l : List Instruction). length l) q in
    let more : length (ys ++ j ∷ s) ≡ length ys + length (j ∷ s) = length-append ys (j ∷ s) in
    absurd (omega (arith, counts, more, e)))
split_same (x ∷ xs) [] i j r s q e =
    (let counts : length (x ∷ (xs ++ i ∷ r)) ≡ length (j ∷ s) = ap (λ (l : List Instruction). length l) q in
    let more : length (xs ++ i ∷ r) ≡ length xs + length (i ∷ r) = length-append xs (i ∷ r) in
    absurd (omega (arith, counts, more, e)))
split_same (x ∷ xs) (y ∷ ys) i j r s q e =
    (let front : x ≡ y = cc in
    let back : xs ++ i ∷ r ≡ ys ++ j ∷ s = cc in
    let same = split_same xs ys i j r s back e in
    (ap (λ z. z ∷ xs) front ∙ ap (λ l. y ∷ l) same.0, same.1, same.2))

module _ (assignments : List Assignment) (g : Graph) (names : ℕ) (led : ℕ → Bool) (are : AreLed g.blocks led) where
  -- what is told of the starts of blocks is at least what is asked for there
  abbrev pub AreOver : Turns → (told : (x n : ℕ) → Bool) → Type 0
  AreOver turns told = (n x : ℕ) (b : Block) → slice_get g.blocks n ≡ Some b → x < names → TellsAsked turns (told x) (length g.blocks) x n (told x n) b.instructions b.end

  -- where one more goes that shall, all go that shall
  pub going_one : (old more : Turns) (told : (x n : ℕ) → Bool) → AreOver old told → AllGo assignments g old → (n : ℕ) (b : Block) (before rest : List Instruction) (i : Instruction) → slice_get g.blocks n ≡ Some b → b.instructions ≡ before ++ i ∷ rest
      → ((m k : ℕ) → is_going more m k ≡ true → (is_going old m k ≡ true) ⊎ ((m ≡ n) × (k ≡ length rest))) → led n ≡ true → (free : IsFree assignments g (place_behind before b.place) i) → free.x < names
      → TellsAsked old (told free.x) (length g.blocks) free.x n false rest b.end → AllGo assignments g more
  going_one old more told over went n b before rest i at parts only reached free named unasked m c front left j there cut going = elim (only m (length left) going) [
    | inl was ↦ went m c front left j there cut was
    | inr here ↦ (let one_block : b ≡ c = same_Some b c (sym at ∙ ap (λ k. slice_get g.blocks k) (sym here.0) ∙ there) in
        let split : before ++ i ∷ rest ≡ front ++ j ∷ left = sym parts ∙ ap (λ (d : Block). d.instructions) one_block ∙ cut in
        let same = split_same before front i j rest left split (sym here.1) in
        let shall : Goes assignments g n (i ∷ rest) b.end = shall_go assignments g old names led are told over went n b before rest i at parts reached free named unasked in
        subst (λ k. Goes assignments g k (j ∷ left) c.end) (sym here.0)
        (subst (λ (d : Block). Goes assignments g n (j ∷ left) d.end) one_block
        (subst (λ k. Goes assignments g n (k ∷ left) b.end) same.1
        (subst (λ l. Goes assignments g n (i ∷ l) b.end) same.2 shall))))
  ]

  -- and what is told is enough
  pub over_going : (old more : Turns) (told : (x n : ℕ) → Bool) → ((m k : ℕ) → is_going old m k ≡ true → is_going more m k ≡ true) → AreOver old told → AreOver more told
  over_going old more told kept over n x b at named = tells_on_going old more kept (told x) (length g.blocks) x n (told x n) b.instructions b.end (over n x b at named)

  -- what is told of a block may be what it was and a walk back over it tells
  pub over_less : (turns : Turns) (told less : (x n : ℕ) → Bool) (n : ℕ) (b : Block) → slice_get g.blocks n ≡ Some b → (walk : (x : ℕ) → Bool) → ((x : ℕ) → x < names → TellsAsked turns (told x) (length g.blocks) x n (walk x) b.instructions b.end)
      → ((x : ℕ) → less x n ≡ (walk x && told x n)) → ((x m : ℕ) → m < length g.blocks → m ≢ n → less x m ≡ told x m) → AreOver turns told → AreOver turns less
  over_less turns told less n b at walk walked here others over m x c there named = elim (cases_eq m n) [
    | inr other ↦ subst (λ v. TellsAsked turns (less x) (length g.blocks) x m v c.instructions c.end) (sym (others x m (slice_get_within g.blocks m c there) other)) (lower m (told x m) c.instructions c.end (over m x c there named))
    | inl same ↦ (let one_block : b ≡ c = same_Some b c (sym at ∙ ap (λ k. slice_get g.blocks k) (sym same) ∙ there) in
        let both_tell : TellsAsked turns (told x) (length g.blocks) x n (walk x && told x n) b.instructions b.end = tells_both turns g.blocks (told x) (length g.blocks) x n (walk x) (told x n) b.instructions b.end (walked x named) (over n x b at named) in
        let now : TellsAsked turns (less x) (length g.blocks) x n (less x n) b.instructions b.end =
        subst (λ v. TellsAsked turns (less x) (length g.blocks) x n v b.instructions b.end) (sym (here x)) (lower n (walk x && told x n) b.instructions b.end both_tell) in
        subst (λ k. TellsAsked turns (less x) (length g.blocks) x k (less x k) c.instructions c.end) (sym same)
        (subst (λ (d : Block). TellsAsked turns (less x) (length g.blocks) x n (less x n) d.instructions d.end) one_block now))
  ]
    where
      second : (p q : Bool) → (p && q) ≡ true → q ≡ true
      second true q e = e
      second false q e = absurd (true≢false (sym e))

      no_more : (l : ℕ) → l < length g.blocks → less x l ≡ true → told x l ≡ true
      no_more l lt e = elim (cases_eq l n) [
        | inr other ↦ sym (others x l lt other) ∙ e
        | inl same ↦ subst (λ k. told x k ≡ true) (sym same) (second (walk x) (told x n) (sym (here x) ∙ subst (λ k. less x k ≡ true) same e))
      ]

      lower : (k : ℕ) (v : Bool) (l : List Instruction) (f : End) → TellsAsked turns (told x) (length g.blocks) x k v l f → TellsAsked turns (less x) (length g.blocks) x k v l f
      lower k v l f tells = tells_less turns g.blocks (told x) (less x) (length g.blocks) x k v l f (λ m lt e. no_more m lt e) tells

-- one write more that stays is asked for
pub needed_next : (assignments : List Assignment) (g : Graph) (turns : Turns) (n : ℕ) (b : Block) (before rest : List Instruction) (i : Instruction) → b.instructions ≡ before ++ i ∷ rest
    → (is_going turns n (length rest) ≡ false → (free : IsFree assignments g (place_behind before b.place) i) → IsAsked turns g.blocks free.x n rest b.end) → AreNeeded assignments g turns n (length rest) b → AreNeeded assignments g turns n (suc (length rest)) b
needed_next assignments g turns n b before rest i parts here needed front left j cut lt staying free = elim (cases_eq (length left) (length rest)) [
  | inr other ↦ needed front left j cut (omega (arith, lt, other)) staying free
  | inl same ↦ (let split = split_same before front i j rest left (sym parts ∙ cut) (sym same) in
      let P : List Instruction → Instruction → List Instruction → Type 0 = λ f k l. is_going turns n (length l) ≡ false → (free : IsFree assignments g (place_behind f b.place) k) → IsAsked turns g.blocks free.x n l b.end in
      subst (λ f. P f j left) split.0 (subst (λ k. P before k left) split.1 (subst (λ l. P before i l) split.2 here)) staying free)
]
