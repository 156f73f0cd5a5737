-- Passes, part by part.
use Rattle.std.proofs.Common.{◌≡◌, ◌≢◌, ℕ, suc, ◌+◌, ◌<◌, ◌≤◌, ◌⊎◌, inl, inr, Bool, true, false, true≢false, if◌then◌else◌, Option, Some, None, List, [], ◌∷◌, ◌++◌, length, refl, sym, ap, ◌∙◌, subst, arith, length-append}
use Rattle.std.specs.Prelude.{◌&&◌, ◌||◌, not, slice_get, slice_index_or}
use Rattle.std.specs.declared.vec.Vec.{Vec}
use Rattle.std.specs.declared.alloc.Global.{Global}
use Rattle.std.proofs.lemmas.Bool.{and_parts, cases_eq}
use Rattle.std.proofs.lemmas.Option.{same_Some, slice_get_within}
use Rattle.places.specs.declared.flow.Assignment.{Assignment}
use Rattle.graph_core.specs.Graphs.{Instruction, End, Block, Graph}
use Rattle.graph_core.specs.Uses.{reads_of_end, target_of, targets_of}
use Rattle.graph_core.specs.Validity.{place_behind}
use Rattle.graph_core.specs.Paths.{Among, reads, writes}
use Rattle.graph_paths.specs.declared.marks.Marks.{Marks}
use Rattle.graph_paths.specs.PathMarksTable.{bits_of}
use Rattle.graph_paths.specs.Reached.{AreLed}
use Rattle.dead_pass_rule.specs.Asking.{is_going, is_gone, IsAsked, TellsAsked}
use Rattle.dead_pass_rule.specs.Cascade.{AllGo, AllNeeded, AllStay, AreAllAsked, AreNeeded, Cascades, GoesOneMore, HasRow, HasTurn, HaveRows, IsSound, staying, WalksBack}
use Rattle.dead_pass_rule.specs.Certified.{IsFree}
use Rattle.dead_pass_rule.specs.Free.{AreFree, AreNamed}
use Rattle.dead_pass_rule.specs.Walks.{AreSameBut, AreTold, IsTable, IsToldOfOne, turn_of}
use Rattle.dead_pass_rule.proofs.Cascading.{going_one, needed_next, over_going, over_less}
use Rattle.dead_pass_rule.proofs.Walking.{asked_first, asked_next, table_but, tells_first, tells_next, walked_going}

or_none : (a b : Bool) → (a || b) ≡ false → (a ≡ false) × (b ≡ false)
or_none true b q = absurd (true≢false q)
or_none false b q = (refl, q)

-- there is a turn for each instruction of a block that has its row
has_turn : (row : Option (Vec ℕ Global)) (b : Block) (left : ℕ) → HasRow row b → left < length b.instructions → HasTurn row left
has_turn None b left have lt = absurd have
has_turn (Some row) b left have lt = (let counts : length row.items ≡ length b.instructions = have in omega (arith, counts, lt))

-- what is behind an instruction is less than the block
left_within : (b : Block) (before rest : List Instruction) (i : Instruction) → b.instructions ≡ before ++ i ∷ rest → length rest < length b.instructions
left_within b before rest i parts =
    (let counts : length b.instructions ≡ length (before ++ i ∷ rest) = ap (λ (l : List Instruction). length l) parts in
    let sums : length (before ++ i ∷ rest) ≡ length before + length (i ∷ rest) = length-append before (i ∷ rest) in
    omega (arith, counts, sums))

module _ (assignments : List Assignment) (g : Graph) where
  -- nothing is done
  pub cascades_none : (turns : List (Vec ℕ Global)) (marks : Marks) → IsSound assignments g turns marks → Cascades assignments g turns marks turns marks false
  cascades_none turns marks sound = record {
    sound = sound;
    fewer = λ q. absurd (true≢false (sym q));
    same = λ q. refl;
    less = λ n x lt told. told;
  }

  -- one part is done after another
  pub cascades_on : (turns middle last : List (Vec ℕ Global)) (marks between behind : Marks) (one two : Bool) → Cascades assignments g turns marks middle between one → Cascades assignments g middle between last behind two
      → Cascades assignments g turns marks last behind (one || two)
  cascades_on turns middle last marks between behind one two first second = record {
    sound = second.sound;
    fewer = fewer one two first second;
    same = λ q. (let none = or_none one two q in second.same none.1 ∙ first.same none.0);
    less = λ n x lt told. first.less n x lt (second.less n x lt told);
  }
    where
      fewer : (a b : Bool) → Cascades assignments g turns marks middle between a → Cascades assignments g middle between last behind b → (a || b) ≡ true → staying last < staying turns
      fewer true true f s q = (let x = f.fewer refl in let y = s.fewer refl in omega (arith, x, y))
      fewer true false f s q = (let x = f.fewer refl in let y : staying last ≡ staying middle = ap (λ (l : List (Vec ℕ Global)). staying l) (s.same refl) in omega (arith, x, y))
      fewer false true f s q = (let x : staying middle ≡ staying turns = ap (λ (l : List (Vec ℕ Global)). staying l) (f.same refl) in let y = s.fewer refl in omega (arith, x, y))
      fewer false false f s q = absurd (true≢false (sym q))

  -- where less is told of blocks, what is told is asked for still
  pub asked_less : (turns : List (Vec ℕ Global)) (marks less : Marks) → ((n x : ℕ) → n < length g.blocks → bits_of less n x ≡ true → bits_of marks n x ≡ true) → AreAllAsked g turns marks → AreAllAsked g turns less
  asked_less turns marks less lower are n x lt named told = are n x lt named (lower n x lt told)

  -- where each write is needed that stays, in each block to which a path comes, all shall stay
  pub all_stay : (turns : List (Vec ℕ Global)) (led : ℕ → Bool) → ((n : ℕ) → n < length g.blocks → led n ≡ true → AllNeeded assignments g (turn_of turns) n) → AllStay assignments g (turn_of turns) led
  all_stay turns led needed n b before rest i at parts stays reached free =
      needed n (slice_get_within g.blocks n b at) reached b at before rest i parts (left_within b before rest i parts) stays free

  -- THE WALK BACK over a block to which a path comes.
  module _ (led : ℕ → Bool) (are : AreLed g.blocks led) (n : ℕ) (b : Block) (at : slice_get g.blocks n ≡ Some b) (turns : List (Vec ℕ Global)) (marks : Marks) where
    pub walk_begins : IsSound assignments g turns marks → (now : Marks) → IsTable (length g.blocks) g.name_count now → AreSameBut (length g.blocks) marks now
        → ((l : ℕ) → l < length g.blocks → Among l (targets_of b.end) → (x : ℕ) → x < g.name_count → bits_of marks l x ≡ true → bits_of now (length g.blocks) x ≡ true)
        → ((x : ℕ) → x < g.name_count → Among x (reads_of_end b.end) → bits_of now (length g.blocks) x ≡ true)
        → ((x : ℕ) → x < g.name_count → bits_of now (length g.blocks) x ≡ true → Among x (reads_of_end b.end) ⊎ IsToldOfOne (length g.blocks) b.end marks x)
        → WalksBack assignments g n b turns marks [] turns now false
    walk_begins sound now table others come read only = record {
      table = table;
      others = others;
      rows = sound.rows;
      goes = sound.goes;
      told = sound.told;
      tells = tells_first (turn_of turns) (length g.blocks) g.name_count n b.end marks now come read;
      fewer = λ q. absurd (true≢false (sym q));
      same = λ q. refl;
      asked = λ q asked. asked_first (turn_of turns) (length g.blocks) g.name_count n b.end marks now only g.blocks asked;
      needed = λ q asked before rest i parts lt. absurd (omega (arith, lt));
    }

    -- one instruction more, whose write goes or stays
    module _ (reached : led n ≡ true) (named : AreNamed g.blocks g.name_count) (flags : List Bool) (free : AreFree assignments g b flags)
        (before rest : List Instruction) (i : Instruction) (parts : b.instructions ≡ before ++ i ∷ rest) (may_go : Bool) (flag : may_go ≡ slice_index_or flags (length before) false)
        (old new : List (Vec ℕ Global)) (now more : Marks) (is_less : Bool) (gone : Bool) (is : gone ≡ is_gone (turn_of new) n (length rest) i)
        (others : AreSameBut (length g.blocks) now more) (same_count : more.count ≡ now.count) (same_width : more.width ≡ now.width)
        (step : (x : ℕ) → x < g.name_count → bits_of more (length g.blocks) x ≡ ((not gone && reads x i) || (not (writes x i) && bits_of now (length g.blocks) x)))
        (walk : WalksBack assignments g n b turns marks rest old now is_less) where
      others_on : AreSameBut (length g.blocks) marks more
      others_on other bit ne = others other bit ne ∙ walk.others other bit ne

      -- it goes, since it may and nothing asks for its name
      walk_goes : GoesOneMore old new n (length rest) → may_go ≡ true → ((x : ℕ) → target_of i ≡ Some x → bits_of now (length g.blocks) x ≡ false) → WalksBack assignments g n b turns marks (i ∷ rest) new more true
      walk_goes one may unasked = record {
        table = table_but (length g.blocks) g.name_count now more walk.table same_count same_width others;
        others = others_on;
        rows = one.rows g.blocks walk.rows;
        goes = going_one assignments g g.name_count led are (turn_of old) (turn_of new) (λ x m. bits_of marks m x) walk.told walk.goes n b before rest i at parts one.only reached is_free
            (named n b before rest i is_free.x at parts is_free.target)
            (subst (λ v. TellsAsked (turn_of old) (λ l. bits_of marks l is_free.x) (length g.blocks) is_free.x n v rest b.end) (unasked is_free.x is_free.target) (walk.tells is_free.x (named n b before rest i is_free.x at parts is_free.target)));
        told = over_going assignments g g.name_count led are (turn_of old) (turn_of new) (λ x m. bits_of marks m x) one.kept walk.told;
        tells = tells_next (turn_of new) (length g.blocks) g.name_count n b.end marks now more i rest gone is step
            (walked_going (turn_of old) (turn_of new) (length g.blocks) g.name_count n b.end marks now rest one.kept walk.tells);
        fewer = λ q. fewer is_less walk;
        same = λ q. absurd (true≢false q);
        asked = λ q. absurd (true≢false q);
        needed = λ q. absurd (true≢false q);
      }
        where
          is_free : IsFree assignments g (place_behind before b.place) i
          is_free = (free before rest i parts).0 (sym flag ∙ may)

          fewer : (less : Bool) → WalksBack assignments g n b turns marks rest old now less → staying new < staying turns
          fewer true w = (let x = w.fewer refl in let y = one.fewer in omega (arith, x, y))
          fewer false w = (let x : staying old ≡ staying turns = ap (λ (l : List (Vec ℕ Global)). staying l) (w.same refl) in let y = one.fewer in omega (arith, x, y))

      -- it stays, since it may not go, or goes already, or something asks for its name
      walk_stays : new ≡ old → (may_go ≡ true → HasTurn (slice_get old n) (length rest) → is_going (turn_of old) n (length rest) ≡ false → (x : ℕ) → target_of i ≡ Some x → bits_of now (length g.blocks) x ≡ true)
          → WalksBack assignments g n b turns marks (i ∷ rest) new more is_less
      walk_stays kept asks = record {
        table = table_but (length g.blocks) g.name_count now more walk.table same_count same_width others;
        others = others_on;
        rows = subst (λ l. HaveRows g.blocks l) (sym kept) walk.rows;
        goes = subst (λ l. AllGo assignments g (turn_of l)) (sym kept) walk.goes;
        told = subst (λ l. AreTold (turn_of l) g.blocks g.name_count marks) (sym kept) walk.told;
        tells = tells_next (turn_of new) (length g.blocks) g.name_count n b.end marks now more i rest gone is step
            (subst (λ l. (x : ℕ) → x < g.name_count → TellsAsked (turn_of l) (λ m. bits_of marks m x) (length g.blocks) x n (bits_of now (length g.blocks) x) rest b.end) (sym kept) walk.tells);
        fewer = λ q. subst (λ l. staying l < staying turns) (sym kept) (walk.fewer q);
        same = λ q. kept ∙ walk.same q;
        asked = λ q are_asked. asked_next (turn_of turns) (length g.blocks) g.name_count n b.end marks now more i rest gone (is ∙ ap (λ l. is_gone (turn_of l) n (length rest) i) (kept ∙ walk.same q)) step g.blocks (walk.asked q are_asked);
        needed = λ q are_asked. needed_next assignments g (turn_of turns) n b before rest i parts (λ stays may. asked_here q are_asked stays may) (walk.needed q are_asked);
      }
        where
          asked_here : is_less ≡ false → AreAllAsked g turns marks → is_going (turn_of turns) n (length rest) ≡ false → (may : IsFree assignments g (place_behind before b.place) i) → IsAsked (turn_of turns) g.blocks may.x n rest b.end
          asked_here q are_asked stays may =
              let stays_now : is_going (turn_of old) n (length rest) ≡ false = ap (λ l. is_going (turn_of l) n (length rest)) (walk.same q) ∙ stays in
              let there : HasTurn (slice_get old n) (length rest) = has_turn (slice_get old n) b (length rest) (walk.rows n b at) (left_within b before rest i parts) in
              let told : bits_of now (length g.blocks) may.x ≡ true = asks (flag ∙ (free before rest i parts).1 may) there stays_now may.x may.target in
              walk.asked q are_asked may.x (named n b before rest i may.x at parts may.target) told

      pub walk_on : (went : Bool) → (went ≡ true → GoesOneMore old new n (length rest)) → (went ≡ true → may_go ≡ true) → (went ≡ true → (x : ℕ) → target_of i ≡ Some x → bits_of now (length g.blocks) x ≡ false)
          → (went ≡ false → new ≡ old) → (went ≡ false → may_go ≡ true → HasTurn (slice_get old n) (length rest) → is_going (turn_of old) n (length rest) ≡ false → (x : ℕ) → target_of i ≡ Some x → bits_of now (length g.blocks) x ≡ true)
          → WalksBack assignments g n b turns marks (i ∷ rest) new more (is_less || went)
      walk_on true one may unasked same asks = subst (λ r. WalksBack assignments g n b turns marks (i ∷ rest) new more r) (sym (right_true is_less)) (walk_goes (one refl) (may refl) (unasked refl))
        where
          right_true : (a : Bool) → (a || true) ≡ true
          right_true true = refl
          right_true false = refl
      walk_on false one may unasked same asks = subst (λ r. WalksBack assignments g n b turns marks (i ∷ rest) new more r) (sym (right_false is_less)) (walk_stays (same refl) (asks refl))
        where
          right_false : (a : Bool) → (a || false) ≡ a
          right_false true = refl
          right_false false = refl

    -- what is told of the block becomes what it was and the walk tells
    module _ (new : List (Vec ℕ Global)) (now more : Marks) (is_less : Bool) (walk : WalksBack assignments g n b turns marks b.instructions new now is_less)
        (there : (bit : ℕ) → bits_of more n bit ≡ (bits_of now (length g.blocks) bit && bits_of now n bit)) (rows : (other bit : ℕ) → other ≢ n → bits_of more other bit ≡ bits_of now other bit)
        (same_count : more.count ≡ now.count) (same_width : more.width ≡ now.width) where
      within : n < length g.blocks
      within = slice_get_within g.blocks n b at

      here : (x : ℕ) → bits_of more n x ≡ (bits_of now (length g.blocks) x && bits_of marks n x)
      here x = there x ∙ ap (λ v. bits_of now (length g.blocks) x && v) (walk.others n x (λ q. omega (arith, q, within)))

      elsewhere : (x m : ℕ) → m < length g.blocks → m ≢ n → bits_of more m x ≡ bits_of marks m x
      elsewhere x m lt other = rows m x other ∙ walk.others m x (λ q. omega (arith, q, lt))

      pub cascades_back : Cascades assignments g turns marks new more is_less
      cascades_back = record {
        sound = record {
          rows = walk.rows;
          goes = walk.goes;
          table = record {
            count = same_count ∙ walk.table.count;
            width = same_width ∙ walk.table.width;
            zero_row = λ bit. rows (length g.blocks + 1) bit (λ q. omega (arith, q, within)) ∙ walk.table.zero_row bit;
          };
          told = over_less assignments g g.name_count led are (turn_of new) (λ x m. bits_of marks m x) (λ x m. bits_of more m x) n b at (λ x. bits_of now (length g.blocks) x) walk.tells here elsewhere walk.told;
        };
        fewer = walk.fewer;
        same = walk.same;
        less = less;
      }
        where
          less : (m x : ℕ) → m < length g.blocks → bits_of more m x ≡ true → bits_of marks m x ≡ true
          less m x lt told = elim (cases_eq m n) [
            | inr other ↦ sym (elsewhere x m lt other) ∙ told
            | inl same ↦ ap (λ k. bits_of marks k x) same ∙ (and_parts (bits_of now (length g.blocks) x) (bits_of marks n x) (sym (here x) ∙ ap (λ k. bits_of more k x) (sym same) ∙ told)).1
          ]

      pub needed_back : is_less ≡ false → AreAllAsked g turns marks → AllNeeded assignments g (turn_of turns) n
      needed_back q asked c there_too = subst (λ (d : Block). AreNeeded assignments g (turn_of turns) n (length d.instructions) d) (same_Some b c (sym at ∙ there_too)) (walk.needed q asked)

-- fewer writes stay, or it was the last pass
pub falls : (old new : List (Vec ℕ Global)) (was is_less : Bool) → was ≡ true → (is_less ≡ true → staying new < staying old) → (is_less ≡ false → new ≡ old) → staying new + (if is_less then 1 else 0) < staying old + (if was then 1 else 0)
falls old new was true on fewer same = (let one : ◌≡◌ {A = ℕ} (if was then 1 else 0) 1 = ap (λ (z : Bool). if z then 1 else 0) on in let less = fewer refl in omega (arith, one, less))
falls old new was false on fewer same =
    (let one : ◌≡◌ {A = ℕ} (if was then 1 else 0) 1 = ap (λ (z : Bool). if z then 1 else 0) on in
    let counts : staying new ≡ staying old = ap (λ (l : List (Vec ℕ Global)). staying l) (same refl) in omega (arith, one, counts))

-- one block more is gone over
pub needed_on : (assignments : List Assignment) (g : Graph) (led : ℕ → Bool) (turns middle : List (Vec ℕ Global)) (marks between : Marks) (one two : Bool) (count passed number : ℕ) → number + passed + 1 ≡ count
    → Cascades assignments g turns marks middle between one
    → (one ≡ false → AreAllAsked g turns marks → (m : ℕ) → m < count → count ≤ m + passed → led m ≡ true → AllNeeded assignments g (turn_of turns) m)
    → (two ≡ false → AreAllAsked g middle between → led number ≡ true → AllNeeded assignments g (turn_of middle) number)
    → (one || two) ≡ false → AreAllAsked g turns marks → (m : ℕ) → m < count → count ≤ m + (passed + 1) → led m ≡ true → AllNeeded assignments g (turn_of turns) m
needed_on assignments g led turns middle marks between one two count passed number at first before here none asked m lt le reached = elim (cases_eq m number) [
  | inr other ↦ before (or_none one two none).0 asked m lt (omega (arith, le, at, other)) reached
  | inl same ↦ (let kept : middle ≡ turns = first.same (or_none one two none).0 in
      let asked_between : AreAllAsked g middle between = subst (λ l. AreAllAsked g l between) (sym kept) (asked_less assignments g turns marks between first.less asked) in
      let needed : AllNeeded assignments g (turn_of middle) number = here (or_none one two none).1 asked_between (ap led (sym same) ∙ reached) in
      subst (λ k. AllNeeded assignments g (turn_of turns) k) (sym same) (subst (λ l. AllNeeded assignments g (turn_of l) number) kept needed))
]

-- where nothing goes, nothing goes that shall not
pub none_gone : (assignments : List Assignment) (g : Graph) (turns : List (Vec ℕ Global)) → ((n left : ℕ) → is_going (turn_of turns) n left ≡ false) → AllGo assignments g (turn_of turns)
none_gone assignments g turns none n b before rest i at parts going = absurd (true≢false (sym going ∙ none n (length rest)))
