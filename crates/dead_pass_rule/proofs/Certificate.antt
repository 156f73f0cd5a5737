-- Writes that go, one after the other, are those that go by the rule.
use Rattle.std.proofs.Common.{◌≡◌, ℕ, ◌+◌, ◌<◌, ◌⊎◌, inl, inr, Bool, true, false, true≢false, Option, Some, None, List, [], ◌∷◌, ◌++◌, length, refl, sym, ap, ◌∙◌, subst, arith}
use Rattle.std.specs.Prelude.{◌↔◌, ◌==◌, ◌&&◌, ◌||◌, not, slice_get}
use Rattle.std.proofs.lemmas.Bool.{and_parts, or_parts}
use Rattle.std.proofs.lemmas.Option.{same_Some, slice_get_within}
use Rattle.graph_core.specs.declared.value.Value.TheVariants.{Odd}
use Rattle.places.specs.declared.flow.Assignment.{Assignment}
use Rattle.graph_core.specs.Graphs.{Instruction, End, Block, Graph}
use Rattle.graph_core.specs.Uses.{target_of, targets_of, reads_of, reads_of_end, is_computation}
use Rattle.graph_core.specs.Validity.{place_behind}
use Rattle.graph_core.specs.Paths.{Passed, History, Among, Way, stays, passes, goes, reads, writes}
use Rattle.graph_core.specs.Points.{StandsWith, some_passed, ReadsNext}
use Rattle.graph_paths.specs.Reached.{IsReached, AreLed}
use Rattle.graph_paths.proofs.Points.{reached_on, reached_behind, point_reached, path_at, IsAt}
use Rattle.dead_pass_rule.specs.Idle.{is_computed_next, MayGo, IsIdle, idle, Goes}
use Rattle.dead_pass_rule.specs.Asking.{Turns, is_going, is_gone, asks, IsAsked, by_end, next, later, leads, TellsAsked}
use Rattle.dead_pass_rule.specs.Certified.{IsFree, AreIdle}
use Rattle.dead_pass_rule.specs.Cascade.{AllGo, AllStay}
use Rattle.dead_pass_rule.proofs.ReadNames.{among_reads, reads_among}

both : (one two : Bool) → one ≡ true → two ≡ true → (one && two) ≡ true
both true two p q = q
both false two p q = absurd (true≢false (sym p))

module _ (turns : Turns) (blocks : List Block) where
  -- what tells at least so much tells more
  pub tells_more : (told : ℕ → Bool) (count x n : ℕ) (here more : Bool) (rest : List Instruction) (e : End) → (here ≡ true → more ≡ true) → TellsAsked turns told count x n here rest e → TellsAsked turns told count x n more rest e
  tells_more told count x n here more [] e f tells = ((λ among. f (tells.0 among)), (λ l lt to was. f (tells.1 l lt to was)))
  tells_more told count x n here more (i ∷ rest) e f tells = ((λ a. f (tells.0 a)), (λ w. tells_more told count x n here more rest e f (tells.1 w)))

  -- what is told of blocks may be less
  pub tells_less : (told less : ℕ → Bool) (count x n : ℕ) (here : Bool) (rest : List Instruction) (e : End) → ((l : ℕ) → l < count → less l ≡ true → told l ≡ true) → TellsAsked turns told count x n here rest e → TellsAsked turns less count x n here rest e
  tells_less told less count x n here [] e f tells = (tells.0, (λ l lt to was. tells.1 l lt to (f l lt was)))
  tells_less told less count x n here (i ∷ rest) e f tells = (tells.0, (λ w. tells_less told less count x n here rest e f (tells.1 w)))

  -- what two tell both tell
  pub tells_both : (told : ℕ → Bool) (count x n : ℕ) (one two : Bool) (rest : List Instruction) (e : End) → TellsAsked turns told count x n one rest e → TellsAsked turns told count x n two rest e → TellsAsked turns told count x n (one && two) rest e
  tells_both told count x n one two [] e a b = (
    (λ among. both one two (a.0 among) (b.0 among)),
    (λ l lt to was. both one two (a.1 l lt to was) (b.1 l lt to was)),
  )
  tells_both told count x n one two (i ∷ rest) e a b = ((λ q. both one two (a.0 q) (b.0 q)), (λ w. tells_both told count x n one two rest e (a.1 w) (b.1 w)))

-- where more goes, less asks
asks_less : (turns more : Turns) → ((m k : ℕ) → is_going turns m k ≡ true → is_going more m k ≡ true) → (n left : ℕ) (i : Instruction) (x : ℕ) → asks more n left i x ≡ true → asks turns n left i x ≡ true
asks_less turns more goes_on n left i x a = by (is_going turns n left) refl
  where
    stays_less : (p q r : Bool) → (p ≡ true → q ≡ true) → (not (q && r)) ≡ true → (not (p && r)) ≡ true
    stays_less true q r f e = subst (λ z. not (z && r) ≡ true) (f refl) e
    stays_less false q r f e = refl

    by : (z : Bool) → is_going turns n left ≡ z → asks turns n left i x ≡ true
    by z q = (let parts = and_parts (not (is_gone more n left i)) (reads x i) a in
        both (not (is_gone turns n left i)) (reads x i) (stays_less (is_going turns n left) (is_going more n left) (is_computation i) (goes_on n left) parts.0) parts.1)

pub tells_on_going : (turns more : Turns) → ((m k : ℕ) → is_going turns m k ≡ true → is_going more m k ≡ true) → (told : ℕ → Bool) (count x n : ℕ) (here : Bool) (rest : List Instruction) (e : End) → TellsAsked turns told count x n here rest e → TellsAsked more told count x n here rest e
tells_on_going turns more f told count x n here [] e tells = tells
tells_on_going turns more f told count x n here (i ∷ rest) e tells = ((λ a. tells.0 (asks_less turns more f n (length rest) i x a)), (λ w. tells_on_going turns more f told count x n here rest e (tells.1 w)))

module _ (assignments : List Assignment) (g : Graph) (turns : Turns) (names : ℕ) (led : ℕ → Bool) (are : AreLed g.blocks led) where
  module _ (told : (x n : ℕ) → Bool) (asked : (n x : ℕ) (b : Block) → slice_get g.blocks n ≡ Some b → x < names → TellsAsked turns (told x) (length g.blocks) x n (told x n) b.instructions b.end) (went : AllGo assignments g turns) where
    abbrev Tells : (x n : ℕ) → Bool → List Instruction → End → Type 0
    Tells x n here rest e = TellsAsked turns (told x) (length g.blocks) x n here rest e

    -- what is told at a point is told of all points to which ways lead
    tells_on : (x : ℕ) → x < names → {n : ℕ} {rest : List Instruction} {e : End} (here : Bool) → Tells x n here rest e → {h : History} {m : ℕ} {left : List Instruction} {f : End} → Way g n rest e h m left f → some_passed (writes x) h ≡ false → Tells x m here left f
    tells_on x lt here tells stays none = tells
    tells_on x lt here tells (passes {h} {n} {i} {left} {e} way v) none =
        let parts = or_parts (writes x i) (some_passed (writes x) h) none in
        (tells_on x lt here tells way parts.1).1 parts.0
    tells_on x lt here tells (goes {h} {n} {l} {e} way to b at) none =
        let old = tells_on x lt here tells way none in
        let within : l < length g.blocks = slice_get_within g.blocks l b at in
        tells_more turns g.blocks (told x) (length g.blocks) x l (told x l) here b.instructions b.end (λ q. old.1 l within to q) (asked l x b at lt)

    -- where nothing asks, what reads is a computation that goes
    gone_next : (n : ℕ) (i : Instruction) (rest : List Instruction) (e : End) (x : ℕ) → Tells x n false (i ∷ rest) e → Among x (reads_of i) → is_gone turns n (length rest) i ≡ true
    gone_next n i rest e x tells among = at_test (is_gone turns n (length rest) i) refl
      where
        at_test : (z : Bool) → is_gone turns n (length rest) i ≡ z → is_gone turns n (length rest) i ≡ true
        at_test true q = q
        at_test false q = absurd (true≢false (sym (tells.0 (ap (λ z. not z && reads x i) q ∙ among_reads x i among))))

    -- WHAT IS NOT ASKED FOR MAY GO. A write that may go, to which a path comes, and for whose name nothing asks behind it that stays, shall go.
    pub shall_go : (n : ℕ) (b : Block) (before rest : List Instruction) (i : Instruction) → slice_get g.blocks n ≡ Some b → b.instructions ≡ before ++ i ∷ rest → led n ≡ true → (free : IsFree assignments g (place_behind before b.place) i) → free.x < names
        → Tells free.x n false rest b.end → Goes assignments g n (i ∷ rest) b.end
    shall_go n b before rest i at parts reached free named unasked = record { reached = here; idle = is_idle }
      where
        here : IsReached g n (i ∷ rest) b.end
        here = point_reached g led are n b before (i ∷ rest) at parts reached

        behind_here : IsReached g n rest b.end
        behind_here = reached_behind here Odd

        read_by : (h : History) (m : ℕ) (left : List Instruction) (f : End) → Way g n rest b.end h m left f → some_passed (writes free.x) h ≡ false → ReadsNext free.x left f → (is_computed_next left ≡ true) × IsIdle assignments g m left f
        read_by h m [] f way none read = absurd (true≢false (sym ((tells_on free.x named false unasked way none).0 read)))
        read_by h m (j ∷ left) f way none read =
            let gone : is_gone turns m (length left) j ≡ true = gone_next m j left f free.x (tells_on free.x named false unasked way none) read in
            let two = and_parts (is_going turns m (length left)) (is_computation j) gone in
            let there = path_at g led are (reached_on behind_here way).path in
            let is : Goes assignments g m (j ∷ left) there.block.end = went m there.block there.before left j there.is there.instructions two.0 in
            (two.1, subst (λ k. IsIdle assignments g m (j ∷ left) k) (sym there.ends) is.idle)

        is_idle : IsIdle assignments g n (i ∷ rest) b.end
        is_idle = idle (record { block = b; before = before; is = at; instructions = parts; ends = refl; place = free.in_place }) free.target free.may_go
            (λ h m left f way none read. (read_by h m left f way none read).0) (λ h m left f way none read. (read_by h m left f way none read).1)

  module _ (needed : AllStay assignments g turns led) where
    -- A way on to what asks for a name.
    pub record Asks (n : ℕ) (rest : List Instruction) (e : End) (x : ℕ) : Type 0 where
      pub history : History
      pub block : ℕ
      pub left : List Instruction
      pub end : End
      pub way : Way g n rest e history block left end
      pub unwritten : some_passed (writes x) history ≡ false
      pub read : ReadsNext x left end
      pub stays : is_computed_next left ≡ true → (j : Instruction) (after : List Instruction) → left ≡ j ∷ after → is_going turns block (length after) ≡ false

    stays_so : (a b : Bool) → not (a && b) ≡ true → b ≡ true → a ≡ false
    stays_so true true e q = absurd (true≢false (sym e))
    stays_so true false e q = absurd (true≢false (sym q))
    stays_so false b e q = refl

    way_to : (x : ℕ) {a : ℕ} {start : List Instruction} {d : End} {h : History} {m : ℕ} {left : List Instruction} {f : End} → Way g a start d h m left f → some_passed (writes x) h ≡ false → IsAsked turns g.blocks x m left f → Asks a start d x
    way_to x {h = h} way none (by_end {n} {e} among) = record { history = h; block = n; left = []; end = e; way = way; unwritten = none; read = among; stays = λ is k more q. absurd (true≢false (sym is)) }
    way_to x {h = h} way none (next {n} {i} {rest} {e} ask) =
        let both = and_parts (not (is_gone turns n (length rest) i)) (reads x i) ask in
        record {
          history = h;
          block = n;
          left = i ∷ rest;
          end = e;
          way = way;
          unwritten = none;
          read = reads_among x i both.1;
          stays = λ is k more q. (let is_rest : rest ≡ more = cc in
              subst (λ l. is_going turns n (length l) ≡ false) is_rest (stays_so (is_going turns n (length rest)) (is_computation i) both.0 is));
        }
    way_to x {h = h} way none (later {n} {i} {rest} {e} unwritten asked) = way_to x (passes way Odd) (ap (λ z. z || some_passed (writes x) h) unwritten ∙ none) asked
    way_to x way none (leads b to at asked) = way_to x (goes way to b at) none asked

    -- what stays is not idle where a path comes to it
    never : {n : ℕ} {rest : List Instruction} {e : End} → IsIdle assignments g n rest e → IsReached g n rest e → (i : Instruction) (after : List Instruction) → rest ≡ i ∷ after → is_going turns n (length after) ≡ false → ⊥
    never (idle {n} {i} {rest} {e} {p} {x} stood target may computed read_by) r j after same staying =
        made (λ h m left f way none read reached k more cut stay. never (read_by h m left f way none read) reached k more cut stay) (path_at g led are r.path)
      where
        stays_here : is_going turns n (length rest) ≡ false
        stays_here = (let is_rest : rest ≡ after = cc in subst (λ l. is_going turns n (length l) ≡ false) (sym is_rest) staying)

        made : ((h : History) (m : ℕ) (left : List Instruction) (f : End) → Way g n rest e h m left f → some_passed (writes x) h ≡ false → ReadsNext x left f → IsReached g m left f → (k : Instruction) (more : List Instruction) → left ≡ k ∷ more → is_going turns m (length more) ≡ false → ⊥)
            → IsAt g led are n (i ∷ rest) e → ⊥
        made again s =
            let one_block : s.block ≡ stood.block = same_Some s.block stood.block (sym s.is ∙ stood.is) in
            let free : IsFree assignments g (place_behind stood.before stood.block.place) i = record { p = p; x = x; in_place = stood.place; target = target; may_go = may } in
            let asked : IsAsked turns g.blocks x n rest stood.block.end = needed n stood.block stood.before rest i stood.is stood.instructions stays_here s.told free in
            let asked_here : IsAsked turns g.blocks x n rest e = subst (λ f. IsAsked turns g.blocks x n rest f) (sym stood.ends) asked in
            found (way_to x stays refl asked_here)
          where
            by_left : (a : Asks n rest e x) (left : List Instruction) → a.left ≡ left → ⊥
            by_left a [] q = true≢false (sym (subst (λ l. is_computed_next l ≡ true) q (computed a.history a.block a.left a.end a.way a.unwritten a.read)))
            by_left a (k ∷ more) q =
                let is : is_computed_next a.left ≡ true = computed a.history a.block a.left a.end a.way a.unwritten a.read in
                again a.history a.block a.left a.end a.way a.unwritten a.read (reached_on (reached_behind r Odd) a.way) k more q (a.stays is k more q)

            found : Asks n rest e x → ⊥
            found a = by_left a a.left refl

    -- WHAT STAYS SHALL. Where each write that goes shall, and each other one that may go is asked for, just those go that shall.
    pub are_idle : AllGo assignments g turns → AreIdle assignments g (is_going turns)
    are_idle went = record {
      goes = λ n b before rest i at parts. ((λ going. went n b before rest i at parts going), (λ is. by_test n b before rest i is (is_going turns n (length rest)) refl));
    }
      where
        by_test : (n : ℕ) (b : Block) (before rest : List Instruction) (i : Instruction) → Goes assignments g n (i ∷ rest) b.end → (z : Bool) → is_going turns n (length rest) ≡ z → is_going turns n (length rest) ≡ true
        by_test n b before rest i is true q = q
        by_test n b before rest i is false q = absurd (never is.idle is.reached i rest refl q)
