-- What `clap` makes of the words of one job, beside what the form of the job gives.
use Rattle.std.proofs.Common.{arith, refl, sym, ap, ap₂, ◌∙◌, ◌≡◌, ℕ, ◌+◌, ◌<◌, ◌==◌, ◌&&◌, ◌||◌, cond, Bool, true, false, not, zero, suc, List, [], ◌∷◌, ◌++◌, map, length, min, Option, Some, None, true≢false}
use Rattle.std.specs.Prelude.{fold, find, slice_get, option_map, if◌then◌else◌}
use Rattle.std.specs.List.{list_all, list_any}
use Rattle.std.specs.Str.{bytes_eq}
use Rattle.std.proofs.lemmas.Slice.Eq.{bytes_eq-Decides}
use Rattle.clap.proofs.WalkLemmas.{both}
use Rattle.clap.specs.Lexer.{long_of, short_of, usize_max}
use Rattle.clap.specs.Walk.{Held, Row, Rule, Text, Waiting, Walk, at_row, idle, is_pending, option, more_values, settled_rows, used, arg_by_id, arg_by_index, arg_by_long, finished, has_row, nothing_held, settled, walk, walked, with_default}
use Rattle.clap.specs.Simple.{Shape, filled, new_shape, with_index}
use Rattle.clap.specs.Takes.{is_given}
use Rattle.clap.specs.Kinds.{Kinds, or_else}
use Rattle.clap.specs.declared.parser.matches.ValueSource.TheVariants.{CommandLine}
use Rattle.clap.specs.Faults.{check_fault, default_fault, use_fault, defaults_fault, level_fault, settle_fault, turn_fault, walk_fault}
pub use Rattle.command_line.specs.Words.{is_readable, is_fit}
pub use Rattle.command_line.specs.Commands.{option_built, row}
use Rattle.command_line.specs.Words.{JobForm, Use, Uses, is_dashed, is_used, long_word, uses_from, uses_of, with_use}
use Rattle.command_line.specs.Commands.{place_rule}
use Rattle.base_laws.proofs.Booleans.{neither, or_true}

abbrev pub shape : Text → List Rule → Shape
shape name c = record (new_shape name) {
  rules = c;
  disable_help_flag = true;
  disable_help_subcommand = true;
  disable_version_flag = true;
  is_built = true;
}

abbrev pub holding : List Row → Option (Text × List Text) → Held
holding rows pending = record { rows = rows; pending = pending; skip = 0 }

abbrev pub standing : Held → Waiting → ℕ → Walk
standing h waiting position =
    record { held = h; waiting = waiting; position = position; is_trailing = false; stopped = None }

-- a word that is no flag
pub plain_long : (w : Text) → is_dashed w ≡ false → long_of w ≡ None
plain_long [] h = refl
plain_long (c ∷ cs) h = rw h refl

pub plain_short : (w : Text) → is_dashed w ≡ false → short_of w ≡ None
plain_short [] h = refl
plain_short (c ∷ cs) h = rw h refl

pub plain_other : (w : Text) → is_dashed w ≡ false → bytes_eq w (45 ∷ 45 ∷ []) ≡ false
plain_other [] h = refl
plain_other (c ∷ cs) h = rw h refl

abbrev pub place_built : ℕ → Text → Rule
place_built i name = with_index i (filled (place_rule name))

-- a step that refuses
abbrev pub fails : Kinds → Bool
fails [] = false
fails (k ∷ ks) = true

-- ---- what a use leaves

row_new : (id : Text) (change : Row → List Row) (missing : List Row) (us : List Use) → is_used id us ≡ false
    → at_row id change missing (map row us) ≡ map row us ++ missing
row_new id change missing [] h = refl
row_new id change missing (u ∷ us) h =
    let both = neither (bytes_eq u.0 id) (is_used id us) h in
    let here = both.0 in
    rw here (ap (λ (rs : List Row). row u ∷ rs) (row_new id change missing us both.1))

pub has_used : (id : Text) (us : List Use) → has_row id (map row us) ≡ is_used id us
has_used id [] = refl
has_used id (u ∷ us) = ap (λ (b : Bool). bytes_eq u.0 id || b) (has_used id us)

pub given_used : (id : Text) (us : List Use) → is_given id (map row us) ≡ is_used id us
given_used id [] = refl
given_used id (u ∷ us) = go (bytes_eq u.0 id) refl (given_used id us)
  where
    go : (b : Bool) → bytes_eq u.0 id ≡ b → is_given id (map row us) ≡ is_used id us → is_given id (map row (u ∷ us)) ≡ is_used id (u ∷ us)
    go true e rest = rw e refl
    go false e rest = rw e rest

append-none : {X : Type 0} (xs : List X) → xs ++ [] ≡ xs
append-none [] = refl
append-none (x ∷ xs) = ap (λ ys. x ∷ ys) (append-none xs)

map-more : (us : List Use) (u : Use) → map row us ++ row u ∷ [] ≡ map row (us ++ u ∷ [])
map-more [] u = refl
map-more (x ∷ us) u = ap (λ ys. row x ∷ ys) (map-more us u)

used_option : (id v : Text) (us : List Use) → is_used id us ≡ false → used (option_built id) (v ∷ []) (map row us) ≡ map row (us ++ (id, v) ∷ [])
used_option id v us h =
    let same = row_new id (λ _. []) [] us h ∙ append-none (map row us) in
    ap (λ (rs : List Row). at_row id (more_values CommandLine (v ∷ [])) (row (id, v) ∷ []) rs) same ∙ row_new id (more_values CommandLine (v ∷ [])) (row (id, v) ∷ []) us h ∙ map-more us (id, v)

fault_option : (id v : Text) (us : List Use) → is_used id us ≡ false → use_fault false (option_built id) (v ∷ []) (map row us) ≡ []
fault_option id v us h = let e = has_used id us ∙ h in rw e refl

fault_again : (id v : Text) (us : List Use) → is_used id us ≡ true → fails (use_fault false (option_built id) (v ∷ []) (map row us)) ≡ true
fault_again id v us h = let e = has_used id us ∙ h in rw e refl

-- ---- the end of the words

abbrev pub HasNoDefaults : List Rule → Type 0
HasNoDefaults [] = Unit {0}
HasNoDefaults (a ∷ rest) = (a.defaults ≡ []) × HasNoDefaults rest

cond_same : {X : Type 0} (b : Bool) (x : X) → cond b x x ≡ x
cond_same true x = refl
cond_same false x = refl

default_none : (rows : List Row) (a : Rule) → a.defaults ≡ [] → default_fault rows a ≡ []
default_none rows a e = let b = or_true (has_row a.id rows) in rw (e, b) refl

default_kept : (rows : List Row) (a : Rule) → a.defaults ≡ [] → with_default rows a ≡ rows
default_kept rows a e = rw e (cond_same (has_row a.id rows) rows)

defaults_none : (rows : List Row) (c : List Rule) → HasNoDefaults c → defaults_fault rows c ≡ []
unfolding defaults_fault
defaults_none rows [] h = refl
defaults_none rows (a ∷ rest) h =
    ap₂ (λ (x : Kinds) (rs : List Row). or_else x (defaults_fault rs rest)) (default_none rows a h.0) (default_kept rows a h.0) ∙ defaults_none rows rest h.1

defaults_kept : (rows : List Row) (c : List Rule) → HasNoDefaults c → fold with_default rows c ≡ rows
defaults_kept rows [] h = refl
defaults_kept rows (a ∷ rest) h = ap (λ (rs : List Row). fold with_default rs rest) (default_kept rows a h.0) ∙ defaults_kept rows rest h.1

-- ---- the commands of which the rest speaks

pub record IsReady (f : JobForm) (c : List Rule) : Type 0 where
  pub by_long : (n : Text) → arg_by_long c n ≡ option_map option_built (find (λ o. bytes_eq o n) f.options)
  pub by_index : (k : ℕ) → arg_by_index c (k + 1) ≡ option_map (place_built (k + 1)) (slice_get f.places k)
  pub option_id : (n m : Text) → find (λ o. bytes_eq o n) f.options ≡ Some m → arg_by_id c m ≡ Some (option_built m)
  pub place_id : (k : ℕ) (m : Text) → slice_get f.places k ≡ Some m → arg_by_id c m ≡ Some (place_built (k + 1) m)
  pub few : length f.places < 100
  pub no_defaults : HasNoDefaults c
  pub required : (rows : List Row) → list_any (λ (a : Rule). a.required && not (is_given a.id rows)) c ≡ not (list_all (λ p. is_given p rows) f.places)

-- what the words come to, beside what they should
abbrev pub Agrees : Uses → Kinds → List Row → Type 0
Agrees None kinds rows = fails kinds ≡ true
Agrees (Some us) kinds rows = (kinds ≡ []) × (rows ≡ map row us)

agrees_as : (a b : Uses) (x y : Kinds) (r s : List Row) → a ≡ b → x ≡ y → r ≡ s → Agrees b y s → Agrees a x r
agrees_as a b x y r s e f g h = rw (e, f, g) h

pub long_other : (w : Text) (p : Text × Option Text) → long_of w ≡ Some p → bytes_eq w (45 ∷ 45 ∷ []) ≡ false
long_other [] p h = cc
long_other (a ∷ []) p h = go (a == 45) refl
  where
    go : (b : Bool) → (a == 45) ≡ b → bytes_eq (a ∷ []) (45 ∷ 45 ∷ []) ≡ false
    go true e = rw e refl
    go false e = rw e refl
long_other (a ∷ b ∷ []) p h = go (a == 45) (b == 45) refl refl h
  where
    go : (x y : Bool) → (a == 45) ≡ x → (b == 45) ≡ y → long_of (a ∷ b ∷ []) ≡ Some p → bytes_eq (a ∷ b ∷ []) (45 ∷ 45 ∷ []) ≡ false
    go false y e d h = rw e refl
    go true false e d h = rw (e, d) refl
    go true true e d h = let none : long_of (a ∷ b ∷ []) ≡ None = rw (e, d) refl in cc
long_other (a ∷ b ∷ c ∷ cs) p h = go (a == 45) (b == 45) refl refl
  where
    go : (x y : Bool) → (a == 45) ≡ x → (b == 45) ≡ y → bytes_eq (a ∷ b ∷ c ∷ cs) (45 ∷ 45 ∷ []) ≡ false
    go false y e d = rw e refl
    go true false e d = rw (e, d) refl
    go true true e d = rw (e, d) refl

pub readable_long : (w : Text) → is_readable w ≡ true → is_dashed w ≡ true → (p : Text × Option Text) × (long_of w ≡ Some p) × (is_fit (Some p) ≡ true)
readable_long w r d = go (long_of w) refl (rw d at r)
  where
    go : (o : Option (Text × Option Text)) → long_of w ≡ o → is_fit (long_of w) ≡ true → (p : Text × Option Text) × (long_of w ≡ Some p) × (is_fit (Some p) ≡ true)
    go None e h = let h' : false ≡ true = rw e at h in absurd (true≢false (sym h'))
    go (Some p) e h = (p, e, rw e at h)

undashed : (n x : Text) → is_fit (Some (n, Some x)) ≡ true → is_dashed x ≡ false
undashed n x h = go (is_dashed x) h
  where
    go : (b : Bool) → not b ≡ true → b ≡ false
    go true h = absurd (true≢false (sym h))
    go false h = refl

module _ (name : Text) (f : JobForm) (c : List Rule) (ready : IsReady f c) where
  abbrev end_fault : Held → Kinds
  end_fault h = or_else (settle_fault c false h) (or_else (defaults_fault (settled c h).rows c) (check_fault (shape name c) (finished c h) false))

  abbrev pub rest_fault : Walk → List Text → Kinds
  rest_fault w words = or_else (walk_fault (shape name c) [] w words) (or_else [] (end_fault (fold (walked c []) w words).held))

  abbrev pub rest_rows : Walk → List Text → List Row
  rest_rows w words = finished c (fold (walked c []) w words).held

  all_given : (us : List Use) (places : List Text) → list_all (λ p. is_given p (map row us)) places ≡ list_all (λ p. is_used p us) places
  all_given us [] = refl
  all_given us (p ∷ ps) = ap₂ (λ (a b : Bool). a && b) (given_used p us) (all_given us ps)

  -- the end, where what waits is settled
  ends : (us : List Use) (h : Held) → settle_fault c false h ≡ [] → (settled c h).rows ≡ map row us
      → Agrees (if list_all (λ p. is_used p us) f.places then Some us else None) (end_fault h) (finished c h)
  ends us h e r = go (list_all (λ p. is_used p us) f.places) refl
    where
      kept : finished c h ≡ map row us
      kept = defaults_kept (settled c h).rows c ready.no_defaults ∙ r

      missing : list_any (λ (a : Rule). a.required && not (is_given a.id (finished c h))) c ≡ not (list_all (λ p. is_used p us) f.places)
      missing = ap (λ (rs : List Row). list_any (λ (a : Rule). a.required && not (is_given a.id rs)) c) kept ∙ ready.required (map row us)
          ∙ ap not (all_given us f.places)

      go : (b : Bool) → list_all (λ p. is_used p us) f.places ≡ b → Agrees (if list_all (λ p. is_used p us) f.places then Some us else None) (end_fault h) (finished c h)
      go true d =
          let d' = defaults_none (settled c h).rows c ready.no_defaults in
          let m = missing ∙ ap not d in
          let fine : end_fault h ≡ [] = rw (e, d', m) refl in
          rw d (fine, kept)
      go false d =
          let d' = defaults_none (settled c h).rows c ready.no_defaults in
          let m = missing ∙ ap not d in
          let bad : fails (end_fault h) ≡ true = rw (e, d', m) refl in
          rw d bad

  -- ---- one word

  or_bad : (a b : Kinds) → fails a ≡ true → fails (or_else a b) ≡ true
  or_bad [] b h = cc
  or_bad (k ∷ ks) b h = refl

  step_on : (w next : Walk) (word : Text) (ws : List Text) → turn_fault (shape name c) [] w word ≡ [] → walked c [] w word ≡ next
      → (rest_fault w (word ∷ ws) ≡ rest_fault next ws) × (rest_rows w (word ∷ ws) ≡ rest_rows next ws)
  unfolding walk_fault
  step_on w next word ws e n = (
    ap₂ (λ (x : Kinds) (v : Walk). or_else (or_else x (walk_fault (shape name c) [] v ws)) (or_else [] (end_fault (fold (walked c []) v ws).held))) e n,
    ap (λ (v : Walk). rest_rows v ws) n,
  )

  step_bad : (w : Walk) (word : Text) (ws : List Text) → fails (turn_fault (shape name c) [] w word) ≡ true → fails (rest_fault w (word ∷ ws)) ≡ true
  unfolding walk_fault
  step_bad w word ws h = or_bad _ _ (or_bad (turn_fault (shape name c) [] w word) (walk_fault (shape name c) [] (walked c [] w word) ws) h)

  and_false : (b : Bool) → (b && false) ≡ false
  and_false true = refl
  and_false false = refl

  module _ (rows : List Row) (pending : Option (Text × List Text)) (position : ℕ) (w : Text) where
    abbrev now : Walk
    now = standing (holding rows pending) idle position

    plain_stray : is_dashed w ≡ false → arg_by_index c position ≡ None → fails (turn_fault (shape name c) [] now w) ≡ true
    plain_stray h e =
        let l = plain_long w h in
        let s = plain_short w h in
        let o = plain_other w h in
        rw (l, s, o, e) refl

    plain_turn : (i : ℕ) (m : Text) → is_dashed w ≡ false → arg_by_index c position ≡ Some (place_built i m)
        → turn_fault (shape name c) [] now w ≡ settle_fault c false (holding rows pending)
    plain_turn i m h e =
        let l = plain_long w h in
        let s = plain_short w h in
        let o = plain_other w h in
        let no = and_false (is_pending (place_built i m) pending) in
        rw (l, s, o, e, no) refl

    plain_next : (i : ℕ) (m : Text) → is_dashed w ≡ false → arg_by_index c position ≡ Some (place_built i m)
        → walked c [] now w ≡ standing (holding (settled_rows c pending rows) (Some (m, w ∷ []))) idle (min (position + 1) usize_max)
    unfolding walked
    plain_next i m h e =
        let l = plain_long w h in
        let s = plain_short w h in
        let o = plain_other w h in
        let no = and_false (is_pending (place_built i m) pending) in
        rw (l, s, o, e, no) refl

    long_stray : (n : Text) (v : Option Text) → long_of w ≡ Some (n, v) → arg_by_long c n ≡ None → fails (turn_fault (shape name c) [] now w) ≡ true
    long_stray n v l e =
        let o = long_other w (n, v) l in
        rw (l, o, e) refl

    joined_turn : (n x m : Text) → long_of w ≡ Some (n, Some x) → arg_by_long c n ≡ Some (option_built m)
        → turn_fault (shape name c) [] now w ≡ or_else (settle_fault c false (holding rows pending)) (use_fault false (option_built m) (x ∷ []) (settled_rows c pending rows))
    joined_turn n x m l e =
        let o = long_other w (n, Some x) l in
        rw (l, o, e) (or_none _)
      where
        or_none : (a : Kinds) → or_else a [] ≡ a
        or_none [] = refl
        or_none (k ∷ ks) = refl

    joined_next : (n x m : Text) → long_of w ≡ Some (n, Some x) → arg_by_long c n ≡ Some (option_built m)
        → walked c [] now w ≡ standing (holding (used (option_built m) (x ∷ []) (settled_rows c pending rows)) None) idle position
    unfolding walked
    joined_next n x m l e =
        let o = long_other w (n, Some x) l in
        rw (l, o, e) refl

    split_turn : (n m : Text) → long_of w ≡ Some (n, None) → arg_by_long c n ≡ Some (option_built m)
        → turn_fault (shape name c) [] now w ≡ settle_fault c false (holding rows pending)
    split_turn n m l e =
        let o = long_other w (n, None) l in
        rw (l, o, e) (or_none _)
      where
        or_none : (a : Kinds) → or_else a [] ≡ a
        or_none [] = refl
        or_none (k ∷ ks) = refl

    split_next : (n m : Text) → long_of w ≡ Some (n, None) → arg_by_long c n ≡ Some (option_built m)
        → walked c [] now w ≡ standing (holding (settled_rows c pending rows) (Some (m, []))) (option m) position
    unfolding walked
    split_next n m l e =
        let o = long_other w (n, None) l in
        rw (l, o, e) refl

  -- ---- a word where an option waits

  settle_empty : (rows : List Row) (m : Text) → arg_by_id c m ≡ Some (option_built m) → fails (settle_fault c false (holding rows (Some (m, [])))) ≡ true
  settle_empty rows m e = rw e refl

  module _ (rows : List Row) (m : Text) (position : ℕ) (w : Text) (id : arg_by_id c m ≡ Some (option_built m)) where
    abbrev wanting : Walk
    wanting = standing (holding rows (Some (m, []))) (option m) position

    value_turn : is_dashed w ≡ false → turn_fault (shape name c) [] wanting w ≡ []
    value_turn h =
        let l = plain_long w h in
        let s = plain_short w h in
        let o = plain_other w h in
        rw (l, s, o) refl

    value_next : is_dashed w ≡ false → walked c [] wanting w ≡ standing (holding rows (Some (m, w ∷ []))) idle position
    unfolding walked
    value_next h =
        let l = plain_long w h in
        let s = plain_short w h in
        let o = plain_other w h in
        let same = (bytes_eq-Decides m m).1 refl in
        rw (l, s, o, id, same) refl

    value_long : (n : Text) (v : Option Text) (found : Option Text) → long_of w ≡ Some (n, v) → arg_by_long c n ≡ option_map option_built found → fails (turn_fault (shape name c) [] wanting w) ≡ true
    value_long n v None l e =
        let o = long_other w (n, v) l in
        rw (l, o, e) refl
    value_long n None (Some k) l e =
        let o = long_other w (n, None) l in
        rw (l, o, e, id) refl
    value_long n (Some x) (Some k) l e =
        let o = long_other w (n, Some x) l in
        rw (l, o, e, id) refl

  -- ---- a use that was a second one

  next_place : (k : ℕ) (m : Text) → slice_get f.places k ≡ Some m → min (k + 1 + 1) usize_max ≡ k + 1 + 1
  next_place k m e =
      let below : k < length f.places = got k f.places e in
      let few = ready.few in
      omega arith
    where
      got : (k : ℕ) (xs : List Text) → slice_get xs k ≡ Some m → k < length xs
      got k [] e = cc
      got zero (x ∷ xs) e = omega arith
      got (suc k) (x ∷ xs) e = let h = got k xs e in omega arith

  -- what is settled fails, whatever comes next
  fails_after : (rows : List Row) (pending : Option (Text × List Text)) (k : ℕ) (words : List Text) → list_all is_readable words ≡ true
      → fails (settle_fault c false (holding rows pending)) ≡ true → fails (rest_fault (standing (holding rows pending) idle (k + 1)) words) ≡ true
  unfolding walk_fault
  fails_after rows pending k [] good bad = or_bad _ _ bad
  fails_after rows pending k (w ∷ ws) good bad = step_bad (standing (holding rows pending) idle (k + 1)) w ws (go (is_dashed w) refl)
    where
      place : (p : Option Text) → is_dashed w ≡ false → slice_get f.places k ≡ p → fails (turn_fault (shape name c) [] (standing (holding rows pending) idle (k + 1)) w) ≡ true
      place None d e = plain_stray rows pending (k + 1) w d (ready.by_index k ∙ ap (option_map (place_built (k + 1))) e)
      place (Some m) d e = ap fails (plain_turn rows pending (k + 1) w (k + 1) m d (ready.by_index k ∙ ap (option_map (place_built (k + 1))) e)) ∙ bad

      flag : (n : Text) (v found : Option Text) → long_of w ≡ Some (n, v) → find (λ o. bytes_eq o n) f.options ≡ found
          → fails (turn_fault (shape name c) [] (standing (holding rows pending) idle (k + 1)) w) ≡ true
      flag n v None l e = long_stray rows pending (k + 1) w n v l (ready.by_long n ∙ ap (option_map option_built) e)
      flag n None (Some m) l e = ap fails (split_turn rows pending (k + 1) w n m l (ready.by_long n ∙ ap (option_map option_built) e)) ∙ bad
      flag n (Some x) (Some m) l e =
          ap fails (joined_turn rows pending (k + 1) w n x m l (ready.by_long n ∙ ap (option_map option_built) e)) ∙ or_bad _ _ bad

      go : (b : Bool) → is_dashed w ≡ b → fails (turn_fault (shape name c) [] (standing (holding rows pending) idle (k + 1)) w) ≡ true
      go false d = place (slice_get f.places k) d refl
      go true d =
          let p = readable_long w (both (is_readable w) (list_all is_readable ws) good).0 d in
          flag p.0.0 p.0.1 (find (λ o. bytes_eq o p.0.0) f.options) p.1 refl

  -- ---- the walk

  abbrev pub at : Option Text → List Row → Option (Text × List Text) → ℕ → Walk
  at None rows pending k = standing (holding rows pending) idle (k + 1)
  at (Some n) rows pending k = standing (holding rows (Some (n, []))) (option n) (k + 1)

  abbrev pub Stands : Option Text → List Use → List Row → Option (Text × List Text) → Type 0
  Stands None uses rows pending = (settle_fault c false (holding rows pending) ≡ []) × (settled_rows c pending rows ≡ map row uses)
  Stands (Some n) uses rows pending = (rows ≡ map row uses) × (arg_by_id c n ≡ Some (option_built n))

  abbrev Reads : List Text → Type 0
  Reads words = (uses : List Use) (k : ℕ) (waiting : Option Text) (rows : List Row) (pending : Option (Text × List Text)) → Stands waiting uses rows pending
      → Agrees (uses_from f uses k waiting words) (rest_fault (at waiting rows pending k) words) (rest_rows (at waiting rows pending k) words)

  -- a value for the option or the positional m
  module _ (uses : List Use) (m v : Text) (rows : List Row) (is : rows ≡ map row uses) where
    option_stands : arg_by_id c m ≡ Some (option_built m) → is_used m uses ≡ false → Stands None (uses ++ (m, v) ∷ []) rows (Some (m, v ∷ []))
    option_stands id e =
        let fault = fault_option m v uses e in
        let more = used_option m v uses e in
        rw (is, id) (fault, more)

    place_stands : (i : ℕ) → arg_by_id c m ≡ Some (place_built i m) → is_used m uses ≡ false → Stands None (uses ++ (m, v) ∷ []) rows (Some (m, v ∷ []))
    place_stands i id e =
        let fault = fault_option m v uses e in
        let more = used_option m v uses e in
        rw (is, id) (fault, more)

    option_again : arg_by_id c m ≡ Some (option_built m) → is_used m uses ≡ true → fails (settle_fault c false (holding rows (Some (m, v ∷ [])))) ≡ true
    option_again id e = let fault = fault_again m v uses e in rw (is, id) fault

    place_again : (i : ℕ) → arg_by_id c m ≡ Some (place_built i m) → is_used m uses ≡ true → fails (settle_fault c false (holding rows (Some (m, v ∷ [])))) ≡ true
    place_again i id e = let fault = fault_again m v uses e in rw (is, id) fault

  -- the word is refused, and so are the words
  refused : (w : Walk) (word : Text) (ws : List Text) (o : Uses) → o ≡ None → fails (turn_fault (shape name c) [] w word) ≡ true
      → Agrees o (rest_fault w (word ∷ ws)) (rest_rows w (word ∷ ws))
  refused w word ws o none bad = let h = step_bad w word ws bad in rw none h

  -- the word is taken, and the next walk agrees
  taken : (w next : Walk) (word : Text) (ws : List Text) (o p : Uses) → o ≡ p → turn_fault (shape name c) [] w word ≡ [] → walked c [] w word ≡ next
      → Agrees p (rest_fault next ws) (rest_rows next ws) → Agrees o (rest_fault w (word ∷ ws)) (rest_rows w (word ∷ ws))
  taken w next word ws o p same turn step h =
      let on = step_on w next word ws turn step in
      agrees_as o p _ _ _ _ same on.0 on.1 h

  -- a value for the option or the positional m, and then the words after it
  module _ (ws : List Text) (good : list_all is_readable ws ≡ true) (rest : Reads ws) (uses : List Use) (k : ℕ) (m v : Text) (rows : List Row) (is : rows ≡ map row uses) where
    abbrev full : Walk
    full = standing (holding rows (Some (m, v ∷ []))) idle (k + 1)

    option_use : arg_by_id c m ≡ Some (option_built m)
        → Agrees (with_use m v uses (λ us. uses_from f us k None ws)) (rest_fault full ws) (rest_rows full ws)
    option_use id = go (is_used m uses) refl
      where
        go : (b : Bool) → is_used m uses ≡ b → Agrees (with_use m v uses (λ us. uses_from f us k None ws)) (rest_fault full ws) (rest_rows full ws)
        go true e = let h = fails_after rows (Some (m, v ∷ [])) k ws good (option_again uses m v rows is id e) in rw e h
        go false e = let h = rest (uses ++ (m, v) ∷ []) k None rows (Some (m, v ∷ [])) (option_stands uses m v rows is id e) in rw e h

    place_use' : (i : ℕ) → arg_by_id c m ≡ Some (place_built i m)
        → Agrees (with_use m v uses (λ us. uses_from f us k None ws)) (rest_fault full ws) (rest_rows full ws)
    place_use' i id = go (is_used m uses) refl
      where
        go : (b : Bool) → is_used m uses ≡ b → Agrees (with_use m v uses (λ us. uses_from f us k None ws)) (rest_fault full ws) (rest_rows full ws)
        go true e = let h = fails_after rows (Some (m, v ∷ [])) k ws good (place_again uses m v rows is i id e) in rw e h
        go false e = let h = rest (uses ++ (m, v) ∷ []) k None rows (Some (m, v ∷ [])) (place_stands uses m v rows is i id e) in rw e h

  -- a word where an option waits
  value_word : (w : Text) (ws : List Text) → is_readable w ≡ true → list_all is_readable ws ≡ true → Reads ws
      → (uses : List Use) (k : ℕ) (n : Text) (rows : List Row) (pending : Option (Text × List Text)) → Stands (Some n) uses rows pending
      → Agrees (uses_from f uses k (Some n) (w ∷ ws)) (rest_fault (at (Some n) rows pending k) (w ∷ ws)) (rest_rows (at (Some n) rows pending k) (w ∷ ws))
  value_word w ws r good rest uses k n rows pending st = go (is_dashed w) refl
    where
      go : (b : Bool) → is_dashed w ≡ b → Agrees (uses_from f uses k (Some n) (w ∷ ws)) (rest_fault (at (Some n) rows pending k) (w ∷ ws)) (rest_rows (at (Some n) rows pending k) (w ∷ ws))
      go true d =
          let p = readable_long w r d in
          let none : uses_from f uses k (Some n) (w ∷ ws) ≡ None = rw d refl in
          refused (at (Some n) rows pending k) w ws _ none
          (value_long rows n (k + 1) w st.1 p.0.0 p.0.1 (find (λ o. bytes_eq o p.0.0) f.options) p.1 (ready.by_long p.0.0))
      go false d =
          let same : uses_from f uses k (Some n) (w ∷ ws) ≡ with_use n w uses (λ us. uses_from f us k None ws) = rw d refl in
          taken (at (Some n) rows pending k) _ w ws _ _ same (value_turn rows n (k + 1) w st.1 d) (value_next rows n (k + 1) w st.1 d)
          (option_use ws good rest uses k n w rows st.0 st.1)

  -- a word where none waits
  idle_word : (w : Text) (ws : List Text) → is_readable w ≡ true → list_all is_readable ws ≡ true → Reads ws
      → (uses : List Use) (k : ℕ) (rows : List Row) (pending : Option (Text × List Text)) → Stands None uses rows pending
      → Agrees (uses_from f uses k None (w ∷ ws)) (rest_fault (at None rows pending k) (w ∷ ws)) (rest_rows (at None rows pending k) (w ∷ ws))
  idle_word w ws r good rest uses k rows pending st = go (is_dashed w) refl
    where
      place : (p : Option Text) → is_dashed w ≡ false → slice_get f.places k ≡ p → Agrees (uses_from f uses k None (w ∷ ws)) (rest_fault (at None rows pending k) (w ∷ ws)) (rest_rows (at None rows pending k) (w ∷ ws))
      place None d e =
          let none : uses_from f uses k None (w ∷ ws) ≡ None = rw (d, e) refl in
          refused (at None rows pending k) w ws _ none (plain_stray rows pending (k + 1) w d (ready.by_index k ∙ ap (option_map (place_built (k + 1))) e))
      place (Some m) d e =
          let same : uses_from f uses k None (w ∷ ws) ≡ with_use m w uses (λ us. uses_from f us (k + 1) None ws) = rw (d, e) refl in
          let at_k = ready.by_index k ∙ ap (option_map (place_built (k + 1))) e in
          let next = plain_next rows pending (k + 1) w (k + 1) m d at_k
          ∙ ap (λ (p : ℕ). standing (holding (settled_rows c pending rows) (Some (m, w ∷ []))) idle p) (next_place k m e) in
          taken (at None rows pending k) _ w ws _ _ same (plain_turn rows pending (k + 1) w (k + 1) m d at_k ∙ st.0) next
          (place_use' ws good rest uses (k + 1) m w (settled_rows c pending rows) st.1 (k + 1) (ready.place_id k m e))

      joined : (n x m : Text) → is_dashed w ≡ true → long_of w ≡ Some (n, Some x) → is_dashed x ≡ false → find (λ o. bytes_eq o n) f.options ≡ Some m → (b : Bool) → is_used m uses ≡ b → Agrees (uses_from f uses k None (w ∷ ws)) (rest_fault (at None rows pending k) (w ∷ ws)) (rest_rows (at None rows pending k) (w ∷ ws))
      joined n x m d l y e true u =
          let none : uses_from f uses k None (w ∷ ws) ≡ None = rw (d, l, e, y, u) refl in
          let long = ready.by_long n ∙ ap (option_map option_built) e in
          let again = fault_again m x uses u in
          refused (at None rows pending k) w ws _ none
          (ap fails (joined_turn rows pending (k + 1) w n x m l long ∙ ap₂ or_else st.0 (ap (λ (rs : List Row). use_fault false (option_built m) (x ∷ []) rs) st.1)) ∙ again)
      joined n x m d l y e false u =
          let same : uses_from f uses k None (w ∷ ws) ≡ uses_from f (uses ++ (m, x) ∷ []) k None ws = rw (d, l, e, y, u) refl in
          let long = ready.by_long n ∙ ap (option_map option_built) e in
          taken (at None rows pending k) _ w ws _ _ same
          (joined_turn rows pending (k + 1) w n x m l long ∙ ap₂ or_else st.0 (ap (λ (rs : List Row). use_fault false (option_built m) (x ∷ []) rs) st.1 ∙ fault_option m x uses u))
          (joined_next rows pending (k + 1) w n x m l long)
          (rest (uses ++ (m, x) ∷ []) k None (used (option_built m) (x ∷ []) (settled_rows c pending rows)) None
          (refl, ap (λ (rs : List Row). used (option_built m) (x ∷ []) rs) st.1 ∙ used_option m x uses u))

      flag : (n : Text) (v found : Option Text) → is_dashed w ≡ true → long_of w ≡ Some (n, v) → is_fit (Some (n, v)) ≡ true → find (λ o. bytes_eq o n) f.options ≡ found → Agrees (uses_from f uses k None (w ∷ ws)) (rest_fault (at None rows pending k) (w ∷ ws)) (rest_rows (at None rows pending k) (w ∷ ws))
      flag n v None d l y e =
          let none : uses_from f uses k None (w ∷ ws) ≡ None = rw (d, l, e) refl in
          refused (at None rows pending k) w ws _ none (long_stray rows pending (k + 1) w n v l (ready.by_long n ∙ ap (option_map option_built) e))
      flag n (Some x) (Some m) d l y e = joined n x m d l (undashed n x y) e (is_used m uses) refl
      flag n None (Some m) d l y e =
          let same : uses_from f uses k None (w ∷ ws) ≡ uses_from f uses k (Some m) ws = rw (d, l, e) refl in
          let long = ready.by_long n ∙ ap (option_map option_built) e in
          taken (at None rows pending k) _ w ws _ _ same (split_turn rows pending (k + 1) w n m l long ∙ st.0)
          (split_next rows pending (k + 1) w n m l long)
          (rest uses k (Some m) (settled_rows c pending rows) (Some (m, [])) (st.1, ready.option_id n m e))

      go : (b : Bool) → is_dashed w ≡ b → Agrees (uses_from f uses k None (w ∷ ws)) (rest_fault (at None rows pending k) (w ∷ ws)) (rest_rows (at None rows pending k) (w ∷ ws))
      go false d = place (slice_get f.places k) d refl
      go true d =
          let p = readable_long w r d in
          flag p.0.0 p.0.1 (find (λ o. bytes_eq o p.0.0) f.options) d p.1 p.2 refl

  pub agrees : (words : List Text) → list_all is_readable words ≡ true → Reads words
  unfolding walk_fault
  agrees [] good uses k None rows pending st = ends uses (holding rows pending) st.0 st.1
  agrees [] good uses k (Some n) rows pending st = or_bad _ _ (settle_empty rows n st.1)
  agrees (w ∷ ws) good uses k None rows pending st =
      let parts = both (is_readable w) (list_all is_readable ws) good in
      idle_word w ws parts.0 parts.1 (agrees ws parts.1) uses k rows pending st
  agrees (w ∷ ws) good uses k (Some n) rows pending st =
      let parts = both (is_readable w) (list_all is_readable ws) good in
      value_word w ws parts.0 parts.1 (agrees ws parts.1) uses k n rows pending st

  -- a parse of the words of a job, by its own level
  pub level_agrees : (words : List Text) → list_all is_readable words ≡ true
      → Agrees (uses_of f words) (level_fault (shape name c) [] nothing_held words false []) (finished c (walk c [] nothing_held words).held)
  level_agrees words good = agrees words good [] 0 None [] None (refl, refl)
