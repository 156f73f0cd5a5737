-- The commands of the jobs, and the command above them.
use Rattle.std.proofs.Common.{arith, refl, sym, ap, ap₂, subst, ◌∙◌, ◌≡◌, ℕ, ◌+◌, ◌<◌, ◌==◌, ◌&&◌, ◌||◌, Bool, true, false, not, zero, suc, List, [], ◌∷◌, ◌++◌, map, length, Option, Some, None, codes}
use Rattle.std.specs.Prelude.{find, is_some, slice_get, option_map}
use Rattle.std.specs.List.{list_all, list_any}
use Rattle.std.specs.Str.{bytes_eq}
use Rattle.std.proofs.lemmas.Bool.{eq-eqb}
use Rattle.std.proofs.lemmas.Slice.Eq.{bytes_eq-Decides}
use Rattle.std.proofs.lemmas.Bool.Decides.{nat_tests}
use Rattle.clap.specs.Walk.{Row, Rule, Text, Walk, arg_by_id, arg_by_index, arg_by_long}
use Rattle.clap.specs.Simple.{Shape}
use Rattle.clap.specs.Takes.{is_given}
use Rattle.command_line.specs.Words.{JobForm, Jobs, job_named}
use Rattle.clap.specs.Walk.{answers_to, finished, nothing_held, rows_after, settled, stop_after, walk, walk_from, walked}
use Rattle.clap.specs.Simple.{App, entered, label_of, names_of, new_shape, rows_at}
use Rattle.clap.specs.Kinds.{Kinds, or_else}
use Rattle.clap.specs.Faults.{built_fault, check_fault, settle_fault, defaults_fault, entered_fault, level_fault, turn_fault, walk_fault}
use Rattle.clap.proofs.FaultLemmas.{stopped_fault}
use Rattle.clap.proofs.WalkLemmas.{walk_stopped}
use Rattle.command_line.specs.Words.{is_dashed}
use Rattle.command_line.proofs.OneJobLemmas.{fails, is_readable, long_other, plain_long, plain_other, plain_short, readable_long, shape, HasNoDefaults, IsReady, option_built, place_built}

abbrev pub places_from : ℕ → List Text → List Rule
places_from i [] = []
places_from i (p ∷ ps) = place_built i p ∷ places_from (suc i) ps

abbrev pub rules_of : JobForm → List Rule
rules_of f = map option_built f.options ++ places_from 1 f.places

no_long : (n : Text) (i : ℕ) (ps : List Text) → arg_by_long (places_from i ps) n ≡ None
no_long n i [] = refl
no_long n i (p ∷ ps) = no_long n (suc i) ps

find_long : (n : Text) (os ps : List Text) → arg_by_long (map option_built os ++ places_from 1 ps) n ≡ option_map option_built (find (λ o. bytes_eq o n) os)
find_long n [] ps = no_long n 1 ps
find_long n (o ∷ os) ps = go (bytes_eq o n) refl (find_long n os ps)
  where
    go : (b : Bool) → bytes_eq o n ≡ b → arg_by_long (map option_built os ++ places_from 1 ps) n ≡ option_map option_built (find (λ o. bytes_eq o n) os)
        → arg_by_long (map option_built (o ∷ os) ++ places_from 1 ps) n ≡ option_map option_built (find (λ o. bytes_eq o n) (o ∷ os))
    go true e rest = rw e refl
    go false e rest = rw e rest

eqb_same : (i j : ℕ) → i ≡ j → (i == j) ≡ true
eqb_same i j e = eq-eqb i j e

eqb_other : (i j : ℕ) → i < j → (i == j) ≡ false
eqb_other i j h = grind (arith, nat_tests)

find_place : (i j k : ℕ) (ps : List Text) → j ≡ i + k → arg_by_index (places_from i ps) j ≡ option_map (place_built j) (slice_get ps k)
find_place i j k [] e = refl
find_place i j zero (p ∷ ps) e = let h : i ≡ j = omega arith in let t = eqb_same i j h in rw t (ap (λ n. Some (place_built n p)) h)
find_place i j (suc k) (p ∷ ps) e = let h : i < j = omega arith in let t = eqb_other i j h in let e' : j ≡ suc i + k = omega arith in rw t (find_place (suc i) j k ps e')

past_options : (j : ℕ) (os ps : List Text) → arg_by_index (map option_built os ++ places_from 1 ps) j ≡ arg_by_index (places_from 1 ps) j
past_options j [] ps = refl
past_options j (o ∷ os) ps = past_options j os ps

no_defaults_places : (i : ℕ) (ps : List Text) → HasNoDefaults (places_from i ps)
no_defaults_places i [] = tt
no_defaults_places i (p ∷ ps) = (refl, no_defaults_places (suc i) ps)

no_defaults_all : (os ps : List Text) → HasNoDefaults (map option_built os ++ places_from 1 ps)
no_defaults_all [] ps = no_defaults_places 1 ps
no_defaults_all (o ∷ os) ps = (refl, no_defaults_all os ps)

not_and : (a b : Bool) → (not a || not b) ≡ not (a && b)
not_and true b = refl
not_and false b = refl

required_places : (rows : List Row) (i : ℕ) (ps : List Text)
    → list_any (λ (a : Rule). a.required && not (is_given a.id rows)) (places_from i ps) ≡ not (list_all (λ p. is_given p rows) ps)
required_places rows i [] = refl
required_places rows i (p ∷ ps) = ap (λ (b : Bool). not (is_given p rows) || b) (required_places rows (suc i) ps) ∙ not_and (is_given p rows) (list_all (λ p. is_given p rows) ps)

required_all : (rows : List Row) (os ps : List Text)
    → list_any (λ (a : Rule). a.required && not (is_given a.id rows)) (map option_built os ++ places_from 1 ps) ≡ not (list_all (λ p. is_given p rows) ps)
required_all rows [] ps = required_places rows 1 ps
required_all rows (o ∷ os) ps = required_all rows os ps

-- a fact of each name
abbrev pub Each : (Text → Type 0) → List Text → Type 0
Each P [] = Unit {0}
Each P (x ∷ xs) = P x × Each P xs

abbrev pub EachFrom : (ℕ → Text → Type 0) → ℕ → List Text → Type 0
EachFrom P i [] = Unit {0}
EachFrom P i (x ∷ xs) = P i x × EachFrom P (suc i) xs

found_one : (P : Text → Type 0) (test : Text → Bool) (xs : List Text) → Each P xs → (m : Text) → find test xs ≡ Some m → P m
found_one P test [] all m e = cc
found_one P test (x ∷ xs) all m e = go (test x) refl (found_one P test xs all.1 m)
  where
    go : (b : Bool) → test x ≡ b → (find test xs ≡ Some m → P m) → P m
    go true t rest = let here : Some x ≡ Some m = rw t at e in let same : x ≡ m = cc in subst P same all.0
    go false t rest = rest (rw t at e)

found_place : (P : ℕ → Text → Type 0) (i j k : ℕ) (xs : List Text) → EachFrom P i xs → (m : Text) → j ≡ i + k → slice_get xs k ≡ Some m → P j m
found_place P i j k [] all m h e = cc
found_place P i j zero (x ∷ xs) all m h e =
    let same : x ≡ m = cc in
    let at : i ≡ j = omega arith in
    subst (λ (n : ℕ). P n m) at (subst (P i) same all.0)
found_place P i j (suc k) (x ∷ xs) all m h e = let h' : j ≡ suc i + k = omega arith in found_place P (suc i) j k xs all.1 m h' e

-- the rules of a form in which no name stands twice
pub ready : (f : JobForm) → length f.places < 100 → Each (λ m. arg_by_id (rules_of f) m ≡ Some (option_built m)) f.options
    → EachFrom (λ i m. arg_by_id (rules_of f) m ≡ Some (place_built i m)) 1 f.places → IsReady f (rules_of f)
ready f few options places = record {
  by_long = λ n. find_long n f.options f.places;
  by_index = λ k. past_options (k + 1) f.options f.places ∙ find_place 1 (k + 1) k f.places (omega arith);
  option_id = λ n m e. found_one (λ m. arg_by_id (rules_of f) m ≡ Some (option_built m)) (λ o. bytes_eq o n) f.options options m e;
  place_id = λ k m e. found_place (λ i m. arg_by_id (rules_of f) m ≡ Some (place_built i m)) 1 (k + 1) k f.places places m (omega arith) e;
  few = few;
  no_defaults = no_defaults_all f.options f.places;
  required = λ rows. required_all rows f.options f.places;
}

-- ---- the command above the jobs

abbrev pub top_shape : Text → Shape
top_shape name = record (new_shape name) {
  is_leaf = false;
  disable_help_flag = true;
  disable_help_subcommand = true;
  disable_version_flag = true;
  subcommand_required = true;
  is_built = true;
}

abbrev pub sub_of : Text × JobForm → Shape
sub_of j = shape j.0 (rules_of j.1)

abbrev pub app : Text → Jobs → App
app name jobs = record { top = top_shape name; subs = map sub_of jobs }

or_fails : (a b : Kinds) → fails a ≡ true → fails (or_else a b) ≡ true
or_fails [] b h = cc
or_fails (k ∷ ks) b h = refl

or_empty : (a : Kinds) → or_else a [] ≡ a
or_empty [] = refl
or_empty (k ∷ ks) = refl

module _ (name : Text) (jobs : Jobs) where
  abbrev names : List (Text × List Text)
  names = names_of (app name jobs)

  find_name : (w : Text) (js : Jobs) → find (answers_to w) (map label_of (map sub_of js)) ≡ option_map (λ j. (j.0, [])) (job_named js w)
  find_name w [] = refl
  find_name w (j ∷ js) = go (bytes_eq j.0 w) refl (find_name w js)
    where
      go : (b : Bool) → bytes_eq j.0 w ≡ b → find (answers_to w) (map label_of (map sub_of js)) ≡ option_map (λ j. (j.0, [])) (job_named js w)
          → find (answers_to w) (map label_of (map sub_of (j ∷ js))) ≡ option_map (λ j. (j.0, [])) (job_named (j ∷ js) w)
      go true e rest = rw e refl
      go false e rest = rw e rest

  find_sub : (w : Text) (js : Jobs) → find (λ (s : Shape). answers_to w (label_of s)) (map sub_of js) ≡ option_map sub_of (job_named js w)
  find_sub w [] = refl
  find_sub w (j ∷ js) = go (bytes_eq j.0 w) refl (find_sub w js)
    where
      go : (b : Bool) → bytes_eq j.0 w ≡ b → find (λ (s : Shape). answers_to w (label_of s)) (map sub_of js) ≡ option_map sub_of (job_named js w)
          → find (λ (s : Shape). answers_to w (label_of s)) (map sub_of (j ∷ js)) ≡ option_map sub_of (job_named (j ∷ js) w)
      go true e rest = rw e refl
      go false e rest = rw e rest

  -- no words
  pub no_words : fails (built_fault (app name jobs) nothing_held []) ≡ true
  unfolding walk_fault defaults_fault
  no_words = refl

  -- the first word names no job
  pub no_job : (w : Text) (ws : List Text) → is_readable w ≡ true → job_named jobs w ≡ None → fails (built_fault (app name jobs) nothing_held (w ∷ ws)) ≡ true
  unfolding walk_fault
  no_job w ws r e = or_fails _ _ (or_fails _ _ (go (is_dashed w) refl))
    where
      met : find (answers_to w) (map label_of (map sub_of jobs)) ≡ None
      met = find_name w jobs ∙ ap (option_map (λ j. (j.0, []))) e

      go : (b : Bool) → is_dashed w ≡ b → fails (turn_fault (top_shape name) names (walk_from nothing_held) w) ≡ true
      go false d =
          let m = met in
          let l = plain_long w d in
          let s = plain_short w d in
          let o = plain_other w d in
          rw (m, o, l, s) refl
      go true d =
          let m = met in
          let p = readable_long w r d in
          let l = p.1 in
          let o = long_other w p.0 p.1 in
          rw (m, o, l) refl

  -- the first word names a job, which reads the words after it
  module _ (w : Text) (ws : List Text) (j : Text × JobForm) (found : job_named jobs w ≡ Some j) where
    named : (js : Jobs) → job_named js w ≡ Some j → j.0 ≡ w
    named [] e = cc
    named (x ∷ js) e = go (bytes_eq x.0 w) refl (named js)
      where
        go : (b : Bool) → bytes_eq x.0 w ≡ b → (job_named js w ≡ Some j → j.0 ≡ w) → j.0 ≡ w
        go true t rest =
            let same : Some x ≡ Some j = rw t at e in
            let is : x ≡ j = cc in
            ap (λ (y : Text × JobForm). y.0) (sym is) ∙ (bytes_eq-Decides x.0 w).0 t
        go false t rest = rest (rw t at e)

    met : find (answers_to w) (map label_of (map sub_of jobs)) ≡ Some (j.0, [])
    met = find_name w jobs ∙ ap (option_map (λ j. (j.0, []))) found

    walks : (walk [] names nothing_held (w ∷ ws)) ≡ record (walk_from nothing_held) { stopped = Some (j.0, ws) }
    unfolding walked
    walks =
        let m = met in
        rw m (sym (walk_stopped [] names (walk_from nothing_held) j.0 [] ws))

    enters : entered (app name jobs) (Some (j.0, ws)) ≡ Some (rows_at (sub_of j) ws)
    enters =
        let sub : find (λ (s : Shape). answers_to j.0 (label_of s)) (map sub_of jobs) ≡ Some (sub_of j) =
        ap (λ (t : Text). find (λ (s : Shape). answers_to t (label_of s)) (map sub_of jobs)) (named jobs found) ∙ find_sub w jobs ∙ ap (option_map sub_of) found in
        rw sub refl

    below : entered_fault (app name jobs) (Some (j.0, ws)) ≡ level_fault (sub_of j) [] nothing_held ws false []
    below =
        let sub : find (λ (s : Shape). answers_to j.0 (label_of s)) (map sub_of jobs) ≡ Some (sub_of j) =
        ap (λ (t : Text). find (λ (s : Shape). answers_to t (label_of s)) (map sub_of jobs)) (named jobs found) ∙ find_sub w jobs ∙ ap (option_map sub_of) found in
        rw sub refl

    and_no : (b : Bool) → (b && false) ≡ false
    and_no true = refl
    and_no false = refl

    word_passes : turn_fault (top_shape name) names (walk_from nothing_held) w ≡ []
    word_passes =
        let m = met in
        let no = and_no (bytes_eq j.0 (codes "help")) in
        rw (m, no) refl

    word_walks : walked [] names (walk_from nothing_held) w ≡ record (walk_from nothing_held) { stopped = Some (j.0, []) }
    unfolding walked
    word_walks = let m = met in rw m refl

    words_pass : walk_fault (top_shape name) names (walk_from nothing_held) (w ∷ ws) ≡ []
    unfolding walk_fault
    words_pass =
        ap₂ (λ (x : Kinds) (v : Walk). or_else x (walk_fault (top_shape name) names v ws)) word_passes word_walks
        ∙ stopped_fault (top_shape name) names (walk_from nothing_held) (j.0, []) ws

    pub job_fault : built_fault (app name jobs) nothing_held (w ∷ ws) ≡ level_fault (sub_of j) [] nothing_held ws false []
    unfolding defaults_fault
    job_fault =
        ap (λ (v : Walk). level_fault (top_shape name) names nothing_held (w ∷ ws) (is_some (entered (app name jobs) v.stopped)) (entered_fault (app name jobs) v.stopped)) walks
        ∙ ap₂ (λ (o : Option (Text × List Row)) (k : Kinds). level_fault (top_shape name) names nothing_held (w ∷ ws) (is_some o) k) enters below
        ∙ ap₂ (λ (k : Kinds) (v : Walk). or_else k (or_else (level_fault (sub_of j) [] nothing_held ws false []) (end_of v))) words_pass walks
        ∙ or_empty (level_fault (sub_of j) [] nothing_held ws false [])
      where
        end_of : Walk → Kinds
        end_of v = or_else (settle_fault [] false v.held) (or_else (defaults_fault (settled [] v.held).rows []) (check_fault (top_shape name) (finished [] v.held) true))

    pub job_entered : entered (app name jobs) (stop_after [] names (w ∷ ws)) ≡ Some (j.0, rows_after (rules_of j.1) [] ws)
    job_entered = ap (λ (v : Walk). entered (app name jobs) v.stopped) walks ∙ enters
