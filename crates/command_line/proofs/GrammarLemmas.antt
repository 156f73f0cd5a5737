-- The words are read as a job exactly where they spell its items.
use Rattle.std.proofs.Common.{arith, refl, sym, ap, ap₂, subst, ◌∙◌, ◌≡◌, ℕ, ◌+◌, ◌<◌, ◌==◌, Bool, true, false, zero, suc, List, [], ◌∷◌, ◌++◌, length, take, drop, Option, Some, None, get_or, true≢false, append_assoc, append-nil, Contains}
use Rattle.std.specs.Prelude.{find, slice_get, unwrap_or}
use Rattle.std.specs.List.{after_first, before_first, list_all, list_any, position_or_len}
use Rattle.std.specs.Str.{bytes_eq}
use Rattle.std.proofs.lemmas.Bool.{eqb-true}
use Rattle.std.proofs.lemmas.Slice.Eq.{bytes_eq-Decides}
use Rattle.std.specs.Prelude.{Result, Ok, Err, IfOk, IfSome, IfNone, option_map, option_and_then}
use Rattle.command_line.specs.Words.{JobForm, Text, Use, Uses, in_place, is_dashed, is_equals, is_used, job_named, long_word, name_and_value, uses_from, uses_of, with_use}
use Rattle.command_line.specs.Forms.{attach_form, compile_form, debug_form, jobs, of_job, passes_form, reading, sweep_form}
use Rattle.command_line.specs.Grammar.{AreItems, AreNew, AreOneJobAtMost, IsJob, IsNoJob, Item, Spells, apart, joined, positional, spellings, uses_in}
use Rattle.command_line.specs.Job.{JobGiven, job_given, job_in, read_job}
use Rattle.command_line.specs.declared.job.Job.{Job}

-- a form's option names hold no `=` and are not empty, so their spellings read back
pub record IsPlain (f : JobForm) : Type 0 where
  pub alone : (n : Text) → Contains f.options n → long_word (45 ∷ 45 ∷ n) ≡ Some (n, None)
  pub valued : (n v : Text) → Contains f.options n → long_word (45 ∷ 45 ∷ n ++ 61 ∷ v) ≡ Some (n, Some v)
  pub found : (n : Text) → Contains f.options n → find (λ o. bytes_eq o n) f.options ≡ Some n

place_some : (k : ℕ) (xs : List Text) → k < length xs → slice_get xs k ≡ Some (unwrap_or (slice_get xs k) [])
place_some k [] h = absurd (omega arith)
place_some zero (x ∷ xs) h = refl
place_some (suc k) (x ∷ xs) h = place_some k xs (omega arith)

module _ (f : JobForm) (plain : IsPlain f) where
  -- what is spelled is read
  reads : (items : List Item) (uses : List Use) (k : ℕ) → AreItems f k items → AreNew uses (uses_in f k items)
      → list_all (λ p. is_used p (uses ++ uses_in f k items)) f.places ≡ true → uses_from f uses k None (spellings items) ≡ Some (uses ++ uses_in f k items)
  reads [] uses k are new whole =
      let same = append-nil uses in
      let w : list_all (λ p. is_used p uses) f.places ≡ true = ap (λ us. list_all (λ p. is_used p us) f.places) (sym same) ∙ whole in
      rw w (ap (λ us. Some us) (sym same))
  reads (joined n v ∷ rest) uses k are new whole =
      let l = plain.valued n v are.0 in
      let o = plain.found n are.0 in
      let d = are.1 in
      let fresh = new.0 in
      let same = append_assoc uses ((n, v) ∷ []) (uses_in f k rest) in
      let w = ap (λ us. list_all (λ p. is_used p us) f.places) same ∙ whole in
      rw (l, o, d, fresh) (reads rest (uses ++ (n, v) ∷ []) k are.2 new.1 w ∙ ap (λ us. Some us) same)
  reads (apart n v ∷ rest) uses k are new whole =
      let l = plain.alone n are.0 in
      let o = plain.found n are.0 in
      let d = are.1 in
      let fresh = new.0 in
      let same = append_assoc uses ((n, v) ∷ []) (uses_in f k rest) in
      let w = ap (λ us. list_all (λ p. is_used p us) f.places) same ∙ whole in
      rw (l, o, d, fresh) (reads rest (uses ++ (n, v) ∷ []) k are.2 new.1 w ∙ ap (λ us. Some us) same)
  reads (positional w' ∷ rest) uses k are new whole =
      let d = are.0 in
      let p = place_some k f.places are.1 in
      let fresh = new.0 in
      let name = unwrap_or (slice_get f.places k) [] in
      let same = append_assoc uses ((name, w') ∷ []) (uses_in f (k + 1) rest) in
      let w = ap (λ us. list_all (λ p. is_used p us) f.places) same ∙ whole in
      rw d (place p fresh (reads rest (uses ++ (name, w') ∷ []) (k + 1) are.2 new.1 w ∙ ap (λ us. Some us) same))
    where
      place : slice_get f.places k ≡ Some (unwrap_or (slice_get f.places k) []) → is_used (unwrap_or (slice_get f.places k) []) uses ≡ false
          → uses_from f (uses ++ (unwrap_or (slice_get f.places k) [], w') ∷ []) (k + 1) None (spellings rest) ≡ Some (uses ++ (unwrap_or (slice_get f.places k) [], w') ∷ uses_in f (k + 1) rest)
          → in_place (slice_get f.places k) w' uses (λ us. uses_from f us (k + 1) None (spellings rest)) ≡ Some (uses ++ (unwrap_or (slice_get f.places k) [], w') ∷ uses_in f (k + 1) rest)
      place p fresh h = ap (λ o. in_place o w' uses (λ us. uses_from f us (k + 1) None (spellings rest))) p ∙ rw fresh h

  pub read_where_spelled : (words : List Text) (uses : List Use) → Spells f words uses → uses_of f words ≡ Some uses
  read_where_spelled words uses s =
      let new : AreNew [] (uses_in f 0 s.items) = subst (AreNew []) s.uses_are s.once in
      let whole : list_all (λ p. is_used p (uses_in f 0 s.items)) f.places ≡ true = ap (λ us. list_all (λ p. is_used p us) f.places) (sym s.uses_are) ∙ s.whole in
      ap (uses_of f) s.words_are ∙ reads s.items [] 0 s.are_items new whole ∙ ap (λ us. Some us) (sym s.uses_are)

-- ---- what is read is spelled

cut_at : (xs : Text) → list_any is_equals xs ≡ true → xs ≡ before_first is_equals xs ++ 61 ∷ after_first is_equals xs
cut_at [] h = absurd (true≢false (sym h))
cut_at (x ∷ xs) h = go (x == 61) refl h (cut_at xs)
  where
    go : (b : Bool) → (x == 61) ≡ b → list_any is_equals (x ∷ xs) ≡ true → (list_any is_equals xs ≡ true → xs ≡ before_first is_equals xs ++ 61 ∷ after_first is_equals xs)
        → x ∷ xs ≡ before_first is_equals (x ∷ xs) ++ 61 ∷ after_first is_equals (x ∷ xs)
    go true e h rest = let is = eqb-true x 61 e in rw e (ap (λ y. y ∷ xs) is)
    go false e h rest =
        let more : list_any is_equals xs ≡ true = rw e at h in
        let n : 1 + position_or_len is_equals xs + 1 ≡ suc (position_or_len is_equals xs + 1) = omega arith in
        let one : 1 + position_or_len is_equals xs ≡ suc (position_or_len is_equals xs) = omega arith in
        let same : after_first is_equals (x ∷ xs) ≡ after_first is_equals xs = rw e (ap (λ k. drop k (x ∷ xs)) n) in
        let front : before_first is_equals (x ∷ xs) ≡ x ∷ before_first is_equals xs = rw e (ap (λ k. take k (x ∷ xs)) one) in
        ap (λ ys. x ∷ ys) (rest more) ∙ ap₂ (λ (a b : Text). a ++ 61 ∷ b) (sym front) (sym same)

uncut : (xs : Text) → list_any is_equals xs ≡ false → xs ≡ before_first is_equals xs
uncut [] h = refl
uncut (x ∷ xs) h = go (x == 61) refl h (uncut xs)
  where
    go : (b : Bool) → (x == 61) ≡ b → list_any is_equals (x ∷ xs) ≡ false → (list_any is_equals xs ≡ false → xs ≡ before_first is_equals xs) → x ∷ xs ≡ before_first is_equals (x ∷ xs)
    go true e h rest = let bad : true ≡ false = rw e at h in absurd (true≢false bad)
    go false e h rest =
        let more : list_any is_equals xs ≡ false = rw e at h in
        let front : before_first is_equals (x ∷ xs) ≡ x ∷ before_first is_equals xs = let one : 1 + position_or_len is_equals xs ≡ suc (position_or_len is_equals xs) = omega arith in rw e (ap (λ k. take k (x ∷ xs)) one) in
        ap (λ ys. x ∷ ys) (rest more) ∙ sym front

abbrev written : Text × Option Text → Text
written (n, None) = n
written (n, Some v) = n ++ 61 ∷ v

named_part : (xs : Text) (p : Text × Option Text) → name_and_value xs ≡ Some p → xs ≡ written p
named_part [] p e = cc
named_part (x ∷ xs) p e = go (list_any is_equals (x ∷ xs)) refl e
  where
    go : (b : Bool) → list_any is_equals (x ∷ xs) ≡ b → name_and_value (x ∷ xs) ≡ Some p → x ∷ xs ≡ written p
    go true t e =
        let e' : Some (before_first is_equals (x ∷ xs), Some (after_first is_equals (x ∷ xs))) ≡ Some p = rw t at e in
        let is : (before_first is_equals (x ∷ xs), Some (after_first is_equals (x ∷ xs))) ≡ p = cc in
        cut_at (x ∷ xs) t ∙ ap written is
    go false t e =
        let none : Option Text = None in
        let e' : Some (before_first is_equals (x ∷ xs), none) ≡ Some p = rw t at e in
        let is : (before_first is_equals (x ∷ xs), none) ≡ p = cc in
        uncut (x ∷ xs) t ∙ ap written is

long_written : (w : Text) (p : Text × Option Text) → long_word w ≡ Some p → w ≡ 45 ∷ 45 ∷ written p
long_written [] p e = cc
long_written (a ∷ []) p e = go (a == 45) refl e
  where
    go : (x : Bool) → (a == 45) ≡ x → long_word (a ∷ []) ≡ Some p → a ∷ [] ≡ 45 ∷ 45 ∷ written p
    go true t e = let none : long_word (a ∷ []) ≡ None = rw t refl in cc
    go false t e = let none : long_word (a ∷ []) ≡ None = rw t refl in cc
long_written (a ∷ b ∷ cs) p e = go (a == 45) (b == 45) refl refl e
  where
    go : (x y : Bool) → (a == 45) ≡ x → (b == 45) ≡ y → long_word (a ∷ b ∷ cs) ≡ Some p → a ∷ b ∷ cs ≡ 45 ∷ 45 ∷ written p
    go false y t s e = let none : long_word (a ∷ b ∷ cs) ≡ None = rw t refl in cc
    go true false t s e = let none : long_word (a ∷ b ∷ cs) ≡ None = rw (t, s) refl in cc
    go true true t s e =
        let rest : name_and_value cs ≡ Some p = rw (t, s) at e in
        let one = eqb-true a 45 t in
        let two = eqb-true b 45 s in
        let same = named_part cs p rest in
        ap₂ (λ (u v : ℕ). u ∷ v ∷ cs) one two ∙ ap (λ ys. 45 ∷ 45 ∷ ys) same

found_named : (n m : Text) (os : List Text) → find (λ o. bytes_eq o n) os ≡ Some m → (m ≡ n) × Contains os m
found_named n m [] e = cc
found_named n m (o ∷ os) e = go (bytes_eq o n) refl (found_named n m os)
  where
    go : (b : Bool) → bytes_eq o n ≡ b → (find (λ o. bytes_eq o n) os ≡ Some m → (m ≡ n) × Contains os m) → (m ≡ n) × Contains (o ∷ os) m
    go true t rest =
        let here : Some o ≡ Some m = rw t at e in
        let is : o ≡ m = cc in
        (sym is ∙ (bytes_eq-Decides o n).0 t, (0, omega arith, is))
    go false t rest =
        let r = rest (rw t at e) in
        let c = r.1 in
        let lt = c.1 in (r.0, (suc c.0, omega arith, c.2))

-- items that give these uses after those, and spell the words
pub record Read (f : JobForm) (before : List Use) (k : ℕ) (words : List Text) (uses : List Use) : Type 0 where
  pub items : List Item
  pub are_items : AreItems f k items
  pub words_are : words ≡ spellings items
  pub uses_are : uses ≡ before ++ uses_in f k items
  pub once : AreNew before (uses_in f k items)
  pub whole : list_all (λ p. is_used p uses) f.places ≡ true

abbrev ReadFrom : JobForm → List Use → ℕ → Option Text → List Text → List Use → Type 0
ReadFrom f before k None words uses = Read f before k words uses
ReadFrom f before k (Some n) words uses = Contains f.options n → Read f before k ((45 ∷ 45 ∷ n) ∷ words) uses

place_there : (k : ℕ) (xs : List Text) (m : Text) → slice_get xs k ≡ Some m → k < length xs
place_there k [] m e = cc
place_there zero (x ∷ xs) m e = omega arith
place_there (suc k) (x ∷ xs) m e = let h = place_there k xs m e in omega arith

module _ (f : JobForm) (us : List Use) where
  abbrev Sound : List Text → Type 0
  Sound words = (before : List Use) (k : ℕ) (waiting : Option Text) → uses_from f before k waiting words ≡ Some us → ReadFrom f before k waiting words us

  -- one more use is new, and its rest is read
  new_use : (m v : Text) (before : List Use) (next : List Use → Uses) → with_use m v before next ≡ Some us → (is_used m before ≡ false) × (next (before ++ (m, v) ∷ []) ≡ Some us)
  new_use m v before next e = go (is_used m before) refl
    where
      go : (b : Bool) → is_used m before ≡ b → (is_used m before ≡ false) × (next (before ++ (m, v) ∷ []) ≡ Some us)
      go true t = let bad : None ≡ Some us = rw t at e in cc
      go false t = let good : next (before ++ (m, v) ∷ []) ≡ Some us = rw t at e in (t, good)

  value_sound : (w : Text) (ws : List Text) → Sound ws → (before : List Use) (k : ℕ) (n : Text) → uses_from f before k (Some n) (w ∷ ws) ≡ Some us → Contains f.options n
      → Read f before k ((45 ∷ 45 ∷ n) ∷ w ∷ ws) us
  value_sound w ws rest before k n e is = go (is_dashed w) refl
    where
      go : (b : Bool) → is_dashed w ≡ b → Read f before k ((45 ∷ 45 ∷ n) ∷ w ∷ ws) us
      go true d = let bad : None ≡ Some us = rw d at e in cc
      go false d =
          let taken : with_use n w before (λ us. uses_from f us k None ws) ≡ Some us = rw d at e in
          let new = new_use n w before (λ us. uses_from f us k None ws) taken in
          let r = rest (before ++ (n, w) ∷ []) k None new.1 in
          record {
            items = apart n w ∷ r.items;
            are_items = (is, d, r.are_items);
            words_are = ap (λ ys. (45 ∷ 45 ∷ n) ∷ w ∷ ys) r.words_are;
            uses_are = r.uses_are ∙ append_assoc before ((n, w) ∷ []) (uses_in f k r.items);
            once = (new.0, r.once);
            whole = r.whole;
          }

  idle_sound : (w : Text) (ws : List Text) → Sound ws → (before : List Use) (k : ℕ) → uses_from f before k None (w ∷ ws) ≡ Some us → Read f before k (w ∷ ws) us
  idle_sound w ws rest before k e = go (is_dashed w) refl
    where
      place : (o : Option Text) → is_dashed w ≡ false → slice_get f.places k ≡ o → Read f before k (w ∷ ws) us
      place None d p = let bad : None ≡ Some us = rw (d, p) at e in cc
      place (Some m) d p =
          let taken : with_use m w before (λ us. uses_from f us (k + 1) None ws) ≡ Some us = rw (d, p) at e in
          let new = new_use m w before (λ us. uses_from f us (k + 1) None ws) taken in
          let r = rest (before ++ (m, w) ∷ []) (k + 1) None new.1 in
          let named : unwrap_or (slice_get f.places k) [] ≡ m = rw p refl in
          let uses : uses_in f k (positional w ∷ r.items) ≡ (m, w) ∷ uses_in f (k + 1) r.items = ap (λ n. (n, w) ∷ uses_in f (k + 1) r.items) named in
          record {
            items = positional w ∷ r.items;
            are_items = (d, place_there k f.places m p, r.are_items);
            words_are = ap (λ ys. w ∷ ys) r.words_are;
            uses_are = r.uses_are ∙ append_assoc before ((m, w) ∷ []) (uses_in f (k + 1) r.items) ∙ ap (λ ys. before ++ ys) (sym uses);
            once = subst (AreNew before) (sym uses) (new.0, r.once);
            whole = r.whole;
          }

      flag : (n : Text) (v found : Option Text) → is_dashed w ≡ true → long_word w ≡ Some (n, v) → find (λ o. bytes_eq o n) f.options ≡ found → Read f before k (w ∷ ws) us
      flag n v None d l o = let bad : None ≡ Some us = rw (d, l, o) at e in cc
      flag n None (Some m) d l o =
          let next : uses_from f before k (Some m) ws ≡ Some us = rw (d, l, o) at e in
          let named = found_named n m f.options o in
          let r = rest before k (Some m) next named.1 in
          let is : w ≡ 45 ∷ 45 ∷ m = long_written w (n, None) l ∙ ap (λ t. 45 ∷ 45 ∷ t) (sym named.0) in
          record {
            items = r.items;
            are_items = r.are_items;
            words_are = ap (λ t. t ∷ ws) is ∙ r.words_are;
            uses_are = r.uses_are;
            once = r.once;
            whole = r.whole;
          }
      flag n (Some x) (Some m) d l o = value (is_dashed x) refl
        where
          value : (b : Bool) → is_dashed x ≡ b → Read f before k (w ∷ ws) us
          value true y = let bad : None ≡ Some us = rw (d, l, o, y) at e in cc
          value false y =
              let taken : with_use m x before (λ us. uses_from f us k None ws) ≡ Some us = rw (d, l, o, y) at e in
              let new = new_use m x before (λ us. uses_from f us k None ws) taken in
              let named = found_named n m f.options o in
              let r = rest (before ++ (m, x) ∷ []) k None new.1 in
              let is : w ≡ 45 ∷ 45 ∷ m ++ 61 ∷ x = long_written w (n, Some x) l ∙ ap (λ (t : Text). 45 ∷ 45 ∷ t ++ 61 ∷ x) (sym named.0) in
              record {
                items = joined m x ∷ r.items;
                are_items = (named.1, y, r.are_items);
                words_are = ap₂ (λ (t : Text) (ys : List Text). t ∷ ys) is r.words_are;
                uses_are = r.uses_are ∙ append_assoc before ((m, x) ∷ []) (uses_in f k r.items);
                once = (new.0, r.once);
                whole = r.whole;
              }

      long : (o : Option (Text × Option Text)) → is_dashed w ≡ true → long_word w ≡ o → Read f before k (w ∷ ws) us
      long None d l = let bad : None ≡ Some us = rw (d, l) at e in cc
      long (Some p) d l = flag p.0 p.1 (find (λ o. bytes_eq o p.0) f.options) d l refl

      go : (b : Bool) → is_dashed w ≡ b → Read f before k (w ∷ ws) us
      go false d = place (slice_get f.places k) d refl
      go true d = long (long_word w) d refl

  sound : (words : List Text) → Sound words
  sound [] before k None e = go (list_all (λ p. is_used p before) f.places) refl
    where
      go : (b : Bool) → list_all (λ p. is_used p before) f.places ≡ b → Read f before k [] us
      go false t = let bad : None ≡ Some us = rw t at e in cc
      go true t =
          let all : Some before ≡ Some us = rw t at e in
          let same : before ≡ us = cc in
          record {
            items = [];
            are_items = tt;
            words_are = refl;
            uses_are = sym same ∙ sym (append-nil before);
            once = tt;
            whole = ap (λ xs. list_all (λ p. is_used p xs) f.places) (sym same) ∙ t;
          }
  sound [] before k (Some n) e = cc
  sound (w ∷ ws) before k None e = idle_sound w ws (sound ws) before k e
  sound (w ∷ ws) before k (Some n) e = λ is. value_sound w ws (sound ws) before k n e is

pub spelled_where_read : (f : JobForm) (words : List Text) (uses : List Use) → uses_of f words ≡ Some uses → Spells f words uses
spelled_where_read f words uses e =
    let r = sound f uses words [] 0 None e in
    record {
      items = r.items;
      are_items = r.are_items;
      words_are = r.words_are;
      uses_are = r.uses_are;
      once = subst (AreNew []) (sym r.uses_are) r.once;
      whole = r.whole;
    }

-- ---- the forms

abbrev ReadsBack : JobForm → Text → Type 0
ReadsBack f n = (long_word (45 ∷ 45 ∷ n) ≡ Some (n, None)) × ((v : Text) → long_word (45 ∷ 45 ∷ n ++ 61 ∷ v) ≡ Some (n, Some v)) × (find (λ o. bytes_eq o n) f.options ≡ Some n)

abbrev Each : {X : Type 0} → (X → Type 0) → List X → Type 0
Each P [] = Unit {0}
Each P (x ∷ xs) = P x × Each P xs

each_one : {X : Type 0} (P : X → Type 0) (xs : List X) → Each P xs → (n : X) → Contains xs n → P n
each_one P [] all n is = let lt = is.1 in absurd (omega arith)
each_one P (x ∷ xs) all n is = go is.0 is.1 is.2 (each_one P xs all.1 n)
  where
    go : (k : ℕ) → k < length (x ∷ xs) → get_or (x ∷ xs) k n ≡ n → (Contains xs n → P n) → P n
    go zero lt e rest = subst P e all.0
    go (suc k) lt e rest = rest (k, omega arith, e)

plain_form : (f : JobForm) → Each (ReadsBack f) f.options → IsPlain f
plain_form f all = record {
  alone = λ n is. (each_one (ReadsBack f) f.options all n is).0;
  valued = λ n v is. (each_one (ReadsBack f) f.options all n is).1 v;
  found = λ n is. (each_one (ReadsBack f) f.options all n is).2;
}

debug_plain : IsPlain debug_form
debug_plain = plain_form debug_form ((refl, (λ v. refl), refl), ((refl, (λ v. refl), refl), ((refl, (λ v. refl), refl), tt)))

compile_plain : IsPlain compile_form
compile_plain = plain_form compile_form ((refl, (λ v. refl), refl), ((refl, (λ v. refl), refl), tt))

attach_plain : IsPlain attach_form
attach_plain = plain_form attach_form ((refl, (λ v. refl), refl), tt)

passes_plain : IsPlain passes_form
passes_plain = plain_form passes_form ((refl, (λ v. refl), refl), tt)

sweep_plain : IsPlain sweep_form
sweep_plain = plain_form sweep_form tt

-- ---- the jobs

-- a job is found by its name, and its options read back
abbrev IsPlainJob : Text × JobForm → Type 0
IsPlainJob j = (job_named jobs j.0 ≡ Some j) × IsPlain j.1

jobs_plain : Each IsPlainJob jobs
jobs_plain = ((refl, debug_plain), ((refl, compile_plain), ((refl, attach_plain), ((refl, passes_plain), ((refl, sweep_plain), tt)))))

-- a job that is found by a name has that name
job_found : (w : Text) (js : List (Text × JobForm)) (j : Text × JobForm) → job_named js w ≡ Some j → (j.0 ≡ w) × Contains js j
job_found w [] j e = cc
job_found w (x ∷ js) j e = go (bytes_eq x.0 w) refl (job_found w js j)
  where
    go : (b : Bool) → bytes_eq x.0 w ≡ b → (job_named js w ≡ Some j → (j.0 ≡ w) × Contains js j) → (j.0 ≡ w) × Contains (x ∷ js) j
    go true t rest =
        let here : Some x ≡ Some j = rw t at e in
        let is : x ≡ j = cc in
        (ap (λ (y : Text × JobForm). y.0) (sym is) ∙ (bytes_eq-Decides x.0 w).0 t, (0, omega arith, is))
    go false t rest =
        let r = rest (rw t at e) in
        let c = r.1 in
        let lt = c.1 in (r.0, (suc c.0, omega arith, c.2))

-- what spells a job is read as it
pub job_is_read : (words : List Text) (job : JobGiven) → IsJob words job → job_in words ≡ Some job
job_is_read words job j = ap job_in j.words_are ∙ ap (option_and_then read_job) spelled ∙ j.job_is
  where
    plain : IsPlainJob (j.name, j.form)
    plain = each_one IsPlainJob jobs jobs_plain (j.name, j.form) j.form_is

    spelled : reading (j.program ∷ j.name ∷ j.rest) ≡ Some (j.name, j.uses)
    spelled =
        let n = plain.0 in
        let u = read_where_spelled j.form plain.1 j.rest j.uses j.spelled in
        ap (λ (o : Option (Text × JobForm)). of_job o j.rest) n ∙ ap (option_map (λ (uses : List Use). (j.name, uses))) u

-- what is read as a job spells it
pub read_is_job : (words : List Text) (job : JobGiven) → job_in words ≡ Some job → IsJob words job
read_is_job [] job e = cc
read_is_job (program ∷ []) job e = cc
read_is_job (program ∷ name ∷ rest) job e = named (job_named jobs name) refl e
  where
    given : (form : JobForm) → Contains jobs (name, form) → (o : Uses) → uses_of form rest ≡ o → option_and_then read_job (option_map (λ (uses : List Use). (name, uses)) o) ≡ Some job → IsJob (program ∷ name ∷ rest) job
    given form is None u e = cc
    given form is (Some uses) u e = record {
      program = program;
      name = name;
      form = form;
      rest = rest;
      uses = uses;
      words_are = refl;
      form_is = is;
      spelled = spelled_where_read form rest uses u;
      job_is = e;
    }

    named : (o : Option (Text × JobForm)) → job_named jobs name ≡ o → option_and_then read_job (of_job o rest) ≡ Some job → IsJob (program ∷ name ∷ rest) job
    named None n e = cc
    named (Some (found, form)) n e =
        let is = job_found name jobs (found, form) n in
        let same : found ≡ name = is.0 in
        given form (subst (λ (t : Text). Contains jobs (t, form)) same is.1) (uses_of form rest) refl
        (subst (λ (t : Text). option_and_then read_job (option_map (λ (uses : List Use). (t, uses)) (uses_of form rest)) ≡ Some job) same e)

pub one_job : AreOneJobAtMost
one_job = λ words a b is_a is_b.
    let same : Some a ≡ Some b = sym (job_is_read words a is_a) ∙ job_is_read words b is_b in
    cc

-- what was read is a job of the words, or they are none
pub job_or_none : {E : Type 0} (words : List Text) (r : Result (Option Job) E) → IfOk r (λ o. option_map job_given o ≡ job_in words)
    → IfOk r (λ o. IfSome o (λ j. IsJob words (job_given j))) × IfOk r (λ o. IfNone o (IsNoJob words))
job_or_none words (Err e) h = (tt, tt)
job_or_none words (Ok (Some j)) h = (read_is_job words (job_given j) (sym h), tt)
job_or_none words (Ok None) h = (tt, λ job is. (let bad : None ≡ Some job = h ∙ job_is_read words job is in cc))
