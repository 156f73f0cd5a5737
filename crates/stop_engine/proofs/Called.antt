-- The functions of a name.
use Rattle.std.proofs.Common.{◌≡◌, ℕ, zero, suc, ◌+◌, ◌<◌, Bool, true, false, cond, if◌then◌else◌, Option, Some, None, List, [], ◌∷◌, ◌++◌, length, take, drop, get_or, refl, sym, ap, ◌∙◌, arith, add-one, bytes_eq}
use Rattle.std.specs.Prelude.{is_some, slice_get}
use Rattle.std.specs.Option.{option_map_or}
use Rattle.std.proofs.Math.Seq.{take-suc}
use Rattle.std.proofs.lemmas.Bool.{true≢false}
use Rattle.std.proofs.lemmas.List.{drop-drop, length-take}
use Rattle.std.proofs.lemmas.Slice.Eq.{bytes_eq-Decides}
use Rattle.image_form.specs.Form.{Form}
use Rattle.image_form.specs.Names.{function_name}
use Rattle.image_form.specs.declared.tables.Function.{Function}
use Rattle.stop_engine.specs.Breaks.{function_called}
use Rattle.stop_engine.specs.FunctionNames.{number_called}

-- the function of a name is that of its number
called-numbered : (m : Form) (name : List ℕ) (n : ℕ) (fs whole : List Function) → fs ≡ drop n whole → function_called m name n fs ≡ option_map_or (slice_get whole) (number_called m name n fs) None
called-numbered m name n [] whole e = refl
called-numbered m name n (f ∷ fs) whole e = by_test (bytes_eq (function_name m n) name) refl (called-numbered m name (n + 1) fs whole (ap (drop 1) e ∙ drop-drop 1 n whole))
  where
    at : (n : ℕ) (xs : List Function) → f ∷ fs ≡ drop n xs → slice_get xs n ≡ Some f
    at zero [] e = absurd (cc)
    at zero (x ∷ xs) e = ap (λ (l : List Function). slice_get l 0) (sym e)
    at (suc n) [] e = absurd (cc)
    at (suc n) (x ∷ xs) e = at n xs e

    by_test : (b : Bool) → bytes_eq (function_name m n) name ≡ b → function_called m name (n + 1) fs ≡ option_map_or (slice_get whole) (number_called m name (n + 1) fs) None
        → function_called m name n (f ∷ fs) ≡ option_map_or (slice_get whole) (number_called m name n (f ∷ fs)) None
    by_test true t rest = rw t (sym (at n whole e))
    by_test false t rest = rw t rest

pub called-first : (m : Form) (name : List ℕ) → function_called m name 0 m.functions ≡ option_map_or (slice_get m.functions) (number_called m name 0 m.functions) None
called-first m name = called-numbered m name 0 m.functions m.functions refl

-- the one, or where there is none the other
abbrev first_or : Option ℕ → Option ℕ → Option ℕ
first_or (Some k) other = Some k
first_or None other = other

called-behind : (m : Form) (name : List ℕ) (n : ℕ) (fs : List Function) (f : Function)
    → number_called m name n (fs ++ f ∷ []) ≡ first_or (number_called m name n fs) (if bytes_eq (function_name m (n + length fs)) name then Some (n + length fs) else None)
called-behind m name n [] f = let same : n + 0 ≡ n = omega arith in rw same refl
called-behind m name n (g ∷ fs) f = by_test (bytes_eq (function_name m n) name) refl (called-behind m name (n + 1) fs f)
  where
    by_test : (b : Bool) → bytes_eq (function_name m n) name ≡ b
        → number_called m name (n + 1) (fs ++ f ∷ []) ≡ first_or (number_called m name (n + 1) fs) (if bytes_eq (function_name m (n + 1 + length fs)) name then Some (n + 1 + length fs) else None)
        → number_called m name n ((g ∷ fs) ++ f ∷ []) ≡ first_or (number_called m name n (g ∷ fs)) (if bytes_eq (function_name m (n + length (g ∷ fs))) name then Some (n + length (g ∷ fs)) else None)
    by_test true t rest = rw t refl
    by_test false t rest = let more : n + 1 + length fs ≡ n + suc (length fs) = omega arith in rw (t, ← more) rest

-- one function more
called-more : (m : Form) (name : List ℕ) (i : ℕ) (d : Function) → i < length m.functions
    → number_called m name 0 (take (i + 1) m.functions) ≡ first_or (number_called m name 0 (take i m.functions)) (if bytes_eq (function_name m i) name then Some i else None)
called-more m name i d lt =
    let longer : take (i + 1) m.functions ≡ take i m.functions ++ get_or m.functions i d ∷ [] = rw add-one (take-suc m.functions i d lt) in
    let count : 0 + length (take i m.functions) ≡ i = omega (arith, lt, length-take i m.functions) in
    ap (number_called m name 0) longer ∙ (called-behind m name 0 (take i m.functions) (get_or m.functions i d)
    ∙ ap (λ k. first_or (number_called m name 0 (take i m.functions)) (if bytes_eq (function_name m k) name then Some k else None)) count)

same_name : (a b : List ℕ) → bytes_eq a b ≡ true → a ≡ b
same_name a b t = (bytes_eq-Decides a b).0 t

-- a name that was there keeps its function
pub names-seen : (m : Form) (i : ℕ) (d : Function) (old : List ℕ → Option ℕ) → i < length m.functions → ((q : List ℕ) → old q ≡ number_called m q 0 (take i m.functions))
    → is_some (old (function_name m i)) ≡ true → (q : List ℕ) → old q ≡ number_called m q 0 (take (i + 1) m.functions)
names-seen m i d old lt before seen q = by_test (bytes_eq (function_name m i) q) refl (old q) refl
  where
    by_test : (b : Bool) → bytes_eq (function_name m i) q ≡ b → (o : Option ℕ) → old q ≡ o → old q ≡ number_called m q 0 (take (i + 1) m.functions)
    by_test true t None none = absurd (true≢false (sym seen ∙ ap (λ k. is_some (old k)) (same_name (function_name m i) q t) ∙ ap is_some none))
    by_test true t (Some k) some = some ∙ sym (called-more m q i d lt ∙ ap (λ o. first_or o (if bytes_eq (function_name m i) q then Some i else None)) (sym (before q) ∙ some))
    by_test false t None none = none ∙ sym (called-more m q i d lt ∙ rw (t, ← before q, none) refl)
    by_test false t (Some k) some = some ∙ sym (called-more m q i d lt ∙ ap (λ o. first_or o (if bytes_eq (function_name m i) q then Some i else None)) (sym (before q) ∙ some))

-- a new name gets its function
pub names-new : (m : Form) (i : ℕ) (d : Function) (old new : List ℕ → Option ℕ) → i < length m.functions → ((q : List ℕ) → old q ≡ number_called m q 0 (take i m.functions))
    → is_some (old (function_name m i)) ≡ false → ((q : List ℕ) → new q ≡ cond (bytes_eq (function_name m i) q) (Some i) (old q)) → (q : List ℕ) → new q ≡ number_called m q 0 (take (i + 1) m.functions)
names-new m i d old new lt before unseen updates q = by_test (bytes_eq (function_name m i) q) refl (old q) refl
  where
    by_test : (b : Bool) → bytes_eq (function_name m i) q ≡ b → (o : Option ℕ) → old q ≡ o → new q ≡ number_called m q 0 (take (i + 1) m.functions)
    by_test true t None none =
        let is : new q ≡ Some i = updates q ∙ ap (λ b. cond b (Some i) (old q)) t in
        let more : number_called m q 0 (take (i + 1) m.functions) ≡ Some i = called-more m q i d lt ∙ rw (t, ← before q, none) refl in
        is ∙ sym more
    by_test true t (Some k) some = absurd (true≢false (sym (ap (λ k. is_some (old k)) (same_name (function_name m i) q t) ∙ ap is_some some) ∙ unseen))
    by_test false t None none =
        let is : new q ≡ None = updates q ∙ (ap (λ b. cond b (Some i) (old q)) t ∙ none) in
        let more : number_called m q 0 (take (i + 1) m.functions) ≡ None = called-more m q i d lt ∙ rw (t, ← before q, none) refl in
        is ∙ sym more
    by_test false t (Some k) some =
        let is : new q ≡ Some k = updates q ∙ (ap (λ b. cond b (Some i) (old q)) t ∙ some) in
        is ∙ sym (called-more m q i d lt ∙ ap (λ o. first_or o (if bytes_eq (function_name m i) q then Some i else None)) (sym (before q) ∙ some))

-- the number of the first function of a name is one of the functions'
called-within : (m : Form) (name : List ℕ) (n k : ℕ) (fs : List Function) → number_called m name n fs ≡ Some k → k < n + length fs
called-within m name n k [] e = absurd cc
called-within m name n k (f ∷ fs) e = by_test (bytes_eq (function_name m n) name) refl e (called-within m name (n + 1) k fs)
  where
    by_test : (b : Bool) → bytes_eq (function_name m n) name ≡ b → number_called m name n (f ∷ fs) ≡ Some k → (number_called m name (n + 1) fs ≡ Some k → k < n + 1 + length fs) → k < n + length (f ∷ fs)
    by_test true t e rest = let here : Some n ≡ Some k = rw t at e in let number : n ≡ k = cc in omega (arith, number)
    by_test false t e rest = let later : number_called m name (n + 1) fs ≡ Some k = rw t at e in omega (arith, rest later)

pub called-there : (m : Form) (name : List ℕ) (k : ℕ) → number_called m name 0 m.functions ≡ Some k → k < length m.functions
called-there m name k e = omega (arith, called-within m name 0 k m.functions e)
