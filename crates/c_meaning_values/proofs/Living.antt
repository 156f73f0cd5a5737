-- The numbers of the objects that have not ended: where one begins, changes or ends, and where an owner's is looked for.
use Rattle.std.proofs.Common.{◌≡◌, ℕ, zero, suc, ◌+◌, ◌-◌, ◌<◌, ◌≤◌, true, false, List, [], ◌∷◌, ◌++◌, map, take, drop, length, get_or, set, Option, Some, None, refl, sym, ap, ◌∙◌, arith}
use Rattle.std.specs.Prelude.{Bool, not, ◌&&◌, option_map, slice_get, if◌then◌else◌}
use Rattle.std.specs.Option.{option_map_or}
use Rattle.std.proofs.lemmas.List.{append-nil, get_or-map, get_or-take, get_or_append_left, length-map, length-take-le, length_push, map_push, take_at, take_more}
use Rattle.word_base.specs.Owners.{Owner, is_same_owner}
use Rattle.c_meaning_values.specs.declared.value.Phase.TheVariants.{Ended}
use Rattle.c_meaning_values.specs.declared.memory.Object as declared-object
use Rattle.c_meaning_values.specs.Views.{object_view}
use Rattle.c_meaning_values.specs.Memory.{Object, Memory, is_over, is_owned, object_of, in_phase, ended_from}
use Rattle.c_meaning_values.specs.Living.{is_owned_at, living_from, owned_among}

-- a number before two lists, if it stands there
before_both : (over : Bool) (n : ℕ) (xs ys : List ℕ) → (if over then xs ++ ys else n ∷ (xs ++ ys)) ≡ (if over then xs else n ∷ xs) ++ ys
before_both true n xs ys = refl
before_both false n xs ys = refl

-- one object more
living_push : (n : ℕ) (m : Memory) (o : Object) → living_from n (m ++ o ∷ []) ≡ living_from n m ++ (if is_over o.phase then [] else (n + length m) ∷ [])
living_push n [] o = let here : n ≡ n + 0 = omega arith in ap (λ k. if is_over o.phase then [] else k ∷ []) here
living_push n (x ∷ m) o =
    let further : (n + 1) + length m ≡ n + suc (length m) = omega arith in
    ap (λ all. if is_over x.phase then all else n ∷ all) (living_push (n + 1) m o ∙ ap (λ k. living_from (n + 1) m ++ (if is_over o.phase then [] else k ∷ [])) further)
    ∙ before_both (is_over x.phase) n (living_from (n + 1) m) (if is_over o.phase then [] else (n + suc (length m)) ∷ [])

-- one object more, whose number was noted
pub pushed : (all new : List declared-object.Object) (o : declared-object.Object) (numbers after : List ℕ) (n : ℕ)
    → new ≡ all ++ o ∷ [] → n ≡ length all → after ≡ numbers ++ (if is_over o.phase then [] else n ∷ [])
    → numbers ≡ living_from 0 (map object_view all) → after ≡ living_from 0 (map object_view new)
pushed all new o numbers after n adds count notes known =
    let M = map object_view all in
    let same : length (map object_view all) ≡ length all = length-map all object_view in
    let here : n ≡ 0 + length (map object_view all) = omega (arith, count, same) in
    notes ∙ ap (λ ns. ns ++ (if is_over o.phase then [] else n ∷ [])) known ∙ ap (λ k. living_from 0 M ++ (if is_over o.phase then [] else k ∷ [])) here
    ∙ sym (living_push 0 M (object_view o)) ∙ ap (living_from 0) (sym (map_push object_view all o)) ∙ ap (λ os. living_from 0 (map object_view os)) (sym adds)

-- an object that is there becomes another, behind the first
changed_behind : (x : Object) (m : Memory) (i : ℕ) (f : Object → Object) (found : Option Object)
    → option_map_or (λ o. set (x ∷ m) (suc i) (f o)) found (x ∷ m) ≡ x ∷ option_map_or (λ o. set m i (f o)) found m
changed_behind x m i f None = refl
changed_behind x m i f (Some o) = refl

-- an object becomes another by a rule that neither ends it nor begins it anew
pub living_changed : (n : ℕ) (m : Memory) (i : ℕ) (f : Object → Object) → ((o : Object) → slice_get m i ≡ Some o → is_over (f o).phase ≡ is_over o.phase)
    → living_from n (option_map_or (λ o. set m i (f o)) (slice_get m i) m) ≡ living_from n m
living_changed n [] i f same = refl
living_changed n (x ∷ m) zero f same = ap (λ over. if over then living_from (n + 1) m else n ∷ living_from (n + 1) m) (same x refl)
living_changed n (x ∷ m) (suc i) f same =
    ap (living_from n) (changed_behind x m i f (slice_get m i)) ∙ ap (λ all. if is_over x.phase then all else n ∷ all) (living_changed (n + 1) m i f same)

-- none of the objects that ended
all_ended : (n : ℕ) (m : Memory) → living_from n (map (in_phase Ended) m) ≡ []
all_ended n [] = refl
all_ended n (x ∷ m) = all_ended (n + 1) m

-- where all objects from a number on end, those before it are left
living_ended : (n first : ℕ) (m : Memory) → living_from n (ended_from first m) ≡ living_from n (take first m)
living_ended n zero m = all_ended n m
living_ended n (suc first) [] = refl
living_ended n (suc first) (x ∷ m) = ap (λ all. if is_over x.phase then all else n ∷ all) (living_ended (n + 1) first m)

-- the last number went, if there was one
shortened : (over : Bool) (numbers new rest : List ℕ) (n : ℕ) → numbers ≡ rest ++ (if over then [] else n ∷ [])
    → new ≡ (if over then numbers else take (length numbers - 1) numbers) → new ≡ rest
shortened true numbers new rest n is shorter = shorter ∙ is ∙ append-nil rest
shortened false numbers new rest n is shorter =
    let all : length numbers ≡ length (rest ++ n ∷ []) = ap length is in
    let one : length (rest ++ n ∷ []) ≡ length rest + 1 = length_push rest n in
    let count : length rest ≡ length numbers - 1 = omega (arith, all, one) in
    shorter ∙ ap (take (length numbers - 1)) is ∙ take_at rest (n ∷ []) (length numbers - 1) count

-- an object among those before which none has ended since, as it was
read_before : (m : List declared-object.Object) (before : Memory) (k n : ℕ) (o : declared-object.Object) → n < k → k ≤ length before → n < length m
    → o ≡ get_or m n o → map object_view m ≡ ended_from k before → object_view o ≡ get_or before n (object_view o)
read_before m before k n o lt le inside e so_far =
    let count : length (take k before) ≡ k = length-take-le k before le in
    ap object_view e ∙ sym (get_or-map object_view m n o (object_view o) inside) ∙ ap (λ all. get_or all n (object_view o)) so_far
    ∙ get_or_append_left (take k before) (map (in_phase Ended) (drop k before)) (object_view o) n (omega (arith, count, lt)) ∙ get_or-take k before n (object_view o) lt

-- one more object has ended, from behind, and its number went
pub one_fewer : (m : List declared-object.Object) (before after : Memory) (k n : ℕ) (o : declared-object.Object) (numbers new : List ℕ)
    → k ≡ suc n → n < length m → length m ≡ length before → o ≡ get_or m n o → map object_view m ≡ ended_from k before → after ≡ ended_from n before
    → new ≡ (if is_over o.phase then numbers else take (length numbers - 1) numbers)
    → numbers ≡ living_from 0 (map object_view m) → new ≡ living_from 0 after
one_fewer m before after k n o numbers new is lt same e so_far ends shorter known =
    let p = object_view o in
    let below : n < k = omega (arith, is) in
    let within : k ≤ length before = omega (arith, is, lt, same) in
    let inside : n < length before = omega (arith, lt, same) in
    let next : k ≡ n + 1 = omega (arith, is) in
    let there : object_view o ≡ get_or before n (object_view o) = read_before m before k n o below within lt e so_far in
    let more : take k before ≡ take n before ++ p ∷ [] = ap (λ j. take j before) next ∙ take_more before n p inside ∙ ap (λ q. take n before ++ q ∷ []) (sym there) in
    let all : numbers ≡ living_from 0 (take n before) ++ (if is_over o.phase then [] else (0 + length (take n before)) ∷ []) =
    known ∙ ap (living_from 0) so_far ∙ living_ended 0 k before ∙ ap (living_from 0) more ∙ living_push 0 (take n before) p in
    shortened (is_over o.phase) numbers new (living_from 0 (take n before)) (0 + length (take n before)) all shorter
    ∙ sym (living_ended 0 n before) ∙ ap (living_from 0) (sym ends)

-- a number, or one further
picked : (here : Bool) (n : ℕ) (found rest : Option ℕ) → found ≡ option_map (λ k. suc k) rest
    → (if here then Some (suc n) else found) ≡ option_map (λ k. suc k) (if here then Some n else rest)
picked true n found rest e = refl
picked false n found rest e = e

-- numbers of objects behind one more
owned_behind : (w : Owner) (x : Object) (m : Memory) (numbers : List ℕ)
    → owned_among w (x ∷ m) (map (λ k. suc k) numbers) ≡ option_map (λ k. suc k) (owned_among w m numbers)
owned_behind w x m [] = refl
owned_behind w x m (n ∷ numbers) =
    picked (is_owned_at w m n) n (owned_among w (x ∷ m) (map (λ k. suc k) numbers)) (owned_among w m numbers) (owned_behind w x m numbers)

-- a number that stands before others, or not
fronted : (over : Bool) (k n : ℕ) (xs ys : List ℕ) → k ≡ suc n → ys ≡ map (λ j. suc j) xs
    → (if over then ys else k ∷ ys) ≡ map (λ j. suc j) (if over then xs else n ∷ xs)
fronted true k n xs ys is e = e
fronted false k n xs ys is e = ap (λ j. j ∷ ys) is ∙ ap (λ all. suc n ∷ all) e

-- all numbers are one greater
living_further : (n : ℕ) (m : Memory) → living_from (n + 1) m ≡ map (λ k. suc k) (living_from n m)
living_further n [] = refl
living_further n (x ∷ m) =
    let next : n + 1 ≡ suc n = omega arith in
    fronted (is_over x.phase) (n + 1) n (living_from (n + 1) m) (living_from ((n + 1) + 1) m) next (living_further (n + 1) m)

-- the first object is the owner's, or one of the others
owned_first : (w : Owner) (x : Object) (m : Memory) (numbers : List ℕ) (rest : Option ℕ) (over : Bool) → is_over x.phase ≡ over
    → owned_among w (x ∷ m) numbers ≡ rest → owned_among w (x ∷ m) (if over then numbers else 0 ∷ numbers) ≡ (if is_owned w x then Some 0 else rest)
owned_first w x m numbers rest true is e =
    let not_owned : is_owned w x ≡ false = ap (λ (over : Bool). not over && is_same_owner w x.owner) is in
    e ∙ sym (ap (λ b. if b then Some 0 else rest) not_owned)
owned_first w x m numbers rest false is e = ap (λ found. if is_owned w x then Some 0 else found) e

-- the first object that is an owner's is the first of those that have not ended
pub owned_is : (w : Owner) (m : Memory) → owned_among w m (living_from 0 m) ≡ object_of w m
owned_is w [] = refl
owned_is w (x ∷ m) =
    let rest : owned_among w (x ∷ m) (living_from (0 + 1) m) ≡ option_map (λ k. suc k) (object_of w m) =
    ap (owned_among w (x ∷ m)) (living_further 0 m) ∙ owned_behind w x m (living_from 0 m) ∙ ap (option_map (λ k. suc k)) (owned_is w m) in
    owned_first w x m (living_from (0 + 1) m) (option_map (λ k. suc k) (object_of w m)) (is_over x.phase) refl rest
