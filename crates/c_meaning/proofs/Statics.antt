-- The objects of static storage at first, one by one.
use Rattle.std.proofs.Common.{◌≡◌, ℕ, zero, suc, ◌+◌, ◌*◌, ◌<◌, List, [], ◌∷◌, ◌++◌, map, take, drop, length, get_or, Some, refl, sym, ap, ◌∙◌, arith, append_assoc}
use Rattle.std.specs.Prelude.{slice_get, option_map}
use Rattle.std.proofs.lemmas.Option.{slice_get-map, slice_get-get_or}
use Rattle.std.proofs.lemmas.List.{map-append}
use Rattle.c_tree.specs.declared.object_type.Scalar.{Scalar}
use Rattle.c_tree.specs.Programs.{StaticTree, LiteralTree, ProgramTree}
use Rattle.c_places.specs.Places.{numbers_from}
use Rattle.c_meaning_values.specs.declared.value.Value.{Value}
use Rattle.c_meaning_values.specs.Memory.{Object}
use Rattle.c_meaning_values.specs.Types.{scalar_size, element_scalar}
use Rattle.c_meaning.specs.StaticStorage.{spelled, first_value, first_values, static_object, static_objects, literal_object, literal_objects}

-- what four bytes spell
four_spell : (bytes : List ℕ) (place : ℕ) → spelled (take 2 (drop place bytes)) + 65536 * spelled (take 2 (drop (suc (suc place)) bytes)) ≡ spelled (take 4 (drop place bytes))
four_spell [] zero = refl
four_spell [] (suc place) = refl
four_spell (a ∷ []) zero = omega arith
four_spell (a ∷ b ∷ bytes) zero = omega arith
four_spell (a ∷ bytes) (suc place) = four_spell bytes place

pub word_spells : (bytes : List ℕ) (place : ℕ) → spelled (take 4 (drop place bytes)) ≡ spelled (take 2 (drop place bytes)) + 65536 * spelled (take 2 (drop (place + 2) bytes))
word_spells bytes place =
    let behind : suc (suc place) ≡ place + 2 = omega arith in
    sym (four_spell bytes place) ∙ ap (λ k. spelled (take 2 (drop place bytes)) + 65536 * spelled (take 2 (drop k bytes))) behind

-- one number more
numbers_more : (least count : ℕ) → numbers_from least (suc count) ≡ numbers_from least count ++ (least + count) ∷ []
numbers_more least zero = let e : least ≡ least + 0 = omega arith in ap (λ n. n ∷ []) e
numbers_more least (suc count) =
    let e : (least + 1) + count ≡ least + suc count = omega arith in
    ap (λ all. least ∷ all) (numbers_more (least + 1) count) ∙ ap (λ n. least ∷ numbers_from (least + 1) count ++ n ∷ []) e

-- one value more
pub values_more : (p : ProgramTree) (v : StaticTree) (element : Scalar) (index : ℕ)
    → first_values p v element (numbers_from 0 (suc index)) ≡ first_values p v element (numbers_from 0 index) ++ first_value p v element (index * scalar_size element) ∷ []
values_more p v element index =
    let last : 0 + index ≡ index = omega arith in
    ap (first_values p v element) (numbers_more 0 index ∙ ap (λ n. numbers_from 0 index ++ n ∷ []) last)
    ∙ map-append (λ i. first_value p v element (i * scalar_size element)) (numbers_from 0 index) (index ∷ [])

-- the values so far, and the next
pub adds_value : (p : ProgramTree) (v : StaticTree) (element : Scalar) (size index : ℕ) (values new : List Value) (x : Value)
    → element ≡ element_scalar v.of → size ≡ scalar_size element → values ≡ first_values p v (element_scalar v.of) (numbers_from 0 index)
    → x ≡ first_value p v element (index * size) → new ≡ values ++ x ∷ [] → new ≡ first_values p v (element_scalar v.of) (numbers_from 0 (index + 1))
adds_value p v element size index values new x is_element is_size so_far is_next adds =
    let of = element_scalar v.of in
    let next : suc index ≡ index + 1 = omega arith in
    let value : x ≡ first_value p v of (index * scalar_size of) =
    is_next ∙ ap (λ k. first_value p v element (index * k)) is_size ∙ ap (λ e. first_value p v e (index * scalar_size e)) is_element in
    adds ∙ ap (λ all. all ++ x ∷ []) so_far ∙ ap (λ y. first_values p v of (numbers_from 0 index) ++ y ∷ []) value
    ∙ sym (values_more p v of index) ∙ ap (λ k. first_values p v of (numbers_from 0 k)) next

-- one static object more
pub statics_more : (p : ProgramTree) (n i : ℕ) (vs : List StaticTree) (v : StaticTree) → slice_get vs i ≡ Some v
    → static_objects p n (take (suc i) vs) ≡ static_objects p n (take i vs) ++ static_object p (n + i) v ∷ []
statics_more p n i [] v e = cc
statics_more p n zero (w ∷ vs) v e =
    let same : w ≡ v = cc in
    let here : n ≡ n + 0 = omega arith in
    ap (λ u. static_object p n u ∷ []) same ∙ ap (λ k. static_object p k v ∷ []) here
statics_more p n (suc i) (w ∷ vs) v e =
    let here : (n + 1) + i ≡ n + suc i = omega arith in
    ap (λ all. static_object p n w ∷ all) (statics_more p (n + 1) i vs v e)
    ∙ ap (λ k. static_object p n w ∷ static_objects p (n + 1) (take i vs) ++ static_object p k v ∷ []) here

-- the objects so far, and the next static object
pub adds_static : (p : ProgramTree) (i : ℕ) (vs : List StaticTree) (before memory new : List Object) (v : StaticTree) (o : Object)
    → memory ≡ before ++ static_objects p 0 (take i vs) → slice_get vs i ≡ Some v → o ≡ static_object p i v → new ≡ memory ++ o ∷ []
    → new ≡ before ++ static_objects p 0 (take (i + 1) vs)
adds_static p i vs before memory new v o so_far is_next is_object adds =
    let next : suc i ≡ i + 1 = omega arith in
    let here : i ≡ 0 + i = omega arith in
    adds ∙ ap (λ all. all ++ o ∷ []) so_far ∙ append_assoc before (static_objects p 0 (take i vs)) (o ∷ [])
    ∙ ap (λ x. before ++ (static_objects p 0 (take i vs) ++ x ∷ [])) (is_object ∙ ap (λ k. static_object p k v) here)
    ∙ ap (λ all. before ++ all) (sym (statics_more p 0 i vs v is_next)) ∙ ap (λ k. before ++ static_objects p 0 (take k vs)) next

-- one literal's object more
pub literals_more : (n i : ℕ) (ls : List LiteralTree) (l : LiteralTree) → slice_get ls i ≡ Some l
    → literal_objects n (take (suc i) ls) ≡ literal_objects n (take i ls) ++ literal_object (n + i) l ∷ []
literals_more n i [] l e = cc
literals_more n zero (k ∷ ls) l e =
    let same : k ≡ l = cc in
    let here : n ≡ n + 0 = omega arith in
    ap (λ u. literal_object n u ∷ []) same ∙ ap (λ m. literal_object m l ∷ []) here
literals_more n (suc i) (k ∷ ls) l e =
    let here : (n + 1) + i ≡ n + suc i = omega arith in
    ap (λ all. literal_object n k ∷ all) (literals_more (n + 1) i ls l e)
    ∙ ap (λ m. literal_object n k ∷ literal_objects (n + 1) (take i ls) ++ literal_object m l ∷ []) here

-- the objects so far, and the next literal's
pub adds_literal : (i : ℕ) (ls : List LiteralTree) (before memory new : List Object) (l : LiteralTree) (o : Object)
    → memory ≡ before ++ literal_objects 0 (take i ls) → slice_get ls i ≡ Some l → o ≡ literal_object i l → new ≡ memory ++ o ∷ []
    → new ≡ before ++ literal_objects 0 (take (i + 1) ls)
adds_literal i ls before memory new l o so_far is_next is_object adds =
    let next : suc i ≡ i + 1 = omega arith in
    let here : i ≡ 0 + i = omega arith in
    adds ∙ ap (λ all. all ++ o ∷ []) so_far ∙ append_assoc before (literal_objects 0 (take i ls)) (o ∷ [])
    ∙ ap (λ x. before ++ (literal_objects 0 (take i ls) ++ x ∷ [])) (is_object ∙ ap (λ k. literal_object k l) here)
    ∙ ap (λ all. before ++ all) (sym (literals_more 0 i ls l is_next)) ∙ ap (λ k. before ++ literal_objects 0 (take k ls)) next

-- an item of a list, seen through a view
pub seen_at : {A B : Type 0} (view : A → B) (xs : List A) (n : ℕ) (x : A) → n < length xs → x ≡ get_or xs n x → slice_get (map view xs) n ≡ Some (view x)
seen_at view xs n x lt e = slice_get-map view xs n ∙ ap (option_map view) (slice_get-get_or xs n x lt ∙ ap Some (sym e))
