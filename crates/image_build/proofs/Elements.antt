-- Which elements the images of the elements of a list are.
use Rattle.std.proofs.Common.{◌≡◌, zero, suc, List, [], ◌∷◌, refl, subst, ap, arith}
use Rattle.std.specs.Prelude.{◌↔◌, map}
use Rattle.std.specs.List.{Contains}

behind : {A : Type 0} (y : A) (xs : List A) (x : A) → Contains xs x → Contains (y ∷ xs) x
behind y xs x (k, within, is) = (suc k, omega (arith, within), is)

-- an element of the images is the image of an element
pub image_of_element : {A B : Type 0} (f : A → B) (xs : List A) (b : B) → Contains (map f xs) b → (x : A) × Contains xs x × (f x ≡ b)
image_of_element f [] b (k, within, is) = absurd (omega (arith, within))
image_of_element f (y ∷ xs) b (zero, within, is) = (y, (0, omega arith, refl), is)
image_of_element f (y ∷ xs) b (suc k, within, is) =
    let rest = image_of_element f xs b (k, omega (arith, within), is) in
    (rest.0, behind y xs rest.0 rest.1, rest.2)

-- the image of an element is one of the images
pub element_of_images : {A B : Type 0} (f : A → B) (xs : List A) (x : A) → Contains xs x → Contains (map f xs) (f x)
element_of_images f [] x (k, within, is) = absurd (omega (arith, within))
element_of_images f (y ∷ xs) x (zero, within, is) = (0, omega arith, ap f is)
element_of_images f (y ∷ xs) x (suc k, within, is) = behind (f y) (map f xs) (f x) (element_of_images f xs x (k, omega (arith, within), is))

one_way : {A B : Type 0} (f : A → B) (xs ys : List A) → ((x : A) → Contains xs x → Contains ys x) → (b : B) → Contains (map f xs) b → Contains (map f ys) b
one_way f xs ys all b has =
    let found = image_of_element f xs b has in
    subst (Contains (map f ys)) found.2 (element_of_images f ys found.0 (all found.0 found.1))

-- lists of the same elements have the same images
pub same_images : {A B : Type 0} (f : A → B) (xs ys : List A) → ((x : A) → Contains xs x ↔ Contains ys x) → (b : B) → Contains (map f xs) b ↔ Contains (map f ys) b
same_images f xs ys same b = (one_way f xs ys (λ x. (same x).0) b, one_way f ys xs (λ x. (same x).1) b)
