-- Texts appended one after the other.
use Rattle.std.proofs.Common.{◌≡◌, ℕ, zero, suc, ◌+◌, ◌<◌, ◌≤◌, List, [], ◌∷◌, ◌++◌, length, drop, map, get_or, refl, sym, ap, ◌∙◌, append_assoc, arith}
use Rattle.std.specs.List.{flat_map}
use Rattle.std.proofs.lemmas.List.{append-nil, drop_all}

-- the pieces of the items that are left
pub piece_left : {A : Type 0} (f : A → List ℕ) (xs : List A) (i : ℕ) (d : A) → i < length xs → flat_map f (drop i xs) ≡ f (get_or xs i d) ++ flat_map f (drop (i + 1) xs)
piece_left f [] i d lt = absurd (omega arith)
piece_left f (x ∷ xs) zero d lt = refl
piece_left f (x ∷ xs) (suc i) d lt =
    let k : suc (i + 1) ≡ suc i + 1 = omega arith in
    piece_left f xs i d (omega arith) ∙ ap (λ j. f (get_or xs i d) ++ flat_map f (drop j (x ∷ xs))) k

pub pieces_of : {A B : Type 0} (f : B → List ℕ) (v : A → B) (xs : List A) → flat_map f (map v xs) ≡ flat_map (λ x. f (v x)) xs
pieces_of f v [] = refl
pieces_of f v (x ∷ xs) = ap (λ l. f (v x) ++ l) (pieces_of f v xs)

-- one piece more
pub piece_more : {A B : Type 0} (f : B → List ℕ) (v : A → B) (xs : List A) (i : ℕ) (d : A) (text more whole : List ℕ) → i < length xs → more ≡ text ++ f (v (get_or xs i d))
    → text ++ flat_map f (map v (drop i xs)) ≡ whole → more ++ flat_map f (map v (drop (i + 1) xs)) ≡ whole
piece_more f v xs i d text more whole lt pushed so_far =
    let left = pieces_of f v (drop i xs) ∙ piece_left (λ x. f (v x)) xs i d lt ∙ ap (λ l. f (v (get_or xs i d)) ++ l) (sym (pieces_of f v (drop (i + 1) xs))) in
    ap (λ t. t ++ flat_map f (map v (drop (i + 1) xs))) pushed ∙ append_assoc text (f (v (get_or xs i d))) (flat_map f (map v (drop (i + 1) xs))) ∙ ap (λ l. text ++ l) (sym left) ∙ so_far

-- three pieces more
pub three_more : (a b c d v x y z : List ℕ) → a ≡ v → b ≡ a ++ x → c ≡ b ++ y → d ≡ c ++ z → d ≡ v ++ (x ++ (y ++ z))
three_more a b c d v x y z e f g h = h ∙ ap (λ t. t ++ z) (g ∙ ap (λ t. t ++ y) (f ∙ ap (λ t. t ++ x) e)) ∙ append_assoc (v ++ x) y z ∙ append_assoc v x (y ++ z)
