-- What is told of the names of recipes.
use Rattle.std.proofs.Common.{◌≡◌, ◌≢◌, ℕ, ◌⊎◌, inl, inr, Bool, true, refl, sym, ap, ◌∙◌, subst}
use Rattle.std.specs.Prelude.{◌↔◌, ◌||◌}
use Rattle.word_base.specs.declared.operation.Operation.{Operation}
use Rattle.word_base.specs.declared.operation.Truncation.{Truncation}
use Rattle.graph_core.specs.Graphs.{Operand, Name, Constant, StaticAddress, Recipe, Of, Truncated, Operated, NoteValue, Is, Gone}
use Rattle.graph_core.specs.Paths.{Among, front, behind}
use Rattle.graph_core.specs.Uses.{names_in}
use Rattle.dead_pass_notes.proofs.Searching.{among_left, among_right, among_parts, among_one, among_none}
use Rattle.dead_pass_notes.specs.Lost.{HasStale, IsToldLost}
use Rattle.base_laws.proofs.Booleans.{either as or_parts, letter_first as or_left, or_right_again as or_right}

same_is : {a b : Recipe} → ◌≡◌ {A = NoteValue} (Is a) (Is b) → a ≡ b
same_is e = cc

gone_is : {n : ℕ} {b : Recipe} → ◌≡◌ {A = NoteValue} (Gone n) (Is b) → ⊥
gone_is e = cc

same_name : {x y : ℕ} → ◌≡◌ {A = Recipe} (Of (Name x)) (Of (Name y)) → x ≡ y
same_name e = cc

module _ (told : ℕ → Bool) where
  pub stale_name : (y : ℕ) (b : Bool) → b ≡ told y → (b ≡ true) ↔ HasStale told (Of (Name y))
  stale_name y b e = (
    (λ q. record { y = y; named = front; is_told = sym e ∙ q }),
    (λ s. e ∙ ap told (sym (among_one s.named)) ∙ s.is_told),
  )

  pub stale_constant : (w : ℕ) → HasStale told (Of (Constant w)) → ⊥
  stale_constant w s = among_none s.named

  pub stale_address : (object offset : ℕ) → HasStale told (Of (StaticAddress object offset)) → ⊥
  stale_address object offset s = among_none s.named

  pub stale_truncated : (t : Truncation) (r : Recipe) (b : Bool) → (b ≡ true) ↔ HasStale told r → (b ≡ true) ↔ HasStale told (Truncated t r)
  stale_truncated t r b is = (
    (λ q. (let s = is.0 q in record { y = s.y; named = s.named; is_told = s.is_told })),
    (λ s. is.1 (record { y = s.y; named = s.named; is_told = s.is_told })),
  )

  -- both sides of an operation
  pub stale_left : (o : Operation) (r s : Recipe) → HasStale told r → HasStale told (Operated o r s)
  stale_left o r s is = record { y = is.y; named = among_left is.named (names_in s); is_told = is.is_told }

  pub stale_right : (o : Operation) (r s : Recipe) → HasStale told s → HasStale told (Operated o r s)
  stale_right o r s is = record { y = is.y; named = among_right (names_in r) is.named; is_told = is.is_told }

  pub stale_either : (o : Operation) (r s : Recipe) → HasStale told (Operated o r s) → HasStale told r ⊎ HasStale told s
  stale_either o r s is = elim (among_parts (names_in r) (names_in s) is.named) [
    | inl left ↦ inl (record { y = is.y; named = left; is_told = is.is_told })
    | inr right ↦ inr (record { y = is.y; named = right; is_told = is.is_told })
  ]

  pub stale_operated : (o : Operation) (r s : Recipe) (b c : Bool) → (b ≡ true) ↔ HasStale told r → (c ≡ true) ↔ HasStale told s → ((b || c) ≡ true) ↔ HasStale told (Operated o r s)
  stale_operated o r s b c left right = (
    (λ q. elim (or_parts b c q) [ inl one ↦ stale_left o r s (left.0 one) | inr two ↦ stale_right o r s (right.0 two) ]),
    (λ is. elim (stale_either o r s is) [ inl one ↦ or_left b c (left.1 one) | inr two ↦ or_right b c (right.1 two) ]),
  )

  -- notes that are lost
  pub lost_gone : (x number : ℕ) → IsToldLost told x (Gone number) → ⊥
  lost_gone x number l = gone_is l.is

  pub lost_own : (x y : ℕ) → y ≡ x → IsToldLost told x (Is (Of (Name y))) → ⊥
  lost_own x y e l = l.other (sym (same_is l.is) ∙ ap (λ z. Of (Name z)) e)

  pub lost_other : (x : ℕ) (r : Recipe) (b : Bool) → r ≢ Of (Name x) → (b ≡ true) ↔ HasStale told r → (b ≡ true) ↔ IsToldLost told x (Is r)
  lost_other x r b other is = (
    (λ q. record { r = r; is = refl; other = other; stale = is.0 q }),
    (λ l. is.1 (subst (λ s. HasStale told s) (sym (same_is l.is)) l.stale)),
  )

  pub other_name : (x y : ℕ) → y ≢ x → ◌≡◌ {A = Recipe} (Of (Name y)) (Of (Name x)) → ⊥
  other_name x y ne e = ne (same_name e)
