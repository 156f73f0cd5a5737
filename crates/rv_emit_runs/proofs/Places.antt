-- Places in force: what a block keeps, what is in force behind an instruction, and that marks change nothing of what is held.
use Rattle.std.proofs.Common.{◌≡◌, ℕ, sym, ap, ◌∙◌, subst, refl, ◌⊎◌, inl, inr, Option, Some, None, List, [], ◌∷◌, append-nil, ◌%◌, ◌+◌}
use Rattle.std.specs.Option.{option_map_or}
use Rattle.graph_core.specs.Graphs.{Instruction, Marker, Note, Move, Operate, Truncate, Same, Address, Load, Store, Zero, CopyWords, Call, Block}
use Rattle.graph_core.specs.Uses.{target_of}
use Rattle.graph_core.specs.Validity.{KeepsPlace, place_behind, place_at_end}
use Rattle.rv_emit_storage.specs.Storages.{StorageForm}
use Rattle.rv_emit_words.specs.Growing.{CodeState}
use Rattle.rv_emit_instructions.specs.Code.{with_instruction}
use Rattle.rv_emit_code.specs.Beginning.{with_writer}
use Rattle.rv_emit_code.specs.Blocks.{with_numbered, with_instructions}
use Rattle.rv_emit_runs.proofs.Unmarked.{onto, IsAppending, with_all, all_onto, bare}

-- ---- Places

-- Instructions begin with a marker, or they keep the place in force.
pub record BeginsPlace (is : List Instruction) : Type 0 where
  pub place : ℕ
  pub rest : List Instruction
  pub so : is ≡ Marker place ∷ rest

pub begins_or_keeps : (is : List Instruction) (in_force kept : Option ℕ) → KeepsPlace is in_force kept → BeginsPlace is ⊎ (in_force ≡ kept)
begins_or_keeps [] i k e = inr e
begins_or_keeps (Marker p ∷ more) i k e = inl (record { place = p; rest = more; so = refl })
begins_or_keeps (Note x v ∷ more) i k e = inr e
begins_or_keeps (Move x a ∷ more) i k e = inr e
begins_or_keeps (Operate x op a b ∷ more) i k e = inr e
begins_or_keeps (Truncate x t a ∷ more) i k e = inr e
begins_or_keeps (Same x a b ∷ more) i k e = inr e
begins_or_keeps (Address x o ∷ more) i k e = inr e
begins_or_keeps (Load x e l ∷ more) i k same = inr same
begins_or_keeps (Store e l a ∷ more) i k same = inr same
begins_or_keeps (Zero o w ∷ more) i k e = inr e
begins_or_keeps (CopyWords o b w ∷ more) i k e = inr e
begins_or_keeps (Call x f all ∷ more) i k e = inr e

pub keeps_same : (is : List Instruction) (in_force kept : Option ℕ) → in_force ≡ kept → KeepsPlace is in_force kept
keeps_same [] i k e = e
keeps_same (Marker p ∷ more) i k e = tt
keeps_same (Note x v ∷ more) i k e = e
keeps_same (Move x a ∷ more) i k e = e
keeps_same (Operate x op a b ∷ more) i k e = e
keeps_same (Truncate x t a ∷ more) i k e = e
keeps_same (Same x a b ∷ more) i k e = e
keeps_same (Address x o ∷ more) i k e = e
keeps_same (Load x e l ∷ more) i k same = same
keeps_same (Store e l a ∷ more) i k same = same
keeps_same (Zero o w ∷ more) i k e = e
keeps_same (CopyWords o b w ∷ more) i k e = e
keeps_same (Call x f all ∷ more) i k e = e

-- Where control comes to a block in a place that it keeps: its code begins in that place or with a marker, and the place at its end is that of the block.
pub block_owned : (b : Block) (place : ℕ) → KeepsPlace b.instructions (Some place) b.place → KeepsPlace b.instructions (Some (option_map_or (λ p. p) b.place 0)) (Some place)
block_owned b place keeps = by_way (begins_or_keeps b.instructions (Some place) b.place keeps)
  where
    by_way : BeginsPlace b.instructions ⊎ (Some place ≡ b.place) → KeepsPlace b.instructions (Some (option_map_or (λ p. p) b.place 0)) (Some place)
    by_way (inl begins) = subst (λ l. KeepsPlace l (Some (option_map_or (λ p. p) b.place 0)) (Some place)) (sym begins.so) tt
    by_way (inr same) = keeps_same b.instructions (Some (option_map_or (λ (p : ℕ). p) b.place 0)) (Some place) (ap (λ o. Some (option_map_or (λ (p : ℕ). p) o 0)) (sym same))

pub block_forced : (b : Block) (place : ℕ) → KeepsPlace b.instructions (Some place) b.place → place_behind b.instructions (Some place) ≡ place_at_end b
block_forced b place keeps = by_way (begins_or_keeps b.instructions (Some place) b.place keeps)
  where
    by_way : BeginsPlace b.instructions ⊎ (Some place ≡ b.place) → place_behind b.instructions (Some place) ≡ place_behind b.instructions b.place
    by_way (inl begins) = ap (λ l. place_behind l (Some place)) begins.so ∙ ap (λ l. place_behind l b.place) (sym begins.so)
    by_way (inr same) = ap (place_behind b.instructions) same

-- ---- Marks

bare_onto : (s : CodeState) → onto s.pieces (bare s) ≡ s
bare_onto s = ap (λ l. record { pieces = l; held = s.held; owner = s.owner; begins = s.begins }) (append-nil s.pieces)

-- What is held behind code that is appended is no matter of the pieces before it.
pub bare_held : (f : CodeState → CodeState) → IsAppending f → (s : CodeState) → (f (bare s)).held ≡ (f s).held
bare_held f appends s = ap (λ (u : CodeState). u.held) (sym (ap f (sym (bare_onto s)) ∙ appends s.pieces (bare s)))

-- Nor of how they are marked.
pub instructions_held : (g : StorageForm) (entry : ℕ) (f : CodeState → CodeState) → IsAppending f → (n : ℕ) (is : List Instruction) (s : CodeState) → (f (with_instructions g entry n is s)).held ≡ (f (with_all g entry is s)).held
instructions_held g entry f appends n [] s = refl
instructions_held g entry f appends n (x ∷ more) s = instructions_held g entry f appends ((n + 1) % 4294967296) more (with_numbered g entry n x s) ∙ by_target (target_of x)
  where
    later : IsAppending (λ u. f (with_all g entry more u))
    later q u = ap f (all_onto g entry more q u) ∙ appends q (with_all g entry more u)

    by_target : (target : Option ℕ) → (f (with_all g entry more (option_map_or (λ y. with_writer n (with_instruction g entry x s)) target (with_instruction g entry x s)))).held ≡ (f (with_all g entry more (with_instruction g entry x s))).held
    by_target None = refl
    by_target (Some y) = sym (bare_held (λ u. f (with_all g entry more u)) later (with_writer n (with_instruction g entry x s))) ∙ bare_held (λ u. f (with_all g entry more u)) later (with_instruction g entry x s)

-- ---- Instructions that begin no place

abbrev pub IsNoMarker : Instruction → Type 0
IsNoMarker (Marker p) = ⊥
IsNoMarker (Note x v) = Unit {0}
IsNoMarker (Move x a) = Unit {0}
IsNoMarker (Operate x op a b) = Unit {0}
IsNoMarker (Truncate x t a) = Unit {0}
IsNoMarker (Same x a b) = Unit {0}
IsNoMarker (Address x object) = Unit {0}
IsNoMarker (Load x e l) = Unit {0}
IsNoMarker (Store e l a) = Unit {0}
IsNoMarker (Zero object words) = Unit {0}
IsNoMarker (CopyWords object bytes words) = Unit {0}
IsNoMarker (Call target f all) = Unit {0}

-- One keeps the place in force.
pub unmarked_keeps : (i : Instruction) (more : List Instruction) (in_force kept : Option ℕ) → IsNoMarker i → KeepsPlace (i ∷ more) in_force kept → in_force ≡ kept
unmarked_keeps (Marker p) more f k plain keeps = absurd plain
unmarked_keeps (Note x v) more f k plain keeps = keeps
unmarked_keeps (Move x a) more f k plain keeps = keeps
unmarked_keeps (Operate x op a b) more f k plain keeps = keeps
unmarked_keeps (Truncate x t a) more f k plain keeps = keeps
unmarked_keeps (Same x a b) more f k plain keeps = keeps
unmarked_keeps (Address x o) more f k plain keeps = keeps
unmarked_keeps (Load x e l) more f k plain keeps = keeps
unmarked_keeps (Store e l a) more f k plain keeps = keeps
unmarked_keeps (Zero o w) more f k plain keeps = keeps
unmarked_keeps (CopyWords o b w) more f k plain keeps = keeps
unmarked_keeps (Call x c all) more f k plain keeps = keeps

pub unmarked_behind : (i : Instruction) (more : List Instruction) (before : Option ℕ) → IsNoMarker i → place_behind more before ≡ place_behind (i ∷ more) before
unmarked_behind (Marker p) more before plain = absurd plain
unmarked_behind (Note x v) more before plain = refl
unmarked_behind (Move x a) more before plain = refl
unmarked_behind (Operate x op a b) more before plain = refl
unmarked_behind (Truncate x t a) more before plain = refl
unmarked_behind (Same x a b) more before plain = refl
unmarked_behind (Address x o) more before plain = refl
unmarked_behind (Load x e l) more before plain = refl
unmarked_behind (Store e l a) more before plain = refl
unmarked_behind (Zero o w) more before plain = refl
unmarked_behind (CopyWords o b w) more before plain = refl
unmarked_behind (Call x c all) more before plain = refl
