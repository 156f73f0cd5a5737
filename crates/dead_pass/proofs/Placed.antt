-- Instructions of a valid graph have places, and write names of it.
use Rattle.std.proofs.Common.{◌≡◌, ◌≢◌, ℕ, ◌<◌, Option, Some, None, List, [], ◌∷◌, ◌++◌, refl, sym, ap, ◌∙◌, subst}
use Rattle.std.specs.List.{AllByRecursion}
use Rattle.std.specs.Option.{option_or}
use Rattle.std.proofs.lemmas.Option.{same_Some, none-some}
use Rattle.debug_records.specs.declared.change.Place.{Place}
use Rattle.graph_core.specs.Graphs.{NoteValue, Instruction, Marker, Note, Move, Operate, Truncate, Same, Address, Load, Store, Zero, CopyWords, Call, Graph, UnitForm}
use Rattle.graph_core.specs.Uses.{marker_of, target_of}
use Rattle.graph_core.specs.Validity.{place_behind, HasPlace, IsBlock, IsGraph, IsInstruction}
use Rattle.dead_pass_notes.specs.Sources.{AreNamed}
use Rattle.dead_pass_notes.specs.Points.{placed}
use Rattle.dead_pass.specs.Noted.{ArePlaced}
use Rattle.base_laws.proofs.Lists.{all_at, all_behind_these}
use Rattle.graph_core.proofs.Among.{behind_last, behind_one}

-- a place in force stays, or another begins
placed_behind : (before : List Instruction) (p : ℕ) → (q : ℕ) × (place_behind before (Some p) ≡ Some q)
placed_behind [] p = (p, refl)
placed_behind (Marker q ∷ before) p = placed_behind before q
placed_behind (_ ∷ before) p = placed_behind before p

placed_kept : (before : List Instruction) (kept : Option ℕ) → kept ≢ None → (q : ℕ) × (place_behind before kept ≡ Some q)
placed_kept before None has = absurd (has refl)
placed_kept before (Some p) has = placed_behind before p

-- a note has a place
pub note_placed : (before rest : List Instruction) (x : ℕ) (v : NoteValue) (kept : Option ℕ) → HasPlace (before ++ Note x v ∷ rest) kept → (q : ℕ) × (place_behind before kept ≡ Some q)
note_placed [] rest x v kept has = placed_kept [] kept has
note_placed (Marker q ∷ before) rest x v kept has = placed_behind before q
note_placed (_ ∷ before) rest x v kept has = placed_kept before kept has

placed_or : (m s : Option Place) → placed (option_or m s) ≡ option_or (placed m) (placed s)
placed_or None s = refl
placed_or (Some q) s = refl

pub place_on : (before : List Instruction) (i : Instruction) (kept : Option ℕ) (m s : Option Place) → placed m ≡ marker_of i → placed s ≡ place_behind before kept → placed (option_or m s) ≡ place_behind (before ++ i ∷ []) kept
place_on before i kept m s marks so_far =
    placed_or m s ∙ ap (λ a. option_or a (placed s)) marks ∙ ap (option_or (marker_of i)) so_far ∙ sym (behind_one i (place_behind before kept)) ∙ sym (behind_last before i kept)

module _ (u : UnitForm) (g : Graph) where
  target_named : (i : Instruction) (x : ℕ) → IsInstruction u g i → target_of i ≡ Some x → x < g.name_count
  target_named (Marker p) x is e = absurd (none-some x e)
  target_named (Note y v) x is e = absurd (none-some x e)
  target_named (Move y a) x is e = subst (λ z. z < g.name_count) (same_Some y x e) is.0
  target_named (Operate y o a b) x is e = subst (λ z. z < g.name_count) (same_Some y x e) is.0
  target_named (Truncate y t a) x is e = subst (λ z. z < g.name_count) (same_Some y x e) is.0
  target_named (Same y a b) x is e = subst (λ z. z < g.name_count) (same_Some y x e) is.0
  target_named (Address y object) x is e = subst (λ z. z < g.name_count) (same_Some y x e) is.0
  target_named (Load y w l) x is e = subst (λ z. z < g.name_count) (same_Some y x e) is.0
  target_named (Store w l a) x is e = absurd (none-some x e)
  target_named (Zero object words) x is e = absurd (none-some x e)
  target_named (CopyWords object bytes words) x is e = absurd (none-some x e)
  target_named (Call None f all) x is e = absurd (none-some x e)
  target_named (Call (Some y) f all) x is e = subst (λ z. z < g.name_count) (same_Some y x e) is.0

  -- a graph of a valid unit
  module _ (valid : IsGraph u g) where
    pub graph_named : AreNamed g
    graph_named n b before rest i x at parts target =
        let whole : AllByRecursion (IsInstruction u g) (before ++ i ∷ rest) = subst (λ l. AllByRecursion (IsInstruction u g) l) parts (all_at (IsBlock u g) g.blocks n b valid.blocks at).instructions in
        target_named i x (all_behind_these (IsInstruction u g) before (i ∷ rest) whole).0 target

    pub graph_placed : ArePlaced g
    graph_placed n b at = (all_at (IsBlock u g) g.blocks n b valid.blocks at).place
