-- The stops of a block are its markers but the entry.
use Rattle.std.proofs.Common.{◌≡◌, ℕ, Bool, true, false, ◌==◌, not, if◌then◌else◌, List, [], ◌∷◌, ◌++◌, length, refl, sym, ap, ◌∙◌, arith, append_assoc}
use Rattle.std.specs.List.{filter}
use Rattle.graph_core.specs.Graphs.{Instruction, Marker, Note, Move, Operate, Truncate, Same, Address, Load, Store, Zero, CopyWords, Call}
use Rattle.graph_core.specs.Validity.{markers_in}
use Rattle.rv_emit_words.specs.declared.code.Code.{Code}
use Rattle.rv_emit_words.specs.Shown.{shown, stop_if, stops_of}
use Rattle.rv_emit_code.specs.Stops.{shown_after}
use Rattle.base_laws.proofs.Lists.{append_none}

-- stops that are no entry
abbrev stops_but : (entry : ℕ) → List ℕ → List ℕ
stops_but entry places = filter (λ (p : ℕ). not (p == entry)) places

one_more : (b : Bool) (p : ℕ) (more : List ℕ) → stop_if b p ++ more ≡ (if b then p ∷ more else more)
one_more true p more = refl
one_more false p more = refl

after_is : (entry : ℕ) (is : List Instruction) (shown : List ℕ) → shown_after entry is shown ≡ shown ++ stops_but entry (markers_in is)
after_is entry [] shown = sym (append_none shown)
after_is entry (Marker p ∷ more) shown =
    after_is entry more (shown ++ stop_if (not (p == entry)) p) ∙ append_assoc shown (stop_if (not (p == entry)) p) (stops_but entry (markers_in more)) ∙ ap (λ l. shown ++ l) (one_more (not (p == entry)) p (stops_but entry (markers_in more)))
after_is entry (Note x v ∷ more) shown = after_is entry more shown
after_is entry (Move x a ∷ more) shown = after_is entry more shown
after_is entry (Operate x o a b ∷ more) shown = after_is entry more shown
after_is entry (Truncate x t a ∷ more) shown = after_is entry more shown
after_is entry (Same x a b ∷ more) shown = after_is entry more shown
after_is entry (Address x o ∷ more) shown = after_is entry more shown
after_is entry (Load x e l ∷ more) shown = after_is entry more shown
after_is entry (Store e l a ∷ more) shown = after_is entry more shown
after_is entry (Zero o w ∷ more) shown = after_is entry more shown
after_is entry (CopyWords o b w ∷ more) shown = after_is entry more shown
after_is entry (Call x f all ∷ more) shown = after_is entry more shown

-- Code that ends with a word, and shows what instructions show, has their markers but the entry as its stops.
pub block_stops : (c : Code) (entry : ℕ) (is : List Instruction) → c.begins ≡ false → shown c ≡ shown_after entry is [] → stops_of c.pieces.items ≡ stops_but entry (markers_in is)
block_stops c entry is b e = sym (append_none (stops_of c.pieces.items)) ∙ ap (λ is_stop. stops_of c.pieces.items ++ stop_if is_stop c.owner) (sym b) ∙ e ∙ after_is entry is []

-- Code that shows nothing has no stops.
pub no_stops : (c : Code) → shown c ≡ [] → stops_of c.pieces.items ≡ []
no_stops c e = nil_left (stops_of c.pieces.items) (stop_if c.begins c.owner) e
  where
    nil_left : (xs ys : List ℕ) → xs ++ ys ≡ [] → xs ≡ []
    nil_left [] ys h = refl
    nil_left (x ∷ xs) ys h = (let n : length (x ∷ (xs ++ ys)) ≡ 0 = ap (λ l. length l) h in absurd (omega (arith, n)))
