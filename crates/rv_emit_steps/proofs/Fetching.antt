-- The words that fetch what is read do so.
use Rattle.std.proofs.Common.{◌≡◌, ℕ, ◌<◌, sym, ap, ◌∙◌, arith, refl, Bool, true, false, cond, Option, Some, None, List, [], ◌∷◌}
use Rattle.std.specs.Prelude.{◌==◌}
use Rattle.std.specs.Option.{option_map_or}
use Rattle.std.proofs.lemmas.Bool.{eqb-true}
use Rattle.graph_homes.specs.declared.home.Home.TheVariants.{Register, Slot}
use Rattle.rv_emit_words.specs.declared.piece.Held.{Held}
use Rattle.rv_emit_storage.specs.declared.storage.Source.{Source}
use Rattle.rv_emit_storage.specs.declared.storage.Source.TheVariants.{Home as OfHome, Word}
use Rattle.rv_emit_storage.specs.Storages.{StorageForm, slot_at}
use Rattle.rv_emit_words.specs.Growing.{holder_of}
use Rattle.rv_emit_words.specs.Constants.{constant_code, constant_register, fetched_constant}
use Rattle.rv_emit_words.specs.Operands.{source_register, fetched_source}
use Rattle.rv_emit_steps.specs.Holding.{Holding}
use Rattle.rv_emit_steps.specs.EmitMovesDoing.{Brings, HoldsAll, value_of, CanRead}
use Rattle.rv_emit_steps.proofs.Constants.{constant_brings}
use Rattle.rv_emit_steps.proofs.Slots.{slot_brings}

-- Where nothing is to be done, a register holds what it holds.
nothing_brings : (h : Holding) (written r v : ℕ) → h.registers r ≡ v → Brings [] h written r v
nothing_brings h written r v e = record { can = tt; value = e; kept = λ q other scratch. refl; memory = refl; input = refl }

-- A register that is found to hold a word does.
pub holder_holds : (held : List Held) (h : Holding) (w r : ℕ) → HoldsAll held h → holder_of w held ≡ Some r → h.registers r ≡ w
holder_holds [] h w r all found = cc
holder_holds (x ∷ more) h w r all found = by_test (λ is. holder_holds more h w r all.1 is) (x.word == w) refl found
  where
    by_test : (holder_of w more ≡ Some r → h.registers r ≡ w) → (b : Bool) → (x.word == w) ≡ b → cond b (Some x.register) (holder_of w more) ≡ Some r → h.registers r ≡ w
    by_test rest true same is = let reg : x.register ≡ r = cc in ap h.registers (sym reg) ∙ all.0 ∙ eqb-true x.word w same
    by_test rest false same is = rest is

-- A constant is found in a register: register 0, gp, one that holds it, or the scratch register that it is brought into.
pub constant_found : (h : Holding) (held : List Held) (w base scratch : ℕ) → 0 < scratch → w < 4294967296 → base < 4294967296 → h.registers 0 ≡ 0 → h.registers 3 ≡ base → HoldsAll held h
    → Brings (fetched_constant w base scratch held) h scratch (constant_register w base scratch held) w
constant_found h held w base scratch some fits within none gp all = by_tests (w == 0) (w == base) (holder_of w held) refl refl refl
  where
    by_tests : (z b : Bool) (o : Option ℕ) → (w == 0) ≡ z → (w == base) ≡ b → holder_of w held ≡ o
        → Brings (cond z [] (cond b [] (option_map_or (λ r. []) o (constant_code scratch w base)))) h scratch (cond z 0 (cond b 3 (option_map_or (λ r. r) o scratch))) w
    by_tests true b o ez eb eo = nothing_brings h scratch 0 w (none ∙ sym (eqb-true w 0 ez))
    by_tests false true o ez eb eo = nothing_brings h scratch 3 w (gp ∙ sym (eqb-true w base eb))
    by_tests false false (Some r) ez eb eo = nothing_brings h scratch r w (holder_holds held h w r all eo)
    by_tests false false None ez eb eo = constant_brings h scratch w base some fits within none gp

-- What is read is found in its register, behind the words that fetch it.
pub source_found : (g : StorageForm) (h : Holding) (held : List Held) (source : Source) (scratch : ℕ) → 0 < scratch → g.base < 4294967296 → h.registers 0 ≡ 0 → h.registers 3 ≡ g.base → HoldsAll held h → CanRead g h source
    → Brings (fetched_source g held source scratch) h scratch (source_register g held source scratch) (value_of g h source)
source_found g h held (OfHome (Register r)) scratch some within none gp all can = nothing_brings h scratch r (h.registers r) refl
source_found g h held (OfHome (Slot k)) scratch some within none gp all can = slot_brings h scratch (slot_at g k) some can
source_found g h held (Word w) scratch some within none gp all can = constant_found h held w g.base scratch some (omega arith) within none gp all
