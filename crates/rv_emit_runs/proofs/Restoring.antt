-- Registers that are loaded from a frame: the others are as they were, and those that were saved there hold what they held.
use Rattle.std.proofs.Common.{◌≡◌, ◌≢◌, ℕ, ◌+◌, ◌*◌, ◌<◌, ◌≤◌, ◌⊎◌, ⊎_elim, inl, inr, sym, ◌∙◌, subst, arith, refl, List, [], ◌∷◌, length}
use Rattle.std.specs.List.{AllByRecursion}
use Rattle.std.proofs.lemmas.Bool.{cases_eq}
use Rattle.graph_core.specs.Paths.{Among, front, behind}
use Rattle.graph_homes.specs.Homed.{IsHomeRegister}
use Rattle.rv_emit_steps.specs.Holding.{Holding, with_register, word_at}
use Rattle.rv_emit_steps.proofs.Registers.{register_same, register_other}
use Rattle.rv_emit_steps.proofs.Elements.{word_kept}
use Rattle.rv_emit_runs.specs.Waiting.{FunctionCode, restored, behind_frame}

-- ---- Numbers of registers

pub home_some : (r : ℕ) → IsHomeRegister r → 0 < r
home_some r (inl is) = omega (arith, is)
home_some r (inr (low, high)) = omega (arith, low)

-- x0, ra, sp, gp and tp are no homes.
pub low_no_home : (q r : ℕ) → q ≤ 4 → IsHomeRegister r → q ≢ r
low_no_home q r low (inl is) = λ e. omega (arith, low, is, e)
low_no_home q r low (inr (least, most)) = λ e. omega (arith, low, least, e)

pub a0_no_home : (r : ℕ) → IsHomeRegister r → 10 ≢ r
a0_no_home r (inl is) = λ e. omega (arith, is, e)
a0_no_home r (inr (least, most)) = λ e. omega (arith, least, e)

not_front : (q r : ℕ) (more : List ℕ) → q ≢ r → Among q (r ∷ more) → Among q more
not_front q r more ne front = absurd (ne refl)
not_front q r more ne (behind later) = later

-- ---- What is restored

-- A register that is none of those that are loaded.
pub restored_other : (saved : List ℕ) (a : ℕ) (m registers : ℕ → ℕ) (q : ℕ) → AllByRecursion (λ r. q ≢ r) saved → restored saved a m registers q ≡ registers q
restored_other [] a m registers q none = refl
restored_other (r ∷ more) a m registers q none = restored_other more (a + 4) m (with_register r (word_at m a) registers) q none.1 ∙ register_other r (word_at m a) q registers none.0

-- Each of x0, ra, sp, gp and tp.
low_none : (saved : List ℕ) (q : ℕ) → q ≤ 4 → AllByRecursion IsHomeRegister saved → AllByRecursion (λ r. q ≢ r) saved
low_none [] q low all = tt
low_none (r ∷ more) q low all = (low_no_home q r low all.0, low_none more q low all.1)

pub restored_low : (saved : List ℕ) (a : ℕ) (m registers : ℕ → ℕ) (q : ℕ) → q ≤ 4 → AllByRecursion IsHomeRegister saved → restored saved a m registers q ≡ registers q
restored_low saved a m registers q low all = restored_other saved a m registers q (low_none saved q low all)

a0_none : (saved : List ℕ) → AllByRecursion IsHomeRegister saved → AllByRecursion (λ r. 10 ≢ r) saved
a0_none [] all = tt
a0_none (r ∷ more) all = (a0_no_home r all.0, a0_none more all.1)

-- The one that results are in.
pub restored_a0 : (saved : List ℕ) (a : ℕ) (m registers : ℕ → ℕ) → AllByRecursion IsHomeRegister saved → restored saved a m registers 10 ≡ registers 10
restored_a0 saved a m registers all = restored_other saved a m registers 10 (a0_none saved all)

-- The same is restored where the bytes are the same from which it is loaded, and a register that is not loaded is the same.
pub restored_agree : (saved : List ℕ) (a : ℕ) (m n before after : ℕ → ℕ) (q : ℕ) → AllByRecursion IsHomeRegister saved → ((b : ℕ) → a ≤ b → b < a + 4 * length saved → n b ≡ m b) → (after q ≡ before q) ⊎ Among q saved
    → restored saved a n after q ≡ restored saved a m before q
restored_agree [] a m n before after q all same (inl e) = e
restored_agree [] a m n before after q all same (inr none) = elim none [ ]
restored_agree (r ∷ more) a m n before after q all same which =
    let word : word_at n a ≡ word_at m a = word_kept m n a (same a (omega arith) (omega arith)) (same (a + 1) (omega arith) (omega arith)) (same (a + 2) (omega arith) (omega arith)) (same (a + 3) (omega arith) (omega arith)) in
    restored_agree more (a + 4) m n (with_register r (word_at m a) before) (with_register r (word_at n a) after) q all.1 (λ b low high. same b (omega (arith, low)) (omega (arith, high)))
    (⊎_elim
    (λ (is : q ≡ r). inl (subst (λ z. with_register r (word_at n a) after z ≡ with_register r (word_at m a) before z) (sym is)
    (register_same r (word_at n a) after (home_some r all.0) ∙ word ∙ sym (register_same r (word_at m a) before (home_some r all.0)))))
    (λ (other : q ≢ r). ⊎_elim
    (λ (e : after q ≡ before q). inl (register_other r (word_at n a) q after other ∙ e ∙ sym (register_other r (word_at m a) q before other)))
    (λ (among : Among q (r ∷ more)). inr (not_front q r more other among))
    which)
    (cases_eq q r))

-- Each of those that are loaded was saved: its word is what it held.
abbrev pub AreSaved : List ℕ → (address : ℕ) → (memory registers : ℕ → ℕ) → Type 0
AreSaved [] a m registers = Unit {0}
AreSaved (r ∷ more) a m registers = (word_at m a ≡ registers r) × AreSaved more (a + 4) m registers

-- What was saved is restored, and what was not written need not be.
pub restored_saved : (saved : List ℕ) (a : ℕ) (m before after : ℕ → ℕ) (q : ℕ) → AllByRecursion IsHomeRegister saved → AreSaved saved a m before → (after q ≡ before q) ⊎ Among q saved → restored saved a m after q ≡ before q
restored_saved [] a m before after q all have (inl e) = e
restored_saved [] a m before after q all have (inr none) = elim none [ ]
restored_saved (r ∷ more) a m before after q all have which =
    restored_saved more (a + 4) m before (with_register r (word_at m a) after) q all.1 have.1
    (⊎_elim
    (λ (is : q ≡ r). inl (subst (λ z. with_register r (word_at m a) after z ≡ before z) (sym is) (register_same r (word_at m a) after (home_some r all.0) ∙ have.0)))
    (λ (other : q ≢ r). ⊎_elim
    (λ (e : after q ≡ before q). inl (register_other r (word_at m a) q after other ∙ e))
    (λ (among : Among q (r ∷ more)). inr (not_front q r more other among))
    which)
    (cases_eq q r))

-- What a caller finds in a register but sp.
pub behind_other : (f : FunctionCode) (h : Holding) (q : ℕ) → q ≢ 2 → (behind_frame f h).registers q ≡ restored f.saved (h.registers 2 + 4) h.memory h.registers q
behind_other f h q other = register_other 2 (h.registers 2 + f.size) q (restored f.saved (h.registers 2 + 4) h.memory h.registers) other
