-- Code that writes no home but those that it may: the code of constants, operands and homes.
use Rattle.std.proofs.Common.{◌≡◌, ℕ, ◌+◌, ◌*◌, ◌%◌, ◌<◌, ◌≤◌, ◌⊎◌, inl, inr, ⊎_elim, ◌==◌, nat_lt, cond, Bool, true, false, Option, Some, None, List, [], ◌∷◌, ◌++◌, refl, sym, ◌∙◌, subst, arith}
use Rattle.std.specs.Option.{option_map_or}
use Rattle.std.specs.List.{AllByRecursion}
use Rattle.std.proofs.lemmas.Bool.{cases_eq}
use Rattle.word_base.specs.Arithmetic.{subtracted}
use Rattle.rv_code.specs.declared.instruction.Instruction.{Instruction}
use Rattle.rv_code.specs.declared.instruction.Instruction.TheVariants.{Lui, Auipc, Jal, Jalr, Branch, Load, Store, Immediate, Register as OnRegisters, Fence, Ecall, Ebreak}
use Rattle.rv_code.specs.declared.instruction.ImmediateOperation.TheVariants.{Addi}
use Rattle.rv_code.specs.declared.instruction.LoadOperation.TheVariants.{Lw}
use Rattle.rv_code.specs.declared.instruction.RegisterOperation.TheVariants as on
use Rattle.rv_code.specs.declared.instruction.StoreOperation.TheVariants.{Sw}
use Rattle.graph_homes.specs.declared.home.Home.{Home}
use Rattle.graph_homes.specs.declared.home.Home.TheVariants.{Register, Slot}
use Rattle.graph_homes.specs.Homed.{IsHomeRegister}
use Rattle.rv_emit_words.specs.declared.piece.Held.{Held}
use Rattle.rv_emit_storage.specs.declared.storage.Source.{Source}
use Rattle.rv_emit_storage.specs.declared.storage.Source.TheVariants.{Home as OfHome, Word}
use Rattle.rv_emit_storage.specs.Storages.{StorageForm, slot_at}
use Rattle.rv_emit_words.specs.Constants.{constant_by, constant_code, constant_register, fetched_constant, high_part, is_near_base, is_small, low_part, one_word_constant, set_constant_code, words_of_constant}
use Rattle.rv_emit_words.specs.Growing.{holder_of}
use Rattle.rv_emit_words.specs.Operands.{address_code, bringing, fetched_home, fetched_source, finishing, home_register, home_written, load_slot_code, result_register, source_register, store_slot_code}
use Rattle.rv_emit_steps.proofs.Parts.{parts_make}
use Rattle.rv_emit_sequence.specs.Sequences.{AreConstants, IsConstant}
use Rattle.rv_emit_runs.specs.Writing.{MayReach}
use Rattle.rv_emit_runs.proofs.Forms.{choice, perhaps}

-- One instruction that was, or none that is known.
abbrev pub Before : Type 0
Before = Option Instruction

-- What is known of one is not less than what another says.
abbrev pub IsMore : Before → Before → Type 0
IsMore a b = (a ≡ None) ⊎ (a ≡ b)

-- given: where values are found, how many slots there are, and which homes may be written
module _ (g : StorageForm) (slots : ℕ) (W : Home → Type 0) where
  -- A register may be written.
  abbrev pub MayMake : ℕ → Type 0
  MayMake r = IsHomeRegister r → W (Register r)

  -- A store so far behind sp may be: each slot that it may reach may be written.
  abbrev pub MayStoreAt : ℕ → Type 0
  MayStoreAt n = (k : ℕ) → k < slots → MayReach n (slot_at g k) → W (Slot k)

  -- A store from t0 may be: the two words before it set that.
  pub record IsBehind (a b : Before) (n : ℕ) : Type 0 where
    pub upper : ℕ
    pub first : a ≡ Some (Lui 5 upper)
    pub second : b ≡ Some (OnRegisters on.Add 5 5 2)
    pub reach : MayStoreAt ((upper * 4096 + n) % 4294967296)

  -- An instruction writes no home but those that it may, behind two that are known or not.
  abbrev pub IsSparing : (a b : Before) → Instruction → Type 0
  IsSparing a b (Lui d n) = MayMake d
  IsSparing a b (Auipc d n) = MayMake d
  IsSparing a b (Jal d n) = MayMake d
  IsSparing a b (Jalr d base n) = MayMake d
  IsSparing a b (Branch op x y n) = Unit {0}
  IsSparing a b (Load op d base n) = MayMake d
  IsSparing a b (Store op v base n) = (base ≡ 2 → MayStoreAt n) × (base ≡ 5 → IsBehind a b n)
  IsSparing a b (Immediate op d x n) = MayMake d
  IsSparing a b (OnRegisters op d x y) = MayMake d
  IsSparing a b (Fence x y n) = Unit {0}
  IsSparing a b Ecall = Unit {0}
  IsSparing a b Ebreak = Unit {0}

  -- So do instructions one behind the other.
  abbrev pub AreSparing : (a b : Before) → List Instruction → Type 0
  AreSparing a b [] = Unit {0}
  AreSparing a b (i ∷ more) = IsSparing a b i × AreSparing b (Some i) more

  -- So does code, whatever stands before it.
  abbrev pub Spares : List Instruction → Type 0
  Spares code = AreSparing None None code

  -- ---- One behind the other

  known_more : (a b : Before) (i : Instruction) → IsMore a b → a ≡ Some i → b ≡ Some i
  known_more a b i (inl none) e = let never : None ≡ Some i = sym none ∙ e in cc
  known_more a b i (inr same) e = sym same ∙ e

  behind_more : (a b c d : Before) (n : ℕ) → IsMore a c → IsMore b d → IsBehind a b n → IsBehind c d n
  behind_more a b c d n first second is = record { upper = is.upper; first = known_more a c (Lui 5 is.upper) first is.first; second = known_more b d (OnRegisters on.Add 5 5 2) second is.second; reach = is.reach }

  pub one_more : (a b c d : Before) (i : Instruction) → IsMore a c → IsMore b d → IsSparing a b i → IsSparing c d i
  one_more a b c d (Lui r n) first second is = is
  one_more a b c d (Auipc r n) first second is = is
  one_more a b c d (Jal r n) first second is = is
  one_more a b c d (Jalr r base n) first second is = is
  one_more a b c d (Branch op x y n) first second is = tt
  one_more a b c d (Load op r base n) first second is = is
  one_more a b c d (Store op v base n) first second is = (is.0, λ e. behind_more a b c d n first second (is.1 e))
  one_more a b c d (Immediate op r x n) first second is = is
  one_more a b c d (OnRegisters op r x y) first second is = is
  one_more a b c d (Fence x y n) first second is = tt
  one_more a b c d Ecall first second is = tt
  one_more a b c d Ebreak first second is = tt

  all_more : (a b c d : Before) (code : List Instruction) → IsMore a c → IsMore b d → AreSparing a b code → AreSparing c d code
  all_more a b c d [] first second are = tt
  all_more a b c d (i ∷ more) first second are = (one_more a b c d i first second are.0, all_more b (Some i) d (Some i) more second (inr refl) are.1)

  both_behind : (a b : Before) (front back : List Instruction) → AreSparing a b front → Spares back → AreSparing a b (front ++ back)
  both_behind a b [] back one two = all_more None None a b back (inl refl) (inl refl) two
  both_behind a b (i ∷ front) back one two = (one.0, both_behind b (Some i) front back one.1 two)

  pub both_spare : (front back : List Instruction) → Spares front → Spares back → Spares (front ++ back)
  both_spare front back one two = both_behind None None front back one two

  pub three_spare : (front middle back : List Instruction) → Spares front → Spares middle → Spares back → Spares (front ++ middle ++ back)
  three_spare front middle back one two three = both_spare (front ++ middle) back (both_spare front middle one two) three

  pub first_spares : (i : Instruction) (more : List Instruction) → IsSparing None None i → Spares more → Spares (i ∷ more)
  first_spares i more one rest = (one, all_more None None None (Some i) more (inl refl) (inl refl) rest)

  -- ---- Registers that are no homes

  pub low : (r : ℕ) → r < 9 → MayMake r
  low r lt is = absurd (⊎_elim (λ (e : r ≡ 9). omega (arith, e, lt)) (λ (both : (18 ≤ r) × (r ≤ 31)). let le = both.0 in omega (arith, le, lt)) is)

  pub middle : (r : ℕ) → 10 ≤ r → r < 18 → MayMake r
  middle r le lt is = absurd (⊎_elim (λ (e : r ≡ 9). omega (arith, e, le)) (λ (both : (18 ≤ r) × (r ≤ 31)). let high = both.0 in omega (arith, high, lt)) is)

  -- ---- Constants

  pub constant_spares : (n r w base : ℕ) → MayMake r → Spares (constant_by n r w base)
  constant_spares n r w base may = choice Spares (n == 1) (one_word_constant r w base ∷ []) (Lui r (high_part w) ∷ Immediate Addi r r (low_part w) ∷ []) (λ e. (one, tt)) (λ e. (may, (may, tt)))
    where
      one : IsSparing None None (one_word_constant r w base)
      one = choice (IsSparing None None) (is_small w) (Immediate Addi r 0 w) (cond (is_near_base w base) (Immediate Addi r 3 (subtracted w base)) (Lui r (high_part w))) (λ e. may)
          (λ e. choice (IsSparing None None) (is_near_base w base) (Immediate Addi r 3 (subtracted w base)) (Lui r (high_part w)) (λ e. may) (λ e. may))

  pub fetched_constant_spares : (w base scratch : ℕ) (held : List Held) → MayMake scratch → Spares (fetched_constant w base scratch held)
  fetched_constant_spares w base scratch held may =
      choice Spares (w == 0) [] _ (λ e. tt)
      (λ e. choice Spares (w == base) [] _ (λ e. tt) (λ e. perhaps Spares (λ r. []) (holder_of w held) (constant_code scratch w base) (λ r at. tt) (constant_spares (words_of_constant w base) scratch w base may)))

  pub set_constant_spares : (r w base : ℕ) (held : List Held) → MayMake r → Spares (set_constant_code r w base held)
  set_constant_spares r w base held may =
      choice Spares (is_small w) (constant_by (words_of_constant w base) r w base) _ (λ e. constant_spares (words_of_constant w base) r w base may)
      (λ e. perhaps Spares (λ q. Immediate Addi r q 0 ∷ []) (holder_of w held) (constant_by (words_of_constant w base) r w base) (λ q at. (may, tt)) (constant_spares (words_of_constant w base) r w base may))

  -- ---- Reading

  pub load_slot_spares : (r offset : ℕ) → MayMake r → Spares (load_slot_code r offset)
  load_slot_spares r offset may = choice Spares (nat_lt offset 2048) _ _ (λ e. (may, tt)) (λ e. (low 5 (omega arith), (low 5 (omega arith), (may, tt))))

  pub address_spares : (r scratch offset : ℕ) → MayMake r → MayMake scratch → Spares (address_code r scratch offset)
  address_spares r scratch offset may also =
      choice Spares (nat_lt offset 2048) _ _ (λ e. (may, tt)) (λ e. choice Spares (low_part offset == 0) _ _ (λ e. (also, (may, tt))) (λ e. (also, (also, (may, tt)))))

  pub fetched_home_spares : (home : Home) (scratch : ℕ) → MayMake scratch → Spares (fetched_home g home scratch)
  fetched_home_spares (Register r) scratch may = tt
  fetched_home_spares (Slot k) scratch may = load_slot_spares scratch (slot_at g k) may

  pub fetched_spares : (held : List Held) (source : Source) (scratch : ℕ) → MayMake scratch → Spares (fetched_source g held source scratch)
  fetched_spares held (OfHome home) scratch may = fetched_home_spares home scratch may
  fetched_spares held (Word w) scratch may = fetched_constant_spares w g.base scratch held may

  pub bringing_spares : (held : List Held) (r : ℕ) (source : Source) → MayMake r → Spares (bringing g held r source)
  bringing_spares held r (Word w) may = set_constant_spares r w g.base held may
  bringing_spares held r (OfHome (Slot k)) may = load_slot_spares r (slot_at g k) may
  bringing_spares held r (OfHome (Register q)) may = choice Spares (q == r) [] _ (λ e. tt) (λ e. (may, tt))

  -- ---- Writing

  -- A home may be written: it is a register that may be, or one of the slots.
  abbrev pub IsDue : Home → Type 0
  IsDue (Register r) = W (Register r)
  IsDue (Slot k) = W (Slot k) × (k < slots)

  pub result_due : (home : Home) → IsDue home → MayMake (result_register home)
  result_due (Register r) due = λ is. due
  result_due (Slot k) due = low 6 (omega arith)

  module _ (few : g.slots + 4 * slots ≤ 16384) where
    -- Where a slot lies, no other one does.
    slot_alone : (k j n : ℕ) → k < slots → j < slots → n ≡ slot_at g k → MayReach n (slot_at g j) → k ≡ j
    slot_alone k j n one two at reach = let left = reach.0 in let right = reach.1 in omega (arith, few, one, two, at, left, right)

    slot_low : (k : ℕ) → k < slots → slot_at g k < 4294967296
    slot_low k lt = omega (arith, few, lt)

    pub store_slot_spares : (register k : ℕ) → W (Slot k) → k < slots → Spares (store_slot_code register (slot_at g k))
    store_slot_spares register k may lt =
        choice Spares (nat_lt (slot_at g k) 2048) _ _
        (λ e. ((λ base. at (slot_at g k) refl, λ base. let never : 2 ≡ 5 = base in absurd (omega (arith, never))), tt))
        (λ e. (
          low 5 (omega arith),
          (
            low 5 (omega arith),
            (
              (
                λ base. let never : 5 ≡ 2 = base in absurd (omega (arith, never)),
                λ base. record { upper = high_part (slot_at g k); first = refl; second = refl; reach = at ((high_part (slot_at g k) * 4096 + low_part (slot_at g k)) % 4294967296) (parts_make (slot_at g k) (slot_low k lt)) },
              ),
              tt,
            ),
          ),
        ))
      where
        at : (n : ℕ) → n ≡ slot_at g k → MayStoreAt n
        at n is j low_j reach = subst (λ m. W (Slot m)) (slot_alone k j n lt low_j is reach) may

    pub finishing_spares : (home : Home) (register : ℕ) → IsDue home → Spares (finishing g home register)
    finishing_spares (Register q) register due = tt
    finishing_spares (Slot k) register due = store_slot_spares register k due.0 due.1

    pub written_spares : (home : Home) (register : ℕ) → IsDue home → Spares (home_written g home register)
    written_spares (Register q) register due = ((λ is. due), tt)
    written_spares (Slot k) register due = store_slot_spares register k due.0 due.1

-- ---- Registers from which nothing is stored into a slot

-- A register is neither sp nor t0.
abbrev pub IsAside : ℕ → Type 0
IsAside r = (r ≡ 2 → ⊥) × (r ≡ 5 → ⊥)

pub constant_aside : (x : Held) → IsConstant x → IsAside x.register
constant_aside x is = (
  λ e. ⊎_elim (λ (eight : x.register ≡ 8). absurd (omega (arith, e, eight))) (λ (both : (11 ≤ x.register) × (x.register ≤ 17)). let le = both.0 in absurd (omega (arith, e, le))) is.register,
  λ e. ⊎_elim (λ (eight : x.register ≡ 8). absurd (omega (arith, e, eight))) (λ (both : (11 ≤ x.register) × (x.register ≤ 17)). let le = both.0 in absurd (omega (arith, e, le))) is.register,
)

holder_aside : (w : ℕ) (held : List Held) (r : ℕ) → AreConstants held → holder_of w held ≡ Some r → IsAside r
holder_aside w [] r all e = cc
holder_aside w (x ∷ more) r all e = by_test (x.word == w) e (λ later. holder_aside w more r all.1 later)
  where
    by_test : (b : Bool) → cond b (Some x.register) (holder_of w more) ≡ Some r → (holder_of w more ≡ Some r → IsAside r) → IsAside r
    by_test true e later = let same : x.register ≡ r = cc in subst IsAside same (constant_aside x all.0)
    by_test false e later = later e

pub register_aside : (w base scratch : ℕ) (held : List Held) → IsAside scratch → AreConstants held → IsAside (constant_register w base scratch held)
register_aside w base scratch held aside all =
    choice IsAside (w == 0) 0 _ (λ e. (λ never. absurd (omega (arith, never)), λ never. absurd (omega (arith, never))))
    (λ e. choice IsAside (w == base) 3 _ (λ e. (λ never. absurd (omega (arith, never)), λ never. absurd (omega (arith, never)))) (λ e. perhaps IsAside (λ r. r) (holder_of w held) scratch (λ r at. holder_aside w held r all at) aside))

pub home_aside : (r : ℕ) → IsHomeRegister r → IsAside r
home_aside r is = (
  λ e. ⊎_elim (λ (nine : r ≡ 9). absurd (omega (arith, e, nine))) (λ (both : (18 ≤ r) × (r ≤ 31)). let le = both.0 in absurd (omega (arith, e, le))) is,
  λ e. ⊎_elim (λ (nine : r ≡ 9). absurd (omega (arith, e, nine))) (λ (both : (18 ≤ r) × (r ≤ 31)). let le = both.0 in absurd (omega (arith, e, le))) is,
)
