-- The words that bind all parameters give them the values that were passed, and leave what waits as it is.
use Rattle.std.proofs.Common.{◌≡◌, ℕ, ◌+◌, ◌*◌, ◌%◌, ◌<◌, ◌≤◌, ◌⊎◌, ⊎_elim, inl, inr, sym, ap, ◌∙◌, subst, arith, refl, Option, Some, None, cond, List, [], ◌∷◌, ◌++◌, length, map}
use Rattle.std.proofs.lemmas.Bool.{lt-ltb}
use Rattle.rv_code.specs.declared.instruction.Instruction.{Instruction as MachineInstruction}
use Rattle.graph_core.specs.declared.value.Value.{Value}
use Rattle.graph_core.specs.Graphs.{Binding, ToScalar, ToObject, Graph}
use Rattle.graph_core.specs.Memory.{Memory, words_of}
use Rattle.graph_core.specs.Paths.{Among}
use Rattle.graph_core.specs.Runs.{Configuration, bind_names, bind_objects}
use Rattle.graph_homes.specs.declared.home.Home.{Home}
use Rattle.graph_homes.specs.declared.home.Home.TheVariants.{Register, Slot}
use Rattle.graph_homes.specs.Homed.{IsHomeRegister, placed_binding}
use Rattle.rv_emit_storage.specs.Storages.{StorageForm, home_at}
use Rattle.rv_emit_instructions.specs.Calls.{argument_register}
use Rattle.rv_emit_steps.specs.Holding.{Holding}
use Rattle.rv_emit_steps.specs.Doing.{done_by_all, CanDoAll}
use Rattle.rv_emit_steps.proofs.Placing.{done_by_both, can_do_both}
use Rattle.rv_emit_steps.specs.EmitMovesDoing.{IsLeft}
use Rattle.rv_emit_steps.specs.Meaning.{Means}
use Rattle.rv_emit_steps.specs.Frames.{Setting, IsStorage, HoldsFrame, IsNoTarget, IsOutside}
use Rattle.rv_emit_steps.proofs.Objects.{AreThose, WasThere, means_later}
use Rattle.rv_emit_code.specs.Beginning.{binding_code, bindings_code}
use Rattle.rv_emit_runs.specs.Keeping.{IsTargetAmong, IsSaved}
use Rattle.rv_emit_runs.proofs.Binding.{AreOwnObjects, IsBindable, bound, bound_home, binding_performs, binding_those, binding_own}
use Rattle.rv_emit_runs.proofs.Spare.{BindsOne, HasRoom, IsBeside}
use Rattle.rv_emit_runs.proofs.Keeping.{low_no_target, home_or_saved}

-- The values that were passed are in the registers of arguments, from one of this number on.
abbrev pub AreGiven : (addresses : ℕ → ℕ) → Memory → Holding → (number : ℕ) → List Value → Type 0
AreGiven addresses memory h n [] = Unit {0}
AreGiven addresses memory h n (v ∷ more) = Means addresses memory v (h.registers (argument_register n)) × (h.registers (argument_register n) < 4294967296) × AreGiven addresses memory h (n + 1) more

-- What bindings make of a configuration, one behind the other.
abbrev pub all_bound : Setting → List Binding → List Value → Configuration → Configuration
all_bound w [] vs c = c
all_bound w (b ∷ more) [] c = c
all_bound w (b ∷ more) (v ∷ vs) c = all_bound w more vs (bound w b v c)

-- Each binding names what the function has, and a register that it writes is one that the frame keeps.
abbrev pub AreBindable : StorageForm → Graph → (saved : List ℕ) → List Binding → Type 0
AreBindable s g saved [] = Unit {0}
AreBindable s g saved (b ∷ more) = IsBindable g b × IsSaved saved (bound_home s b) × AreBindable s g saved more

-- That is what the unit makes of it.
pub bound_is : (w : Setting) (params : List Binding) (vs : List Value) (c : Configuration)
    → all_bound w params vs c ≡ record c { memory = bind_objects c.here.first_object (map (placed_binding (home_at w.storage)) params) vs c.memory; here = record c.here { names = bind_names (map (placed_binding (home_at w.storage)) params) vs c.here.names } }
bound_is w [] vs c = refl
bound_is w (b ∷ more) [] c = refl
bound_is w (ToScalar x ∷ more) (v ∷ vs) c = bound_is w more vs (bound w (ToScalar x) v c)
bound_is w (ToObject k ∷ more) (v ∷ vs) c = bound_is w more vs (bound w (ToObject k) v c)

-- Behind the words the machine holds the frame with all parameters bound. x0, sp, gp and tp are as they were, home registers that the frame does not keep, and memory outside of slots, of objects, and of the part of the frame where its objects lie.
pub record Binds (w : Setting) (saved : List ℕ) (code : List MachineInstruction) (c d : Configuration) (h : Holding) : Type 0 where
  pub can : CanDoAll code h
  pub frame : HoldsFrame w d (done_by_all code h)
  pub low : (q : ℕ) → q ≤ 4 → (done_by_all code h).registers q ≡ h.registers q
  pub homes : (r : ℕ) → IsHomeRegister r → ((done_by_all code h).registers r ≡ h.registers r) ⊎ Among r saved
  pub memory : (b : ℕ) → IsOutside w c h b → IsBeside w h b → (done_by_all code h).memory b ≡ h.memory b
  pub input : (done_by_all code h).input ≡ h.input
  pub those : AreThose c.memory d.memory
  pub same : length d.memory ≡ length c.memory

low_left : (q : ℕ) → q ≤ 4 → IsLeft q
low_left q low = record { t0 = λ e. omega (arith, low, e); t1 = λ e. omega (arith, low, e); t2 = λ e. omega (arith, low, e) }

-- A register of an argument is no home.
argument_no_target : (slots : ℕ) (target : Option Home) (q : ℕ) → 10 ≤ q → q ≤ 17 → IsTargetAmong slots target → IsNoTarget target q
argument_no_target slots None q low high among = tt
argument_no_target slots (Some (Register r)) q low high (inl is) = λ e. omega (arith, low, is, e)
argument_no_target slots (Some (Register r)) q low high (inr (least, most)) = λ e. omega (arith, high, least, e)
argument_no_target slots (Some (Slot k)) q low high among = tt

pub argument_is : (n : ℕ) → n < 8 → argument_register n ≡ 10 + n
argument_is n lt = ap (λ b. cond b (10 + n) 17) (lt-ltb n 8 lt)

bound_among : (w : Setting) (b : Binding) → IsStorage w → IsBindable w.graph b → IsTargetAmong w.slots (bound_home w.storage b)
bound_among w (ToScalar x) storage is = storage.homes x is
bound_among w (ToObject k) storage is = tt

still_first : (w : Setting) (b : Binding) (v : Value) (c : Configuration) → (bound w b v c).here.first_object ≡ c.here.first_object
still_first w (ToScalar x) v c = refl
still_first w (ToObject k) v c = refl

-- What was given is still so behind a binding.
given_later : (w : Setting) (c d : Configuration) (h t : Holding) (n : ℕ) (vs : List Value) → n + length vs ≤ 8 → AreThose c.memory d.memory → ((q : ℕ) → 10 ≤ q → q ≤ 17 → t.registers q ≡ h.registers q) → AreGiven w.addresses c.memory h n vs → AreGiven w.addresses d.memory t n vs
given_later w c d h t n [] few those kept given = tt
given_later w c d h t n (v ∷ more) few those kept given =
    let is : argument_register n ≡ 10 + n = argument_is n (omega (arith, few)) in
    let same : t.registers (argument_register n) ≡ h.registers (argument_register n) = kept (argument_register n) (omega (arith, is)) (omega (arith, is, few)) in (
      subst (λ x. Means w.addresses d.memory v x) (sym same) (means_later w.addresses c.memory d.memory those v _ given.0),
      subst (λ x. x < 4294967296) (sym same) given.1,
      given_later w c d h t (n + 1) more (omega (arith, few)) those kept given.2,
    )

-- A byte outside of slots and objects is so behind a binding.
outside_later : (w : Setting) (c d : Configuration) (h t : Holding) (b : ℕ) → t.registers 2 ≡ h.registers 2 → AreThose c.memory d.memory → IsOutside w c h b → IsOutside w d t b
outside_later w c d h t b sp those out = (
  subst (λ s. (b < s + w.storage.slots) ⊎ (s + (w.storage.slots + 4 * w.slots) ≤ b)) (sym sp) out.0,
  λ n o is live.
      let was : WasThere c.memory n o = those.were n o is in
      subst (λ k. (b < w.addresses n) ⊎ (w.addresses n + 4 * words_of k ≤ b)) (sym was.bytes) (out.1 n was.object was.is (was.live live)),
)

beside_later : (w : Setting) (h t : Holding) (b : ℕ) → t.registers 2 ≡ h.registers 2 → IsBeside w h b → IsBeside w t b
beside_later w h t b sp beside = subst (λ s. (b < s + (w.storage.slots + 4 * w.slots)) ⊎ (s + w.size ≤ b)) (sym sp) beside

through_those : (a b c : Memory) → AreThose a b → AreThose b c → AreThose a c
through_those a b c one two = record {
  kept = λ n size e. two.kept n size (one.kept n size e);
  were = λ n o is.
      let late : WasThere b n o = two.were n o is in
      let early : WasThere a n late.object = one.were n late.object late.is in
      record { object = early.object; is = early.is; bytes = late.bytes ∙ early.bytes; live = λ l. early.live (late.live l) };
}

pub all_bind : (w : Setting) (saved : List ℕ) (params : List Binding) (n : ℕ) (vs : List Value) (c : Configuration) (h : Holding) → IsStorage w → HasRoom w → HoldsFrame w c h → AreOwnObjects c.memory c.here.first_object w.graph → n + length params ≤ 8 → length vs ≡ length params
    → AreBindable w.storage w.graph saved params → AreGiven w.addresses c.memory h n vs → Binds w saved (bindings_code w.storage w.graph n params) c (all_bound w params vs c) h
all_bind w saved [] n vs c h storage room frame own few many legal given = record {
  can = tt;
  frame = frame;
  low = λ q le. refl;
  homes = λ r is. inl refl;
  memory = λ b out beside. refl;
  input = refl;
  those = record { kept = λ k size e. e; were = λ k o is. record { object = o; is = is; bytes = refl; live = λ l. l } };
  same = refl;
}
all_bind w saved (b ∷ more) n [] c h storage room frame own few many legal given = absurd (omega (arith, many))
all_bind w saved (b ∷ more) n (v ∷ vs) c h storage room frame own few many legal given =
    let r : ℕ = argument_register n in
    let is : r ≡ 10 + n = argument_is n (omega (arith, few)) in
    let target = bound_home w.storage b in
    let front = binding_code w.storage w.graph r b in
    let small : (n + 1) % 4294967296 ≡ n + 1 = omega (arith, few) in
    let back = bindings_code w.storage w.graph ((n + 1) % 4294967296) more in
    let one : BindsOne w c h target front (bound w b v c) = binding_performs w c h storage frame own r (omega (arith, is)) v given.0 given.1 room b legal.0 in
    let those = binding_those w c h storage frame own r (omega (arith, is)) v given.0 given.1 room b legal.0 in
    let among : IsTargetAmong w.slots target = bound_among w b storage legal.0 in
    let t : Holding = done_by_all front h in
    let low : (q : ℕ) → q ≤ 4 → t.registers q ≡ h.registers q = λ q le. one.kept q (low_no_target w.slots target q le among) (low_left q le) in
    let arguments : (q : ℕ) → 10 ≤ q → q ≤ 17 → t.registers q ≡ h.registers q =
    λ q least most. one.kept q (argument_no_target w.slots target q least most among) (record { t0 = λ e. omega (arith, least, e); t1 = λ e. omega (arith, least, e); t2 = λ e. omega (arith, least, e) }) in
    let d : Configuration = bound w b v c in
    let mine : AreOwnObjects d.memory d.here.first_object w.graph = subst (λ k. AreOwnObjects d.memory k w.graph) (sym (still_first w b v c)) (binding_own w c h storage frame own r (omega (arith, is)) v given.0 given.1 room b legal.0) in
    let rest : Binds w saved back d (all_bound w more vs d) t =
    subst (λ k. Binds w saved (bindings_code w.storage w.graph k more) d (all_bound w more vs d) t) (sym small)
    (all_bind w saved more (n + 1) vs d t storage room one.frame mine (omega (arith, few)) (omega (arith, many)) legal.2 (given_later w c d h t (n + 1) vs (omega (arith, few, many)) those.0 arguments given.2)) in
    let both : done_by_all (front ++ back) h ≡ done_by_all back t = done_by_both front back h in
    record {
      can = can_do_both front back h one.can rest.can;
      frame = subst (λ (u : Holding). HoldsFrame w (all_bound w more vs d) u) (sym both) rest.frame;
      low = λ q le. ap (λ (u : Holding). u.registers q) both ∙ rest.low q le ∙ low q le;
      homes = λ z home. ⊎_elim
          (λ (late : (done_by_all back t).registers z ≡ t.registers z). ⊎_elim
          (λ (early : t.registers z ≡ h.registers z). inl (ap (λ (u : Holding). u.registers z) both ∙ late ∙ early))
          (λ (kept : Among z saved). inr kept)
          (home_or_saved saved target h t z legal.1 home (λ q none kept. one.kept q none kept.left)))
          (λ (kept : Among z saved). inr kept)
          (rest.homes z home);
      memory = λ y out beside. ap (λ (u : Holding). u.memory y) both ∙ rest.memory y (outside_later w c d h t y (low 2 (omega arith)) those.0 out) (beside_later w h t y (low 2 (omega arith)) beside) ∙ one.outside y out beside;
      input = ap (λ (u : Holding). u.input) both ∙ rest.input ∙ one.input;
      those = through_those c.memory d.memory (all_bound w more vs d).memory those.0 rest.those;
      same = rest.same ∙ those.1;
    }
