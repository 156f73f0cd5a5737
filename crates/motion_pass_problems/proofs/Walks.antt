-- What is told of a block, and what walks along it find.
use Rattle.std.proofs.Common.{◌≡◌, Bool, true, false, true≢false, not, ◌&&◌, ◌||◌, List, [], ◌∷◌, ◌++◌, refl, sym, ap, ◌∙◌}
use Rattle.graph_core.specs.Graphs.{Instruction}
use Rattle.graph_core.specs.Computations.{Computation}
use Rattle.motion_pass_points.specs.Computing.{does, spoils}
use Rattle.motion_pass_points.specs.MotionPointsComputing.{Told, nothing, told_done, told_written, told_behind, told_along}
use Rattle.motion_pass_points.proofs.Unsafe.{unsafe_along}
use Rattle.motion_pass_problems.proofs.Bools.{or_true, or_false, and_true, and_false}

-- the computation is done, and no operand is written before
abbrev pub first_in : Computation → List Instruction → Bool
first_in e [] = false
first_in e (i ∷ rest) = does e i || (not (spoils e i) && first_in e rest)

-- it is done
abbrev pub done_in : Computation → List Instruction → Bool
done_in e [] = false
done_in e (i ∷ rest) = does e i || done_in e rest

-- an operand is written
abbrev pub written_in : Computation → List Instruction → Bool
written_in e [] = false
written_in e (i ∷ rest) = spoils e i || written_in e rest

pub told_snoc : (e : Computation) (before : List Instruction) (i : Instruction) (t : Told) → told_along e (before ++ i ∷ []) t ≡ told_behind e i (told_along e before t)
told_snoc e [] i t = refl
told_snoc e (j ∷ before) i t = told_snoc e before i (told_behind e j t)

or_more : (f v r : Bool) → ((f || v) || (v && r)) ≡ (f || v)
or_more true v r = refl
or_more false true r = refl
or_more false false r = refl

first_step : (d s : Bool) (t : Told) (r : Bool) → ((told_written s (told_done d t)).first || (not (told_written s (told_done d t)).written && r)) ≡ (t.first || (not t.written && (d || (not s && r))))
first_step true true t r = or_false (t.first || not t.written) ∙ ap (λ b. t.first || b) (sym (and_true (not t.written)))
first_step true false t r = or_more t.first (not t.written) r ∙ ap (λ b. t.first || b) (sym (and_true (not t.written)))
first_step false true t r = or_false t.first ∙ sym (ap (λ b. t.first || b) (and_false (not t.written)) ∙ or_false t.first)
first_step false false t r = refl

pub told_first : (e : Computation) (all : List Instruction) (t : Told) → (told_along e all t).first ≡ (t.first || (not t.written && first_in e all))
told_first e [] t = sym (ap (λ b. t.first || b) (and_false (not t.written)) ∙ or_false t.first)
told_first e (i ∷ rest) t = told_first e rest (told_behind e i t) ∙ first_step (does e i) (spoils e i) t (first_in e rest)

done_step : (d s : Bool) (t : Told) (r : Bool) → ((told_written s (told_done d t)).done || r) ≡ (t.done || (d || r))
done_step true true t r = sym (or_true t.done)
done_step true false t r = sym (or_true t.done)
done_step false true t r = refl
done_step false false t r = refl

pub told_is_done : (e : Computation) (all : List Instruction) (t : Told) → (told_along e all t).done ≡ (t.done || done_in e all)
told_is_done e [] t = sym (or_false t.done)
told_is_done e (i ∷ rest) t = told_is_done e rest (told_behind e i t) ∙ done_step (does e i) (spoils e i) t (done_in e rest)

written_step : (d s : Bool) (t : Told) (r : Bool) → ((told_written s (told_done d t)).written || r) ≡ (t.written || (s || r))
written_step true true t r = sym (or_true t.written)
written_step true false t r = refl
written_step false true t r = sym (or_true t.written)
written_step false false t r = refl

pub told_is_written : (e : Computation) (all : List Instruction) (t : Told) → (told_along e all t).written ≡ (t.written || written_in e all)
told_is_written e [] t = sym (or_false t.written)
told_is_written e (i ∷ rest) t = told_is_written e rest (told_behind e i t) ∙ written_step (does e i) (spoils e i) t (written_in e rest)

-- Not down-safe: an operand is written, or it is so at the end, and the computation is not done first.
unsafe_step : (d s f w u : Bool) → (not d && (s || ((w || u) && not f))) ≡ (((s || w) || u) && not (d || (not s && f)))
unsafe_step true s f w u = sym (and_false ((s || w) || u))
unsafe_step false true f w u = refl
unsafe_step false false f w u = refl

pub unsafe_walk : (e : Computation) (all : List Instruction) (u : Bool) → unsafe_along e all u ≡ ((written_in e all || u) && not (first_in e all))
unsafe_walk e [] u = sym (and_true u)
unsafe_walk e (i ∷ rest) u = ap (λ b. not (does e i) && (spoils e i || b)) (unsafe_walk e rest u) ∙ unsafe_step (does e i) (spoils e i) (first_in e rest) (written_in e rest) u

-- whether it is not up-safe, where it is not down-safe
abbrev pub unhad_walk : Computation → List Instruction → Bool → Bool
unhad_walk e [] x = x
unhad_walk e (i ∷ rest) x = unhad_walk e rest (spoils e i || (x && not (does e i)))

abbrev pub unhad_out : Told → Bool → Bool
unhad_out t x = not t.last && (t.written || x)

unhad_step : (d s : Bool) (t : Told) (x : Bool) → (s || (unhad_out t x && not d)) ≡ unhad_out (told_written s (told_done d t)) x
unhad_step true true t x = refl
unhad_step true false t x = and_false (unhad_out t x)
unhad_step false true t x = refl
unhad_step false false t x = and_true (unhad_out t x)

unhad_from : (e : Computation) (all : List Instruction) (t : Told) (x : Bool) → unhad_walk e all (unhad_out t x) ≡ unhad_out (told_along e all t) x
unhad_from e [] t x = refl
unhad_from e (i ∷ rest) t x = ap (unhad_walk e rest) (unhad_step (does e i) (spoils e i) t x) ∙ unhad_from e rest (told_behind e i t) x

pub unhad_told : (e : Computation) (all : List Instruction) (x : Bool) → unhad_walk e all x ≡ unhad_out (told_along e all nothing) x
unhad_told e all x = unhad_from e all nothing x

-- whether it can't be delayed to a point, where it is down-safe
abbrev pub past_walk : Computation → List Instruction → Bool → Bool
past_walk e [] x = x
past_walk e (i ∷ rest) x = past_walk e rest ((x || does e i) && not (spoils e i))

abbrev pub past_out : Told → Bool → Bool
past_out t x = t.last || (not t.written && x)

past_step : (d s : Bool) (t : Told) (x : Bool) → ((past_out t x || d) && not s) ≡ past_out (told_written s (told_done d t)) x
past_step true true t x = and_false (past_out t x || true)
past_step true false t x = and_true (past_out t x || true) ∙ or_true (past_out t x)
past_step false true t x = and_false (past_out t x || false)
past_step false false t x = and_true (past_out t x || false) ∙ or_false (past_out t x)

past_from : (e : Computation) (all : List Instruction) (t : Told) (x : Bool) → past_walk e all (past_out t x) ≡ past_out (told_along e all t) x
past_from e [] t x = refl
past_from e (i ∷ rest) t x = ap (past_walk e rest) (past_step (does e i) (spoils e i) t x) ∙ past_from e rest (told_behind e i t) x

pub past_told : (e : Computation) (all : List Instruction) (x : Bool) → past_walk e all x ≡ past_out (told_along e all nothing) x
past_told e all x = past_from e all nothing x

pub past_snoc : (e : Computation) (before : List Instruction) (i : Instruction) (x : Bool) → past_walk e (before ++ i ∷ []) x ≡ ((past_walk e before x || does e i) && not (spoils e i))
past_snoc e [] i x = refl
past_snoc e (j ∷ before) i x = past_snoc e before i ((x || does e j) && not (spoils e j))

-- where no operand is written, and the computation is not done behind the last write, it is not done
last_step : (d s : Bool) (t : Told) → (told_written s (told_done d t)).last ≡ false → (told_written s (told_done d t)).written ≡ false → (d ≡ false) × ((s ≡ false) × ((t.last ≡ false) × (t.written ≡ false)))
last_step true true t l w = absurd (true≢false w)
last_step true false t l w = absurd (true≢false l)
last_step false true t l w = absurd (true≢false w)
last_step false false t l w = (refl, (refl, (l, w)))

-- where no operand is written, and the computation is not done behind a last write, it is not done at all
pub quiet_along : (e : Computation) (all : List Instruction) (t : Told) → (told_along e all t).last ≡ false → (told_along e all t).written ≡ false → (done_in e all ≡ false) × ((t.last ≡ false) × (t.written ≡ false))
quiet_along e [] t l w = (refl, (l, w))
quiet_along e (i ∷ rest) t l w =
    let behind = quiet_along e rest (told_behind e i t) l w in
    let here = last_step (does e i) (spoils e i) t behind.1.0 behind.1.1 in
    (ap (λ b. b || done_in e rest) here.0 ∙ behind.0, here.1.1)
