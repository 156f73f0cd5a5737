-- The sizes that the command line allows for a `sweep`.
use Rattle.std.proofs.Common.{◌≡◌, ℕ, ◌≤◌, List, length, Bool, true, false, ◌&&◌, Option, Some, None, refl, ap, arith}
use Rattle.std.specs.Prelude.{if◌then◌else◌, nat_le, nat_lt, option_and_then, codes}
use Rattle.std.specs.Option.{option_map}
use Rattle.std.specs.Str.{bytes_eq}
use Rattle.base_laws.proofs.Numbers.{at_most}
use Rattle.command_line.specs.Words.{Text}
use Rattle.command_line.specs.Values.{are_digits, number_after, number_in}
use Rattle.command_line.specs.Grammar.{IsJob}
use Rattle.command_line.specs.Job.{JobGiven, SweepGiven, debug, compile, attach, passes, sweep, debug_of, compile_of, attach_of, passes_of, size_in, sweep_from, sweep_of, job_by, word_of_option}
use Rattle.c_source.specs.Sources.{HasProgram}
use Rattle.work_gen.specs.Generated.{text}
use Rattle.work_gen_laws.proofs.Whole.{generated_has_program}

within : (a b c : Bool) (v most n : ℕ) → nat_le v most ≡ c → ◌≡◌ {A = Option ℕ} (if a && (b && c) then Some v else None) (Some n) → n ≤ most
within true true true v most n le e = let same : v ≡ n = cc in omega (arith, same, at_most v most le)
within true true false v most n le e = absurd cc
within true false c v most n le e = absurd cc
within false b c v most n le e = absurd cc

number_small : (most : ℕ) (t : Text) (n : ℕ) → number_in most t ≡ Some n → n ≤ most
number_small most t n e = within (nat_lt 0 (length t)) (are_digits t) (nat_le (number_after 0 t) most) (number_after 0 t) most n refl e

chosen : (b : Bool) (m n : ℕ) → ◌≡◌ {A = Option ℕ} (if b then Some m else None) (Some n) → m ≡ n
chosen true m n e = cc
chosen false m n e = absurd cc

size_small : (o : Option Text) (n : ℕ) → size_in (option_and_then (number_in 400) o) ≡ Some n → n ≤ 400
size_small None n e = absurd cc
size_small (Some t) n e = of (number_in 400 t) refl e
  where
    of : (r : Option ℕ) → number_in 400 t ≡ r → size_in r ≡ Some n → n ≤ 400
    of None is e = absurd cc
    of (Some m) is e = omega (arith, number_small 400 t m is, chosen (nat_le 1 m) m n e)

parts_small : (a b : Option ℕ) (given : SweepGiven) → ((n : ℕ) → b ≡ Some n → n ≤ 400) → sweep_from a b ≡ Some given → given.size ≤ 400
parts_small (Some seed) (Some size) given small e =
    let same : ◌≡◌ {A = SweepGiven} (record { seed = seed; size = size }) given = cc in
    omega (arith, small size refl, ap (λ (g : SweepGiven). g.size) same)
parts_small (Some seed) None given small e = absurd cc
parts_small None b given small e = absurd cc

sweep_small : (word : Text → Option Text) (given : SweepGiven) → sweep_of word ≡ Some given → given.size ≤ 400
sweep_small word given e =
    parts_small (option_and_then (number_in 4294967295) (word (codes "seed"))) (size_in (option_and_then (number_in 400) (word (codes "size")))) given (size_small (word (codes "size"))) e

-- another job is no `sweep`
other_job : {A : Type 0} (make : A → JobGiven) (o : Option A) (given : SweepGiven) → ((x : A) → make x ≡ sweep given → ⊥) → option_map make o ≡ Some (sweep given) → ⊥
other_job make None given no_sweep e = cc
other_job make (Some x) given no_sweep e = let same : make x ≡ sweep given = cc in no_sweep x same

is_sweep : (o : Option SweepGiven) (given : SweepGiven) → option_map sweep o ≡ Some (sweep given) → o ≡ Some given
is_sweep None given e = absurd cc
is_sweep (Some g) given e = let same : g ≡ given = cc in ap (λ (x : SweepGiven). Some x) same

job_small : (name : Text) (word : Text → Option Text) (given : SweepGiven) → job_by name word ≡ Some (sweep given) → given.size ≤ 400
job_small name word given e = by (bytes_eq name (codes "debug")) (bytes_eq name (codes "compile")) (bytes_eq name (codes "attach")) (bytes_eq name (codes "passes")) (bytes_eq name (codes "sweep")) e
  where
    by : (a b c d f : Bool)
        → (if a then option_map debug (debug_of word) else (if b then option_map compile (compile_of word) else (if c then option_map attach (attach_of word)
        else (if d then option_map passes (passes_of word) else (if f then option_map sweep (sweep_of word) else None))))) ≡ Some (sweep given) → given.size ≤ 400
    by true b c d f e = absurd (other_job debug (debug_of word) given (λ x same. cc) e)
    by false true c d f e = absurd (other_job compile (compile_of word) given (λ x same. cc) e)
    by false false true d f e = absurd (other_job attach (attach_of word) given (λ x same. cc) e)
    by false false false true f e = absurd (other_job passes (passes_of word) given (λ x same. cc) e)
    by false false false false true e = sweep_small word given (is_sweep (sweep_of word) given e)
    by false false false false false e = absurd cc

-- What a `sweep` of the command line generates is of a program.
pub swept_has_program : (words : List Text) (given : SweepGiven) → IsJob words (sweep given) → HasProgram (text given.seed given.size)
swept_has_program words given job = generated_has_program given.seed given.size (job_small job.name (word_of_option job.uses) given job.job_is)
