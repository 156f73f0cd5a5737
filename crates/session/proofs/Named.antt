-- The passes that a job names are at most 32, of 1 to 16 lower-case letters each.
use Rattle.std.proofs.Common.{◌≡◌, ◌≤◌, ◌&&◌, ℕ, List, [], ◌∷◌, length, Bool, true, false, Option, Some, None, arith, lit≤, refl, subst}
use Rattle.std.specs.Prelude.{if◌then◌else◌, nat_le, codes, option_map, unwrap_or}
use Rattle.std.specs.List.{AllByRecursion, list_all}
use Rattle.std.specs.Str.{bytes_eq}
use Rattle.std.proofs.lemmas.Bool.{and_parts}
use Rattle.base_laws.proofs.Numbers.{at_most}
use Rattle.debug_records.specs.Change.{IsPassName, is_lower_case}
use Rattle.debug_records.specs.declared.change.PassName.{PassName}
use Rattle.debug_records.specs.declared.mode.Mode.{Mode}
use Rattle.command_line.specs.Words.{Text}
use Rattle.command_line.specs.Values.{all_named, is_pass_name, comma_pieces}
use Rattle.command_line.specs.Grammar.{IsJob}
use Rattle.command_line.specs.Job.{JobGiven, DebugGiven, CompileGiven, PassesGiven, AttachGiven, SweepGiven, debug, compile, attach, passes, sweep, debug_from, debug_of, compile_from, compile_of, attach_of, passes_from, passes_of, sweep_of, limit_given, mode_given, names_given, word_of_option}
use Rattle.session.specs.Served.{AreServed, CanRun, default_names, needed}

-- At most 32 names, each of 1 to 16 lower-case letters.
record AreNames (names : List Text) : Type 0 where
  few : length names ≤ 32
  spelled : AllByRecursion IsPassName names

pass_spelled : (t : Text) → is_pass_name t ≡ true → IsPassName t
pass_spelled t named =
    let one = and_parts (nat_le 1 (length t)) (nat_le (length t) 16 && list_all is_lower_case t) named in
    let other = and_parts (nat_le (length t) 16) (list_all is_lower_case t) one.1 in
    record { some = at_most 1 (length t) one.0; most = at_most (length t) 16 other.0; lower_case = other.1 }

all_spelled : (texts : List Text) → list_all is_pass_name texts ≡ true → AllByRecursion IsPassName texts
all_spelled [] named = tt
all_spelled (t ∷ texts) named = let both = and_parts (is_pass_name t) (list_all is_pass_name texts) named in (pass_spelled t both.0, all_spelled texts both.1)

no_names : AreNames []
no_names = record { few = lit≤ tt; spelled = tt }

-- the names that a `sweep` needs
default_spelled : AreNames default_names
default_spelled =
    let copy : length (codes "copy") ≡ 4 = refl in
    let motion : length (codes "motion") ≡ 6 = refl in
    let dead : length (codes "dead") ≡ 4 = refl in
    record {
      few = lit≤ tt;
      spelled = (
        record { some = omega (arith, copy); most = omega (arith, copy); lower_case = refl },
        (record { some = omega (arith, motion); most = omega (arith, motion); lower_case = refl }, (record { some = omega (arith, dead); most = omega (arith, dead); lower_case = refl }, tt)),
      );
    }

named_if : (texts : List Text) (b : Bool) (names : List Text) → list_all is_pass_name texts ≡ b → length texts ≤ 32 → ◌≡◌ {A = Option (List Text)} (if b then Some texts else None) (Some names) → AreNames names
named_if texts true names named few e = let same : texts ≡ names = cc in subst AreNames same (record { few = few; spelled = all_spelled texts named })
named_if texts false names named few e = absurd cc

listed : (texts : List Text) (b : Bool) (names : List Text) → nat_le (length texts) 32 ≡ b → ◌≡◌ {A = Option (List Text)} (if b then all_named texts else None) (Some names) → AreNames names
listed texts true names few e = named_if texts (list_all is_pass_name texts) names refl (at_most (length texts) 32 few) e
listed texts false names few e = absurd cc

few_in : (t : Text) (none : Bool) (names : List Text) → ◌≡◌ {A = Option (List Text)} (if none then Some [] else (if nat_le (length (comma_pieces t)) 32 then all_named (comma_pieces t) else None)) (Some names) → AreNames names
few_in t true names e = let same : ◌≡◌ {A = List Text} [] names = cc in subst AreNames same no_names
few_in t false names e = listed (comma_pieces t) (nat_le (length (comma_pieces t)) 32) names refl e

few_given : (value : Option Text) (names : List Text) → names_given value ≡ Some names → AreNames names
few_given value names e = let t = unwrap_or value (codes "copy,motion,dead") in few_in t (bytes_eq t (codes "none")) names e

debug_few : (a : Option (List Text)) (b : Option Mode) (c : Option ℕ) (d e f g : Option Text) (given : DebugGiven) → ((names : List Text) → a ≡ Some names → AreNames names) → debug_from a b c d e f g ≡ Some given → AreNames given.passes
debug_few (Some names) (Some mode) (Some limit) (Some source) (Some script) (Some input) (Some image) given few is =
    let same : ◌≡◌ {A = DebugGiven} (record { passes = names; mode = mode; limit = limit; source = source; script = script; input = input; image = image }) given = cc in
    subst (λ (j : DebugGiven). AreNames j.passes) same (few names refl)
debug_few None b c d e f g given few is = absurd cc
debug_few (Some names) None c d e f g given few is = absurd cc
debug_few (Some names) (Some mode) None d e f g given few is = absurd cc
debug_few (Some names) (Some mode) (Some limit) None e f g given few is = absurd cc
debug_few (Some names) (Some mode) (Some limit) (Some source) None f g given few is = absurd cc
debug_few (Some names) (Some mode) (Some limit) (Some source) (Some script) None g given few is = absurd cc
debug_few (Some names) (Some mode) (Some limit) (Some source) (Some script) (Some input) None given few is = absurd cc

compile_few : (a : Option (List Text)) (b : Option Mode) (c d : Option Text) (given : CompileGiven) → ((names : List Text) → a ≡ Some names → AreNames names) → compile_from a b c d ≡ Some given → AreNames given.passes
compile_few (Some names) (Some mode) (Some source) (Some image) given few is =
    let same : ◌≡◌ {A = CompileGiven} (record { passes = names; mode = mode; source = source; image = image }) given = cc in
    subst (λ (j : CompileGiven). AreNames j.passes) same (few names refl)
compile_few None b c d given few is = absurd cc
compile_few (Some names) None c d given few is = absurd cc
compile_few (Some names) (Some mode) None d given few is = absurd cc
compile_few (Some names) (Some mode) (Some source) None given few is = absurd cc

passes_few : (a : Option (List Text)) (b : Option Text) (given : PassesGiven) → ((names : List Text) → a ≡ Some names → AreNames names) → passes_from a b ≡ Some given → AreNames given.passes
passes_few (Some names) (Some source) given few is =
    let same : ◌≡◌ {A = PassesGiven} (record { passes = names; source = source }) given = cc in
    subst (λ (j : PassesGiven). AreNames j.passes) same (few names refl)
passes_few None b given few is = absurd cc
passes_few (Some names) None given few is = absurd cc

-- a job that is made of something is the one of that
made_few : {A : Type 0} (make : A → JobGiven) (o : Option A) (job : JobGiven) → ((x : A) → o ≡ Some x → AreNames (needed (make x))) → option_map make o ≡ Some job → AreNames (needed job)
made_few make None job few e = absurd cc
made_few make (Some x) job few e = let same : make x ≡ job = cc in subst (λ j. AreNames (needed j)) same (few x refl)

by_few : (word : Text → Option Text) (job : JobGiven) (a b c d f : Bool)
    → (if a then option_map debug (debug_of word) else (if b then option_map compile (compile_of word) else (if c then option_map attach (attach_of word)
    else (if d then option_map passes (passes_of word) else (if f then option_map sweep (sweep_of word) else None))))) ≡ Some job → AreNames (needed job)
by_few word job true b c d f e =
    made_few debug (debug_of word) job (λ given is. debug_few (names_given (word (codes "passes"))) (mode_given (word (codes "homes"))) (limit_given (word (codes "limit"))) (word (codes "src")) (word (codes "script")) (word (codes "input")) (word (codes "image")) given
    (few_given (word (codes "passes"))) is) e
by_few word job false true c d f e =
    made_few compile (compile_of word) job (λ given is. compile_few (names_given (word (codes "passes"))) (mode_given (word (codes "homes"))) (word (codes "src")) (word (codes "image")) given (few_given (word (codes "passes"))) is) e
by_few word job false false true d f e = made_few attach (attach_of word) job (λ (given : AttachGiven) is. no_names) e
by_few word job false false false true f e = made_few passes (passes_of word) job (λ given is. passes_few (names_given (word (codes "passes"))) (word (codes "src")) given (few_given (word (codes "passes"))) is) e
by_few word job false false false false true e = made_few sweep (sweep_of word) job (λ (given : SweepGiven) is. default_spelled) e
by_few word job false false false false false e = absurd cc

-- no job of the command line names more
few_needed : (words : List Text) (job : JobGiven) → IsJob words job → AreNames (needed job)
few_needed words job is =
    by_few (word_of_option is.uses) job (bytes_eq is.name (codes "debug")) (bytes_eq is.name (codes "compile")) (bytes_eq is.name (codes "attach")) (bytes_eq is.name (codes "passes")) (bytes_eq is.name (codes "sweep")) is.job_is

-- The passes that a job which is served needs can be run.
pub served_runs : {P : Type 0} (named : P → PassName) (handed_in : List P) (words : List Text) (job : JobGiven) → AreServed named handed_in words job → CanRun named handed_in (needed job)
served_runs named handed_in words job is = let its = few_needed words job is.words_are in record { few = its.few; spelled = its.spelled; are_handed_in = is.passes_are }
