-- What the whole command makes of all the words.
use Rattle.std.proofs.Common.{arith, refl, sym, ap, subst, ◌∙◌, ◌≡◌, ℕ, ◌&&◌, ◌||◌, Bool, true, false, not, ◌+◌, List, [], ◌∷◌, ◌++◌, map, Option, Some, None, codes, true≢false, ⊎_elim}
use Rattle.std.specs.Prelude.{find, option_map, slice_get}
use Rattle.std.specs.List.{list_all}
use Rattle.std.specs.Str.{bytes_eq}
use Rattle.std.proofs.lemmas.Bool.{eqb-true}
use Rattle.clap.specs.Walk.{rows_of, Row, nothing_held, rows_after}
use Rattle.clap.specs.Simple.{App, matches_of, subcommand_rows_of, built, is_simple, subcommand_of}
use Rattle.clap.specs.Kinds.{HasKind, IsAmong, Kinds}
use Rattle.clap.specs.Values.{kind_of}
use Rattle.clap.specs.Matches.{found_of}
use Rattle.clap.specs.declared.error.Error.{Error}
use Rattle.clap.specs.declared.error.kind.ErrorKind.TheVariants.{OutOfMemory}
use Rattle.clap.specs.declared.parser.matches.ArgMatches.{ArgMatches}
use Rattle.clap.specs.Faults.{fault_of, is_simple_and_free, level_fault}
use Rattle.clap.proofs.WalkLemmas.{both}
use Rattle.command_line.specs.Words.{is_checked, is_fit, JobForm, Text, Use, Uses, as_option, by_name, in_place, is_dashed, is_used, job_named, long_word, uses_from, uses_of, with_use}
use Rattle.command_line.specs.Forms.{attach_form, compile_form, debug_form, jobs, passes_form, reading, of_job, sweep_form}
use Rattle.command_line.specs.Commands.{HasReading, raw_app}
use Rattle.command_line.proofs.OneJobLemmas.{IsReady, fails, is_readable, level_agrees, row}
use Rattle.command_line.proofs.JobsLemmas.{app, job_entered, job_fault, no_job, no_words, ready, rules_of, sub_of}

debug_ready : IsReady debug_form (rules_of debug_form)
debug_ready = ready debug_form (omega arith) (refl, (refl, (refl, tt))) (refl, (refl, (refl, (refl, tt))))

compile_ready : IsReady compile_form (rules_of compile_form)
compile_ready = ready compile_form (omega arith) (refl, (refl, tt)) (refl, (refl, tt))

attach_ready : IsReady attach_form (rules_of attach_form)
attach_ready = ready attach_form (omega arith) (refl, tt) (refl, (refl, (refl, tt)))

passes_ready : IsReady passes_form (rules_of passes_form)
passes_ready = ready passes_form (omega arith) (refl, tt) (refl, tt)

sweep_ready : IsReady sweep_form (rules_of sweep_form)
sweep_ready = ready sweep_form (omega arith) tt (refl, (refl, tt))

abbrev EachJob : (Text × JobForm → Type 0) → List (Text × JobForm) → Type 0
EachJob P [] = Unit {0}
EachJob P (x ∷ xs) = P x × EachJob P xs

found_job : (P : Text × JobForm → Type 0) (w : Text) (js : List (Text × JobForm)) → EachJob P js → (j : Text × JobForm) → job_named js w ≡ Some j → P j
found_job P w [] all j e = cc
found_job P w (x ∷ js) all j e = go (bytes_eq x.0 w) refl (found_job P w js all.1 j)
  where
    go : (b : Bool) → bytes_eq x.0 w ≡ b → (job_named js w ≡ Some j → P j) → P j
    go true t rest = let here : Some x ≡ Some j = rw t at e in let same : x ≡ j = cc in subst P same all.0
    go false t rest = rest (rw t at e)

ready_named : (w : Text) (j : Text × JobForm) → job_named jobs w ≡ Some j → IsReady j.1 (rules_of j.1)
ready_named w j e = found_job (λ (x : Text × JobForm). IsReady x.1 (rules_of x.1)) w jobs (debug_ready, (compile_ready, (attach_ready, (passes_ready, (sweep_ready, tt))))) j e

-- what the command comes to, beside what it should
abbrev pub AgreesAll : Option (Text × List Use) → Kinds → Option (Text × List Row) → Type 0
AgreesAll None kinds sub = fails kinds ≡ true
AgreesAll (Some p) kinds sub = (kinds ≡ []) × (sub ≡ Some (p.0, map row p.1))

pub whole : (words : List Text) → is_checked words ≡ true → AgreesAll (reading words) (fault_of raw_app words) (subcommand_of raw_app words)
whole [] good = no_words (codes "cdbg") jobs
whole (program ∷ []) good = no_words (codes "cdbg") jobs
whole (program ∷ w ∷ ws) good = go (job_named jobs w) refl
  where
    uses : (j : Text × JobForm) → job_named jobs w ≡ Some j → (u : Uses) → uses_of j.1 ws ≡ u
        → AgreesAll (reading (program ∷ w ∷ ws)) (fault_of raw_app (program ∷ w ∷ ws)) (subcommand_of raw_app (program ∷ w ∷ ws))
    uses j e None u =
        let level = level_agrees j.0 j.1 (rules_of j.1) (ready_named w j e) ws (both (is_readable w) (list_all is_readable ws) good).1 in
        let same = job_fault (codes "cdbg") jobs w ws j e in
        let none : reading (program ∷ w ∷ ws) ≡ None = rw (e, u) refl in
        let bad : fails (level_fault (sub_of j) [] nothing_held ws false []) ≡ true = rw u at level in
        rw (none, same) bad
    uses j e (Some us) u =
        let level = level_agrees j.0 j.1 (rules_of j.1) (ready_named w j e) ws (both (is_readable w) (list_all is_readable ws) good).1 in
        let same = job_fault (codes "cdbg") jobs w ws j e in
        let some : reading (program ∷ w ∷ ws) ≡ Some (j.0, us) = rw (e, u) refl in
        let fine : (level_fault (sub_of j) [] nothing_held ws false [] ≡ []) × (rows_after (rules_of j.1) [] ws ≡ map row us) = rw u at level in
        let sub = job_entered (codes "cdbg") jobs w ws j e ∙ ap (λ (rs : List Row). Some (j.0, rs)) fine.1 in
        rw some (same ∙ fine.0, sub)

    go : (o : Option (Text × JobForm)) → job_named jobs w ≡ o → AgreesAll (reading (program ∷ w ∷ ws)) (fault_of raw_app (program ∷ w ∷ ws)) (subcommand_of raw_app (program ∷ w ∷ ws))
    go None e = let bad = no_job (codes "cdbg") jobs w ws (both (is_readable w) (list_all is_readable ws) good).0 e in rw e bad
    go (Some j) e = uses j e (uses_of j.1 ws) refl

-- ---- words that are refused before the parse

unreadable : (w : Text) → is_readable w ≡ false → (is_dashed w ≡ true) × (is_fit (long_word w) ≡ false)
unreadable w h = go (is_dashed w) (is_fit (long_word w)) refl refl h
  where
    go : (b c : Bool) → is_dashed w ≡ b → is_fit (long_word w) ≡ c → (not b || c) ≡ false → (is_dashed w ≡ true) × (is_fit (long_word w) ≡ false)
    go true false d l e = (d, l)
    go true true d l e = absurd (true≢false e)
    go false c d l e = absurd (true≢false e)

no_use : (m v : Text) (us : List Use) (next : List Use → Uses) → ((us : List Use) → next us ≡ None) → with_use m v us next ≡ None
no_use m v us next h = go (is_used m us) refl
  where
    go : (b : Bool) → is_used m us ≡ b → with_use m v us next ≡ None
    go true e = rw e refl
    go false e = rw e (h (us ++ (m, v) ∷ []))

no_name : (o v : Option Text) (us : List Use) (next : List Use → Option Text → Uses) → ((us : List Use) (m : Option Text) → next us m ≡ None) → by_name o v us next ≡ None
no_name None v us next h = refl
no_name (Some m) None us next h = h us (Some m)
no_name (Some m) (Some v) us next h = go (is_dashed v) refl
  where
    go : (b : Bool) → is_dashed v ≡ b → by_name (Some m) (Some v) us next ≡ None
    go true d = rw d refl
    go false d = rw d (no_use m v us (λ us. next us None) (λ us. h us None))

no_option : (f : JobForm) (o : Option (Text × Option Text)) (us : List Use) (next : List Use → Option Text → Uses) → ((us : List Use) (m : Option Text) → next us m ≡ None)
    → as_option f o us next ≡ None
no_option f None us next h = refl
no_option f (Some p) us next h = no_name (find (λ o. bytes_eq o p.0) f.options) p.1 us next h

-- an option whose value begins with `-` is refused
unfit_name : (o : Option Text) (v : Text) (us : List Use) (next : List Use → Option Text → Uses) → is_dashed v ≡ true → by_name o (Some v) us next ≡ None
unfit_name None v us next d = refl
unfit_name (Some m) v us next d = rw d refl

dashed : (v : Text) → not (is_dashed v) ≡ false → is_dashed v ≡ true
dashed v h = go (is_dashed v) h
  where
    go : (b : Bool) → not b ≡ false → b ≡ true
    go true h = refl
    go false h = absurd (true≢false h)

unfit_option : (f : JobForm) (o : Option (Text × Option Text)) (us : List Use) (next : List Use → Option Text → Uses) → is_fit o ≡ false → as_option f o us next ≡ None
unfit_option f None us next h = refl
unfit_option f (Some (n, None)) us next h = absurd (true≢false h)
unfit_option f (Some (n, Some v)) us next h = unfit_name (find (λ o. bytes_eq o n) f.options) v us next (dashed v h)

no_place : (o : Option Text) (v : Text) (us : List Use) (next : List Use → Uses) → ((us : List Use) → next us ≡ None) → in_place o v us next ≡ None
no_place None v us next h = refl
no_place (Some m) v us next h = no_use m v us next h

unread : (f : JobForm) (words : List Text) → list_all is_readable words ≡ false → (us : List Use) (k : ℕ) (waiting : Option Text) → uses_from f us k waiting words ≡ None
unread f [] bad us k waiting = absurd (true≢false bad)
unread f (w ∷ ws) bad us k waiting = go (is_readable w) refl (unread f ws) waiting
  where
    after : (list_all is_readable ws ≡ false → (us : List Use) (k : ℕ) (waiting : Option Text) → uses_from f us k waiting ws ≡ None) → list_all is_readable ws ≡ false
        → (waiting : Option Text) (b : Bool) → is_dashed w ≡ b → uses_from f us k waiting (w ∷ ws) ≡ None
    after rest h (Some m) true d = rw d refl
    after rest h (Some m) false d = rw d (no_use m w us (λ us. uses_from f us k None ws) (λ us. rest h us k None))
    after rest h None true d = rw d (no_option f (long_word w) us (λ us m. uses_from f us k m ws) (λ us m. rest h us k m))
    after rest h None false d = rw d (no_place (slice_get f.places k) w us (λ us. uses_from f us (k + 1) None ws) (λ us. rest h us (k + 1) None))

    go : (b : Bool) → is_readable w ≡ b → (list_all is_readable ws ≡ false → (us : List Use) (k : ℕ) (waiting : Option Text) → uses_from f us k waiting ws ≡ None)
        → (waiting : Option Text) → uses_from f us k waiting (w ∷ ws) ≡ None
    go true r rest m =
        let h : list_all is_readable ws ≡ false = rw r at bad in
        after rest h m (is_dashed w) refl
    go false r rest None = let p = unreadable w r in let d = p.0 in rw d (unfit_option f (long_word w) us (λ us m. uses_from f us k m ws) p.1)
    go false r rest (Some m) = let p = unreadable w r in let d = p.0 in rw d refl

-- no job's name is dashed
no_dashed_job : (w : Text) → is_dashed w ≡ true → job_named jobs w ≡ None
no_dashed_job [] d = cc
no_dashed_job (c ∷ cs) d = let e : c ≡ 45 = eqb-true c 45 d in rw e refl

-- words that are refused before the parse are no job
pub unchecked : (words : List Text) → is_checked words ≡ false → reading words ≡ None
unchecked [] bad = absurd (true≢false bad)
unchecked (program ∷ []) bad = refl
unchecked (program ∷ w ∷ ws) bad = go (is_readable w) refl
  where
    rest : (o : Option (Text × JobForm)) → list_all is_readable ws ≡ false → of_job o ws ≡ None
    rest None h = refl
    rest (Some j) h = ap (option_map (λ uses. (j.0, uses))) (unread j.1 ws h [] 0 None)

    go : (b : Bool) → is_readable w ≡ b → reading (program ∷ w ∷ ws) ≡ None
    go true r = let h : list_all is_readable ws ≡ false = rw r at bad in rest (job_named jobs w) h
    go false r = let none = no_dashed_job w (unreadable w r).0 in rw none refl

-- ---- what the parse gave

pub from_ok : (words : List Text) (app : App) (m : ArgMatches) → app ≡ raw_app → is_checked words ≡ true → (is_simple_and_free app ≡ true → fault_of app words ≡ [])
    → (is_simple app ≡ true → (rows_of (found_of m) ≡ matches_of app words) × (subcommand_rows_of m ≡ subcommand_of app words)) → HasReading words (Some m)
from_ok words app m is good kinds matches = go (reading words) refl (whole words good)
  where
    none : fault_of raw_app words ≡ []
    none = ap (λ (a : App). fault_of a words) (sym is) ∙ kinds (ap is_simple_and_free is)

    sub : subcommand_rows_of m ≡ subcommand_of raw_app words
    sub = (matches (ap is_simple is)).1 ∙ ap (λ (a : App). subcommand_of a words) is

    go : (o : Option (Text × List Use)) → reading words ≡ o → AgreesAll (reading words) (fault_of raw_app words) (subcommand_of raw_app words) → HasReading words (Some m)
    go None e h = let bad : fails (fault_of raw_app words) ≡ true = rw e at h in absurd (true≢false (sym bad ∙ ap fails none))
    go (Some p) e h = let both : (fault_of raw_app words ≡ []) × (subcommand_of raw_app words ≡ Some (p.0, map row p.1)) = rw e at h in (p, e, sub ∙ both.1)

pub from_err : (words : List Text) (app : App) (e : Error) → app ≡ raw_app → is_checked words ≡ true → (is_simple_and_free app ≡ true → HasKind (fault_of app words) e)
    → (kind_of e ≡ OutOfMemory → ⊥) → reading words ≡ None
from_err words app e is good kinds other = go (reading words) refl (whole words good) (⊎_elim (λ m. absurd (other m)) (λ h. h) (kinds (ap is_simple_and_free is)))
  where
    none : (ks : Kinds) → ks ≡ [] → IsAmong (kind_of e) ks → ⊥
    none [] f h = h
    none (k ∷ ks) f h = cc

    go : (o : Option (Text × List Use)) → reading words ≡ o → AgreesAll (reading words) (fault_of raw_app words) (subcommand_of raw_app words) → IsAmong (kind_of e) (fault_of app words) → reading words ≡ None
    go None r h a = r
    go (Some p) r h a =
        let both : (fault_of raw_app words ≡ []) × (subcommand_of raw_app words ≡ Some (p.0, map row p.1)) = rw r at h in
        absurd (none (fault_of app words) (ap (λ (x : App). fault_of x words) is ∙ both.0) a)

-- the test of the words but the first
pub all_checked : {X : Type 0} (text : X → Text) (xs : List X) → list_all (λ x. is_readable (text x)) xs ≡ list_all is_readable (map text xs)
all_checked text [] = refl
all_checked text (x ∷ xs) = ap (λ (b : Bool). is_readable (text x) && b) (all_checked text xs)
