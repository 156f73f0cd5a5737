use Rattle.std.proofs.Common.{refl, sym, ap, ◌≡◌, ◌∙◌, option_map, map, string_bytes, Bool, true, false, List, [], ◌∷◌, Option, Some, None}
use Rattle.clap.specs.declared.parser.matches.SubCommand.{SubCommand}
use Rattle.std.specs.Prelude.{Box, option_and_then}
use Rattle.std.specs.Str.{bytes_eq}
use Rattle.std.proofs.lemmas.Result.{IfOk-weaker}
use Rattle.clap.specs.Words.{Text, first_of, first_value, found_of, rows_of}
use Rattle.clap.specs.Matches.{subcommand_name_of}
use Rattle.clap.specs.declared.parser.matches.ArgMatches.{ArgMatches}
use Rattle.clap.specs.declared.parser.matches.ArgMatches.TheViews.{out-ArgMatches, out-SubCommand}
use Rattle.clap.specs.Simple.{subcommand_rows}
use Rattle.std.specs.Box.{box_value}
use Rattle.clap.specs.declared.parser.matches.Found.{Found}
use Rattle.clap.proofs.WalkLemmas.{first_value-rows}
use Rattle.command_line.specs.Words.{Use}
use Rattle.command_line.specs.Commands.{HasReading, row}
use Rattle.command_line.specs.Job.{job_by, job_in, read_job, word_of_option}
use Rattle.command_line.proofs.reading.job_read.Goals as goal

-- the words that `clap` found
first_used : (id : Text) (us : List Use) → first_of id (map row us) ≡ word_of_option us id
first_used id [] = refl
first_used id (u ∷ us) = go (bytes_eq u.0 id) refl (first_used id us)
  where
    go : (b : Bool) → bytes_eq u.0 id ≡ b → first_of id (map row us) ≡ word_of_option us id → first_of id (map row (u ∷ us)) ≡ word_of_option (u ∷ us) id
    go true e rest = rw e refl
    go false e rest = rw e rest

names_first : {Z : Type 0} (o : Option (Box SubCommand Z)) → option_map (λ p. p.0) (subcommand_rows o) ≡ option_map (λ b. (out-SubCommand (box_value b)).name.now) o
names_first None = refl
names_first (Some b) = refl

-- the job that `clap` found is that of the words
job_found : (words : List Text) (m : ArgMatches) (name : Text) (f : Found) → HasReading words (Some m) → Some name ≡ subcommand_name_of m
    → Some (rows_of f) ≡ option_map (λ p. p.1) (subcommand_rows (out-ArgMatches m).subcommand) → job_by name (first_value f) ≡ job_in words
job_found words m name f h named found =
    let p = h.0 in
    let n : Some name ≡ Some p.0 = named ∙ sym (names_first (out-ArgMatches m).subcommand) ∙ ap (option_map (λ q. q.0)) h.2 in
    let same : name ≡ p.0 = cc in
    let r : Some (rows_of f) ≡ Some (map row p.1) = found ∙ ap (option_map (λ q. q.1)) h.2 in
    let rows : rows_of f ≡ map row p.1 = cc in
    let each : (id : Text) → first_value f id ≡ word_of_option p.1 id = λ id. first_value-rows f id ∙ ap (first_of id) rows ∙ first_used id p.1 in
    ap (λ t. job_by t (first_value f)) same ∙ ap (job_by p.0) (λ i id. each id i) ∙ ap (option_and_then read_job) (sym h.1)

pub returns-in-Some-subcommand : goal.returns-in-Some-subcommand
returns-in-Some-subcommand c =
    let read = rw c.in-Some.is at c.in_ok-matches.ensures in
    let same = job_found (map string_bytes c.args.words.now) c.in-Some.matches c.in-Some-subcommand.name.now (found_of c.in-Some-subcommand.inner.now) read
    (ap (option_map (λ q. q.0.now)) (sym c.in-Some-subcommand.is) ∙ c.subcommand.ensures.name)
    (ap (option_map (λ q. rows_of (found_of q.1.now))) (sym c.in-Some-subcommand.is) ∙ c.subcommand.ensures.rows) in
    IfOk-weaker c.job_by.result _ _ (λ r h. h ∙ same) c.job_by.ensures
