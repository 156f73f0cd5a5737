-- Arguments and commands that are added one after the other.
use Rattle.std.proofs.Common.{refl, sym, ap, ap₂, ◌∙◌, ◌≡◌, Bool, true, false, not, ◌||◌, Some, List, [], ◌∷◌, ◌++◌, map, ℕ, ◌+◌, ◌<◌, length, take, slice_index_or, Bor}
use Rattle.std.specs.Prelude.{fold}
use Rattle.std.proofs.lemmas.List.{append_assoc, append-nil, map_more, map_push}
use Rattle.clap.specs.Walk.{Rule, rule_of}
use Rattle.clap.specs.Built.{AddsArg, AddsInTurn, AddsSubcommand}
use Rattle.clap.specs.Simple.{App, app_of, new_rule, with_rule, with_subcommand}
use Rattle.clap.specs.declared.builder.arg.Arg.{Arg}
use Rattle.clap.specs.declared.builder.action.ArgAction.TheVariants.{Set}
use Rattle.clap.specs.declared.builder.command.Command.{Command}
use Rattle.clap.specs.declared.builder.command.Command.TheViews.{out-Command}
use Rattle.command_line.specs.Words.{Jobs, Text}
use Rattle.command_line.specs.Commands.{AreJobCommands, AreRules, IsJobCommand, app_with, leaf_shape, option_rule, place_rule, rules_with_reach}

not_true : (b : Bool) → not b ≡ true → b ≡ false
not_true true e = absurd cc
not_true false e = refl

cons_same : {X : Type 0} (x y : X) (xs ys : List X) → x ∷ xs ≡ y ∷ ys → (x ≡ y) × (xs ≡ ys)
cons_same x y xs ys e = (cc, cc)

map_twice : (f : Text → Rule) (xs : List (Bor Text)) → map (λ s. f s.now) xs ≡ map f (map (λ s. s.now) xs)
map_twice f [] = refl
map_twice f (x ∷ xs) = ap (λ (l : List Rule). f x.now ∷ l) (map_twice f xs)

-- rules behind others
more_rules : (name : Text) (before rs : List Rule) → fold with_rule (app_with name before) rs ≡ app_with name (before ++ rs)
more_rules name before [] = ap (app_with name) (sym (append-nil before))
more_rules name before (r ∷ rs) = more_rules name (before ++ r ∷ []) rs ∙ ap (app_with name) (append_assoc before (r ∷ []) rs)

-- one more argument stands behind others
argument_added : (a : Arg) (r : Rule) (before after : List Arg) → rule_of a ≡ r → a.global ≡ false → after ≡ before ++ a ∷ []
    → rules_with_reach after ≡ rules_with_reach before ++ (r, false) ∷ []
argument_added a r before after rule global added =
    ap rules_with_reach added ∙ (map_push (λ (y : Arg). (rule_of y, y.global)) before a
    ∙ ap₂ (λ (q : Rule) (g : Bool). rules_with_reach before ++ (q, g) ∷ []) rule global)

-- a new argument that is made an option stands behind others
pub option_added : (x a : Arg) (name : Bor Text) (before after : List Arg) → rule_of x ≡ new_rule name.now → x.global ≡ false
    → a ≡ record (record x { long = Some name }) { action = Some Set } → after ≡ before ++ a ∷ []
    → rules_with_reach after ≡ rules_with_reach before ++ (option_rule name.now, false) ∷ []
option_added x a name before after rule global is added =
    argument_added a (option_rule name.now) before after
    (ap rule_of is ∙ ap (λ (r : Rule). record r { long = Some name.now; action = Some Set }) rule)
    (ap (λ (y : Arg). y.global) is ∙ global) added

-- a new argument that is made a positional stands behind others
pub place_added : (x a : Arg) (name : Bor Text) (before after : List Arg) → rule_of x ≡ new_rule name.now → x.global ≡ false
    → a ≡ record (record x { required = true }) { action = Some Set } → after ≡ before ++ a ∷ []
    → rules_with_reach after ≡ rules_with_reach before ++ (place_rule name.now, false) ∷ []
place_added x a name before after rule global is added =
    argument_added a (place_rule name.now) before after
    (ap rule_of is ∙ ap (λ (r : Rule). record r { required = true; action = Some Set }) rule)
    (ap (λ (y : Arg). y.global) is ∙ global) added

-- one more argument, by the next place of a list
pub one_more : (rule : Bor Text → Rule) (before : List Rule) (xs : List (Bor Text)) (i : ℕ) (d : Bor Text) (a b : List Arg)
    → i < length xs → rules_with_reach b ≡ rules_with_reach a ++ (rule (slice_index_or xs i d), false) ∷ []
    → AreRules a (before ++ map rule (take i xs)) → AreRules b (before ++ map rule (take (i + 1) xs))
one_more rule before xs i d a b lt e h =
    e ∙ (ap (λ (l : List (Rule × Bool)). l ++ (rule (slice_index_or xs i d), false) ∷ []) h
    ∙ (sym (map_push (λ (r : Rule). (r, false)) (before ++ map rule (take i xs)) (rule (slice_index_or xs i d)))
    ∙ ap (λ (l : List Rule). map (λ r. (r, false)) l) (append_assoc before (map rule (take i xs)) (rule (slice_index_or xs i d) ∷ [])
    ∙ ap (λ (l : List Rule). before ++ l) (sym (map_more rule xs i d lt)))))

-- Arguments that no subcommand takes too add their rules to a command, which keeps what its subcommands take.
args_added : (c d : Command) (xs : List Arg) (rs : List Rule) → AreRules xs rs
    → AddsInTurn AddsArg c xs d → (out-Command c).has_globals ≡ false
    → (app_of d ≡ fold with_rule (app_of c) rs) × ((out-Command d).has_globals ≡ false)
args_added c d [] [] are h local = (ap app_of (sym h), ap (λ (x : Command). (out-Command x).has_globals) (sym h) ∙ local)
args_added c d [] (r ∷ rs) are h local = absurd cc
args_added c d (x ∷ xs) [] are h local = absurd cc
args_added c d (x ∷ xs) (r ∷ rs) are h local =
    let same = cons_same (rule_of x, x.global) (r, false) (rules_with_reach xs) (map (λ q. (q, false)) rs) are in
    let is : rule_of x ≡ r = ap (λ (p : Rule × Bool). p.0) same.0 in
    let global : x.global ≡ false = ap (λ (p : Rule × Bool). p.1) same.0 in
    let added = h.1 in
    let next = args_added h.0 d xs rs same.1 h.2 (added.globals ∙ ap₂ (λ a b. a || b) local global) in
    (next.0 ∙ ap (λ (a : App). fold with_rule a rs) (added.shape global ∙ ap (with_rule (app_of c)) is), next.1)

-- the command of a job, of a new one and its arguments
pub job_made : (name : Text) (c d : Command) (xs : List Arg) (rs : List Rule) → AreRules xs rs
    → AddsInTurn AddsArg c xs d → app_of c ≡ app_with name [] → (out-Command c).has_globals ≡ false
    → (app_of d ≡ app_with name rs) × ((out-Command d).has_globals ≡ false)
job_made name c d xs rs are h empty local =
    let all = args_added c d xs rs are h local in
    (all.0 ∙ (ap (λ (a : App). fold with_rule a rs) empty ∙ more_rules name [] rs), all.1)

-- the same of the texts that options and positionals are given by
pub job_shape : (name : Text) (os ps : List (Bor Text)) (c : Command)
    → app_of c ≡ app_with name (map (λ s. option_rule s.now) os ++ map (λ s. place_rule s.now) ps) → (out-Command c).has_globals ≡ false
    → IsJobCommand name (record { options = map (λ s. s.now) os; places = map (λ s. s.now) ps }) c
job_shape name os ps c e local = (
  ap (λ (a : App). a.top) e
      ∙ ap (λ (rs : List Rule). (app_with name rs).top)
      (ap₂ (λ (a b : List Rule). a ++ b) (map_twice option_rule os) (map_twice place_rule ps)),
  ap not local,
)

-- a command with those of jobs under it
pub jobs_added : (c d : Command) (js : Jobs) (xs : List Command) → AreJobCommands js xs → AddsInTurn AddsSubcommand c xs d
    → app_of d ≡ fold with_subcommand (app_of c) (map (λ j. leaf_shape j.0 j.1) js)
jobs_added c d [] [] are h = ap app_of (sym h)
jobs_added c d [] (x ∷ xs) are h = absurd are
jobs_added c d (j ∷ js) [] are h = absurd are
jobs_added c d (j ∷ js) (x ∷ xs) are h =
    jobs_added h.0 d js xs are.1 h.2
    ∙ ap (λ (a : App). fold with_subcommand a (map (λ k. leaf_shape k.0 k.1) js))
    (h.1.shape (not_true _ are.0.1) ∙ ap (with_subcommand (app_of c)) are.0.0)
