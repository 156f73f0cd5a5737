-- What is told of a run in short is what was seen until it ended.
use Rattle.std.proofs.Common.{◌≡◌, ℕ, ◌+◌, List, [], ◌∷◌, Option, refl, sym, ap, ◌∙◌, arith}
use Rattle.c_meaning_steps.specs.declared.event.Ending.{Ending}
use Rattle.c_meaning_steps.specs.declared.event.Ending.TheVariants.{Undefined, Exit, Depth, Turns}
use Rattle.c_meaning_steps.specs.declared.event.Standing.{Standing}
use Rattle.c_meaning_steps.specs.States.{Event, Exited, TooDeep}
use Rattle.c_meaning_steps.specs.Tallies.{bytes_in, counted, last_stop, stops_in}
use Rattle.c_meaning_steps.proofs.Tallies.{bytes_more, last_more, stops_more}
use Rattle.c_meaning.specs.Runs.{SourceRun, with_ending}

-- an event that ends a run is no stop and puts nothing out
stops_with : (e : Ending) (events : List Event) → stops_in (with_ending e events).events ≡ stops_in events
stops_with Undefined events = refl
stops_with (Exit status) events = let more = stops_more events (Exited status) in omega (arith, more)
stops_with Depth events = let more = stops_more events TooDeep in omega (arith, more)
stops_with Turns events = refl

bytes_with : (e : Ending) (events : List Event) → bytes_in (with_ending e events).events ≡ bytes_in events
bytes_with Undefined events = refl
bytes_with (Exit status) events = let more = bytes_more events (Exited status) in omega (arith, more)
bytes_with Depth events = let more = bytes_more events TooDeep in omega (arith, more)
bytes_with Turns events = refl

last_with : (e : Ending) (events : List Event) → last_stop (with_ending e events).events ≡ last_stop events
last_with Undefined events = refl
last_with (Exit status) events = last_more events (Exited status)
last_with Depth events = last_more events TooDeep
last_with Turns events = refl

ending_with : (e : Ending) (events : List Event) → (with_ending e events).ending ≡ e
ending_with Undefined events = refl
ending_with (Exit status) events = refl
ending_with Depth events = refl
ending_with Turns events = refl

pub ending_is : (e : Ending) (events : List Event) (run : SourceRun) → with_ending e events ≡ run → e ≡ run.ending
ending_is e events run is = sym (ending_with e events) ∙ ap (λ (r : SourceRun). r.ending) is

pub stops_are : (e : Ending) (events : List Event) (run : SourceRun) (stops : ℕ) → with_ending e events ≡ run → stops ≡ counted (stops_in events)
    → stops ≡ counted (stops_in run.events)
stops_are e events run stops is seen = seen ∙ ap counted (sym (stops_with e events)) ∙ ap (λ (r : SourceRun). counted (stops_in r.events)) is

pub bytes_are : (e : Ending) (events : List Event) (run : SourceRun) (bytes : ℕ) → with_ending e events ≡ run → bytes ≡ counted (bytes_in events)
    → bytes ≡ counted (bytes_in run.events)
bytes_are e events run bytes is seen = seen ∙ ap counted (sym (bytes_with e events)) ∙ ap (λ (r : SourceRun). counted (bytes_in r.events)) is

pub last_is : (e : Ending) (events : List Event) (run : SourceRun) (last : Option Standing) → with_ending e events ≡ run → last ≡ last_stop events
    → last ≡ last_stop run.events
last_is e events run last is seen = seen ∙ sym (last_with e events) ∙ ap (λ (r : SourceRun). last_stop r.events) is
