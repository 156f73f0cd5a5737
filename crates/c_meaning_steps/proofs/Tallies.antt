-- What is told of a list of events, with one event more.
use Rattle.std.proofs.Common.{◌≡◌, ℕ, ◌+◌, ◌-◌, ◌^◌, List, [], ◌∷◌, ◌++◌, Option, Some, None, refl, sym, ap, ◌∙◌, arith}
use Rattle.std.specs.Prelude.{min}
use Rattle.c_meaning_steps.specs.declared.event.Standing.{Standing}
use Rattle.c_meaning_steps.specs.States.{Event, Put, Exited, TooDeep, Stop}
use Rattle.c_meaning_steps.specs.Tallies.{bytes_in, byte_count, counted, last_stop, later, standing, stop_count, stops_in}

pub stops_more : (es : List Event) (e : Event) → stops_in (es ++ e ∷ []) ≡ stops_in es + stop_count e
stops_more [] e = omega arith
stops_more (x ∷ es) e = let more = stops_more es e in omega (arith, more)

pub bytes_more : (es : List Event) (e : Event) → bytes_in (es ++ e ∷ []) ≡ bytes_in es + byte_count e
bytes_more [] e = omega arith
bytes_more (x ∷ es) e = let more = bytes_more es e in omega (arith, more)

only_later : (o : Option Standing) → o ≡ later None o
only_later None = refl
only_later (Some s) = refl

later_still : (a b c : Option Standing) → later a (later b c) ≡ later (later a b) c
later_still a b None = refl
later_still a b (Some s) = refl

pub last_more : (es : List Event) (e : Event) → last_stop (es ++ e ∷ []) ≡ later (last_stop es) (standing e)
last_more [] e = only_later (standing e)
last_more (x ∷ es) e = ap (later (standing x)) (last_more es e) ∙ later_still (standing x) (last_stop es) (standing e)

-- A byte is put out behind events: no stop, one byte more.
pub same_stops : (count byte : ℕ) (es after : List Event) → count ≡ counted (stops_in es) → after ≡ es ++ Put byte ∷ [] → count ≡ counted (stops_in after)
same_stops count byte es after is adds =
    let none_more = stops_more es (Put byte) in
    let same : stops_in es ≡ stops_in (es ++ Put byte ∷ []) = omega (arith, none_more) in
    is ∙ ap counted same ∙ ap (λ all. counted (stops_in all)) (sym adds)

pub byte_counted : (count raised byte : ℕ) (es after : List Event) → count ≡ counted (bytes_in es) → raised ≡ min (count + 1) (2 ^ 64 - 1) → after ≡ es ++ Put byte ∷ []
    → raised ≡ counted (bytes_in after)
byte_counted count raised byte es after is raises adds =
    let one_more = bytes_more es (Put byte) in
    let counts : raised ≡ counted (bytes_in (es ++ Put byte ∷ [])) = omega (arith, is, raises, one_more) in
    counts ∙ ap (λ all. counted (bytes_in all)) (sym adds)

pub same_last : (last : Option Standing) (byte : ℕ) (es after : List Event) → last ≡ last_stop es → after ≡ es ++ Put byte ∷ [] → last ≡ last_stop after
same_last last byte es after is adds = is ∙ sym (last_more es (Put byte)) ∙ ap last_stop (sym adds)

-- A stop comes behind events: one stop more, no byte.
is_one_stop : (e : Event) (at : Standing) → standing e ≡ Some at → stop_count e ≡ 1
is_one_stop (Put byte) at is = cc
is_one_stop (Exited status) at is = cc
is_one_stop TooDeep at is = cc
is_one_stop (Stop place depth frames shown memory) at is = refl

is_no_byte : (e : Event) (at : Standing) → standing e ≡ Some at → byte_count e ≡ 0
is_no_byte (Put byte) at is = cc
is_no_byte (Exited status) at is = cc
is_no_byte TooDeep at is = cc
is_no_byte (Stop place depth frames shown memory) at is = refl

pub stop_counted : (count raised : ℕ) (es after : List Event) (e : Event) (at : Standing) → count ≡ counted (stops_in es) → raised ≡ min (count + 1) (2 ^ 64 - 1)
    → after ≡ es ++ e ∷ [] → standing e ≡ Some at → raised ≡ counted (stops_in after)
stop_counted count raised es after e at is raises adds stands =
    let one_more = stops_more es e in
    let one = is_one_stop e at stands in
    let counts : raised ≡ counted (stops_in (es ++ e ∷ [])) = omega (arith, is, raises, one_more, one) in
    counts ∙ ap (λ all. counted (stops_in all)) (sym adds)

pub same_bytes : (count : ℕ) (es after : List Event) (e : Event) (at : Standing) → count ≡ counted (bytes_in es) → after ≡ es ++ e ∷ [] → standing e ≡ Some at
    → count ≡ counted (bytes_in after)
same_bytes count es after e at is adds stands =
    let none_more = bytes_more es e in
    let none = is_no_byte e at stands in
    let same : bytes_in es ≡ bytes_in (es ++ e ∷ []) = omega (arith, none_more, none) in
    is ∙ ap counted same ∙ ap (λ all. counted (bytes_in all)) (sym adds)

pub stands_last : (es after : List Event) (e : Event) (at : Standing) → after ≡ es ++ e ∷ [] → standing e ≡ Some at → Some at ≡ last_stop after
stands_last es after e at adds stands = sym (ap last_stop adds ∙ last_more es e ∙ ap (later (last_stop es)) stands)
