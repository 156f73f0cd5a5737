-- Lists gone over from the front, and what is told of what is ahead.
use Rattle.std.proofs.Common.{◌≡◌, ℕ, ◌+◌, ◌-◌, ◌<◌, ◌≤◌, Option, Some, None, List, [], ◌∷◌, length, get_or, take, drop, map, refl, sym, ap, ◌∙◌, arith}
use Rattle.std.specs.Prelude.{◌&&◌, option_map}
use Rattle.std.specs.Option.{option_or}
use Rattle.std.proofs.lemmas.List.{length-map}
use Rattle.debug_records.specs.declared.change.Place.{Place}
use Rattle.graph_core.specs.Graphs.{Instruction, Marker, Block, Binding, ToScalar, ToObject}
use Rattle.graph_core.specs.Paths.{writes}
use Rattle.graph_core.specs.Points.{is_place}
use Rattle.graph_core.specs.Uses.{marker_of, target_of}
use Rattle.graph_core.specs.Validity.{place_behind}
use Rattle.dead_pass_writes.specs.declared.writes.Written.{Written}
use Rattle.dead_pass_writes.specs.Telling.{is_name, with_write, written_by, written_in, bound_by}
use Rattle.base_laws.proofs.Lists.{rest_is}

-- what is ahead is its first, and the rest
pub ahead_is : {A B : Type 0} (view : A → B) (ahead : List A) (x : A) → 1 ≤ length ahead → x ≡ get_or ahead 0 x → map view ahead ≡ view x ∷ map view (take (length ahead - 1) (drop 1 ahead))
ahead_is view [] x le e = absurd (omega (arith, le))
ahead_is view (y ∷ ahead) x le e = ap (λ z. view z ∷ map view ahead) (sym e) ∙ ap (λ l. view x ∷ map view l) (sym (rest_is y ahead))

-- the first is the same whatever stands for none
pub front_same : {A : Type 0} (ahead : List A) (d e : A) → 1 ≤ length ahead → get_or ahead 0 d ≡ get_or ahead 0 e
front_same [] d e le = absurd (omega (arith, le))
front_same (y ∷ ahead) d e le = refl

-- nothing is ahead
pub none_ahead : {A B : Type 0} (view : A → B) (ahead : List A) → length ahead < 1 → map view ahead ≡ []
none_ahead view [] lt = refl
none_ahead view (y ∷ ahead) lt = absurd (omega (arith, lt))

-- one less is ahead
pub rest_count : {A : Type 0} (ahead : List A) → 1 ≤ length ahead → length (take (length ahead - 1) (drop 1 ahead)) + 1 ≡ length ahead
rest_count [] le = absurd (omega (arith, le))
rest_count (y ∷ ahead) le = (let e = ap (λ l. length l) (rest_is y ahead) in omega (arith, e))

-- the place in force goes on over one instruction
pub next_place : (i : Instruction) (m s : Option ℕ) → m ≡ marker_of i → option_or m s ≡ place_behind (i ∷ []) s
next_place i m s e = ap (λ n. option_or n s) e ∙ by i
  where
    by : (j : Instruction) → option_or (marker_of j) s ≡ place_behind (j ∷ []) s
    by (Marker q) = refl
    by _ = refl

pub placed_next : (i : Instruction) (m s r : Option Place) → r ≡ option_or m s → option_map (λ (q : Place). q.0) m ≡ marker_of i → option_map (λ (q : Place). q.0) r ≡ place_behind (i ∷ []) (option_map (λ (q : Place). q.0) s)
placed_next i m s r e marks = ap (option_map (λ (q : Place). q.0)) e ∙ both m ∙ next_place i (option_map (λ (q : Place). q.0) m) (option_map (λ (q : Place). q.0) s) marks
  where
    both : (n : Option Place) → option_map (λ (q : Place). q.0) (option_or n s) ≡ option_or (option_map (λ (q : Place). q.0) n) (option_map (λ (q : Place). q.0) s)
    both None = refl
    both (Some q) = refl

-- one instruction more
pub block_step : {A : Type 0} (view : A → Instruction) (ahead : List A) (item : A) (p x n : ℕ) (was now : Option Written) (place next target : Option ℕ) (left : ℕ) (whole : Option Written) → 1 ≤ length ahead → item ≡ get_or ahead 0 item → target ≡ target_of (view item)
    → left ≡ length (take (length ahead - 1) (drop 1 ahead)) → now ≡ with_write (is_place p place && is_name x target) (record { block = n; left = left }) was → next ≡ place_behind (view item ∷ []) place → written_by p x was place n (map view ahead) ≡ whole
    → written_by p x now next n (map view (take (length ahead - 1) (drop 1 ahead))) ≡ whole
block_step view ahead item p x n was now place next target left whole le e is_target counts grown places so_far =
    let rest = map view (take (length ahead - 1) (drop 1 ahead)) in
    let count : left ≡ length rest = counts ∙ sym (length-map (take (length ahead - 1) (drop 1 ahead)) view) in
    ap (λ w. written_by p x w next n rest) (grown ∙ ap (λ t. with_write (is_place p place && is_name x t) (record { block = n; left = left }) was) is_target ∙ ap (λ k. with_write (is_place p place && writes x (view item)) (record { block = n; left = k }) was) count)
    ∙ ap (λ q. written_by p x (with_write (is_place p place && writes x (view item)) (record { block = n; left = length rest }) was) q n rest) places
    ∙ ap (written_by p x was place n) (sym (ahead_is view ahead item le e))
    ∙ so_far

pub block_done : {A : Type 0} (view : A → Instruction) (ahead : List A) (p x n : ℕ) (was : Option Written) (place : Option ℕ) (whole : Option Written) → length ahead < 1 → written_by p x was place n (map view ahead) ≡ whole → was ≡ whole
block_done view ahead p x n was place whole lt e = sym (ap (written_by p x was place n) (none_ahead view ahead lt)) ∙ e

-- one binding more
pub binding_step : {A : Type 0} (view : A → Binding) (ahead : List A) (item : A) (entry p x : ℕ) (was now whole : Option Written) → 1 ≤ length ahead → item ≡ get_or ahead 0 item → now ≡ bound_by entry p x was (view item ∷ []) → bound_by entry p x was (map view ahead) ≡ whole
    → bound_by entry p x now (map view (take (length ahead - 1) (drop 1 ahead))) ≡ whole
binding_step view ahead item entry p x was now whole le e grown so_far =
    let rest = map view (take (length ahead - 1) (drop 1 ahead)) in
    ap (λ w. bound_by entry p x w rest) grown ∙ one (view item) rest ∙ ap (bound_by entry p x was) (sym (ahead_is view ahead item le e)) ∙ so_far
  where
    one : (b : Binding) (more : List Binding) → bound_by entry p x (bound_by entry p x was (b ∷ [])) more ≡ bound_by entry p x was (b ∷ more)
    one (ToScalar y) more = refl
    one (ToObject object) more = refl

pub binding_done : {A : Type 0} (view : A → Binding) (ahead : List A) (entry p x : ℕ) (was whole : Option Written) → length ahead < 1 → bound_by entry p x was (map view ahead) ≡ whole → was ≡ whole
binding_done view ahead entry p x was whole lt e = sym (ap (bound_by entry p x was) (none_ahead view ahead lt)) ∙ e

-- one block more
pub blocks_step : {A : Type 0} (view : A → Block) (ahead : List A) (item : A) (p x n : ℕ) (was now whole : Option Written) → 1 ≤ length ahead → item ≡ get_or ahead 0 item → now ≡ written_by p x was (view item).place n (view item).instructions → written_in p x was n (map view ahead) ≡ whole
    → written_in p x now (n + 1) (map view (take (length ahead - 1) (drop 1 ahead))) ≡ whole
blocks_step view ahead item p x n was now whole le e grown so_far =
    ap (λ w. written_in p x w (n + 1) (map view (take (length ahead - 1) (drop 1 ahead)))) grown ∙ ap (written_in p x was n) (sym (ahead_is view ahead item le e)) ∙ so_far

pub blocks_done : {A : Type 0} (view : A → Block) (ahead : List A) (p x n : ℕ) (was whole : Option Written) → length ahead < 1 → written_in p x was n (map view ahead) ≡ whole → was ≡ whole
blocks_done view ahead p x n was whole lt e = sym (ap (written_in p x was n) (none_ahead view ahead lt)) ∙ e
