-- Which variables live, and how memories grow as statements run.
use Rattle.std.proofs.Common.{◌≡◌, ◌≢◌, ℕ, zero, suc, ◌+◌, ◌-◌, ◌<◌, ◌≤◌, ◌⊎◌, inl, inr, List, [], ◌∷◌, ◌++◌, length, Some, Bool, true, false, slice_get, refl, sym, ap, ◌∙◌, subst, arith}
use Rattle.std.specs.Prelude.{if◌then◌else◌}
use Rattle.word_base.specs.Owners.{Variable}
use Rattle.c_tree.specs.Programs.{AutomaticTree, ProgramTree}
use Rattle.c_places.specs.Places.{Place, places_of_program, is_hidden, visible}
use Rattle.c_meaning_values.specs.declared.value.Phase.TheVariants.{Live, Ended}
use Rattle.c_meaning_values.specs.Memory.{Object as SourceObject, Memory as SourceMemory}
use Rattle.c_meaning_steps.specs.declared.event.Frame.{Frame}
use Rattle.graph_core.specs.Graphs.{UnitForm}
use Rattle.graph_core.specs.Runs.{Activation}
use Rattle.graph_build_runs.specs.Stops.{StaticsLive}
use Rattle.graph_build_runs.proofs.Later.{some_same, Later, later_refl, later_trans}
use Rattle.graph_build_runs.proofs.Kept.{Since}
pub use Rattle.base_laws.proofs.Lists.{there_is}

-- A variable's object lives, in an activation at a depth.
pub record LivesAt (memory : SourceMemory) (v depth : ℕ) : Type 0 where
  pub number : ℕ
  pub object : SourceObject
  pub is : slice_get memory number ≡ Some object
  pub owner : object.owner ≡ Variable v depth
  pub lives : object.phase ≡ Live

pub lives_later : (memory after : SourceMemory) → Later memory after → (v depth : ℕ) → LivesAt memory v depth → LivesAt after v depth
lives_later memory after later v depth h = let c = later h.number h.object h.is in record { number = h.number; object = c.object; is = c.is; owner = c.owner ∙ h.owner; lives = c.phase.live h.lives }

-- static variables live on
pub statics_later : (p : ProgramTree) (memory after : SourceMemory) → Later memory after → StaticsLive p memory → StaticsLive p after
statics_later p memory after later h n v is = let z = h n v is in let c = later z.number z.object z.is in record { number = z.number; object = c.object; is = c.is; owned = c.owner ∙ z.owned; phase = c.phase.live z.phase }

-- all variables of a scope
abbrev pub AllLive : SourceMemory → (depth : ℕ) → List ℕ → Type 0
AllLive memory depth [] = Unit {0}
AllLive memory depth (v ∷ more) = LivesAt memory v depth × AllLive memory depth more

pub all_later : (memory after : SourceMemory) → Later memory after → (depth : ℕ) (scope : List ℕ) → AllLive memory depth scope → AllLive after depth scope
all_later memory after later depth [] h = tt
all_later memory after later depth (v ∷ more) h = (lives_later memory after later v depth h.0, all_later memory after later depth more h.1)

pub all_both : (memory : SourceMemory) (depth : ℕ) (xs ys : List ℕ) → AllLive memory depth xs → AllLive memory depth ys → AllLive memory depth (xs ++ ys)
all_both memory depth [] ys h g = g
all_both memory depth (x ∷ xs) ys h g = (h.0, all_both memory depth xs ys h.1 g)

pub all_front : (memory : SourceMemory) (depth : ℕ) (xs ys : List ℕ) → AllLive memory depth (xs ++ ys) → AllLive memory depth xs
all_front memory depth [] ys h = tt
all_front memory depth (x ∷ xs) ys h = (h.0, all_front memory depth xs ys h.1)

-- what is visible is in scope
pub visible_lives : (memory : SourceMemory) (depth : ℕ) (all : List AutomaticTree) (scope : List ℕ) (k v : ℕ) → slice_get (visible all scope) k ≡ Some v → AllLive memory depth scope → LivesAt memory v depth
visible_lives memory depth all [] k v e h = cc
visible_lives memory depth all (x ∷ later) k v e h = by (λ i f. visible_lives memory depth all later i v f h.1) (is_hidden all x later) k e
  where
    by : ((i : ℕ) → slice_get (visible all later) i ≡ Some v → LivesAt memory v depth) → (b : Bool) (k : ℕ) → slice_get (if b then visible all later else x ∷ visible all later) k ≡ Some v → LivesAt memory v depth
    by rest true k e = rest k e
    by rest false zero e = let same : x ≡ v = some_same e in subst (λ u. LivesAt memory u depth) same h.0
    by rest false (suc k) e = rest k e

-- What is visible at a place lives.
abbrev pub Sees : ProgramTree → SourceMemory → (depth place : ℕ) → Type 0
Sees p memory depth place = (q : Place) → slice_get (places_of_program p) (place - 1) ≡ Some q → (k v : ℕ) → slice_get (visible p.automatics q.scope) k ≡ Some v → LivesAt memory v depth

-- An activation of the program's run that waits, at a depth, and one of the unit's: one function and one place, where what is visible lives.
pub record FrameIs (p : ProgramTree) (u : UnitForm) (memory : SourceMemory) (depth : ℕ) (a : Frame) (b : Activation) : Type 0 where
  pub function : b.function ≡ a.function
  pub place : b.place ≡ a.place
  pub graph : slice_get u.graphs a.function ≡ Some b.graph
  pub sees : Sees p memory depth a.place

-- those that wait, the innermost first
abbrev pub FramesAre : ProgramTree → UnitForm → SourceMemory → List Frame → List Activation → Type 0
FramesAre p u memory [] [] = Unit {0}
FramesAre p u memory [] (b ∷ bs) = ⊥
FramesAre p u memory (a ∷ more) [] = ⊥
FramesAre p u memory (a ∷ more) (b ∷ bs) = FrameIs p u memory (length more + 1) a b × FramesAre p u memory more bs

pub frames_length : (p : ProgramTree) (u : UnitForm) (memory : SourceMemory) (xs : List Frame) (ys : List Activation) → FramesAre p u memory xs ys → length xs ≡ length ys
frames_length p u memory [] [] h = refl
frames_length p u memory [] (y ∷ ys) h = absurd h
frames_length p u memory (x ∷ xs) [] h = absurd h
frames_length p u memory (x ∷ xs) (y ∷ ys) h = ap (λ n. suc n) (frames_length p u memory xs ys h.1)

pub frames_later : (p : ProgramTree) (u : UnitForm) (memory after : SourceMemory) → Later memory after → (xs : List Frame) (ys : List Activation) → FramesAre p u memory xs ys → FramesAre p u after xs ys
frames_later p u memory after later [] [] h = tt
frames_later p u memory after later [] (y ∷ ys) h = absurd h
frames_later p u memory after later (x ∷ xs) [] h = absurd h
frames_later p u memory after later (x ∷ xs) (y ∷ ys) h = (
  record { function = h.0.function; place = h.0.place; graph = h.0.graph; sees = λ q is k v at. lives_later memory after later v (length xs + 1) (h.0.sees q is k v at) },
  frames_later p u memory after later xs ys h.1,
)

-- No object that has not ended is deeper than a depth, and at that depth each is a variable's below a number.
abbrev pub Under : SourceMemory → (depth bound : ℕ) → Type 0
Under memory depth bound = (n : ℕ) (o : SourceObject) (v d : ℕ) → slice_get memory n ≡ Some o → o.phase ≢ Ended → o.owner ≡ Variable v d → (d ≤ depth) × (d ≡ depth → v < bound)

-- A memory grows: what began and has not ended are variables from one number on and below another, at a depth.
pub record Grown (depth low high : ℕ) (before after : SourceMemory) : Type 0 where
  pub later : Later before after
  pub fresh : (n : ℕ) (o : SourceObject) → slice_get after n ≡ Some o → o.phase ≢ Ended → (n < length before) ⊎ ((v : ℕ) × (o.owner ≡ Variable v depth) × (low ≤ v) × (v < high))

depths_same : {a b d e : ℕ} → Variable a d ≡ Variable b e → d ≡ e
depths_same h = cc

numbers_same : {a b d e : ℕ} → Variable a d ≡ Variable b e → a ≡ b
numbers_same h = cc

-- an object that has not ended was there before, with its owner
pub was_there : (before after : SourceMemory) → Later before after → (n : ℕ) (o : SourceObject) → slice_get after n ≡ Some o → o.phase ≢ Ended → n < length before → (z : SourceObject) × (slice_get before n ≡ Some z) × (z.phase ≢ Ended) × (o.owner ≡ z.owner)
was_there before after later n o is alive lt =
    let z = there_is before n lt in
    let c = later n z.0 z.1 in
    let same : c.object ≡ o = some_same (sym c.is ∙ is) in
    (z.0, z.1, (λ over. alive (ap (λ q. q.phase) (sym same) ∙ c.phase.over over)), ap (λ q. q.owner) (sym same) ∙ c.owner)

pub under_grown : (depth low high : ℕ) (before after : SourceMemory) → low ≤ high → Under before depth low → Grown depth low high before after → Under after depth high
under_grown depth low high before after le under g n o v d is alive owner = by (g.fresh n o is alive)
  where
    by : (n < length before) ⊎ ((v : ℕ) × (o.owner ≡ Variable v depth) × (low ≤ v) × (v < high)) → (d ≤ depth) × (d ≡ depth → v < high)
    by (inl lt) =
        let z = was_there before after g.later n o is alive lt in
        let c = under n z.0 v d z.1 z.2 (sym z.3 ∙ owner) in (c.0, (λ e. (let less = c.1 e in omega (arith, less, le))))
    by (inr new) =
        let e : Variable v d ≡ Variable new.0 depth = sym owner ∙ new.1 in
        let depths : d ≡ depth = depths_same e in let same : v ≡ new.0 = numbers_same e in let less = new.3 in (omega (arith, depths), (λ i. omega (arith, same, less)))

pub grown_same : (depth low high : ℕ) (memory : SourceMemory) → ((n : ℕ) (o : SourceObject) → slice_get memory n ≡ Some o → n < length memory) → Grown depth low high memory memory
grown_same depth low high memory within = record { later = later_refl memory; fresh = λ n o is alive. inl (within n o is) }

pub grown_since : (depth low high : ℕ) (before after : SourceMemory) → Since before after → Grown depth low high before after
grown_since depth low high before after h = record { later = h.later; fresh = λ n o is alive. inl (h.ends n o is alive) }

-- less is said of what began
pub grown_wider : (depth low low2 high high2 : ℕ) (before after : SourceMemory) → low ≤ low2 → high2 ≤ high → Grown depth low2 high2 before after → Grown depth low high before after
grown_wider depth low low2 high high2 before after le ge g = record { later = g.later; fresh = λ n o is alive. by o (g.fresh n o is alive) }
  where
    by : {n : ℕ} (o : SourceObject) → (n < length before) ⊎ ((v : ℕ) × (o.owner ≡ Variable v depth) × (low2 ≤ v) × (v < high2)) → (n < length before) ⊎ ((v : ℕ) × (o.owner ≡ Variable v depth) × (low ≤ v) × (v < high))
    by o (inl lt) = inl lt
    by o (inr new) = let a = new.2 in let b = new.3 in inr (new.0, new.1, omega (arith, le, a), omega (arith, ge, b))

pub grown_trans : (depth low high : ℕ) (first between after : SourceMemory) → Grown depth low high first between → Grown depth low high between after → Grown depth low high first after
grown_trans depth low high first between after f g = record { later = later_trans first between after f.later g.later; fresh = λ n o is alive. by n o is alive (g.fresh n o is alive) }
  where
    older : (n : ℕ) (o z : SourceObject) → o.owner ≡ z.owner → (n < length first) ⊎ ((v : ℕ) × (z.owner ≡ Variable v depth) × (low ≤ v) × (v < high)) → (n < length first) ⊎ ((v : ℕ) × (o.owner ≡ Variable v depth) × (low ≤ v) × (v < high))
    older n o z same (inl lt) = inl lt
    older n o z same (inr new) = inr (new.0, same ∙ new.1, new.2, new.3)

    by : (n : ℕ) (o : SourceObject) → slice_get after n ≡ Some o → o.phase ≢ Ended → (n < length between) ⊎ ((v : ℕ) × (o.owner ≡ Variable v depth) × (low ≤ v) × (v < high)) → (n < length first) ⊎ ((v : ℕ) × (o.owner ≡ Variable v depth) × (low ≤ v) × (v < high))
    by n o is alive (inl lt) = let z = was_there between after g.later n o is alive lt in older n o z.0 z.3 (f.fresh n z.0 z.1 z.2)
    by n o is alive (inr new) = inr new
