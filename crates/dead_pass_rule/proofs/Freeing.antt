-- What may go, told instruction by instruction.
use Rattle.std.proofs.Common.{◌≡◌, ℕ, ◌+◌, ◌⊎◌, inl, inr, Bool, true, false, Option, Some, None, List, [], ◌∷◌, ◌++◌, length, refl, sym, ap, ◌∙◌, subst, append_assoc}
use Rattle.std.specs.Prelude.{◌↔◌, slice_get, slice_index_or}
use Rattle.std.specs.declared.vec.Vec.{Vec}
use Rattle.std.specs.declared.alloc.Global.{Global}
use Rattle.places.specs.declared.flow.Assignment.{Assignment}
use Rattle.graph_core.specs.Graphs.{Instruction, Marker, Note, Move, Operate, Truncate, Same as SameOf, Address, Load, Store, Zero, CopyWords, Call, Block, Graph}
use Rattle.graph_core.specs.Points.{StandsWith}
use Rattle.graph_core.specs.Validity.{place_behind}
use Rattle.dead_pass_rule.specs.Certified.{IsFree}
use Rattle.dead_pass_rule.specs.Free.{IsFreeOnce, MayGoOnce, AreFree, AreFreeFrom, AreFreeOnce, flags_in}
use Rattle.dead_pass_rule.specs.Idle.{MayGo}
use Rattle.base_laws.proofs.Lists.{append_nil}

-- What is still to be told of instructions, behind what is told.
pub data AreFreeAhead (assignments : List Assignment) (g : Graph) (start : Option ℕ) (all : List Instruction) (now : Option ℕ) (ahead : List Instruction) (told : List Bool) : Type 0 where
  goes_on : ((later : List Bool) → AreFreeFrom assignments g now ahead later → AreFreeFrom assignments g start all (told ++ later)) → AreFreeAhead assignments g start all now ahead told

pub free_first : (assignments : List Assignment) (g : Graph) (start : Option ℕ) (all : List Instruction) → AreFreeAhead assignments g start all start all []
free_first assignments g start all = goes_on (λ later are. are)

pub free_next : (assignments : List Assignment) (g : Graph) (start : Option ℕ) (all : List Instruction) (now next : Option ℕ) (i : Instruction) (ahead : List Instruction) (told longer : List Bool) (v : Bool)
    → longer ≡ told ++ v ∷ [] → ((v ≡ true) ↔ IsFreeOnce assignments g now i) → next ≡ place_behind (i ∷ []) now
    → AreFreeAhead assignments g start all now (i ∷ ahead) told → AreFreeAhead assignments g start all next ahead longer
free_next assignments g start all now next i ahead told longer v grown is places (goes_on go) =
    goes_on (λ later are. (let P : List Bool → Type 0 = λ l. AreFreeFrom assignments g start all l in
    subst P (sym (append_assoc told (v ∷ []) later) ∙ ap (λ l. l ++ later) (sym grown))
    (go (v ∷ later) (is, subst (λ p. AreFreeFrom assignments g p ahead later) places are))))

pub free_done : (assignments : List Assignment) (g : Graph) (start : Option ℕ) (all : List Instruction) (now : Option ℕ) (told : List Bool)
    → AreFreeAhead assignments g start all now [] told → AreFreeFrom assignments g start all told
free_done assignments g start all now told (goes_on go) =
    (let P : List Bool → Type 0 = λ l. AreFreeFrom assignments g start all l in subst P (append_nil told) (go [] tt))

-- the place in force behind one instruction and then others
behind_one : (k : Instruction) (more : List Instruction) (place : Option ℕ) → place_behind more (place_behind (k ∷ []) place) ≡ place_behind (k ∷ more) place
behind_one (Marker p) more place = refl
behind_one (Note x v) more place = refl
behind_one (Move x a) more place = refl
behind_one (Operate x o a b) more place = refl
behind_one (Truncate x t a) more place = refl
behind_one (SameOf x a b) more place = refl
behind_one (Address x object) more place = refl
behind_one (Load x el l) more place = refl
behind_one (Store el l a) more place = refl
behind_one (Zero object words) more place = refl
behind_one (CopyWords object bytes words) more place = refl
behind_one (Call x f all) more place = refl

-- what is told of an instruction
free_at : (assignments : List Assignment) (g : Graph) (place : Option ℕ) (before : List Instruction) (i : Instruction) (rest : List Instruction) (told : List Bool)
    → AreFreeFrom assignments g place (before ++ i ∷ rest) told → (slice_index_or told (length before) false ≡ true) ↔ IsFreeOnce assignments g (place_behind before place) i
free_at assignments g place [] i rest [] are = absurd are
free_at assignments g place [] i rest (v ∷ told) are = are.0
free_at assignments g place (j ∷ before) i rest [] are = absurd are
free_at assignments g place (j ∷ before) i rest (v ∷ told) are =
    (let P : Option ℕ → Type 0 = λ p. (slice_index_or told (length before) false ≡ true) ↔ IsFreeOnce assignments g p i in
    subst P (behind_one j before place) (free_at assignments g (place_behind (j ∷ []) place) before i rest told are.1))

-- what may go if it stands somewhere may go
of_once : (assignments : List Assignment) (g : Graph) (place : Option ℕ) (i : Instruction) → IsFreeOnce assignments g place i → IsFree assignments g place i
of_once assignments g place i free = record {
  p = free.p;
  x = free.x;
  in_place = free.in_place;
  target = free.target;
  may_go = by_case free.may_go;
}
  where
    by_case : MayGoOnce assignments g free.p free.x → MayGo assignments g free.p free.x
    by_case (inl temporary) = inl temporary
    by_case (inr (once, assigns)) = inr (once.is.once, assigns)

-- and where it stands too
to_once : (assignments : List Assignment) (g : Graph) (n : ℕ) (b : Block) (before rest : List Instruction) (i : Instruction) → slice_get g.blocks n ≡ Some b → b.instructions ≡ before ++ i ∷ rest
    → IsFree assignments g (place_behind before b.place) i → IsFreeOnce assignments g (place_behind before b.place) i
to_once assignments g n b before rest i at parts free = record {
  p = free.p;
  x = free.x;
  in_place = free.in_place;
  target = free.target;
  may_go = by_case free.may_go;
}
  where
    stands : StandsWith g free.p n (i ∷ rest) b.end
    stands = record { block = b; before = before; is = at; instructions = parts; ends = refl; place = free.in_place }

    by_case : MayGo assignments g free.p free.x → MayGoOnce assignments g free.p free.x
    by_case (inl temporary) = inl temporary
    by_case (inr (once, assigns)) = inr (
      record {
        block = n;
        left = length rest;
        is = record { instruction = i; rest = rest; end = b.end; stands = stands; target = free.target; behind = refl; once = once };
      },
      assigns,
    )

-- what is told of a block of a graph is told of what stands there
pub are_free : (assignments : List Assignment) (g : Graph) (n : ℕ) (b : Block) (told : Option (Vec Bool Global)) → slice_get g.blocks n ≡ Some b → AreFreeOnce assignments g b told → AreFree assignments g b (flags_in told)
are_free assignments g n b None at are = absurd are
are_free assignments g n b (Some told) at are = λ before rest i parts.
    (let here : (slice_index_or told.items (length before) false ≡ true) ↔ IsFreeOnce assignments g (place_behind before b.place) i =
    free_at assignments g b.place before i rest told.items (subst (λ l. AreFreeFrom assignments g b.place l told.items) parts are) in (
      (λ e. of_once assignments g (place_behind before b.place) i (here.0 e)),
      (λ free. here.1 (to_once assignments g n b before rest i at parts free)),
    ))
