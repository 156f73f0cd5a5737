-- Homes are numbered anew, one after the other.
use Rattle.std.proofs.Common.{◌≡◌, ◌≢◌, inl, inr, ℕ, zero, suc, ◌+◌, ◌<◌, Option, Some, None, List, [], ◌∷◌, ◌++◌, get_or, length, map, take, refl, sym, ap, subst, ◌∙◌, arith}
use Rattle.std.specs.Prelude.{slice_get, slice_set, option_map, ◌⊎◌}
use Rattle.std.specs.Global.{Vec}
use Rattle.std.specs.Option.{option_map_or}
use Rattle.std.proofs.lemmas.Bool.Decides.{eqb_tells}
use Rattle.std.proofs.lemmas.List.{length-set, map-append}
use Rattle.std.proofs.lemmas.Option.{none-some, same_Some, slice_get-map, slice_get_within}
use Rattle.graph_core.specs.declared.block.Block as declared-block
use Rattle.graph_core.specs.declared.graph.Graph as declared-graph
use Rattle.graph_core.specs.declared.instruction.Instr as declared-instr
use Rattle.graph_core.specs.Graphs.{Recipe, NoteValue, Is, Instruction, Note, Block, block_view, graph_view, instruction_view}
use Rattle.graph_core.specs.Paths.{Among, front}
use Rattle.graph_core.specs.Uses.{names_in}
use Rattle.currency_notes.specs.declared.homes.Homes as declared-homes
use Rattle.currency_notes.specs.Homes.{home_by, home_in, number_at, number_in, readers_of, AreReadBy}
use Rattle.currency_notes.specs.Numbered.{AreNumbered, IsNoteIn}
use Rattle.currency_notes.specs.Numbers.{AreNotesRead, AreOrderly, IsMore, IsReaderOf}
use Rattle.currency_notes.proofs.Lists.{among_left, among_one, among_parts, among_right, at_among, get_put_other, get_put_same, set_cases, take_one_more}
use Rattle.base_laws.proofs.Lists.{snoc_old as get_append}

lt_append : {A : Type 0} (xs ys : List A) (k : ℕ) → k < length xs → k < length (xs ++ ys)
lt_append [] ys k lt = absurd (omega (arith, lt))
lt_append (x ∷ xs) ys zero lt = omega arith
lt_append (x ∷ xs) ys (suc k) lt = (let e : k < length (xs ++ ys) = lt_append xs ys k (omega (arith, lt)) in omega (arith, e))

last_append : {A : Type 0} (xs : List A) (y : A) → length xs < length (xs ++ (y ∷ []))
last_append [] y = omega arith
last_append (x ∷ xs) y = (let e : length xs < length (xs ++ (y ∷ [])) = last_append xs y in omega (arith, e))

pub more_same : (m : declared-homes.Homes) → IsMore m m
more_same m = record { homes = refl; count = refl; numbers = λ i k e. e; readers = λ k x there. there; orderly = λ o. o }

pub more_on : (a b c : declared-homes.Homes) → IsMore a b → IsMore b c → IsMore a c
more_on a b c one two = record {
  homes = two.homes ∙ one.homes;
  count = two.count ∙ one.count;
  numbers = λ i k e. two.numbers i k (one.numbers i k e);
  readers = λ k x there. two.readers k x (one.readers k x there);
  orderly = λ o. two.orderly (one.orderly o);
}

-- the readers that stand in a list
abbrev read_by : Option (Vec ℕ) → List ℕ
read_by o = option_map_or (λ v. v.items) o []

-- a home is given the next number
module _ (m n : declared-homes.Homes) (home : ℕ) (v : Vec ℕ) (same : n.homes.now ≡ m.homes.now) (none : (k : ℕ) → slice_get m.numbers.items home ≡ Some (Some k) → ⊥) (put : n.numbers.items ≡ slice_set m.numbers.items home (Some (length m.readers.items)))
    (grown : n.readers.items ≡ m.readers.items ++ (v ∷ [])) where
  abbrev fresh : ℕ
  fresh = length m.readers.items

  numbers_kept : (i k : ℕ) → slice_get m.numbers.items i ≡ Some (Some k) → slice_get n.numbers.items i ≡ Some (Some k)
  numbers_kept i k e =
      ap (λ xs. slice_get xs i) put ∙ get_put_other m.numbers.items home (Some fresh) i (λ one. none k (ap (λ j. slice_get m.numbers.items j) (sym one) ∙ e)) ∙ e

  readers_kept : (k x : ℕ) → Among x (readers_of m k) → Among x (readers_of n k)
  readers_kept k x there = at_found (slice_get m.readers.items k) refl
    where
      at_found : (o : Option (Vec ℕ)) → slice_get m.readers.items k ≡ o → Among x (readers_of n k)
      at_found None q = elim (subst (λ (o : Option (Vec ℕ)). Among x (read_by o)) q there) [ ]
      at_found (Some w) q = subst (λ (o : Option (Vec ℕ)). Among x (read_by o)) (sym (ap (λ xs. slice_get xs k) grown ∙ get_append m.readers.items (v ∷ []) k w q)) (subst (λ (o : Option (Vec ℕ)). Among x (read_by o)) q there)

  cases : (i k : ℕ) → slice_get n.numbers.items i ≡ Some (Some k) → ((i ≡ home) × (Some k ≡ Some fresh)) ⊎ ((i ≢ home) × (slice_get m.numbers.items i ≡ Some (Some k)))
  cases i k e = set_cases m.numbers.items home (Some fresh) i (Some k) (subst (λ (xs : List (Option ℕ)). slice_get xs i ≡ Some (Some k)) put e)

  fresh_within : fresh < length n.readers.items
  fresh_within = subst (λ (xs : List (Vec ℕ)). fresh < length xs) (sym grown) (last_append m.readers.items v)

  -- a number that was given is not the next one
  not_fresh : AreOrderly m → (i k : ℕ) → slice_get m.numbers.items i ≡ Some (Some k) → Some k ≡ Some fresh → ⊥
  not_fresh o i k e f = (let lt : k < fresh = o.within i k e in let one : k ≡ fresh = same_Some k fresh f in omega (arith, lt, one))

  pub more_new : IsMore m n
  more_new = record {
    homes = same;
    count = ap (λ xs. length xs) put ∙ length-set m.numbers.items home (Some fresh);
    numbers = numbers_kept;
    readers = readers_kept;
    orderly = λ o. record {
      within = λ i k e. elim (cases i k e) [
        | inl f ↦ subst (λ j. j < length n.readers.items) (sym (same_Some k fresh f.1)) fresh_within
        | inr f ↦ subst (λ (xs : List (Vec ℕ)). k < length xs) (sym grown) (lt_append m.readers.items (v ∷ []) k (o.within i k f.1))
      ];
      apart = λ i j k e d. elim (cases i k e) [
        | inl f ↦ elim (cases j k d) [ inl g ↦ f.0 ∙ sym g.0 | inr g ↦ absurd (not_fresh o j k g.1 f.1) ]
        | inr f ↦ elim (cases j k d) [ inl g ↦ absurd (not_fresh o i k f.1 g.1) | inr g ↦ o.apart i j k f.1 g.1 ]
      ];
    };
  }

-- a scalar is put among the readers of a home
module _ (m n : declared-homes.Homes) (number scalar : ℕ) (v w : Vec ℕ) (same : n.homes.now ≡ m.homes.now) (numbers : n.numbers.items ≡ m.numbers.items) (is : slice_get m.readers.items number ≡ Some v) (put : n.readers.items ≡ slice_set m.readers.items number w)
    (more : w.items ≡ v.items ++ (scalar ∷ [])) where
  there_now : readers_of n number ≡ v.items ++ (scalar ∷ [])
  there_now = ap (λ (xs : List (Vec ℕ)). read_by (slice_get xs number)) put ∙ ap (λ (o : Option (Vec ℕ)). read_by o) (get_put_same m.readers.items number w (slice_get_within m.readers.items number v is)) ∙ more

  there_before : readers_of m number ≡ v.items
  there_before = ap (λ (o : Option (Vec ℕ)). read_by o) is

  elsewhere : (k : ℕ) → (k ≡ number → ⊥) → readers_of n k ≡ readers_of m k
  elsewhere k other = ap (λ (xs : List (Vec ℕ)). read_by (slice_get xs k)) put ∙ ap (λ (o : Option (Vec ℕ)). read_by o) (get_put_other m.readers.items number w k other)

  reader_kept : (k x : ℕ) → Among x (readers_of m k) → Among x (readers_of n k)
  reader_kept k x there = elim (eqb_tells k number) [
    | inl e ↦ subst (λ j. Among x (readers_of n j)) (sym e.1) (subst (λ l. Among x l) (sym there_now) (among_left v.items (scalar ∷ []) (subst (λ l. Among x l) there_before (subst (λ j. Among x (readers_of m j)) e.1 there))))
    | inr e ↦ subst (λ l. Among x l) (sym (elsewhere k e.1)) there
  ]

  as_many : length n.readers.items ≡ length m.readers.items
  as_many = ap (λ xs. length xs) put ∙ length-set m.readers.items number w

  pub more_reader : IsMore m n
  more_reader = record {
    homes = same;
    count = ap (λ xs. length xs) numbers;
    numbers = λ i k e. ap (λ xs. slice_get xs i) numbers ∙ e;
    readers = reader_kept;
    orderly = λ o. record {
      within = λ i k e. subst (λ c. k < c) (sym as_many) (o.within i k (sym (ap (λ xs. slice_get xs i) numbers) ∙ e));
      apart = λ i j k e d. o.apart i j k (sym (ap (λ xs. slice_get xs i) numbers) ∙ e) (sym (ap (λ xs. slice_get xs j) numbers) ∙ d);
    };
  }

  pub reader_new : Among scalar (readers_of n number)
  reader_new = subst (λ l. Among scalar l) (sym there_now) (among_right v.items (scalar ∷ []) front)

-- the number of a name's home stands in the list
number_listed : (m : declared-homes.Homes) (y k : ℕ) → number_in m y ≡ Some k → slice_get m.numbers.items (number_at (home_by m y)) ≡ Some (Some k)
number_listed m y k e = at_found (slice_get m.numbers.items (number_at (home_by m y))) refl
  where
    at_found : (o : Option (Option ℕ)) → slice_get m.numbers.items (number_at (home_by m y)) ≡ o → slice_get m.numbers.items (number_at (home_by m y)) ≡ Some (Some k)
    at_found None q = absurd (none-some k (sym (ap (λ (o : Option (Option ℕ)). option_map_or (λ (n : Option ℕ). n) o None) q) ∙ e))
    at_found (Some n) q = q ∙ ap Some (sym (ap (λ (o : Option (Option ℕ)). option_map_or (λ (n : Option ℕ). n) o None) q) ∙ e)

listed_number : (m : declared-homes.Homes) (y k : ℕ) → slice_get m.numbers.items (number_at (home_by m y)) ≡ Some (Some k) → number_in m y ≡ Some k
listed_number m y k e = ap (λ (o : Option (Option ℕ)). option_map_or (λ (n : Option ℕ). n) o None) e

-- readers stay
pub reader_on : (m n : declared-homes.Homes) → IsMore m n → (y x : ℕ) → IsReaderOf m y x → IsReaderOf n y x
reader_on m n more y x of lt =
    let home : number_at (home_by n y) ≡ number_at (home_by m y) = ap (λ hs. number_at (home_in hs y)) more.homes in
    let here = of (subst (λ c. number_at (home_by m y) < c) more.count (subst (λ a. a < length n.numbers.items) home lt)) in (
      here.0,
      listed_number n y here.0 (subst (λ a. slice_get n.numbers.items a ≡ Some (Some here.0)) (sym home) (more.numbers (number_at (home_by m y)) here.0 (number_listed m y here.0 here.1))),
      more.readers here.0 x here.2,
    )

pub notes_on : (m n : declared-homes.Homes) → IsMore m n → (all : List Instruction) → AreNotesRead m all → AreNotesRead n all
notes_on m n more all read x r there y among = reader_on m n more y x (read x r there y among)

-- one instruction more was looked at
pub notes_next : (m n : declared-homes.Homes) → IsMore m n → (items : List declared-instr.Instr) (i : ℕ) (item : declared-instr.Instr) → i < length items → item ≡ get_or items i item → AreNotesRead m (map instruction_view (take i items))
    → ((x : ℕ) (r : Recipe) → instruction_view item ≡ Note x (Is r) → (y : ℕ) → Among y (names_in r) → IsReaderOf n y x) → AreNotesRead n (map instruction_view (take (i + 1) items))
notes_next m n more items i item lt is before here x r there y among =
    let grown : map instruction_view (take (i + 1) items) ≡ map instruction_view (take i items) ++ (instruction_view item ∷ []) = ap (map instruction_view) (take_one_more items i item lt is) ∙ map-append instruction_view (take i items) (item ∷ []) in
    elim (among_parts (map instruction_view (take i items)) (instruction_view item ∷ []) (subst (λ (l : List Instruction). Among (Note x (Is r)) l) grown there)) [
      | inl f ↦ reader_on m n more y x (before x r f y among)
      | inr f ↦ here x r (sym (among_one f)) y among
    ]

-- a home has a number that was put for it
pub number_put : (m n : declared-homes.Homes) (y k : ℕ) → n.homes.now ≡ m.homes.now → length n.numbers.items ≡ length m.numbers.items → n.numbers.items ≡ slice_set m.numbers.items (number_at (home_by m y)) (Some k) → number_at (home_by n y) < length n.numbers.items → number_in n y ≡ Some k
number_put m n y k same count put lt =
    let home : number_at (home_by n y) ≡ number_at (home_by m y) = ap (λ hs. number_at (home_in hs y)) same in
    let small : number_at (home_by m y) < length m.numbers.items = subst (λ c. number_at (home_by m y) < c) count (subst (λ a. a < length n.numbers.items) home lt) in
    listed_number n y k (ap (λ a. slice_get n.numbers.items a) home ∙ ap (λ xs. slice_get xs (number_at (home_by m y))) put ∙ get_put_same m.numbers.items (number_at (home_by m y)) (Some k) small)

-- a home that has no number has none in the list
pub none_listed : (m : declared-homes.Homes) (y : ℕ) → number_in m y ≡ None → (k : ℕ) → slice_get m.numbers.items (number_at (home_by m y)) ≡ Some (Some k) → ⊥
none_listed m y none k e = none-some k (sym none ∙ listed_number m y k e)

-- a scalar is among the readers of a name's home, if that has a number
pub reader_by : (m n : declared-homes.Homes) (y x k : ℕ) → AreOrderly m → n.homes.now ≡ m.homes.now → n.numbers.items ≡ m.numbers.items → (number_at (home_by m y) < length m.numbers.items → number_in m y ≡ Some k) → (k < length m.readers.items → Among x (readers_of n k)) → IsReaderOf n y x
reader_by m n y x k orderly same numbers given read lt =
    let home : number_at (home_by n y) ≡ number_at (home_by m y) = ap (λ hs. number_at (home_in hs y)) same in
    let here : number_in m y ≡ Some k = given (subst (λ xs. number_at (home_by m y) < length xs) numbers (subst (λ a. a < length n.numbers.items) home lt)) in
    let listed = number_listed m y k here in
    (k, listed_number n y k (ap (λ a. slice_get n.numbers.items a) home ∙ ap (λ xs. slice_get xs (number_at (home_by m y))) numbers ∙ listed), read (orderly.within (number_at (home_by m y)) k listed))

-- the recipe that a note says, and of which scalar
abbrev recipe_said : NoteValue → Recipe → Recipe
recipe_said (Is q) d = q
recipe_said _ d = d

abbrev scalar_said : Instruction → ℕ → ℕ
scalar_said (Note x v) d = x
scalar_said _ d = d

abbrev value_said : Instruction → NoteValue → NoteValue
value_said (Note x v) d = v
value_said _ d = d

pub same_recipe : (a b : Recipe) → Is a ≡ Is b → a ≡ b
same_recipe a b e = ap (λ (v : NoteValue). recipe_said v b) e

pub same_scalar : (x y : ℕ) (v w : NoteValue) → Note x v ≡ Note y w → x ≡ y
same_scalar x y v w e = ap (λ (i : Instruction). scalar_said i y) e

pub same_value : (x y : ℕ) (v w : NoteValue) → Note x v ≡ Note y w → v ≡ w
same_value x y v w e = ap (λ (i : Instruction). value_said i w) e

-- where the notes of all blocks are read, homes are numbered
module _ (m : declared-homes.Homes) (g : declared-graph.Graph) (orderly : AreOrderly m) (each : (b : declared-block.Block) → Among b g.blocks.items → AreNotesRead m (map instruction_view b.instructions.items)) where
  read_in : (x : ℕ) (r : Recipe) → IsNoteIn (graph_view g) x r → (y : ℕ) → Among y (names_in r) → IsReaderOf m y x
  read_in x r note y among = at_block (slice_get g.blocks.items note.n) refl
    where
      viewed : (o : Option declared-block.Block) → slice_get g.blocks.items note.n ≡ o → option_map block_view o ≡ Some note.block
      viewed o q = sym (slice_get-map block_view g.blocks.items note.n ∙ ap (λ p. option_map block_view p) q) ∙ note.is

      at_block : (o : Option declared-block.Block) → slice_get g.blocks.items note.n ≡ o → IsReaderOf m y x
      at_block None q = absurd (none-some note.block (viewed None q))
      at_block (Some b) q =
          let one : block_view b ≡ note.block = same_Some (block_view b) note.block (viewed (Some b) q) in
          each b (at_among g.blocks.items note.n b q) x r (subst (λ (c : Block). Among (Note x (Is r)) c.instructions) (sym one) note.among) y among

  readers_in : (x : ℕ) (r : Recipe) → IsNoteIn (graph_view g) x r → AreReadBy m r x
  readers_in x r note y among k number =
      let listed = number_listed m y k number in
      let here = read_in x r note y among (slice_get_within m.numbers.items (number_at (home_by m y)) (Some k) listed) in
      subst (λ j. Among x (readers_of m j)) (same_Some here.0 k (sym here.1 ∙ number)) here.2

  pub numbered_all : AreNumbered m (graph_view g)
  numbered_all = record {
    within = λ y k number. orderly.within (number_at (home_by m y)) k (number_listed m y k number);
    apart = λ y z k one other. orderly.apart (number_at (home_by m y)) (number_at (home_by m z)) k (number_listed m y k one) (number_listed m z k other);
    given = λ x r note y among lt. (let here = read_in x r note y among lt in (here.0, here.1));
    readers = readers_in;
  }
