-- What is told of writes by counting them is just where there is one.
use Rattle.std.proofs.Common.{◌≡◌, ◌≢◌, ℕ, zero, suc, ◌+◌, ◌≤◌, inl, inr, Bool, true, false, true≢false, Option, Some, None, List, [], ◌∷◌, ◌++◌, length, refl, sym, ap, ◌∙◌, arith}
use Rattle.std.specs.Prelude.{◌==◌, ◌&&◌, ◌||◌, if◌then◌else◌, slice_get}
use Rattle.std.proofs.lemmas.Bool.{cases_Bool, cases_eq, and_parts, and_from, eq-eqb, eqb-true}
use Rattle.std.proofs.lemmas.Option.{none-some, same_Some}
use Rattle.graph_core.specs.Graphs.{Instruction, Marker, Block, Binding, ToScalar, ToObject, Graph}
use Rattle.graph_core.specs.Paths.{writes, is_bound}
use Rattle.graph_core.specs.Points.{is_place, writes_among, writes_in, assignments_in, StandsWith}
use Rattle.graph_core.specs.Uses.{target_of}
use Rattle.graph_core.specs.Validity.{place_behind, total}
use Rattle.dead_pass_writes.specs.declared.writes.Spot.{Spot}
use Rattle.dead_pass_writes.specs.declared.writes.Written.{Written}
use Rattle.dead_pass_writes.specs.declared.writes.Written.TheVariants.{Once, More}
use Rattle.dead_pass_writes.specs.declared.writes.PlaceWrites.{PlaceWrites}
use Rattle.dead_pass_writes.specs.Once.{IsOnce}
use Rattle.dead_pass_writes.specs.Telling.{one_more, with_write, with_binding, written_by, written_in, bound_by, is_name, told, Tells}
use Rattle.base_laws.proofs.Booleans.{if_false, if_true}
use Rattle.base_laws.proofs.Numbers.{counted_yes, same_turned as same_way}

counted_no : (b : Bool) (r : ℕ) → b ≡ false → (if b then 1 else 0) + r ≡ r
counted_no b r e = (let z : 0 + r ≡ r = omega arith in ap (λ c. (if c then 1 else 0) + r) e ∙ z)

-- the place in force behind one instruction and then others
pub behind_one : (k : Instruction) (more : List Instruction) (place : Option ℕ) → place_behind more (place_behind (k ∷ []) place) ≡ place_behind (k ∷ more) place
behind_one (Marker p) more place = refl
behind_one _ more place = refl

and_false : (a : Bool) → (a && false) ≡ false
and_false true = refl
and_false false = refl

placed : (p : ℕ) (place : Option ℕ) → is_place p place ≡ true → place ≡ Some p
placed p None e = absurd (true≢false (sym e))
placed p (Some q) e = ap (λ r. Some r) (eqb-true q p e)

named : (x : ℕ) (target : Option ℕ) → is_name x target ≡ true → target ≡ Some x
named x None e = absurd (true≢false (sym e))
named x (Some y) e = ap (λ z. Some z) (eqb-true y x e)

once_not_more : {s : Spot} → Some More ≡ Some (Once s) → ⊥
once_not_more e = cc

same_once : {s t : Spot} → Some (Once s) ≡ Some (Once t) → s ≡ t
same_once e = cc

module _ (p x : ℕ) where
  -- an instruction writes the name in the place
  abbrev pub IsOne : Option ℕ → Instruction → Bool
  IsOne place i = is_place p place && writes x i

  -- Among instructions there is one that does.
  pub record HasOne (place : Option ℕ) (all : List Instruction) (left : ℕ) : Type 0 where
    pub before : List Instruction
    pub instruction : Instruction
    pub rest : List Instruction
    pub parts : all ≡ before ++ instruction ∷ rest
    pub is : IsOne (place_behind before place) instruction ≡ true
    pub behind : length rest ≡ left

  module _ (n : ℕ) where
    -- where there is none it stays told
    none_more : (was : Option Written) (place : Option ℕ) (all : List Instruction) → writes_among p x place all ≡ 0 → written_by p x was place n all ≡ was
    none_more was place [] e = refl
    none_more was place (i ∷ rest) e = elim (cases_Bool (IsOne place i)) [
      | inl it ↦ (let one = counted_yes (IsOne place i) (writes_among p x (place_behind (i ∷ []) place) rest) it in absurd (omega (arith, one, e)))
      | inr other ↦ (let one = counted_no (IsOne place i) (writes_among p x (place_behind (i ∷ []) place) rest) other in
          ap (λ w. written_by p x w (place_behind (i ∷ []) place) n rest) (if_false (IsOne place i) (Some (one_more was (record { block = n; left = length rest }))) was other)
          ∙ none_more was (place_behind (i ∷ []) place) rest (sym one ∙ e))
    ]

    -- where there is one more it is told that there are more
    many : (y : Written) (was : Option Written) (place : Option ℕ) (all : List Instruction) → was ≡ Some y → writes_among p x place all ≢ 0 → written_by p x was place n all ≡ Some More
    many y was place [] is some = absurd (some refl)
    many y was place (i ∷ rest) is some =
        let next = place_behind (i ∷ []) place in
        let count = writes_among p x next rest in
        let here : Spot = record { block = n; left = length rest } in
        elim (cases_Bool (IsOne place i)) [
          | inl it ↦ (let now : with_write (IsOne place i) here was ≡ Some More = if_true (IsOne place i) (Some (one_more was here)) was it ∙ ap (λ w. Some (one_more w here)) is in
              elim (cases_eq count 0) [
                | inl none ↦ none_more (with_write (IsOne place i) here was) next rest none ∙ now
                | inr more ↦ many More (with_write (IsOne place i) here was) next rest now more
              ])
          | inr other ↦ (let one = counted_no (IsOne place i) count other in
              many y (with_write (IsOne place i) here was) next rest (if_false (IsOne place i) (Some (one_more was here)) was other ∙ is) (λ z. some (one ∙ z)))
        ]

  -- one is counted
  one_counted : (place : Option ℕ) (before : List Instruction) (i : Instruction) (rest : List Instruction) → IsOne (place_behind before place) i ≡ true → 1 ≤ writes_among p x place (before ++ i ∷ rest)
  one_counted place [] i rest is = (let one = counted_yes (IsOne place i) (writes_among p x (place_behind (i ∷ []) place) rest) is in omega (arith, one))
  one_counted place (j ∷ before) i rest is =
      let later = one_counted (place_behind (j ∷ []) place) before i rest (ap (λ q. IsOne q i) (behind_one j before place) ∙ is) in
      omega (arith, later)

  module _ (n : ℕ) where
    -- the only one is told
    only_one : (was : Option Written) (place : Option ℕ) (before : List Instruction) (i : Instruction) (rest : List Instruction) → was ≡ None → writes_among p x place (before ++ i ∷ rest) ≡ 1 → IsOne (place_behind before place) i ≡ true
        → written_by p x was place n (before ++ i ∷ rest) ≡ Some (Once (record { block = n; left = length rest }))
    only_one was place [] i rest none count is =
        let one = counted_yes (IsOne place i) (writes_among p x (place_behind (i ∷ []) place) rest) is in
        let here : Spot = record { block = n; left = length rest } in
        none_more n (with_write (IsOne place i) here was) (place_behind (i ∷ []) place) rest (omega (arith, one, count)) ∙ if_true (IsOne place i) (Some (one_more was here)) was is ∙ ap (λ w. Some (one_more w here)) none
    only_one was place (j ∷ before) i rest none count is =
        let next = place_behind (j ∷ []) place in
        let is_later : IsOne (place_behind before next) i ≡ true = ap (λ q. IsOne q i) (behind_one j before place) ∙ is in
        let later = one_counted next before i rest is_later in
        let here : Spot = record { block = n; left = length (before ++ i ∷ rest) } in
        elim (cases_Bool (IsOne place j)) [
          | inl it ↦ (let one = counted_yes (IsOne place j) (writes_among p x next (before ++ i ∷ rest)) it in absurd (omega (arith, one, count, later)))
          | inr other ↦ (let one = counted_no (IsOne place j) (writes_among p x next (before ++ i ∷ rest)) other in
              only_one (with_write (IsOne place j) here was) next before i rest (if_false (IsOne place j) (Some (one_more was here)) was other ∙ none) (sym one ∙ count) is_later)
        ]

    -- where there is one something is told
    some_told : (was : Option Written) (place : Option ℕ) (all : List Instruction) → was ≡ None → writes_among p x place all ≢ 0 → (y : Written) × (written_by p x was place n all ≡ Some y)
    some_told was place [] none some = absurd (some refl)
    some_told was place (i ∷ rest) none some =
        let next = place_behind (i ∷ []) place in
        let count = writes_among p x next rest in
        let here : Spot = record { block = n; left = length rest } in
        elim (cases_Bool (IsOne place i)) [
          | inl it ↦ (let now : with_write (IsOne place i) here was ≡ Some (Once here) = if_true (IsOne place i) (Some (one_more was here)) was it ∙ ap (λ w. Some (one_more w here)) none in
              elim (cases_eq count 0) [
                | inl zeroes ↦ (Once here, none_more n (with_write (IsOne place i) here was) next rest zeroes ∙ now)
                | inr more ↦ (More, many n (Once here) (with_write (IsOne place i) here was) next rest now more)
              ])
          | inr other ↦ (let one = counted_no (IsOne place i) count other in
              some_told (with_write (IsOne place i) here was) next rest (if_false (IsOne place i) (Some (one_more was here)) was other ∙ none) (λ z. some (one ∙ z)))
        ]

    -- What is told of one is so.
    told_one : (s : Spot) (was : Option Written) (place : Option ℕ) (all : List Instruction) → was ≡ None → written_by p x was place n all ≡ Some (Once s) → HasOne place all s.left × (s.block ≡ n) × (writes_among p x place all ≡ 1)
    told_one s was place [] none e = absurd (none-some (Once s) (sym none ∙ e))
    told_one s was place (i ∷ rest) none e =
        let next = place_behind (i ∷ []) place in
        let count = writes_among p x next rest in
        let here : Spot = record { block = n; left = length rest } in
        elim (cases_Bool (IsOne place i)) [
          | inl it ↦ (let now : with_write (IsOne place i) here was ≡ Some (Once here) = if_true (IsOne place i) (Some (one_more was here)) was it ∙ ap (λ w. Some (one_more w here)) none in
              let one = counted_yes (IsOne place i) count it in
              elim (cases_eq count 0) [
                | inl zeroes ↦ (let same : here ≡ s = same_once (sym now ∙ sym (none_more n (with_write (IsOne place i) here was) next rest zeroes) ∙ e) in
                    (record { before = []; instruction = i; rest = rest; parts = refl; is = it; behind = ap (λ (t : Spot). t.left) same }, sym (ap (λ (t : Spot). t.block) same), omega (arith, one, zeroes)))
                | inr more ↦ absurd (once_not_more (sym (many n (Once here) (with_write (IsOne place i) here was) next rest now more) ∙ e))
              ])
          | inr other ↦ (let one = counted_no (IsOne place i) count other in
              let later = told_one s (with_write (IsOne place i) here was) next rest (if_false (IsOne place i) (Some (one_more was here)) was other ∙ none) e in (
                record {
                  before = i ∷ later.0.before;
                  instruction = later.0.instruction;
                  rest = later.0.rest;
                  parts = ap (λ l. i ∷ l) later.0.parts;
                  is = ap (λ q. IsOne q later.0.instruction) (sym (behind_one i later.0.before place)) ∙ later.0.is;
                  behind = later.0.behind;
                },
                later.1,
                one ∙ later.2,
              ))
        ]

  -- Blocks, one after the other.
  abbrev pub count_of : Block → ℕ
  count_of b = writes_among p x b.place b.instructions

  none_more_in : (was : Option Written) (n : ℕ) (all : List Block) → total count_of all ≡ 0 → written_in p x was n all ≡ was
  none_more_in was n [] e = refl
  none_more_in was n (b ∷ more) e = none_more_in (written_by p x was b.place n b.instructions) (n + 1) more (omega (arith, e)) ∙ none_more n was b.place b.instructions (omega (arith, e))

  many_in : (y : Written) (was : Option Written) (n : ℕ) (all : List Block) → was ≡ Some y → total count_of all ≢ 0 → written_in p x was n all ≡ Some More
  many_in y was n [] is some = absurd (some refl)
  many_in y was n (b ∷ more) is some = elim (cases_eq (count_of b) 0) [
    | inl none ↦ (let z : (k : ℕ) → 0 + k ≡ k = λ k. omega arith in
        many_in y (written_by p x was b.place n b.instructions) (n + 1) more (none_more n was b.place b.instructions none ∙ is) (λ e. some (ap (λ k. k + total count_of more) none ∙ z (total count_of more) ∙ e)))
    | inr one ↦ (let now : written_by p x was b.place n b.instructions ≡ Some More = many n y was b.place b.instructions is one in
        elim (cases_eq (total count_of more) 0) [
          | inl none ↦ none_more_in (written_by p x was b.place n b.instructions) (n + 1) more none ∙ now
          | inr others ↦ many_in More (written_by p x was b.place n b.instructions) (n + 1) more now others
        ])
  ]

  counted_at : (all : List Block) (k : ℕ) (b : Block) → slice_get all k ≡ Some b → count_of b ≤ total count_of all
  counted_at [] k b e = absurd (none-some b e)
  counted_at (c ∷ more) zero b e = (let same = ap count_of (same_Some c b e) in omega (arith, same))
  counted_at (c ∷ more) (suc k) b e = (let later = counted_at more k b e in omega (arith, later))

  only_in : (was : Option Written) (n : ℕ) (all : List Block) (k : ℕ) (b : Block) (before : List Instruction) (i : Instruction) (rest : List Instruction) → was ≡ None → total count_of all ≡ 1 → slice_get all k ≡ Some b → b.instructions ≡ before ++ i ∷ rest
      → IsOne (place_behind before b.place) i ≡ true → written_in p x was n all ≡ Some (Once (record { block = n + k; left = length rest }))
  only_in was n [] k b before i rest none count e parts is = absurd (none-some b e)
  only_in was n (c ∷ more) zero b before i rest none count e parts is =
      let same : c ≡ b = same_Some c b e in
      let place = ap (λ (d : Block). d.place) same in
      let whole : c.instructions ≡ before ++ i ∷ rest = ap (λ (d : Block). d.instructions) same ∙ parts in
      let is_here : IsOne (place_behind before c.place) i ≡ true = ap (λ q. IsOne (place_behind before q) i) place ∙ is in
      let some = one_counted c.place before i rest is_here in
      let counts : count_of c ≡ writes_among p x c.place (before ++ i ∷ rest) = ap (writes_among p x c.place) whole in
      let z : n ≡ n + 0 = omega arith in
      none_more_in (written_by p x was c.place n c.instructions) (n + 1) more (omega (arith, some, counts, count))
      ∙ ap (written_by p x was c.place n) whole
      ∙ only_one n was c.place before i rest none (omega (arith, some, counts, count)) is_here
      ∙ ap (λ m. Some (Once (record { block = m; left = length rest }))) z
  only_in was n (c ∷ more) (suc k) b before i rest none count e parts is =
      let some = one_counted b.place before i rest is in
      let counts : count_of b ≡ writes_among p x b.place (before ++ i ∷ rest) = ap (writes_among p x b.place) parts in
      let within = counted_at more k b e in
      let z : n + 1 + k ≡ n + suc k = omega arith in
      only_in (written_by p x was c.place n c.instructions) (n + 1) more k b before i rest (none_more n was c.place c.instructions (omega (arith, some, counts, within, count)) ∙ none) (omega (arith, some, counts, within, count)) e parts is
      ∙ ap (λ m. Some (Once (record { block = m; left = length rest }))) z

  -- Among blocks there is one.
  pub record HasOneIn (all : List Block) (n : ℕ) (s : Spot) : Type 0 where
    pub k : ℕ
    pub block : Block
    pub at : slice_get all k ≡ Some block
    pub number : s.block ≡ n + k
    pub one : HasOne block.place block.instructions s.left

  told_in : (s : Spot) (was : Option Written) (n : ℕ) (all : List Block) → was ≡ None → written_in p x was n all ≡ Some (Once s) → HasOneIn all n s × (total count_of all ≡ 1)
  told_in s was n [] none e = absurd (none-some (Once s) (sym none ∙ e))
  told_in s was n (b ∷ more) none e = elim (cases_eq (count_of b) 0) [
    | inl zeroes ↦ (let later = told_in s (written_by p x was b.place n b.instructions) (n + 1) more (none_more n was b.place b.instructions zeroes ∙ none) e in
        let number = later.0.number in
        (record { k = suc later.0.k; block = later.0.block; at = later.0.at; number = omega (arith, number); one = later.0.one }, omega (arith, zeroes, later.1)))
    | inr some ↦ elim (cases_eq (total count_of more) 0) [
      | inl zeroes ↦ (let here = told_one n s was b.place b.instructions none (sym (none_more_in (written_by p x was b.place n b.instructions) (n + 1) more zeroes) ∙ e) in
          let number = here.1 in
          (record { k = 0; block = b; at = refl; number = omega (arith, number); one = here.0 }, omega (arith, zeroes, here.2)))
      | inr others ↦ (let there = some_told n was b.place b.instructions none some in
          absurd (once_not_more (sym (many_in there.0 (written_by p x was b.place n b.instructions) (n + 1) more there.1 others) ∙ e)))
    ]
  ]

  -- what bindings tell
  bound_told : (entry : ℕ) (was : Option Written) (all : List Binding) → bound_by entry p x was all ≡ with_binding (p == entry && is_bound x all) was
  bound_told entry was [] = sym (if_false (p == entry && false) (Some More) was (and_false (p == entry)))
  bound_told entry was (ToObject object ∷ more) = bound_told entry was more
  bound_told entry was (ToScalar y ∷ more) = bound_told entry (with_binding (entry == p && y == x) was) more ∙ both (entry == p) (p == entry) (y == x) (is_bound x more) (same_way entry p)
    where
      both : (a c d e : Bool) → a ≡ c → with_binding (c && e) (with_binding (a && d) was) ≡ with_binding (c && (d || e)) was
      both true true true true q = refl
      both true true true false q = refl
      both true true false true q = refl
      both true true false false q = refl
      both false false d e q = refl
      both true false d e q = absurd (true≢false q)
      both false true d e q = absurd (true≢false (sym q))

module _ (g : Graph) where
  abbrev bound_at : (p x : ℕ) → Bool
  bound_at p x = p == g.entry && is_bound x g.parameters

  once_by : (p x : ℕ) (s : Spot) → written_in p x (bound_by g.entry p x None g.parameters) 0 g.blocks ≡ Some (Once s) → IsOnce g p x s.block s.left
  once_by p x s e = elim (cases_Bool (bound_at p x)) [
    | inl it ↦ (let now = bound_told p x g.entry None g.parameters ∙ if_true (bound_at p x) (Some More) None it in
        elim (cases_eq (total (count_of p x) g.blocks) 0) [
          | inl none ↦ absurd (once_not_more (sym now ∙ sym (none_more_in p x (bound_by g.entry p x None g.parameters) 0 g.blocks none) ∙ e))
          | inr some ↦ absurd (once_not_more (sym (many_in p x More (bound_by g.entry p x None g.parameters) 0 g.blocks now some) ∙ e))
        ])
    | inr other ↦ (let now = bound_told p x g.entry None g.parameters ∙ if_false (bound_at p x) (Some More) None other in
        let there = told_in p x s (bound_by g.entry p x None g.parameters) 0 g.blocks now e in
        let h = there.0 in
        let parts = and_parts (is_place p (place_behind h.one.before h.block.place)) (writes x h.one.instruction) h.one.is in
        let z : 0 + h.k ≡ h.k = omega arith in
        record {
          instruction = h.one.instruction;
          rest = h.one.rest;
          end = h.block.end;
          stands = record { block = h.block; before = h.one.before; is = ap (slice_get g.blocks) (h.number ∙ z) ∙ h.at; instructions = h.one.parts; ends = refl; place = placed p (place_behind h.one.before h.block.place) parts.0 };
          target = named x (target_of h.one.instruction) parts.1;
          behind = h.one.behind;
          once = counted_no (bound_at p x) (writes_in g p x) other ∙ there.1;
        })
  ]

  by_once : (p x : ℕ) (s : Spot) → IsOnce g p x s.block s.left → written_in p x (bound_by g.entry p x None g.parameters) 0 g.blocks ≡ Some (Once s)
  by_once p x s is =
      let st = is.stands in
      let one : IsOne p x (place_behind st.before st.block.place) is.instruction ≡ true = and_from (is_place p (place_behind st.before st.block.place)) (writes x is.instruction)
      (ap (is_place p) st.place ∙ eq-eqb p p refl) (ap (is_name x) is.target ∙ eq-eqb x x refl) in
      let some = one_counted p x st.block.place st.before is.instruction is.rest one in
      let counts : count_of p x st.block ≡ writes_among p x st.block.place (st.before ++ is.instruction ∷ is.rest) = ap (writes_among p x st.block.place) st.instructions in
      let within = counted_at p x g.blocks s.block st.block st.is in
      let z : 0 + s.block ≡ s.block = omega arith in
      elim (cases_Bool (bound_at p x)) [
        | inl it ↦ (let more = counted_yes (bound_at p x) (writes_in g p x) it in let once = is.once in absurd (omega (arith, more, once, some, counts, within)))
        | inr other ↦ (let now = bound_told p x g.entry None g.parameters ∙ if_false (bound_at p x) (Some More) None other in
            only_in p x (bound_by g.entry p x None g.parameters) 0 g.blocks s.block st.block st.before is.instruction is.rest now (sym (counted_no (bound_at p x) (writes_in g p x) other) ∙ is.once) st.is st.instructions one
            ∙ ap (λ m. Some (Once (record { block = m; left = length is.rest }))) z ∙ ap (λ m. Some (Once (record { block = s.block; left = m }))) is.behind)
      ]

  -- So it is told just where there is one.
  pub tells_once : (w : PlaceWrites) → ((p x : ℕ) → told w p x ≡ written_in p x (bound_by g.entry p x None g.parameters) 0 g.blocks) → Tells g w
  tells_once w e p x s = ((λ is. once_by p x s (sym (e p x) ∙ is)), (λ is. e p x ∙ by_once p x s is))
