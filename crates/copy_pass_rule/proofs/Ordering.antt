-- Blocks are put into order, each behind one that leads to it.
use Rattle.std.proofs.Common.{◌≡◌, ◌≢◌, ℕ, zero, suc, ◌+◌, ◌-◌, ◌<◌, ◌≤◌, ◌⊎◌, inl, inr, Bool, true, false, true≢false, Option, Some, None, List, [], ◌∷◌, ◌++◌, length, replicate, refl, sym, ap, ◌∙◌, subst, arith, length-append}
use Rattle.std.specs.Prelude.{slice_get, slice_set}
use Rattle.std.proofs.lemmas.Bool.{cases_lt}
use Rattle.std.proofs.lemmas.List.{length-set}
use Rattle.std.proofs.lemmas.Option.{slice_get_within, same_Some, none-some}
use Rattle.base_laws.proofs.Lists.{get_set, set_elsewhere, set_here, snoc_new, snoc_old, there_is}
use Rattle.graph_core.specs.Graphs.{Block}
use Rattle.graph_core.specs.Uses.{targets_of}
use Rattle.graph_core.specs.Paths.{Among, front, behind}
use Rattle.copy_pass_rule.specs.Order.{IsLedEarlier, IsInOrder, IsAdded, stood, put, AreAdded, none, more}
use Rattle.copy_pass_rule.proofs.Found.{snoc_cases}

-- how many blocks do not stand yet
abbrev pub left_out : List Bool → ℕ
left_out [] = 0
left_out (true ∷ has) = left_out has
left_out (false ∷ has) = 1 + left_out has

-- one less where one is put
pub left_out_put : (has : List Bool) (label : ℕ) → slice_get has label ≡ Some false → left_out (slice_set has label true) + 1 ≡ left_out has
left_out_put [] label at = absurd (none-some false at)
left_out_put (true ∷ has) zero at = absurd (true≢false (same_Some true false at))
left_out_put (false ∷ has) zero at = omega arith
left_out_put (true ∷ has) (suc label) at = left_out_put has label at
left_out_put (false ∷ has) (suc label) at = (let e = left_out_put has label at in omega (arith, e))

-- what stands and what does not are as many as before
pub as_many : {label : ℕ} {order new : List ℕ} {has new_has : List Bool} → IsAdded label order has new new_has → left_out new_has + length new ≡ left_out has + length order
as_many (stood is) = refl
as_many {label} {order} {new} {has} {new_has} (put at) =
    (let one = left_out_put has label at in let long : length (order ++ label ∷ []) ≡ length order + 1 = length-append order (label ∷ []) in omega (arith, one, long))

pub as_many_all : {labels order new : List ℕ} {has new_has : List Bool} → AreAdded labels order has new new_has → left_out new_has + length new ≡ left_out has + length order
as_many_all none = refl
as_many_all (more one rest) = (let a = as_many one in let b = as_many_all rest in omega (arith, a, b))

module _ (blocks : List Block) where
  -- The blocks that stand are told, each stands once, and each but the first behind one that leads to it.
  pub record AreOrdered (order : List ℕ) (has : List Bool) : Type 0 where
    pub count : length has ≡ length blocks
    pub first : slice_get order 0 ≡ Some 0
    pub told : (n : ℕ) → slice_get has n ≡ Some true → (k : ℕ) × (slice_get order k ≡ Some n)
    pub here : (k n : ℕ) → slice_get order k ≡ Some n → slice_get has n ≡ Some true
    pub once : (j k n : ℕ) → slice_get order j ≡ Some n → slice_get order k ≡ Some n → j ≡ k
    pub led : (k n : ℕ) → slice_get order k ≡ Some n → 0 < k → IsLedEarlier blocks order k n

  only_false : (n k : ℕ) → slice_get (replicate n false) k ≡ Some true → ⊥
  only_false zero k e = none-some true e
  only_false (suc n) zero e = true≢false (sym (same_Some false true e))
  only_false (suc n) (suc k) e = only_false n k e

  as_long : (n : ℕ) → length (replicate n false) ≡ n
  as_long zero = refl
  as_long (suc n) = ap suc (as_long n)

  -- the first block is put
  pub begun : {order : List ℕ} {has : List Bool} (n : ℕ) → IsAdded 0 [] (replicate n false) order has → n ≡ length blocks → 0 < n → AreOrdered order has
  begun n (stood is) many lt = absurd (only_false n 0 (is (let long = as_long n in omega (arith, long, lt))))
  begun n (put at) many lt = record {
    count = length-set (replicate n false) 0 true ∙ as_long n ∙ many;
    first = refl;
    told = λ k e. elim (get_set (replicate n false) 0 k true true e) [ inl f ↦ (0, ap Some (sym f.0)) | inr f ↦ absurd (only_false n k f.1) ];
    here = λ k l e. (let one = only_zero k l e in subst (λ m. slice_get (slice_set (replicate n false) 0 true) m ≡ Some true) one.1 (set_here (replicate n false) 0 false true at));
    once = λ j k l one two. (only_zero j l one).0 ∙ sym (only_zero k l two).0;
    led = λ k l e more. (let q = (only_zero k l e).0 in absurd (omega (arith, q, more)));
  }
    where
      only_zero : (k l : ℕ) → slice_get (0 ∷ []) k ≡ Some l → (k ≡ 0) × (0 ≡ l)
      only_zero zero l e = (refl, same_Some 0 l e)
      only_zero (suc k) l e = absurd (none-some l e)

  led_still : (order : List ℕ) (label k n : ℕ) → IsLedEarlier blocks order k n → IsLedEarlier blocks (order ++ label ∷ []) k n
  led_still order label k n e = record { turn = e.turn; number = e.number; block = e.block; earlier = e.earlier; stands = snoc_old order (label ∷ []) e.turn e.number e.stands; is = e.is; leads = e.leads }

  -- one more that a block of the order leads to
  pub add_one : {label : ℕ} {order new : List ℕ} {has new_has : List Bool} → IsAdded label order has new new_has → AreOrdered order has → (turn number : ℕ) (b : Block) → slice_get order turn ≡ Some number → slice_get blocks number ≡ Some b → Among label (targets_of b.end)
      → AreOrdered new new_has
  add_one (stood is) are turn number b stands at among = are
  add_one {label} {order} {new} {has} {new_has} (put at) are turn number b stands is among = record {
    count = length-set has label true ∙ are.count;
    first = snoc_old order (label ∷ []) 0 0 are.first;
    told = λ n e. elim (get_set has label n true true e) [
      | inl f ↦ (length order, subst (λ m. slice_get (order ++ label ∷ []) (length order) ≡ Some m) (sym f.0) (snoc_new order label))
      | inr f ↦ (let k = are.told n f.1 in (k.0, snoc_old order (label ∷ []) k.0 n k.1))
    ];
    here = λ k n e. elim (snoc_cases order label n k e) [
      | inl old ↦ set_elsewhere has label n true (apart k n old) ∙ are.here k n old
      | inr last ↦ subst (λ m. slice_get (slice_set has label true) m ≡ Some true) last.1 (set_here has label false true at)
    ];
    once = λ j k n one two. elim (snoc_cases order label n j one) [
      | inl old ↦ elim (snoc_cases order label n k two) [
        | inl older ↦ are.once j k n old older
        | inr last ↦ absurd (apart j n old (sym last.1))
      ]
      | inr last ↦ elim (snoc_cases order label n k two) [
        | inl old ↦ absurd (apart k n old (sym last.1))
        | inr later ↦ last.0 ∙ sym later.0
      ]
    ];
    led = λ k n e lt. elim (snoc_cases order label n k e) [
      | inl old ↦ led_still order label k n (are.led k n old lt)
      | inr last ↦ record {
        turn = turn;
        number = number;
        block = b;
        earlier = (let within = slice_get_within order turn number stands in let q = last.0 in omega (arith, within, q));
        stands = snoc_old order (label ∷ []) turn number stands;
        is = is;
        leads = subst (λ m. Among m (targets_of b.end)) last.1 among;
      }
    ];
  }
    where
      apart : (k n : ℕ) → slice_get order k ≡ Some n → n ≡ label → ⊥
      apart k n old q = true≢false (same_Some true false (sym (are.here k n old) ∙ ap (slice_get has) q ∙ at))

  -- what stands goes on standing
  pub stands_on : {label : ℕ} {order new : List ℕ} {has new_has : List Bool} → IsAdded label order has new new_has → (k n : ℕ) → slice_get order k ≡ Some n → slice_get new k ≡ Some n
  stands_on (stood is) k n e = e
  stands_on {label} {order} {new} {has} {new_has} (put at) k n e = snoc_old order (label ∷ []) k n e

  pub told_on : {label : ℕ} {order new : List ℕ} {has new_has : List Bool} → IsAdded label order has new new_has → (n : ℕ) → slice_get has n ≡ Some true → slice_get new_has n ≡ Some true
  told_on (stood is) n e = e
  told_on {label} {order} {new} {has} {new_has} (put at) n e = set_elsewhere has label n true (λ q. true≢false (same_Some true false (sym e ∙ ap (slice_get has) q ∙ at))) ∙ e

  pub told_new : {label : ℕ} {order new : List ℕ} {has new_has : List Bool} → IsAdded label order has new new_has → label < length has → slice_get new_has label ≡ Some true
  told_new (stood is) lt = is lt
  told_new {label} {order} {new} {has} {new_has} (put at) lt = set_here has label false true at

  same_count : {label : ℕ} {order new : List ℕ} {has new_has : List Bool} → IsAdded label order has new new_has → length new_has ≡ length has
  same_count (stood is) = refl
  same_count {label} {order} {new} {has} {new_has} (put at) = length-set has label true

  -- several
  pub record AreMore (labels order new : List ℕ) (has new_has : List Bool) : Type 0 where
    pub are : AreOrdered new new_has
    pub stands : (k n : ℕ) → slice_get order k ≡ Some n → slice_get new k ≡ Some n
    pub tells : (n : ℕ) → slice_get has n ≡ Some true → slice_get new_has n ≡ Some true
    pub all : (l : ℕ) → Among l labels → l < length has → slice_get new_has l ≡ Some true

  pub add_all : {labels order new : List ℕ} {has new_has : List Bool} → AreAdded labels order has new new_has → AreOrdered order has → (turn number : ℕ) (b : Block) → slice_get order turn ≡ Some number → slice_get blocks number ≡ Some b
      → ((l : ℕ) → Among l labels → Among l (targets_of b.end)) → AreMore labels order new has new_has
  add_all none are turn number b stands is among = record { are = are; stands = λ k n e. e; tells = λ n e. e; all = λ l in_none lt. elim in_none [ ] }
  add_all {new_has} (more {label} {labels} {order} {mid} {new} {has} {mid_has} one rest) are turn number b stands is among =
      let next = add_all rest (add_one one are turn number b stands is (among label front)) turn number b (stands_on one turn number stands) is (λ l later. among l (behind later)) in
      record {
        are = next.are;
        stands = λ k n e. next.stands k n (stands_on one k n e);
        tells = λ n e. next.tells n (told_on one n e);
        all = λ l at lt. each next l at lt;
      }
    where
      each : AreMore labels mid new mid_has new_has → (l : ℕ) → Among l (label ∷ labels) → l < length has → slice_get new_has l ≡ Some true
      each next l front lt = next.tells label (told_new one lt)
      each next l (behind later) lt = next.all l later (let e = same_count one in omega (arith, lt, e))

  -- Where the first so many blocks lead stands too.
  abbrev pub IsClosedTo : (turn : ℕ) → List ℕ → List Bool → Type 0
  IsClosedTo turn order has = (k n l : ℕ) (b : Block) → k < turn → slice_get order k ≡ Some n → slice_get blocks n ≡ Some b → Among l (targets_of b.end) → l < length blocks → slice_get has l ≡ Some true

  -- The blocks to which the next one leads are put.
  pub record IsOneMore (turn : ℕ) (order new : List ℕ) (has new_has : List Bool) : Type 0 where
    pub are : AreOrdered new new_has
    pub closed : IsClosedTo (turn + 1) new new_has
    pub fewer : left_out new_has + (length new - (turn + 1)) < left_out has + (length order - turn)

  pub one_more : {order new : List ℕ} {has new_has : List Bool} (turn number : ℕ) (b : Block) → AreOrdered order has → IsClosedTo turn order has → turn < length order → slice_get order turn ≡ Some number → slice_get blocks number ≡ Some b
      → AreAdded (targets_of b.end) order has new new_has → IsOneMore turn order new has new_has
  one_more {order} {new} {has} {new_has} turn number b are closed lt stands is added =
      let grown = add_all added are turn number b stands is (λ l among. among) in
      let many = as_many_all added in
      let inside = slice_get_within new turn number (grown.stands turn number stands) in
      record {
        are = grown.are;
        closed = λ k n l d less at there among within. elim (cases_lt k turn) [
          | inl old ↦ earlier grown k n l d old at there among within
          | inr last ↦ now grown k n l d (omega (arith, less, last)) at there among within
        ];
        fewer = omega (arith, many, inside, lt);
      }
    where
      earlier : AreMore (targets_of b.end) order new has new_has → (k n l : ℕ) (d : Block) → k < turn → slice_get new k ≡ Some n → slice_get blocks n ≡ Some d → Among l (targets_of d.end) → l < length blocks → slice_get new_has l ≡ Some true
      earlier grown k n l d old at there among within =
          let stood = there_is order k (omega (arith, old, lt)) in
          let same : stood.0 ≡ n = same_Some stood.0 n (sym (grown.stands k stood.0 stood.1) ∙ at) in
          grown.tells l (closed k n l d old (stood.1 ∙ ap Some same) there among within)

      now : AreMore (targets_of b.end) order new has new_has → (k n l : ℕ) (d : Block) → k ≡ turn → slice_get new k ≡ Some n → slice_get blocks n ≡ Some d → Among l (targets_of d.end) → l < length blocks → slice_get new_has l ≡ Some true
      now grown k n l d q at there among within =
          let same : number ≡ n = same_Some number n (sym (grown.stands turn number stands) ∙ ap (slice_get new) (sym q) ∙ at) in
          let one : b ≡ d = same_Some b d (sym is ∙ ap (slice_get blocks) same ∙ there) in
          let many = are.count in
          grown.all l (subst (λ (e : Block). Among l (targets_of e.end)) (sym one) among) (omega (arith, within, many))

  pub in_order : (order : List ℕ) (has : List Bool) (turn : ℕ) → AreOrdered order has → IsClosedTo turn order has → length order ≤ turn → IsInOrder blocks order
  in_order order has turn are closed done = record {
    first = are.first;
    within = λ k n at. (let lt = slice_get_within has n true (are.here k n at) in let long = are.count in omega (arith, lt, long));
    behind = are.led;
    once = are.once;
    closed = λ k n l b at is among lt. are.told l (closed k n l b (let inside = slice_get_within order k n at in omega (arith, inside, done)) at is among lt);
  }
