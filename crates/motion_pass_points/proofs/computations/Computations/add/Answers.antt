use Rattle.std.proofs.Common.{◌≡◌, ℕ, Bool, true, false, cond, Some, [], ◌∷◌, ◌++◌, length, vec_len, map, sym, ap, ◌∙◌, subst, arith}
use Rattle.std.specs.Prelude.{is_some}
use Rattle.std.specs.BTreeMap.{get}
use Rattle.std.proofs.lemmas.List.{length-append, length-map, map-append}
use Rattle.motion_pass_points.specs.Computing.{key_of, same_key}
use Rattle.motion_pass_points.specs.MotionPointsComputing.{computation_view}
use Rattle.motion_pass_points.specs.Numbers.{Key, key_cmp, views_of, AreNumbersOf, AreOnce}
use Rattle.motion_pass_points.proofs.MotionPointsKeys.{key_equal}
use Rattle.motion_pass_points.proofs.Numbering.{once_again, once_more, numbers_more}
use Rattle.motion_pass_points.proofs.computations.Computations.add.Goals as goal

pub returns-then-contains_key-clause-once : goal.returns-then-contains_key-clause-once
returns-then-contains_key-clause-once c = λ list once.
    (let found : is_some (get key_cmp c.args.self.now.numbers (key_of (computation_view c.args.computation))) ≡ true
    = ap (λ k. is_some (get key_cmp c.args.self.now.numbers k)) (sym c.key-key.ensures) ∙ sym c.contains_key.ensures ∙ c.if-contains_key.true in
    once_again (views_of c.args.self.now) (get key_cmp c.args.self.now.numbers) c.requires.numbers (computation_view c.args.computation) found list once)

pub returns-clause-numbers : goal.returns-clause-numbers
returns-clause-numbers c =
    (let old = get key_cmp c.args.self.now.numbers in
    let e = computation_view c.args.computation in
    let none : is_some (old (key_of e)) ≡ false = ap (λ k. is_some (old k)) (sym c.key-key.ensures) ∙ sym c.contains_key.ensures ∙ c.if-contains_key.false in
    let count : vec_len c.args.self.now.all ≡ length c.args.self.now.all.items = omega arith in
    let number : c.len-number.result ≡ length (views_of c.args.self.now) = c.len-number.ensures ∙ count ∙ sym (length-map c.args.self.now.all.items computation_view) in
    let all : views_of c.args.self.now ++ e ∷ [] ≡ map computation_view c.push.new.self.items
    = sym (map-append computation_view c.args.self.now.all.items (c.args.computation ∷ [])) ∙ ap (map computation_view) (sym c.in_ok-push.ensures.items) in
    subst (λ xs. AreNumbersOf xs (get key_cmp c.insert.new.self)) all
    (numbers_more (views_of c.args.self.now) old c.requires.numbers e none (get key_cmp c.insert.new.self)
    (λ q. c.in_ok-insert.ensures.updates.0 q ∙ ap (λ b. cond b (Some c.len-number.result) (old q)) (key_equal c.key-key.result q ∙ ap (λ k. same_key k q) c.key-key.ensures)
    ∙ ap (λ n. cond (same_key (key_of e) q) (Some n) (old q)) number)))

pub returns-clause-once : goal.returns-clause-once
returns-clause-once c = λ list once.
    (let old = get key_cmp c.args.self.now.numbers in
    let e = computation_view c.args.computation in
    let none : is_some (old (key_of e)) ≡ false = ap (λ k. is_some (old k)) (sym c.key-key.ensures) ∙ sym c.contains_key.ensures ∙ c.if-contains_key.false in
    let all : views_of c.args.self.now ++ e ∷ [] ≡ map computation_view c.push.new.self.items
    = sym (map-append computation_view c.args.self.now.all.items (c.args.computation ∷ [])) ∙ ap (map computation_view) (sym c.in_ok-push.ensures.items) in
    subst (λ xs. AreOnce (list ++ e ∷ []) xs) all (once_more (views_of c.args.self.now) old c.requires.numbers e none list once))

pub returns-clause-count : goal.returns-clause-count
returns-clause-count c =
    let more = length-append c.args.self.now.all.items (c.args.computation ∷ []) in
    let grown = ap length c.in_ok-push.ensures.items in
    omega (arith, more, grown)
