-- The objects of activations, one activation after the other.
use Rattle.std.proofs.Common.{◌≡◌, ◌≢◌, ℕ, suc, ◌+◌, ◌==◌, true, false, if◌then◌else◌, Some, None, List, sym, ap, ◌∙◌, arith}
use Rattle.std.proofs.lemmas.Bool.Decides.{nat_tests}
use Rattle.image_form.specs.Form.{Form}
use Rattle.image_form.specs.declared.variables.Variable.{Variable}
use Rattle.rv_machine.specs.State.{MachineState, word}
use Rattle.stop_engine_view.specs.declared.target.Target.{Target}
use Rattle.stop_engine_view.specs.Reading.{frame_of}
use Rattle.stop_engine_view.specs.Callers.{calling_place}
use Rattle.stop_engine_view.specs.Pointers.{function_of_place, local_target, target_or_else, stack_target}

-- the object is one of the activation
pub stack_found : (n : ℕ) (m : Form) (s : MachineState) (address place frame deep function : ℕ) (variables : List Variable) (t : Target) → variables ≡ m.variables → function ≡ function_of_place m place
    → Some t ≡ local_target address function frame deep 0 variables → Some t ≡ stack_target (suc n) m s address place frame deep
stack_found n m s address place frame deep function variables t vs f found =
    let here : local_target address (function_of_place m place) frame deep 0 m.variables ≡ Some t =
    sym (found ∙ ap (λ k. local_target address k frame deep 0 variables) f ∙ ap (λ (l : List Variable). local_target address (function_of_place m place) frame deep 0 l) vs) in
    sym (ap (λ o. target_or_else o (if calling_place m s frame == 0 then None else stack_target n m s address (calling_place m s frame) (word (frame + frame_of m place)) (word (deep + 4294967295)))) here)

none_here : (m : Form) (address place frame deep function : ℕ) (variables : List Variable) → variables ≡ m.variables → function ≡ function_of_place m place
    → None ≡ local_target address function frame deep 0 variables → local_target address (function_of_place m place) frame deep 0 m.variables ≡ None
none_here m address place frame deep function variables vs f found =
    sym (found ∙ ap (λ k. local_target address k frame deep 0 variables) f ∙ ap (λ (l : List Variable). local_target address (function_of_place m place) frame deep 0 l) vs)

-- no activation called the one that has none
pub stack_last : (n : ℕ) (m : Form) (s : MachineState) (address place frame deep function caller : ℕ) (variables : List Variable) → variables ≡ m.variables → function ≡ function_of_place m place
    → None ≡ local_target address function frame deep 0 variables → caller ≡ calling_place m s frame → caller ≡ 0 → stack_target (suc n) m s address place frame deep ≡ None
stack_last n m s address place frame deep function caller variables vs f found is none =
    let here = none_here m address place frame deep function variables vs f found in
    let test : (calling_place m s frame == 0) ≡ true = grind (arith, nat_tests, is, none) in
    ap (λ o. target_or_else o (if calling_place m s frame == 0 then None else stack_target n m s address (calling_place m s frame) (word (frame + frame_of m place)) (word (deep + 4294967295)))) here
    ∙ ap (λ b. if b then None else stack_target n m s address (calling_place m s frame) (word (frame + frame_of m place)) (word (deep + 4294967295))) test

-- the object is one of those that called it
pub stack_more : (n : ℕ) (m : Form) (s : MachineState) (address place frame deep function caller : ℕ) (variables : List Variable) → variables ≡ m.variables → function ≡ function_of_place m place
    → None ≡ local_target address function frame deep 0 variables → caller ≡ calling_place m s frame → caller ≢ 0
    → stack_target (suc n) m s address place frame deep ≡ stack_target n m s address caller (word (frame + frame_of m place)) (word (deep + 4294967295))
stack_more n m s address place frame deep function caller variables vs f found is some =
    let here = none_here m address place frame deep function variables vs f found in
    let test : (calling_place m s frame == 0) ≡ false = grind (arith, nat_tests, is, some) in
    ap (λ o. target_or_else o (if calling_place m s frame == 0 then None else stack_target n m s address (calling_place m s frame) (word (frame + frame_of m place)) (word (deep + 4294967295)))) here
    ∙ ap (λ b. if b then None else stack_target n m s address (calling_place m s frame) (word (frame + frame_of m place)) (word (deep + 4294967295))) test
    ∙ ap (λ k. stack_target n m s address k (word (frame + frame_of m place)) (word (deep + 4294967295))) (sym is)
