-- Parts of the code that stand apart are together no more than the code.
use Rattle.std.proofs.Common.{◌≢◌, ℕ, ◌+◌, ◌<◌, ◌≤◌, inl, inr, ⊎_elim, arith, length, ◌≡◌, subst, false, List, []}
use Rattle.graph_core_weights.proofs.Apart.{AreApart, apart_between}
use Rattle.graph_homes.specs.Homed.{HomedForm}
use Rattle.memory_map.specs.Maps.{stub_words}
use Rattle.rv_emit_tables.specs.Emitted.{EmittedForm}
use Rattle.rv_emit_code.specs.Blocks.{no_code}
use Rattle.rv_emit_code.specs.Leaving.{leaving_code}
use Rattle.rv_emit_runs.specs.Placed.{PlacedAt}
use Rattle.rv_emit_runs.specs.Waiting.{FunctionCode}
use Rattle.rv_emit_runs.proofs.Grown.{leaving_appends}
use Rattle.rv_emit_runs.proofs.Placed.{words_alone}
use Rattle.rv_emit_runs.specs.Laid.{code_of, IsFunctionAt, IsCode}
use Rattle.rv_emit_runs.proofs.Rest.{program_in, codes_in, places_in}
use Rattle.rv_emit_runs.specs.Room.{words_of_function, HasRoom, StandApart}

module _ (h : HomedForm) (e : EmittedForm) (code : IsCode h e) (parts : StandApart h e code) where
  -- A function has no more words than it lies in.
  function_fits : (f : ℕ) → f < length h.unit.graphs → code.arrangement.function f + words_of_function h code.arrangement parts.words f ≤ parts.behind f
  function_fits f low =
      let n : ℕ = length (code_of h code.arrangement f).graph.blocks in
      let begins = parts.begins f low in
      let ends = parts.ends f low in
      let blocks = apart_between (code.arrangement.label f) (parts.words f) n (code.arrangement.label f 0) (code.arrangement.label f n) ends.0 (λ l lt. (parts.inside f l low lt).0) (λ l lt. (parts.inside f l low lt).1) (λ i j a b other. parts.apart f i j low a b other) in
      omega (arith, begins.1, ends.1, blocks)

  functions_apart : (f g : ℕ) → f < length h.unit.graphs → g < length h.unit.graphs → f ≢ g → AreApart code.arrangement.function (words_of_function h code.arrangement parts.words) f g
  functions_apart f g a b other =
      let one = function_fits f a in
      let two = function_fits g b in
      ⊎_elim (λ (x : parts.behind f ≤ code.arrangement.function g). inl (omega (arith, x, one))) (λ (x : parts.behind g ≤ code.arrangement.function f). inr (omega (arith, x, two))) (parts.functions f g a b other)

  pub apart_has_room : HasRoom h e code
  apart_has_room = record {
    words = parts.words;
    blocks = parts.blocks;
    all = apart_between code.arrangement.function (words_of_function h code.arrangement parts.words) (length h.unit.graphs) (stub_words e.map) (length e.code) parts.stub (λ f low. (parts.begins f low).0)
        (λ f low. let one = function_fits f low in let most = parts.all f low in omega (arith, one, most)) functions_apart;
  }

-- The code of a function ends behind the words of its end.
pub end_length : (h : HomedForm) (e : EmittedForm) (code : IsCode h e) (f : ℕ) (low : f < length h.unit.graphs)
    → (code.functions f low).behind ≡ code.arrangement.label f (length (code_of h code.arrangement f).graph.blocks) + length (leaving_code (code_of h code.arrangement f).saved (code_of h code.arrangement f).size)
end_length h e code f low =
    let c : FunctionCode = codes_in h e code f in
    let at : IsFunctionAt h code.arrangement (program_in h e code) (places_in h e code f) f = code.functions f low in
    let end : ℕ = code.arrangement.label f (length c.graph.blocks) in
    let more = leaving_appends c.saved c.size (no_code 0 []) in
    (words_alone (program_in h e code) (places_in h e code f) end false (leaving_code c.saved c.size) at.behind
    (more.there (program_in h e code) (places_in h e code f) end at.behind (subst (λ l. PlacedAt (program_in h e code) (places_in h e code f) end l at.behind) more.is at.ends))).1
