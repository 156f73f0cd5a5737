-- Quiet paths of a unit are quiet in the words of its code: where a word of a place writes a home, code of the place does.
use Rattle.std.proofs.Common.{◌≡◌, ℕ, ◌⊎◌, true, inl, inr, Some, length, slice_get, refl}
use Rattle.places.specs.declared.flow.FlowTable.{FlowTable}
use Rattle.places.specs.Flow.{assigns}
use Rattle.graph_core.specs.Graphs.{Graph}
use Rattle.graph_core.specs.Validity.{IsGraph, IsValid}
use Rattle.graph_core.specs.WellMarked.{IsVariable}
use Rattle.graph_core.proofs.Among.{at_among}
use Rattle.graph_homes.specs.Homed.{HomedForm, home_of}
use Rattle.rv_emit_tables.specs.Emitted.{EmittedForm}
use Rattle.rv_emit_runs.specs.Laid.{Arrangement}
use Rattle.rv_emit_runs.specs.Writing.{WritesIn, WritesNothingElse, binding, instruction}
use Rattle.rv_emit_runs.proofs.Lists.{all_at}
use Rattle.currency_writers.specs.declared.writers.Writer.TheVariants as writer
use Rattle.currency_writers.specs.Writers.{instruction as stands, parameter as bound}
use Rattle.currency_hiding.specs.Quiet.{GoesBy, IsDisturbed, IsQuiet, IsWritten, at_once, on}
use Rattle.image_build.specs.Evidence.{IsQuietIn, OwnsWriter}
use Rattle.image_build.proofs.Words.{home_shared, scalar_named}

-- ---- Where a function writes a home, code of its graph does

written_so : (h : HomedForm) (f : ℕ) (g : Graph) (flow : FlowTable) (x variable place : ℕ) → WritesIn h f g place (home_of h f x) → IsWritten h.unit.log flow (home_of h f) f g x variable place
written_so h f g flow x variable place (instruction l y b i before behind there parts at target home) = record {
  y = y;
  w = writer.Instruction f l (length before);
  writes = stands (record { block = b; before = before; is = there; instructions = parts; ends = refl; place = at }) target;
  shared = home_shared (home_of h f y) (home_of h f x) home;
}
written_so h f g flow x variable place (binding k y entry at home) = record {
  y = y;
  w = writer.Binding f k;
  writes = bound entry at;
  shared = home_shared (home_of h f y) (home_of h f x) home;
}

-- ---- Paths

-- A path past more places is one past fewer.
pub goes_past : (flow : FlowTable) (IsMore IsLess : ℕ → Type 0) → ((p : ℕ) → IsLess p → IsMore p) → (start stop : ℕ) → GoesBy flow IsMore start stop → GoesBy flow IsLess start stop
goes_past flow IsMore IsLess more start _ (at_once can) = at_once can
goes_past flow IsMore IsLess more start _ (on {p = p} way free can) = on (goes_past flow IsMore IsLess more start p way) (λ there. free (more p there)) can

module _ (h : HomedForm) (valid : IsValid h.unit) (a : Arrangement) (e : EmittedForm) (nothing : WritesNothingElse h a e) (f : ℕ) (g : Graph) (is : slice_get h.unit.graphs f ≡ Some g) (flow : FlowTable) (x variable : ℕ) (of : IsVariable g x variable) where
  -- Where a word of a place writes the home of a scalar, it is written there.
  owned_written : (place : ℕ) → OwnsWriter h a e f place (home_of h f x) → IsWritten h.unit.log flow (home_of h f) f g x variable place
  owned_written place owns =
      let graph : IsGraph h.unit g = all_at (IsGraph h.unit) h.unit.graphs f g valid.graphs is in
      written_so h f g flow x variable place (nothing f g owns.code is owns.is owns.index owns.first owns.end place owns.owner owns.some x (scalar_named h g graph x variable of) owns.writes)

  -- What disturbs a scalar in the words of code disturbs it.
  disturbed_so : (place : ℕ) → (assigns flow.assignments.items place variable ≡ true) ⊎ OwnsWriter h a e f place (home_of h f x) → IsDisturbed h.unit.log flow (home_of h f) f g x variable place
  disturbed_so place (inl assigned) = inl assigned
  disturbed_so place (inr owns) = inr (owned_written place owns)

  -- A QUIET PATH is one in the words of code.
  pub quiet_words : (start stop : ℕ) → IsQuiet h.unit.log flow (home_of h f) f g x variable start stop → IsQuietIn h a e flow variable stop start
  quiet_words start stop quiet = record {
    scalar = record { f = f; graph = g; x = x; is = is; of = of };
    assigned = quiet.begins.assigned;
    stays = λ number removal. quiet.begins.stays (record { change = removal.change; logged = at_among h.unit.log _ removal.change removal.is.is; taken = removal.taken; at = removal.at; of = removal.of });
    path = goes_past flow (IsDisturbed h.unit.log flow (home_of h f) f g x variable) (λ p. (assigns flow.assignments.items p variable ≡ true) ⊎ OwnsWriter h a e f p (home_of h f x)) disturbed_so start stop quiet.path;
  }
