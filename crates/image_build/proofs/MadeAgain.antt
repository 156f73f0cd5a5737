-- What an image is made of that was written and read back.
use Rattle.std.proofs.Common.{◌≡◌, ◌<◌, ◌^◌, ℕ, List, [], ◌∷◌, length, get_or, map, refl, sym, ap, subst, ◌∙◌, arith}
use Rattle.std.proofs.lemmas.List.{length-map}
use Rattle.c_tree.specs.Programs.{ProgramTree}
use Rattle.graph_homes.specs.Homed.{HomedForm}
use Rattle.rv_emit_tables.specs.Emitted.{EmittedForm}
use Rattle.image_form_drafts.specs.Same.{SaysTheSame}
use Rattle.image_form.specs.Decoding as decoding
use Rattle.image_form.specs.Form.{Form}
use Rattle.image_form.specs.Numbers.{row_numbers, storage_number, storage_value, variable_numbers}
use Rattle.image_form.specs.Rules.{IsImage}
use Rattle.image_form.specs.Spelling.{size}
use Rattle.image_form.specs.declared.variables.Storage.{Storage}
use Rattle.image_form.specs.declared.variables.Storage.TheVariants.{Static, Frame, Register, Slot}
use Rattle.image_form.specs.declared.variables.Variable.{Variable}
use Rattle.image_build_tables.specs.Spans.{span}
use Rattle.image_build_tables.specs.Storages.{storages_of}
use Rattle.image_build_tables.specs.Variables.{storage}
use Rattle.image_build_tables.specs.Places.{address}
use Rattle.image_build_tables.specs.Rows.{AreNodesOf, AreRowsOf, telling_of}
use Rattle.image_build_tables.proofs.Kept.{storages_length}
use Rattle.image_build.specs.Made.{IsMadeOfCode}
use Rattle.image_form_sections.specs.declared.version.Version.{Version}
use Rattle.image_build.proofs.RecordNumbers.{spans_same}
use Rattle.image_form.proofs.Counts.{few_records}
use Rattle.image_form_sections.specs.declared.section.Section.TheVariants.{Nodes}

storage_back : (s : Storage) → decoding.storage_of (storage_number s) (storage_value s) ≡ s
storage_back (Static address) = refl
storage_back (Frame offset) = refl
storage_back (Register number) = refl
storage_back (Slot offset) = refl

storage_by : List ℕ → Storage
storage_by numbers = decoding.storage_of (get_or numbers 4 0) (get_or numbers 5 0)

storages_by : (variables : List Variable) → map storage_by (map variable_numbers variables) ≡ map storage variables
unfolding storage_by
storages_by [] = refl
storages_by (v ∷ variables) = let first = storage_back v.storage in let rest = storages_by variables in (λ i. first i ∷ rest i)

-- variables of the same numbers are kept in the same storage
pub storages_same : (xs ys : List Variable) → map variable_numbers xs ≡ map variable_numbers ys → map storage xs ≡ map storage ys
storages_same xs ys e = sym (storages_by xs) ∙ ap (map storage_by) e ∙ storages_by ys

-- as many variables as it is said of where they are kept
pub kept_each : (h : HomedForm) (e : EmittedForm) (n : ℕ) (all : List Variable) → map storage all ≡ storages_of h e n → map storage all ≡ storages_of h e (length all)
kept_each h e n all are = are ∙ ap (storages_of h e) (sym (storages_length h e n) ∙ sym (ap length are) ∙ length-map all storage)

-- an image has few nodes
few_nodes : (m : Form) → size m < 2 ^ 32 → length m.nodes < 2 ^ 32
few_nodes m whole = few_records m whole Nodes

-- What tables are made of, that is an image made of that says the same.
pub made_again : (p : ProgramTree) (h : HomedForm) (tables image : Form) → IsImage image → SaysTheSame tables image → (length tables.nodes < 2 ^ 32 → IsMadeOfCode p h tables) → IsMadeOfCode p h image
made_again p h tables image is same made_if =
    let made = made_if (subst (λ nodes. length nodes < 2 ^ 32) same.nodes (few_nodes image is.sizes.whole)) in
    let rows = made.parts.rows in
    let as_many : length image.variables ≡ length tables.variables = sym (length-map image.variables variable_numbers) ∙ ap length same.variables ∙ length-map tables.variables variable_numbers in
    record {
      emitted = made.emitted;
      emits = made.emits;
      parts = record {
        version = same.version ∙ made.parts.version;
        mode = same.mode ∙ made.parts.mode;
        code = same.code ∙ made.parts.code;
        owners = same.owners ∙ made.parts.owners;
        initial = same.initial ∙ made.parts.initial;
        spans = spans_same tables.version.level image.functions tables.functions same.functions ∙ made.parts.spans;
        storages = storages_same image.variables tables.variables same.variables ∙ made.parts.storages ∙ ap (storages_of h made.emitted) (sym as_many);
        places = made.parts.places;
        places_are = made.parts.places_are;
        addresses = ap (map address) same.places ∙ made.parts.addresses;
        changes = same.changes ∙ made.parts.changes;
        flow = same.flow ∙ made.parts.flow;
        assigned = same.assigned ∙ made.parts.assigned;
        names = same.names ∙ made.parts.names;
        rows = record {
          told = rows.told;
          borne_out = rows.borne_out;
          rows = rows.rows;
          say = subst (λ nodes. AreRowsOf (telling_of h made.parts.places made.emitted) nodes rows.told rows.rows) (sym same.nodes) rows.say;
          needed = subst (λ nodes. AreNodesOf (telling_of h made.parts.places made.emitted) nodes rows.told) (sym same.nodes) rows.needed;
          same = subst (λ (v : Version). map (row_numbers v.level) image.rows ≡ map (row_numbers v.level) rows.rows) (sym same.version) (same.rows ∙ rows.same);
        };
        evident = made.parts.evident;
        quiet = made.parts.quiet;
      };
    }
