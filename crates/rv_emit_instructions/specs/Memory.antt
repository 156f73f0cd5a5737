-- The code of loads, stores and addresses. Registers 2, 3 and 5 to 7 are sp, gp and t0 to t2.
use Rattle.std.specs.Prelude.{ℕ, ◌+◌, ◌*◌, ◌%◌, nat_lt, if◌then◌else◌, List, [], ◌∷◌, ◌++◌}
use Rattle.word_base.specs.Arithmetic.{subtracted}
use Rattle.rv_code.specs.declared.instruction.Instruction.{Instruction}
use Rattle.rv_code.specs.declared.instruction.Instruction.TheVariants as instruction
use Rattle.rv_code.specs.declared.instruction.LoadOperation.{LoadOperation}
use Rattle.rv_code.specs.declared.instruction.LoadOperation.TheVariants.{Lb, Lh, Lw, Lbu, Lhu}
use Rattle.rv_code.specs.declared.instruction.StoreOperation.{StoreOperation}
use Rattle.rv_code.specs.declared.instruction.StoreOperation.TheVariants.{Sb, Sh, Sw}
use Rattle.rv_code.specs.declared.instruction.RegisterOperation.TheVariants as on
use Rattle.graph_core.specs.declared.instruction.Element.{Element}
use Rattle.graph_core.specs.declared.instruction.Element.TheVariants as element
use Rattle.graph_core.specs.Graphs.{Location, Automatic, Static, At}
use Rattle.graph_homes.specs.declared.home.Home.{Home}
use Rattle.rv_emit_words.specs.declared.piece.Held.{Held}
use Rattle.rv_emit_storage.specs.declared.storage.Source.{Source}
use Rattle.rv_emit_storage.specs.declared.storage.Source.TheVariants.{Home as OfHome, Word}
use Rattle.rv_emit_storage.specs.Storages.{StorageForm, object_at, static_object_at, source_of}
use Rattle.rv_emit_words.specs.Constants.{is_small, low_part, high_part, constant_register, fetched_constant}
use Rattle.rv_emit_words.specs.Operands.{home_register, fetched_home, source_register, fetched_source, result_register, finishing, address_code}

-- The load and the store of an element.
abbrev pub load_operation : Element → LoadOperation
load_operation element.Unsigned8 = Lbu
load_operation element.Signed8 = Lb
load_operation element.Unsigned16 = Lhu
load_operation element.Signed16 = Lh
load_operation element.Word = Lw

-- the instruction that stores an element
abbrev pub store_operation : Element → StoreOperation
store_operation element.Unsigned8 = Sb
store_operation element.Signed8 = Sb
store_operation element.Unsigned16 = Sh
store_operation element.Signed16 = Sh
store_operation element.Word = Sw

-- How memory is reached: the words that it takes, the register to start from and the offset from what that holds.
pub record Reach : Type 0 where
  pub code : List Instruction
  pub base : ℕ
  pub offset : ℕ

-- An address that is known is reached from gp where that is near, and else from its upper part.
abbrev pub upper_of : (address : ℕ) → ℕ
upper_of address = high_part address * 4096 % 4294967296

-- how a static object is reached: from the register gp where it lies near, else by its upper bits in a register
abbrev pub static_reach : StorageForm → List Held → (address : ℕ) → Reach
static_reach g held address =
    if is_small (subtracted address g.base) then (record { code = []; base = 3; offset = subtracted address g.base })
    else (record {
      code = fetched_constant (upper_of address) g.base 7 held;
      base = constant_register (upper_of address) g.base 7 held;
      offset = low_part address;
    })

-- A byte of the frame is reached from sp where it is near, and else from t2.
abbrev pub frame_reach : (offset : ℕ) → Reach
frame_reach offset =
    if nat_lt offset 2048 then (record { code = []; base = 2; offset = offset })
    else (record {
      code = instruction.Lui 7 (high_part offset) ∷ instruction.Register on.Add 7 7 2 ∷ [];
      base = 7;
      offset = low_part offset;
    })

-- Where a value points is reached from the register in which it is found.
abbrev pub pointer_reach : StorageForm → List Held → Source → Reach
pointer_reach g held (Word address) = static_reach g held address
pointer_reach g held (OfHome home) = record { code = fetched_home g home 7; base = home_register home 7; offset = 0 }

-- A location is reached as what it is.
abbrev pub reach_of : StorageForm → List Held → Location → Reach
reach_of g held (Automatic object offset) = frame_reach ((object_at g object + offset) % 4294967296)
reach_of g held (Static object) = static_reach g held (static_object_at g object)
reach_of g held (At a) = pointer_reach g held (source_of g a)

-- The target becomes the element that is reached.
abbrev pub loading : StorageForm → (target : Home) → Element → Reach → List Instruction
loading g target e reach =
    reach.code ++ instruction.Load (load_operation e) (result_register target) reach.base reach.offset
    ∷ finishing g target (result_register target)

-- the code that loads an element into a home
abbrev pub load_code : StorageForm → List Held → (target : Home) → Element → Location → List Instruction
load_code g held target e location = loading g target e (reach_of g held location)

-- The element that is reached becomes what a register holds.
abbrev pub storing : Element → Reach → (register : ℕ) → List Instruction
storing e reach r = reach.code ++ instruction.Store (store_operation e) r reach.base reach.offset ∷ []

-- The element at a location becomes an operand.
abbrev pub store_code : StorageForm → List Held → Element → Location → Source → List Instruction
store_code g held e location value =
    fetched_source g held value 6 ++ storing e (reach_of g held location) (source_register g held value 6)

-- The target becomes the address of an automatic object.
abbrev pub object_address_code : StorageForm → (target : Home) → (object : ℕ) → List Instruction
object_address_code g target object =
    address_code (result_register target) 7 (object_at g object) ++ finishing g target (result_register target)
