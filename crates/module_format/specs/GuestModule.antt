-- Modules made from their parts (System Programmer's Manual, "Memory module structure").
use Rattle.std.specs.Prelude.{ℕ, ◌<◌, ◌+◌, ◌-◌, ◌/◌, ◌%◌, ◌==◌, bit_xor, Bool, List, [], ◌∷◌, ◌++◌, length, fold, if◌then◌else◌}
use Rattle.os9_base.specs.Name.{marked_name}
use Rattle.proc_model.specs.CrcModel.{crc_of}
use Rattle.proc_model.specs.declared.module.ModuleInfo.{ModuleInfo}
use Rattle.module_format.specs.declared.maker.Header.{Header}

-- a type and language with type 1, a program
abbrev pub is_program_kind : ℕ → Bool
is_program_kind kind = kind / 16 == 1

-- the length of the header of such a module
abbrev pub kind_header_length : ℕ → ℕ
kind_header_length kind = if is_program_kind kind then 13 else 9

-- the place where the code begins: after the header and the name
abbrev pub code_offset : List ℕ → ℕ → ℕ
code_offset name kind = kind_header_length kind + length name

-- the whole size: the header, the name, the code and the three bytes of the CRC
abbrev pub guest_size : List ℕ → ℕ → List ℕ → ℕ
guest_size name kind code = code_offset name kind + length code + 3

-- a header's bytes before the parity: the sync bytes, the size, the name's offset, type and language, attributes and
-- revision
abbrev pub header_front : ℕ → ℕ → ℕ → List ℕ
header_front size kind attr =
    0x87 ∷ 0xCD ∷ size / 256 ∷ size % 256 ∷ 0 ∷ kind_header_length kind ∷ kind ∷ attr ∷ []

-- the byte that makes the exclusive or of the header's first nine bytes FF
abbrev pub parity_of : List ℕ → ℕ
parity_of front = 255 - fold bit_xor 0 front

-- a program's offset of execution and its storage size; other types have neither
abbrev pub program_fields : ℕ → ℕ → ℕ → List ℕ
program_fields kind entry storage =
    if is_program_kind kind then entry / 256 ∷ entry % 256 ∷ storage / 256 ∷ storage % 256 ∷ [] else []

-- the module up to its CRC
abbrev pub made_body : List ℕ → Header → List ℕ → List ℕ
made_body name h code =
    header_front (guest_size name h.kind code) h.kind h.attr
    ++ parity_of (header_front (guest_size name h.kind code) h.kind h.attr)
    ∷ (program_fields h.kind h.entry h.storage ++ (marked_name name ++ code))

-- the three bytes of a CRC
abbrev pub crc_bytes : ℕ → List ℕ
crc_bytes crc = crc / 65536 ∷ crc / 256 % 256 ∷ crc % 256 ∷ []

-- the module with this name, header and code
abbrev pub made_module : List ℕ → Header → List ℕ → List ℕ
made_module name h code = made_body name h code ++ crc_bytes (crc_of (made_body name h code))

-- what its header says; a type other than 1 has no offset of execution and no storage size
abbrev pub made_info : List ℕ → Header → List ℕ → ModuleInfo
made_info name h code = record {
  name = name;
  at = 0;
  size = guest_size name h.kind code;
  kind = h.kind;
  attr = h.attr;
  entry = if is_program_kind h.kind then h.entry else 0;
  storage = if is_program_kind h.kind then h.storage else 0;
}

-- a program begins before the CRC; another type of module has no beginning
abbrev pub BeginsWithin : List ℕ → Header → List ℕ → Type 0
BeginsWithin name h code = (if is_program_kind h.kind then h.entry else 0) < code_offset name h.kind + length code

-- ---- modules that begin at their code

abbrev pub at_code : List ℕ → ℕ → ℕ → ℕ → Header
at_code name kind attr storage =
    record { kind = kind; attr = attr; entry = code_offset name kind; storage = storage }

-- the module with this name, type and language, attributes and revision, storage size and code
abbrev pub guest_module : List ℕ → ℕ → ℕ → ℕ → List ℕ → List ℕ
guest_module name kind attr storage code = made_module name (at_code name kind attr storage) code

abbrev pub guest_info : List ℕ → ℕ → ℕ → ℕ → List ℕ → ModuleInfo
guest_info name kind attr storage code = made_info name (at_code name kind attr storage) code
