-- Modules (System Programmer's Manual, "Memory module structure"; the table of the header's fields).
use Rattle.std.specs.Prelude.{◌≡◌, ℕ, ◌+◌, ◌-◌, ◌/◌, ◌==◌, ◌&&◌, not, nat_lt, nat_le, bit_xor, Bool, Option, Some, None, is_some, unwrap_or, List, [], length, take, drop, slice_index, slice_range, fold, if◌then◌else◌}
use Rattle.std.specs.List.{position_or_len}
use Rattle.std.specs.Option.{option_map_or}
use Rattle.byteorder.specs.Endian.{big_number}
use Rattle.os9_base.specs.Name.{stored_name}
use Rattle.proc_model.specs.CrcModel.{crc_of}
use Rattle.proc_model.specs.declared.module.ModuleFault.{ModuleFault}
use Rattle.proc_model.specs.declared.module.ModuleFault.TheVariants.{BadSync, BadParity, BadCrc}
use Rattle.proc_model.specs.declared.module.ModuleInfo.{ModuleInfo}
use Rattle.proc_model.specs.declared.module.ModuleStep.{ModuleStep}
use Rattle.proc_model.specs.declared.module.ModuleStep.TheVariants.{Module, End, Fault}

-- the word at a place, high byte first
abbrev pub header_word : List ℕ → ℕ → ℕ
header_word bytes at = big_number 2 (drop at bytes)

-- the whole size, CRC included
abbrev pub module_size : List ℕ → ℕ
module_size bytes = header_word bytes 2

-- where the name begins
abbrev pub name_offset : List ℕ → ℕ
name_offset bytes = header_word bytes 4

-- the type (high half) and the language (low half)
abbrev pub module_kind : List ℕ → ℕ
module_kind bytes = slice_index bytes 6

-- the attributes (high half) and the revision (low half)
abbrev pub module_attributes : List ℕ → ℕ
module_attributes bytes = slice_index bytes 7

-- the type is 1, a program: only such a module has an execution offset and a storage size
abbrev pub is_program : List ℕ → Bool
is_program bytes = module_kind bytes / 16 == 1

-- the length of the header
abbrev pub header_length : List ℕ → ℕ
header_length bytes = if is_program bytes then 13 else 9

-- the word at a place of a program's header; 0 for another type
abbrev pub program_word : List ℕ → ℕ → ℕ
program_word bytes at = if is_program bytes then header_word bytes at else 0

-- where the program begins; 0 for another type
abbrev pub module_entry : List ℕ → ℕ
module_entry bytes = program_word bytes 9

-- the number of bytes of data memory that the program needs; 0 for another type
abbrev pub module_storage : List ℕ → ℕ
module_storage bytes = program_word bytes 11

-- where the CRC begins
abbrev pub crc_offset : List ℕ → ℕ
crc_offset bytes = module_size bytes - 3

-- the name, if there is one between the name's offset and the CRC
abbrev pub module_name : List ℕ → Option (List ℕ)
module_name bytes = stored_name (slice_range bytes (name_offset bytes) (crc_offset bytes))

-- the sync bytes
abbrev pub has_sync : List ℕ → Bool
has_sync bytes = header_word bytes 0 == 0x87CD

-- the module has room for its header, a name of one character and the CRC, and lies within the bytes
abbrev pub has_size : List ℕ → Bool
has_size bytes = nat_le (header_length bytes + 4) (module_size bytes) && nat_le (module_size bytes) (length bytes)

-- a name lies after the header and before the CRC
abbrev pub has_module_name : List ℕ → Bool
has_module_name bytes = nat_le (header_length bytes) (name_offset bytes) && is_some (module_name bytes)

-- the program begins before the CRC
abbrev pub has_entry : List ℕ → Bool
has_entry bytes = nat_lt (module_entry bytes) (crc_offset bytes)

-- the header rule
abbrev pub keeps_header_rule : List ℕ → Bool
keeps_header_rule bytes = has_sync bytes && has_size bytes && has_module_name bytes && has_entry bytes

-- the parity rule: the exclusive or of the header's first nine bytes is FF
abbrev pub keeps_parity_rule : List ℕ → Bool
keeps_parity_rule bytes = fold bit_xor 0 (take 9 bytes) == 255

-- the number in the CRC's three bytes
abbrev pub crc_field : List ℕ → ℕ
crc_field bytes = big_number 3 (drop (crc_offset bytes) bytes)

-- the CRC rule: the last three bytes are the CRC of those before them
abbrev pub keeps_crc_rule : List ℕ → Bool
keeps_crc_rule bytes = crc_field bytes == crc_of (take (crc_offset bytes) bytes)

-- the first rule that the module at the front of the bytes breaks, if it breaks one
abbrev pub module_fault : List ℕ → Option ModuleFault
module_fault bytes =
    if keeps_header_rule bytes
    then (if keeps_parity_rule bytes then (if keeps_crc_rule bytes then None else Some BadCrc) else Some BadParity)
    else Some BadSync

-- a list of bytes is a module: its length is its size, and it breaks no rule
pub record IsModule (bytes : List ℕ) : Type 0 where
  pub whole : module_size bytes ≡ length bytes
  pub accepted : module_fault bytes ≡ None

-- what the header at the front of the bytes says, with this place of the bytes in their file
abbrev pub info_at : ℕ → List ℕ → ModuleInfo
info_at at bytes = record {
  name = unwrap_or (module_name bytes) [];
  at = at;
  size = module_size bytes;
  kind = module_kind bytes;
  attr = module_attributes bytes;
  entry = module_entry bytes;
  storage = module_storage bytes;
}

-- the first place from this one on with a nonzero byte, or the end
abbrev pub next_place : List ℕ → ℕ → ℕ
next_place file from = from + position_or_len (λ byte. not (byte == 0)) (drop from file)

-- what begins at a place of a file
abbrev pub step_at : List ℕ → ℕ → ModuleStep
step_at file at =
    if at == length file
    then End
    else option_map_or (λ fault. Fault at fault) (module_fault (drop at file)) (Module (info_at at (drop at file)))

-- what begins next in a file from a place on, after any zero bytes
abbrev pub step_from : List ℕ → ℕ → ModuleStep
step_from file from = step_at file (next_place file from)

-- a fact about the module that was found, if one was
abbrev pub IfModule : ModuleStep → (ModuleInfo → Type 0) → Type 0
IfModule (Module info) P = P info
IfModule End P = Unit {0}
IfModule (Fault at fault) P = Unit {0}
