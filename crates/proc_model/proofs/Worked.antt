-- Worked values of the definitions, from outside.
use Rattle.std.proofs.Common.{◌≡◌, ℕ, Some, List, [], ◌∷◌, refl}
use Rattle.proc_model.specs.CrcModel.{divided_once, crc_of}
use Rattle.proc_model.specs.Module.{module_name, module_entry, module_storage, module_fault, IsModule}
use Rattle.proc_model.specs.declared.module.ModuleFault.TheVariants.{BadSync, BadParity, BadCrc}

-- the CRC of the characters 123456789, the usual check of a CRC of this kind
crc_check : crc_of (0x31 ∷ 0x32 ∷ 0x33 ∷ 0x34 ∷ 0x35 ∷ 0x36 ∷ 0x37 ∷ 0x38 ∷ 0x39 ∷ []) ≡ 0x200FA5
unfolding divided_once
crc_check = refl

crc_of_nothing : crc_of [] ≡ 0
crc_of_nothing = refl

-- a program that writes Hello, with any bytes 0, 8 and 22
abbrev hello : ℕ → ℕ → ℕ → List ℕ
hello sync parity code =
    sync ∷ 0xCD ∷ 0x00 ∷ 0x2B ∷ 0x00 ∷ 0x0D ∷ 0x11 ∷ 0x81 ∷ parity ∷ 0x00 ∷ 0x12 ∷ 0x00 ∷ 0xC8
    ∷ 0x53 ∷ 0x79 ∷ 0x73 ∷ 0x47 ∷ 0xEF
    ∷ 0x30 ∷ 0x8C ∷ 0x0D ∷ 0x10 ∷ 0x8E ∷ 0x00 ∷ 0x50 ∷ 0x86 ∷ 0x01 ∷ 0x10 ∷ 0x3F ∷ 0x8C ∷ 0x5F ∷ 0x10 ∷ 0x3F ∷ 0x06
    ∷ code ∷ 0x65 ∷ 0x6C ∷ 0x6C ∷ 0x6F ∷ 0x0D ∷ 0x84 ∷ 0x92 ∷ 0xD7 ∷ []

hello_is_module : IsModule (hello 0x87 0x03 0x48)
unfolding divided_once
hello_is_module = record { whole = refl; accepted = refl }

hello_name : module_name (hello 0x87 0x03 0x48) ≡ Some (0x53 ∷ 0x79 ∷ 0x73 ∷ 0x47 ∷ 0x6F ∷ [])
hello_name = refl

hello_entry : module_entry (hello 0x87 0x03 0x48) ≡ 0x12
hello_entry = refl

hello_storage : module_storage (hello 0x87 0x03 0x48) ≡ 0xC8
hello_storage = refl

-- each rule is tested before the next
hello_sync : module_fault (hello 0x86 0x03 0x48) ≡ Some BadSync
unfolding divided_once
hello_sync = refl

hello_parity : module_fault (hello 0x87 0x02 0x48) ≡ Some BadParity
unfolding divided_once
hello_parity = refl

hello_crc : module_fault (hello 0x87 0x03 0x68) ≡ Some BadCrc
unfolding divided_once
hello_crc = refl

hello_parity_first : module_fault (hello 0x87 0x02 0x68) ≡ Some BadParity
unfolding divided_once
hello_parity_first = refl
