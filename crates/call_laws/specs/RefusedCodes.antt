-- The codes of all calls, and the unknown codes (System Programmer's Manual, "System calls").
use Rattle.std.specs.Prelude.{ℕ, ◌==◌, Bool, List, [], ◌∷◌, ◌++◌, map}
use Rattle.std.specs.List.{list_any, range_with_len}
use Rattle.proc_model.specs.declared.proc_call.ProcCall.TheVariants as Proc
use Rattle.file_rules.specs.declared.path_call.PathCall.TheVariants as Path
use Rattle.time_rules.specs.declared.time_call.TimeCall.TheVariants as Time
use Rattle.machine_model.specs.Services.{Service, loads, on_paths, on_processes, on_time}

-- a code, and what it asks for
pub record Coded : Type 0 where
  pub code : ℕ
  pub service : Service

abbrev pub coded : ℕ → Service → Coded
coded code service = record { code = code; service = service }

-- the calls on processes, modules and the time, and F$PErr, by their codes
abbrev pub f_calls : List Coded
f_calls =
    coded 0x00 (on_processes Proc.Link) ∷ coded 0x01 loads ∷ coded 0x02 (on_processes Proc.UnLink)
    ∷ coded 0x03 (on_processes Proc.Fork) ∷ coded 0x04 (on_processes Proc.Wait)
    ∷ coded 0x05 (on_processes Proc.Chain) ∷ coded 0x06 (on_processes Proc.Exit)
    ∷ coded 0x07 (on_processes Proc.Mem) ∷ coded 0x08 (on_processes Proc.Send)
    ∷ coded 0x09 (on_processes Proc.Icpt) ∷ coded 0x0A (on_processes Proc.Sleep)
    ∷ coded 0x0C (on_processes Proc.Id) ∷ coded 0x0D (on_processes Proc.SPrior) ∷ coded 0x0F (on_paths Path.PErr)
    ∷ coded 0x10 (on_processes Proc.PrsNam) ∷ coded 0x11 (on_processes Proc.CmpNam) ∷ coded 0x15 (on_time Time.Time)
    ∷ coded 0x16 (on_time Time.STime) ∷ coded 0x17 (on_processes Proc.Crc) ∷ coded 0x1C (on_processes Proc.SUser)
    ∷ coded 0x1D (on_processes Proc.UnLoad) ∷ []

-- the calls on paths, files and directories
abbrev pub i_calls : List Coded
i_calls =
    coded 0x82 (on_paths Path.Dup) ∷ coded 0x83 (on_paths Path.Create) ∷ coded 0x84 (on_paths Path.Open)
    ∷ coded 0x85 (on_paths Path.MakDir) ∷ coded 0x86 (on_paths Path.ChgDir) ∷ coded 0x87 (on_paths Path.Delete)
    ∷ coded 0x88 (on_paths Path.Seek) ∷ coded 0x89 (on_paths Path.Read) ∷ coded 0x8A (on_paths Path.Write)
    ∷ coded 0x8B (on_paths Path.ReadLn) ∷ coded 0x8C (on_paths Path.WritLn) ∷ coded 0x8D (on_paths Path.GetStt)
    ∷ coded 0x8E (on_paths Path.SetStt) ∷ coded 0x8F (on_paths Path.Close) ∷ coded 0x90 (on_paths Path.DeletX) ∷ []

-- the other codes of a byte: 0B, 0E, 12 to 14, 18 to 1B, 1E to 81, and from 91 on
abbrev pub other_codes : List ℕ
other_codes =
    0x0B ∷ 0x0E ∷ range_with_len 0x12 3
    ++ (range_with_len 0x18 4 ++ (range_with_len 0x1E 100 ++ range_with_len 0x91 111))

-- a code is one of these
abbrev pub is_told : ℕ → Bool
is_told code = list_any (λ told. told == code) (map (λ row. row.code) (f_calls ++ i_calls) ++ other_codes)
