-- States computed by hand, one attempt after another.
use Rattle.std.specs.Prelude.{ℕ, zero, suc, ◌+◌, true, Some, None, List, [], ◌∷◌, ◌++◌, replicate, slice_set}
use Rattle.os9_base.specs.declared.calls.TheConstants.{F_SLEEP}
use Rattle.os9_base.specs.declared.registers.Regs.{Regs}
use Rattle.proc_model.specs.Loading.{no_entries}
use Rattle.proc_model.specs.MemoryChanges.{stored}
use Rattle.proc_model.specs.ModuleList.{ModuleEntry, with_module_entry}
use Rattle.proc_model.specs.Objects.{zero_object}
use Rattle.proc_model.specs.Slots.{Slots, no_slots, with_low, with_group}
use Rattle.proc_model.specs.declared.record.Record.{Record}
use Rattle.proc_model.specs.Records.{zero_regs, new_record, with_record}
use Rattle.proc_model.specs.Signals.{intercept_of, with_intercept}
use Rattle.proc_model.specs.Turns.{with_turn}
use Rattle.proc_model.specs.declared.proc_call.ProcCall.{ProcCall}
use Rattle.proc_model.specs.declared.proc_call.ProcCall.TheVariants as Call
use Rattle.proc_model.specs.Attempts.{attempted, after_attempt}
use Rattle.proc_model.specs.Delivery.{delivered, after_delivery}
use Rattle.proc_model.specs.Processes.{Processes, no_own, regs_at, with_memory, with_regs_of, with_own}

-- the state after an attempt of a call by a process
abbrev pub after_call : ProcCall → ℕ → Processes → Processes
after_call call p s = after_attempt s p (attempted call s p)

-- the registers of a process after it has attempted a call
abbrev pub regs_after : ProcCall → ℕ → Processes → Regs
regs_after call p s = regs_at (after_call call p s) p

-- the state of the next tick
abbrev pub next_tick : Processes → Processes
next_tick s = record s { tick = s.tick + 1 }

-- a process with these registers, whose parent is process 1
abbrev pub running_with : Regs → Record
running_with regs = record (new_record (record { 0 = 1 }) 0 128) { regs = regs }

-- the maps in which a process has this object in slot 0
abbrev pub with_data_in : ℕ → ℕ → List (Slots ℕ) → List (Slots ℕ)
with_data_in p object maps = slice_set maps p (with_low no_slots (object ∷ []))

-- the state in which processes 2 and 3 have these registers and see the same bytes from address 0 on
abbrev pub two_processes : List ℕ → Regs → Regs → Processes
two_processes bytes first second = record {
  memory = record {
    blocks = 8;
    objects = bytes ∷ bytes ∷ [];
    maps = with_data_in 3 1 (with_data_in 2 0 (replicate 33 no_slots));
    modules = no_entries;
  };
  records = with_record (with_record (replicate 33 None) 2 (running_with first)) 3 (running_with second);
  own = replicate 33 no_own;
  order = with_turn (with_turn [] (record { 0 = 2 }) 128) (record { 0 = 3 }) 128;
  tick = 10;
}

-- the state in which process 2 has these registers and sees these bytes from address 0 on
abbrev pub one_process : List ℕ → Regs → Processes
one_process bytes regs = two_processes bytes regs zero_regs

-- ---- names

-- the text `/D0/CMDS` and a carriage return, from address 40 on
abbrev pub path_text : List ℕ
path_text = replicate 0x40 0 ++ (0x2F ∷ 0x44 ∷ 0x30 ∷ 0x2F ∷ 0x43 ∷ 0x4D ∷ 0x44 ∷ 0x53 ∷ 0x0D ∷ [])

-- the state in which process 2 parses the bytes at this address
abbrev pub parsing : ℕ → Processes
parsing at = one_process path_text (record zero_regs { x = at })

-- `abc`, and after it `AB` and a C with bit 7
abbrev pub two_names : List ℕ
two_names = 0x61 ∷ 0x62 ∷ 0x63 ∷ 0x41 ∷ 0x42 ∷ 0xC3 ∷ []

-- the state in which process 2 compares this number of characters of the first name with the second
abbrev pub comparing : ℕ → Processes
comparing count = one_process two_names (record zero_regs { b = count; y = 3 })

-- ---- sleep and signals

-- process 2 has called F$Sleep, and process 3 F$Send to it; both may store a frame below 40
abbrev pub sleeper_and_sender : ℕ → ℕ → Processes
sleeper_and_sender ticks signal =
    with_own (two_processes (replicate 64 0) (record zero_regs { cc = 1; x = ticks; s = 0x30; pc = 0x22 })
    (record zero_regs { a = 2; b = signal })) 2 (record no_own { call = Some F_SLEEP })

-- the state two ticks after process 2 fell asleep, in which process 3 sent it this signal in the first of them
abbrev pub sent_asleep : ℕ → ℕ → Processes
sent_asleep ticks signal =
    next_tick (after_call Call.Send 3 (next_tick (after_call Call.Sleep 2 (sleeper_and_sender ticks signal))))

-- the state in which process 2 has an intercept, and process 3 has sent it signal 7
abbrev pub sent_seven : Processes
sent_seven = after_call Call.Send 3 (record (sleeper_and_sender 0 7) {
  records =
      with_intercept (sleeper_and_sender 0 7).records 2 (intercept_of 0x1234 0x5678);
  own = replicate 33 no_own;
})

-- the state in which the signal is delivered
abbrev pub seven_delivered : Processes
seven_delivered = after_delivery sent_seven 2 (delivered sent_seven 2 7)

-- ---- programs that are started

-- the module `P`, whose storage is 200 bytes, as the boot file's group of one block
abbrev pub small_program : ModuleEntry
small_program = record {
  info = record { name = 0x50 ∷ []; at = 0; size = 0x40; kind = 0x11; attr = 0x81; entry = 0x10; storage = 0xC8 };
  group = 0 ∷ [];
  links = 1;
  is_boot = true;
}

-- the state in which process 2 runs that program with one block of data: its name is at 0, and five bytes follow it
abbrev pub forker : ℕ → Processes
forker blocks = record {
  memory = record {
    blocks = blocks;
    objects = zero_object ∷ (0xD0 ∷ 5 ∷ 6 ∷ 7 ∷ 8 ∷ 9 ∷ []) ∷ [];
    maps = slice_set (replicate 33 no_slots) 2 (with_group (with_low no_slots (1 ∷ [])) 7 (0 ∷ []));
    modules = with_module_entry no_entries 0 small_program;
  };
  records = with_record (replicate 33 None) 2 (running_with zero_regs);
  own = slice_set (replicate 33 no_own) 2 (record no_own { size = 256; primary = Some (record { 0 = 0 }) });
  order = with_turn [] (record { 0 = 2 }) 128;
  tick = 1;
}

-- the state in which it has these bytes at 0
abbrev pub forker_of : List ℕ → Processes
forker_of bytes = with_memory (forker 64) (record (forker 64).memory { objects = zero_object ∷ bytes ∷ [] })

-- the state in which process 2 has these registers
abbrev pub calling : Regs → Processes → Processes
calling regs s = with_regs_of s 2 regs

-- the state in which its five parameters begin at this address
abbrev pub with_five : ℕ → Processes
with_five at = calling (record zero_regs { y = 5; u = at }) (forker 64)

-- the state in which process 2 has forked once
abbrev pub first_child : Processes → Processes
first_child s = after_call Call.Fork 2 s

-- the state after this number of F$Fork calls by process 2, each by the name at 0
abbrev pub after_forks : ℕ → Processes → Processes
after_forks zero s = s
after_forks (suc n) s = after_call Call.Fork 2 (calling zero_regs (after_forks n s))

-- ---- modules that are linked

-- the module `S` of data, 32 bytes after the start of a group of one block
abbrev pub shared_module : ModuleEntry
shared_module = record {
  info = record { name = 0x53 ∷ []; at = 0x20; size = 0x40; kind = 0x40; attr = 0x81; entry = 0; storage = 0 };
  group = 2 ∷ [];
  links = 0;
  is_boot = true;
}

-- the state in which processes 2 and 3 may link that module by its name at 0
abbrev pub may_link : Processes
may_link = with_module_there (two_processes (0xD3 ∷ []) zero_regs zero_regs)
  where
    with_module_there : Processes → Processes
    with_module_there s =
        with_memory s (record s.memory {
          objects =
              s.memory.objects ++ zero_object ∷ [];
          modules = with_module_entry no_entries 0 shared_module;
        })

-- the state in which both have linked it
abbrev pub both_linked : Processes
both_linked = after_call Call.Link 3 (after_call Call.Link 2 may_link)

-- the state in which process 2 has stored 77 in it
abbrev pub stored_by_one : Processes
stored_by_one = with_memory both_linked (stored both_linked.memory 2 0xE022 (0x77 ∷ []))
