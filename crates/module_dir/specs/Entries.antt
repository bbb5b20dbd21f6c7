-- The entries in the code, as entries of the module directory.
use Rattle.std.specs.Prelude.{Option, option_map, List, map}
use Rattle.proc_model.specs.Group.{group_block_numbers}
use Rattle.proc_model.specs.ModuleList.{ModuleEntry}
use Rattle.module_dir.specs.declared.entry.Entry.{Entry}

abbrev pub seen : Entry → ModuleEntry
seen entry =
    record {
      info =
          entry.info;
      group = group_block_numbers entry.group;
      links = entry.links;
      is_boot = entry.is_boot;
    }

-- by number
abbrev pub held_entries : List (Option Entry) → List (Option ModuleEntry)
held_entries entries = map (option_map seen) entries
