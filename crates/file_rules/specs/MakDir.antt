-- I$MakDir (System Programmer's Manual, I$MakDir).
-- Takes the attributes in B and the path list at X; returns X past the list. The directory has bit 7 in its attributes
-- whatever B is, and two entries: the one above it, and itself. The caller's user owns it.
-- Errors: E$BPAddr, E$BPNam, E$MNF, E$FNA, E$PNNF, E$CEF, E$Full, E$SLF.
use Rattle.std.specs.Prelude.{ℕ, ◌%◌, not, false, is_some, List}
use Rattle.os9_base.specs.declared.errors.TheConstants.{E_BPNAM, E_FNA, E_CEF}
use Rattle.os9_base.specs.declared.registers.Regs.{Regs}
use Rattle.rbf_model.specs.Walk.{look_up}
use Rattle.rbf_change.specs.Names.{may_change}
use Rattle.io_model.specs.PathList.{PathList}
use Rattle.io_model.specs.Step.{answers}
use Rattle.file_rules.specs.Change.{makes_directory}
use Rattle.file_rules.specs.Create.{has_room_for}
use Rattle.file_rules.specs.Files.{Files, Asker}
use Rattle.file_rules.specs.Step.{FileStep, refused, comes, changes, needs, refuses, leaves}
use Rattle.file_rules.specs.Route.{Route, along, to_device, nowhere, Found, route_to_new, reads_list, list_of, walks, last_of, before_last}

-- the registers after a call that returns only the address past its list; if that is past FFFF, X is 0
abbrev pub past_list : Regs → PathList → Regs
past_list regs list = record regs { x = list.next % 65536 }

-- the number of bytes of a new directory: its two entries
abbrev pub new_directory_size : ℕ
new_directory_size = 64

abbrev pub makes_in : Asker → Files → PathList → List ℕ → Found → FileStep
makes_in asker files list name dir =
    refuses (not (may_change dir.file asker.user false)) E_FNA
    (refuses (is_some (look_up dir.file.contents name)) E_CEF
    (has_room_for dir new_directory_size
    (comes (changes (record {
      drive = dir.place.drive;
      change = makes_directory dir.place.number name asker.caller.regs.b;
      effect = λ n. leaves (answers (past_list asker.caller.regs list)) files;
    })))))

abbrev pub makes_on_route : Asker → Files → PathList → Route → FileStep
makes_on_route asker files list (along from names) =
    needs (last_of names) E_BPNAM
    (λ name. walks asker files false from (before_last names) (makes_in asker files list name))
makes_on_route asker files list to_device = refused E_FNA
makes_on_route asker files list (nowhere number) = refused number

abbrev pub i_makdir : Asker → Files → ℕ → FileStep
i_makdir asker files terms =
    reads_list (list_of asker) (λ step. step)
    (λ list. makes_on_route asker files list (route_to_new asker files terms false list))
