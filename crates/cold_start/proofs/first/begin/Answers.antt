use Rattle.std.proofs.Common.{◌≡◌, option_map, sym, ap, ◌∙◌}
use Rattle.std.proofs.lemmas.Option.{same_Some}
use Rattle.std.proofs.lemmas.Result.{err_from_is_err_and}
use Rattle.proc_model.specs.declared.module.ModuleInfo.{ModuleInfo}
use Rattle.proc_model.specs.MemoryChanges.{linked}
use Rattle.proc_model.specs.ModuleList.{ModuleEntry}
use Rattle.proc_model.specs.Program.{Program}
use Rattle.machine_model.specs.ProcessStart.{first_process, first_start}
use Rattle.cold_start.specs.Beginning.{nobody_in}
use Rattle.cold_start.proofs.Seen.{entry-there}
use Rattle.cold_start.proofs.FirstStarting.{loaded-is, unloaded-is, some-blocks, first-stands, begins-so, begins-not}
use Rattle.cold_start.proofs.first.begin.Goals as goal

pub add_first-requires-clause-nobody : goal.add_first-requires-clause-nobody
add_first-requires-clause-nobody c =
    let (memory, tied) = c.requires.nobody in
    let (entry, is) = entry-there c.args.processes.now.memory memory tied.memory c.args.id.0 c.requires.entered in
    let loaded = c.in_ok-start.ensures.loaded (nobody_in memory) entry tied is in
    (linked loaded.memory c.args.id.0, loaded.stands)

pub returns-in_err-start : goal.returns-in_err-start
returns-in_err-start c = record {
  begun = λ memory entry tied is.
      let p = err_from_is_err_and c.from_residual.result c.from_residual.ensures.1 in
      let number = c.in_err-start.field-0.0 in
      let info : entry.info ≡ c.info-info.result = same_Some entry.info c.info-info.result (sym (ap (option_map (λ (e : ModuleEntry). e.info)) is) ∙ c.info-info.ensures.tied memory tied.memory) in
      let pages = c.area_pages.ensures.pages entry (ap (λ (i : ModuleInfo). i.storage) info) in
      let program : Program = record (first_start c.args.id.0 entry) { pages = c.area_pages.result } in
      let unloaded = c.in_err-start.ensures.loaded (nobody_in memory) entry tied is in
      rw (p.1, p.2) (begins-not memory c.args.id.0 entry c.area_pages.result pages c.load_program.new.s number
      (unloaded-is (nobody_in memory) first_process.0 program number is (some-blocks c.args.processes.now.memory memory tied.memory c.args.id.0 entry is) unloaded.goes));
}

pub returns : goal.returns
returns c = record {
  begun = λ memory entry tied is.
      let info : entry.info ≡ c.info-info.result = same_Some entry.info c.info-info.result (sym (ap (option_map (λ (e : ModuleEntry). e.info)) is) ∙ c.info-info.ensures.tied memory tied.memory) in
      let pages = c.area_pages.ensures.pages entry (ap (λ (i : ModuleInfo). i.storage) info) in
      let program : Program = record (first_start c.args.id.0 entry) { pages = c.area_pages.result } in
      let loaded = c.in_ok-start.ensures.loaded (nobody_in memory) entry tied is in
      begins-so memory c.args.id.0 entry c.area_pages.result pages c.add_first.new.processes loaded.memory
      (loaded-is (nobody_in memory) first_process.0 program loaded.memory loaded.goes)
      (first-stands loaded.memory program c.in_ok-start.start c.add_first.new.processes loaded.regs loaded.own (c.add_first.ensures (linked loaded.memory c.args.id.0) loaded.stands));
}
