-- The volume is mounted, and then the tool is used.
use Rattle.std.proofs.Common.{ℕ, None, Vec, Global}
use Rattle.vol_tools.proofs.Counts.{faults_of, faults_then}
use Rattle.vol_tools.specs.Others.{KeepsOthersBy}
use Rattle.vol_tools.specs.Tail.{KeepsTailBy}
use Rattle.vol_tools.proofs.Tails.{tail_from, tail_kept_by}
use Rattle.vol_tools.specs.Uses.{tool_of}
use Rattle.vol_tools.proofs.Answers.{ok-then}
use Rattle.vol_tools.proofs.Mounts.{not-mounted, used}
use Rattle.vol_tools.proofs.mounted.use_tool.Goals as goal

pub use_mounted-requires : goal.use_mounted-requires
use_mounted-requires g c = c.in-Ok.ensures.mounted c.requires.0 c.requires.1

pub returns-in-Ok-clause-answer : goal.returns-in-Ok-clause-answer
returns-in-Ok-clause-answer g c = used _ _ _ _ c.in-Ok.ensures.media_kept _ _ c.use_mounted.ensures.answer

pub returns-in-Ok-clause-tail : goal.returns-in-Ok-clause-tail
returns-in-Ok-clause-tail g c = tail_from (KeepsTailBy (tool_of c.args.tool.now)) _ _ _ c.in-Ok.ensures.media_kept c.use_mounted.ensures.tail

pub returns-in-Ok-clause-others : goal.returns-in-Ok-clause-others
returns-in-Ok-clause-others g c =
    ok-then c.use_mounted.result _ _ (tail_from (KeepsOthersBy (tool_of c.args.tool.now)) _ _ _ c.in-Ok.ensures.media_kept) c.use_mounted.ensures.others

pub returns-in-Ok-clause-fault : goal.returns-in-Ok-clause-fault
returns-in-Ok-clause-fault g c =
    faults_then _ _ _ _ (faults_of None _ _ _ c.in-Ok.ensures.counts) c.use_mounted.ensures.fault

pub returns-in-Err-Device-clause-answer : goal.returns-in-Err-Device-clause-answer
returns-in-Err-Device-clause-answer g c =
    not-mounted _ (λ (bytes : Vec ℕ Global). bytes.items) _ _ c.in-Err-Device.ensures.media_kept c.in-Err-Device.number

pub returns-in-Err-Device-clause-tail : goal.returns-in-Err-Device-clause-tail
returns-in-Err-Device-clause-tail g c = tail_kept_by (tool_of c.args.tool.now) _ _ c.in-Err-Device.ensures.media_kept

pub returns-in-Err-OutOfMemory-clause-tail : goal.returns-in-Err-OutOfMemory-clause-tail
returns-in-Err-OutOfMemory-clause-tail g c =
    tail_kept_by (tool_of c.args.tool.now) _ _ c.in-Err-OutOfMemory.ensures.media_kept
