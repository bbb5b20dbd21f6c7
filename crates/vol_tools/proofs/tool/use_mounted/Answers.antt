-- Each tool is the one that is named; a tool without bytes answers none.
use Rattle.vol_tools.proofs.Tails.{tail_kept}
use Rattle.vol_tools.proofs.Answers.{faults-so, ok-so, on-ok, on-volume-so}
use Rattle.vol_tools.proofs.tool.use_mounted.Goals as goal

pub returns-in-Put-clause-answer : goal.returns-in-Put-clause-answer
returns-in-Put-clause-answer g c =
    rw c.in-Put.is (on-volume-so _ _ (λ bytes. bytes.items) _ _ _ _ _ c.no_bytes.ensures c.put.ensures.answer)

pub returns-in-Put-clause-fault : goal.returns-in-Put-clause-fault
returns-in-Put-clause-fault g c =
    faults-so _ _ (λ bytes. bytes.items) _ _ c.no_bytes.ensures _ _ c.put.ensures.fault

pub returns-in-Get-clause-answer : goal.returns-in-Get-clause-answer
returns-in-Get-clause-answer g c = rw c.in-Get.is (c.get.ensures.answer c.args.now)

pub returns-in-Mkdir-clause-answer : goal.returns-in-Mkdir-clause-answer
returns-in-Mkdir-clause-answer g c =
    rw c.in-Mkdir.is (on-volume-so _ _ (λ bytes. bytes.items) _ _ _ _ _ c.no_bytes-in-Mkdir.ensures c.mkdir.ensures.answer)

pub returns-in-Mkdir-clause-fault : goal.returns-in-Mkdir-clause-fault
returns-in-Mkdir-clause-fault g c =
    faults-so _ _ (λ bytes. bytes.items) _ _ c.no_bytes-in-Mkdir.ensures _ _ c.mkdir.ensures.fault

pub returns-in-Remove-clause-answer : goal.returns-in-Remove-clause-answer
returns-in-Remove-clause-answer g c =
    rw c.in-Remove.is (on-volume-so _ _ (λ bytes. bytes.items) _ _ _ _ _ c.no_bytes-in-Remove.ensures (c.remove.ensures.answer c.args.now))

pub returns-in-Remove-clause-fault : goal.returns-in-Remove-clause-fault
returns-in-Remove-clause-fault g c =
    faults-so _ _ (λ bytes. bytes.items) _ _ c.no_bytes-in-Remove.ensures _ _ c.remove.ensures.fault

pub returns-in-List-clause-answer : goal.returns-in-List-clause-answer
returns-in-List-clause-answer g c = rw c.in-List.is (c.list.ensures.answer c.args.now)

pub returns-in-Put-clause-tail : goal.returns-in-Put-clause-tail
returns-in-Put-clause-tail g c = rw c.in-Put.is c.put.ensures.tail

pub returns-in-Mkdir-clause-tail : goal.returns-in-Mkdir-clause-tail
returns-in-Mkdir-clause-tail g c = rw c.in-Mkdir.is c.mkdir.ensures.tail

pub returns-in-Remove-clause-tail : goal.returns-in-Remove-clause-tail
returns-in-Remove-clause-tail g c = rw c.in-Remove.is c.remove.ensures.tail

pub returns-in-Get-clause-tail : goal.returns-in-Get-clause-tail
returns-in-Get-clause-tail g c = rw c.in-Get.is (tail_kept _ _ c.get.ensures.media_kept)

pub returns-in-List-clause-tail : goal.returns-in-List-clause-tail
returns-in-List-clause-tail g c = rw c.in-List.is (tail_kept _ _ c.list.ensures.media_kept)

pub returns-in-Put-clause-others : goal.returns-in-Put-clause-others
returns-in-Put-clause-others g c =
    rw c.in-Put.is (ok-so _ _ (λ bytes. bytes.items) _ _ _ c.no_bytes.ensures c.put.ensures.others)

pub returns-in-Mkdir-clause-others : goal.returns-in-Mkdir-clause-others
returns-in-Mkdir-clause-others g c =
    rw c.in-Mkdir.is (ok-so _ _ (λ bytes. bytes.items) _ _ _ c.no_bytes-in-Mkdir.ensures c.mkdir.ensures.others)

pub returns-in-Remove-clause-others : goal.returns-in-Remove-clause-others
returns-in-Remove-clause-others g c =
    rw c.in-Remove.is (ok-so _ _ (λ bytes. bytes.items) _ _ _ c.no_bytes-in-Remove.ensures c.remove.ensures.others)

pub returns-in-Get-clause-others : goal.returns-in-Get-clause-others
returns-in-Get-clause-others g c = rw c.in-Get.is (on-ok c.get.result _ (λ image now was is. tt))

pub returns-in-List-clause-others : goal.returns-in-List-clause-others
returns-in-List-clause-others g c = rw c.in-List.is (on-ok c.list.result _ (λ image now was is. tt))
