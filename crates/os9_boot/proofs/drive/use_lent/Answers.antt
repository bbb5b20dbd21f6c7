use Rattle.os9_boot.proofs.drive.use_lent.Goals as goal

pub returns : goal.returns
returns g c = record {
  answers = c.use_tool.ensures.answer;
  tail = c.use_tool.ensures.tail;
  others = c.use_tool.ensures.others;
  counts = c.use_tool.ensures.fault;
}
