-- How a call of a process ends its event.
use Rattle.os9_base.specs.declared.call.CallEnd.{CallEnd}
use Rattle.machine_model.specs.declared.ends.EventEnd.{EventEnd}
use Rattle.machine_model.specs.declared.ends.EventEnd.TheVariants.{Ran, Waits, Ended, NoMemory}

abbrev pub event_end_of : CallEnd → EventEnd
event_end_of CallEnd.Done = Ran
event_end_of (CallEnd.Error number) = Ran
event_end_of CallEnd.Wait = Waits
event_end_of CallEnd.Ended = Ended
event_end_of CallEnd.NoMemory = NoMemory
