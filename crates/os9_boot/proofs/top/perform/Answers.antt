use Rattle.os9_boot.proofs.BootCallLemmas.{asm-called, debug-called, stressed, vol-called}
use Rattle.os9_boot.proofs.NameLemmas.{stress-names}
use Rattle.os9_boot.proofs.top.perform.Goals as goal

pub returns-in-Check-clause-call : goal.returns-in-Check-clause-call
returns-in-Check-clause-call g c = rw c.in-Check.is (c.check_image.ensures.call _)

pub returns-in-Stress-clause-call : goal.returns-in-Stress-clause-call
returns-in-Stress-clause-call g c =
    rw (c.end_of_stress.ensures, c.in-Stress.is) (stressed c.in-Stress.seed _ _ c.run_stress.result c.run_stress.ensures.call)

pub returns-in-Check-clause-noted : goal.returns-in-Check-clause-noted
returns-in-Check-clause-noted g c = rw c.in-Check.is c.check_image.ensures.noted

pub returns-in-Stress-clause-noted : goal.returns-in-Stress-clause-noted
returns-in-Stress-clause-noted g c =
    rw (c.end_of_stress.ensures, c.in-Stress.is) (stress-names c.in-Stress.seed c.run_stress.result _ _ c.run_stress.ensures.notes_kept)

pub do_vol-requires : goal.do_vol-requires
do_vol-requires g c = record {
  words = rw c.in-Vol.is at c.requires.words;
  room = (rw c.in-Vol.is at c.requires.devices).room;
}

pub returns-in-Vol-clause-call : goal.returns-in-Vol-clause-call
returns-in-Vol-clause-call g c =
    rw c.in-Vol.is (vol-called c.in-Vol.vol _ _ c.do_vol.result c.do_vol.ensures.call)

pub returns-in-Vol-clause-noted : goal.returns-in-Vol-clause-noted
returns-in-Vol-clause-noted g c = rw c.in-Vol.is c.do_vol.ensures.noted

pub returns-in-Asm-clause-call : goal.returns-in-Asm-clause-call
returns-in-Asm-clause-call g c =
    rw c.in-Asm.is (asm-called c.in-Asm.asm _ _ c.do_asm.result (c.do_asm.ensures.call _))

pub returns-in-Asm-clause-noted : goal.returns-in-Asm-clause-noted
returns-in-Asm-clause-noted g c = rw c.in-Asm.is c.do_asm.ensures.noted

pub do_debug-requires : goal.do_debug-requires
do_debug-requires g c = record {
  devices = rw c.in-Debug.is at c.requires.devices;
  words = rw c.in-Debug.is at c.requires.words;
}

pub returns-in-Debug-clause-call : goal.returns-in-Debug-clause-call
returns-in-Debug-clause-call g c =
    rw c.in-Debug.is (debug-called c.in-Debug.debug _ _ c.do_debug.result c.do_debug.ensures.call)

pub returns-in-Debug-clause-noted : goal.returns-in-Debug-clause-noted
returns-in-Debug-clause-noted g c = rw c.in-Debug.is c.do_debug.ensures.noted
