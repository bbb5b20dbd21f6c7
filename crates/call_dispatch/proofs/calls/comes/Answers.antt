use Rattle.call_dispatch.proofs.Ends.{lives_on, ended_on, some_processes}
use Rattle.call_dispatch.proofs.calls.comes.Goals as goal

pub returns-in-Link-clause-lives : goal.returns-in-Link-clause-lives
returns-in-Link-clause-lives c = lives_on c.f_link.result c.f_link.new.s.table c.args.p.0 c.f_link.ensures.lives

pub returns-in-UnLink-clause-lives : goal.returns-in-UnLink-clause-lives
returns-in-UnLink-clause-lives c = lives_on c.f_unlink.result c.f_unlink.new.s.table c.args.p.0 c.f_unlink.ensures.lives

pub returns-in-Wait-clause-lives : goal.returns-in-Wait-clause-lives
returns-in-Wait-clause-lives c = lives_on c.f_wait.result c.f_wait.new.s.table c.args.p.0 c.f_wait.ensures.lives

pub returns-in-Mem-clause-lives : goal.returns-in-Mem-clause-lives
returns-in-Mem-clause-lives c = lives_on c.f_mem.result c.f_mem.new.s.table c.args.p.0 c.f_mem.ensures.lives

pub returns-in-Send-clause-lives : goal.returns-in-Send-clause-lives
returns-in-Send-clause-lives c = lives_on c.f_send.result c.f_send.new.s.table c.args.p.0 c.f_send.ensures.lives

pub returns-in-Icpt-clause-lives : goal.returns-in-Icpt-clause-lives
returns-in-Icpt-clause-lives c = lives_on c.f_icpt.result c.f_icpt.new.s.table c.args.p.0 c.f_icpt.ensures.lives

pub returns-in-Sleep-clause-lives : goal.returns-in-Sleep-clause-lives
returns-in-Sleep-clause-lives c = lives_on c.f_sleep.result c.f_sleep.new.s.table c.args.p.0 c.f_sleep.ensures.lives

pub returns-in-Id-clause-lives : goal.returns-in-Id-clause-lives
returns-in-Id-clause-lives c = lives_on c.f_id.result c.f_id.new.s.table c.args.p.0 c.f_id.ensures.lives

pub returns-in-SPrior-clause-lives : goal.returns-in-SPrior-clause-lives
returns-in-SPrior-clause-lives c = lives_on c.f_sprior.result c.f_sprior.new.s.table c.args.p.0 c.f_sprior.ensures.lives

pub returns-in-PrsNam-clause-lives : goal.returns-in-PrsNam-clause-lives
returns-in-PrsNam-clause-lives c = lives_on c.f_prsnam.result c.f_prsnam.new.s.table c.args.p.0 c.f_prsnam.ensures.lives

pub returns-in-CmpNam-clause-lives : goal.returns-in-CmpNam-clause-lives
returns-in-CmpNam-clause-lives c = lives_on c.f_cmpnam.result c.f_cmpnam.new.s.table c.args.p.0 c.f_cmpnam.ensures.lives

pub returns-in-Crc-clause-lives : goal.returns-in-Crc-clause-lives
returns-in-Crc-clause-lives c = lives_on c.f_crc.result c.f_crc.new.s.table c.args.p.0 c.f_crc.ensures.lives

pub returns-in-SUser-clause-lives : goal.returns-in-SUser-clause-lives
returns-in-SUser-clause-lives c = lives_on c.f_suser.result c.f_suser.new.s.table c.args.p.0 c.f_suser.ensures.lives

pub returns-in-UnLoad-clause-lives : goal.returns-in-UnLoad-clause-lives
returns-in-UnLoad-clause-lives c = lives_on c.f_unload.result c.f_unload.new.s.table c.args.p.0 c.f_unload.ensures.lives

pub returns-in-Exit-clause-lives : goal.returns-in-Exit-clause-lives
returns-in-Exit-clause-lives c =
    let (m, tied) = some_processes c.args.s.now in
    ended_on c.f_exit.result c.f_exit.new.s.table c.args.p.0 (c.f_exit.ensures.call m tied).0

pub returns-in-Fork-clause-lives : goal.returns-in-Fork-clause-lives
returns-in-Fork-clause-lives c = lives_on c.f_fork.result c.f_fork.new.s.table c.args.p.0 c.f_fork.ensures.lives

pub returns-in-Chain-clause-lives : goal.returns-in-Chain-clause-lives
returns-in-Chain-clause-lives c = lives_on c.f_chain.result c.f_chain.new.s.table c.args.p.0 c.f_chain.ensures.lives
