use Rattle.std.specs.Vec.{vec_len}
use Rattle.os9_kernel.specs.declared.service.LoadCall.TheVariants.{Load, Fork, Chain}
use Rattle.os9_kernel.proofs.Loading.{loads-as}
use Rattle.os9_kernel.proofs.PathCalls.{lives-on}
use Rattle.os9_kernel.proofs.kernel.Kernel.try_load.Goals as goal

pub returns-in-Load-clause-call : goal.returns-in-Load-clause-call
returns-in-Load-clause-call g c now m was tied stands kinds =
    loads-as c.args.call Load m was now (vec_len c.args.devices.now.terms) c.args.p.0 c.f_load.result _ _ c.in-Load.is (c.f_load.ensures.call now m was tied stands kinds)

pub returns-in-Load-clause-lives : goal.returns-in-Load-clause-lives
returns-in-Load-clause-lives g c = lives-on c.f_load.result c.f_load.new.machine.processes.table c.args.p.0 c.f_load.ensures.kept.lives

pub returns-in-Fork-clause-call : goal.returns-in-Fork-clause-call
returns-in-Fork-clause-call g c now m was tied stands kinds =
    loads-as c.args.call Fork m was now (vec_len c.args.devices.now.terms) c.args.p.0 c.f_fork.result _ _ c.in-Fork.is (c.f_fork.ensures.call now m was tied stands kinds)

pub returns-in-Fork-clause-lives : goal.returns-in-Fork-clause-lives
returns-in-Fork-clause-lives g c = lives-on c.f_fork.result c.f_fork.new.machine.processes.table c.args.p.0 c.f_fork.ensures.kept.lives

pub returns-in-Chain-clause-call : goal.returns-in-Chain-clause-call
returns-in-Chain-clause-call g c now m was tied stands kinds =
    loads-as c.args.call Chain m was now (vec_len c.args.devices.now.terms) c.args.p.0 c.f_chain.result _ _ c.in-Chain.is (c.f_chain.ensures.call now m was tied stands kinds)

pub returns-in-Chain-clause-lives : goal.returns-in-Chain-clause-lives
returns-in-Chain-clause-lives g c = lives-on c.f_chain.result c.f_chain.new.machine.processes.table c.args.p.0 c.f_chain.ensures.kept.lives
