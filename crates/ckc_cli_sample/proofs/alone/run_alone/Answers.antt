use Rattle.std.proofs.Common.{◌<◌, ◌^◌, [], refl, arith}
use Rattle.ckc_rv.specs.Machine.{Parts}
use Rattle.ckc_cli_sample.specs.Alone.{RunsAlone}
use Rattle.ckc_cli_sample.proofs.Ran.{no_read_fault, no_write_fault, alone_of, few_puts}
use Rattle.ckc_cli_sample.proofs.alone.run_alone.Goals as goal

pub overflow_cast-result : goal.overflow_cast-result
overflow_cast-result c =
    let v = c.args.view in
    let parts : Parts = record { entry = v.entry; code = v.code.now; initial = v.initial.now } in
    let run = c.run-observed in
    let limit = c.args.limit in
    let start = c.events_since.ensures.start parts [] limit in
    let read = no_read_fault run.result (run.ensures.reads c.in_ok-machine.ensures.going) in
    let write = no_write_fault run.result (run.ensures.writes c.in_ok-machine.ensures.going) in
    let ran : RunsAlone parts limit run.result run.new.out.puts =
    alone_of parts limit c.requires start run.new.self _ _ _ run.new.out.puts run.result run.ensures.answer read write
    (run.ensures.exact parts [] 0 (c.in_ok-machine.ensures.start parts [] refl refl refl)) in
    let few : run.new.out.puts < 2 ^ 32 = few_puts parts limit run.result run.new.out.puts c.requires ran in
    omega (arith, few)

pub returns : goal.returns
returns c =
    let run = c.run-observed in
    let limit = c.args.limit in
    let read = no_read_fault run.result (run.ensures.reads c.in_ok-machine.ensures.going) in
    let write = no_write_fault run.result (run.ensures.writes c.in_ok-machine.ensures.going) in
    record {
      ran = λ parts entry code initial.
          alone_of parts limit c.requires (c.events_since.ensures.start parts [] limit) run.new.self _ _ _ run.new.out.puts run.result run.ensures.answer read write
          (run.ensures.exact parts [] 0 (c.in_ok-machine.ensures.start parts [] entry code initial));
      unfailing = (read, write);
    }
