use Rattle.std.proofs.Common.{Some, ap, sym, ◌∙◌, arith}
use Rattle.std.specs.Option.{option_map}
use Rattle.ckc_rv.specs.Effects.{load_value}
use Rattle.ckc_machine.specs.Memories.{memory_of}
use Rattle.ckc_machine.proofs.Held.{load_gives, load_fails}
use Rattle.ckc_machine.proofs.memory.Memory.load.Goals as goal

pub returns-in-Some : goal.returns-in-Some
returns-in-Some c = ap Some c.loaded_part.ensures ∙ ap (option_map (load_value c.args.op)) (sym (load_gives c.args.op (memory_of c.args.self.now) c.args.a c.in-Some.word (omega arith) c.requires c.in-Some.ensures))

pub returns-in-None : goal.returns-in-None
returns-in-None c = ap (option_map (load_value c.args.op)) (sym (load_fails c.args.op (memory_of c.args.self.now) c.args.a c.in-None.ensures))
