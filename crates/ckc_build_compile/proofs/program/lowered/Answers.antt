use Rattle.std.proofs.Common.{ℕ, ◌≤◌, List, length, sym, subst, arith}
use Rattle.ckc_source.specs.Code.{program_of}
use Rattle.ckc_core.specs.Code as core
use Rattle.ckc_build_compile.proofs.Layers.{lowered_follows}
use Rattle.ckc_build_compile.proofs.program.lowered.Goals as goal

pub lower-requires : goal.lower-requires
lower-requires c = record { well_formed = c.in_ok-c.ensures.formed; limits = c.in_ok-c.ensures.limits }

pub returns : goal.returns
returns c = record {
  formed = c.in_ok-t.ensures.formed;
  few = c.in_ok-t.ensures.few_registers;
  size = omega (arith, c.in_ok-t.ensures.size, c.in_ok-c.ensures.weight);
  initial = let P : List ℕ → Type 0 = λ l. length l ≤ 4194304 in subst P (sym c.in_ok-t.ensures.initial) c.in_ok-c.ensures.initial;
  follows = lowered_follows (program_of c.args.p.now) (core.program_of c.in_ok-c.c) c.in_ok-t.t c.in_ok-c.ensures.follows c.in_ok-t.ensures.follows;
  detail = record {
    core = core.program_of c.in_ok-c.c;
    follows = c.in_ok-c.ensures.follows;
    stores = c.in_ok-c.ensures.stores;
    below = c.in_ok-t.ensures.follows;
  };
}
