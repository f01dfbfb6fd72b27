use Rattle.std.proofs.Common.{ℕ, ◌≤◌, List, length, sym, subst, ap, ◌∙◌, arith}
use Rattle.ckc_source.specs.Code.{program_of}
use Rattle.ckc_source.specs.Source.{source}
use Rattle.ckc_checks_operands.specs.Weights.{program_weight}
use Rattle.ckc_tac.specs.declared.code.Tac.{Tac}
use Rattle.ckc_build_compile.proofs.Layers.{placed_follows, has_core}
use Rattle.ckc_build_compile.proofs.program.placed.Goals as goal

pub passed-requires : goal.passed-requires
passed-requires c = c.in_ok-t.ensures.formed

pub assign-requires : goal.assign-requires
assign-requires c = record { whole = c.in_ok-after.ensures.whole; few = c.in_ok-after.ensures.few c.in_ok-t.ensures.few }

pub returns : goal.returns
returns c = record {
  whole = c.in_ok-q.ensures.whole;
  size = omega (arith, c.in_ok-q.ensures.size, c.in_ok-after.ensures.size, c.in_ok-t.ensures.size);
  initial =
      let P : List ℕ → Type 0 = λ l. length l ≤ 4194304 in
      subst P (sym (ap (λ (t : Tac). t.initial) c.in_ok-q.ensures.code ∙ c.in_ok-after.ensures.initial)) c.in_ok-t.ensures.initial;
  follows = placed_follows (source (program_of c.args.p.now)) c.in_ok-t.t c.in_ok-after.after c.in_ok-q.q c.in_ok-t.ensures.follows c.in_ok-after.ensures.follows c.in_ok-q.ensures.follows;
  detail = has_core (program_of c.args.p.now) c.in_ok-t.t c.in_ok-after.after c.in_ok-q.q c.in_ok-t.ensures.detail c.in_ok-after.ensures.follows c.in_ok-q.ensures.follows;
}
