use Rattle.std.proofs.Common.{◌%◌, ◌^◌, inl, inr, refl, arith}
use Rattle.ckc_outside.proofs.Giving.{showed_put, put_nothing}
use Rattle.ckc_interp.specs.code.Turns.{with_asks}
use Rattle.ckc_interp.proofs.run.Run.put.Goals as goal

pub returns-in-Ok-clause-puts : goal.returns-in-Ok-clause-puts
returns-in-Ok-clause-puts g c = λ asks.
    inl (c.wrote.ensures.done, showed_put (with_asks asks (g.O.Sink.seen c.args.out.now)) (with_asks asks (g.O.Sink.seen c.put.new.self)) _ refl c.put.ensures.once c.in-Ok.ensures.told)

pub returns-in-Err-clause-puts : goal.returns-in-Err-clause-puts
returns-in-Err-clause-puts g c = λ asks.
    inr (
      refl,
      put_nothing (with_asks asks (g.O.Sink.seen c.args.out.now)) (with_asks asks (g.O.Sink.seen c.put.new.self)) (c.args.n % 2 ^ 8) refl c.put.ensures.once
          (λ before e. let t = c.in-Err.ensures.told before e in (t.0, omega arith, t.1)),
    )
