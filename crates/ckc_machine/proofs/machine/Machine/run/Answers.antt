use Rattle.std.proofs.Common.{◌≡◌, ◌+◌, ◌<◌, inl, inr, ℕ, List, Option, Some, refl, sym, ap, subst, arith, ◌∙◌}
use Rattle.std.proofs.lemmas.Bool.{false≢true}
use Rattle.ckc_rv.specs.Machine.{Parts, machine}
use Rattle.ckc_machine.specs.declared.observed.Observed.{Observed}
use Rattle.ckc_machine.specs.declared.observed.Observed.TheVariants.{Going}
use Rattle.ckc_machine.specs.declared.machine.Machine.{Machine}
use Rattle.ckc_machine.specs.Points.{state_at}
use Rattle.ckc_machine.specs.Runs.{Arrives, Runs, AsksFor, AsksNothing, answer_of, read_faults, write_faults}
use Rattle.ckc_machine.specs.code.Runs.{IsFed}
use Rattle.ckc_machine.proofs.Arrivals.{settled, then_going, then_ends, fed_same, arrives_none, runs_arriving}
use Rattle.ckc_machine.proofs.Giving.{not_asked, given_so, given_then, RunsBy, ArrivesBy}
use Rattle.ckc_machine.proofs.machine.Machine.run.Goals as goal

pub returns-then-not-goes-clause-exact : goal.returns-then-not-goes-clause-exact
returns-then-not-goes-clause-exact g c = λ parts given k is.
    settled parts given k c.args.limit c.args.self.now (g.S.Source.seen c.args.input.now).left (g.O.Sink.seen c.args.out.now).written (g.S.Source.seen c.args.input.now).asks (g.O.Sink.seen c.args.out.now).puts is (λ e. false≢true (c.if-not-goes.ensures.1 e))

pub returns-then-not-goes-clause-silent : goal.returns-then-not-goes-clause-silent
returns-then-not-goes-clause-silent g c = λ parts given k left is silent.
    (refl, settled parts given k c.args.limit c.args.self.now left (g.O.Sink.seen c.args.out.now).written (g.S.Source.seen c.args.input.now).asks (g.O.Sink.seen c.args.out.now).puts is (λ e. false≢true (c.if-not-goes.ensures.1 e)))

pub returns-then-not-goes-clause-any : goal.returns-then-not-goes-clause-any
returns-then-not-goes-clause-any g c = not_asked _ (RunsBy c.args.limit c.args.self.now c.args.self.now (g.O.Sink.seen c.args.out.now).written (g.O.Sink.seen c.args.out.now).written (g.S.Source.seen c.args.input.now).asks (g.S.Source.seen c.args.input.now).asks (g.O.Sink.seen c.args.out.now).puts (g.O.Sink.seen c.args.out.now).puts (answer_of c.args.self.now)) (λ rest parts given k is.
    settled parts given k c.args.limit c.args.self.now (Some rest) (g.O.Sink.seen c.args.out.now).written (g.S.Source.seen c.args.input.now).asks (g.O.Sink.seen c.args.out.now).puts is (λ e. false≢true (c.if-not-goes.ensures.1 e)))

-- one instruction of a silent run asks for nothing
silent_at : (parts : Parts) (given : List ℕ) (k i limit : ℕ) → i < limit → AsksNothing parts given k limit → ¬ AsksFor parts (state_at parts given (k + i)) 2
silent_at parts given k i limit h silent = silent (k + i) (omega arith) (omega arith)

-- what the source is left with halfway
halfway : (told mid : Option (List ℕ)) (told' : Option (List ℕ)) (silent one : Type 0) (left left' : Option (List ℕ)) → (silent → one) → IsFed told told' silent left left'
    → (between : Option (List ℕ)) × IsFed told mid silent left between × IsFed mid told' one between left'
halfway told mid told' silent one left left' f (inl h) = (mid, inl (h.0, refl), inl (refl, h.1))
halfway told mid told' silent one left left' f (inr h) = (left, inr (h.0, refl), inr (f h.0, h.1))

pub loop-done-init : goal.loop-done-init
loop-done-init g c = record {
  within = omega arith;
  going = c.if-not-goes.ensures.0 refl;
  arrives = λ parts given k before after is fed.
      let written = (g.O.Sink.seen c.args.out.now).written in
      let asks = (g.S.Source.seen c.args.input.now).asks in
      let puts = (g.O.Sink.seen c.args.out.now).puts in
      let same = fed_same (g.S.Source.seen c.args.input.now).left _ before after fed in
      subst (λ (l : Option (List ℕ)). Arrives parts given k 0 c.args.self.now before l written written asks asks puts puts) (sym same) (arrives_none parts given k c.args.self.now before written asks puts is);
  any = not_asked _ (ArrivesBy 0 c.args.self.now c.args.self.now (g.O.Sink.seen c.args.out.now).written (g.O.Sink.seen c.args.out.now).written (g.S.Source.seen c.args.input.now).asks (g.S.Source.seen c.args.input.now).asks (g.O.Sink.seen c.args.out.now).puts (g.O.Sink.seen c.args.out.now).puts) (λ rest parts given k is. arrives_none parts given k c.args.self.now (Some rest) (g.O.Sink.seen c.args.out.now).written (g.S.Source.seen c.args.input.now).asks (g.O.Sink.seen c.args.out.now).puts is);
  silent = λ parts given k before is quiet. refl;
  input_faults = refl;
  out_faults = refl;
}

pub returns-then-not-goes-2-clause-exact : goal.returns-then-not-goes-2-clause-exact
returns-then-not-goes-2-clause-exact g c = λ parts given k is.
    let i = c.loop-done.done in
    let half = halfway (g.S.Source.seen c.args.input.now).left (g.S.Source.seen c.loop-done.input).left (g.S.Source.seen c.step.new.input).left _ _ (g.S.Source.seen c.args.input.now).left (g.S.Source.seen c.step.new.input).left (silent_at parts given k i c.args.limit c.loop-done-test.true) (inl (refl, refl)) in
    let before = c.loop-done.invariant.arrives parts given k (g.S.Source.seen c.args.input.now).left half.0 is half.1 in
    then_ends parts given k i c.args.limit c.loop-done.self c.step.new.self
    (g.S.Source.seen c.args.input.now).left half.0 (g.S.Source.seen c.step.new.input).left (g.O.Sink.seen c.args.out.now).written (g.O.Sink.seen c.loop-done.out).written (g.O.Sink.seen c.step.new.out).written
    (g.S.Source.seen c.args.input.now).asks (g.S.Source.seen c.loop-done.input).asks (g.S.Source.seen c.step.new.input).asks (g.O.Sink.seen c.args.out.now).puts (g.O.Sink.seen c.loop-done.out).puts (g.O.Sink.seen c.step.new.out).puts
    is.rest before (omega arith) (answer_of c.step.new.self) refl (λ e. false≢true (c.if-not-goes-2.ensures.1 e))
    (c.step.ensures.exact parts given (k + i) half.0 (g.S.Source.seen c.step.new.input).left before.at half.2)

pub returns-then-not-goes-2-clause-silent : goal.returns-then-not-goes-2-clause-silent
returns-then-not-goes-2-clause-silent g c = λ parts given k left is quiet.
    let i = c.loop-done.done in
    let one = silent_at parts given k i c.args.limit c.loop-done-test.true quiet in
    let before = c.loop-done.invariant.arrives parts given k left left is (inr (quiet, refl)) in (
      c.step.ensures.silent parts given (k + i) left before.at one ∙ c.loop-done.invariant.silent parts given k left is quiet,
      then_ends parts given k i c.args.limit c.loop-done.self c.step.new.self
          left left left (g.O.Sink.seen c.args.out.now).written (g.O.Sink.seen c.loop-done.out).written (g.O.Sink.seen c.step.new.out).written
          (g.S.Source.seen c.args.input.now).asks (g.S.Source.seen c.loop-done.input).asks (g.S.Source.seen c.step.new.input).asks (g.O.Sink.seen c.args.out.now).puts (g.O.Sink.seen c.loop-done.out).puts (g.O.Sink.seen c.step.new.out).puts
          is.rest before (omega arith) (answer_of c.step.new.self) refl (λ e. false≢true (c.if-not-goes-2.ensures.1 e))
          (c.step.ensures.exact parts given (k + i) left left before.at (inr (one, refl))),
    )

pub returns-then-not-goes-2-clause-any : goal.returns-then-not-goes-2-clause-any
returns-then-not-goes-2-clause-any g c =
    let i = c.loop-done.done in
    given_then _ _ _ (ArrivesBy c.loop-done.done c.args.self.now c.loop-done.self (g.O.Sink.seen c.args.out.now).written (g.O.Sink.seen c.loop-done.out).written (g.S.Source.seen c.args.input.now).asks (g.S.Source.seen c.loop-done.input).asks (g.O.Sink.seen c.args.out.now).puts (g.O.Sink.seen c.loop-done.out).puts) (RunsBy 1 c.loop-done.self c.step.new.self (g.O.Sink.seen c.loop-done.out).written (g.O.Sink.seen c.step.new.out).written (g.S.Source.seen c.loop-done.input).asks (g.S.Source.seen c.step.new.input).asks (g.O.Sink.seen c.loop-done.out).puts (g.O.Sink.seen c.step.new.out).puts (answer_of c.step.new.self))
    (RunsBy c.args.limit c.args.self.now c.step.new.self (g.O.Sink.seen c.args.out.now).written (g.O.Sink.seen c.step.new.out).written (g.S.Source.seen c.args.input.now).asks (g.S.Source.seen c.step.new.input).asks (g.O.Sink.seen c.args.out.now).puts (g.O.Sink.seen c.step.new.out).puts (answer_of c.step.new.self)) c.loop-done.invariant.any c.step.ensures.any (λ left mid left' first then parts given k is.
    let before = first parts given k is in
    then_ends parts given k i c.args.limit c.loop-done.self c.step.new.self
    (Some left) (Some mid) (Some left') (g.O.Sink.seen c.args.out.now).written (g.O.Sink.seen c.loop-done.out).written (g.O.Sink.seen c.step.new.out).written
    (g.S.Source.seen c.args.input.now).asks (g.S.Source.seen c.loop-done.input).asks (g.S.Source.seen c.step.new.input).asks (g.O.Sink.seen c.args.out.now).puts (g.O.Sink.seen c.loop-done.out).puts (g.O.Sink.seen c.step.new.out).puts
    is.rest before (omega arith) (answer_of c.step.new.self) refl (λ e. false≢true (c.if-not-goes-2.ensures.1 e))
    (then parts given (k + i) before.at))

pub loop-done-preserved : goal.loop-done-preserved
loop-done-preserved g c =
    let i = c.loop-done.done in
    let going : answer_of c.step.new.self ≡ Going = c.if-not-goes-2.ensures.0 refl in
    let next : i + 1 ≡ c.one_more-done.result = omega (arith, c.one_more-done.ensures.more) in
    record {
      within = omega arith;
      going = going;
      arrives = λ parts given k left left' is fed.
          let half = halfway (g.S.Source.seen c.args.input.now).left (g.S.Source.seen c.loop-done.input).left (g.S.Source.seen c.step.new.input).left _ _ left left' (silent_at parts given k i c.args.limit c.loop-done-test.true) fed in
          let before = c.loop-done.invariant.arrives parts given k left half.0 is half.1 in
          subst (λ n. Arrives parts given k n c.step.new.self left left' (g.O.Sink.seen c.args.out.now).written (g.O.Sink.seen c.step.new.out).written (g.S.Source.seen c.args.input.now).asks (g.S.Source.seen c.step.new.input).asks (g.O.Sink.seen c.args.out.now).puts (g.O.Sink.seen c.step.new.out).puts) next (then_going parts given k i c.args.limit c.loop-done.self c.step.new.self
          left half.0 left' (g.O.Sink.seen c.args.out.now).written (g.O.Sink.seen c.loop-done.out).written (g.O.Sink.seen c.step.new.out).written
          (g.S.Source.seen c.args.input.now).asks (g.S.Source.seen c.loop-done.input).asks (g.S.Source.seen c.step.new.input).asks (g.O.Sink.seen c.args.out.now).puts (g.O.Sink.seen c.loop-done.out).puts (g.O.Sink.seen c.step.new.out).puts
          is.rest before c.loop-done-test.true going
          (subst (λ (o : Observed). Runs parts given (k + i) 1 c.step.new.self half.0 left' (g.O.Sink.seen c.loop-done.out).written (g.O.Sink.seen c.step.new.out).written
          (g.S.Source.seen c.loop-done.input).asks (g.S.Source.seen c.step.new.input).asks (g.O.Sink.seen c.loop-done.out).puts (g.O.Sink.seen c.step.new.out).puts o) going (c.step.ensures.exact parts given (k + i) half.0 left' before.at half.2)));
      any = given_then _ _ _ (ArrivesBy c.loop-done.done c.args.self.now c.loop-done.self (g.O.Sink.seen c.args.out.now).written (g.O.Sink.seen c.loop-done.out).written (g.S.Source.seen c.args.input.now).asks (g.S.Source.seen c.loop-done.input).asks (g.O.Sink.seen c.args.out.now).puts (g.O.Sink.seen c.loop-done.out).puts) (RunsBy 1 c.loop-done.self c.step.new.self (g.O.Sink.seen c.loop-done.out).written (g.O.Sink.seen c.step.new.out).written (g.S.Source.seen c.loop-done.input).asks (g.S.Source.seen c.step.new.input).asks (g.O.Sink.seen c.loop-done.out).puts (g.O.Sink.seen c.step.new.out).puts (answer_of c.step.new.self))
          (ArrivesBy c.one_more-done.result c.args.self.now c.step.new.self (g.O.Sink.seen c.args.out.now).written (g.O.Sink.seen c.step.new.out).written (g.S.Source.seen c.args.input.now).asks (g.S.Source.seen c.step.new.input).asks (g.O.Sink.seen c.args.out.now).puts (g.O.Sink.seen c.step.new.out).puts) c.loop-done.invariant.any c.step.ensures.any (λ left mid left' first then parts given k is.
          let before = first parts given k is in
          subst (λ n. Arrives parts given k n c.step.new.self (Some left) (Some left') (g.O.Sink.seen c.args.out.now).written (g.O.Sink.seen c.step.new.out).written (g.S.Source.seen c.args.input.now).asks (g.S.Source.seen c.step.new.input).asks (g.O.Sink.seen c.args.out.now).puts (g.O.Sink.seen c.step.new.out).puts) next (then_going parts given k i c.args.limit c.loop-done.self c.step.new.self
          (Some left) (Some mid) (Some left') (g.O.Sink.seen c.args.out.now).written (g.O.Sink.seen c.loop-done.out).written (g.O.Sink.seen c.step.new.out).written
          (g.S.Source.seen c.args.input.now).asks (g.S.Source.seen c.loop-done.input).asks (g.S.Source.seen c.step.new.input).asks (g.O.Sink.seen c.args.out.now).puts (g.O.Sink.seen c.loop-done.out).puts (g.O.Sink.seen c.step.new.out).puts
          is.rest before c.loop-done-test.true going
          (subst (λ (o : Observed). Runs parts given (k + i) 1 c.step.new.self (Some mid) (Some left') (g.O.Sink.seen c.loop-done.out).written (g.O.Sink.seen c.step.new.out).written
          (g.S.Source.seen c.loop-done.input).asks (g.S.Source.seen c.step.new.input).asks (g.O.Sink.seen c.loop-done.out).puts (g.O.Sink.seen c.step.new.out).puts o) going (then parts given (k + i) before.at))));
      silent = λ parts given k left is quiet.
          let before = c.loop-done.invariant.arrives parts given k left left is (inr (quiet, refl)) in
          c.step.ensures.silent parts given (k + i) left before.at (silent_at parts given k i c.args.limit c.loop-done-test.true quiet) ∙ c.loop-done.invariant.silent parts given k left is quiet;
      input_faults = c.step.ensures.reads ∙ ap (λ o. read_faults o (g.S.Source.seen c.loop-done.input).faults) going ∙ c.loop-done.invariant.input_faults;
      out_faults = c.step.ensures.writes ∙ ap (λ o. write_faults o (g.O.Sink.seen c.loop-done.out).faults) going ∙ c.loop-done.invariant.out_faults;
    }

-- the loop has come to the limit
at_limit : (parts : Parts) (given : List ℕ) (k i limit : ℕ) (m : Machine) (left left' written written' : Option (List ℕ)) (asks asks' puts puts' : ℕ) → i ≡ limit → Arrives parts given k i m left left' written written' asks asks' puts puts'
    → Runs parts given k limit m left left' written written' asks asks' puts puts' (answer_of m)
at_limit parts given k i limit m left left' written written' asks asks' puts puts' e a =
    let there = subst (λ n. Arrives parts given k n m left left' written written' asks asks' puts puts') e a in
    runs_arriving parts given k limit m left left' written written' asks asks' puts puts' (answer_of m) (machine parts given (k + limit)).standing there.at.answer there

pub returns-clause-exact : goal.returns-clause-exact
returns-clause-exact g c = λ parts given k is.
    at_limit parts given k c.loop-done.done c.args.limit c.loop-done.self (g.S.Source.seen c.args.input.now).left (g.S.Source.seen c.loop-done.input).left (g.O.Sink.seen c.args.out.now).written (g.O.Sink.seen c.loop-done.out).written
    (g.S.Source.seen c.args.input.now).asks (g.S.Source.seen c.loop-done.input).asks (g.O.Sink.seen c.args.out.now).puts (g.O.Sink.seen c.loop-done.out).puts (omega arith)
    (c.loop-done.invariant.arrives parts given k (g.S.Source.seen c.args.input.now).left (g.S.Source.seen c.loop-done.input).left is (inl (refl, refl)))

pub returns-clause-any : goal.returns-clause-any
returns-clause-any g c = given_so _ _ (ArrivesBy c.loop-done.done c.args.self.now c.loop-done.self (g.O.Sink.seen c.args.out.now).written (g.O.Sink.seen c.loop-done.out).written (g.S.Source.seen c.args.input.now).asks (g.S.Source.seen c.loop-done.input).asks (g.O.Sink.seen c.args.out.now).puts (g.O.Sink.seen c.loop-done.out).puts)
    (RunsBy c.args.limit c.args.self.now c.loop-done.self (g.O.Sink.seen c.args.out.now).written (g.O.Sink.seen c.loop-done.out).written (g.S.Source.seen c.args.input.now).asks (g.S.Source.seen c.loop-done.input).asks (g.O.Sink.seen c.args.out.now).puts (g.O.Sink.seen c.loop-done.out).puts (answer_of c.loop-done.self)) c.loop-done.invariant.any (λ left left' arrives parts given k is.
    at_limit parts given k c.loop-done.done c.args.limit c.loop-done.self (Some left) (Some left') (g.O.Sink.seen c.args.out.now).written (g.O.Sink.seen c.loop-done.out).written
    (g.S.Source.seen c.args.input.now).asks (g.S.Source.seen c.loop-done.input).asks (g.O.Sink.seen c.args.out.now).puts (g.O.Sink.seen c.loop-done.out).puts (omega arith) (arrives parts given k is))

pub returns-clause-silent : goal.returns-clause-silent
returns-clause-silent g c = λ parts given k left is quiet. (
  c.loop-done.invariant.silent parts given k left is quiet,
  at_limit parts given k c.loop-done.done c.args.limit c.loop-done.self left left (g.O.Sink.seen c.args.out.now).written (g.O.Sink.seen c.loop-done.out).written
      (g.S.Source.seen c.args.input.now).asks (g.S.Source.seen c.loop-done.input).asks (g.O.Sink.seen c.args.out.now).puts (g.O.Sink.seen c.loop-done.out).puts (omega arith)
      (c.loop-done.invariant.arrives parts given k left left is (inr (quiet, refl))),
)
