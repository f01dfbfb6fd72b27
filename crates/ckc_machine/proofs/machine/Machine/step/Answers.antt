use Rattle.std.proofs.Common.{inl, inr, ℕ, List, [], Option, Some, refl, sym, ap, subst, ◌∙◌}
use Rattle.ckc_rv.specs.Machine.{Parts}
use Rattle.ckc_machine.specs.declared.machine.Machine.{Machine}
use Rattle.ckc_machine.specs.declared.observed.Observed.{Observed}
use Rattle.ckc_machine.specs.Points.{state_at}
use Rattle.ckc_machine.specs.Runs.{IsAt, Runs, answer_of, read_faults, write_faults}
use Rattle.ckc_machine.proofs.Arrivals.{fed_same}
use Rattle.ckc_machine.proofs.Giving.{not_asked, given_so, RunsBy, GetsBy}
use Rattle.ckc_machine.proofs.Stepping.{asks_here, next_runs, store_runs, halt_runs, no_read_fails, no_write_fails}
use Rattle.ckc_machine.proofs.machine.Machine.step.Goals as goal

-- some parts with the code of a machine
abbrev parts_of : Machine → Parts
parts_of m = record { entry = 0; code = m.memory.code.now; initial = [] }

pub go_on-requires : goal.go_on-requires
go_on-requires g c = (c.in-Next.ensures (parts_of c.args.self.now) [] refl).0

pub store-requires-clause-aligned : goal.store-requires-clause-aligned
store-requires-clause-aligned g c = (c.in-Store.ensures (parts_of c.args.self.now) [] refl).0

pub store-requires-clause-start : goal.store-requires-clause-start
store-requires-clause-start g c = (c.in-Store.ensures (parts_of c.args.self.now) [] refl).1

pub store-requires-clause-end : goal.store-requires-clause-end
store-requires-clause-end g c = (c.in-Store.ensures (parts_of c.args.self.now) [] refl).2

pub returns-in-Next-clause-exact : goal.returns-in-Next-clause-exact
returns-in-Next-clause-exact g c = λ parts given k left left' is fed.
    next_runs parts given k c.args.self.now c.go_on.new.self left left' (g.O.Sink.seen c.args.out.now).written (g.S.Source.seen c.args.input.now).asks (g.O.Sink.seen c.args.out.now).puts
    c.requires c.go_on.ensures.code (fed_same (g.S.Source.seen c.args.input.now).left _ left left' fed) is
    c.in-Next.rd c.in-Next.value c.in-Next.pc (c.in-Next.ensures parts (state_at parts given k).input (sym is.code)) c.go_on.ensures.state c.go_on.ensures.answer

pub returns-in-Next-clause-any : goal.returns-in-Next-clause-any
returns-in-Next-clause-any g c = not_asked _ (RunsBy 1 c.args.self.now c.go_on.new.self (g.O.Sink.seen c.args.out.now).written (g.O.Sink.seen c.args.out.now).written (g.S.Source.seen c.args.input.now).asks (g.S.Source.seen c.args.input.now).asks (g.O.Sink.seen c.args.out.now).puts (g.O.Sink.seen c.args.out.now).puts (answer_of c.go_on.new.self)) (λ rest parts given k is.
    next_runs parts given k c.args.self.now c.go_on.new.self (Some rest) (Some rest) (g.O.Sink.seen c.args.out.now).written (g.S.Source.seen c.args.input.now).asks (g.O.Sink.seen c.args.out.now).puts
    c.requires c.go_on.ensures.code refl is
    c.in-Next.rd c.in-Next.value c.in-Next.pc (c.in-Next.ensures parts (state_at parts given k).input (sym is.code)) c.go_on.ensures.state c.go_on.ensures.answer)

pub returns-in-Store-clause-exact : goal.returns-in-Store-clause-exact
returns-in-Store-clause-exact g c = λ parts given k left left' is fed.
    store_runs parts given k c.args.self.now c.store.new.self left left' (g.O.Sink.seen c.args.out.now).written (g.S.Source.seen c.args.input.now).asks (g.O.Sink.seen c.args.out.now).puts
    c.requires c.store.ensures.code (fed_same (g.S.Source.seen c.args.input.now).left _ left left' fed) is
    c.in-Store.op c.in-Store.a c.in-Store.value (c.in-Store.ensures parts (state_at parts given k).input (sym is.code)) c.store.ensures.state c.store.ensures.answer

pub returns-in-Store-clause-any : goal.returns-in-Store-clause-any
returns-in-Store-clause-any g c = not_asked _ (RunsBy 1 c.args.self.now c.store.new.self (g.O.Sink.seen c.args.out.now).written (g.O.Sink.seen c.args.out.now).written (g.S.Source.seen c.args.input.now).asks (g.S.Source.seen c.args.input.now).asks (g.O.Sink.seen c.args.out.now).puts (g.O.Sink.seen c.args.out.now).puts (answer_of c.store.new.self)) (λ rest parts given k is.
    store_runs parts given k c.args.self.now c.store.new.self (Some rest) (Some rest) (g.O.Sink.seen c.args.out.now).written (g.S.Source.seen c.args.input.now).asks (g.O.Sink.seen c.args.out.now).puts
    c.requires c.store.ensures.code refl is
    c.in-Store.op c.in-Store.a c.in-Store.value (c.in-Store.ensures parts (state_at parts given k).input (sym is.code)) c.store.ensures.state c.store.ensures.answer)

pub returns-in-Put-clause-exact : goal.returns-in-Put-clause-exact
returns-in-Put-clause-exact g c = λ parts given k left left' is fed.
    let m' = c.put.new.self in
    let asks = (g.S.Source.seen c.args.input.now).asks in
    let turn = c.in-Put.ensures parts (state_at parts given k).input (sym is.code) in
    let same = fed_same (g.S.Source.seen c.args.input.now).left _ left left' fed in
    subst (λ (l : Option (List ℕ)). Runs parts given k 1 m' left l (g.O.Sink.seen c.args.out.now).written (g.O.Sink.seen c.put.new.out).written asks asks (g.O.Sink.seen c.args.out.now).puts (g.O.Sink.seen c.put.new.out).puts (answer_of m')) (sym same)
    (c.put.ensures.exact parts given k left asks is (asks_here parts given k 1 c.args.self.now left is turn.1) turn.0)

pub returns-in-Put-clause-any : goal.returns-in-Put-clause-any
returns-in-Put-clause-any g c = not_asked _ (RunsBy 1 c.args.self.now c.put.new.self (g.O.Sink.seen c.args.out.now).written (g.O.Sink.seen c.put.new.out).written (g.S.Source.seen c.args.input.now).asks (g.S.Source.seen c.args.input.now).asks (g.O.Sink.seen c.args.out.now).puts (g.O.Sink.seen c.put.new.out).puts (answer_of c.put.new.self)) (λ rest parts given k is.
    let turn = c.in-Put.ensures parts (state_at parts given k).input (sym is.code) in
    c.put.ensures.exact parts given k (Some rest) (g.S.Source.seen c.args.input.now).asks is (asks_here parts given k 1 c.args.self.now (Some rest) is turn.1) turn.0)

pub returns-in-Get-clause-exact : goal.returns-in-Get-clause-exact
returns-in-Get-clause-exact g c = λ parts given k left left' is fed.
    let m = c.args.self.now in
    let m' = c.get.new.self in
    let told = (g.S.Source.seen c.args.input.now).left in
    let told' = (g.S.Source.seen c.get.new.input).left in
    let written = (g.O.Sink.seen c.args.out.now).written in
    let asks = (g.S.Source.seen c.args.input.now).asks in
    let asks' = (g.S.Source.seen c.get.new.input).asks in
    let puts = (g.O.Sink.seen c.args.out.now).puts in
    let call = asks_here parts given k 2 m left is (c.in-Get.ensures parts (state_at parts given k).input (sym is.code)) in
    elim fed as (λ _. Runs parts given k 1 m' left left' written written asks asks' puts puts (answer_of m')) [
      | inl f ↦
          subst (λ (l : Option (List ℕ)). Runs parts given k 1 m' l left' written written asks asks' puts puts (answer_of m')) (sym f.0)
          (subst (λ (l : Option (List ℕ)). Runs parts given k 1 m' told l written written asks asks' puts puts (answer_of m')) (sym f.1)
          (c.get.ensures.exact parts given k written puts (subst (λ (l : Option (List ℕ)). IsAt parts given k m l) f.0 is) call))
      | inr f ↦ absurd (f.0 call)
    ]

pub returns-in-Get-clause-any : goal.returns-in-Get-clause-any
returns-in-Get-clause-any g c = given_so _ _ (GetsBy c.args.self.now c.get.new.self (g.S.Source.seen c.args.input.now).asks (g.S.Source.seen c.get.new.input).asks (answer_of c.get.new.self))
    (RunsBy 1 c.args.self.now c.get.new.self (g.O.Sink.seen c.args.out.now).written (g.O.Sink.seen c.args.out.now).written (g.S.Source.seen c.args.input.now).asks (g.S.Source.seen c.get.new.input).asks (g.O.Sink.seen c.args.out.now).puts (g.O.Sink.seen c.args.out.now).puts (answer_of c.get.new.self)) c.get.ensures.any (λ left left' runs parts given k is.
    runs parts given k (g.O.Sink.seen c.args.out.now).written (g.O.Sink.seen c.args.out.now).puts is
    (asks_here parts given k 2 c.args.self.now (Some left) is (c.in-Get.ensures parts (state_at parts given k).input (sym is.code))))

pub returns-in-Get-clause-silent : goal.returns-in-Get-clause-silent
returns-in-Get-clause-silent g c = λ parts given k left is silent.
    absurd (silent (asks_here parts given k 2 c.args.self.now left is (c.in-Get.ensures parts (state_at parts given k).input (sym is.code))))

pub returns-in-Halt-clause-exact : goal.returns-in-Halt-clause-exact
returns-in-Halt-clause-exact g c = λ parts given k left left' is fed.
    halt_runs parts given k c.args.self.now c.halt.new.self left left' (g.O.Sink.seen c.args.out.now).written (g.S.Source.seen c.args.input.now).asks (g.O.Sink.seen c.args.out.now).puts
    c.requires c.halt.ensures.code (fed_same (g.S.Source.seen c.args.input.now).left _ left left' fed) is
    c.in-Halt.answer (c.in-Halt.ensures parts (state_at parts given k).input (sym is.code)) c.halt.ensures.state c.halt.ensures.answer

pub returns-in-Halt-clause-any : goal.returns-in-Halt-clause-any
returns-in-Halt-clause-any g c = not_asked _ (RunsBy 1 c.args.self.now c.halt.new.self (g.O.Sink.seen c.args.out.now).written (g.O.Sink.seen c.args.out.now).written (g.S.Source.seen c.args.input.now).asks (g.S.Source.seen c.args.input.now).asks (g.O.Sink.seen c.args.out.now).puts (g.O.Sink.seen c.args.out.now).puts (answer_of c.halt.new.self)) (λ rest parts given k is.
    halt_runs parts given k c.args.self.now c.halt.new.self (Some rest) (Some rest) (g.O.Sink.seen c.args.out.now).written (g.S.Source.seen c.args.input.now).asks (g.O.Sink.seen c.args.out.now).puts
    c.requires c.halt.ensures.code refl is
    c.in-Halt.answer (c.in-Halt.ensures parts (state_at parts given k).input (sym is.code)) c.halt.ensures.state c.halt.ensures.answer)

pub returns-in-Halt-clause-reads : goal.returns-in-Halt-clause-reads
returns-in-Halt-clause-reads g c =
    let turn = c.in-Halt.ensures (parts_of c.args.self.now) [] refl in
    let n = (g.S.Source.seen c.args.input.now).faults in
    no_read_fails c.in-Halt.answer turn.0 n turn.1 ∙ ap (λ o. read_faults o n) (sym c.halt.ensures.answer)

pub returns-in-Halt-clause-writes : goal.returns-in-Halt-clause-writes
returns-in-Halt-clause-writes g c =
    let turn = c.in-Halt.ensures (parts_of c.args.self.now) [] refl in
    let n = (g.O.Sink.seen c.args.out.now).faults in
    no_write_fails c.in-Halt.answer turn.0 n turn.1 ∙ ap (λ o. write_faults o n) (sym c.halt.ensures.answer)
