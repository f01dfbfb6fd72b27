use Rattle.std.proofs.Common.{◌≡◌, ◌-◌, ◌^◌, ℕ, List, [], drop, slice_get, Option, None, Some, Ok, MatchOption, refl, sym, ap, subst, ◌∙◌}
use Rattle.ckc_outside.proofs.Giving.{after_none}
use Rattle.ckc_rv.specs.Effects.{following}
use Rattle.ckc_rv.specs.Machine.{with_register}
use Rattle.ckc_machine.specs.declared.observed.Observed.{Observed}
use Rattle.ckc_machine.specs.Points.{state_at}
use Rattle.ckc_machine.specs.Runs.{Runs, answer_of, state_of}
use Rattle.ckc_machine.proofs.Arrivals.{got_word, arrives_getting, fails_getting, runs_going}
use Rattle.ckc_machine.proofs.Giving.{asked_once, GetsBy}
use Rattle.ckc_machine.proofs.machine.Machine.get.Goals as goal

-- the word of a byte, or of the end
got_is : (next : Option ℕ) (word : ℕ) → MatchOption next (word ≡ 2 ^ 32 - 1) (λ byte. word ≡ byte) → word ≡ got_word next
got_is (Some byte) word h = h
got_is None word h = h

pub returns-in-Ok-clause-exact : goal.returns-in-Ok-clause-exact
returns-in-Ok-clause-exact g c = λ parts given k written puts is call.
    let m = c.args.self.now in
    let m' = c.go_on.new.self in
    let left = (g.S.Source.seen c.args.input.now).left in
    let left' = (g.S.Source.seen c.next.new.self).left in
    let rest = (state_at parts given k).input in
    let told = c.in-Ok.ensures.told rest is.rest in
    let answer = c.go_on.ensures.answer ∙ c.requires in
    runs_going parts given k m' left left' written written (g.S.Source.seen c.args.input.now).asks (g.S.Source.seen c.next.new.self).asks puts puts answer
    (arrives_getting parts given k m m' left left' written written (g.S.Source.seen c.args.input.now).asks (g.S.Source.seen c.next.new.self).asks puts puts c.in-Ok.next is c.requires call told.0
    c.go_on.ensures.code
    (λ l. c.go_on.ensures.state l ∙ ap (λ v. record (state_of m l) { x = with_register m.regs.x 10 v; pc = following m.pc }) (got_is c.in-Ok.next c.byte_or_end.result c.byte_or_end.ensures.word))
    answer told.1 refl c.next.ensures.asked refl)

pub returns-in-Ok-clause-any : goal.returns-in-Ok-clause-any
returns-in-Ok-clause-any g c =
    let m = c.args.self.now in
    let m' = c.go_on.new.self in
    let next : Option ℕ = c.in-Ok.next in
    let asks = (g.S.Source.seen c.args.input.now).asks in
    let asks' = (g.S.Source.seen c.next.new.self).asks in
    let answer = c.go_on.ensures.answer ∙ c.requires in
    asked_once _ _ next (GetsBy m m' asks asks' (answer_of m')) c.in-Ok.ensures.answered c.in-Ok.ensures.nothing c.next.ensures.stays
    (λ e. c.in-Ok.ensures.end (ap (λ (o : Option ℕ). Ok o) e)) c.byte_or_end.ensures.small (λ rest first parts given k written puts is call.
    let same : rest ≡ (state_at parts given k).input = (let e = is.rest in cc) in
    runs_going parts given k m' (Some rest) (Some (drop 1 rest)) written written asks asks' puts puts answer
    (arrives_getting parts given k m m' (Some rest) (Some (drop 1 rest)) written written asks asks' puts puts next is c.requires call (first ∙ ap (λ (l : List ℕ). slice_get l 0) same)
    c.go_on.ensures.code
    (λ l. c.go_on.ensures.state l ∙ ap (λ v. record (state_of m l) { x = with_register m.regs.x 10 v; pc = following m.pc }) (got_is next c.byte_or_end.result c.byte_or_end.ensures.word))
    answer (ap (λ (l : List ℕ). Some (drop 1 l)) same) refl c.next.ensures.asked refl))

pub returns-in-Err-clause-any : goal.returns-in-Err-clause-any
returns-in-Err-clause-any g c =
    let m = c.args.self.now in
    let m' = c.halt.new.self in
    let asks = (g.S.Source.seen c.args.input.now).asks in
    let asks' = (g.S.Source.seen c.next.new.self).asks in (
      [],
      record { count = c.in-Err.ensures.answered ∙ after_none ℕ _; bytes = tt; none = λ t. refl; stays = c.next.ensures.stays },
      λ rest may parts given k written puts is call.
          subst (λ (o : Observed). Runs parts given k 1 m' (Some rest) (Some rest) written written asks asks' puts puts o) (sym c.halt.ensures.answer)
          (fails_getting parts given k m m' (Some rest) (Some rest) written written asks asks' puts puts is call is.rest c.next.ensures.asked refl),
    )

pub returns-in-Err-clause-exact : goal.returns-in-Err-clause-exact
returns-in-Err-clause-exact g c = λ parts given k written puts is call.
    let m = c.args.self.now in
    let m' = c.halt.new.self in
    let left = (g.S.Source.seen c.args.input.now).left in
    let left' = (g.S.Source.seen c.next.new.self).left in
    let asks = (g.S.Source.seen c.args.input.now).asks in
    let asks' = (g.S.Source.seen c.next.new.self).asks in
    subst (λ (o : Observed). Runs parts given k 1 m' left left' written written asks asks' puts puts o) (sym c.halt.ensures.answer)
    (fails_getting parts given k m m' left left' written written asks asks' puts puts is call (c.in-Err.ensures.told (state_at parts given k).input is.rest) c.next.ensures.asked refl)
