use Rattle.std.proofs.Common.{sym, subst, refl, ◌∙◌}
use Rattle.ckc_base.specs.Traces.{Fault}
use Rattle.ckc_machine.specs.declared.machine.Turn.{Turn}
use Rattle.ckc_machine.specs.Runs.{state_of}
use Rattle.ckc_machine.specs.code.Turns.{Turns}
use Rattle.ckc_machine.proofs.Turning.{not_fetched, no_instruction, turns_with}
use Rattle.ckc_machine.proofs.machine.Machine.turn.Goals as goal

pub returns-in_default : goal.returns-in_default
returns-in_default c = λ parts input e.
    let m = c.args.self.now in
    let s = state_of m input in
    subst (λ (t : Turn). Turns parts s t) (sym c.fault.ensures) (Fault 0 m.pc, refl, not_fetched parts s (c.in_default.ensures parts e))

pub returns-in-None : goal.returns-in-None
returns-in-None c = λ parts input e.
    let m = c.args.self.now in
    let s = state_of m input in
    let f = c.in-Some.ensures parts e in
    subst (λ (t : Turn). Turns parts s t) (sym c.fault-in-None.ensures)
    (Fault 1 m.pc, refl, no_instruction parts s c.in-Some.word f.0 f.1 (sym c.word_effect.ensures.effect ∙ c.in-None.is))

pub returns-in-Some-word_effect : goal.returns-in-Some-word_effect
returns-in-Some-word_effect c = λ parts input e.
    let m = c.args.self.now in
    let s = state_of m input in
    let f = c.in-Some.ensures parts e in
    turns_with parts s c.in-Some.word c.in-Some-word_effect.out c.turn_by.result f.0 f.1 (sym c.word_effect.ensures.effect ∙ c.in-Some-word_effect.is) (c.turn_by.ensures input)
