use Rattle.std.proofs.Common.{◌≡◌, ℕ, List, [], ◌∷◌, drop, Option, Some, Ok, inl, inr, refl, sym, ap, subst, ◌∙◌}
use Rattle.ckc_outside.specs.Outside.{GivesNext, GivesNothing, after_next}
use Rattle.ckc_source.specs.Steps.{writes_allowed}
use Rattle.ckc_interp.specs.code.Turns.{Wrote}
use Rattle.ckc_interp.specs.code.Views.{core_of}
use Rattle.ckc_outside.proofs.Giving.{after_none, after_one}
use Rattle.ckc_interp.proofs.Giving.{first_of, none_of, left_none}
use Rattle.ckc_interp.proofs.run.Run.get.Goals as goal

pub returns-in-Ok-Some-clause-gets : goal.returns-in-Ok-Some-clause-gets
returns-in-Ok-Some-clause-gets g c =
    let byte = c.in-Ok-Some.byte in
    let some = c.in-Ok-Some.field-0-is in (
      byte ∷ [],
      record {
        count = subst (λ (o : Option ℕ). (g.S.Source.seen c.next.new.self).answers ≡ after_next (Ok o) (g.S.Source.seen c.args.input.now).answers) some c.in-Ok-Some.ensures.answered ∙ after_one _ byte;
        bytes = (c.word_of.ensures.small, tt);
        none = λ t. absurd (subst (λ (o : Option ℕ). GivesNothing (Ok o)) some (c.in-Ok-Some.ensures.nothing t));
        stays = c.next.ensures.stays;
      },
      λ before e.
          let told = subst (λ (o : Option ℕ). GivesNext before (Ok o) (g.S.Source.seen c.next.new.self).left) some (c.in-Ok-Some.ensures.told before e) in
          (drop 1 before, told.1, first_of before byte told.0),
      λ rest may. inl (byte, refl, subst (λ (n : ℕ). Wrote (writes_allowed c.args.to n (core_of c.args.self.now)) (core_of c.wrote.new.self) c.args.marks.at c.args.marks.blame c.wrote.result) c.word_of.ensures.same c.wrote.ensures.done),
    )

pub returns-in-Ok-None-clause-gets : goal.returns-in-Ok-None-clause-gets
returns-in-Ok-None-clause-gets g c =
    let none = c.in-Ok-None.field-0-is in
    let told = λ (before : List ℕ) (e : (g.S.Source.seen c.args.input.now).left ≡ Some before). subst (λ (o : Option ℕ). GivesNext before (Ok o) (g.S.Source.seen c.next.new.self).left) none (c.in-Ok-None.ensures.told before e) in (
      [],
      record {
        count = subst (λ (o : Option ℕ). (g.S.Source.seen c.next.new.self).answers ≡ after_next (Ok o) (g.S.Source.seen c.args.input.now).answers) none c.in-Ok-None.ensures.answered ∙ after_none ℕ _;
        bytes = tt;
        none = λ t. refl;
        stays = c.next.ensures.stays;
      },
      λ before e.
          let t = told before e in
          (drop 1 before, t.1, let empty = none_of before t.0 in empty ∙ ap (drop 1) (sym empty)),
      λ rest may.
          let empty = left_none (g.S.Source.seen c.next.new.self).ended (g.S.Source.seen c.args.input.now).left (g.S.Source.seen c.next.new.self).left rest (c.in-Ok-None.ensures.end (ap (λ (o : Option ℕ). Ok o) none)) told may in
          inr (inl (empty, empty, c.wrote-in-Ok-None.ensures.done)),
    )

pub returns-in-Err-clause-gets : goal.returns-in-Err-clause-gets
returns-in-Err-clause-gets g c = (
  [],
  record { count = c.in-Err.ensures.answered ∙ after_none ℕ _; bytes = tt; none = λ t. refl; stays = c.next.ensures.stays },
  λ before e. (before, c.in-Err.ensures.told before e, refl),
  λ rest may. inr (inr (refl, refl)),
)
