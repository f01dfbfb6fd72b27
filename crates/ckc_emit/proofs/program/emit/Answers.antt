use Rattle.std.proofs.Common.{◌≡◌, sym, subst, Result, Ok, Err, IfOk, arith}
use Rattle.ckc_emit.proofs.AddedCode.{labels_few}
use Rattle.ckc_emit.proofs.Assembling.{program_can, program_size_within, program_spares}
use Rattle.ckc_emit.proofs.Promised.{promised_placed, promised_stores, promised_lists}
use Rattle.ckc_emit.proofs.program.emit.Goals as goal

-- what is one value has what that value has
has_of : {A E : Type 0} (r : Result A E) (a : A) (P : A → Type 0) → P a → IfOk r (λ x. x ≡ a) → IfOk r P
has_of (Ok x) a P h e = subst P (sym e) h
has_of (Err f) a P h e = tt

has_with : {A E : Type 0} (r : Result A E) (a : A) (P Q : A → Type 0) → (Q a → P a) → IfOk r (λ x. x ≡ a) → IfOk r Q → IfOk r P
has_with (Ok x) a P Q h e q = subst P (sym e) (h (subst Q e q))
has_with (Err f) a P Q h e q = tt

pub emitted-requires-clause-fits : goal.emitted-requires-clause-fits
emitted-requires-clause-fits c = omega (arith, labels_few c.args.p.now, c.requires.fits)

pub returns-clause-can : goal.returns-clause-can
returns-clause-can c = has_of c.emitted.result _ _ (program_can c.args.p.now c.requires.whole c.requires.fits c.requires.initial) c.emitted.ensures.lines

pub returns-clause-size : goal.returns-clause-size
returns-clause-size c = has_of c.emitted.result _ _ (program_size_within c.args.p.now c.requires.whole) c.emitted.ensures.lines

pub returns-clause-spared : goal.returns-clause-spared
returns-clause-spared c = has_of c.emitted.result _ _ (program_spares c.args.p.now c.requires.whole) c.emitted.ensures.lines

pub returns-clause-follows : goal.returns-clause-follows
returns-clause-follows c =
    has_with c.emitted.result _ _ _ (λ bytes parts built. promised_placed c.args.p.now c.requires.whole c.requires.fits bytes parts built) c.emitted.ensures.lines c.emitted.ensures.bytes

pub returns-clause-stores : goal.returns-clause-stores
returns-clause-stores c =
    has_with c.emitted.result _ _ _ (λ bytes parts built. promised_stores c.args.p.now c.requires.whole c.requires.fits bytes parts built) c.emitted.ensures.lines c.emitted.ensures.bytes

pub returns-clause-listed : goal.returns-clause-listed
returns-clause-listed c =
    has_with c.emitted.result _ _ _ (λ bytes parts built. promised_lists c.args.p.now c.requires.whole c.requires.fits bytes parts built) c.emitted.ensures.lines c.emitted.ensures.bytes
