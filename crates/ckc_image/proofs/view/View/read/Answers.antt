-- What is answered is right, so it is the only answer.
use Rattle.std.proofs.Common.{◌≡◌}
use Rattle.ckc_image.specs.Image.{ImageOf, FirstBad}
use Rattle.ckc_image.proofs.Agreement.{never_bad, same_parts, one_bad, ok_only, err_only}
use Rattle.ckc_image.proofs.view.View.read.Goals as goal

pub returns-clause-found : goal.returns-clause-found
returns-clause-found c = λ format entry code initial image.
    let bytes = c.args.bytes.now in
    ok_only c.judged.result (λ v. ImageOf v.format bytes v.entry v.code.now v.initial.now)
    (λ v. (v.format ≡ format) × (v.entry ≡ entry) × (v.code.now ≡ code) × (v.initial.now ≡ initial)) (λ e. FirstBad bytes e.0) c.judged.ensures
    (λ v i. same_parts v.format format bytes v.entry entry v.code.now code v.initial.now initial i image)
    (λ e b. never_bad format bytes entry code initial image e.0 b)

pub returns-clause-refused : goal.returns-clause-refused
returns-clause-refused c = λ k bad.
    let bytes = c.args.bytes.now in
    err_only c.judged.result (λ v. ImageOf v.format bytes v.entry v.code.now v.initial.now) (λ e. FirstBad bytes e.0) (λ e. e.0 ≡ k) c.judged.ensures
    (λ v i. never_bad v.format bytes v.entry v.code.now v.initial.now i k bad)
    (λ e b. one_bad bytes e.0 k b bad)
