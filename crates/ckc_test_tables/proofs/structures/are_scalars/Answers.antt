use Rattle.std.proofs.Common.{ap, sym, refl, ◌∙◌, ◌++◌, [], ◌∷◌, take, arith}
use Rattle.std.proofs.lemmas.List.{take_all, take_more}
use Rattle.std.proofs.lemmas.List.Elements.{All-push, All-same}
use Rattle.ckc_types.specs.Scalars.{IsScalar}
use Rattle.ckc_test_tables.proofs.structures.are_scalars.Goals as goal

pub loop-m-preserved : goal.loop-m-preserved
loop-m-preserved c =
    let members = c.args.members.now in
    let i = c.loop-m.m-index in
    let m = c.m-item.result in
    let is = take_more members i m c.loop-m-test.true ∙ ap (λ n. take i members ++ n ∷ []) (sym c.m-item.is) in
    All-same (λ n. IsScalar n.ctype) _ _ is (All-push (λ n. IsScalar n.ctype) (take i members) m c.loop-m.invariant (c.if-not-is_scalar.ensures refl))

pub returns : goal.returns
returns c = λ all.
    let members = c.args.members.now in
    All-same (λ n. IsScalar n.ctype) _ _ (sym (take_all c.loop-m.m-index members (omega arith))) c.loop-m.invariant
