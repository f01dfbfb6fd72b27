use Rattle.std.proofs.Common.{◌≡◌, ◌<◌, [], ◌∷◌, ◌++◌, suc, length, set, refl, ap, ◌∙◌, arith}
use Rattle.std.proofs.lemmas.List.{length_push}
use Rattle.ckc_passes_known.specs.declared.edges.Edge.{Edge}
use Rattle.ckc_passes_known.proofs.Added.{get_or_within, added_one}
use Rattle.ckc_passes_known.proofs.edges.add.Goals as goal

pub returns : goal.returns
returns c =
    let first = c.args.first.now in
    let to = c.args.to in
    let all = c.args.all.now.items in
    let edge : Edge = record { from = c.args.from; next = c.index-next.result.now } in
    let within : to < length first.items = omega arith in
    let items : c.push.new.self.items ≡ all ++ edge ∷ [] = c.in_ok-push.ensures.items in
    let last : c.len-2.result ≡ suc (length all) = (let e = ap length items in omega (arith, e, length_push all edge, c.len-2.ensures)) in
    added_one c.args.from to first.items all within edge refl (c.index-next.ensures ∙ get_or_within first.items to c.index-next.result.now 0 within) _ c.push.new.self.items (ap (λ n. set first.items to n) last) items
