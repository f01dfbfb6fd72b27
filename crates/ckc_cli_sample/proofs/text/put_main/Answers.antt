use Rattle.std.proofs.Common.{List, ℕ, [], ◌∷◌, ◌++◌, ◌-◌, codes, ap, ◌∙◌}
use Rattle.ckc_asm_listing.specs.Listing.{ended}
use Rattle.ckc_cli_sample.specs.Sample.{call_line}
use Rattle.ckc_cli_sample.proofs.Growing.{grows_both}
use Rattle.ckc_cli_sample.proofs.text.put_main.Goals as goal

pub returns : goal.returns
returns c =
    let head : List (List ℕ) = codes "int main(void) {" ∷ codes "  int r;" ∷ [] in
    let call : List (List ℕ) = call_line (c.args.size - 1) (codes "64") ∷ [] in
    let last : List (List ℕ) = codes "  return r;" ∷ codes "}" ∷ [] in
    grows_both _ _ _ (head ++ call) last (grows_both _ _ _ head call c.in_ok-put.ensures (c.in_ok-put_line.ensures (call_line (c.args.size - 1) (codes "64")) (c.call_line.ensures ∙ ap (λ k. ended (call_line k (codes "64"))) c.saturating_sub.ensures))) c.in_ok-put-2.ensures
