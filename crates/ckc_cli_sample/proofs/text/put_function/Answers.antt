use Rattle.std.proofs.Common.{List, ℕ, [], ◌∷◌, ◌++◌, codes, refl}
use Rattle.ckc_cli_sample.specs.Sample.{head_line, loop_line, call_lines}
use Rattle.ckc_cli_sample.proofs.Growing.{grows_both}
use Rattle.ckc_cli_sample.proofs.text.put_function.Goals as goal

pub returns : goal.returns
returns c =
    let head : List (List ℕ) = head_line c.args.j ∷ [] in
    let locals : List (List ℕ) = codes "  int i;" ∷ codes "  int s = 0;" ∷ codes "  int r = 0;" ∷ [] in
    let loop : List (List ℕ) = loop_line c.args.added ∷ [] in
    let puts : List (List ℕ) = codes "  putchar(a[0]);" ∷ [] in
    let last : List (List ℕ) = codes "  return s + r;" ∷ codes "}" ∷ [] in
    let one = c.in_ok-put_line.ensures (head_line c.args.j) c.head_line.ensures in
    let two = grows_both _ _ _ head locals one c.in_ok-put.ensures in
    let three = grows_both _ _ _ (head ++ locals) loop two (c.in_ok-put_line-2.ensures (loop_line c.args.added) c.loop_line.ensures) in
    let four = grows_both _ _ _ (head ++ locals ++ loop) puts three c.in_ok-put-2.ensures in
    let five = grows_both _ _ _ (head ++ locals ++ loop ++ puts) (call_lines c.args.j) four c.in_ok-put_call.ensures in
    grows_both _ _ _ (head ++ locals ++ loop ++ puts ++ call_lines c.args.j) last five c.in_ok-put-3.ensures
