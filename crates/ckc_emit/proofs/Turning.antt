-- The turns of the loops over operations, blocks and functions.
use Rattle.std.proofs.Common.{◌≡◌, ℕ, ◌+◌, ◌<◌, ◌≤◌, Bool, List, ◌∷◌, ◌++◌, length, take, drop, get_or, sym, ap, ◌∙◌, arith}
use Rattle.std.specs.Prelude.{sum_by}
use Rattle.std.proofs.lemmas.List.{at_drop_more, take_all}
use Rattle.std.proofs.lemmas.List.Sums.{sum_by_more, sum_by_more_le}
use Rattle.ckc_asm_lines.specs.declared.lines.Line.{Line}
use Rattle.ckc_tac.specs.declared.code.TacBlock.{TacBlock}
use Rattle.ckc_tac.specs.declared.code.TacOp.{TacOp}
use Rattle.ckc_frame.specs.declared.code.PlacedFunc.{PlacedFunc}
use Rattle.ckc_frame.specs.Meaning.{is_call, calls_in}
use Rattle.ckc_emit.specs.code.Emitting.{Emits}
use Rattle.ckc_emit.specs.code.ProgramLines.{label_of, op_lines, ops_lines, block_lines, blocks_lines, function_lines, functions_lines}

-- an element that was read from a list is that at any default
read_is : {X : Type 0} (xs : List X) (i : ℕ) (x : X) → x ≡ get_or xs i x → get_or xs i x ≡ x
read_is xs i x e = sym e

pub ops_turn : (functions : List PlacedFunc) (f : PlacedFunc) (n m i : ℕ) (ops : List TacOp) (op : TacOp) (old out new : List Line) (all : List Line → List Line)
    → i < length ops → op ≡ get_or ops i op → m ≡ n + is_call op → Emits out new (op_lines functions f n op)
    → ((rest : List Line) → out ++ ops_lines functions f n (drop i ops) rest ≡ old ++ all rest)
    → (rest : List Line) → new ++ ops_lines functions f m (drop (i + 1) ops) rest ≡ old ++ all rest
ops_turn functions f n m i ops op old out new all h e counted emitted so_far rest =
    let more = drop (i + 1) ops in
    ap (λ k. new ++ ops_lines functions f k more rest) counted
    ∙ emitted (ops_lines functions f (n + is_call op) more rest)
    ∙ ap (λ x. out ++ ops_lines functions f n (x ∷ more) rest) e
    ∙ ap (λ l. out ++ l) (sym (at_drop_more (λ xs. ops_lines functions f n xs rest) ops i op h))
    ∙ so_far rest

pub blocks_turn : (near turned : Bool) (functions : List PlacedFunc) (f : PlacedFunc) (first b c n m i : ℕ) (blocks : List TacBlock) (block : TacBlock) (old out new : List Line) (all : List Line → List Line)
    → i < length blocks → block ≡ get_or blocks i block → c ≡ b + 1 → m ≡ n + calls_in block → Emits out new (block_lines near turned functions f first b n block)
    → ((rest : List Line) → out ++ blocks_lines near turned functions f first b n (drop i blocks) rest ≡ old ++ all rest)
    → (rest : List Line) → new ++ blocks_lines near turned functions f first c m (drop (i + 1) blocks) rest ≡ old ++ all rest
blocks_turn near turned functions f first b c n m i blocks block old out new all h e numbered counted emitted so_far rest =
    let more = drop (i + 1) blocks in
    ap (λ k. new ++ blocks_lines near turned functions f first k m more rest) numbered
    ∙ ap (λ k. new ++ blocks_lines near turned functions f first (b + 1) k more rest) counted
    ∙ emitted (blocks_lines near turned functions f first (b + 1) (n + calls_in block) more rest)
    ∙ ap (λ x. out ++ blocks_lines near turned functions f first b n (x ∷ more) rest) e
    ∙ ap (λ l. out ++ l) (sym (at_drop_more (λ xs. blocks_lines near turned functions f first b n xs rest) blocks i block h))
    ∙ so_far rest

pub functions_turn : (functions : List PlacedFunc) (label next i : ℕ) (fs : List PlacedFunc) (f : PlacedFunc) (old out new : List Line) (all : List Line → List Line)
    → i < length fs → f ≡ get_or fs i f → next ≡ label + (length f.code.blocks + 1) → Emits out new (function_lines functions f label)
    → ((rest : List Line) → out ++ functions_lines functions label (drop i fs) rest ≡ old ++ all rest)
    → (rest : List Line) → new ++ functions_lines functions next (drop (i + 1) fs) rest ≡ old ++ all rest
functions_turn functions label next i fs f old out new all h e labelled emitted so_far rest =
    let more = drop (i + 1) fs in
    ap (λ k. new ++ functions_lines functions k more rest) labelled
    ∙ emitted (functions_lines functions (label + (length f.code.blocks + 1)) more rest)
    ∙ ap (λ x. out ++ functions_lines functions label (x ∷ more) rest) e
    ∙ ap (λ l. out ++ l) (sym (at_drop_more (λ xs. functions_lines functions label xs rest) fs i f h))
    ∙ so_far rest

-- ---- labels

abbrev pub labels_in : PlacedFunc → ℕ
labels_in f = length f.code.blocks + 1

pub label_more : (fs : List PlacedFunc) (i : ℕ) (f : PlacedFunc) → i < length fs → f ≡ get_or fs i f → label_of fs (i + 1) ≡ label_of fs i + (length f.code.blocks + 1)
label_more fs i f h e =
    let one : sum_by labels_in (take (i + 1) fs) ≡ sum_by labels_in (take i fs) + labels_in f =
    sum_by_more labels_in fs i f h ∙ ap (λ g. sum_by labels_in (take i fs) + labels_in g) (sym e) in
    omega (arith, one)

-- all labels are below that after the last function
pub label_below : (fs : List PlacedFunc) (i : ℕ) (f : PlacedFunc) → i < length fs → f ≡ get_or fs i f → label_of fs i + (length f.code.blocks + 1) ≤ label_of fs (length fs)
label_below fs i f h e =
    let all : take (length fs) fs ≡ fs = take_all (length fs) fs (omega arith) in
    let bound = sum_by_more_le labels_in fs i f h in
    let here : labels_in (get_or fs i f) ≡ labels_in f = ap labels_in (sym e) in
    let whole : sum_by labels_in (take (length fs) fs) ≡ sum_by labels_in fs = ap (sum_by labels_in) all in
    omega (arith, bound, here, whole)
