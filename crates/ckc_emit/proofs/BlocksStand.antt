-- The start, the entries of functions and the blocks of a program stand at their labels.
use Rattle.std.proofs.Common.{◌≡◌, ℕ, zero, suc, ◌+◌, ◌≤◌, ◌<◌, Bool, List, [], ◌∷◌, length, drop, get_or, Some, refl, sym, ap, subst, ◌∙◌, arith}
use Rattle.std.specs.Prelude.{All}
use Rattle.std.specs.List.{slice_get}
use Rattle.std.proofs.lemmas.List.Elements.{All-head, All-tail}
use Rattle.std.proofs.lemmas.List.Sums.{sum_by_more}
use Rattle.ckc_rv.specs.Machine.{Parts}
use Rattle.ckc_asm_lines.specs.declared.lines.Line.{Line}
use Rattle.ckc_asm_lines.specs.Assembled.{Assembled}
use Rattle.ckc_tac.specs.declared.code.TacBlock.{TacBlock}
use Rattle.ckc_tac.specs.WellFormed.{IsBlockOver, IsFunctionOver}
use Rattle.ckc_tac.specs.Sizes.{block_size}
use Rattle.ckc_frame.specs.declared.code.Placed.{Placed}
use Rattle.ckc_frame.specs.declared.code.PlacedFunc.{PlacedFunc}
use Rattle.ckc_frame.specs.Meaning.{calls_in, calls_in_front}
use Rattle.ckc_frame.specs.WellFormed.{IsPlacedWhole, IsWellFormed}
use Rattle.ckc_emit.specs.CodeSize.{code_size}
use Rattle.ckc_emit.specs.code.Lines.{store_lines}
use Rattle.ckc_emit.specs.code.ProgramLines.{label_of, ops_lines, end_lines, block_lines, blocks_lines, body_lines, is_near, is_turned, function_lines, functions_lines, program_lines, codes_of}
use Rattle.ckc_emit.proofs.Paths.{Code, LinesAt}
use Rattle.ckc_emit.proofs.Placing.{code_of, all_stand}
use Rattle.ckc_emit.proofs.Standing.{BeginsWith, BlockStands, EntryStands, Stands}
use Rattle.ckc_emit.proofs.Pieces.{stand_behind, in_front}
use Rattle.ckc_emit.proofs.Added.{near_store_adds}
use Rattle.ckc_emit.proofs.AddedCode.{labels_for, extra_of, far_labels, block_adds, function_adds, start_adds, label_fits, callable}
use Rattle.ckc_emit.proofs.Turning.{label_more, label_below}
use Rattle.ckc_emit.proofs.Assembling.{program_size_within, program_once}

-- ---- what is left of a list

-- an element, and what follows it
pub record IsNext {X : Type 0} (xs : List X) (k : ℕ) (x : X) (more : List X) : Type 0 where
  pub below : k < length xs
  pub is : x ≡ get_or xs k x
  pub rest : drop (k + 1) xs ≡ more

further : {X : Type 0} (y : X) (ys : List X) (k : ℕ) (x : X) (more : List X) → IsNext ys k x more → IsNext (y ∷ ys) (suc k) x more
further y ys k x more n = record { below = omega (arith, n.below); is = n.is; rest = (let one : suc k + 1 ≡ suc (k + 1) = omega arith in ap (λ j. drop j (y ∷ ys)) one ∙ n.rest) }

nothing_left : {X : Type 0} (k : ℕ) (none : List X) → none ≡ [] → drop k none ≡ []
nothing_left zero none e = e
nothing_left (suc k) [] e = refl
nothing_left (suc k) (x ∷ xs) e = absurd cc

next_of : {X : Type 0} (xs : List X) (k : ℕ) (x : X) (more : List X) → drop k xs ≡ x ∷ more → IsNext xs k x more
next_of [] k x more e = absurd (let f = sym (nothing_left k [] refl) ∙ e in cc)
next_of (y ∷ ys) zero x more e =
    let same : y ≡ x = cc in
    record { below = omega arith; is = sym same; rest = (let f : ys ≡ more = cc in f) }
next_of (y ∷ ys) (suc k) x more e = further y ys k x more (next_of ys k x more e)

past : {X : Type 0} (xs : List X) (k : ℕ) (x : X) → slice_get xs k ≡ Some x → drop k xs ≡ [] → ⊥
past [] k x e f = cc
past (y ∷ ys) zero x e f = cc
past (y ∷ ys) (suc k) x e f = past ys k x e f

module _ (functions : List PlacedFunc) (placed : All IsPlacedWhole functions) (over : All (IsFunctionOver (codes_of functions)) (codes_of functions)) (c : Code) where
  -- ---- the blocks of a function

  module _ (index : ℕ) (f : PlacedFunc) (whole : IsPlacedWhole f) (fits : label_of functions index + (length f.code.blocks + 1) ≤ label_of functions (length functions)) where
    abbrev label : ℕ
    label = label_of functions index

    abbrev first : ℕ
    first = label + 1

    abbrev near : Bool
    near = is_near functions f label

    abbrev turned : Bool
    turned = is_turned functions f label

    abbrev blocks : List TacBlock
    blocks = f.code.blocks

    abbrev IsOver : TacBlock → Type 0
    IsOver block = IsBlockOver (codes_of functions) (length blocks) f.code.regs block

    begins : (b n : ℕ) (xs : List TacBlock) (ys : List Line) → drop b blocks ≡ xs → BeginsWith functions index blocks b (blocks_lines near turned functions f first b n xs ys)
    begins b n [] ys d = λ block e. absurd (past blocks b block e d)
    begins b n (x ∷ xs) ys d = λ block e. (_, refl)

    blocks_stand : (b : ℕ) (xs : List TacBlock) (ys : List Line) (pc : ℕ) → drop b blocks ≡ xs → All IsOver blocks → All IsOver xs → LinesAt c pc (blocks_lines near turned functions f first b (calls_in_front blocks b) xs ys)
        → (j : ℕ) (block : TacBlock) → slice_get xs j ≡ Some block → BlockStands functions c index f (b + j) block
    blocks_stand b [] ys pc d all o at j block e = absurd cc
    blocks_stand b (x ∷ xs) ys pc d all o at zero block e =
        let n = calls_in_front blocks b in
        let next = next_of blocks b x xs d in
        let same : x ≡ block = cc in
        let more : List Line = blocks_lines near turned functions f first (b + 1) (n + calls_in x) xs ys in
        let here : BlockStands functions c index f b x = record {
          behind = more;
          there = subst (λ q. LinesAt c q (ops_lines functions f n x.ops (end_lines near turned functions f first (b + 1) x.end more))) (sym at.0) at.1;
          next = begins (b + 1) (n + calls_in x) xs ys next.rest;
        } in
        let none : b ≡ b + 0 = omega arith in
        subst (λ q. BlockStands functions c index f q block) none (subst (λ y. BlockStands functions c index f b y) same here)
    blocks_stand b (x ∷ xs) ys pc d all o at (suc j) block e =
        let n = calls_in_front blocks b in
        let next = next_of blocks b x xs d in
        let counted : n + calls_in x ≡ calls_in_front blocks (b + 1) = ap (λ y. n + calls_in y) next.is ∙ sym (sum_by_more calls_in blocks b x next.below) in
        let more : List Line = blocks_lines near turned functions f first (b + 1) (n + calls_in x) xs ys in
        let behind = stand_behind (labels_for functions near f label) c pc (first + b) (first + b + 1) (block_size x + extra_of turned) (block_lines near turned functions f first b n x more) more
        (block_adds functions placed over near turned f whole label fits b n x more all (All-head IsOver x xs o)) at in
        let tail = blocks_stand (b + 1) xs ys behind.0 next.rest all (All-tail IsOver x xs o) (subst (λ k. LinesAt c behind.0 (blocks_lines near turned functions f first (b + 1) k xs ys)) counted behind.1) j block e in
        let one : b + 1 + j ≡ b + suc j = omega arith in
        subst (λ q. BlockStands functions c index f q block) one tail

  -- ---- functions

  pub record FunctionStands (index : ℕ) (f : PlacedFunc) : Type 0 where
    pub entry : EntryStands functions c index f
    pub each : (b : ℕ) (block : TacBlock) → slice_get f.code.blocks b ≡ Some block → BlockStands functions c index f b block

  function_stands : (index : ℕ) (f : PlacedFunc) (ys : List Line) (pc : ℕ) → IsPlacedWhole f → IsFunctionOver (codes_of functions) f.code → label_of functions index + (length f.code.blocks + 1) ≤ label_of functions (length functions)
      → LinesAt c pc (function_lines functions f (label_of functions index) ys) → FunctionStands index f
  function_stands index f ys pc whole o fits at =
      let label = label_of functions index in
      let first = label + 1 in
      let near = is_near functions f label in
      let turned = is_turned functions f label in
      let lines : List Line = blocks_lines near turned functions f first 0 0 f.code.blocks [] in
      let own = in_front c pc (body_lines near turned functions f label) ys at in
      let far = far_labels 0 in
      let behind = stand_behind far c pc first first 1 (store_lines 1 2 0 lines) lines (near_store_adds far first 1 2 0 lines (omega arith) (omega arith) (omega arith)) own.1 in
      record {
        entry = record {
          behind = lines;
          there = subst (λ q. LinesAt c q (store_lines 1 2 0 lines)) (sym own.0) own.1;
          next = begins index f whole fits 0 0 f.code.blocks [] refl;
        };
        each = λ b block e.
            let s = blocks_stand index f whole fits 0 f.code.blocks [] behind.0 refl o.2 o.2 behind.1 b block e in
            let none : 0 + b ≡ b = omega arith in
            subst (λ q. BlockStands functions c index f q block) none s;
      }

  functions_stand : (i : ℕ) (fs : List PlacedFunc) (ys : List Line) (pc : ℕ) → drop i functions ≡ fs → All IsPlacedWhole fs → All (IsFunctionOver (codes_of functions)) (codes_of fs)
      → LinesAt c pc (functions_lines functions (label_of functions i) fs ys) → (j : ℕ) (f : PlacedFunc) → slice_get fs j ≡ Some f → FunctionStands (i + j) f
  functions_stand i [] ys pc d p o at j f e = absurd cc
  functions_stand i (g ∷ gs) ys pc d p o at zero f e =
      let next = next_of functions i g gs d in
      let same : g ≡ f = cc in
      let bound = label_below functions i g next.below next.is in
      let here = function_stands i g _ pc (All-head IsPlacedWhole g gs p) (All-head (IsFunctionOver (codes_of functions)) g.code (codes_of gs) o) bound at in
      let none : i ≡ i + 0 = omega arith in
      subst (λ q. FunctionStands q f) none (subst (λ h. FunctionStands i h) same here)
  functions_stand i (g ∷ gs) ys pc d p o at (suc j) f e =
      let next = next_of functions i g gs d in
      let bound = label_below functions i g next.below next.is in
      let label = label_of functions i in
      let more : List Line = functions_lines functions (label + (length g.code.blocks + 1)) gs ys in
      let own = labels_for functions (is_near functions g label) g label in
      let behind = stand_behind own c pc label (label + (length g.code.blocks + 1)) _ (function_lines functions g label more) more
      (function_adds functions placed over g (All-head IsPlacedWhole g gs p) label more (All-head (IsFunctionOver (codes_of functions)) g.code (codes_of gs) o) bound) at in
      let tail = functions_stand (i + 1) gs ys behind.0 next.rest (All-tail IsPlacedWhole g gs p) (All-tail (IsFunctionOver (codes_of functions)) g.code (codes_of gs) o)
      (subst (λ l. LinesAt c behind.0 (functions_lines functions l gs ys)) (sym (label_more functions i g next.below next.is)) behind.1) j f e in
      let one : i + 1 + j ≡ i + suc j = omega arith in
      subst (λ q. FunctionStands q f) one tail

-- ---- programs

pub program_stands : (p : Placed) → IsWellFormed p → (c : Code) → LinesAt c 0x1000 (program_lines p) → Stands p.funcs c p.main
program_stands p w c at =
    let fs = p.funcs in
    let labels = label_of fs (length fs) in
    let main = callable (codes_of fs) fs p.main 0 w.placed w.code.functions w.code.main in
    let lines : List Line = functions_lines fs 1 fs [] in
    let behind = stand_behind (far_labels labels) c 0x1000 0 1 5 (program_lines p) lines (start_adds labels (label_of fs p.main) lines (label_fits fs p.main main.below)) at in
    let all = functions_stand fs w.placed w.code.functions c 0 fs [] behind.0 refl w.placed w.code.functions behind.1 in
    let at_index : (k : ℕ) → 0 + k ≡ k = λ k. omega arith in
    let each : (k : ℕ) (f : PlacedFunc) → slice_get fs k ≡ Some f → FunctionStands fs w.placed w.code.functions c k f = λ k f e. subst (λ q. FunctionStands fs w.placed w.code.functions c q f) (at_index k) (all k f e) in
    record {
      behind = lines;
      start = at.1;
      entry = λ k f e. (each k f e).entry;
      block = λ k f b block e g. (each k f e).each b block g;
    }

-- the assembled lines of a program stand in its parts
pub assembled_stands : (p : Placed) → IsWellFormed p → code_size p ≤ 4193280 → (parts : Parts) → Assembled (program_lines p) 0 p.initial parts.entry parts.code parts.initial
    → Stands p.funcs (code_of (program_lines p) parts) p.main
assembled_stands p w fits parts built =
    program_stands p w (code_of (program_lines p) parts)
    (all_stand (program_lines p) 0 p.initial parts built (omega (arith, program_size_within p w)) (program_once p w))
