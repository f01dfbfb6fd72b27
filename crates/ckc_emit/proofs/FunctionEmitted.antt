-- The lines of a function are emitted: with copies if there is room, else near ones if they are short, else far ones.
use Rattle.std.proofs.Common.{◌≡◌, ℕ, ◌∙◌, nat_lt, true, false, Bool, List, ◌++◌, append_assoc, length, take, drop, refl, sym, ap}
use Rattle.std.specs.Prelude.{sum_by, ◌||◌}
use Rattle.std.proofs.lemmas.List.{take_at, drop_at}
use Rattle.ckc_asm_lines.specs.declared.lines.Line.{Line}
use Rattle.ckc_asm_lines.specs.Assembled.{size_of}
use Rattle.ckc_frame.specs.declared.code.PlacedFunc.{PlacedFunc}
use Rattle.ckc_emit.specs.code.Emitting.{Emits}
use Rattle.ckc_emit.specs.code.ProgramLines.{body_lines, are_near, has_near, is_near, is_turned, room_from, function_lines}

-- what was added last
last_is : (lines old new read : List Line) (n : ℕ) → n ≡ length old → read ≡ new → new ≡ old ++ lines → drop n read ≡ lines
last_is lines old new read n count is e =
    ap (λ k. drop k read) count ∙ ap (λ l. drop (length old) l) (is ∙ e) ∙ drop_at old lines (length old) refl

-- what was there before
first_is : (lines old long kept : List Line) (n : ℕ) → n ≡ length old → long ≡ old ++ lines → kept ≡ take n long → kept ≡ old
first_is lines old long kept n count e k =
    k ∙ ap (λ m. take m long) count ∙ ap (take (length old)) e ∙ take_at old lines (length old) refl

module _ (functions : List PlacedFunc) (f : PlacedFunc) (label : ℕ) where
  abbrev body : Bool → Bool → List Line
  body near turned = body_lines near turned functions f label

  has_near_is : (b : Bool) → are_near (body true false) ≡ b → has_near functions f label ≡ b
  unfolding has_near
  has_near_is b e = e

  is_turned_is : (b : Bool) → nat_lt (sum_by size_of (body true true)) (room_from 0 f.code.blocks) ≡ b → is_turned functions f label ≡ b
  unfolding is_turned
  is_turned_is b e = e

  is_near_is : (b : Bool) → is_turned functions f label ≡ b → is_near functions f label ≡ (b || has_near functions f label)
  unfolding is_near
  is_near_is b e = ap (λ t. t || has_near functions f label) e

  pub near_added : (old new read : List Line) (n : ℕ) → n ≡ length old → read ≡ new → new ≡ old ++ body true false → are_near (drop n read) ≡ true
      → new ≡ old ++ body (has_near functions f label) false
  near_added old new read n count is e s =
      e ∙ ap (λ b. old ++ body b false) (sym (has_near_is true (ap are_near (sym (last_is (body true false) old new read n count is e)) ∙ s)))

  pub far_added : (old long read kept new : List Line) (n : ℕ) → n ≡ length old → read ≡ long → long ≡ old ++ body true false → are_near (drop n read) ≡ false
      → kept ≡ take n long → new ≡ kept ++ body false false → new ≡ old ++ body (has_near functions f label) false
  far_added old long read kept new n count is e s k g =
      g ∙ ap (λ l. l ++ body false false) (first_is (body true false) old long kept n count e k)
      ∙ ap (λ b. old ++ body b false) (sym (has_near_is false (ap are_near (sym (last_is (body true false) old long read n count is e)) ∙ s)))

  function_emitted : (near turned : Bool) (old new : List Line) → is_near functions f label ≡ near → is_turned functions f label ≡ turned → new ≡ old ++ body near turned
      → Emits old new (function_lines functions f label)
  function_emitted near turned old new n t e rest =
      ap (λ l. l ++ rest) e ∙ append_assoc old (body near turned) rest ∙ ap (λ b. old ++ (body b turned ++ rest)) (sym n)
      ∙ ap (λ b. old ++ (body (is_near functions f label) b ++ rest)) (sym t)

  pub turned_emitted : (old new read : List Line) (n : ℕ) → n ≡ length old → read ≡ new → new ≡ old ++ body true true
      → nat_lt (sum_by size_of (drop n read)) (room_from 0 f.code.blocks) ≡ true → Emits old new (function_lines functions f label)
  turned_emitted old new read n count is e s =
      let turned = is_turned_is true (ap (λ l. nat_lt (sum_by size_of l) (room_from 0 f.code.blocks)) (sym (last_is (body true true) old new read n count is e)) ∙ s) in
      function_emitted true true old new (is_near_is true turned) turned e

  pub uncopied_emitted : (old long read kept new : List Line) (n : ℕ) → n ≡ length old → read ≡ long → long ≡ old ++ body true true
      → nat_lt (sum_by size_of (drop n read)) (room_from 0 f.code.blocks) ≡ false
      → kept ≡ take n long → new ≡ kept ++ body (has_near functions f label) false → Emits old new (function_lines functions f label)
  uncopied_emitted old long read kept new n count is e s k g =
      let turned = is_turned_is false (ap (λ l. nat_lt (sum_by size_of l) (room_from 0 f.code.blocks)) (sym (last_is (body true true) old long read n count is e)) ∙ s) in
      function_emitted (has_near functions f label) false old new (is_near_is false turned) turned
      (g ∙ ap (λ l. l ++ body (has_near functions f label) false) (first_is (body true true) old long kept n count e k))
