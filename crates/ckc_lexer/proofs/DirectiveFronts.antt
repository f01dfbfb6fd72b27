-- The longest directive at the front of a text.
use Rattle.std.proofs.Common.{◌≡◌, ℕ, ◌+◌, ◌-◌, ◌<◌, ◌≤◌, true, not, Some, None, is_none, List, [], ◌∷◌, ◌++◌, length, take, drop, get_or, sym, refl, ap, ◌∙◌, ⊎_elim, arith, length-take-le, length-append, length-drop, get_or-take, get_or-drop, take-append-drop}
use Rattle.std.proofs.lemmas.List.{take-take, take_at, get_or-append_right, get_or_append_left}
use Rattle.std.proofs.lemmas.Bool.{false≢true, cases_lt, cases_order}
use Rattle.ckc_syntax.specs.declared.tokens.TokenKind.TheVariants as kinds
use Rattle.ckc_syntax.specs.declared.tokens.Directive.{Directive}
use Rattle.ckc_lexer.specs.declared.items.Item.{Item}
use Rattle.ckc_lexer.specs.declared.items.Item.TheVariants.{Gap, Token, Broken}
use Rattle.ckc_lexer.specs.Bytes.{is_space, is_feed}
use Rattle.ckc_syntax.specs.Longest.{Longest}
use Rattle.ckc_lexer.specs.code.Longest.{IsRun}
use Rattle.ckc_lexer.specs.Directives.{IsDirective, IsDirectiveLine, DirectiveCases}
use Rattle.ckc_lexer.specs.code.DirectiveReading.{body_of, IsTrimmed}
use Rattle.ckc_lexer.proofs.Fronts.{run_all, run_stops, run_some}
use Rattle.ckc_lexer.proofs.DirectiveLaw.{body_sound, body_complete, directive_shape}

head_and_tail : (w : List ℕ) → 0 < length w → w ≡ get_or w 0 0 ∷ drop 1 w
head_and_tail [] h = absurd (omega (arith, h))
head_and_tail (b ∷ w) h = refl

module _ (text : List ℕ) (line len : ℕ) (run : IsRun (λ b. not (is_feed b)) text line) (trim : IsTrimmed (take line text) len) (first : get_or text 0 0 ≡ 35) (nonempty : 0 < length text) where
  some_line : 0 < line
  some_line = run_some run nonempty (ap (λ b. not (is_feed b)) first)

  line_size : length (take line text) ≡ line
  line_size = length-take-le line text run.within

  -- the line does not begin with a space, so something is left of it
  pub some_left : 0 < len
  some_left = ⊎_elim (λ (h : 0 < len). h) (λ (h : len ≤ 0). absurd (false≢true (ap is_space (sym first ∙ sym (get_or-take line text 0 0 some_line)) ∙ trim.spaces 0 h (let e = line_size in let k = some_line in omega arith)))) (cases_lt 0 len)

  trimmed_within : len ≤ line
  trimmed_within = let e = line_size in omega (arith, trim.within)

  in_line : (k : ℕ) → k < line → get_or (take line text) k 0 ≡ get_or text k 0
  in_line k lt = get_or-take line text k 0 lt

  -- after it there are spaces to the end of the line
  space_at : (k : ℕ) → len ≤ k → k < line → is_space (get_or text k 0) ≡ true
  space_at k le lt = sym (ap is_space (in_line k lt)) ∙ trim.spaces k le (let e = line_size in omega arith)

  -- no longer front is a directive
  no_longer : (m : ℕ) (d : Directive) → len < m → m ≤ length text → IsDirective (take m text) d → ⊥
  no_longer m d lt le i = ⊎_elim
      (λ (over : line < m). run_stops m run over le (directive_shape (take m text) d i).1)
      (λ (under : m ≤ line).
      let size = length-take-le m text le in
      let last : get_or (take m text) (length (take m text) - 1) 0 ≡ get_or text (m - 1) 0 = ap (λ k. get_or (take m text) (k - 1) 0) size ∙ get_or-take m text (m - 1) 0 (omega arith) in
      false≢true (sym (sym (ap is_space last) ∙ (directive_shape (take m text) d i).0.1) ∙ space_at (m - 1) (omega arith) (omega arith)))
      (cases_lt line m)

  -- the front and spaces are a line of a directive
  line_of : (m : ℕ) (d : Directive) → len < m → m ≤ line → IsDirective (take len text) d → IsDirectiveLine (take m text)
  line_of m d lt le i =
      let within = run.within in
      let size = length-take-le m text (omega arith) in
      let cut = length-drop len (take m text) in
      record {
        front = take len text;
        spaces = drop len (take m text);
        directive = d;
        whole = sym (take-append-drop len (take m text)) ∙ ap (λ v. v ++ drop len (take m text)) (take-take len m text (omega arith));
        spaces_only = λ k h. ap is_space (get_or-drop len (take m text) k 0 ∙ get_or-take m text (len + k) 0 (omega arith)) ∙ space_at (len + k) (omega arith) (omega arith);
        is_directive = i;
      }

  pub found_longest : (d : Directive) → IsDirective (take len text) d → Longest DirectiveCases text len (Token (kinds.Directive d))
  found_longest d i = record {
    some = some_left;
    within = let e = trimmed_within in omega (arith, run.within);
    spelled = i;
    longest = λ m other lt le s. longer m other lt le s;
  }
    where
      longer : (m : ℕ) (other : Item) → len < m → m ≤ length text → DirectiveCases (take m text) other → ⊥
      longer m Gap lt le s = s
      longer m (Token (kinds.Directive e)) lt le s = no_longer m e lt le s
      longer m (Token kinds.Name) lt le s = s
      longer m (Token kinds.Keyword) lt le s = s
      longer m (Token (kinds.Number n u)) lt le s = s
      longer m (Token (kinds.Character v)) lt le s = s
      longer m (Token kinds.Text) lt le s = s
      longer m (Token kinds.Mark) lt le s = s
      longer m (Broken code) lt le s = ⊎_elim
          (λ (over : line < m). run_stops m run over le s.2)
          (λ (under : m ≤ line). s.3 (line_of m d lt under i))
          (cases_lt line m)

  -- the line is no directive's, if the line without the spaces at its end is no directive
  no_line : body_of (drop 1 (take len text)) ≡ None → IsDirectiveLine (take line text) → ⊥
  no_line none l =
      let sizes = line_size in
      let parts = length-append l.front l.spaces in
      let whole = ap length l.whole in
      let shape = (directive_shape l.front l.directive l.is_directive).0 in
      let front_is : l.front ≡ take (length l.front) text = sym (take_at l.front l.spaces (length l.front) refl) ∙ (ap (take (length l.front)) (sym l.whole) ∙ take-take (length l.front) line text (omega arith)) in
      ⊎_elim
      (λ (e : length l.front ≡ len).
      let same : l.front ≡ take len text = front_is ∙ ap (λ k. take k text) e in
      let found = body_complete l.front l.directive l.is_directive in
      false≢true (sym (ap is_none found) ∙ ap is_none (ap (λ v. body_of (drop 1 v)) same ∙ none)))
      (λ o. ⊎_elim
      (λ (lt : length l.front < len).
      let left = some_left in
      let at : get_or (take line text) (len - 1) 0 ≡ get_or l.spaces (len - 1 - length l.front) 0 = ap (λ v. get_or v (len - 1) 0) l.whole ∙ get_or-append_right l.front l.spaces (length l.front) (len - 1) 0 refl (omega arith) in
      let inside = trimmed_within in
      false≢true (sym (trim.last (omega arith)) ∙ (ap is_space at ∙ l.spaces_only (len - 1 - length l.front) (omega arith))))
      (λ (gt : len < length l.front).
      let at : get_or (take line text) (length l.front - 1) 0 ≡ get_or l.front (length l.front - 1) 0 = ap (λ v. get_or v (length l.front - 1) 0) l.whole ∙ get_or_append_left l.front l.spaces 0 (length l.front - 1) (omega arith) in
      false≢true (sym shape.1 ∙ (sym (ap is_space at) ∙ trim.spaces (length l.front - 1) (omega arith) (omega arith))))
      o)
      (cases_order (length l.front) len)

  pub bad_longest : body_of (drop 1 (take len text)) ≡ None → Longest DirectiveCases text line (Broken 105)
  bad_longest none = record {
    some = some_line;
    within = run.within;
    spelled = (refl, let e = line_size in let k = some_line in omega arith, run_all run, no_line none);
    longest = λ m other lt le s. longer m other lt le s;
  }
    where
      longer : (m : ℕ) (other : Item) → line < m → m ≤ length text → DirectiveCases (take m text) other → ⊥
      longer m Gap lt le s = s
      longer m (Token (kinds.Directive e)) lt le s = run_stops m run lt le (directive_shape (take m text) e s).1
      longer m (Token kinds.Name) lt le s = s
      longer m (Token kinds.Keyword) lt le s = s
      longer m (Token (kinds.Number n u)) lt le s = s
      longer m (Token (kinds.Character v)) lt le s = s
      longer m (Token kinds.Text) lt le s = s
      longer m (Token kinds.Mark) lt le s = s
      longer m (Broken code) lt le s = run_stops m run lt le s.2

  -- the function's answer for the line is a directive
  pub found_directive : (d : Directive) → body_of (drop 1 (take len text)) ≡ Some d → IsDirective (take len text) d
  found_directive d e =
      let left = some_left in
      body_sound (drop 1 (take len text)) (take len text) d (head_and_tail (take len text) (let inside = trimmed_within in let size = length-take-le len text (omega (arith, run.within)) in omega arith) ∙ ap (λ b. b ∷ drop 1 (take len text)) (get_or-take len text 0 0 left ∙ first)) e
