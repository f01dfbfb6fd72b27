-- The function that reads a directive answers what its spelling means.
use Rattle.std.proofs.Common.{◌≡◌, ℕ, ◌-◌, ◌<◌, ◌⊎◌, Bool, true, false, not, ◌||◌, ◌==◌, cond, List, ◌++◌, length, take, drop, get_or, codes, bytes_eq, nat_eq, Option, Some, None, option_and_then, is_none, sym, refl, ap, ◌∙◌, subst, ⊎_elim, inl, inr, lit<, arith, take-append-drop, length-take-le, length-append}
use Rattle.std.specs.List.{starts_with, prefix_len, list_all}
use Rattle.std.proofs.lemmas.Bool.Decides.{nat_tests}
use Rattle.std.proofs.lemmas.Bool.{false≢true, or_cases, eqb-false, ne_eqb}
use Rattle.std.proofs.lemmas.List.Sums.{prefix_len-le-length}
use Rattle.std.proofs.lemmas.List.{take_at, drop_at}
use Rattle.std.proofs.lemmas.Slice.Eq.{bytes_eq-Decides}
use Rattle.ckc_syntax.specs.declared.tokens.Directive.{Directive}
use Rattle.ckc_syntax.specs.declared.tokens.Directive.TheVariants.{Stdio, Stdlib, Stdchecked, ScopeOn, ScopeOff}
use Rattle.ckc_syntax.specs.Bytes.{AllBytes}
use Rattle.ckc_lexer.specs.Bytes.{is_space, is_feed}
use Rattle.ckc_lexer.specs.Directives.{IsInclude, IsPragma, IsDirective}
use Rattle.ckc_lexer.specs.code.DirectiveReading.{strip, behind_spaces, behind_some_spaces, header_of, scope_of, pragma_of, include_or_pragma, body_of}
use Rattle.ckc_lexer.proofs.ByteLists.{all_append, all_test, all_prefix, prefix_front, last_append}

-- a choice that came out as `Some` took the first arm
chosen : {A : Type 0} (b : Bool) (x y : A) → cond b (Some x) None ≡ Some y → (b ≡ true) × (x ≡ y)
chosen true x y e = (refl, cc)
chosen false x y e = absurd (false≢true (sym (ap is_none e)))

chosen_else : {A : Type 0} (b : Bool) (o : Option A) (y : A) → cond b None o ≡ Some y → (b ≡ false) × (o ≡ Some y)
chosen_else true o y e = absurd (false≢true (sym (ap is_none e)))
chosen_else false o y e = (refl, e)

strip_some : (word text rest : List ℕ) → strip word text ≡ Some rest → text ≡ word ++ rest
strip_some word text rest e =
    let k = chosen (starts_with nat_eq text word) (drop (length word) text) rest e in
    let front : word ≡ take (length word) text = (bytes_eq-Decides word (take (length word) text)).0 k.0 in
    sym (take-append-drop (length word) text) ∙ (λ j. (sym front) j ++ k.1 j)

strip_word : (word rest : List ℕ) → strip word (word ++ rest) ≡ Some rest
strip_word word rest =
    let front : take (length word) (word ++ rest) ≡ word = take_at word rest (length word) refl in
    let yes_it : bytes_eq word (take (length word) (word ++ rest)) ≡ true = (bytes_eq-Decides word (take (length word) (word ++ rest))).1 (sym front) in
    ap (λ b. cond b (Some (drop (length word) (word ++ rest))) None) yes_it ∙ ap Some (drop_at word rest (length word) refl)

-- spaces in front, and what stands after them
spaces_split : (text : List ℕ) → text ≡ take (prefix_len is_space text) text ++ behind_spaces text
spaces_split text = sym (take-append-drop (prefix_len is_space text) text)

spaces_behind : (a x : List ℕ) → AllBytes is_space a → is_space (get_or x 0 0) ≡ false → behind_spaces (a ++ x) ≡ x
spaces_behind a x all bare = ap (λ k. drop k (a ++ x)) (prefix_front is_space a x all bare refl) ∙ drop_at a x (length a) refl

some_behind : (a x : List ℕ) → AllBytes is_space a → 0 < length a → is_space (get_or x 0 0) ≡ false → behind_some_spaces (a ++ x) ≡ Some x
some_behind a x all some bare =
    let n = prefix_front is_space a x all bare refl in
    let not_none : (prefix_len is_space (a ++ x) == 0) ≡ false = ne_eqb (prefix_len is_space (a ++ x)) 0 (λ e. omega (arith, n, e, some)) in
    ap (λ b. cond b None (Some (behind_spaces (a ++ x)))) not_none ∙ ap Some (spaces_behind a x all bare)

prefix_some : (t : List ℕ) → (prefix_len is_space t ≡ 0 → ⊥) → 0 < length (take (prefix_len is_space t) t)
prefix_some t h = let size = length-take-le (prefix_len is_space t) t (prefix_len-le-length is_space t) in omega (arith, h)

some_split : (text rest : List ℕ) → behind_some_spaces text ≡ Some rest → (0 < length (take (prefix_len is_space text) text)) × (text ≡ take (prefix_len is_space text) text ++ rest)
some_split text rest e =
    let k = chosen_else (prefix_len is_space text == 0) (Some (behind_spaces text)) rest e in
    let same : behind_spaces text ≡ rest = let h : Some (behind_spaces text) ≡ Some rest = k.1 in cc in
    (prefix_some text (eqb-false (prefix_len is_space text) 0 k.0), spaces_split text ∙ ap (λ r. take (prefix_len is_space text) text ++ r) same)

-- a chain of choices
choose : {A : Type 0} (b : Bool) (x : A) (o : Option A) (y : A) → cond b (Some x) o ≡ Some y → ((b ≡ true) × (x ≡ y)) ⊎ (o ≡ Some y)
choose true x o y e = inl (refl, cc)
choose false x o y e = inr e

from_word : (P : List ℕ → Directive → Type 0) (w word : List ℕ) (d e : Directive) → P word e → bytes_eq w word ≡ true → e ≡ d → P w d
from_word P w word d e p b same = subst (λ v. P v d) (sym ((bytes_eq-Decides w word).0 b)) (subst (P word) same p)

header_cases : (P : List ℕ → Directive → Type 0) → P (codes "<stdio.h>") Stdio → P (codes "<stdlib.h>") Stdlib → P (codes "<stdchecked.h>") Stdchecked → (w : List ℕ) (d : Directive) → header_of w ≡ Some d → P w d
header_cases P a b c w d e = ⊎_elim
    (λ k. from_word P w (codes "<stdio.h>") d Stdio a k.0 k.1)
    (λ f. ⊎_elim
    (λ k. from_word P w (codes "<stdlib.h>") d Stdlib b k.0 k.1)
    (λ g. let k = chosen (bytes_eq w (codes "<stdchecked.h>")) Stdchecked d g in from_word P w (codes "<stdchecked.h>") d Stdchecked c k.0 k.1)
    (choose (bytes_eq w (codes "<stdlib.h>")) Stdlib _ d f))
    (choose (bytes_eq w (codes "<stdio.h>")) Stdio _ d e)

scope_cases : (P : List ℕ → Directive → Type 0) → P (codes "on") ScopeOn → P (codes "ON") ScopeOn → P (codes "off") ScopeOff → P (codes "OFF") ScopeOff → (w : List ℕ) (d : Directive) → scope_of w ≡ Some d → P w d
scope_cases P a b c f w d e = ⊎_elim
    (λ k. ⊎_elim
    (λ h. from_word P w (codes "on") d ScopeOn a h k.1)
    (λ h. from_word P w (codes "ON") d ScopeOn b h k.1)
    (or_cases (bytes_eq w (codes "on")) (bytes_eq w (codes "ON")) k.0))
    (λ g. let k = chosen (bytes_eq w (codes "off") || bytes_eq w (codes "OFF")) ScopeOff d g in ⊎_elim
    (λ h. from_word P w (codes "off") d ScopeOff c h k.1)
    (λ h. from_word P w (codes "OFF") d ScopeOff f h k.1)
    (or_cases (bytes_eq w (codes "off")) (bytes_eq w (codes "OFF")) k.0))
    (choose (bytes_eq w (codes "on") || bytes_eq w (codes "ON")) ScopeOn _ d e)

then_some : {A B : Type 0} (o : Option A) (f : A → Option B) (y : B) → option_and_then f o ≡ Some y → (x : A) × (o ≡ Some x) × (f x ≡ Some y)
then_some None f y e = absurd (false≢true (sym (ap is_none e)))
then_some (Some x) f y e = (x, refl, e)

pragma_sound : (t y : List ℕ) (d : Directive) (w : List ℕ) → AllBytes is_space t → w ≡ codes "#" ++ (t ++ (codes "pragma" ++ y)) → pragma_of y ≡ Some d → IsDirective w d
unfolding pragma_of
pragma_sound t y d w all whole e =
    let f = then_some (behind_some_spaces y) _ d e in
    let g = then_some (strip (codes "CHECKED_SCOPE") f.0) _ d f.2 in
    let h = then_some (behind_some_spaces g.0) scope_of d g.2 in
    let b = some_split y f.0 f.1 in
    let c = some_split g.0 h.0 h.1 in
    let word = strip_some (codes "CHECKED_SCOPE") f.0 g.0 g.1 in
    scope_cases (λ v x. IsPragma v w → IsDirective w x) (λ i. inl i) (λ i. inr i) (λ i. inl i) (λ i. inr i) h.0 d h.2
    (record {
      a = t;
      b = take (prefix_len is_space y) y;
      c = take (prefix_len is_space g.0) g.0;
      a_spaces = all;
      b_spaces = all_prefix is_space y;
      b_some = b.0;
      c_spaces = all_prefix is_space g.0;
      c_some = c.0;
      whole = whole ∙ ap (λ r. codes "#" ++ (t ++ (codes "pragma" ++ r))) (b.1 ∙ ap (λ r. take (prefix_len is_space y) y ++ r) (word ∙ ap (λ r. codes "CHECKED_SCOPE" ++ r) c.1));
    })

include_sound : (t y : List ℕ) (d : Directive) (w : List ℕ) → AllBytes is_space t → w ≡ codes "#" ++ (t ++ (codes "include" ++ y)) → header_of (behind_spaces y) ≡ Some d → IsDirective w d
include_sound t y d w all whole e =
    header_cases (λ v x. IsInclude v w → IsDirective w x) (λ i. i) (λ i. i) (λ i. i) (behind_spaces y) d e
    (record {
      a = t;
      b = take (prefix_len is_space y) y;
      a_spaces = all;
      b_spaces = all_prefix is_space y;
      whole = whole ∙ ap (λ r. codes "#" ++ (t ++ (codes "include" ++ r))) (spaces_split y);
    })

body_cases : (t : List ℕ) (d : Directive) (w : List ℕ) (o p : Option (List ℕ)) → strip (codes "include") (behind_spaces t) ≡ o → strip (codes "pragma") (behind_spaces t) ≡ p → w ≡ codes "#" ++ t → include_or_pragma o p ≡ Some d → IsDirective w d
unfolding include_or_pragma
body_cases t d w (Some y) p e f whole h =
    include_sound (take (prefix_len is_space t) t) y d w (all_prefix is_space t)
    (whole ∙ ap (λ r. codes "#" ++ r) (spaces_split t ∙ ap (λ r. take (prefix_len is_space t) t ++ r) (strip_some (codes "include") (behind_spaces t) y e))) h
body_cases t d w None p e f whole h =
    let k = then_some p pragma_of d h in
    pragma_sound (take (prefix_len is_space t) t) k.0 d w (all_prefix is_space t)
    (whole ∙ ap (λ r. codes "#" ++ r) (spaces_split t ∙ ap (λ r. take (prefix_len is_space t) t ++ r) (strip_some (codes "pragma") (behind_spaces t) k.0 (f ∙ k.1)))) k.2

-- what the function answers is a directive
pub body_sound : (t w : List ℕ) (d : Directive) → w ≡ codes "#" ++ t → body_of t ≡ Some d → IsDirective w d
unfolding body_of
body_sound t w d whole e = body_cases t d w _ _ refl refl whole e

include_complete : (h w : List ℕ) (d : Directive) → IsInclude h w → is_space (get_or h 0 0) ≡ false → header_of h ≡ Some d → body_of (drop 1 w) ≡ Some d
unfolding body_of include_or_pragma
include_complete h w d i bare e =
    let rest = i.b ++ h in
    let at : behind_spaces (drop 1 w) ≡ codes "include" ++ rest = ap (λ v. behind_spaces (drop 1 v)) i.whole ∙ spaces_behind i.a (codes "include" ++ rest) i.a_spaces refl in
    ap (λ v. include_or_pragma (strip (codes "include") v) (strip (codes "pragma") v)) at
    ∙ (ap (λ o. include_or_pragma o (strip (codes "pragma") (codes "include" ++ rest))) (strip_word (codes "include") rest)
    ∙ (ap header_of (spaces_behind i.b h i.b_spaces bare) ∙ e))

pragma_complete : (h w : List ℕ) (d : Directive) → IsPragma h w → is_space (get_or h 0 0) ≡ false → scope_of h ≡ Some d → body_of (drop 1 w) ≡ Some d
unfolding body_of include_or_pragma pragma_of
pragma_complete h w d i bare e =
    let word = codes "CHECKED_SCOPE" ++ (i.c ++ h) in
    let rest = i.b ++ word in
    let at : behind_spaces (drop 1 w) ≡ codes "pragma" ++ rest = ap (λ v. behind_spaces (drop 1 v)) i.whole ∙ spaces_behind i.a (codes "pragma" ++ rest) i.a_spaces refl in
    ap (λ v. include_or_pragma (strip (codes "include") v) (strip (codes "pragma") v)) at
    ∙ (ap (λ o. option_and_then pragma_of o) (strip_word (codes "pragma") rest)
    ∙ (ap (λ o. option_and_then (λ a. option_and_then (λ b. option_and_then scope_of (behind_some_spaces b)) (strip (codes "CHECKED_SCOPE") a)) o) (some_behind i.b word i.b_spaces i.b_some refl)
    ∙ (ap (λ o. option_and_then (λ b. option_and_then scope_of (behind_some_spaces b)) o) (strip_word (codes "CHECKED_SCOPE") (i.c ++ h))
    ∙ (ap (λ o. option_and_then scope_of o) (some_behind i.c h i.c_spaces i.c_some bare) ∙ e))))

-- a directive is what the function answers
pub body_complete : (w : List ℕ) (d : Directive) → IsDirective w d → body_of (drop 1 w) ≡ Some d
body_complete w Stdio i = include_complete (codes "<stdio.h>") w Stdio i refl refl
body_complete w Stdlib i = include_complete (codes "<stdlib.h>") w Stdlib i refl refl
body_complete w Stdchecked i = include_complete (codes "<stdchecked.h>") w Stdchecked i refl refl
body_complete w ScopeOn (inl i) = pragma_complete (codes "on") w ScopeOn i refl refl
body_complete w ScopeOn (inr i) = pragma_complete (codes "ON") w ScopeOn i refl refl
body_complete w ScopeOff (inl i) = pragma_complete (codes "off") w ScopeOff i refl refl
body_complete w ScopeOff (inr i) = pragma_complete (codes "OFF") w ScopeOff i refl refl

-- it ends with no space
abbrev pub EndsBare : List ℕ → Type 0
EndsBare w = (0 < length w) × (is_space (get_or w (length w - 1) 0) ≡ false)

bare_append : (v w : List ℕ) → EndsBare w → EndsBare (v ++ w)
bare_append v w b = (let size = length-append v w in omega (arith, b.0), ap is_space (last_append v w b.0) ∙ b.1)

abbrev OnOneLine : List ℕ → Type 0
OnOneLine w = AllBytes (λ b. not (is_feed b)) w

space_line : (a : List ℕ) → AllBytes is_space a → OnOneLine a
space_line a all k lt = space_no_feed (get_or a k 0) (all k lt)
  where
    space_no_feed : (b : ℕ) → is_space b ≡ true → not (is_feed b) ≡ true
    space_no_feed b h = grind (arith, nat_tests)

line_append : (v w : List ℕ) → OnOneLine v → OnOneLine w → OnOneLine (v ++ w)
line_append v w a b = all_append (λ b. not (is_feed b)) v w a b

line_word : (w : List ℕ) → list_all (λ b. not (is_feed b)) w ≡ true → OnOneLine w
line_word w h = all_test (λ b. not (is_feed b)) w h

include_shape : (h w : List ℕ) → EndsBare h → OnOneLine h → IsInclude h w → EndsBare w × OnOneLine w
include_shape h w bare line i =
    let tail = codes "include" ++ (i.b ++ h) in (
      subst EndsBare (sym i.whole) (bare_append (codes "#") (i.a ++ tail) (bare_append i.a tail (bare_append (codes "include") (i.b ++ h) (bare_append i.b h bare)))),
      subst OnOneLine (sym i.whole) (line_append (codes "#") (i.a ++ tail) (line_word (codes "#") refl) (line_append i.a tail (space_line i.a i.a_spaces) (line_append (codes "include") (i.b ++ h) (line_word (codes "include") refl) (line_append i.b h (space_line i.b i.b_spaces) line)))),
    )

pragma_shape : (h w : List ℕ) → EndsBare h → OnOneLine h → IsPragma h w → EndsBare w × OnOneLine w
pragma_shape h w bare line i =
    let last = codes "CHECKED_SCOPE" ++ (i.c ++ h) in
    let tail = codes "pragma" ++ (i.b ++ last) in (
      subst EndsBare (sym i.whole) (bare_append (codes "#") (i.a ++ tail) (bare_append i.a tail (bare_append (codes "pragma") (i.b ++ last) (bare_append i.b last (bare_append (codes "CHECKED_SCOPE") (i.c ++ h) (bare_append i.c h bare)))))),
      subst OnOneLine (sym i.whole) (line_append (codes "#") (i.a ++ tail) (line_word (codes "#") refl) (line_append i.a tail (space_line i.a i.a_spaces) (line_append (codes "pragma") (i.b ++ last) (line_word (codes "pragma") refl) (line_append i.b last (space_line i.b i.b_spaces) (line_append (codes "CHECKED_SCOPE") (i.c ++ h) (line_word (codes "CHECKED_SCOPE") refl) (line_append i.c h (space_line i.c i.c_spaces) line)))))),
    )

-- a directive ends with no space and holds no line feed
pub directive_shape : (w : List ℕ) (d : Directive) → IsDirective w d → EndsBare w × OnOneLine w
directive_shape w Stdio i = include_shape (codes "<stdio.h>") w (lit< tt, refl) (line_word (codes "<stdio.h>") refl) i
directive_shape w Stdlib i = include_shape (codes "<stdlib.h>") w (lit< tt, refl) (line_word (codes "<stdlib.h>") refl) i
directive_shape w Stdchecked i = include_shape (codes "<stdchecked.h>") w (lit< tt, refl) (line_word (codes "<stdchecked.h>") refl) i
directive_shape w ScopeOn (inl i) = pragma_shape (codes "on") w (lit< tt, refl) (line_word (codes "on") refl) i
directive_shape w ScopeOn (inr i) = pragma_shape (codes "ON") w (lit< tt, refl) (line_word (codes "ON") refl) i
directive_shape w ScopeOff (inl i) = pragma_shape (codes "off") w (lit< tt, refl) (line_word (codes "off") refl) i
directive_shape w ScopeOff (inr i) = pragma_shape (codes "OFF") w (lit< tt, refl) (line_word (codes "OFF") refl) i
