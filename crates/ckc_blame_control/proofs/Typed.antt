-- The statement of each step and each condition of a judged text is typed, and the next variable is fresh.
use Rattle.std.proofs.Common.{◌≡◌, refl, sym, ap, subst, ◌∙◌, ℕ, zero, suc, List, [], ◌∷◌, ◌++◌, length, map, arith}
use Rattle.std.specs.Prelude.{◌<◌, ◌≤◌, ◌-◌, ◌^◌, false, slice_get, replicate, Option, None, Some}
use Rattle.std.specs.List.{All, AllByRecursion, Contains}
use Rattle.std.proofs.lemmas.List.Elements.{Contains-append_left, Contains-append_right}
use Rattle.ckc_base.specs.declared.arithmetic.Mode.{Mode}
use Rattle.ckc_syntax.specs.Inside.{listed, inside_each, inside_init}
use Rattle.ckc_syntax.specs.declared.tree.Init.TheVariants as init
use Rattle.ckc_types.specs.declared.types.CType.{out-CType}
use Rattle.ckc_syntax.specs.declared.tree.Name.{Name}
use Rattle.ckc_syntax.specs.declared.tree.Act.{Act-F, out-Act, fold-roll-Act}
use Rattle.ckc_syntax.specs.declared.tree.Stmt.{fold-roll-Stmt}
use Rattle.ckc_typed.specs.declared.typed.Note.{Note}
use Rattle.ckc_typed.specs.declared.typed.Typed.{Typed}
use Rattle.ckc_typed.specs.Environment.{variables_of}
use Rattle.ckc_typed.specs.Trees.{NotedExpr, NotedInit, NotedHead, NotedStmt}
use Rattle.ckc_typed.specs.Types.{is_integer}
use Rattle.ckc_typed_welltyped.specs.Parts.{StmtByParts}
use Rattle.ckc_typed_welltyped.proofs.ByParts.{stmt_by_parts}
use Rattle.ckc_blame_sound.specs.ckc_bounds_points.specs.declared.frame.Frame.{Frame}
use Rattle.ckc_blame_sound.specs.ckc_bounds_points.specs.declared.frame.Local.{Local}
use Rattle.ckc_blame_sound.specs.ckc_bounds.specs.Declarations.{first_of, few_of, head_bounds}
use Rattle.ckc_blame_sound.specs.ckc_bounds.specs.Frames.{first_fresh, fresh_needed, function_frame, locals_frame, nameless}
use Rattle.ckc_blame_sound.specs.ckc_bounds_statements.specs.Paths.{Here, Path, ActPath, act_declared, act_path, stmt_path, path_of_act, path}
use Rattle.ckc_source.specs.Code.{Function}
use Rattle.ckc_blame_sound.specs.Settings.{Setting, IsFunction, frame_of_text, setting_of}
use Rattle.ckc_blame_sound.specs.Values.{NamesIntegers}
use Rattle.ckc_blame_sound.specs.Words.{HasWords, HasWordsInit, HasWordsSides, HasWordsAct, exprs_of_act, exprs_in, HasOnlyWords, HaveWords}
use Rattle.ckc_blame_sound.proofs.Words.{exprs_inside, exprs_are}
use Rattle.ckc_blame_sound.specs.Bodies.{globals_of_text, IsInBody, IsTestInBody, IsNextFresh, AreFresh}
use Rattle.ckc_blame_sound.specs.Typed.{IsTypedIf, IsTypedStmt}
use Rattle.ckc_blame_sound.proofs.Stepping.{ActLayer, viewed, act_back}
use Rattle.ckc_blame_sound.specs.JudgedTexts.{IsJudged, globals_in}
use Rattle.ckc_blame_sound.specs.Numbered.{IsKnownIn}
use Rattle.ckc_blame_sound.proofs.TypedBodies.{statements_are_typed, conditions_are_typed}
use Rattle.ckc_blame_sound.proofs.Frames.{first_at, frames_agree, variables_have_types, locals_made, locals_counted}
use Rattle.ckc_blame_control.specs.Known.{IsKnownPoint}

-- ---- what stands in the body of a function is typed

module _ (s : Setting) (st : NotedStmt) (h : IsInBody s st) where
  pub by_parts : StmtByParts (globals_of_text s.text) s.variables s.result st h.mode h.looped
  by_parts = (stmt_by_parts (globals_of_text s.text) s.variables s.result st h.mode h.looped).0 h.typed

  declared_is : (path st).declared ≡ act_declared (viewed (out-Act Name Note st.body))
  declared_is =
      ap (λ (p : Path). p.declared) (fold-roll-Stmt Name Note ActPath Path act_path stmt_path (record { body = st.body; pos = st.pos; note = st.note }))
      ∙ ap (λ (a : ActPath). a.declared) (ap path_of_act (sym (act_back st.body)) ∙ fold-roll-Act Name Note ActPath Path act_path stmt_path (out-Act Name Note st.body))

  known_in : IsKnownIn s.variables (out-Act Name Note st.body)
  known_in = by (out-Act Name Note st.body) refl
    where
      by : (x : ActLayer) → out-Act Name Note st.body ≡ x → IsKnownIn s.variables x
      by (Act-F.Local d) is = h.known d (subst (λ ds. Contains ds d) (sym (declared_is ∙ ap (λ y. act_declared (viewed y)) is)) (0, omega arith, refl))
      by x is = tt

-- ---- its literals are words

init_words : (i : NotedInit) → ((e : NotedExpr) → Contains (inside_init listed (λ e. e ∷ []) i) e → HasWords e) → HasWordsInit i
init_words init.Nothing h = tt
init_words (init.One e) h = h e (0, omega arith, refl)
init_words (init.Many es) h = tt

sides_words : (x : ActLayer) → ((e : NotedExpr) → Contains (exprs_of_act (exprs_inside x)) e → HasWords e) → HasWordsSides x
sides_words (Act-F.Assign e f) h = (h e (0, omega arith, refl), h f (1, omega arith, refl))
sides_words x h = tt

layer_of : (st : NotedStmt) → HasOnlyWords st → (e : NotedExpr) → Contains (exprs_of_act (exprs_inside (out-Act Name Note st.body))) e → HasWords e
layer_of st h e c = h e (subst (λ es. Contains es e) (sym (exprs_are st)) c)

parts_words : (ss : List NotedStmt) → ((e : NotedExpr) → Contains (inside_each listed (λ (es : List NotedExpr). es) (map exprs_in ss)) e → HasWords e)
    → AllByRecursion (λ (st : NotedStmt). HasWordsSides (out-Act Name Note st.body)) ss
parts_words [] h = tt
parts_words (st ∷ ss) h =
    let rest : List NotedExpr = inside_each listed (λ (es : List NotedExpr). es) (map exprs_in ss) in (
      sides_words (out-Act Name Note st.body) (layer_of st (λ e c. h e (Contains-append_left (exprs_in st) rest e c))),
      parts_words ss (λ e c. h e (Contains-append_right (exprs_in st) rest e c)),
    )

act_words : (x : ActLayer) → ((e : NotedExpr) → Contains (exprs_of_act (exprs_inside x)) e → HasWords e) → HasWordsAct x
act_words (Act-F.Local d) h = init_words d.init h
act_words (Act-F.Call e) h = h e (0, omega arith, refl)
act_words (Act-F.Return None) h = tt
act_words (Act-F.Return (Some e)) h = h e (0, omega arith, refl)
act_words (Act-F.Check e) h = h e (0, omega arith, refl)
act_words (Act-F.Bundle ss) h = parts_words ss h
act_words (Act-F.Assign e f) h = sides_words (Act-F.Assign e f) h
act_words x h = tt

pub words_in : (st : NotedStmt) → HasOnlyWords st → HasWordsAct (out-Act Name Note st.body)
words_in st h = act_words (out-Act Name Note st.body) (layer_of st h)

-- ---- in a judged text

text_is : (p : Typed) (s : Setting) (f : Function) → IsFunction p s f → globals_of_text s.text ≡ globals_in p
unfolding setting_of
text_is p s f i = ap (λ (x : Setting). globals_of_text x.text) i.judged

own_words : (p : Typed) (s : Setting) (f : Function) → IsFunction p s f → HaveWords p → HaveWords s.text
unfolding setting_of
own_words p s f i w = subst (λ (x : Setting). HaveWords x.text) (sym i.judged) w

pub statement_typed : (p : Typed) (s : Setting) (f : Function) → IsJudged p → HaveWords p → IsFunction p s f → (st : NotedStmt) → IsInBody s st → IsTypedStmt (globals_in p) s st
statement_typed p s f j w i st h =
    subst (λ g. IsTypedStmt g s st) (text_is p s f i)
    (statements_are_typed (globals_of_text s.text) s s.result st h.mode h.looped (variables_have_types p s f j i) (by_parts s st h) (words_in st (h.words (own_words p s f i w))) (known_in s st h))

pub condition_typed : (p : Typed) (s : Setting) (f : Function) (mode : Mode) → HaveWords p → IsFunction p s f → (e : Option NotedExpr) → IsTestInBody s mode e → IsTypedIf (globals_in p) s e
condition_typed p s f mode w i None h = tt
condition_typed p s f mode w i (Some e) h =
    subst (λ g. IsTypedIf g s (Some e)) (text_is p s f i) (conditions_are_typed (globals_of_text s.text) s mode (Some e) h.typed.0 (h.words (own_words p s f i w)))

-- ---- fresh variables

append_behind : (xs ys : List Local) (k : ℕ) (l : Local) → length xs ≤ k → slice_get (xs ++ ys) k ≡ Some l → slice_get ys (k - length xs) ≡ Some l
append_behind [] ys k l h e = let same : k - 0 ≡ k = omega arith in subst (λ n. slice_get ys n ≡ Some l) (sym same) e
append_behind (x ∷ xs) ys zero l h e = absurd (omega (arith, h))
append_behind (x ∷ xs) ys (suc k) l h e =
    let same : suc k - length (x ∷ xs) ≡ k - length xs = omega arith in
    subst (λ n. slice_get ys n ≡ Some l) (sym same) (append_behind xs ys k l (omega (arith, h)) e)

all_nameless : (n k : ℕ) (l : Local) → slice_get (replicate n nameless) k ≡ Some l → l ≡ nameless
all_nameless zero k l e = absurd cc
all_nameless (suc n) zero l e = cc
all_nameless (suc n) (suc k) l e = all_nameless n k l e

first_short : (m : ℕ) (ls : List Local) → length (first_of m ls) ≤ length ls
first_short zero ls = omega arith
first_short (suc m) [] = omega arith
first_short (suc m) (x ∷ ls) = let less : length (first_of m ls) ≤ length ls = first_short m ls in omega (arith, less)

nameless_other : is_integer nameless.ctype ≡ false
unfolding out-CType denote.Hole.Carrier.out
nameless_other = refl

-- the locals after those that are declared are no integers
nameless_fresh : (frame : Frame) (h : NotedHead) (body : NotedStmt) (n : ℕ) → length (variables_of body.note.mode h body) ≤ n → AreFresh (function_frame frame h body) n
unfolding few_of
nameless_fresh frame h body n far k l above e =
    let D = locals_made frame h body in
    let m = fresh_needed (locals_frame frame h body) (head_bounds frame h) h body (first_fresh h body) in
    let one = first_at 1023 (first_of 1023 D ++ replicate m nameless) k l e in
    let short : length (first_of 1023 D) ≤ length D = first_short 1023 D in
    let counted : length D ≡ length (variables_of body.note.mode h body) = locals_counted frame h body in
    let past : length (first_of 1023 D) ≤ k = omega (arith, short, counted, far, above) in
    ap (λ (x : Local). is_integer x.ctype) (all_nameless m (k - length (first_of 1023 D)) l (append_behind (first_of 1023 D) (replicate m nameless) k l past one.1)) ∙ nameless_other

pub next_fresh : (p : Typed) (s : Setting) (f : Function) → IsFunction p s f → (n : ℕ) → length s.variables ≤ n → AreFresh s.frame n
unfolding setting_of
next_fresh p s f i n far =
    let P : Setting → Type 0 = λ z. length z.variables ≤ n → AreFresh z.frame n in
    subst P (sym i.judged) (nameless_fresh (frame_of_text p) i.head i.body n) far

pub has_fresh : (p : Typed) (s : Setting) (f : Function) → IsFunction p s f → (n : ℕ) → IsNextFresh s n → length s.variables < 2 ^ 32 → AreFresh s.frame n × (n < 2 ^ 32)
has_fresh p s f i n fresh few = let h = fresh few in (next_fresh p s f i n h.0, h.1)

pub point_known : (p : Typed) (s : Setting) (f : Function) (here : Here) → IsJudged p → IsFunction p s f → length s.variables < 2 ^ 32 → IsNextFresh s here.next → All (NamesIntegers s.frame) here.at.facts.list
    → IsKnownPoint (globals_in p) s here
point_known p s f here j i few fresh named =
    let h = has_fresh p s f i here.next fresh few in
    record { agrees = frames_agree p s f j i; fresh = h.0; word = h.1; named = named }
