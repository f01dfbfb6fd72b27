-- The pieces of a call come to its lines.
use Rattle.std.proofs.Common.{◌≡◌, ℕ, zero, suc, ◌<◌, ◌||◌, Bool, false, List, [], ◌∷◌, ◌++◌, length, get_or, Option, Some, sym, ap, subst, ◌∙◌, arith}
use Rattle.std.specs.List.{slice_get}
use Rattle.std.specs.Prelude.{Result, Ok, Err, OnOk}
use Rattle.ckc_base.specs.declared.places.Pos.{Pos}
use Rattle.ckc_asm_lines.specs.declared.lines.Line.{Line}
use Rattle.ckc_frame.specs.declared.code.Place.{Place}
use Rattle.ckc_frame.specs.Places.{is_kept_home}
use Rattle.ckc_emit.specs.code.Emitting.{Emits}
use Rattle.ckc_emit.specs.code.CallLines.{is_argument_home, is_saved, save_lines, saves_lines, restore_lines, restores_lines, depth_lines, arguments_lines, visit_lines, call_lines, result_lines}
use Rattle.ckc_emit.proofs.Looping.{each_same}

pub on_ok : {A E : Type 0} (r : Result A E) {P Q : Type 0} → (P → Q) → OnOk r P → OnOk r Q
on_ok (Ok x) f h = f h
on_ok (Err e) f h = h

pub call_emits : {A E : Type 0} (r : Result A E) (homes : List Place) (row : List Bool) (params : List Place) (label : ℕ) (rs : List ℕ) (at : Pos) (kept saved : List Bool) (o p q s t u : List Line)
    → ((k : ℕ) → k < 16 → get_or kept k false ≡ is_kept_home k homes row)
    → ((k : ℕ) → k < 16 → get_or saved k false ≡ (get_or kept k false || is_argument_home k homes rs))
    → Emits o p (saves_lines (λ k. get_or saved k false) 16 0) → Emits p q (depth_lines at) → Emits q s (arguments_lines homes rs 0 params) → Emits s t (visit_lines label)
    → OnOk r (Emits t u (restores_lines (λ k. get_or kept k false) 16 0)) → OnOk r (Emits o u (call_lines homes row params label rs at))
call_emits r homes row params label rs at kept saved o p q s t u k m a b c d e =
    on_ok r (λ (f : Emits t u (restores_lines (λ j. get_or kept j false) 16 0)) (rest : List Line).
    let back : List Line = restores_lines (λ j. is_kept_home j homes row) 16 0 rest in
    let same : restores_lines (λ j. get_or kept j false) 16 0 rest ≡ back = each_same restore_lines (λ j. get_or kept j false) (λ j. is_kept_home j homes row) 16 0 rest (λ j h. k j (omega arith)) in
    let there : List Line = depth_lines at (arguments_lines homes rs 0 params (visit_lines label back)) in
    let first : saves_lines (λ j. get_or saved j false) 16 0 there ≡ saves_lines (is_saved homes row rs) 16 0 there =
    each_same save_lines (λ j. get_or saved j false) (is_saved homes row rs) 16 0 there (λ j h. m j (omega arith) ∙ ap (λ x. x || is_argument_home j homes rs) (k j (omega arith))) in
    f rest ∙ ap (λ l. t ++ l) same ∙ d back ∙ c (visit_lines label back) ∙ b (arguments_lines homes rs 0 params (visit_lines label back)) ∙ a there ∙ ap (λ l. o ++ l) first) e

-- ---- with the result, and with what is read from lists

pub at_get : {X : Type 0} (xs : List X) (i : ℕ) (x : X) → i < length xs → x ≡ get_or xs i x → slice_get xs i ≡ Some x
at_get [] i x h e = absurd (omega arith)
at_get (y ∷ ys) zero x h e = ap Some (sym e)
at_get (y ∷ ys) (suc i) x h e = at_get ys i x (omega arith) e

result_emits : {A E : Type 0} (r : Result A E) (homes : List Place) (row marks : List Bool) (params others : List Place) (label l : ℕ) (rs : List ℕ) (at : Pos) (target : Option ℕ) (o t u : List Line)
    → marks ≡ row → others ≡ params → label ≡ l → Emits o t (call_lines homes row params label rs at) → OnOk r (Emits t u (result_lines homes target))
    → OnOk r (Emits o u (λ rest. call_lines homes marks others l rs at (result_lines homes target rest)))
result_emits r homes row marks params others label l rs at target o t u d e f call done =
    on_ok r (λ (g : Emits t u (result_lines homes target)) (rest : List Line).
    let more : List Line = result_lines homes target rest in
    g rest ∙ call more
    ∙ ap (λ x. o ++ call_lines homes x params label rs at more) (sym d)
    ∙ ap (λ x. o ++ call_lines homes marks x label rs at more) (sym e)
    ∙ ap (λ x. o ++ call_lines homes marks others x rs at more) f) done

pub whole_call_emits : {A E : Type 0} (r : Result A E) (own homes : List Place) (row marks : List Bool) (params others : List Place) (label l : ℕ) (rs : List ℕ) (at : Pos) (target : Option ℕ) (o t u : List Line)
    → own ≡ homes → marks ≡ row → others ≡ params → label ≡ l → Emits o t (call_lines homes row params label rs at) → OnOk r (Emits t u (result_lines homes target))
    → OnOk r (Emits o u (λ rest. call_lines own marks others l rs at (result_lines own target rest)))
whole_call_emits r own homes row marks params others label l rs at target o t u h d e f call done =
    subst (λ (x : List Place). OnOk r (Emits o u (λ rest. call_lines x marks others l rs at (result_lines x target rest)))) (sym h)
    (result_emits r homes row marks params others label l rs at target o t u d e f call done)
