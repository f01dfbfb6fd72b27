-- A function that is entered stands at its first point.
use Rattle.std.proofs.Common.{◌≡◌, ◌⊎◌, ⊎_elim, inl, inr, ℕ, zero, suc, ◌-◌, ◌^◌, ◌≤◌, ◌<◌, Bool, true, false, List, [], ◌∷◌, ◌++◌, length, length-append, map, replicate, refl, sym, ◌∙◌, ap, subst, arith}
use Rattle.std.specs.Prelude.{if◌then◌else◌, slice_index}
use Rattle.std.proofs.lemmas.List.{length-replicate}
use Rattle.ckc_base.specs.declared.arithmetic.Mode.TheVariants.{Checked}
use Rattle.ckc_types.specs.declared.types.CType.{CType}
use Rattle.ckc_typed.specs.declared.typed.Typed.{Typed}
use Rattle.ckc_typed.specs.Trees.{NotedDecl, NotedHead, NotedStmt}
use Rattle.ckc_typed.specs.Types.{is_char}
use Rattle.ckc_typed.specs.Environment.{variable_declared, params_of, locals_of, variables_of}
use Rattle.ckc_typed.specs.Interfaces.{seen, seen_params}
use Rattle.ckc_blame_sound.specs.ckc_bounds.specs.Declarations.{params_frame}
use Rattle.ckc_blame_sound.specs.ckc_bounds.proofs.Lists.{all_made_length}
use Rattle.ckc_blame_sound.specs.ckc_bounds.specs.Frames.{begin_in}
use Rattle.ckc_source.specs.Blocks.{Block}
use Rattle.ckc_source.specs.Code.{Function}
use Rattle.ckc_source.specs.States.{entered}
use Rattle.ckc_build_elaborate.specs.Functions.{function_elaborated}
use Rattle.ckc_blame_sound.specs.Settings.{Setting, IsFunction, frame_of_text, setting_of}
use Rattle.ckc_blame_sound.specs.Values.{IsWordOf, HoldWords}
use Rattle.ckc_blame_sound.specs.Points.{HoldsAt}
use Rattle.ckc_blame_sound.specs.Judged.{JudgedWork}
use Rattle.ckc_blame_sound.specs.Calls.{store_in, Stands}
use Rattle.ckc_blame_sound.proofs.Flow.{entry_holds}
use Rattle.ckc_blame_walk.specs.Entries.{IsCodeJudged, MayEnter}

-- ---- values, and then zeros

zeros_at : (n k : ℕ) → slice_index (replicate n 0) k ≡ 0
zeros_at zero k = refl
zeros_at (suc n) zero = refl
zeros_at (suc n) (suc k) = zeros_at n k

-- what is at a place: the value there, and 0 after the values
pub filled_at : (values : List ℕ) (n k : ℕ) → slice_index (values ++ replicate n 0) k ≡ slice_index values k
filled_at [] n k = zeros_at n k
filled_at (v ∷ values) n zero = refl
filled_at (v ∷ values) n (suc k) = filled_at values n k

pub past_at : (values : List ℕ) (k : ℕ) → length values ≤ k → slice_index values k ≡ 0
past_at [] k h = refl
past_at (v ∷ values) zero h = absurd (omega arith)
past_at (v ∷ values) (suc k) h = past_at values k (omega arith)

zero_word : (t : CType) → IsWordOf t 0
zero_word t = by (is_char t)
  where
    by : (b : Bool) → 0 < (if b then 256 else 2 ^ 32)
    by true = omega arith
    by false = omega arith

pub below_or_not : (k n : ℕ) → (k < n) ⊎ (n ≤ k)
below_or_not k zero = inr (omega arith)
below_or_not zero (suc n) = inl (omega arith)
below_or_not (suc k) (suc n) = ⊎_elim (λ h. inl (omega arith)) (λ h. inr (omega arith)) (below_or_not k n)

-- ---- how many parameters and locals there are

mapped_many : {A B : Type 0} (f : A → B) (xs : List A) → length (map f xs) ≡ length xs
mapped_many f [] = refl
mapped_many f (x ∷ xs) = ap suc (mapped_many f xs)

pub params_many : (p : Typed) (head : NotedHead) (body : NotedStmt) → length (setting_of p head body).head.params ≡ length head.params
unfolding setting_of
params_many p head body =
    all_made_length (params_frame (frame_of_text p) head) true (seen_params Checked head) ∙ mapped_many (seen Checked) head.params

variables_many : (p : Typed) (k : ℕ) (head : NotedHead) (body : NotedStmt) → (function_elaborated p k head body).locals ≡ length (setting_of p head body).variables
unfolding setting_of
variables_many p k head body = refl

room_for : (head : NotedHead) (body : NotedStmt) → length head.params ≤ length (variables_of body.note.mode head body)
room_for head body =
    let both = length-append (params_of body.note.mode head) (locals_of body) in
    let first = mapped_many {A = NotedDecl} variable_declared (seen_params body.note.mode head) in
    let all = mapped_many (seen body.note.mode) head.params in
    omega arith

-- ---- the first point

module _ (p : Typed) (blocks : List Block) (s : Setting) (f : Function) (values : List ℕ) (i : IsFunction p s f)
    (may : MayEnter p blocks s f i.head values) where
  abbrev locals : List ℕ
  locals = values ++ replicate (f.locals - length values) 0

  locals_are : f.locals ≡ length s.variables
  locals_are =
      ap (λ (g : Function). g.locals) i.runs ∙ variables_many p i.literals i.head i.body
      ∙ sym (ap (λ (t : Setting). length t.variables) i.judged)

  has_room : length values ≤ f.locals
  has_room =
      let many = may.counted ∙ ap (λ (t : Setting). length t.head.params) i.judged ∙ params_many p i.head i.body in
      let room = room_for i.head i.body in
      let all = ap (λ (g : Function). g.locals) i.runs in
      omega arith

  counted : length locals ≡ length s.variables
  counted =
      let both = length-append values (replicate (f.locals - length values) 0) in
      let more = length-replicate {A = ℕ} (f.locals - length values) 0 in
      let room = has_room in
      let all = locals_are in
      omega arith

  words : HoldWords s.frame locals
  words k l e =
      subst (IsWordOf l.ctype) (sym (filled_at values (f.locals - length values) k))
      (⊎_elim
      (λ h. may.words k l h e)
      (λ h. subst (IsWordOf l.ctype) (sym (past_at values k h)) (zero_word l.ctype))
      (below_or_not k (length values)))

  begins : (fresh : ℕ) → HoldsAt s (store_in p blocks (entered f values)) values (begin_in s.frame false i.head fresh)
  begins fresh = record {
    reached = refl;
    counted = counted;
    words = words;
    facts = entry_holds s.frame locals words;
    bounded = may.bounded;
    widened = may.bounded;
    entered = may.counted;
    kept = λ k e. filled_at values (f.locals - length values) k;
  }

  pub stands : IsCodeJudged s i.head f.body → Stands p blocks (entered f values) s
  unfolding JudgedWork
  stands j = record {
    function = i;
    exits = record j.exits { ends = begin_in s.frame false i.head j.fresh };
    work = (j.exits.ends, j.judged, tt);
    holds = begins j.fresh;
  }

pub entered_stands : (p : Typed) (blocks : List Block) (s : Setting) (f : Function) (values : List ℕ) (i : IsFunction p s f)
    → IsCodeJudged s i.head f.body → MayEnter p blocks s f i.head values → Stands p blocks (entered f values) s
entered_stands p blocks s f values i j may = stands p blocks s f values i may j
