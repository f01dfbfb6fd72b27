-- A judged function has the frame of the function before it was judged, so its code is judged from its first point.
use Rattle.std.proofs.Common.{◌≡◌, refl, sym, ap, subst, ◌∙◌, ℕ, suc, ◌+◌, Bool, true, false, List, [], ◌∷◌, ◌++◌, map, length, replicate, arith}
use Rattle.std.specs.Prelude.{◌<◌, ◌≤◌, ◌-◌, ◌^◌, if◌then◌else◌, slice_set, Ok, Err}
use Rattle.std.proofs.lemmas.List.{length-map}
use Rattle.std.proofs.lemmas.List.Sorted.{length_permutation}
use Rattle.ckc_base.specs.declared.arithmetic.Mode.{Mode}
use Rattle.ckc_base.specs.declared.arithmetic.Mode.TheVariants.{Checked}
use Rattle.ckc_base.specs.Outcomes.{Outcome}
use Rattle.ckc_base.proofs.Outcomes.{made_of}
use Rattle.ckc_syntax.specs.declared.tree.Name.{Name}
use Rattle.ckc_syntax.specs.declared.tree.Name.TheVariants as name
use Rattle.ckc_typed.specs.declared.typed.Note.{Note}
use Rattle.ckc_typed.specs.declared.typed.Typed.{Typed}
use Rattle.ckc_typed.specs.Environment.{variable_declared, variables_of}
use Rattle.ckc_typed.specs.Interfaces.{seen, seen_params}
use Rattle.ckc_typed.proofs.Seen.{names_seen}
use Rattle.ckc_typed.specs.Statics.{strings_of_head, strings_of_stmt}
use Rattle.ckc_typed.specs.Trees.{NotedDecl, NotedHead, NotedStmt}
use Rattle.ckc_blame_sound.specs.ckc_bounds_points.specs.declared.frame.Local.{Local}
use Rattle.ckc_blame_sound.specs.ckc_bounds_points.specs.declared.frame.HeadBounds.{HeadBounds}
use Rattle.ckc_blame_sound.specs.ckc_bounds_points.specs.declared.frame.Frame.{Frame}
use Rattle.ckc_blame_sound.specs.ckc_bounds_statements.specs.Paths.{Here, path}
use Rattle.ckc_blame_sound.specs.ckc_bounds.specs.Declarations.{nameless, local_made, with_local, with_all, all_made, with_locals, head_bounds}
use Rattle.ckc_blame_sound.specs.ckc_bounds.specs.Frames.{name_seen, all_of, begin_in, begin_of, needed_from, fresh_needed, with_nameless, types_frame, locals_frame, first_fresh, function_frame}
use Rattle.ckc_blame_sound.specs.ckc_bounds.specs.Texts.{body_judged}
use Rattle.ckc_source.specs.Code.{Code, Function}
use Rattle.ckc_build_elaborate.proofs.Counted as counted
use Rattle.ckc_build_elaborate.specs.Functions.{literals_of_head}
use Rattle.ckc_build_elaborate.specs.Statements.{alone, stmt_elaborated}
use Rattle.ckc_blame_sound.specs.Settings.{Setting, AreStrings, frame_of_text, setting_of, IsFunction}
use Rattle.ckc_blame_sound.specs.Bodies.{IsInBody, IsNextFresh}
use Rattle.ckc_blame_sound.specs.Few.{nodes_in, AreFew, HasRoom}
use Rattle.ckc_blame_sound.specs.Judged.{Judged}
use Rattle.ckc_blame_sound.proofs.Strings.{strings_after}
use Rattle.ckc_blame_sound.specs.JudgedTexts.{IsJudged, IsBodyJudged, globals_in}
use Rattle.ckc_blame_sound.proofs.Bodies.{bodies_are_typed, declared_known}
use Rattle.ckc_blame_sound.proofs.Frames.{variables_moved, params_counted}
use Rattle.ckc_blame_sound.proofs.Locals.{names_declared, variables_declared}
use Rattle.ckc_blame_sound.proofs.Notes.{body_noted}
use Rattle.ckc_blame_sound.proofs.Parameters.{locals_come_after}
use Rattle.ckc_blame_nested.specs.Nested.{AreNested}
use Rattle.ckc_blame_walk.specs.Walks.{leaving}
use Rattle.ckc_blame_walk.proofs.Twins.{Agree, SameHere, bare, Twin}
use Rattle.ckc_blame_walk.proofs.Acts.{bare_both}
use Rattle.ckc_blame_walk.proofs.Again.{stmt_again}
use Rattle.ckc_blame_walk.proofs.Texts.{SameText, text_same}
use Rattle.ckc_blame_walk.proofs.Rooms.{statement_nodes}
use Rattle.ckc_blame_walk.proofs.Functions.{function_goes}
use Rattle.ckc_blame_walk.specs.Scopes.{IsScoped}
use Rattle.ckc_blame_walk.proofs.Bodies.{body_scoped}
use Rattle.ckc_blame_sound.specs.Numbered.{AreLocals, AreAllLocals}
use Rattle.ckc_blame_sound.proofs.Functions.{params_numbered, numbered}
use Rattle.std.specs.List.{flat_map}

-- ---- a frame reads no initialiser

local_bare : (frame : Frame) (b : Bool) (k : ℕ) (d : NotedDecl) → local_made frame b k (bare d) ≡ local_made frame b k d
local_bare frame true k d = refl
local_bare frame false k d = refl

one_bare : (frame : Frame) (b : Bool) (ls : List Local) (n : Name) (d : NotedDecl) → with_local frame b ls n (bare d) ≡ with_local frame b ls n d
one_bare frame b ls (name.Local k) d = ap (slice_set ls k) (local_bare frame b k d)
one_bare frame b ls (name.Static k) d = refl
one_bare frame b ls (name.Function k) d = refl
one_bare frame b ls (name.Tag k) d = refl
one_bare frame b ls (name.Member k) d = refl
one_bare frame b ls name.Getchar d = refl
one_bare frame b ls name.Putchar d = refl

each_bare : (frame : Frame) (b : Bool) (ls : List Local) (ds : List NotedDecl) → with_all frame b ls (map bare ds) ≡ with_all frame b ls ds
each_bare frame b ls [] = refl
each_bare frame b ls (d ∷ ds) =
    ap (λ xs. with_all frame b xs (map bare ds)) (one_bare frame b ls d.name d) ∙ each_bare frame b (with_local frame b ls d.name d) ds

as_many : (ds : List NotedDecl) → length (map bare ds) ≡ length ds
as_many [] = refl
as_many (d ∷ ds) = ap suc (as_many ds)

all_bare : (frame : Frame) (b : Bool) (ds : List NotedDecl) → all_made frame b (map bare ds) ≡ all_made frame b ds
all_bare frame b ds =
    ap (λ n. with_all frame b (replicate n nameless) (map bare ds)) (as_many ds) ∙ each_bare frame b (replicate (length ds) nameless) ds

all_same : (frame : Frame) (b : Bool) (ds es : List NotedDecl) → map bare ds ≡ map bare es → all_made frame b ds ≡ all_made frame b es
all_same frame b ds es e = sym (all_bare frame b ds) ∙ ap (all_made frame b) e ∙ all_bare frame b es

needed_same : (n : ℕ) (o q : Outcome (NotedStmt × Here)) → Agree SameHere o q → needed_from n o ≡ needed_from n q
needed_same n (Ok p) (Ok q) h = ap (λ (x : Here). x.next - n) h.0
needed_same n (Err p) (Err q) h = refl
needed_same n (Ok p) (Err q) h = absurd h
needed_same n (Err p) (Ok q) h = absurd h

module _ (frame : Frame) (h : NotedHead) (after before : NotedStmt) (noted : after.note ≡ before.note) (twin : Twin (path after) (path before)) where
  declared_bare : map bare (all_of h after) ≡ map bare (all_of h before)
  declared_bare =
      bare_both (seen_params after.note.mode h) (seen_params before.note.mode h) (path after).declared (path before).declared
      (ap (λ (n : Note). map bare (seen_params n.mode h)) noted) twin.declared

  types_bare : map bare (seen_params Checked h ++ (path after).declared) ≡ map bare (seen_params Checked h ++ (path before).declared)
  types_bare = bare_both (seen_params Checked h) (seen_params Checked h) (path after).declared (path before).declared refl twin.declared

  types_same : types_frame frame h after ≡ types_frame frame h before
  types_same =
      ap (with_locals frame) (all_same frame false (seen_params Checked h ++ (path after).declared) (seen_params Checked h ++ (path before).declared) types_bare)

  pub fresh_same : first_fresh h after ≡ first_fresh h before
  fresh_same = sym (as_many (all_of h after)) ∙ ap length declared_bare ∙ as_many (all_of h before)

  locals_same : locals_frame frame h after ≡ locals_frame frame h before
  locals_same =
      ap (λ types. with_locals frame (all_made types true (all_of h after))) types_same
      ∙ ap (with_locals frame) (all_same (types_frame frame h before) true (all_of h after) (all_of h before) declared_bare)

  needs : (inside : Frame) (head : HeadBounds) (n : ℕ) → fresh_needed inside head h after n ≡ fresh_needed inside head h before n
  needs inside head n =
      ap (λ b. if b then needed_from n ((path after).judged inside head (begin_in inside true h n)) else 0) (twin.may_need inside)
      ∙ ap (λ m. if (path before).may_need inside then m else 0)
      (needed_same n ((path after).judged inside head (begin_in inside true h n)) ((path before).judged inside head (begin_in inside true h n)) (twin.judged inside head (begin_in inside true h n) refl))

  pub frame_same : function_frame frame h after ≡ function_frame frame h before
  frame_same =
      let head = head_bounds frame h in
      ap (λ g. with_nameless (fresh_needed g head h after (first_fresh h after)) g) locals_same
      ∙ ap (λ n. with_nameless (fresh_needed (locals_frame frame h before) head h after n) (locals_frame frame h before)) fresh_same
      ∙ ap (λ m. with_nameless m (locals_frame frame h before)) (needs (locals_frame frame h before) head (first_fresh h before))

-- what a body becomes is its twin
pub body_twin : (frame : Frame) (h : NotedHead) (before after : NotedStmt) → body_judged frame h before ≡ Ok after → Twin (path after) (path before)
body_twin frame h before after judged =
    let walk = made_of ((path before).judged (function_frame frame h before) (head_bounds frame h) (begin_of frame h before)) (λ p. Ok p.0) after judged in
    let same : walk.0.0 ≡ after = cc in
    subst (λ (x : NotedStmt). Twin (path x) (path before)) same (((stmt_again (function_frame frame h before) before).judged (head_bounds frame h) (begin_of frame h before)).made walk.0 walk.1)

-- ---- the body of a function of a judged text

-- what is declared has the same names
names_same : (ds es : List NotedDecl) → map bare ds ≡ map bare es → names_declared ds ≡ names_declared es
names_same ds es e = sym (names_bare ds) ∙ ap names_declared e ∙ names_bare es
  where
    names_bare : (ds : List NotedDecl) → names_declared (map bare ds) ≡ names_declared ds
    names_bare [] = refl
    names_bare (d ∷ ds) = ap (λ ns. d.name ∷ ns) (names_bare ds)

-- there are as many variables as declarations
variables_counted : (h : NotedHead) (body : NotedStmt) → first_fresh h body ≡ length (variables_of body.note.mode h body)
variables_counted h body =
    let ds = all_of h body in
    sym (length-map ds (λ (d : NotedDecl). variable_declared d)) ∙ sym (length_permutation (variables_declared ds) (variables_of body.note.mode h body) (variables_moved h body))

-- A head tells as many parameters as a body sees.
seen_counted : (frame : Frame) (mode : Mode) (h : NotedHead) → length (seen_params mode h) ≡ length (head_bounds frame h).params
seen_counted frame mode h = length-map h.params (seen mode) ∙ params_counted frame h

setting_inside : (p : Typed) (j : IsJudged p) (h : NotedHead) (body : NotedStmt) (b : IsBodyJudged (globals_in p) j.typed h body) → AreLocals 0 (names_declared h.params) → AreAllLocals (names_declared (all_of h b.before)) → IsInBody (setting_of p h body) b.before
unfolding setting_of
setting_inside p j h body b params numbers = record {
  mode = b.mode;
  looped = false;
  typed = b.fits;
  known = declared_known (globals_in p) j.typed h body b;
  words = λ w. w j.typed h b.before j.has_bounds b.there;
  safe = λ w. w j.typed h b.before j.has_bounds b.there;
  late = λ d k there named.
      subst (λ n. n ≤ k) (seen_counted (frame_of_text p) b.before.note.mode h)
      (locals_come_after (seen_params b.before.note.mode h) (path b.before).declared d k (subst (AreLocals 0) (sym (names_seen b.before.note.mode h)) params) numbers there named);
  sized = λ w. w j.typed h b.before j.has_types.typed j.has_bounds b.there;
  given = λ g. g j.typed h b.before j.has_bounds b.there;
}

setting_fresh : (p : Typed) (h : NotedHead) (body : NotedStmt) → IsNextFresh (setting_of p h body) (first_fresh h body)
unfolding setting_of
setting_fresh p h body few =
    let same = variables_counted h body in
    let n = length (variables_of body.note.mode h body) in
    subst (λ m. (n ≤ m) × (m < 2 ^ 32)) (sym same) (omega arith, few)

-- There is room for the fresh variables of a whole body, if the bodies of the text are so.
body_room : (p : Typed) (s : Setting) (f : Function) (is : IsFunction p s f) (before : NotedStmt) → first_fresh is.head is.body ≡ first_fresh is.head before → body_judged (frame_of_text p) is.head before ≡ Ok is.body
    → HasRoom s (first_fresh is.head before) (nodes_in before)
unfolding setting_of
body_room p s f is before firsts judged few =
    let walk = made_of ((path before).judged (function_frame (frame_of_text p) is.head before) (head_bounds (frame_of_text p) is.head) (begin_of (frame_of_text p) is.head before)) (λ p. Ok p.0) is.body judged in
    let same : walk.0.0 ≡ is.body = cc in
    let nodes : nodes_in is.body ≡ nodes_in before =
    ap nodes_in (sym same) ∙ statement_nodes (function_frame (frame_of_text p) is.head before) (head_bounds (frame_of_text p) is.head) before (begin_of (frame_of_text p) is.head before) walk.0 walk.1 in
    let variables : length s.variables ≡ length (variables_of is.body.note.mode is.head is.body) = ap (λ (x : Setting). length x.variables) is.judged in
    let text : AreFew p = subst AreFew (ap (λ (x : Setting). x.text) is.judged) few in
    omega (arith, nodes, variables, text is.head is.body is.there, firsts, variables_counted is.head is.body)

-- the code of a function of a judged text
pub text_goes : (p : Typed) (s : Setting) (f : Function) (j : IsJudged p) → AreNested j.typed.tree.items → (is : IsFunction p s f)
    → Judged s f.body leaving (begin_in s.frame false is.head (first_fresh is.head is.body))
unfolding setting_of
text_goes p s f j fine is =
    let same : SameText j.typed p = text_same j.typed p j.has_bounds in
    let b : IsBodyJudged (globals_in p) j.typed is.head is.body = bodies_are_typed p j is.head is.body is.there in
    let judged : body_judged (frame_of_text p) is.head b.before ≡ Ok is.body = ap (λ g. body_judged g is.head b.before) same.frame ∙ b.judged in
    let noted : is.body.note ≡ b.before.note = body_noted (frame_of_text p) is.head b.before is.body judged in
    let twin : Twin (path is.body) (path b.before) = body_twin (frame_of_text p) is.head b.before is.body judged in
    let firsts : first_fresh is.head is.body ≡ first_fresh is.head b.before = fresh_same (frame_of_text p) is.head is.body b.before noted twin in
    let fresh : IsNextFresh s (first_fresh is.head b.before) =
    subst (IsNextFresh s) firsts (subst (λ x. IsNextFresh x (first_fresh is.head is.body)) (sym is.judged) (setting_fresh p is.head is.body)) in
    let room : HasRoom s (first_fresh is.head b.before) (nodes_in b.before) = body_room p s f is b.before firsts judged in
    let frame_is : s.frame ≡ function_frame (frame_of_text p) is.head b.before =
    ap (λ (x : Setting). x.frame) is.judged ∙ frame_same (frame_of_text p) is.head is.body b.before noted twin in
    let params : AreLocals 0 (names_declared is.head.params) = params_numbered p is.head is.body j is.there in
    let numbers : AreAllLocals (names_declared (all_of is.head b.before)) =
    subst AreAllLocals (names_same (all_of is.head is.body) (all_of is.head b.before) (declared_bare (frame_of_text p) is.head is.body b.before noted twin)) (numbered p is.head is.body j is.there) in
    let inside : IsInBody s b.before = subst (λ x. IsInBody x b.before) (sym is.judged) (setting_inside p j is.head is.body b params numbers) in
    let many : length s.variables ≡ first_fresh is.head b.before = ap (λ (x : Setting). length x.variables) is.judged ∙ sym (variables_counted is.head is.body) ∙ firsts in
    let text : s.text ≡ p = ap (λ (x : Setting). x.text) is.judged in
    let scoped : IsScoped s b.before (flat_map name_seen is.head.params) = body_scoped p j s (frame_of_text p) is.head b.before b.there text frame_is many params numbers in
    let head_is : s.head ≡ head_bounds (frame_of_text p) is.head = ap (λ (x : Setting). x.head) is.judged in
    let k : ℕ = is.literals + literals_of_head is.head in
    let code : alone (stmt_elaborated s.text s.variables s.result k is.body) ≡ f.body =
    ap (λ (x : Setting). alone (stmt_elaborated x.text x.variables x.result k is.body)) is.judged ∙ sym (ap (λ (x : Function). x.body) is.runs) in
    let strings : AreStrings s k (strings_of_stmt is.body) = strings_after s (strings_of_head is.head) (strings_of_stmt is.body) is.literals (literals_of_head is.head) (counted.head is.head) is.strings in
    let h = function_goes s (frame_of_text p) is.head b.before is.body k (fine is.head b.before b.there) inside fresh room strings scoped frame_is head_is judged in
    subst (λ (c : Code). Judged s c leaving (begin_in s.frame false is.head (first_fresh is.head is.body))) code
    (subst (λ n. Judged s (alone (stmt_elaborated s.text s.variables s.result k is.body)) leaving (begin_in s.frame false is.head n))
    (sym firsts) h)

-- a judged function has the frame of the function before it was judged
pub function_frames_same : (frame : Frame) (h : NotedHead) (before body : NotedStmt) → body_judged frame h before ≡ Ok body → function_frame frame h body ≡ function_frame frame h before
function_frames_same frame h before body judged = frame_same frame h body before (body_noted frame h before body judged) (body_twin frame h before body judged)
