-- The bodies of the functions of a judged text, before they were judged.
use Rattle.std.proofs.Common.{◌≡◌, ◌∙◌, sym, ap, subst, refl, List, [], ◌∷◌, map}
use Rattle.std.specs.Prelude.{All, Ok, Err, false}
use Rattle.std.specs.List.{Contains}
use Rattle.std.proofs.lemmas.List.Elements.{All-nil, All-cons, All-head, All-tail, All-contains, All-contains_itself, Contains-append_right}
use Rattle.std.proofs.lemmas.List.Sorted.{Contains-permutation}
use Rattle.ckc_base.specs.declared.arithmetic.Mode.{Mode}
use Rattle.ckc_base.specs.declared.arithmetic.Mode.TheVariants.{Unchecked}
use Rattle.ckc_base.specs.Outcomes.{Outcome}
use Rattle.ckc_base.proofs.Gives.{Gives, given_from, bound, itself}
use Rattle.ckc_syntax.specs.declared.tree.Item.TheVariants as item
use Rattle.ckc_typed.specs.declared.environment.Globals.{Globals}
use Rattle.ckc_typed.specs.declared.typed.Note.{Note}
use Rattle.ckc_typed.specs.declared.typed.Typed.{Typed}
use Rattle.ckc_typed.specs.Environment.{variable_declared, params_of, variables_of, locals_of}
use Rattle.ckc_typed.specs.Statements.{body_mode}
use Rattle.ckc_typed.specs.Texts.{globals_of}
use Rattle.ckc_typed.specs.Trees.{Tree, NotedDecl, NotedHead, NotedStmt, NotedItem}
use Rattle.ckc_typed.specs.Types.{type_written}
use Rattle.ckc_typed.specs.Walk.{head_mode, pragma_after}
use Rattle.ckc_typed_welltyped.specs.Noteless.{bare_head, bare_stmt, bare_item, without_notes}
use Rattle.ckc_typed_welltyped.specs.Statements.{WellTypedStmt}
use Rattle.ckc_typed_welltyped.specs.Texts.{WellTypedItem, WellTypedItems}
use Rattle.ckc_typed_welltyped.proofs.Seen.{variables_bare, body_noted as typed_so}
use Rattle.ckc_bounds.specs.ckc_bounds_points.specs.declared.frame.Frame.{Frame}
use Rattle.ckc_bounds.specs.ckc_bounds_statements.specs.Paths.{path}
use Rattle.ckc_bounds.specs.Declarations.{member_holder, params_frame, head_judged}
use Rattle.ckc_bounds.specs.Texts.{members_judged, object_judged, body_judged, head_kept, item_judged, items_judged}
use Rattle.ckc_blame_sound.specs.Settings.{frame_of_text}
use Rattle.ckc_blame_sound.specs.JudgedTexts.{IsJudged, IsBodyJudged, globals_in}
use Rattle.ckc_blame_sound.proofs.Bares.{body_kept}
use Rattle.ckc_blame_sound.proofs.Bounded.{is_bounded, anything}
use Rattle.ckc_blame_sound.proofs.Functions.{tree_named, all_made}
use Rattle.ckc_blame_sound.proofs.KeptTrees.{Keeps}
use Rattle.ckc_blame_sound.proofs.Locals.{variables_declared, stmt_declares}
use Rattle.ckc_blame_sound.proofs.Notes.{body_noted}

-- ---- what an item became

abbrev IsNoFunction : NotedItem → Type 0
IsNoFunction (item.Function h body) = ⊥
IsNoFunction i = Unit {0}

-- the function with a body that was judged
abbrev BecameFunction : Frame → NotedHead → NotedStmt → NotedItem → Type 0
BecameFunction frame h before j = (body : NotedStmt) × (body_judged frame h before ≡ Ok body) × (j ≡ item.Function h body)

abbrev Became : Frame → NotedItem → NotedItem → Type 0
Became frame (item.Function h before) j = BecameFunction frame h before j
Became frame i j = IsNoFunction j

head_same : (frame : Frame) (h : NotedHead) → Gives (λ (g : NotedHead). g ≡ h) (head_kept frame h)
head_same frame h = bound (λ b. Unit {0}) (λ (g : NotedHead). g ≡ h) _ _ (anything (head_judged (params_frame frame h) h)) (λ b z. refl)

became : (frame : Frame) (i : NotedItem) → Gives (Became frame i) (item_judged frame i)
became frame (item.Directive d) = tt
became frame (item.Tag n at) = tt
became frame (item.Struct n ms at) = bound (λ u. Unit {0}) IsNoFunction _ _ (anything (members_judged frame (member_holder n) ms)) (λ u z. tt)
became frame (item.Static d) = bound (λ e. Unit {0}) IsNoFunction _ _ (anything (object_judged frame d)) (λ e z. tt)
became frame (item.Proto h) = bound (λ g. Unit {0}) IsNoFunction _ _ (anything (head_kept frame h)) (λ g z. tt)
became frame (item.Function h before) =
    bound (λ (g : NotedHead). g ≡ h) (BecameFunction frame h before) _ _ (head_same frame h) (λ g is.
    bound (λ s. body_judged frame h before ≡ Ok s) (BecameFunction frame h before) _ _ (itself (body_judged frame h before)) (λ s e.
    (s, e, ap (λ k. item.Function k s) is)))

-- ---- all items

-- an item came from one that was well typed
record CameFrom (frame : Frame) (globals : Globals) (W : NotedItem → Type 0) (j : NotedItem) : Type 0 where
  pub before : NotedItem
  pub among : W before
  pub became : Became frame before j
  pub pragma : Mode
  pub fits : WellTypedItem globals pragma before

came : (frame : Frame) (globals : Globals) (W : NotedItem → Type 0) (pragma : Mode) (is : List NotedItem) → All W is → WellTypedItems globals pragma is
    → Gives (All (CameFrom frame globals W)) (items_judged frame is)
came frame globals W pragma [] h w = All-nil (CameFrom frame globals W)
came frame globals W pragma (i ∷ is) h w =
    bound {A = NotedItem} {B = List NotedItem} (Became frame i) (All (CameFrom frame globals W)) _ _ (became frame i) (λ j b.
    bound {A = List NotedItem} {B = List NotedItem} (All (CameFrom frame globals W)) (All (CameFrom frame globals W)) _ _
    (came frame globals W (pragma_after pragma (bare_item i)) is (All-tail W i is h) w.1) (λ js c.
    All-cons (CameFrom frame globals W) j js (record { before = i; among = All-head W i is h; became = b; pragma = pragma; fits = w.0 }) c))

-- ---- the variables of a function

body_same : (frame : Frame) (h : NotedHead) (before body : NotedStmt) → body_judged frame h before ≡ Ok body → bare_stmt body ≡ bare_stmt before
body_same frame h before body e = by (body_judged frame h before) e (body_kept frame h before)
  where
    by : (o : Outcome NotedStmt) → o ≡ Ok body → Keeps bare_stmt (bare_stmt before) o → bare_stmt body ≡ bare_stmt before
    by (Ok s) is k = let same : s ≡ body = cc in subst (λ x. bare_stmt x ≡ bare_stmt before) same k
    by (Err r) is k = absurd cc

variables_same : (mode : Mode) (h : NotedHead) (before body : NotedStmt) → bare_stmt body ≡ bare_stmt before → variables_of mode (bare_head h) (bare_stmt before) ≡ variables_of mode h body
variables_same mode h before body e = ap (variables_of mode (bare_head h)) (sym e) ∙ variables_bare mode h body

-- ---- bodies

body_is : (p : Typed) (j : IsJudged p) (globals : Globals) (h : NotedHead) (body : NotedStmt) → CameFrom (frame_of_text j.typed) globals (Contains j.typed.tree.items) (item.Function h body)
    → IsBodyJudged globals j.typed h body
body_is p j globals h body c = by c.before c.among c.became c.fits
  where
    by : (i : NotedItem) → Contains j.typed.tree.items i → Became (frame_of_text j.typed) i (item.Function h body) → WellTypedItem globals c.pragma i → IsBodyJudged globals j.typed h body
    by (item.Function g before) there b w =
        let head : g ≡ h = cc in
        let made : b.0 ≡ body = cc in
        let judged : body_judged (frame_of_text j.typed) g before ≡ Ok body = b.1 ∙ ap (λ s. Ok s) made in
        let outer = head_mode c.pragma g in
        let seen : body_mode outer before ≡ body.note.mode =
        sym (typed_so globals (variables_of (body_mode outer before) (bare_head g) (bare_stmt before)) (type_written g.result) before outer false w.1)
        ∙ sym (ap (λ (n : Note). n.mode) (body_noted (frame_of_text j.typed) g before body judged)) in
        subst (λ (k : NotedHead). IsBodyJudged globals j.typed k body) head (record {
          before = before;
          mode = outer;
          there = there;
          judged = judged;
          fits = subst (λ vs. WellTypedStmt globals vs (type_written g.result) before outer false)
              (ap (λ mode. variables_of mode (bare_head g) (bare_stmt before)) seen ∙ variables_same body.note.mode g before body (body_same (frame_of_text j.typed) g before body judged)) w.1;
        })
    by (item.Directive d) there b w = absurd b
    by (item.Tag n at) there b w = absurd b
    by (item.Struct n ms at) there b w = absurd b
    by (item.Static d) there b w = absurd b
    by (item.Proto g) there b w = absurd b

pub bodies_are_typed : (p : Typed) (j : IsJudged p) (h : NotedHead) (body : NotedStmt) → Contains p.tree.items (item.Function h body) → IsBodyJudged (globals_in p) j.typed h body
bodies_are_typed p j h body there =
    let q = j.typed in
    let frame = frame_of_text q in
    let globals = globals_of (without_notes q.tree).items in
    let all : All (CameFrom frame globals (Contains q.tree.items)) p.tree.items =
    given_from (All (CameFrom frame globals (Contains q.tree.items))) (items_judged frame q.tree.items) p.tree.items
    (came frame globals (Contains q.tree.items) Unchecked q.tree.items (All-contains_itself q.tree.items) j.has_types.typed.items) (is_bounded q p j.has_bounds).items in
    let same : globals_of (without_notes q.tree).items ≡ globals_in p = ap (λ (t : Tree). globals_of t.items) (j.has_types.tree ∙ sym (tree_named p j)) in
    subst (λ (g : Globals). IsBodyJudged g q h body) same
    (body_is p j globals h body (All-contains (CameFrom frame globals (Contains q.tree.items)) p.tree.items (item.Function h body) all there))

-- ---- what is declared

pub contains_made : {A B : Type 0} (f : A → B) (xs : List A) (x : A) → Contains xs x → Contains (map f xs) (f x)
contains_made f xs x h = All-contains (λ y. Contains (map f xs) (f y)) xs x (all_made (Contains (map f xs)) f xs (All-contains_itself (map f xs))) h

locals_same : (before body : NotedStmt) → bare_stmt body ≡ bare_stmt before → locals_of before ≡ locals_of body
locals_same before body e = sym (stmt_declares before).same ∙ ap (λ s. locals_of s) (sym e) ∙ (stmt_declares body).same

-- what is declared in the body before it was judged is among the variables of the function
pub declared_known : (globals : Globals) (typed : Typed) (h : NotedHead) (body : NotedStmt) (b : IsBodyJudged globals typed h body) (d : NotedDecl) → Contains (path b.before).declared d
    → Contains (variables_of body.note.mode h body) (variable_declared d)
declared_known globals typed h body b d there =
    let same = locals_same b.before body (body_same (frame_of_text typed) h b.before body b.judged) in
    let moved = (stmt_declares b.before).is.variables in
    Contains-append_right (params_of body.note.mode h) (locals_of body) (variable_declared d)
    (subst (λ vs. Contains vs (variable_declared d)) same
    (Contains-permutation (variables_declared (path b.before).declared) (locals_of b.before) (variable_declared d) moved
    (contains_made (λ (e : NotedDecl). variable_declared e) (path b.before).declared d there)))
