-- What a head says of bounds depends on no places, on no notes, and on the structures and static objects alone.
use Rattle.std.proofs.Common.{◌≡◌, ◌∙◌, sym, ap, refl, ℕ, suc, Bool, true, false, List, [], ◌∷◌, ◌++◌, map, length, replicate}
use Rattle.std.specs.Prelude.{if◌then◌else◌, ◌&&◌, Option, Some, None, unwrap_or, is_none, slice_get, slice_set, Ok, Err}
use Rattle.std.specs.Option.{option_map}
use Rattle.ckc_base.specs.declared.arithmetic.Mode.TheVariants.{Checked}
use Rattle.ckc_base.specs.declared.places.Pos.{Pos}
use Rattle.ckc_base.specs.Outcomes.{Outcome, there_or}
use Rattle.ckc_types.specs.declared.types.CType.{CType}
use Rattle.ckc_syntax.specs.declared.tree.Name.{Name}
use Rattle.ckc_syntax.specs.declared.tree.Name.TheVariants as name
use Rattle.ckc_syntax.specs.declared.tree.Length.{Length}
use Rattle.ckc_syntax.specs.declared.tree.Length.TheVariants as lengths
use Rattle.ckc_syntax.specs.declared.tree.Limits.{out-Limits}
use Rattle.ckc_syntax.specs.Placeless.{placeless_type, placeless_length, placeless_bounds, placeless_decl, placeless_head}
use Rattle.ckc_typed.specs.Environment.{kind_of_array}
use Rattle.ckc_typed.specs.Interfaces.{is_interface, seen, seen_params}
use Rattle.ckc_typed.specs.Trees.{Decl, Head, Limits, NotedDecl, NotedHead, NotedLimits}
use Rattle.ckc_typed.specs.Types.{type_written, kind_of}
use Rattle.ckc_typed_welltyped.specs.Noteless.{bare_limits, bare_decl, bare_head}
use Rattle.ckc_typed_welltyped.proofs.Seen.{seen_bare, is_interface_bare}
use Rattle.ckc_blame_sound.specs.ckc_bounds_points.specs.Codes.{bad_limits}
use Rattle.ckc_blame_sound.specs.ckc_bounds_points.specs.declared.frame.Bounds.{Bounds}
use Rattle.ckc_blame_sound.specs.ckc_bounds_points.specs.declared.frame.Bounds.TheVariants as bounds
use Rattle.ckc_blame_sound.specs.ckc_bounds_points.specs.declared.frame.Frame.{Frame}
use Rattle.ckc_blame_sound.specs.ckc_bounds_points.specs.declared.frame.HeadBounds.{HeadBounds}
use Rattle.ckc_blame_sound.specs.ckc_bounds_points.specs.declared.frame.Local.{Local}
use Rattle.ckc_blame_sound.specs.ckc_bounds_declared.specs.declared.limits.Holder.{Holder}
use Rattle.ckc_blame_sound.specs.ckc_bounds_declared.specs.declared.limits.Holder.TheVariants as holder
use Rattle.ckc_blame_sound.specs.ckc_bounds_declared.specs.Written.{own, takes_bounds_kind, takes_bounds, bounds_by_type, place_of_limits, bounds_taken, bounds_declared}
use Rattle.ckc_blame_sound.specs.ckc_bounds.specs.Declarations.{result_bounds, known_or_not, bare, few_of, nameless, local_made, with_local, with_all, all_made, with_locals, types_in, declared_in, head_bounds}
use Rattle.ckc_blame_walk.specs.ckc_blame_declared.proofs.More.{KnowsAs, declared_stays}
use Rattle.ckc_blame_steps.proofs.Interfaces.{seen_placeless, is_interface_placeless}
use Rattle.ckc_blame_steps.proofs.Plain.{type_plain, plain_limits, plain_written, written_plain}

-- ---- without places and notes

abbrev plain_taken : Frame → Holder → CType → Length → Limits → Option Bounds
plain_taken frame h t length l = if takes_bounds t length then plain_written frame h t (out-Limits Name (Unit {0}) l) else None

abbrev plain_bounds : Frame → Holder → CType → Length → Option Limits → Bounds
plain_bounds frame h t length None = bounds_by_type (own h) t
plain_bounds frame h t length (Some l) = unwrap_or (plain_taken frame h t length l) bounds.Unknown

length_plain : (l : Length) → kind_of_array (placeless_length l) ≡ kind_of_array l
length_plain lengths.Plain = refl
length_plain (lengths.Raw n pos) = refl
length_plain (lengths.Checked n) = refl
length_plain (lengths.Nt n) = refl

there_known : (code : ℕ) (at : Pos) (o : Option Bounds) → known_or_not (there_or code at o) ≡ unwrap_or o bounds.Unknown
there_known code at None = refl
there_known code at (Some b) = refl

bounds_plain : (frame : Frame) (h : Holder) (t : CType) (n : Length) (l : Option NotedLimits)
    → known_or_not (bounds_declared frame h t n l) ≡ plain_bounds frame h t (placeless_length n) (placeless_bounds (option_map bare_limits l))
bounds_plain frame h t n None = refl
bounds_plain frame h t n (Some l) =
    there_known bad_limits (place_of_limits l) (bounds_taken frame h t n l)
    ∙ ap (λ o. unwrap_or (if takes_bounds t n then o else None) bounds.Unknown) (sym (written_plain frame h t l))
    ∙ ap (λ (k : Bool). unwrap_or (if k then plain_written frame h t (out-Limits Name (Unit {0}) (plain_limits l)) else None) bounds.Unknown) (sym (takes_plain t n))
  where
    takes_plain : (t : CType) (n : Length) → takes_bounds t (placeless_length n) ≡ takes_bounds t n
    takes_plain t n = ap (λ k. takes_bounds_kind (kind_of t) && is_none k) (length_plain n)

abbrev plain_local : Frame → Bool → ℕ → Decl → Local
plain_local frame false k d = bare (type_written d.ctype)
plain_local frame true k d = record { ctype = type_written d.ctype; bounds = plain_bounds frame (holder.Local k) (type_written d.ctype) d.length d.bounds }

local_plain : (frame : Frame) (b : Bool) (k : ℕ) (d : NotedDecl) → local_made frame b k d ≡ plain_local frame b k (placeless_decl (bare_decl d))
local_plain frame false k d = ap bare (sym (type_plain d.ctype))
local_plain frame true k d =
    ap (λ b. record { ctype = type_written d.ctype; bounds = b }) (bounds_plain frame (holder.Local k) (type_written d.ctype) d.length d.bounds)
    ∙ ap (λ t. record { ctype = t; bounds = plain_bounds frame (holder.Local k) t (placeless_length d.length) (placeless_bounds (option_map bare_limits d.bounds)) }) (sym (type_plain d.ctype))

-- What each declaration makes stands at its number.
abbrev plain_one : Frame → Bool → List Local → Name → Decl → List Local
plain_one frame b ls (name.Local k) d = slice_set ls k (plain_local frame b k d)
plain_one frame b ls _ d = ls

abbrev plain_each : Frame → Bool → List Local → List Decl → List Local
plain_each frame b ls [] = ls
plain_each frame b ls (d ∷ ds) = plain_each frame b (plain_one frame b ls d.name d) ds

abbrev plain_all : Frame → Bool → List Decl → List Local
plain_all frame b ds = plain_each frame b (replicate (length ds) nameless) ds

one_plain : (frame : Frame) (b : Bool) (ls : List Local) (n : Name) (d : NotedDecl) → with_local frame b ls n d ≡ plain_one frame b ls n (placeless_decl (bare_decl d))
one_plain frame b ls (name.Local k) d = ap (slice_set ls k) (local_plain frame b k d)
one_plain frame b ls (name.Static k) d = refl
one_plain frame b ls (name.Function k) d = refl
one_plain frame b ls (name.Tag k) d = refl
one_plain frame b ls (name.Member k) d = refl
one_plain frame b ls name.Getchar d = refl
one_plain frame b ls name.Putchar d = refl

each_plain : (frame : Frame) (b : Bool) (ls : List Local) (ds : List NotedDecl) → with_all frame b ls ds ≡ plain_each frame b ls (map placeless_decl (map bare_decl ds))
each_plain frame b ls [] = refl
each_plain frame b ls (d ∷ ds) =
    each_plain frame b (with_local frame b ls d.name d) ds
    ∙ ap (λ xs. plain_each frame b xs (map placeless_decl (map bare_decl ds))) (one_plain frame b ls d.name d)

as_many : (ds : List NotedDecl) → length ds ≡ length (map placeless_decl (map bare_decl ds))
as_many [] = refl
as_many (d ∷ ds) = ap suc (as_many ds)

all_plain : (frame : Frame) (b : Bool) (ds : List NotedDecl) → all_made frame b ds ≡ plain_all frame b (map placeless_decl (map bare_decl ds))
all_plain frame b ds =
    each_plain frame b (replicate (length ds) nameless) ds ∙ ap (λ n. plain_each frame b (replicate n nameless) (map placeless_decl (map bare_decl ds))) (as_many ds)

abbrev plain_types : Frame → List Decl → Frame
plain_types frame ds = with_locals frame (plain_all frame false ds)

abbrev plain_parts : Frame → List Decl → List Bool → CType → Option Limits → HeadBounds
plain_parts frame ds is t l = record {
  params = plain_all (plain_types frame ds) true ds;
  interfaces = is;
  result = t;
  bounds = plain_bounds (plain_types frame ds) holder.Result t lengths.Plain l;
}

abbrev plain_head : Frame → Head → HeadBounds
plain_head frame h = plain_parts frame (seen_params Checked h) (map is_interface h.params) (type_written h.result) h.bounds

seen_plain : (ds : List NotedDecl) → map placeless_decl (map bare_decl (map (seen Checked) ds)) ≡ map (seen Checked) (map placeless_decl (map bare_decl ds))
seen_plain [] = refl
seen_plain (d ∷ ds) =
    ap (λ (x : Decl). placeless_decl x ∷ map placeless_decl (map bare_decl (map (seen Checked) ds))) (sym (seen_bare Checked d))
    ∙ ap (λ (x : Decl). x ∷ map placeless_decl (map bare_decl (map (seen Checked) ds))) (sym (seen_placeless Checked (bare_decl d)))
    ∙ ap (λ (xs : List Decl). seen Checked (placeless_decl (bare_decl d)) ∷ xs) (seen_plain ds)

interfaces_plain : (ds : List NotedDecl) → map is_interface ds ≡ map is_interface (map placeless_decl (map bare_decl ds))
interfaces_plain [] = refl
interfaces_plain (d ∷ ds) =
    ap (λ b. b ∷ map is_interface ds) (sym (is_interface_placeless (bare_decl d) ∙ is_interface_bare d))
    ∙ ap (λ bs. is_interface (placeless_decl (bare_decl d)) ∷ bs) (interfaces_plain ds)

types_plain : (frame : Frame) (ds : List NotedDecl) → types_in frame ds ≡ plain_types frame (map placeless_decl (map bare_decl ds))
types_plain frame ds = ap (with_locals frame) (all_plain frame false ds)

pub head_plain : (frame : Frame) (h : NotedHead) → head_bounds frame h ≡ plain_head frame (placeless_head (bare_head h))
head_plain frame h =
    let ps = seen_params Checked h in
    let is = map is_interface h.params in
    let ds = map placeless_decl (map bare_decl ps) in
    let seen_in = map (seen Checked) (map placeless_decl (map bare_decl h.params)) in
    let l = placeless_bounds (option_map bare_limits h.bounds) in
    let params : declared_in frame ps ≡ plain_all (plain_types frame ds) true ds =
    all_plain (types_in frame ps) true ps ∙ ap (λ f. plain_all f true ds) (types_plain frame ps) in
    let result : known_or_not (result_bounds (types_in frame ps) h) ≡ plain_bounds (plain_types frame ds) holder.Result (type_written h.result) lengths.Plain l =
    bounds_plain (types_in frame ps) holder.Result (type_written h.result) lengths.Plain h.bounds
    ∙ ap (λ f. plain_bounds f holder.Result (type_written h.result) lengths.Plain l) (types_plain frame ps) in
    ap (λ ls. record { params = ls; interfaces = is; result = type_written h.result; bounds = known_or_not (result_bounds (types_in frame ps) h) }) params
    ∙ ap (λ b. record { params = plain_all (plain_types frame ds) true ds; interfaces = is; result = type_written h.result; bounds = b }) result
    ∙ ap (λ t. plain_parts frame ds is t l) (sym (type_plain h.result))
    ∙ ap (λ xs. plain_parts frame xs is (type_written (placeless_type h.result)) l) (seen_plain h.params)
    ∙ ap (λ bs. plain_parts frame seen_in bs (type_written (placeless_type h.result)) l) (interfaces_plain h.params)

-- Heads that are the same but for places say the same of bounds.
pub heads_same : (frame : Frame) (g h : NotedHead) → placeless_head (bare_head g) ≡ placeless_head (bare_head h) → head_bounds frame g ≡ head_bounds frame h
heads_same frame g h e = head_plain frame g ∙ ap (plain_head frame) e ∙ sym (head_plain frame h)

-- ---- in another frame

-- two frames of one text know the same structures and static objects
pub record KnowsText (frame other : Frame) : Type 0 where
  pub structs : other.structs ≡ frame.structs
  pub statics : other.statics ≡ frame.statics

either_known : (o p : Outcome Bounds) → ((b : Bounds) → o ≡ Ok b → p ≡ Ok b) → ((b : Bounds) → p ≡ Ok b → o ≡ Ok b) → known_or_not o ≡ known_or_not p
either_known (Ok b) p h i = sym (ap known_or_not (h b refl))
either_known (Err r) (Ok b) h i = absurd (no r b (i b refl))
  where
    no : (r : _) (b : Bounds) → ◌≡◌ {A = Outcome Bounds} (Err r) (Ok b) → ⊥
    no r b e = absurd cc
either_known (Err r) (Err q) h i = refl

module _ (frame other : Frame) (w : KnowsText frame other) where
  type_same : (ls : List Local) (n : Name) (d : NotedDecl) → with_local other false ls n d ≡ with_local frame false ls n d
  type_same ls (name.Local k) d = refl
  type_same ls (name.Static k) d = refl
  type_same ls (name.Function k) d = refl
  type_same ls (name.Tag k) d = refl
  type_same ls (name.Member k) d = refl
  type_same ls name.Getchar d = refl
  type_same ls name.Putchar d = refl

  types_same : (ls : List Local) (ds : List NotedDecl) → with_all other false ls ds ≡ with_all frame false ls ds
  types_same ls [] = refl
  types_same ls (d ∷ ds) = types_same (with_local other false ls d.name d) ds ∙ ap (λ xs. with_all frame false xs ds) (type_same ls d.name d)

  abbrev first : List NotedDecl → Frame
  first ds = types_in frame ds

  abbrev second : List NotedDecl → Frame
  second ds = types_in other ds

  there : (ds : List NotedDecl) → KnowsAs (first ds) (second ds)
  there ds = record { structs = w.structs; statics = w.statics; locals = λ k l e. ap (λ ls. slice_get (few_of ls) k) (types_same (replicate (length ds) nameless) ds) ∙ e }

  back : (ds : List NotedDecl) → KnowsAs (second ds) (first ds)
  back ds = record { structs = sym w.structs; statics = sym w.statics; locals = λ k l e. sym (ap (λ ls. slice_get (few_of ls) k) (types_same (replicate (length ds) nameless) ds)) ∙ e }

  declared_same : (ps : List NotedDecl) (h : Holder) (t : CType) (n : Length) (l : Option NotedLimits)
      → known_or_not (bounds_declared (second ps) h t n l) ≡ known_or_not (bounds_declared (first ps) h t n l)
  declared_same ps h t n l = either_known _ _ (declared_stays (second ps) (first ps) (back ps) h t n l) (declared_stays (first ps) (second ps) (there ps) h t n l)

  one_same : (ps : List NotedDecl) (ls : List Local) (n : Name) (d : NotedDecl) → with_local (second ps) true ls n d ≡ with_local (first ps) true ls n d
  one_same ps ls (name.Local k) d =
      ap (λ b. slice_set ls k (record { ctype = type_written d.ctype; bounds = b })) (declared_same ps (holder.Local k) (type_written d.ctype) d.length d.bounds)
  one_same ps ls (name.Static k) d = refl
  one_same ps ls (name.Function k) d = refl
  one_same ps ls (name.Tag k) d = refl
  one_same ps ls (name.Member k) d = refl
  one_same ps ls name.Getchar d = refl
  one_same ps ls name.Putchar d = refl

  all_same : (ps : List NotedDecl) (ls : List Local) (ds : List NotedDecl) → with_all (second ps) true ls ds ≡ with_all (first ps) true ls ds
  all_same ps ls [] = refl
  all_same ps ls (d ∷ ds) = all_same ps (with_local (second ps) true ls d.name d) ds ∙ ap (λ xs. with_all (first ps) true xs ds) (one_same ps ls d.name d)

  pub same_bounds : (h : NotedHead) → head_bounds other h ≡ head_bounds frame h
  same_bounds h =
      let ps = seen_params Checked h in
      let is = map is_interface h.params in
      ap (λ ls. record { params = ls; interfaces = is; result = type_written h.result; bounds = known_or_not (result_bounds (second ps) h) }) (all_same ps (replicate (length ps) nameless) ps)
      ∙ ap (λ b. record { params = declared_in frame ps; interfaces = is; result = type_written h.result; bounds = b }) (declared_same ps holder.Result (type_written h.result) lengths.Plain h.bounds)
