-- The objects of the program of an accepted text begin as bytes, and lie as those of a program must.
use Rattle.std.proofs.Common.{◌≡◌, ◌∙◌, sym, ap, subst, arith, refl, ℕ, zero, suc, ◌*◌, ◌-◌, ◌<◌, nat_lt, Bool, true, List, [], ◌∷◌, ◌++◌, map, length, take}
use Rattle.std.specs.Prelude.{All, Option, None, Some, Ok}
use Rattle.std.specs.List.{list_all, flat_map}
use Rattle.std.specs.Option.{option_map_or}
use Rattle.std.specs.Int.{w32, to_le_bytes, bytes_low_first, byte_at}
use Rattle.std.proofs.lemmas.Bool.{and_parts, ltb-true}
use Rattle.std.proofs.lemmas.List.Elements.{All-nil, All-cons, All-head, All-tail, All-append}
use Rattle.ckc_base.specs.declared.arithmetic.Mode.TheVariants.{Unchecked}
use Rattle.ckc_base.specs.Lists.{AreBytes}
use Rattle.ckc_base.specs.MemoryMap.{data_start, statics_end}
use Rattle.ckc_base.specs.Phases.{◌>=>◌}
use Rattle.ckc_types.specs.declared.types.CType.{CType}
use Rattle.ckc_types.specs.declared.types.Structs.{Structs}
use Rattle.ckc_syntax.specs.Inside.{all_have, inside_if}
use Rattle.ckc_syntax.specs.Spelled.{Tokens}
use Rattle.ckc_syntax.specs.Trees.{Tree}
use Rattle.ckc_syntax.specs.declared.tree.NamedText.{NamedText}
use Rattle.ckc_syntax.specs.declared.tree.Init.TheVariants as init
use Rattle.ckc_syntax.specs.declared.tree.Item.TheVariants as item
use Rattle.ckc_lexer.specs.Phase.{lexing}
use Rattle.ckc_parser.specs.Phase.{parsing}
use Rattle.ckc_plain.specs.Phase.{resolving}
use Rattle.ckc_scopes.specs.Phase.{scoping}
use Rattle.ckc_typed.specs.declared.environment.Constant.{Constant}
use Rattle.ckc_typed.specs.declared.typed.StaticObject.{StaticObject}
use Rattle.ckc_typed.specs.declared.typed.Typed.{Typed}
use Rattle.ckc_typed.specs.Constants.{constant}
use Rattle.ckc_typed.specs.Declarations.{string_in}
use Rattle.ckc_typed.specs.Statics.{Strings, bytes_of, bytes_of_one, initial_bytes, object_of, objects_of_item, object_of_string, blocks, begin_behind, end_of_block, placed, strings_of_item}
use Rattle.ckc_typed.specs.Texts.{globals_of}
use Rattle.ckc_typed.specs.Trees.{NotedExpr, NotedInit, NotedItem}
use Rattle.ckc_typed.specs.Types.{type_written}
use Rattle.ckc_typed_welltyped.specs.Noteless.{without_notes}
use Rattle.ckc_typed_welltyped.specs.Texts.{WellTyped, TypedAs}
use Rattle.ckc_typing.specs.Objects.{LieApart, HasRoom, HaveRoom}
use Rattle.ckc_typing.proofs.Placed.{eighths, apart, within, first_at}
use Rattle.ckc_blame_sound.specs.ckc_bounds.specs.Phase.{bounding}
use Rattle.ckc_blame_sound.specs.ckc_bounds.specs.Texts.{text_judged}
use Rattle.ckc_source.specs.Blocks.{block_of, first_place}
use Rattle.ckc_source.specs.LaidOut.{HoldBytes, IsLaidOut}
use Rattle.ckc_build_elaborate.specs.Elaborated.{elaborated}
use Rattle.ckc_build_elaborate.specs.Lists.{beside}
use Rattle.ckc_build_elaborate.specs.Objects.{object_elaborated, objects_elaborated, run_in}
use Rattle.ckc_build_elaborate.proofs.Laid.{apart_is, below_is}
use Rattle.ckc_blame_sound.proofs.Bytes.{zero_bytes}
use Rattle.ckc_blame_sound.proofs.Bounded.{is_bounded}
use Rattle.ckc_blame_sound.proofs.Lists.{all_by}
use Rattle.ckc_blame_walk.proofs.Starts.{IsBegun, blocks_begun}
use Rattle.ckc_blame_words.specs.Literals.{are_bytes, init_has_words, limits_have_words, item_has_words, tree_has_words}
use Rattle.ckc_blame_words.proofs.Tokens.{tokens_hold_words}
use Rattle.ckc_blame_words.proofs.Chain.{parsed_words, types_keep_words}
use Rattle.ckc_blame_words.proofs.Whole.{resolved_words}
use Rattle.ckc_blame_steps.proofs.TreeStrings.{HasBytes, HaveBytes, items_bytes, string_bytes}

-- ---- bytes

holds_bytes : (bytes : List ℕ) → HasBytes bytes → AreBytes bytes
holds_bytes [] h = tt
holds_bytes (b ∷ bytes) h = let both = and_parts (nat_lt b 256) (are_bytes bytes) h in (ltb-true b 256 both.0, holds_bytes bytes both.1)

taken : (n : ℕ) (bytes : List ℕ) → AreBytes bytes → AreBytes (take n bytes)
taken zero bytes h = tt
taken (suc n) [] h = tt
taken (suc n) (b ∷ bytes) h = (h.0, taken n bytes h.1)

joined : (a b : List ℕ) → AreBytes a → AreBytes b → AreBytes (a ++ b)
joined [] b h g = g
joined (x ∷ a) b h g = (h.0, joined a b h.1 g)

byte_small : (i n : ℕ) → byte_at i n < 256
byte_small zero n = omega arith
byte_small (suc i) n = omega arith

low_bytes : (i k n : ℕ) → AreBytes (bytes_low_first i k n)
low_bytes i zero n = tt
low_bytes i (suc k) n = (byte_small i n, low_bytes (suc i) k n)

-- ---- what objects begin with

module _ (structs : Structs) where
  constant_bytes : (t : CType) (e : NotedExpr) → AreBytes (bytes_of structs t e)
  constant_bytes t e = taken _ (to_le_bytes w32 (option_map_or (λ (c : Constant). c.word) (constant structs e) 0)) (low_bytes 0 4 (option_map_or (λ (c : Constant). c.word) (constant structs e) 0))

  list_bytes : (t : CType) (es : List NotedExpr) → AreBytes (flat_map (bytes_of structs t) es)
  list_bytes t [] = tt
  list_bytes t (e ∷ es) = joined (bytes_of structs t e) (flat_map (bytes_of structs t) es) (constant_bytes t e) (list_bytes t es)

  first_bytes : (t : CType) (i : NotedInit) → init_has_words i ≡ true → AreBytes (initial_bytes structs t i)
  first_bytes t init.Nothing h = tt
  first_bytes t (init.Many es) h = list_bytes t es
  first_bytes t (init.One e) h = by (string_in e) refl
    where
      by : (o : Option (List ℕ)) → string_in e ≡ o → AreBytes (bytes_of_one structs t e o)
      by None is = constant_bytes t e
      by (Some bytes) is = holds_bytes bytes (string_bytes e bytes h is)

  abbrev BeginsAsBytes : StaticObject → Type 0
  BeginsAsBytes o = AreBytes o.initial

  item_objects : (i : NotedItem) → item_has_words i ≡ true → All BeginsAsBytes (objects_of_item structs i)
  item_objects (item.Static d) h =
      All-cons BeginsAsBytes (object_of structs d) [] (first_bytes (type_written d.ctype) d.init (and_parts (inside_if all_have limits_have_words d.bounds) (init_has_words d.init) h).1) (All-nil BeginsAsBytes)
  item_objects (item.Directive d) h = All-nil BeginsAsBytes
  item_objects (item.Tag n at) h = All-nil BeginsAsBytes
  item_objects (item.Struct n members at) h = All-nil BeginsAsBytes
  item_objects (item.Proto g) h = All-nil BeginsAsBytes
  item_objects (item.Function g body) h = All-nil BeginsAsBytes

  items_objects : (is : List NotedItem) → list_all item_has_words is ≡ true → All BeginsAsBytes (flat_map (objects_of_item structs) is)
  items_objects [] h = All-nil BeginsAsBytes
  items_objects (i ∷ is) h =
      let both = and_parts (item_has_words i) (list_all item_has_words is) h in
      All-append BeginsAsBytes (objects_of_item structs i) (flat_map (objects_of_item structs) is) (item_objects i both.0) (items_objects is both.1)

  strings_objects : (ss : Strings) → HaveBytes ss → All BeginsAsBytes (map object_of_string ss)
  strings_objects [] h = All-nil BeginsAsBytes
  strings_objects (s ∷ ss) h = All-cons BeginsAsBytes (object_of_string s) (map object_of_string ss) (holds_bytes s (All-head HasBytes s ss h)) (strings_objects ss (All-tail HasBytes s ss h))

  all_objects : (is : List NotedItem) → list_all item_has_words is ≡ true → All BeginsAsBytes (blocks structs is)
  all_objects is h =
      All-append BeginsAsBytes (flat_map (objects_of_item structs) is) (map object_of_string (flat_map strings_of_item is)) (items_objects is h) (strings_objects (flat_map strings_of_item is) (items_bytes is h))

  placed_objects : (end : ℕ) (os : List StaticObject) → All BeginsAsBytes os → All BeginsAsBytes (placed structs end os)
  placed_objects end [] h = All-nil BeginsAsBytes
  placed_objects end (o ∷ os) h =
      All-cons BeginsAsBytes (record o { at = begin_behind end }) (placed structs (end_of_block structs end o) os) (All-head BeginsAsBytes o os h) (placed_objects (end_of_block structs end o) os (All-tail BeginsAsBytes o os h))

  placed_room : (os : List StaticObject) (end : ℕ) → HaveRoom structs os → HaveRoom structs (placed structs end os)
  placed_room [] end h = All-nil (HasRoom structs)
  placed_room (o ∷ os) end h =
      All-cons (HasRoom structs) (record o { at = begin_behind end }) (placed structs (end_of_block structs end o) os) (All-head (HasRoom structs) o os h) (placed_room os (end_of_block structs end o) (All-tail (HasRoom structs) o os h))

  block_bytes : (flag : Option Bool) (o : StaticObject) → BeginsAsBytes o → AreBytes (block_of (object_elaborated structs flag o)).bytes
  block_bytes flag o h =
      joined o.initial _ h (zero_bytes ((object_elaborated structs flag o).size * (object_elaborated structs flag o).count - length o.initial))

  blocks_bytes : (flags : List Bool) (os : List StaticObject) → All BeginsAsBytes os → HoldBytes (map block_of (beside (object_elaborated structs) flags os))
  blocks_bytes flags [] h = tt
  blocks_bytes [] (o ∷ os) h = (block_bytes None o (All-head BeginsAsBytes o os h), blocks_bytes [] os (All-tail BeginsAsBytes o os h))
  blocks_bytes (f ∷ flags) (o ∷ os) h = (block_bytes (Some f) o (All-head BeginsAsBytes o os h), blocks_bytes flags os (All-tail BeginsAsBytes o os h))

-- ---- a judged text

module _ (q p : Typed) (typed : WellTyped q) (judged : text_judged q ≡ Ok p) where
  objects_hold : tree_has_words q.tree ≡ true → HoldBytes (map block_of (objects_elaborated p))
  objects_hold words =
      blocks_bytes p.layout (flat_map run_in p.tree.items) p.statics
      (subst (λ os. All (BeginsAsBytes p.layout) os) (sym ((is_bounded q p judged).statics ∙ typed.statics))
      (placed_objects q.layout data_start (blocks q.layout q.tree.items) (all_objects q.layout q.tree.items words)))

  typed_apart : LieApart q.layout q.statics
  typed_apart =
      subst (LieApart q.layout) (sym typed.statics) (record {
        first = first_at q.layout (blocks q.layout q.tree.items);
        eighths = eighths q.layout (blocks q.layout q.tree.items) data_start;
        apart = apart q.layout (blocks q.layout q.tree.items) data_start;
        within = within q.layout (blocks q.layout q.tree.items) data_start statics_end typed.ends;
      })

  objects_apart : LieApart p.layout p.statics
  objects_apart =
      let same = is_bounded q p judged in
      subst (λ (s : Structs). LieApart s p.statics) (sym same.layout) (subst (LieApart q.layout) (sym same.statics) typed_apart)

  typed_room : HaveRoom q.layout q.statics
  typed_room =
      let globals = globals_of (without_notes q.tree).items in
      let begun : All (IsBegun q.layout) (blocks q.layout q.tree.items) =
      subst (λ (s : Structs). All (IsBegun s) (blocks s q.tree.items)) (sym typed.layout) (blocks_begun globals Unchecked q.tree.items typed.items) in
      subst (HaveRoom q.layout) (sym typed.statics)
      (placed_room q.layout (blocks q.layout q.tree.items) data_start (all_by (IsBegun q.layout) (HasRoom q.layout) (λ o b. b.fits) (blocks q.layout q.tree.items) begun))

  objects_have_room : HaveRoom p.layout p.statics
  objects_have_room =
      let same = is_bounded q p judged in
      subst (λ (s : Structs). HaveRoom s p.statics) (sym same.layout) (subst (HaveRoom q.layout) (sym same.statics) typed_room)

  pub text_laid_out : tree_has_words q.tree ≡ true → IsLaidOut (elaborated p)
  text_laid_out words = record {
    apart = apart_is p.layout (flat_map run_in p.tree.items) p.statics objects_apart objects_have_room;
    below = below_is p.layout first_place (flat_map run_in p.tree.items) p.statics (omega arith) objects_apart.within objects_have_room;
    bytes = objects_hold words;
  }

pub programs_laid_out : (text : List ℕ) (tokens : Tokens) (whole : Tree) (named : NamedText) (typed p : Typed) → lexing.Makes text tokens → parsing.Makes tokens whole
    → resolving.Makes whole named → TypedAs named typed → (scoping >=> bounding).Makes typed p → IsLaidOut (elaborated p)
programs_laid_out text tokens whole named typed p cut parsed resolved is judged =
    text_laid_out judged.0 p (subst (λ (t : Typed). WellTyped t) (sym judged.1.1) is.typed) judged.2
    (ap (λ (t : Typed). tree_has_words t.tree) judged.1.1 ∙ types_keep_words named typed is ∙ resolved_words whole named resolved (parsed_words tokens whole (tokens_hold_words text tokens cut) parsed))
