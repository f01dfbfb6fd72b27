-- A result that is kept in a static object.
use Rattle.std.proofs.Common.{◌≡◌, refl, sym, ap, subst, ◌∙◌, ℕ, ◌+◌, ◌*◌, true, false, [], ◌∷◌, arith}
use Rattle.std.specs.Prelude.{is_none, slice_get, Option, None, Some, Ok, List, IsSome}
use Rattle.ckc_types.specs.declared.types.CType.{CType}
use Rattle.ckc_types.specs.declared.types.Kind.{Kind}
use Rattle.ckc_syntax.specs.declared.tree.Name.{Name}
use Rattle.ckc_syntax.specs.declared.tree.Name.TheVariants as name
use Rattle.ckc_syntax.specs.declared.tree.Node.{Node-F, out-Node}
use Rattle.ckc_typed.specs.declared.environment.Object.{Object}
use Rattle.ckc_typed.specs.declared.typed.Note.{Note}
use Rattle.ckc_typed.specs.declared.typed.StaticObject.{StaticObject}
use Rattle.ckc_typed.specs.declared.typed.Typed.{Typed}
use Rattle.ckc_typed.specs.Environment.{used, object_named}
use Rattle.ckc_typed.specs.Expressions.{is_no_array}
use Rattle.ckc_typed.specs.Types.{is_scalar}
use Rattle.ckc_blame_sound.specs.ckc_bounds_points.specs.declared.frame.Bounds.{Bounds}
use Rattle.ckc_blame_sound.specs.ckc_bounds_points.specs.Flow.{State}
use Rattle.ckc_blame_sound.specs.ckc_bounds_stores.specs.Stores.{Placed, stored_placed}
use Rattle.ckc_blame_sound.specs.ckc_bounds_stores.specs.Targets.{local_in}
use Rattle.ckc_source.specs.declared.outcome.Place.TheVariants as place
use Rattle.ckc_source.specs.Blocks.{Block, stored}
use Rattle.ckc_source.specs.Eval.{Store, given}
use Rattle.ckc_source.specs.Runs.{is_true}
use Rattle.ckc_source.specs.States as states
use Rattle.ckc_source.specs.Steps.{all_written, with_blocks}
use Rattle.ckc_build_elaborate.specs.Shapes.{shapes_elaborated}
use Rattle.ckc_build_values.specs.Kinds.{width_of, pointee_of}
use Rattle.ckc_build_values.specs.Names.{address_of, count_of_static}
use Rattle.ckc_blame_sound.specs.Calls.{store_in}
use Rattle.ckc_blame_sound.specs.Settings.{Setting}
use Rattle.ckc_blame_sound.specs.Slots.{AreFilled}
use Rattle.ckc_blame_sound.specs.Valuations.{Valuation, AreFacts, IsValuationOf}
use Rattle.ckc_blame_sound.specs.Cells.{AreSound, IsCell}
use Rattle.ckc_blame_sound.specs.Limited.{AreSlotParts}
use Rattle.ckc_blame_sound.specs.Writes.{AreCellWrites}
use Rattle.ckc_blame_sound.proofs.Apart.{cell_there}
use Rattle.ckc_blame_sound.proofs.KeptBlocks.{sound_after}
use Rattle.ckc_blame_sound.proofs.Stores.{store_some, stored_parts}
use Rattle.ckc_blame_sound.proofs.Truths.{true_after}
use Rattle.ckc_blame_sound.proofs.Alone.{element_filled}
use Rattle.ckc_blame_sound.specs.JudgedTexts.{IsJudged, globals_in}
use Rattle.ckc_blame_sound.proofs.Accesses.{scalar_part}
use Rattle.ckc_blame_sound.proofs.Members.{have_own_names}
use Rattle.ckc_blame_steps.specs.Statics.{IsStatic}
use Rattle.ckc_blame_steps.proofs.Statics.{decls, object_is, index_of}
use Rattle.ckc_blame_steps.proofs.StaticKinds.{plain_ends}
use Rattle.ckc_blame_steps.proofs.StaticTargets.{no_member, statics_counts}
use Rattle.ckc_blame_steps.proofs.Told.{are_statics, from_zero, has_object}
use Rattle.ckc_blame_walk.proofs.Counts.{slot_parts}
use Rattle.ckc_blame_walk.proofs.NamedStatics.{members_named}
use Rattle.ckc_blame_given.specs.ckc_blame_pointers.specs.Covered.{IsSoundStore}
use Rattle.ckc_blame_given.specs.Targets.{IsStaticObject}
use Rattle.ckc_blame_given.proofs.Kept.{from_kept}
use Rattle.ckc_blame_given.proofs.Statics.{IsObjectBlock, object_block, cell_of}
use Rattle.ckc_blame_given.specs.Written.{IsReceived}
use Rattle.ckc_blame_steps.specs.Results.{IsKeptInMemory}

-- ---- an object of file scope that is no array

-- what is known of a static object whose declaration is found by its name
module _ (p : Typed) (j : IsJudged p) (s : Setting) (text_is : s.text ≡ p) (t : CType) (k : ℕ) (w : IsStatic s t k) where
  single_object : (o : Object) → object_named (globals_in p) (name.Static k) ≡ Some o → o.array ≡ None → w.object.array ≡ None
  single_object o g none =
      let d = object_is (name.Static k) o p.tree.items g in
      let i = index_of (decls p.tree.items) 0 k d.0 (are_statics p j) d.1 in
      let at : slice_get (decls p.tree.items) k ≡ Some d.0 = ap (slice_get (decls p.tree.items)) (i.1 ∙ from_zero i.0) ∙ i.2 in
      let h = has_object p j k d.0 at in
      let again : Some h.object ≡ Some w.object = sym h.there ∙ ap (λ (q : Typed). slice_get q.statics k) (sym text_is) ∙ w.there in
      let same : w.object ≡ h.object = cc in
      ap (λ (x : StaticObject). x.array) same ∙ h.array ∙ ap (λ (x : Object). x.array) (sym d.2) ∙ none

  pub single : is_no_array (object_named (globals_in p) (name.Static k)) ≡ true → w.object.array ≡ None
  single h = by (object_named (globals_in p) (name.Static k)) refl h
    where
      none_is : (o : Option Kind) → is_none o ≡ true → o ≡ None
      none_is None e = refl
      none_is (Some x) e = absurd cc

      by : (o : Option Object) → object_named (globals_in p) (name.Static k) ≡ o → is_no_array o ≡ true → w.object.array ≡ None
      by (Some o) e h = single_object o e (none_is o.array h)
      by None e h = absurd cc

  pub as_object : w.object.array ≡ None → IsStaticObject s t k
  as_object none = record {
    object = w.object;
    there = w.there;
    plain = w.ends ∙ plain_ends w.decl.length (sym w.array ∙ none);
    some = w.some;
    element = sym (w.type ∙ ap (used w.object.element) none);
  }

-- ---- a word is written to it

module _ (p : Typed) (j : IsJudged p) (blocks : List Block) (frame : states.Frame) (s : Setting) (text_is : s.text ≡ p) (next : ℕ) (sound : AreSound p blocks next) (filled : AreFilled p (store_in p blocks frame))
    (v : Valuation) (values : IsValuationOf s frame.locals v) (at there : State) (known : AreFacts v at.facts) (seen : List ℕ) (result : Bounds) (q : Placed) (n k : ℕ)
    (leads : stored_placed s.frame result seen (q ∷ []) at ≡ Ok there) (received : IsReceived s (store_in p blocks frame) v at q.target.note.ctype q.right q.from n)
    (named : out-Node Name Note q.target.node ≡ Node-F.Name (name.Static k)) (scalar : is_scalar q.target.note.ctype ≡ true) (w : IsStatic s q.target.note.ctype k) (alone : w.object.array ≡ None) where
  abbrev t : CType
  t = q.target.note.ctype

  abbrev a : ℕ
  a = address_of s.text k

  abbrev store : Store
  store = store_in p blocks frame

  sound_here : AreSound s.text blocks next
  sound_here = subst (λ (x : Typed). AreSound x blocks next) (sym text_is) sound

  ready : IsSoundStore s store next
  ready = record {
    sound = sound_here;
    shapes = ap (λ (x : Typed). shapes_elaborated x.layout) (sym text_is);
    names = have_own_names s.text (subst IsJudged (sym text_is) j);
  }

  object : IsStaticObject s t k
  object = as_object p j s text_is t k w alone

  lies : IsObjectBlock s store t k
  lies = object_block s store next ready t k object

  added : (x : ℕ) → x + 0 ≡ x
  added x = omega arith

  cell : IsCell s.text.layout blocks a (width_of t) false
  cell = subst (λ x. IsCell s.text.layout blocks x (width_of t) false) (added a) (cell_of s store next ready t k object 0 t (scalar_part s.text.layout t scalar))

  written : (after : List Block) × (stored (width_of t) a n blocks ≡ Some after)
  written = by (stored (width_of t) a n blocks) refl (store_some (width_of t) a n blocks (cell_there s.text blocks sound_here.memory.placed a (width_of t) false cell))
    where
      by : (o : Option (List Block)) → stored (width_of t) a n blocks ≡ o → IsSome o → (after : List Block) × (stored (width_of t) a n blocks ≡ Some after)
      by (Some after) e h = (after, e)
      by None e h = absurd cc

  abbrev after : List Block
  after = written.0

  abbrev state : List Block → states.State
  state bs = record { blocks = bs; next = 0; frame = frame; callers = []; input = [] }

  done : all_written ((place.Memory a (width_of t) None, n) ∷ []) (state blocks) ≡ Ok (state after)
  done = ap (λ (o : Option (List Block)). given (with_blocks (state blocks) o) (all_written [])) written.1

  truths : (shapes : _) (to : _) (i low high : ℕ) → is_true shapes after to i low high ≡ is_true shapes blocks to i low high
  truths shapes to i low high = ap (λ bs. is_true shapes bs to i low high) (stored_parts (width_of t) a n blocks after written.1).1 ∙ true_after shapes blocks to i low high (width_of t) a n

  cells : AreCellWrites s.text.layout blocks ((place.Memory a (width_of t) None, n) ∷ [])
  unfolding AreCellWrites
  cells = ((cell, (λ e. absurd cc), received.word), tt)

  stays : AreFilled s.text (store_in p after frame)
  stays =
      element_filled s (subst AreSlotParts (sym text_is) (slot_parts p j (members_named p j))) next (place.Memory a (width_of t) None, n) (state blocks) (state after) sound_here cells done
      k 0 lies.block lies.there lies.some (subst (λ u. is_scalar u ≡ true) (sym lies.element) scalar) (shapes_elaborated p.layout) frame.locals v values.zero at known q seen result there leads
      (record {
        local = ap local_in named;
        alone = no_member s.frame q.target (name.Static k) named;
        same = sym lies.element;
        zero_alone = None;
        goes = ap (λ x. place.Memory x (width_of t) None) lies.address ∙ ap (λ u. place.Memory (lies.block.base + 0 * lies.block.size) (width_of u) None) (sym lies.element);
        counts = λ c e. statics_counts s t k c q.target w alone named refl (subst (λ u. count_of_static s.text u (name.Static k) ≡ Some c) lies.element e);
        pointer = λ c e. from_kept (shapes_elaborated p.layout) blocks after (truths (shapes_elaborated p.layout)) s.frame (pointee_of s.text.layout t) v n t q.right q.from at received.gives;
      })
      frame.locals (subst (λ (x : Typed). AreFilled x store) (sym text_is) filled)

  pub kept_there : IsKeptInMemory p blocks frame next a n (width_of t)
  kept_there = record {
    after = after;
    written = written.1;
    ranges = λ to i low high e. truths (shapes_elaborated p.layout) to i low high ∙ e;
    sound = subst (λ (x : Typed). AreSound x after next) text_is (sound_after s.text blocks next a n (width_of t) false sound_here cell (λ e. absurd cc) after written.1);
    filled = subst (λ (x : Typed). AreFilled x (store_in p after frame)) text_is stays;
  }
