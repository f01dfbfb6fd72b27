-- A `calloc` that is drawn keeps what is judged of it.
use Rattle.std.proofs.Common.{◌≡◌, ◌≢◌, ⊎_elim, refl, sym, ap, subst, ◌∙◌, ℕ, Bool, true, false, List, [], ◌∷◌, ◌++◌, rules, arith}
use Rattle.std.specs.Prelude.{◌+◌, ◌*◌, ◌<◌, ◌≤◌, ◌^◌, ◌&&◌, ◌||◌, if◌then◌else◌, is_some, length, pos, Option, None, Some, Ok}
use Rattle.std.specs.List.{All}
use Rattle.std.proofs.lemmas.Bool.{and_parts}
use Rattle.ckc_base.specs.declared.arithmetic.Mode.{Mode}
use Rattle.ckc_base.specs.declared.arithmetic.Width.TheVariants.{Byte, Word}
use Rattle.ckc_base.specs.Memory.{heap_has_room, kept_part, next_place}
use Rattle.ckc_types.specs.declared.types.Kind.{Kind}
use Rattle.ckc_types.specs.declared.types.CType.{CType, CType-F, out-CType, the_lemmas as ctype_lemmas}
use Rattle.ckc_types.specs.declared.types.CType.TheVariants as ctype
use Rattle.ckc_linear.specs.declared.forms.Base.TheVariants as base
use Rattle.ckc_linear.specs.declared.forms.Form.{Form}
use Rattle.ckc_syntax.specs.declared.tree.Name.{Name}
use Rattle.ckc_syntax.specs.declared.tree.Node.{out-Node}
use Rattle.ckc_typed.specs.declared.environment.Globals.{Globals}
use Rattle.ckc_typed.specs.declared.typed.Note.{Note}
use Rattle.ckc_typed.specs.declared.typed.Range.{Range}
use Rattle.ckc_typed.specs.declared.typed.Range.TheVariants as range
use Rattle.ckc_typed.specs.declared.typed.Typed.{Typed}
use Rattle.ckc_typed.specs.Constants.{size_of}
use Rattle.ckc_typed.specs.Conversions.{converts, is_null, is_null_form, is_string_form, is_allocation, is_terminated_kind, kinds_allow, kind_converts}
use Rattle.ckc_typed.specs.Operands.{same_element}
use Rattle.ckc_typed.specs.Statics.{strings_of_expr}
use Rattle.ckc_typed.specs.Trees.{NotedExpr}
use Rattle.ckc_typed.specs.Types.{element_in, element_of, is_char, is_char_form, is_integer, is_integer_form, is_pointer, is_pointer_form, kind_of, same_type, type_written}
use Rattle.ckc_blame_sound.specs.ckc_bounds_points.specs.Forms.{base_form, in_type}
use Rattle.ckc_blame_sound.specs.ckc_bounds_ranges.specs.Rows.{range_from}
use Rattle.ckc_blame_sound.specs.ckc_bounds_views.specs.Parts.{View, capped, next_behind, fresh_behind}
use Rattle.ckc_blame_sound.specs.ckc_bounds_views.specs.Ranges.{form_or_fresh}
use Rattle.ckc_blame_sound.specs.ckc_bounds_views.specs.Views.{view}
use Rattle.ckc_blame_sound.specs.ckc_bounds_statements.specs.Paths.{Here}
use Rattle.ckc_blame_sound.specs.ckc_bounds_stores.specs.declared.values.Numbered.{Numbered}
use Rattle.ckc_blame_sound.specs.ckc_bounds_stores.specs.Values.{narrow, has_element, received_range}
use Rattle.ckc_source.specs.declared.expr.Integer.TheVariants.{Int}
use Rattle.ckc_source.specs.declared.expr.Pointee.{Pointee}
use Rattle.ckc_source.specs.declared.program.Shape.{Shape}
use Rattle.ckc_source.specs.Blocks.{fresh as fresh_block}
use Rattle.ckc_source.specs.Code.{Right, Fresh, Function}
use Rattle.ckc_source.specs.Eval.{evaluated}
use Rattle.ckc_source.specs.States.{State}
use Rattle.ckc_source.specs.Steps.{Drawn, allocated, drawn, store_of}
use Rattle.ckc_source.specs.Words.{exact}
use Rattle.ckc_build_values.specs.Expressions.{expr_elaborated}
use Rattle.ckc_build_values.specs.Kinds.{integer_in, pointee_of, size_behind}
use Rattle.ckc_build_elaborate.specs.Shapes.{shapes_elaborated}
use Rattle.ckc_build_elaborate.specs.Steps.{is_terminated, right_form, right_of}
use Rattle.ckc_blame_sound.specs.Bodies.{AreFresh}
use Rattle.ckc_blame_sound.specs.Settings.{Setting, AreStrings, IsFunction, setting_of}
use Rattle.ckc_blame_sound.specs.Values.{NamesIntegers, IsNumberOf, number_of}
use Rattle.ckc_blame_sound.specs.Valuations.{Valuation, AreFacts, IsValuationOf, form_address}
use Rattle.ckc_blame_sound.proofs.Flow.{word_lies}
use Rattle.ckc_blame_sound.specs.Typed.{IsTyped, Agrees}
use Rattle.ckc_blame_sound.proofs.Types.{word_wide}
use Rattle.ckc_blame_sound.proofs.IntegerWords.{signed_is}
use Rattle.ckc_blame_sound.specs.Cells.{IsMade}
use Rattle.ckc_blame_sound.specs.Limited.{AreSlotParts}
use Rattle.ckc_blame_sound.proofs.Fresh.{sound_with}
use Rattle.ckc_blame_sound.proofs.Made.{made_filled}
use Rattle.ckc_blame_sound.proofs.Same.{same_equal}
use Rattle.ckc_blame_sound.specs.JudgedTexts.{IsJudged, globals_in}
use Rattle.ckc_blame_sound.proofs.Frames.{frames_agree}
use Rattle.ckc_blame_sound.proofs.SameViews.{same_view}
use Rattle.ckc_blame_sound.specs.Containment.{IsNarrowed, IsRanged, IsReadWithin, HasElement}
use Rattle.ckc_blame_sound.specs.Elements.{number_kept}
use Rattle.ckc_blame_sound.specs.GivenValues.{memory_of}
use Rattle.ckc_blame_sound.proofs.Agree.{facts_agree}
use Rattle.ckc_blame_control.proofs.Kept.{holds_kept, blocks_keep_ranges}
use Rattle.ckc_blame_given.specs.ckc_blame_pointers.specs.Covered.{DeclareLocals, IsCovered}
use Rattle.ckc_blame_given.specs.ckc_blame_pointers.specs.Owed.{Comes}
use Rattle.ckc_blame_given.specs.ckc_blame_pointers.proofs.Later.{parts_room}
use Rattle.ckc_blame_given.specs.ckc_blame_pointers.proofs.Unwidened.{fresh_same}
use Rattle.ckc_blame_given.proofs.Comes.{comes_on}
use Rattle.ckc_blame_given.specs.At.{GivesAt}
use Rattle.ckc_blame_given.specs.Gives.{Continues, Gives, GivesOn}
use Rattle.ckc_blame_given.proofs.Bridge.{judged_gives}
use Rattle.ckc_blame_given.proofs.Converted.{Becomes}
use Rattle.ckc_blame_given.proofs.From.{kept_number}
use Rattle.ckc_blame_given.specs.Written.{IsReceived}
use Rattle.ckc_blame_steps.specs.Granted.{HasRoom}
use Rattle.ckc_blame_steps.specs.Plans.{IsAt, HasMore, IsDrawn, IsDrawnOn, counted_in}
use Rattle.ckc_blame_steps.specs.Granted.{HasPlaces}
use Rattle.ckc_blame_steps.specs.Plans.{AllocateSoundly}
use Rattle.ckc_blame_steps.proofs.Callocs.{IsCalloc, is_calloc, count_type, IsJudgedCalloc, judged_calloc}
use Rattle.ckc_blame_steps.proofs.Valued as valued
use Rattle.ckc_blame_steps.proofs.Made.{room_counts, null_read, own_address, range_read, range_element}
use Rattle.std.proofs.lemmas.List.{append-nil}

-- ---- types

pointer_out : (k : Kind) (u : CType) → out-CType (ctype.Pointer k u) ≡ CType-F.Pointer k u
pointer_out k u = search (rules, ctype_lemmas)

int_out : out-CType ctype.Int ≡ CType-F.Int
int_out = search (rules, ctype_lemmas)

int_kept : (k : ℕ) → number_kept ctype.Int k ≡ exact Int k
int_kept k = ap (λ (x : CType-F CType). exact (integer_in x) (kept_part (if is_char_form x then Byte else Word) k)) int_out

int_number : (k : ℕ) → k < 2 ^ 32 → IsNumberOf ctype.Int (exact Int k)
int_number k h =
    subst (λ (x : CType-F CType). IsNumberOf ctype.Int (exact (integer_in x) k)) int_out
    (word_lies ctype.Int k (ap is_integer_form int_out) (subst (λ (x : CType-F CType). k < (if is_char_form x then 256 else 2 ^ 32)) (sym int_out) h))

no_char : (t : CType) → is_pointer t ≡ true → is_char t ≡ true → ⊥
no_char t p c = by (out-CType t) p c
  where
    by : (x : CType-F CType) → is_pointer_form x ≡ true → is_char_form x ≡ true → ⊥
    by (CType-F.Pointer k u) p c = absurd cc
    by CType-F.Char p c = absurd cc
    by CType-F.Int p c = absurd cc
    by CType-F.Unsigned p c = absurd cc
    by CType-F.Void p c = absurd cc
    by (CType-F.Struct tag) p c = absurd cc

tests : (a p x al same kinds : Bool) → ((a && false) || (p && (false || ((false && x) || ((al && same) || (same && kinds)))))) ≡ true → (p ≡ true) × (same ≡ true)
tests true true x al true kinds h = (refl, refl)
tests false true x al true kinds h = (refl, refl)
tests true false x al same kinds h = absurd cc
tests false false x al same kinds h = absurd cc
tests true true x true false kinds h = absurd cc
tests true true x false false kinds h = absurd cc
tests false true x true false kinds h = absurd cc
tests false true x false false kinds h = absurd cc

more_room : (m k : ℕ) → m + capped k 1 + 1 < 2 ^ 32 → m + k + 1 < 2 ^ 32
more_room m k h = omega arith

little_place : (place bytes : ℕ) → place + bytes ≤ 50331648 → place < 2 ^ 32
little_place place bytes h = omega arith

same_narrowed : (r : Range) → IsNarrowed r r
same_narrowed (range.Known low high) = (refl, refl)
same_narrowed range.Any = tt
same_narrowed range.Missing = tt

module _ (m : Mode) (globals : Globals) (s : Setting) (agrees : Agrees globals s) (declares : DeclareLocals s) (parts : AreSlotParts s.text) (shapes : List Shape) (entry : List ℕ) (here : Here)
    (named : All (NamesIntegers s.frame) here.at.facts.list) (b : State) (is_at : IsAt s shapes entry here b) (t : CType) (f g n : NotedExpr) (fresh literals : ℕ)
    (counted : counted_in (out-Node Name Note g.node) ≡ Some n) (typed : IsTyped globals s f) (goes : converts t f ≡ true) (has : HasPlaces s t) (judged : (view s.frame f).judged fresh here.at ≡ Ok g)
    (little : fresh + length ((view s.frame g).fresh here.at) < 2 ^ 32) (are : AreFresh s.frame fresh) (covered : IsCovered m s (store_of shapes b) here.seen n)
    (strings : AreStrings s literals (strings_of_expr n)) where
  j : IsJudgedCalloc s globals f g n fresh here.at
  j = judged_calloc s globals f g n fresh here.at typed judged counted

  abbrev v : View
  v = view s.frame g

  abbrev c : View
  c = view s.frame j.count

  calloc : IsCalloc v c
  calloc = subst (λ (w : View). IsCalloc w c) (sym (same_view s.frame f g fresh here.at judged s.frame)) (is_calloc s.frame f j.count j.written j.unit j.before (ap is_pointer j.row.pointer ∙ ap is_pointer_form (pointer_out _ _)))

  goes_to : (is_pointer t ≡ true) × (same_element t f.note.ctype ≡ true)
  goes_to =
      tests (is_integer t) (is_pointer t) (is_terminated_kind (kind_of t) && is_char (element_of t)) (is_allocation f) (same_element t f.note.ctype) (kinds_allow kind_converts (kind_of f.note.ctype) (kind_of t))
      (subst (λ q. ((is_integer t && q) || (is_pointer t && (false || ((false && (is_terminated_kind (kind_of t) && is_char (element_of t))) || ((is_allocation f && same_element t f.note.ctype) || (same_element t f.note.ctype && kinds_allow kind_converts (kind_of f.note.ctype) (kind_of t))))))) ≡ true) (ap is_integer j.row.pointer ∙ ap is_integer_form (pointer_out _ _))
      (subst (λ q. ((is_integer t && is_integer f.note.ctype) || (is_pointer t && (q || ((false && (is_terminated_kind (kind_of t) && is_char (element_of t))) || ((is_allocation f && same_element t f.note.ctype) || (same_element t f.note.ctype && kinds_allow kind_converts (kind_of f.note.ctype) (kind_of t))))))) ≡ true) (ap is_null_form j.before)
      (subst (λ q. ((is_integer t && is_integer f.note.ctype) || (is_pointer t && (is_null f || ((q && (is_terminated_kind (kind_of t) && is_char (element_of t))) || ((is_allocation f && same_element t f.note.ctype) || (same_element t f.note.ctype && kinds_allow kind_converts (kind_of f.note.ctype) (kind_of t))))))) ≡ true) (ap is_string_form j.before) goes)))

  element_is : element_of t ≡ type_written j.written
  element_is =
      let a = and_parts (is_pointer t) (is_pointer f.note.ctype && same_type (element_of t) (element_of f.note.ctype)) goes_to.1 in
      same_equal (element_of t) (element_of f.note.ctype) (and_parts (is_pointer f.note.ctype) (same_type (element_of t) (element_of f.note.ctype)) a.1).1
      ∙ ap element_of j.row.pointer ∙ ap element_in (pointer_out _ _)

  abbrev to : Pointee
  to = pointee_of s.text.layout t

  right_is : right_of s.text s.variables literals (is_terminated t) g ≡ Fresh to (expr_elaborated s.text s.variables literals n)
  right_is =
      ap (right_form s.text s.variables literals (is_terminated t) g) j.after
      ∙ ap (λ (u : CType). Fresh (record { element = u; size = size_of s.text.layout u; terminated = is_terminated t }) (expr_elaborated s.text s.variables literals n)) (sym element_is)

  -- the range of a `calloc` that begins with a value, up to a form
  abbrev taken : ℕ → Form → Range
  taken own k = received_range t true (range_from (base.Value own) k)

  module _ (k : ℕ) (gives : GivesAt s (store_of shapes b) here.at j.count k) where
    record Reads (d : Drawn) : Type 0 where
      pub wide : (later : Valuation) (own : ℕ) (x : Form) → later.number 0 ≡ pos 0 → later.address (Some (base.Value own)) ≡ pos d.number → number_of later.number x ≡ exact Int k
          → IsReadWithin (memory_of s (store_of shapes d.state) t) later d.number (taken own x)
      pub element : (later : Valuation) (own : ℕ) (x : Form) → later.number 0 ≡ pos 0 → number_of later.number x ≡ exact Int k → has_element t true ≡ true → d.number ≢ 0 → HasElement later (taken own x)

    module _ (d : Drawn) (same : d.state.frame.locals ≡ b.frame.locals) (reads : Reads d) (word : d.number < 2 ^ 32) (from : Numbered) (before : Valuation) (room : HasRoom s.frame here.at from.value from.fresh g)
        (low : AreFresh s.frame from.fresh) (values : IsValuationOf s b.frame.locals before) where
      on : GivesOn s (store_of shapes b) before here.at j.count from k
      on =
          gives from before (more_room from.value c.values (subst (λ m. from.value + m + 1 < 2 ^ 32) calloc.values room.values))
          (parts_room from.fresh (c.fresh here.at) (count_type c here.at.facts) (subst (λ (ts : List CType). from.fresh + length ts < 2 ^ 32) (calloc.fresh here.at) room.variables)) low values

      abbrev own : ℕ
      own = capped from.value c.values

      abbrev last : ℕ
      last = next_behind from.fresh (c.fresh here.at)

      abbrev after : Valuation
      after = valued.after s b.frame.locals here.at v c calloc from room.values room.variables low on.after on.values d.number (exact Int k)

      module _ (later : Valuation) (ok : IsValuationOf s b.frame.locals later) (on_from : Continues (capped from.value v.values) (fresh_behind v from.fresh here.at) after later) where
        counts_is : Gives s (store_of shapes b) later here.at j.count from k
        counts_is = on.gives later ok (valued.later_own s b.frame.locals here.at v c calloc from room.values room.variables low on.after on.values d.number (exact Int k) later on_from)

        told : AreFacts later here.at.facts
        told = facts_agree s b.frame.locals later ok here.at.facts.list named is_at.holds.facts

        abbrev form : Form
        form = form_or_fresh (in_type here.at.facts ctype.Int (c.form here.at.facts)) last

        form_is : number_of later.number form ≡ exact Int k
        form_is =
            valued.later_counts s b.frame.locals here.at v c calloc from room.values room.variables low on.after on.values d.number (exact Int k) later on_from
            (λ x e. kept_number s (store_of shapes b) here.at later j.count from k ctype.Int (Becomes.Integers (ap is_integer_form int_out) j.row.counted) counts_is ok.zero here.at.facts x told e ∙ int_kept k)

        address : later.address (Some (base.Value own)) ≡ pos d.number
        address = valued.later_address s b.frame.locals here.at v c calloc from room.values room.variables low on.after on.values d.number (exact Int k) later on_from

        range_is : v.range from.value from.fresh here.at ≡ range_from (base.Value own) form
        range_is = calloc.range from.value from.fresh here.at

        narrow_is : v.range from.value from.fresh (narrow here.at) ≡ range_from (base.Value own) form
        narrow_is =
            calloc.range from.value from.fresh (narrow here.at)
            ∙ ap (λ (us : List CType). range_from (base.Value own) (form_or_fresh (in_type here.at.facts ctype.Int (c.form here.at.facts)) (next_behind from.fresh us))) (fresh_same s.frame j.count here.at [])

        number_typed : (u : CType) → count_type c here.at.facts ≡ Some u → IsNumberOf u (exact Int k)
        number_typed u e = by (is_some (in_type here.at.facts ctype.Int (c.form here.at.facts))) e
          where
            by : (q : Bool) → (if q then None else Some ctype.Int) ≡ Some u → IsNumberOf u (exact Int k)
            by true e = absurd cc
            by false e = let same : ctype.Int ≡ u = cc in subst (λ u. IsNumberOf u (exact Int k)) same (int_number k (word_wide j.count.note.ctype k counts_is.word))

        ranged : IsRanged (memory_of s (store_of shapes d.state) t) later d.number (received_range t v.allocates (v.range from.value from.fresh here.at)) (received_range t v.allocates (v.range from.value from.fresh (narrow here.at))) (has_element t v.allocates)
        ranged =
            subst (λ a. IsRanged (memory_of s (store_of shapes d.state) t) later d.number (received_range t a (v.range from.value from.fresh here.at)) (received_range t a (v.range from.value from.fresh (narrow here.at))) (has_element t a)) (sym calloc.allocates)
            (subst (λ r. IsRanged (memory_of s (store_of shapes d.state) t) later d.number (received_range t true r) (received_range t true (v.range from.value from.fresh (narrow here.at))) (has_element t true)) (sym range_is)
            (subst (λ r. IsRanged (memory_of s (store_of shapes d.state) t) later d.number (taken own form) (received_range t true r) (has_element t true)) (sym narrow_is)
            (record {
              wide = reads.wide later own form ok.zero address form_is;
              narrow = reads.wide later own form ok.zero address form_is;
              narrowed = same_narrowed (taken own form);
              element = λ some whole. reads.element later own form ok.zero form_is some whole;
            })))

        received : IsReceived s (store_of shapes d.state) later here.at t g from d.number
        received = record {
          word = word;
          gives = record {
            place = λ facts x all is.
                let one : base_form (base.Value own) ≡ x = let there = calloc.place from.value facts in cc in
                subst (λ y. form_address later (size_behind s.text.layout t) y ≡ pos d.number) one (own_address later own d.number (size_behind s.text.layout t) ok.zero address);
            value = record {
              null = λ z. let no : v.null ≡ false = calloc.null in absurd cc;
              ranged = ranged;
              fresh = λ some. valued.later_numbers s b.frame.locals here.at v c calloc from room.values room.variables low on.after on.values d.number (exact Int k) later on_from number_typed counts_is.fresh;
            };
          };
          form = λ facts x all is. let none : in_type facts t None ≡ Some x = subst (λ (o : Option Form). in_type facts t o ≡ Some x) (calloc.form facts) is in absurd cc;
          bare = λ h. absurd (no_char t goes_to.0 h);
        }

      drawn_on : IsDrawnOn s shapes here t g from before d
      drawn_on = record {
        after = after;
        values = subst (λ ls. IsValuationOf s ls after) (sym same) (valued.values_after s b.frame.locals here.at v c calloc from room.values room.variables low on.after on.values d.number (exact Int k));
        continues = valued.continues_before s b.frame.locals here.at v c calloc from room.values room.variables low on.after on.values d.number (exact Int k) before on.continues;
        received = λ later ok goes_on. received later (subst (λ ls. IsValuationOf s ls later) same ok) goes_on;
      }

    drawn_at : (d : Drawn) → HasMore b d.state → d.state.frame.locals ≡ b.frame.locals → IsAt s shapes entry here d.state → Reads d → d.number < 2 ^ 32 → IsDrawn s shapes entry here b t g d
    drawn_at d grown same at reads word = record {
      grown = grown;
      at = at;
      gives = λ from before room low values. drawn_on d same reads word from before room low (subst (λ ls. IsValuationOf s ls before) same values);
    }

    null_drawn : IsDrawn s shapes entry here b t g (record { number = 0; state = b })
    null_drawn =
        drawn_at (record { number = 0; state = b }) (record { more = []; blocks = sym (append-nil b.blocks); same = refl }) refl is_at
        (record { wide = λ later first x zero at is. null_read (memory_of s (store_of shapes b) t) later (taken first x); element = λ later first x zero is some whole. absurd (whole refl) }) (omega arith)

    abbrev grown_state : State
    grown_state = record b { blocks = b.blocks ++ fresh_block to b.next k ∷ []; next = next_place b.next k to.size }

    made_drawn : heap_has_room b.next k to.size ≡ true → IsDrawn s shapes entry here b t g (record { number = b.next; state = grown_state })
    made_drawn room =
        drawn_at (record { number = b.next; state = grown_state }) (record { more = fresh_block to b.next k ∷ []; blocks = refl; same = refl }) refl
        (record {
          holds = holds_kept shapes b.blocks grown_state.blocks (blocks_keep_ranges shapes b.blocks (fresh_block to b.next k ∷ [])) s b.frame.locals entry here is_at.holds;
          ready = record { sound = sound_with s.text b.blocks b.next to k is_at.ready.sound made; shapes = is_at.ready.shapes; names = is_at.ready.names };
          filled = made_filled s.text parts shapes b.frame.locals b.frame.locals b.blocks b.next k to is_at.ready.sound made is_at.filled;
        })
        (record {
          wide = λ later first x zero at is. range_read shapes b.blocks to b.next k has.sized later first zero at x (is ∙ positive) counts.0 to.terminated refl;
          element = λ later first x zero is some whole. one_there later first x zero is some;
        }) (little_place b.next (k * to.size) counts.2)
      where
        made : IsMade s.text b.next to k
        made = record { room = room; size = refl; sized = has.sized; terminated = has.terminated }

        counts : (0 < k) × (k < 2 ^ 31) × (b.next + k * to.size ≤ 50331648)
        counts = room_counts b.next k to.size room

        positive : exact Int k ≡ pos k
        positive = let less = counts.1 in ⊎_elim (λ h. h.1) (λ h. let more = h.0 in absurd (omega arith)) (signed_is k (omega arith))

        one_there : (later : Valuation) (first : ℕ) (x : Form) → later.number 0 ≡ pos 0 → number_of later.number x ≡ exact Int k → has_element t true ≡ true → HasElement later (taken first x)
        one_there later first x zero is some = range_element later first zero x k (is ∙ positive) counts.0 to.terminated some

    allocated_drawn : IsDrawn s shapes entry here b t g (allocated b to k)
    allocated_drawn = by (heap_has_room b.next k to.size) refl
      where
        by : (q : Bool) → heap_has_room b.next k to.size ≡ q → IsDrawn s shapes entry here b t g (if q then record { number = b.next; state = grown_state } else record { number = 0; state = b })
        by true e = made_drawn e
        by false e = null_drawn

  pub calloc_drawn : Comes m (IsDrawn s shapes entry here b t g) (drawn shapes b (right_of s.text s.variables literals (is_terminated t) g))
  calloc_drawn =
      subst (λ (r : Right). Comes m (IsDrawn s shapes entry here b t g) (drawn shapes b r)) (sym right_is)
      (comes_on m (λ p. GivesAt s (store_of shapes b) here.at j.count p.number) (IsDrawn s shapes entry here b t g) (evaluated (store_of shapes b) (expr_elaborated s.text s.variables literals n))
      (λ v. Ok (allocated b to v.number))
      (judged_gives m globals s agrees declares (store_of shapes b) entry b.next is_at.ready here j.count n fresh literals
      (parts_room fresh (c.fresh here.at) (count_type c here.at.facts) (subst (λ (ts : List CType). fresh + length ts < 2 ^ 32) (calloc.fresh here.at) little)) are j.typed j.judged covered strings is_at.holds)
      (λ v is h. allocated_drawn v.number h))

-- ---- a text

pub allocate_soundly : (p : Typed) → IsJudged p → AreSlotParts p → ((s : Setting) (f : Function) → IsFunction p s f → DeclareLocals s) → AllocateSoundly p
unfolding setting_of
allocate_soundly p judged parts declares m s fn here there step entry i is b is_at t f g n fresh literals counted typed goes has made little are covered strings =
    calloc_drawn m (globals_in p) s (frames_agree p s fn judged i) (declares s fn i) (subst AreSlotParts (sym (ap (λ (x : Setting). x.text) i.judged)) parts) (shapes_elaborated p.layout) entry here is.named b is_at t f g n
    fresh literals counted typed goes has made little are covered strings
