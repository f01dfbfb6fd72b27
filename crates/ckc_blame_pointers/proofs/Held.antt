-- The claims of a pointer that is a member of a structure, however that is reached.
use Rattle.std.proofs.Common.{◌≡◌, refl, sym, ap, subst, ◌∙◌, ℕ, Bool, true, false, List, [], ◌∷◌, ◌++◌, arith}
use Rattle.std.specs.Prelude.{◌<◌, ◌≤◌, ◌^◌, ◌&&◌, if◌then◌else◌, find, flat_map, ℤ, pos, ◌+ℤ◌, Option, None, Some, IfSome, Result, Ok, IsOk}
use Rattle.std.specs.List.{Contains}
use Rattle.std.specs.Option.{option_map}
use Rattle.std.proofs.lemmas.Bool.{eqb-true}
use Rattle.std.proofs.lemmas.Int.{ints}
use Rattle.std.proofs.lemmas.List.Elements.{Contains-append_left, Contains-append_right}
use Rattle.ckc_types.specs.declared.types.Kind.TheVariants as kind
use Rattle.ckc_types.specs.declared.types.CType.{CType, CType-F, out-CType}
use Rattle.ckc_types.specs.declared.types.MemberBounds.{MemberBounds}
use Rattle.ckc_types.specs.declared.types.MemberBounds.TheVariants as mbounds
use Rattle.ckc_types.specs.declared.types.MemberShape.{MemberShape}
use Rattle.ckc_types.specs.Layout.{members_of}
use Rattle.ckc_syntax.specs.declared.tree.Name.{Name}
use Rattle.ckc_typed.specs.declared.typed.Range.{Range}
use Rattle.ckc_typed.specs.declared.typed.Range.TheVariants as range
use Rattle.ckc_typed.specs.Environment.{is_member_named}
use Rattle.ckc_typed.specs.Layouts.{member_number}
use Rattle.ckc_typed.specs.Operands.{member_in, dot_type}
use Rattle.ckc_typed.specs.Types.{is_integer, is_integer_form, is_char_form, kind_of}
use Rattle.ckc_blame_sound.specs.ckc_bounds_points.specs.Forms.{constant_form, is_small}
use Rattle.ckc_blame_sound.specs.ckc_bounds_points.specs.Shown.{Known}
use Rattle.ckc_blame_sound.specs.ckc_bounds_views.specs.declared.variables.Own.{Own}
use Rattle.ckc_blame_sound.specs.ckc_bounds_views.specs.declared.variables.Member.{Member}
use Rattle.ckc_blame_sound.specs.ckc_bounds_views.specs.Fresh.{is_checked, member_bounds, named_type, member_fresh, own_fresh, fresh_form}
use Rattle.ckc_blame_sound.specs.ckc_bounds_views.specs.Parts.{NodeView, capped}
use Rattle.ckc_blame_sound.specs.ckc_bounds_views.specs.Ranges.{range_up_to, range_in_struct, range_of_member}
use Rattle.ckc_blame_sound.specs.ckc_bounds_statements.specs.Paths.{Here}
use Rattle.ckc_source.specs.declared.expr.Count.{Count}
use Rattle.ckc_source.specs.declared.expr.Count.TheVariants as count
use Rattle.ckc_source.specs.declared.expr.Integer.{Integer}
use Rattle.ckc_source.specs.declared.expr.Pointee.{Pointee}
use Rattle.ckc_source.specs.declared.outcome.Halt.{Halt}
use Rattle.ckc_source.specs.declared.outcome.Range.TheVariants.{Without}
use Rattle.ckc_source.specs.declared.outcome.Value.{Value}
use Rattle.ckc_source.specs.Blocks.{loaded}
use Rattle.ckc_source.specs.Eval.{Store, given_some, place_in, counted, loads_pointer, evaluated}
use Rattle.ckc_source.specs.Words.{exact}
use Rattle.ckc_source.specs.Words as words
use Rattle.ckc_build_values.specs.Kinds.{integer_in, integer_of, width_of, pointee_of, count_of_kind, tag_in, tag_of}
use Rattle.ckc_build_values.specs.Members.{offset_of, integer_in_member, count_by, count_in, count_of_member}
use Rattle.ckc_build_values.specs.Places.{Place, member_place, read_at}
use Rattle.ckc_blame_sound.specs.Settings.{Setting}
use Rattle.ckc_blame_sound.specs.Values.{IsNumberOf, IsWordOf}
use Rattle.ckc_blame_sound.specs.Points.{HoldsAt}
use Rattle.ckc_blame_sound.specs.Slots.{Slot, slot_by, slot_of_member, slots_in, slots_of}
use Rattle.ckc_blame_sound.proofs.Flow.{word_lies}
use Rattle.ckc_blame_sound.proofs.Types.{word_wide}
use Rattle.ckc_blame_sound.specs.Cells.{IsPart}
use Rattle.ckc_blame_sound.proofs.Ranges.{contains_at}
use Rattle.ckc_blame_pointers.specs.Valuations.{Valuation, Fits, RangeBetween, IsInRange}
use Rattle.ckc_blame_pointers.specs.Covered.{NamesInteger, IsPointerMember, IsSoundStore}
use Rattle.ckc_blame_pointers.specs.Meant.{IsNotStuck}
use Rattle.ckc_blame_pointers.specs.Owed.{IfGives}
use Rattle.ckc_blame_pointers.proofs.Claims.{IsOne}
use Rattle.ckc_blame_pointers.proofs.Given.{gives_weaker, gives_both, ok_comes}
use Rattle.ckc_blame_pointers.proofs.Later.{zero_typed}
use Rattle.ckc_blame_pointers.proofs.Loads.{FitsWidth, loaded_in, word_gives}
use Rattle.ckc_blame_pointers.proofs.Members.{member_there}
use Rattle.ckc_blame_pointers.proofs.Nodes.{NodeClaims}
use Rattle.ckc_blame_pointers.proofs.Own.{IsNullOrRanged, pointer_gives, fixed_gives, own_claims, own_between, own_range, constant_counts, fresh_counts, kind_between, kind_range, kind_one, same_count}
use Rattle.ckc_blame_pointers.proofs.Pointers.{not_member}
use Rattle.ckc_blame_pointers.proofs.Reach.{IsStructurePlace, element_loads, got, member_reads}
use Rattle.ckc_blame_pointers.proofs.Structures.{IsWholeElement}

-- the slots of the first member that passes a test are among those of all
found_slot : (f : MemberShape → List Slot) (p : MemberShape → Bool) (ms : List MemberShape) (m : MemberShape) → find p ms ≡ Some m → (slot : Slot) → Contains (f m) slot → Contains (flat_map f ms) slot
found_slot f p [] m e slot h = absurd (cc)
found_slot f p (x ∷ ms) m e slot h = by (λ e. found_slot f p ms m e slot h) (p x) e
  where
    by : (find p ms ≡ Some m → Contains (flat_map f ms) slot) → (b : Bool) → (if b then Some x else find p ms) ≡ Some m → Contains (f x ++ flat_map f ms) slot
    by later true e = let same : x ≡ m = cc in Contains-append_left (f x) (flat_map f ms) slot (subst (λ y. Contains (f y) slot) (sym same) h)
    by later false e = Contains-append_right (f x) (flat_map f ms) slot (later e)

-- and it passes
pub found_passes : (p : MemberShape → Bool) (ms : List MemberShape) (m : MemberShape) → find p ms ≡ Some m → p m ≡ true
found_passes p [] m e = absurd (cc)
found_passes p (x ∷ ms) m e = by (λ e. found_passes p ms m e) (p x) refl e
  where
    by : (find p ms ≡ Some m → p m ≡ true) → (b : Bool) → p x ≡ b → (if b then Some x else find p ms) ≡ Some m → p m ≡ true
    by later true t e = let same : x ≡ m = cc in subst (λ y. p y ≡ true) same t
    by later false t e = later e

-- what is loaded in the width of an integer is a word of its type
integer_loaded : (t : CType) (n : ℕ) → is_integer t ≡ true → FitsWidth (words.width_of (integer_of t)) n → IsWordOf t n
integer_loaded t n i h = by (out-CType t) i h
  where
    by : (f : CType-F CType) → is_integer_form f ≡ true → FitsWidth (words.width_of (integer_in f)) n → n < (if is_char_form f then 256 else 2 ^ 32)
    by CType-F.Int i h = h
    by CType-F.Unsigned i h = h
    by CType-F.Char i h = h
    by CType-F.Void i h = absurd (cc)
    by (CType-F.Struct tag) i h = absurd (cc)
    by (CType-F.Pointer k u) i h = absurd (cc)

-- ---- a member as a node

-- What is said of a node that stands for itself, of its range by its own numbers, and of the type of the fresh variable that it needs.
pub record IsOwnNode (here : Here) (t : CType) (r : Own → Range) (o : Option CType) (n : NodeView) : Type 0 where
  pub alone : n.stands_alone ≡ true
  pub known : n.null ≡ false
  pub nowhere : (first : ℕ) (facts : Known) → n.place t first facts ≡ None
  pub kept : (widened : List ℕ) → n.fresh (record here.at { widened = widened }) ≡ n.fresh here.at
  pub ranged : (own : Own) (first fresh : ℕ) (widened : List ℕ) → n.range t own first fresh (record here.at { widened = widened }) ≡ r own
  pub needs : own_fresh t n here.at.facts ≡ o
  pub behind : n.behind ≡ None
  pub some : n.is_zero ≡ false
  pub quiet : (b : Bool) → n.side b here.at ≡ here.at

-- the same of a node that is a member m
abbrev pub IsMemberNode : Setting → Here → CType → Member → NodeView → Type 0
IsMemberNode s here t m = IsOwnNode here t (range_of_member s.frame.structs t (Some m)) (member_fresh s.frame.structs t (Some m))

module _ (s : Setting) (store : Store) (entry : List ℕ) (next : ℕ) (ready : IsSoundStore s store next) (here : Here) (h : HoldsAt s store entry here) (u t : CType) (n : Name) (c : IsPointerMember s store u t n)
    (made : NodeView) (node : IsMemberNode s here t (record { tag = c.tag; number = c.number }) made) where
  abbrev Made : Value → Type 0
  Made = NodeClaims s store entry here h t made

  abbrev to : Pointee
  to = pointee_of s.text.layout t

  abbrev InRange : ℤ → Value → Type 0
  InRange z x = IsNullOrRanged store to z x

  -- ---- the claims, by its bounds; of an unchecked pointer nothing is known

  claims_by : (b : MemberBounds) → c.member.bounds ≡ b → (x : Value) (z : ℤ) → x.number < 2 ^ 32 → IfSome (named_type s.frame.structs c.tag b) (λ u. IsNumberOf u z)
      → ((own : Own) (first limit : ℕ) → first ≤ own.value → own.value < limit → RangeBetween first limit (range_in_struct (kind_of t) b own))
      → ((own : Own) (v : Valuation) → Fits s.frame store.locals v → v.addresses own.value ≡ x.number → IfSome (named_type s.frame.structs c.tag b) (λ u. v.numbers (capped own.fresh 1) ≡ z)
      → IsInRange s store v t (range_in_struct (kind_of t) b own) x)
      → IsOne s store entry t x.number → Made x
  claims_by b is x z small typed between in_range one = by (is_checked (kind_of t)) refl
    where
      m : Member
      m = record { tag = c.tag; number = c.number }

      bounds_are : member_bounds s.frame.structs m ≡ b
      bounds_are = c.judged ∙ is

      range_there : (d : Bool) → is_checked (kind_of t) ≡ d → (own : Own) (first fresh : ℕ) (widened : List ℕ)
          → made.range t own first fresh (record here.at { widened = widened }) ≡ (if d then range_in_struct (kind_of t) b own else range.Missing)
      range_there d checked own first fresh widened =
          node.ranged own first fresh widened ∙ ap (λ c. if c then range_in_struct (kind_of t) (member_bounds s.frame.structs m) own else range.Missing) checked
          ∙ ap (λ b. if d then range_in_struct (kind_of t) b own else range.Missing) bounds_are

      fresh_there : is_checked (kind_of t) ≡ true → own_fresh t made here.at.facts ≡ named_type s.frame.structs c.tag b
      fresh_there checked = node.needs ∙ ap (λ d. if d then named_type s.frame.structs c.tag (member_bounds s.frame.structs m) else None) checked ∙ ap (named_type s.frame.structs c.tag) bounds_are

      by : (d : Bool) → is_checked (kind_of t) ≡ d → Made x
      by true checked =
          own_claims s store entry here h t c.pointer made node.alone node.known node.nowhere node.kept (λ own. range_in_struct (kind_of t) b own) (range_there true checked) between x z node.behind node.some node.quiet small
          (subst (λ (o : Option CType). IfSome o (λ u. IsNumberOf u z)) (sym (fresh_there checked)) typed)
          (subst (λ (o : Option CType). (own : Own) (v : Valuation) → Fits s.frame store.locals v → v.addresses own.value ≡ x.number → IfSome o (λ u. v.numbers (capped own.fresh 1) ≡ z)
          → IsInRange s store v t (range_in_struct (kind_of t) b own) x) (sym (fresh_there checked)) in_range) one
      by false unchecked =
          own_claims s store entry here h t c.pointer made node.alone node.known node.nowhere node.kept (λ own. range.Missing) (range_there false unchecked) (λ own first limit more less. tt) x (pos 0) node.behind node.some node.quiet small
          (zero_typed (own_fresh t made here.at.facts)) (λ own v fits at number. tt) one

  -- ---- what an element holds

  abbrev offset_there : ℕ
  offset_there = offset_of s.text.layout c.tag c.member.name

  abbrev slot : Count → Slot
  slot q = record { offset = offset_there; to = to; count = q }

  number_is : c.number ≡ c.member.name
  number_is = eqb-true c.number c.member.name (subst (λ n. is_member_named n c.member.name ≡ true) c.named (found_passes (λ m. is_member_named n m.name) (members_of s.text.layout c.tag) c.member c.found))

  -- the member lies where it is read
  offset_is : offset_of s.text.layout (tag_of u) (member_number n) ≡ offset_there
  offset_is =
      ap (λ f. offset_of s.text.layout (tag_in f) (member_number n)) c.struct ∙ ap (λ n. offset_of s.text.layout c.tag (member_number n)) c.named
      ∙ ap (offset_of s.text.layout c.tag) number_is

  found : (q : Count) → count_by s.text.layout c.tag t c.member.bounds ≡ Some q → Contains (flat_map (slot_of_member s.text.layout c.tag) (members_of s.text.layout c.tag)) (slot q)
  found q e = found_slot (slot_of_member s.text.layout c.tag) (λ m. is_member_named n m.name) (members_of s.text.layout c.tag) c.member c.found (slot q)
      (subst (λ xs. Contains xs (slot q)) (sym slot_is) (contains_at (slot q ∷ []) 0 (slot q) refl))
    where
      slot_is : slot_of_member s.text.layout c.tag c.member ≡ slot q ∷ []
      slot_is = ap (λ u. slot_by s.text.layout offset_there u (count_by s.text.layout c.tag u c.member.bounds)) c.type ∙ ap (slot_by s.text.layout offset_there t) e

  filled : (q : Count) → count_by s.text.layout c.tag t c.member.bounds ≡ Some q → (a : ℕ) → IsWholeElement store.blocks u a → IsOk (got store s.text.layout t offset_there (Some q) a)
  filled q e a w =
      subst (λ b. IsOk (loads_pointer store to q b (place_in b offset_there))) (sym w.address)
      (c.filled w.number w.index w.block (slot q) w.there w.below (subst (λ xs. Contains xs (slot q)) (sym slots_are) (found q e)))
    where
      slots_are : slots_of s.text w.number w.block.element ≡ flat_map (slot_of_member s.text.layout c.tag) (members_of s.text.layout c.tag)
      slots_are = ap (slots_of s.text w.number) w.element ∙ ap (slots_in s.text w.number u) c.struct

  -- it may be read there
  may_read : (o : Option Count) → count_by s.text.layout c.tag t c.member.bounds ≡ o → (a : ℕ) → IsWholeElement store.blocks u a → IfGives Made (got store s.text.layout t offset_there o a) → IsNotStuck Made (got store s.text.layout t offset_there o a)
  may_read (Some q) e a w g = ok_comes Made (got store s.text.layout t offset_there (Some q) a) (filled q e a w) g
  may_read None e a w g =
      gives_both (λ v. Unit {0}) Made (got store s.text.layout t offset_there None a)
      (element_loads s.text store.blocks next ready.sound (λ v. Unit {0}) u t offset_there part a w (λ m word. tt)) g
    where
      there_type : dot_type s.text.layout u n ≡ Some t
      there_type = ap (member_in s.text.layout n) c.struct ∙ ap (option_map (λ m. m.ctype)) c.found ∙ ap Some c.type

      part : IsPart s.text.layout u offset_there (width_of t)
      part = subst (λ o. IsPart s.text.layout u o (width_of t)) offset_is (member_there s.text.layout u n t c.number c.named there_type)

  -- ---- what is read, wherever that is

  -- a pointer of which the number of elements is not known
  missing : (b : MemberBounds) → c.member.bounds ≡ b → (kind_of t ≡ Some kind.One → ⊥) → ((own : Own) → range_in_struct (kind_of t) b own ≡ range.Missing)
      → (a offset : ℕ) → IfGives Made (got store s.text.layout t offset None a)
  missing b is several none a offset =
      word_gives store ready.sound.bytes Made t (place_in a offset) (λ m word. claims_by b is (record { number = m; range = Without }) (pos 0) (word_wide t m word) (zero_typed (named_type s.frame.structs c.tag b))
      (λ own first limit more less. subst (RangeBetween first limit) (sym (none own)) tt)
      (λ own v fits at number. subst (λ r. IsInRange s store v t r (record { number = m; range = Without })) (sym (none own)) tt) (λ ones one. absurd (several one)))

  not_one : (b : MemberBounds) → c.member.bounds ≡ b → (b ≡ mbounds.Nothing → ⊥) → kind_of t ≡ Some kind.One → ⊥
  not_one b is other one = other (sym is ∙ c.single one)

  -- how many elements it has by a member
  named_gives : (k : ℕ) (add : ℤ) → c.member.bounds ≡ mbounds.Named k add → (m : MemberShape) → is_integer m.ctype ≡ true → named_type s.frame.structs c.tag (mbounds.Named k add) ≡ Some m.ctype
      → (a offset : ℕ) → IfGives Made (got store s.text.layout t offset (Some (count.Member (offset_of s.text.layout c.tag k) (integer_of m.ctype) add)) a)
  named_gives k add is m integer typed a offset =
      gives_weaker (λ v. (z : ℤ) × (counted store a q ≡ Ok z) × (v.number < 2 ^ 32) × InRange z v) Made (got store s.text.layout t offset (Some q) a) (pointer_gives store ready.sound.bytes to q a (place_in a offset))
      (λ x r. by x r.0 r.2 r.3 (loaded (words.width_of form) (place_in a (offset_of s.text.layout c.tag k)) store.blocks) refl r.1)
    where
      form : Integer
      form = integer_of m.ctype

      q : Count
      q = count.Member (offset_of s.text.layout c.tag k) form add

      between : (d : Bool) (own : Own) (first limit : ℕ) → first ≤ own.value → own.value < limit
          → RangeBetween first limit (range_up_to own.value (if d then Some (record (fresh_form own.fresh) { add = pos 0 +ℤ add }) else None))
      between true own first limit more less = ((more, less), (more, less))
      between false own first limit more less = tt

      in_range : (x : Value) (z : ℤ) → InRange (z +ℤ add) x → (d : Bool) (own : Own) (v : Valuation) → Fits s.frame store.locals v → v.addresses own.value ≡ x.number → v.numbers (capped own.fresh 1) ≡ z
          → IsInRange s store v t (range_up_to own.value (if d then Some (record (fresh_form own.fresh) { add = pos 0 +ℤ add }) else None)) x
      in_range x z r true own v fits at is =
          own_range s store t x z (z +ℤ add) r (Some m.ctype) (λ k. record { base = None; var = capped k 1; add = pos 0 +ℤ add })
          (λ k v fits is. fresh_counts m.ctype z (pos 0 +ℤ add) k v is ∙ none z add) own v fits at is
        where
          none : (z c : ℤ) → z +ℤ (pos 0 +ℤ c) ≡ z +ℤ c
          none z c = omega (arith, ints)
      in_range x z r false own v fits at is = tt

      comes : (w : ℕ) → loaded (words.width_of form) (place_in a (offset_of s.text.layout c.tag k)) store.blocks ≡ Some w → (x : Value) → x.number < 2 ^ 32 → InRange (exact form w +ℤ add) x → Made x
      comes w e x small r =
          claims_by (mbounds.Named k add) is x (exact form w) small
          (subst (λ (o : Option CType). IfSome o (λ u. IsNumberOf u (exact form w))) (sym typed)
          (word_lies m.ctype w integer (integer_loaded m.ctype w integer (loaded_in (words.width_of form) (place_in a (offset_of s.text.layout c.tag k)) store.blocks ready.sound.bytes w e))))
          (between (is_small (pos 0) && is_small add)) (in_range x (exact form w) r (is_small (pos 0) && is_small add))
          (λ ones one. absurd (not_one (mbounds.Named k add) is (λ f. cc) one))

      by : (x : Value) (z : ℤ) → x.number < 2 ^ 32 → InRange z x → (o : Option ℕ) → loaded (words.width_of form) (place_in a (offset_of s.text.layout c.tag k)) store.blocks ≡ o
          → given_some o (λ w. Ok (exact form w +ℤ add)) ≡ Ok z → Made x
      by x z small r (Some w) e is = comes w e x small (subst (λ z. InRange z x) (same_ok z (exact form w +ℤ add) (sym is)) r)
        where
          same_ok : (z y : ℤ) → ◌≡◌ {A = Result ℤ Halt} (Ok z) (Ok y) → z ≡ y
          same_ok z y e = cc
      by x z small r None e is = absurd (cc)

  -- a pointer without bounds
  bare_gives : c.member.bounds ≡ mbounds.Nothing → (a offset : ℕ) (o : Option Count) → count_of_kind (kind_of t) ≡ o → IfGives Made (got store s.text.layout t offset o a)
  bare_gives is a offset o e = by o e
    where
      comes : (x : Value) → x.number < 2 ^ 32 → ((z : ℤ) → count_of_kind (kind_of t) ≡ Some (count.Fixed z) → InRange z x) → Made x
      comes x small there =
          claims_by mbounds.Nothing is x (pos 0) small tt (kind_between s store entry t x there) (λ own v fits at number. kind_range s store entry t x there None (pos 0) own v fits at tt) (kind_one s store entry t x there)

      by : (o : Option Count) → count_of_kind (kind_of t) ≡ o → IfGives Made (got store s.text.layout t offset o a)
      by (Some (count.Fixed z)) e =
          gives_weaker (λ v. (v.number < 2 ^ 32) × InRange z v) Made (got store s.text.layout t offset (Some (count.Fixed z)) a) (fixed_gives store ready.sound.bytes to z a (place_in a offset))
          (λ x r. comes x r.0 (λ y f. subst (λ z. InRange z x) (same_count z y (sym e ∙ f)) r.1))
      by (Some (count.Member o f z)) e = absurd (not_member (kind_of t) o f z e)
      by None e = word_gives store ready.sound.bytes Made t (place_in a offset) (λ m word. comes (record { number = m; range = Without }) (word_wide t m word) (λ z f. absurd (cc)))

  -- a pointer with a constant number of elements
  constant_gives : (z : ℤ) → c.member.bounds ≡ mbounds.Fixed z → (a offset : ℕ) → IfGives Made (got store s.text.layout t offset (Some (count.Fixed z)) a)
  constant_gives z is a offset =
      gives_weaker (λ v. (v.number < 2 ^ 32) × InRange z v) Made (got store s.text.layout t offset (Some (count.Fixed z)) a) (fixed_gives store ready.sound.bytes to z a (place_in a offset))
      (λ x r. claims_by (mbounds.Fixed z) is x (pos 0) r.0 tt (λ own first limit more less. own_between (λ k. constant_form z) own first limit more less)
      (λ own v fits at number. own_range s store t x (pos 0) z r.1 None (λ k. constant_form z) (constant_counts s store.locals None (pos 0) z) own v fits at tt)
      (λ ones one. absurd (not_one (mbounds.Fixed z) is (λ f. cc) one)))

  gives_by : (b : MemberBounds) → c.member.bounds ≡ b → (a offset : ℕ) → IfGives Made (got store s.text.layout t offset (count_by s.text.layout c.tag t b) a)
  gives_by mbounds.Nothing is a offset = bare_gives is a offset (count_of_kind (kind_of t)) refl
  gives_by mbounds.Unknown is a offset = missing mbounds.Unknown is (not_one mbounds.Unknown is (λ f. cc)) (λ own. refl) a offset
  gives_by mbounds.NoForm is a offset = missing mbounds.NoForm is (not_one mbounds.NoForm is (λ f. cc)) (λ own. refl) a offset
  gives_by (mbounds.Fixed z) is a offset = constant_gives z is a offset
  gives_by (mbounds.Named k add) is a offset =
      let m = subst (NamesInteger s c.tag) is c.counts in
      subst (λ o. IfGives Made (got store s.text.layout t offset (Some (count.Member (offset_of s.text.layout c.tag k) (integer_in_member o) add)) a)) (sym m.1)
      (named_gives k add is m.0 m.2 m.3 a offset)

  count_there : count_of_member s.text.layout (tag_of u) n ≡ count_by s.text.layout c.tag t c.member.bounds
  count_there =
      ap (λ f. count_of_member s.text.layout (tag_in f) n) c.struct ∙ ap (count_in s.text.layout c.tag) c.found ∙ ap (λ u. count_by s.text.layout c.tag u c.member.bounds) c.type

  -- However it is read, it is as it is judged to be.
  pub held_gives : (a offset : ℕ) → IfGives Made (got store s.text.layout t offset (count_of_member s.text.layout (tag_of u) n) a)
  held_gives a offset = subst (λ o. IfGives Made (got store s.text.layout t offset o a)) (sym count_there) (gives_by c.member.bounds refl a offset)

  -- Read at the place of a structure, it is not stuck.
  pub held_claims : (q : Place) → IsStructurePlace store u q
      → IsNotStuck Made (evaluated store (read_at s.text.layout t (count_of_member s.text.layout (tag_of u) n) (member_place s.text.layout (tag_of u) n q)))
  held_claims q place =
      member_reads store s.text.layout u q place (tag_of u) n Made t (count_of_member s.text.layout (tag_of u) n)
      (λ a w. subst (λ d. IsNotStuck Made (got store s.text.layout t d (count_of_member s.text.layout (tag_of u) n) a)) (sym offset_is)
      (may_read (count_of_member s.text.layout (tag_of u) n) (sym count_there) a w (held_gives a offset_there)))
