-- The static objects of a judged text lie low, and its string literals are short.
use Rattle.std.proofs.Common.{◌≡◌, refl, sym, subst, arith, ℕ, ◌+◌, ◌*◌, ◌≤◌, Bool, true, false, List, [], ◌∷◌, map, length}
use Rattle.std.specs.Prelude.{◌<◌, ◌^◌, All, Option, Some, None, slice_get, if◌then◌else◌, ◌-◌}
use Rattle.std.specs.List.{Contains, flat_map}
use Rattle.std.proofs.Math.Nat.{mul-le-mul_left, mul-le-mul_right}
use Rattle.std.proofs.lemmas.List.Elements.{All-nil, All-cons, All-head, All-tail, All-contains}
use Rattle.ckc_base.specs.declared.arithmetic.Mode.TheVariants.{Unchecked}
use Rattle.ckc_base.specs.MemoryMap.{data_start, statics_end}
use Rattle.ckc_types.specs.declared.types.CType.{CType, CType-F}
use Rattle.ckc_types.specs.declared.types.CType.TheVariants as ctype
use Rattle.ckc_types.specs.declared.types.Structs.{Structs}
use Rattle.ckc_types.specs.Layout.{size_by_form}
use Rattle.ckc_types.proofs.Multiples.{next_is_least}
use Rattle.ckc_syntax.specs.declared.tree.Item.TheVariants as item
use Rattle.ckc_typed.specs.declared.typed.StaticObject.{StaticObject}
use Rattle.ckc_typed.specs.declared.typed.Typed.{Typed}
use Rattle.ckc_typed.specs.Constants.{is_laid_out_form, size_of}
use Rattle.ckc_typed.specs.Statics.{Strings, blocks, objects_of_item, object_of_string, end_of_block, end_of_blocks, strings_of_item, strings_of_head, strings_of_stmt}
use Rattle.ckc_typed.specs.Texts.{globals_of}
use Rattle.ckc_typed.specs.Trees.{NotedHead, NotedItem, NotedStmt}
use Rattle.ckc_typed_welltyped.specs.Noteless.{without_notes}
use Rattle.ckc_typing.proofs.PlacingTurns.{ends_later}
use Rattle.ckc_checks_operands.specs.Compilable.{BeginsLow}
use Rattle.ckc_build_values.specs.Names.{address_in, address_of, bytes_in, bytes_of}
use Rattle.ckc_build_elaborate.specs.Lists.{beside}
use Rattle.ckc_build_elaborate.specs.Objects.{object_elaborated, run_in, objects_elaborated}
use Rattle.ckc_blame_steps.specs.ckc_blame_sound.specs.JudgedTexts.{IsJudged}
use Rattle.ckc_blame_steps.specs.ckc_blame_sound.proofs.Bounded.{is_bounded}
use Rattle.ckc_blame_steps.specs.ckc_blame_sound.proofs.Functions.{all_made}
use Rattle.ckc_blame_steps.specs.ckc_blame_sound.proofs.Ranges.{contains_at}
use Rattle.ckc_blame_steps.specs.ckc_blame_walk.proofs.Placed.{IsLaid, placed_laid}
use Rattle.ckc_blame_steps.specs.ckc_blame_walk.proofs.Starts.{IsBegun, blocks_begun}
use Rattle.ckc_build_forms.proofs.SoundTypes.{char_out}
use Rattle.ckc_build_words.specs.Numbers.{ObjectFits}
use Rattle.ckc_build_forms.proofs.FormsOfParts.{size_fits}
use Rattle.ckc_build_forms.proofs.FormsOfExprs.{IsShort, AreShort, left_of, right_of}

abbrev AreLaid : Structs → List StaticObject → Type 0
AreLaid structs os = All (IsLaid structs) os

typed_laid : (p : Typed) (j : IsJudged p) → AreLaid j.typed.layout j.typed.statics
typed_laid p j =
    let q = j.typed in
    let w = j.has_types.typed in
    let begun : All (IsBegun q.layout) (blocks q.layout q.tree.items) =
    subst (λ (s : Structs). All (IsBegun s) (blocks s q.tree.items)) (sym w.layout) (blocks_begun (globals_of (without_notes q.tree).items) Unchecked q.tree.items w.items) in
    subst (AreLaid q.layout) (sym w.statics) (placed_laid q.layout (blocks q.layout q.tree.items) data_start (omega arith) w.ends begun)

statics_laid : (p : Typed) → IsJudged p → AreLaid p.layout p.statics
statics_laid p j =
    let same = is_bounded j.typed p j.has_bounds in
    subst (λ (s : Structs). AreLaid s p.statics) (sym same.layout) (subst (AreLaid j.typed.layout) (sym same.statics) (typed_laid p j))

-- ---- objects

object_low : (structs : Structs) (flag : Option Bool) (o : StaticObject) → IsLaid structs o → BeginsLow (object_elaborated structs flag o)
object_low structs flag o l = let fits = l.begun.fits in let below = l.below in omega (arith, fits, below)

all_low : (structs : Structs) (flags : List Bool) (os : List StaticObject) → AreLaid structs os → All BeginsLow (beside (object_elaborated structs) flags os)
all_low structs flags [] l = All-nil BeginsLow
all_low structs [] (o ∷ os) l =
    All-cons BeginsLow (object_elaborated structs None o) (beside (object_elaborated structs) [] os)
    (object_low structs None o (All-head (IsLaid structs) o os l)) (all_low structs [] os (All-tail (IsLaid structs) o os l))
all_low structs (flag ∷ flags) (o ∷ os) l =
    All-cons BeginsLow (object_elaborated structs (Some flag) o) (beside (object_elaborated structs) flags os)
    (object_low structs (Some flag) o (All-head (IsLaid structs) o os l)) (all_low structs flags os (All-tail (IsLaid structs) o os l))

pub objects_low : (p : Typed) → IsJudged p → All BeginsLow (objects_elaborated p)
objects_low p j = all_low p.layout (flat_map run_in p.tree.items) p.statics (statics_laid p j)

-- ---- the numbers of objects

object_fits : (structs : Structs) (flag : Option Bool) (o : StaticObject) → IsLaid structs o → ObjectFits (object_elaborated structs flag o)
object_fits structs flag o l = let below = l.below in (omega (arith, below), size_fits structs o.element)

all_fit : (structs : Structs) (flags : List Bool) (os : List StaticObject) → AreLaid structs os → All ObjectFits (beside (object_elaborated structs) flags os)
all_fit structs flags [] l = All-nil ObjectFits
all_fit structs [] (o ∷ os) l =
    All-cons ObjectFits (object_elaborated structs None o) (beside (object_elaborated structs) [] os)
    (object_fits structs None o (All-head (IsLaid structs) o os l)) (all_fit structs [] os (All-tail (IsLaid structs) o os l))
all_fit structs (flag ∷ flags) (o ∷ os) l =
    All-cons ObjectFits (object_elaborated structs (Some flag) o) (beside (object_elaborated structs) flags os)
    (object_fits structs (Some flag) o (All-head (IsLaid structs) o os l)) (all_fit structs flags os (All-tail (IsLaid structs) o os l))

pub objects_fit : (p : Typed) → IsJudged p → All ObjectFits (objects_elaborated p)
objects_fit p j = all_fit p.layout (flat_map run_in p.tree.items) p.statics (statics_laid p j)

-- ---- addresses

fewer : (c : ℕ) (b : Bool) → c - (if b then 1 else 0) ≤ c
fewer c true = omega arith
fewer c false = omega arith

in_range : (structs : Structs) (o : Option StaticObject) → ((x : StaticObject) → o ≡ Some x → IsLaid structs x) → address_in o + bytes_in structs o ≤ statics_end
in_range structs None h = omega arith
in_range structs (Some x) h =
    let below = (h x refl).below in
    let less = mul-le-mul_left (size_of structs x.element) (fewer x.count x.terminated) in
    omega (arith, below, less)

pub arrays_low : (p : Typed) → IsJudged p → (k : ℕ) → address_of p k + bytes_of p k ≤ statics_end
arrays_low p j k =
    in_range p.layout (slice_get p.statics k) (λ x is. All-contains (IsLaid p.layout) p.statics x (statics_laid p j) (contains_at p.statics k x is))

pub addresses_low : (p : Typed) → IsJudged p → (k : ℕ) → address_of p k ≤ statics_end
addresses_low p j k = let h = arrays_low p j k in omega (arith, h)

-- ---- string literals

-- an object has room in the region of the static objects
abbrev IsWithin : Structs → StaticObject → Type 0
IsWithin structs o = data_start + size_of structs o.element * o.count ≤ statics_end

blocks_within : (structs : Structs) (os : List StaticObject) (end : ℕ) → data_start ≤ end → end_of_blocks structs end os ≤ statics_end → All (IsWithin structs) os
blocks_within structs [] end low high = All-nil (IsWithin structs)
blocks_within structs (o ∷ os) end low high =
    let next = end_of_block structs end o in
    let later = ends_later structs os next in
    let reach = (next_is_least (end + 8) 8 (omega arith)).reaches in
    All-cons (IsWithin structs) o os (omega (arith, low, high, later, reach)) (blocks_within structs os next (omega (arith, low, reach)) high)

char_some : (structs : Structs) → 1 ≤ size_of structs ctype.Char
char_some structs = subst (λ (x : CType-F CType). 1 ≤ (if is_laid_out_form structs x then size_by_form structs x else 0)) (sym char_out) (omega arith)

string_short : (structs : Structs) (bytes : List ℕ) → IsWithin structs (object_of_string bytes) → IsShort bytes
string_short structs bytes h = let more = mul-le-mul_right (length bytes + 1) (char_some structs) in omega (arith, h, more)

strings_short : (structs : Structs) (ss : Strings) → All (λ bytes. IsWithin structs (object_of_string bytes)) ss → AreShort ss
strings_short structs [] h = All-nil IsShort
strings_short structs (s ∷ ss) h =
    let P : List ℕ → Type 0 = λ bytes. IsWithin structs (object_of_string bytes) in
    All-cons IsShort s ss (string_short structs s (All-head P s ss h)) (strings_short structs ss (All-tail P s ss h))

of_each : (f : NotedItem → Strings) (is : List NotedItem) → AreShort (flat_map f is) → All (λ i. AreShort (f i)) is
of_each f [] h = All-nil (λ i. AreShort (f i))
of_each f (i ∷ is) h =
    All-cons (λ i. AreShort (f i)) i is (left_of IsShort (f i) (flat_map f is) h) (of_each f is (right_of IsShort (f i) (flat_map f is) h))

-- each string literal of a body, before it is judged, is short
pub bodies_short : (p : Typed) (j : IsJudged p) (h : NotedHead) (body : NotedStmt) → Contains j.typed.tree.items (item.Function h body) → AreShort (strings_of_stmt body)
bodies_short p j h body there =
    let q = j.typed in
    let w = j.has_types.typed in
    let strings = flat_map strings_of_item q.tree.items in
    let within = blocks_within q.layout (blocks q.layout q.tree.items) data_start (omega arith) w.ends in
    let made = right_of (IsWithin q.layout) (flat_map (objects_of_item q.layout) q.tree.items) (map object_of_string strings) within in
    let short = strings_short q.layout strings (all_made (IsWithin q.layout) object_of_string strings made) in
    right_of IsShort (strings_of_head h) (strings_of_stmt body)
    (All-contains (λ i. AreShort (strings_of_item i)) q.tree.items (item.Function h body) (of_each strings_of_item q.tree.items short) there)
