-- How many elements a static pointer of a judged text has is a number of 32 bits.
use Rattle.std.proofs.Common.{◌≡◌, refl, ℕ, List}
use Rattle.std.specs.Prelude.{All, ℤ, Option, None, Some, IfSome, find}
use Rattle.ckc_types.specs.declared.types.CType.{CType}
use Rattle.ckc_types.specs.declared.types.Structs.{Structs}
use Rattle.ckc_syntax.specs.declared.tree.Name.{Name}
use Rattle.ckc_syntax.specs.declared.tree.Item.TheVariants as item
use Rattle.ckc_syntax.specs.declared.tree.Limits.{Limits-F, out-Limits}
use Rattle.ckc_typed.specs.declared.environment.Amount.{Amount}
use Rattle.ckc_typed.specs.declared.typed.Note.{Note}
use Rattle.ckc_typed.specs.declared.typed.Typed.{Typed}
use Rattle.ckc_typed.specs.Amounts.{amount, amount_of_bytes, amount_of_form}
use Rattle.ckc_typed.specs.Trees.{NotedExpr, NotedItem, NotedLimits, NotedNode}
use Rattle.ckc_typed.specs.Types.{kind_of}
use Rattle.ckc_checks_operands.specs.Compilable.{IsCount}
use Rattle.ckc_build_values.specs.Kinds.{size_behind}
use Rattle.ckc_build_values.specs.Names.{declares, limits_in, limits_declared, fixed_by, fixed_count, count_declared, count_of_static}
use Rattle.ckc_blame_steps.specs.ckc_blame_sound.specs.JudgedTexts.{IsJudged}
use Rattle.ckc_blame_steps.specs.ckc_blame_sound.proofs.Lists.{found}
use Rattle.ckc_build_forms.proofs.SmallAmounts.{HasClose, AmountsClose, LimitsClose, AreClose, bytes_close, kind_count, text_close}
use Rattle.ckc_build_forms.proofs.SmallBounds.{IsClose, small_of_close}

-- ---- what bounds count

number_count : (v : Option Name) (c : ℤ) → IsClose c → IfSome (fixed_by v c) IsCount
number_count None c h = small_of_close c h
number_count (Some n) c h = tt

fixed_small : (o : Option Amount) → IfSome o HasClose → IfSome (fixed_count o) IsCount
fixed_small None h = tt
fixed_small (Some a) h = number_count a.variable a.number h

form_small : (structs : Structs) (size : ℕ) (x : Limits-F Name Note NotedLimits NotedNode NotedExpr) → AmountsClose structs x → IfSome (fixed_count (amount_of_form structs size x)) IsCount
form_small structs size (Limits-F.Count e at) h = fixed_small (amount structs e) h
form_small structs size (Limits-F.ByteCount e at) h = fixed_small (amount_of_bytes structs size e) (bytes_close structs size e h)
form_small structs size (Limits-F.Between e f at) h = tt
form_small structs size (Limits-F.Unknown at) h = tt

declared_small : (structs : Structs) (t : CType) (o : Option NotedLimits) → LimitsClose structs o → IfSome (count_declared structs t o) IsCount
declared_small structs t None h = kind_count (kind_of t)
declared_small structs t (Some l) h = form_small structs (size_behind structs t) (out-Limits Name Note l) h

-- ---- the item that declares a name

item_limits : (structs : Structs) (i : NotedItem) → AreClose structs i → LimitsClose structs (limits_in (Some i))
item_limits structs (item.Static d) h = h
item_limits structs (item.Directive d) h = tt
item_limits structs (item.Tag n at) h = tt
item_limits structs (item.Struct n ms at) h = tt
item_limits structs (item.Proto g) h = tt
item_limits structs (item.Function g body) h = tt

limits_close : (structs : Structs) (n : Name) (is : List NotedItem) → All (AreClose structs) is → LimitsClose structs (limits_in (find (declares n) is))
limits_close structs n is h = by (find (declares n) is) refl
  where
    by : (o : Option NotedItem) → find (declares n) is ≡ o → LimitsClose structs (limits_in o)
    by None e = tt
    by (Some i) e = item_limits structs i (found (AreClose structs) (declares n) is i h e).0

-- how many elements the static pointer of a name has, whatever its type
pub static_count : (p : Typed) (j : IsJudged p) (t : CType) (n : Name) → IfSome (count_of_static p t n) IsCount
static_count p j t n = declared_small p.layout t (limits_declared p n) (limits_close p.layout n p.tree.items (text_close p j))
