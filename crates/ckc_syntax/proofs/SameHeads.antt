-- Declarations and heads are the same but for their places exactly when they are equal without them.
use Rattle.std.proofs.Common.{◌≡◌, ℕ, Bool, List, ap, refl}
use Rattle.std.specs.Bool.{Decides}
use Rattle.std.specs.Prelude.{Option, Some, None}
use Rattle.ckc_base.specs.declared.arithmetic.Mode.{Mode}
use Rattle.ckc_base.specs.declared.arithmetic.Mode.TheVariants as mode
use Rattle.ckc_base.specs.Places.{start}
use Rattle.ckc_syntax.specs.declared.tree.Init.TheVariants as init
use Rattle.ckc_syntax.specs.declared.tree.Length.{Length}
use Rattle.ckc_syntax.specs.declared.tree.Length.TheVariants as len
use Rattle.ckc_syntax.specs.code.SameParts.{same_expr, same_bounds, same_init, same_number, same_length, same_mode, same_decl, same_head_parts}
use Rattle.ckc_syntax.specs.Trees.{Spelling, TypeTree, Limits, Expr, Init, Decl, Head}
use Rattle.ckc_syntax.specs.Placeless.{placeless_expr, placeless_bounds, placeless_init, placeless_length, placeless_decl, placeless_head}
use Rattle.ckc_syntax.proofs.Tells.{Tells, yes, unlike, both, made, numbers, names, lists, some_tells, left_tells, right_tells}
use Rattle.ckc_syntax.proofs.SameTypes.{type_tells}
use Rattle.ckc_syntax.proofs.SameNodes.{limits_tells, expr_tells}

bounds_tells : (l m : Option Limits) → Tells (same_bounds l m) (placeless_bounds l) (placeless_bounds m)
bounds_tells None None = yes _
bounds_tells (Some l) (Some m) = some_tells (limits_tells l m)
bounds_tells None (Some m) = right_tells
bounds_tells (Some l) None = left_tells

abbrev init_form : Init → ℕ
init_form init.Nothing = 0
init_form (init.One e) = 1
init_form (init.Many es) = 2

abbrev one : Expr → Init
one e = init.One e

inj_one : (e f : Expr) → one e ≡ one f → e ≡ f
inj_one e f is = cc

abbrev many : List Expr → Init
many es = init.Many es

inj_many : (es fs : List Expr) → many es ≡ many fs → es ≡ fs
inj_many es fs is = cc

init_tells : (i j : Init) → Tells (same_init i j) (placeless_init i) (placeless_init j)
init_tells init.Nothing init.Nothing = yes _
init_tells (init.One e) (init.One f) = made one (expr_tells e f) (inj_one _ _)
init_tells (init.Many es) (init.Many fs) = made many (lists same_expr placeless_expr expr_tells es fs) (inj_many _ _)
init_tells i j = unlike init_form _ _ refl

number_tells : (n m : Option ℕ) → Tells (same_number n m) n m
number_tells None None = yes _
number_tells (Some n) (Some m) = some_tells (numbers n m)
number_tells None (Some m) = right_tells
number_tells (Some n) None = left_tells

abbrev length_form : Length → ℕ
length_form len.Plain = 0
length_form (len.Raw n p) = 1
length_form (len.Checked n) = 2
length_form (len.Nt n) = 3

length_tells : (l m : Length) → Tells (same_length l m) (placeless_length l) (placeless_length m)
length_tells len.Plain len.Plain = yes _
length_tells (len.Raw n p) (len.Raw m q) = made (λ (z : Option ℕ). len.Raw z start) (number_tells n m) (λ e. cc)
length_tells (len.Checked n) (len.Checked m) = made (λ (z : Option ℕ). len.Checked z) (number_tells n m) (λ e. cc)
length_tells (len.Nt n) (len.Nt m) = made (λ (z : Option ℕ). len.Nt z) (number_tells n m) (λ e. cc)
length_tells l m = unlike length_form _ _ refl

abbrev mode_form : Option Mode → ℕ
mode_form None = 0
mode_form (Some mode.Checked) = 1
mode_form (Some mode.Unchecked) = 2

mode_tells : (a b : Option Mode) → Tells (same_mode a b) a b
mode_tells None None = yes _
mode_tells (Some mode.Checked) (Some mode.Checked) = yes _
mode_tells (Some mode.Unchecked) (Some mode.Unchecked) = yes _
mode_tells None (Some b) = right_tells
mode_tells (Some mode.Checked) None = left_tells
mode_tells (Some mode.Unchecked) None = left_tells
mode_tells (Some mode.Checked) (Some mode.Unchecked) = unlike mode_form _ _ refl
mode_tells (Some mode.Unchecked) (Some mode.Checked) = unlike mode_form _ _ refl

abbrev decl_of : TypeTree × (Spelling × (Length × (Option Limits × Init))) → Decl
decl_of z = record { ctype = z.0; name = z.1.0; length = z.1.1.0; bounds = z.1.1.1.0; init = z.1.1.1.1; pos = start }

abbrev parts_of_decl : Decl → TypeTree × (Spelling × (Length × (Option Limits × Init)))
parts_of_decl d = (d.ctype, (d.name, (d.length, (d.bounds, d.init))))

decl_tells : (d e : Decl) → Tells (same_decl d e) (placeless_decl d) (placeless_decl e)
decl_tells d e = made decl_of (both (type_tells d.ctype e.ctype) (both (names d.name e.name) (both (length_tells d.length e.length) (both (bounds_tells d.bounds e.bounds) (init_tells d.init e.init))))) (λ is. ap parts_of_decl is)

abbrev head_of : Spelling × (Option Mode × (TypeTree × (List Decl × Option Limits))) → Head
head_of z = record { mode = z.1.0; result = z.1.1.0; name = z.0; params = z.1.1.1.0; bounds = z.1.1.1.1; pos = start }

abbrev parts_of_head : Head → Spelling × (Option Mode × (TypeTree × (List Decl × Option Limits)))
parts_of_head h = (h.name, (h.mode, (h.result, (h.params, h.bounds))))

pub head_tells : (g h : Head) → Tells (same_head_parts g h) (placeless_head g) (placeless_head h)
head_tells g h = made head_of (both (names g.name h.name) (both (mode_tells g.mode h.mode) (both (type_tells g.result h.result) (both (lists same_decl placeless_decl decl_tells g.params h.params) (bounds_tells g.bounds h.bounds))))) (λ is. ap parts_of_head is)

-- whether two heads are equal without their places
pub equal_heads : (g h : Head) → (b : Bool) × Decides b (placeless_head g ≡ placeless_head h)
equal_heads g h = let t = head_tells g h in (same_head_parts g h, (t.so, t.back))
