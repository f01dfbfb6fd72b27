-- Nodes of expressions by their form, and ranges of locals.
use Rattle.std.proofs.Common.{◌≡◌, ◌⊎◌, inl, inr}
use Rattle.std.specs.Prelude.{ℕ, ◌==◌, Bool, true, false, ◌||◌, pos, List, Option, Some, None, length}
use Rattle.std.specs.List.{list_any}
use Rattle.ckc_linear.specs.declared.forms.Form.{Form}
use Rattle.ckc_types.specs.declared.types.CType.{CType}
use Rattle.ckc_types.specs.declared.types.CType.TheVariants as ctype
use Rattle.ckc_syntax.specs.declared.tree.Name.{Name}
use Rattle.ckc_syntax.specs.declared.tree.Name.TheVariants as name
use Rattle.ckc_syntax.specs.declared.tree.TreeOp.TheVariants as op
use Rattle.ckc_syntax.specs.declared.tree.Node.{Node-F, out-Node}
use Rattle.ckc_typed.specs.declared.typed.Note.{Note}
use Rattle.ckc_typed.specs.declared.typed.Range.TheVariants as range
use Rattle.ckc_typed.specs.Conversions.{is_null_form, is_string_form, is_allocation_form}
use Rattle.ckc_typed.specs.Trees.{NotedExpr}
use Rattle.ckc_build_forms.specs.ckc_blame_steps.specs.ckc_bounds_points.specs.declared.frame.Bounds.{Bounds}
use Rattle.ckc_build_forms.specs.ckc_blame_steps.specs.ckc_bounds_points.specs.declared.frame.Bounds.TheVariants as bounds
use Rattle.ckc_build_forms.specs.ckc_blame_steps.specs.ckc_bounds_points.specs.declared.frame.Frame.{Frame}
use Rattle.ckc_build_forms.specs.ckc_blame_steps.specs.ckc_bounds_points.specs.declared.frame.Local.{Local}
use Rattle.ckc_build_forms.specs.ckc_blame_steps.specs.ckc_bounds_points.specs.Forms.{moved_form}
use Rattle.ckc_build_forms.specs.ckc_blame_steps.specs.ckc_bounds_points.specs.Frames.{local_at}
use Rattle.ckc_build_forms.specs.ckc_blame_steps.specs.ckc_bounds_ranges.specs.Rows.{range_by, range_moved, range_of_bounds, range_of_local, range_widened}

-- what has a place: an object of file scope by its name, an element or a member
abbrev pub is_there_form : {A L M E : Type 0} → Node-F Name A L M E → Bool
is_there_form (Node-F.Name (name.Static k)) = true
is_there_form (Node-F.Un op.Deref e) = true
is_there_form (Node-F.Index e f) = true
is_there_form (Node-F.Dot e n at) = true
is_there_form (Node-F.Arrow e n at) = true
is_there_form n = false

abbrev pub is_there : NotedExpr → Bool
is_there e = is_there_form (out-Node Name Note e.node)

-- what needs no bounds to be a pointer: null, a string and a new block
abbrev pub is_plain_form : {A L M E : Type 0} → Node-F Name A L M E → Bool
is_plain_form n = is_null_form n || (is_string_form n || is_allocation_form n)

abbrev pub is_plain : NotedExpr → Bool
is_plain e = is_plain_form (out-Node Name Note e.node)

-- a pointer to elements of which type such a node may be: null and a new block of any, a string of `char`
abbrev pub IsPlainFor : {A L M E : Type 0} → Node-F Name A L M E → CType → Type 0
IsPlainFor n t = ((is_null_form n || is_allocation_form n) ≡ true) ⊎ ((is_string_form n ≡ true) × (t ≡ ctype.Char))

pub no_plain : {X Y : Type 0} → (false ≡ true) ⊎ ((false ≡ true) × Y) → X
no_plain (inl e) = absurd cc
no_plain (inr e) = let h = e.0 in absurd cc

-- the name that a node is
abbrev pub name_in : {A L M E : Type 0} → Node-F Name A L M E → Option Name
name_in (Node-F.Name n) = Some n
name_in n = None

-- what a node calls, and with how many arguments
abbrev pub call_in : {A L M E : Type 0} → Node-F Name A L M E → Option (Name × ℕ)
call_in (Node-F.Call n es) = Some (n, length es)
call_in n = None

-- ---- the range of a local is known or missing

bounded : (b : Bounds) → range_of_bounds b ≡ range.Any → ⊥
bounded bounds.Unknown e = cc
bounded (bounds.Known low high) e = cc

moved : (low : Form) (o : Option Form) → range_moved low o ≡ range.Any → ⊥
moved low None e = cc
moved low (Some high) e = cc

wider : (b : Bounds) → range_widened b ≡ range.Any → ⊥
wider bounds.Unknown e = cc
wider (bounds.Known low high) e = moved low (moved_form (Some high) (pos 1)) e

by_local : (l : Option Local) (wide : Bool) → range_by l wide ≡ range.Any → ⊥
by_local None wide e = cc
by_local (Some l) true e = wider l.bounds e
by_local (Some l) false e = bounded l.bounds e

pub no_any : (frame : Frame) (k : ℕ) (widened : List ℕ) → range_of_local frame k widened ≡ range.Any → ⊥
no_any frame k widened e = by_local (local_at frame k) (list_any (λ q. q == k) widened) e
