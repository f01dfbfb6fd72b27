-- What the judgement and the program know of a declared static object.
use Rattle.std.specs.Prelude.{◌≡◌, ℕ, ◌<◌, true, Option, Some, is_none, is_some, slice_get, unwrap_or}
use Rattle.std.specs.List.{Contains}
use Rattle.ckc_types.specs.declared.types.CType.{CType}
use Rattle.ckc_linear.specs.declared.forms.Base.TheVariants as base
use Rattle.ckc_syntax.specs.declared.tree.Item.TheVariants as item
use Rattle.ckc_syntax.specs.declared.tree.Name.TheVariants as name
use Rattle.ckc_typed.specs.declared.typed.Range.{Range}
use Rattle.ckc_typed.specs.declared.typed.Range.TheVariants as range
use Rattle.ckc_typed.specs.declared.typed.StaticObject.{StaticObject}
use Rattle.ckc_typed.specs.Environment.{kind_of_array, used}
use Rattle.ckc_typed.specs.Statics.{is_terminated}
use Rattle.ckc_typed.specs.Trees.{NotedDecl}
use Rattle.ckc_typed.specs.Types.{type_written}
use Rattle.ckc_blame_sound.specs.ckc_bounds_points.specs.declared.frame.Bounds.{Bounds}
use Rattle.ckc_blame_sound.specs.ckc_bounds_points.specs.declared.frame.Bounds.TheVariants as bounds
use Rattle.ckc_blame_sound.specs.ckc_bounds_points.specs.Forms.{constant_form}
use Rattle.ckc_blame_sound.specs.ckc_bounds_declared.specs.Written.{bounds_by_type, takes_bounds}
use Rattle.ckc_blame_sound.specs.ckc_bounds_ranges.specs.Rows.{range_from}
use Rattle.ckc_blame_sound.specs.ckc_bounds_stores.specs.Targets.{counted, written_there}
use Rattle.ckc_blame_sound.specs.ckc_bounds_views.specs.Judged.{is_declared_object}
use Rattle.ckc_blame_sound.specs.ckc_bounds_views.specs.Ranges.{range_of_object}
use Rattle.ckc_source.specs.declared.expr.Count.{Count}
use Rattle.ckc_source.specs.declared.expr.Count.TheVariants as count
use Rattle.ckc_build_values.specs.Names.{count_of_static, limits_declared}
use Rattle.ckc_build_elaborate.specs.Objects.{object_elaborated, objects_elaborated}
use Rattle.ckc_blame_sound.specs.Settings.{Setting}

-- the bounds from the value of a pointer up to as many elements as a program counts; unknown ones if it counts none
abbrev pub bounds_counted : Option Count → Bounds
bounds_counted (Some (count.Fixed c)) = counted (record { base = Some (base.Value 0); var = 0; add = c })
bounds_counted _ = bounds.Unknown

-- the range from a value up to as many elements; a missing one if the program counts none
abbrev pub range_counted : ℕ → Option Count → Range
range_counted own (Some (count.Fixed c)) = range_from (base.Value own) (constant_form c)
range_counted own _ = range.Missing

-- the bounds of a static pointer of a type, from its own value: those that are written, or those of its type
abbrev pub bounds_of_static : Setting → CType → ℕ → Bounds
bounds_of_static s t k = unwrap_or (written_there (slice_get s.frame.objects k)) (bounds_by_type (base.Value 0) t)

-- The name of file scope with the number k has a type. It is declared, and this is its object as it is judged and as it
-- runs; it has the type that is declared, or is an array of it. The bounds that the judgement knows of it are those
-- that a program counts, and only a pointer that is no array has written bounds.
pub record IsStatic (s : Setting) (t : CType) (k : ℕ) : Type 0 where
  pub decl : NotedDecl
  pub declared : Contains s.text.tree.items (item.Static decl)
  pub named : decl.name ≡ name.Static k
  pub object : StaticObject
  pub there : slice_get s.text.statics k ≡ Some object
  pub judged : slice_get s.frame.statics k ≡ Some object
  pub written : object.element ≡ type_written decl.ctype
  pub array : object.array ≡ kind_of_array decl.length
  pub ends : object.terminated ≡ is_terminated decl.length
  pub some : 0 < object.count
  pub type : t ≡ used object.element object.array
  pub limits : limits_declared s.text (name.Static k) ≡ decl.bounds
  pub noted : is_declared_object (slice_get s.frame.objects k) ≡ is_some decl.bounds
  pub placed : slice_get (objects_elaborated s.text) k
      ≡ Some (object_elaborated s.text.layout (Some (is_none decl.bounds)) object)
  pub takes : is_some decl.bounds ≡ true → takes_bounds object.element decl.length ≡ true
  pub bounds : bounds_of_static s object.element k
      ≡ bounds_counted (count_of_static s.text object.element (name.Static k))
  pub range : (own : ℕ) → range_of_object (slice_get s.frame.objects k) object.element own
      ≡ range_counted own (count_of_static s.text object.element (name.Static k))
