-- A function of a judged text: what it is judged by, and what it runs as.
use Rattle.std.specs.Prelude.{◌≡◌, ℕ, ◌+◌, true, List, [], ◌∷◌, slice_get, Some}
use Rattle.std.specs.List.{Contains}
use Rattle.ckc_types.specs.declared.types.CType.{CType}
use Rattle.ckc_syntax.specs.declared.tree.Item.TheVariants as item
use Rattle.ckc_typed.specs.declared.environment.Variable.{Variable}
use Rattle.ckc_typed.specs.declared.typed.StaticObject.{StaticObject}
use Rattle.ckc_typed.specs.declared.typed.Typed.{Typed}
use Rattle.ckc_typed.specs.Statics.{Strings, object_of_string, strings_of_item}
use Rattle.ckc_typed.specs.Trees.{NotedHead, NotedStmt}
use Rattle.ckc_typed.specs.Types.{type_written}
use Rattle.ckc_typed.specs.Environment.{variables_of}
use Rattle.ckc_bounds.specs.ckc_bounds_points.specs.declared.frame.HeadBounds.{HeadBounds}
use Rattle.ckc_bounds.specs.ckc_bounds_points.specs.declared.frame.Frame.{Frame}
use Rattle.ckc_bounds.specs.Declarations.{head_bounds}
use Rattle.ckc_bounds.specs.Frames.{text_frame, function_frame}
use Rattle.ckc_source.specs.Code.{Function}
use Rattle.ckc_build_elaborate.specs.Functions.{function_elaborated}
use Rattle.ckc_build_elaborate.specs.Objects.{object_elaborated, objects_elaborated}

-- What a function is judged by and elaborated with: its text, the variables that bounds are judged by, what its head says
-- of bounds, its variables with their types, and the type of its result.
pub record Setting : Type 0 where
  pub text : Typed
  pub frame : Frame
  pub head : HeadBounds
  pub variables : List Variable
  pub result : CType

-- what holds for the whole text
abbrev pub frame_of_text : Typed → Frame
frame_of_text p = text_frame p.layout p.statics p.tree.items

-- the setting of a function of the text
unfoldable pub setting_of : Typed → NotedHead → NotedStmt → Setting
setting_of p head body = record {
  text = p;
  frame = function_frame (frame_of_text p) head body;
  head = head_bounds (frame_of_text p) head;
  variables = variables_of body.note.mode head body;
  result = type_written head.result;
}

-- The static object with the number k is the one that a string literal makes, as it is judged and as it runs.
pub record IsString (s : Setting) (bytes : List ℕ) (k : ℕ) : Type 0 where
  pub object : StaticObject
  pub there : slice_get s.text.statics k ≡ Some object
  pub judged : slice_get s.frame.statics k ≡ Some object
  pub free : slice_get (objects_elaborated s.text) k ≡ Some (object_elaborated s.text.layout (Some true) object)
  pub made : object ≡ record (object_of_string bytes) { at = object.at }

-- The static objects from the number k on are those of string literals, one after another.
abbrev pub AreStrings : Setting → ℕ → Strings → Type 0
AreStrings s k [] = Unit {0}
AreStrings s k (bytes ∷ more) = IsString s bytes k × AreStrings s (k + 1) more

-- The function f is one of the text with its body, and has the setting s; the static objects from one on are those of its
-- string literals.
pub record IsFunction (p : Typed) (s : Setting) (f : Function) : Type 0 where
  pub head : NotedHead
  pub body : NotedStmt
  pub literals : ℕ
  pub there : Contains p.tree.items (item.Function head body)
  pub judged : s ≡ setting_of p head body
  pub runs : f ≡ function_elaborated p literals head body
  pub strings : AreStrings s literals (strings_of_item (item.Function head body))
