-- Functions that are called, as they are judged and as they run.
use Rattle.std.specs.Prelude.{◌≡◌, ℕ, ◌<◌, length, map, slice_get, Some}
use Rattle.ckc_syntax.specs.declared.tree.Name.TheVariants as name
use Rattle.ckc_typed.specs.declared.environment.Signature.{Signature}
use Rattle.ckc_typed.specs.declared.typed.Typed.{Typed}
use Rattle.ckc_typed.specs.Environment.{signature_named, parameter_declared}
use Rattle.ckc_blame_sound.specs.ckc_bounds_points.specs.declared.frame.Frame.{Frame}
use Rattle.ckc_source.specs.Code.{Function}
use Rattle.ckc_build_elaborate.specs.Functions.{functions_elaborated}
use Rattle.ckc_build_elaborate.specs.Names.{number_of, params_of}
use Rattle.ckc_blame_sound.specs.Settings.{Setting, IsFunction}
use Rattle.ckc_blame_sound.specs.Bodies.{globals_of_text}

-- The function k of a text, which has this signature: it is the one with its number in the program, its setting has the
-- head that a frame has for it, and it has the parameters that arguments are converted to.
pub record IsCallee (p : Typed) (frame : Frame) (k : ℕ) (t : Signature) : Type 0 where
  pub callee : Function
  pub called : Setting
  pub function : IsFunction p called callee
  pub there : slice_get (functions_elaborated p) (number_of (name.Function k) p.tree.items) ≡ Some callee
  pub head : slice_get frame.heads k ≡ Some called.head
  pub params : params_of (name.Function k) p.tree.items ≡ function.head.params
  pub types : t.params ≡ map parameter_declared function.head.params
  pub result : t.result ≡ called.result

-- Each function of a text that has a signature is so, to the frame of each function.
abbrev pub HaveCallees : Typed → Type 0
HaveCallees p =
    (s : Setting) (f : Function) (k : ℕ) (t : Signature) → IsFunction p s f
    → signature_named (globals_of_text p) (name.Function k) ≡ Some t → IsCallee p s.frame k t

-- Each function of a text has fewer than 1,024 variables.
abbrev pub HaveFewVariables : Typed → Type 0
HaveFewVariables p = (s : Setting) (f : Function) → IsFunction p s f → length s.variables < 1024
