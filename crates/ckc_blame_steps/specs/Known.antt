-- What is known of a text, so that each of its steps that stores through no unchecked pointer keeps a state sound.
use Rattle.std.specs.Prelude.{◌≡◌, ℕ, true, List, Option}
use Rattle.ckc_base.specs.declared.arithmetic.Mode.{Mode}
use Rattle.ckc_syntax_limits.specs.Small.{Small}
use Rattle.ckc_typed.specs.declared.typed.Typed.{Typed}
use Rattle.ckc_typed_welltyped.specs.Productions.{given_tree}
use Rattle.ckc_source.specs.declared.stmt.Kept.{Kept}
use Rattle.ckc_source.specs.declared.stmt.Spot.{Spot}
use Rattle.ckc_source.specs.Code.{Expr, Function, Call, Return}
use Rattle.ckc_source.specs.LaidOut.{IsLaidOut}
use Rattle.ckc_source.specs.States.{Work, State}
use Rattle.ckc_build_elaborate.specs.Elaborated.{elaborated}
use Rattle.ckc_blame_sound.specs.Settings.{Setting, IsFunction}
use Rattle.ckc_blame_sound.specs.Calls.{store_in, arguments_of}
use Rattle.ckc_blame_sound.specs.Sound.{Sound}
use Rattle.ckc_blame_walk.specs.ckc_blame_nested.specs.Nested.{AreNested}
use Rattle.ckc_blame_control.specs.Ready.{Faces}
use Rattle.ckc_blame_steps.specs.Tests.{AreTestsCovered}
use Rattle.ckc_blame_steps.specs.Granted.{IsGranted}
use Rattle.ckc_blame_steps.specs.Arguments.{GiveWords, literals_before}
use Rattle.ckc_blame_steps.specs.Results.{GivesWordIf, returned_by}
use Rattle.ckc_blame_steps.specs.Spared.{SpareResults}

-- ---- words that are given

-- The arguments of each call give words, or are stuck as they may be in code of its mode.
abbrev pub ArgumentsGiveWords : Typed → Type 0
ArgumentsGiveWords p =
    (m : Mode) (s : State) (h : Sound p s) (spot : Spot) (target : Option Kept) (number : ℕ) (es : List Expr)
    (next : List Work) (f : Faces h.setting (store_in p s.blocks s.frame) s.frame.entry (Call spot target number es) next)
    → spot.mode ≡ m
    → GiveWords m h.setting (store_in p s.blocks s.frame) f.here.at (literals_before f.judged.after f.judged.literals)
    (arguments_of f.judged.before) (arguments_of f.judged.after) (record { value = 0; fresh = f.here.next })

-- What each return returns does so.
abbrev pub ReturnsGiveWords : Typed → Type 0
ReturnsGiveWords p =
    (m : Mode) (s : State) (h : Sound p s) (spot : Spot) (e : Expr) (next : List Work)
    (f : Faces h.setting (store_in p s.blocks s.frame) s.frame.entry (Return spot e) next)
    → spot.mode ≡ m
    → GivesWordIf m h.setting (store_in p s.blocks s.frame) f.here.at f.judged.literals (returned_by f.judged.before)
    (returned_by f.judged.after) (record { value = 0; fresh = f.here.next })

-- ---- a text

-- The expressions of the steps of a text that store through no unchecked pointer, and of its conditions, are covered, no
-- result has bounds that name a local that is declared, and what is passed and returned gives words.
pub record IsKnown (p : Typed) : Type 0 where
  pub granted : IsGranted p
  pub nested : AreNested granted.judged.typed.tree.items
  pub tests : (s : Setting) (f : Function) → IsFunction p s f → AreTestsCovered s
  pub spares : SpareResults p
  pub arguments : ArgumentsGiveWords p
  pub returned : ReturnsGiveWords p

-- The grammar gives the tree of a known text, it keeps the limits of a text, and its static objects lie apart as those
-- of a program must.
pub record Begins (p : Typed) (k : IsKnown p) : Type 0 where
  pub given : given_tree k.granted.judged.named.tree ≡ true
  pub small : Small k.granted.judged.named.tree
  pub laid_out : IsLaidOut (elaborated p)
