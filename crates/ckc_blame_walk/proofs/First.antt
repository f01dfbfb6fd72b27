-- The first state of the program of a judged text is sound.
use Rattle.std.proofs.Common.{◌≡◌, ℕ, List, [], length, refl, sym, ◌∙◌, ap, subst, arith}
use Rattle.std.specs.List.{Contains, flat_map}
use Rattle.ckc_base.specs.Lists.{AreBytes}
use Rattle.ckc_syntax.specs.declared.tree.Name.TheVariants as name
use Rattle.ckc_typed.specs.declared.typed.Typed.{Typed}
use Rattle.ckc_typed.specs.Trees.{NotedDecl}
use Rattle.ckc_blame_sound.specs.ckc_bounds.specs.Frames.{name_seen}
use Rattle.ckc_source.specs.Code.{Function}
use Rattle.ckc_source.specs.Source.{function_at, first_state}
use Rattle.ckc_source.specs.States.{entered}
use Rattle.ckc_build_elaborate.specs.Elaborated.{elaborated}
use Rattle.ckc_build_elaborate.specs.Functions.{function_elaborated}
use Rattle.ckc_build_elaborate.specs.Objects.{count_declared}
use Rattle.ckc_blame_sound.specs.Settings.{Setting, IsFunction, setting_of}
use Rattle.ckc_blame_sound.specs.Calls.{AreWaiting}
use Rattle.ckc_blame_sound.specs.Sound.{Sound}
use Rattle.ckc_blame_sound.proofs.Literals.{text_strings}
use Rattle.ckc_blame_walk.specs.Entries.{MayEnter}
use Rattle.ckc_blame_walk.specs.Ready.{first_blocks, next_behind, HasObjects, HasFunctions}
use Rattle.ckc_blame_walk.proofs.Entered.{params_many, entered_stands}
use Rattle.ckc_blame_walk.proofs.Memory.{first_sound, first_true}
use Rattle.ckc_blame_walk.proofs.Main.{IsFound, find_function}

module _ (q p : Typed) (input : List ℕ) (objects : HasObjects q p) (functions : HasFunctions p) (bytes : AreBytes input) where
  abbrev main : IsFound p (name.Function p.main) (count_declared p.tree.items) p.tree.items
  main = find_function p (name.Function p.main) (count_declared p.tree.items) p.tree.items functions.defined

  abbrev code : Function
  code = function_elaborated p main.literals main.head main.body

  abbrev setting : Setting
  setting = setting_of p main.head main.body

  abbrev is_function : IsFunction p setting code
  is_function = record { head = main.head; body = main.body; literals = main.literals; there = main.there; judged = refl; runs = refl; strings = main.strings setting (text_strings q p main.head main.body objects.typed objects.bounded) }

  no_params : main.head.params ≡ []
  no_params = sym main.params ∙ functions.bare

  may_enter : MayEnter p (first_blocks p) setting code main.head []
  may_enter = record {
    counted = sym (params_many p main.head main.body ∙ ap (λ (ds : List NotedDecl). length ds) no_params);
    words = λ k l h e. absurd (omega arith);
    bounded = λ k c. let none : Contains {X = ℕ} [] k = subst (λ (ds : List NotedDecl). Contains (flat_map name_seen ds) k) no_params c in absurd (omega (arith, none.1));
  }

  -- the first state, if this function is the first to run
  abbrev IsSoundWith : Function → Type 0
  IsSoundWith f = Sound p (record { blocks = first_blocks p; next = next_behind p; frame = entered f []; callers = []; input = input })

  main_sound : IsSoundWith code
  unfolding AreWaiting
  main_sound =
      let sound = first_sound q p objects in
      record {
        orderly = record { apart = sound.apart; bytes = sound.bytes; few = omega arith };
        memory = sound.memory;
        filled = first_true q p (entered code []).locals objects;
        input = bytes;
        setting = setting;
        stands = entered_stands p (first_blocks p) setting code [] is_function (functions.codes setting code is_function) may_enter;
        waiting = tt;
      }

  pub state_sound : Sound p (first_state (elaborated p) input)
  state_sound = subst IsSoundWith (sym (ap function_at main.at)) main_sound

pub first_state_sound : (q p : Typed) (input : List ℕ) → HasObjects q p → HasFunctions p → AreBytes input → Sound p (first_state (elaborated p) input)
first_state_sound q p input objects functions bytes = state_sound q p input objects functions bytes
