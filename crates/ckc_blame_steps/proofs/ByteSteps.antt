-- Bytes that locals begin with keep states sound, and so does each step that reads a byte.
use Rattle.std.proofs.Common.{◌≡◌, refl, sym, subst, ◌∙◌, ℕ, List, [], ◌∷◌, arith}
use Rattle.std.specs.Prelude.{◌-◌, ◌<◌, ◌^◌, Ok}
use Rattle.ckc_base.specs.Lists.{AreBytes}
use Rattle.ckc_base.specs.declared.arithmetic.Mode.{Mode}
use Rattle.ckc_syntax.specs.declared.tree.Init.TheVariants as init
use Rattle.ckc_syntax.specs.declared.tree.Act.{Act-F}
use Rattle.ckc_syntax.specs.declared.tree.Act.{out-Act}
use Rattle.ckc_syntax.specs.declared.tree.Name.{Name}
use Rattle.ckc_typed.specs.declared.typed.Note.{Note}
use Rattle.ckc_typed.specs.declared.typed.Typed.{Typed}
use Rattle.ckc_typed.specs.Trees.{NotedDecl, NotedExpr, NotedInit}
use Rattle.ckc_blame_sound.specs.ckc_bounds_views.specs.Views.{view}
use Rattle.ckc_blame_sound.specs.ckc_bounds_stores.specs.declared.values.Numbered.{Numbered}
use Rattle.ckc_source.specs.declared.stmt.Spot.{Spot}
use Rattle.ckc_source.specs.Code.{Target, Variable, Code, End, Get}
use Rattle.ckc_source.specs.States.{Work, Rest, State, settled}
use Rattle.ckc_source.specs.Steps.{store_of, aimed, and_moves, at_work, gets, source_step, spot_in, spot_at, spot_of}
use Rattle.ckc_build_values.specs.Kinds.{width_of}
use Rattle.ckc_build_elaborate.specs.Elaborated.{elaborated}
use Rattle.ckc_build_elaborate.specs.Shapes.{shapes_elaborated}
use Rattle.ckc_build_elaborate.specs.Steps.{started}
use Rattle.ckc_blame_sound.specs.Calls.{store_in}
use Rattle.ckc_blame_sound.specs.Settings.{Setting}
use Rattle.ckc_blame_sound.specs.Sound.{Sound}
use Rattle.ckc_blame_sound.specs.Valuations.{Valuation}
use Rattle.ckc_blame_sound.specs.Typed.{IsTyped, IsTypedInit, IsTypedAct}
use Rattle.ckc_blame_sound.proofs.Judging.{judged_typed}
use Rattle.ckc_blame_sound.specs.JudgedTexts.{globals_in}
use Rattle.ckc_blame_control.specs.Ready.{Faces}
use Rattle.ckc_blame_control.proofs.Faced.{faces_get}
use Rattle.ckc_blame_control.proofs.Moved.{stands_ready}
use Rattle.ckc_blame_given.specs.Written.{IsStart}
use Rattle.ckc_blame_given.proofs.Calls.{call_received}
use Rattle.ckc_blame_steps.specs.Granted.{IsGranted, HasRoomInit}
use Rattle.ckc_blame_steps.specs.Unchecked.{StoresSafely, MovesSoundly}
use Rattle.ckc_blame_steps.proofs.Bytes.{IsByteStep, IsByteCall, no_bundle, no_ending, byte_call, own_bare, zeros, zeros_are, zeros_numbers}
use Rattle.ckc_blame_steps.proofs.Comes.{safe_as, same_state}
use Rattle.ckc_blame_steps.proofs.Declarations as declaration
use Rattle.ckc_blame_steps.proofs.ByteAssignments.{assign_lands}
use Rattle.ckc_blame_steps.proofs.Origins.{Kind, kind}
use Rattle.ckc_blame_steps.proofs.Landings.{Lands, landed, call_lands}
use Rattle.ckc_blame_steps.proofs.Steps.{known, typed_act}
use Rattle.ckc_blame_steps.proofs.Stores.{is_at}
use Rattle.ckc_blame_steps.proofs.SoundMoves.{moves_by}

module _ (p : Typed) (g : IsGranted p) (st : State) (h : Sound p st) (step : Code → Code) (next : List Work) (f : Faces h.setting (store_in p st.blocks st.frame) st.frame.entry step next) where
  abbrev s : Setting
  s = h.setting

  module _ (d : NotedDecl) (is : out-Act Name Note f.judged.before.body ≡ Act-F.Local d) (target : Target) (byte : IsByteStep (step End) target) where
    abbrev made : NotedDecl
    made = declaration.e p g st h step next f d is

    abbrev b : State
    b = declaration.b p g st h step next f d is

    abbrev zero : Valuation
    zero = zeros s b.frame.locals f.here.next (known p g st h step next f).fresh

    abbrev from : Numbered
    from = record { value = 0; fresh = f.here.next }

    abbrev Begins : Type 0
    Begins = (target ≡ Variable (declaration.k p g st h step next f d is) (width_of (declaration.l p g st h step next f d is).ctype))
        × ((n : ℕ) → n < 2 ^ 32 → IsStart s (store_of (shapes_elaborated p.layout) b) zero f.here.at (declaration.l p g st h step next f d is).ctype made.init f.here.next n)

    started_byte : (i : NotedInit) → made.init ≡ i
        → IsByteStep (started s.text s.variables (declaration.spot_there p g st h step next f d is) (declaration.to p g st h step next f d is) (declaration.literals p g st h step next f d is) i End) target
    started_byte i same =
        subst (λ (j : NotedInit). IsByteStep (started s.text s.variables (declaration.spot_there p g st h step next f d is) (declaration.to p g st h step next f d is)
        (declaration.literals p g st h step next f d is) j End) target) same
        (subst (λ (x : Code). IsByteStep x target) (sym (declaration.code_there p g st h step next f d is)) byte)

    one_begins : (x y : NotedExpr) → made.init ≡ init.One y → (view s.frame x).judged f.here.next f.here.at ≡ Ok y → IsTyped (globals_in p) s x → Begins
    one_begins x y one judged typed =
        let call : IsByteCall s (declaration.spot_there p g st h step next f d is) (declaration.to p g st h step next f d is) (declaration.literals p g st h step next f d is) target y =
        byte_call s (declaration.spot_there p g st h step next f d is) (declaration.to p g st h step next f d is) (declaration.literals p g st h step next f d is) target y (started_byte (init.One y) one) in
        let good = judged_typed (globals_in p) s x y f.here.next f.here.at typed judged in
        let room = subst (HasRoomInit s.frame f.here.at f.here.next) one (declaration.room p g st h step next f d is) in (
          call.target_is ∙ declaration.target_named p g st h step next f d is,
          λ n small. subst (λ (i : NotedInit). IsStart s (store_of (shapes_elaborated p.layout) b) zero f.here.at (declaration.l p g st h step next f d is).ctype i f.here.next n) (sym one)
              (call_received s (store_of (shapes_elaborated p.layout) b) zero f.here.at (declaration.l p g st h step next f d is).ctype y from n call.callee call.args call.is small
              (own_bare p s y call.callee call.args good.0 call.is call.own)
              (λ z. zeros_numbers s b.frame.locals f.here.next (known p g st h step next f).fresh f.here.next ((view s.frame y).fresh f.here.at) (omega arith) room.variables)),
        )

    begins : Begins
    begins =
        by d.init refl (declaration.is_made p g st h step next f d is).parts.begins
        (subst (IsTypedAct (globals_in p) s) is (typed_act p g st h step next f)).0
      where
        by : (i : NotedInit) → d.init ≡ i → declaration.InitJudged s f.here f.judged.counting i made.init → IsTypedInit (globals_in p) s i → Begins
        by init.Nothing same j typed = absurd (started_byte init.Nothing j)
        by (init.One x) same j typed = one_begins x j.0 j.1 j.2 typed
        by (init.Many xs) same j typed = absurd typed

    starts : (n : ℕ) → n < 2 ^ 32 → declaration.Starts p g st h step next f d is (record { number = n; state = b })
    starts n small = record { grown = same_state b; at = is_at p g st h step next f; valuation = zero; values = zeros_are s b.frame.locals f.here.next (known p g st h step next f).fresh; start = begins.1 n small }

    declared_lands : (m : Mode) → Lands m p b (aimed (store_of (shapes_elaborated p.layout) b) target)
    declared_lands m =
        subst (λ (t : Target). Lands m p b (aimed (store_of (shapes_elaborated p.layout) b) t)) (sym begins.0)
        (λ n small. declaration.put_sound p g st h step next f d is (record { number = n; state = b }) (starts n small))

  -- wherever it goes
  pub byte_lands : (m : Mode) (end : Spot) → (spot_in end (step End)).mode ≡ m → StoresSafely m (step End) → (target : Target) → IsByteStep (step End) target
      → Lands m p (at_work st next) (aimed (store_of (shapes_elaborated p.layout) (at_work st next)) target)
  byte_lands m end mode safe target byte = by (kind s f.here f.exits.ends step f.judged)
    where
      by : Kind s f.here f.exits.ends step f.judged → Lands m p (at_work st next) (aimed (store_of (shapes_elaborated p.layout) (at_work st next)) target)
      by (Kind.Assigns e x layer) = assign_lands p g st h step next f m end mode safe e x layer target byte
      by (Kind.Declares d layer) = declared_lands d layer target byte m
      by (Kind.Calls c) = call_lands p st h step next f c m target byte
      by (Kind.Bundles ss layer other) = absurd (no_bundle (step End) target byte other)
      by (Kind.Others other) = absurd (no_ending (step End) target byte other)

-- ---- `getchar`

-- a sound state with less input
abbrev pub reads_on : (p : Typed) (st : State) (input : List ℕ) → Sound p st → AreBytes input → Sound p (record st { input = input })
reads_on p st input h bytes = record {
  orderly = record { apart = h.orderly.apart; bytes = h.orderly.bytes; few = h.orderly.few };
  memory = h.memory;
  filled = h.filled;
  input = bytes;
  setting = h.setting;
  stands = h.stands;
  waiting = h.waiting;
}

pub every_get : (p : Typed) (st : State) (h : Sound p st) (sp : Spot) (target : Target) (rest : Code) (next : List Work) → IsGranted p
    → settled st.frame.work ≡ Rest (Get sp target rest) ∷ next → (m : Mode) → (spot_of st).mode ≡ m → StoresSafely m (Get sp target rest) → MovesSoundly m p (source_step (elaborated p) st)
every_get p st h sp target rest next g is m mode safe = moves_by m p st (Rest (Get sp target rest) ∷ next) is (by st.input h.input)
  where
    f : Faces h.setting (store_in p st.blocks st.frame) st.frame.entry (Get sp target) (Rest rest ∷ next)
    f = faces_get h.setting (store_in p st.blocks st.frame) st.frame.entry st.frame.work next (stands_ready p st h) sp target rest is

    at_mode : sp.mode ≡ m
    at_mode = subst (λ w. (spot_at st.frame.function.end w).mode ≡ m) is mode

    safe_there : StoresSafely m (Get sp target End)
    safe_there = safe_as m (Get sp target rest) (Get sp target End) refl safe

    by : (input : List ℕ) → AreBytes input
        → MovesSoundly m p (and_moves (aimed (store_of (shapes_elaborated p.layout) st) target) (λ to. gets (at_work st (Rest rest ∷ next)) to input))
    by [] bytes = landed m p (at_work st (Rest rest ∷ next)) _ (2 ^ 32 - 1) (omega arith) _ (byte_lands p g st h (Get sp target) (Rest rest ∷ next) f m sp at_mode safe_there target refl)
    by (x ∷ others) bytes =
        landed m p (at_work (record st { input = others }) (Rest rest ∷ next)) _ x (small x bytes.0) _
        (byte_lands p g (record st { input = others }) (reads_on p st others h bytes.1) (Get sp target) (Rest rest ∷ next) f m sp at_mode safe_there target refl)
      where
        small : (n : ℕ) → n < 256 → n < 2 ^ 32
        small n h = omega arith
