-- Each step that puts a byte keeps states sound.
use Rattle.std.proofs.Common.{◌≡◌, refl, sym, subst, ℕ, ◌+◌, true, List, ◌∷◌, arith}
use Rattle.std.specs.Prelude.{◌%◌, ◌<◌, ◌≤◌, ◌^◌, length, Result, Ok, Err}
use Rattle.ckc_base.specs.declared.arithmetic.Mode.{Mode}
use Rattle.ckc_syntax.specs.declared.tree.Init.TheVariants as init
use Rattle.ckc_syntax.specs.declared.tree.Name.{Name}
use Rattle.ckc_syntax.specs.declared.tree.Name.TheVariants as name
use Rattle.ckc_syntax.specs.declared.tree.Node.{Node-F, out-Node}
use Rattle.ckc_syntax.specs.declared.tree.Act.{Act-F, out-Act}
use Rattle.ckc_types.specs.declared.types.CType.{CType}
use Rattle.ckc_typed.specs.Types.{type_written}
use Rattle.ckc_typed.specs.declared.typed.Note.{Note}
use Rattle.ckc_typed.specs.declared.typed.Typed.{Typed}
use Rattle.ckc_typed.specs.Statics.{strings_of_expr}
use Rattle.ckc_typed.specs.Trees.{NotedDecl, NotedExpr, NotedInit}
use Rattle.ckc_blame_sound.specs.ckc_bounds_views.specs.Parts.{fresh_behind, capped}
use Rattle.ckc_blame_sound.specs.ckc_bounds_views.specs.Views.{view}
use Rattle.ckc_source.specs.declared.outcome.Halt.{Halt}
use Rattle.ckc_source.specs.declared.outcome.Halt.TheVariants as halt
use Rattle.ckc_source.specs.declared.outcome.Place.{Place}
use Rattle.ckc_source.specs.declared.outcome.Value.{Value as Given}
use Rattle.ckc_source.specs.declared.stmt.Spot.{Spot}
use Rattle.ckc_source.specs.Code.{Target, Code, End, Expr, Put}
use Rattle.ckc_source.specs.Eval.{Store, evaluated}
use Rattle.ckc_source.specs.States.{Work, Rest, State, settled}
use Rattle.ckc_source.specs.Steps.{store_of, and_moves, at_work, puts, source_step, spot_in, spot_at, spot_of}
use Rattle.ckc_build_values.specs.Expressions.{literals_of}
use Rattle.ckc_build_elaborate.specs.Elaborated.{elaborated}
use Rattle.ckc_build_elaborate.specs.Shapes.{shapes_elaborated}
use Rattle.ckc_build_elaborate.specs.Steps.{Destination, spot, nowhere, destination_of, assigned, started}
use Rattle.ckc_blame_sound.specs.Bodies.{AreFresh}
use Rattle.ckc_blame_sound.specs.Calls.{store_in}
use Rattle.ckc_blame_sound.specs.Settings.{Setting, AreStrings, IsFunction}
use Rattle.ckc_blame_sound.specs.Sound.{Sound}
use Rattle.ckc_blame_sound.specs.Typed.{IsTyped, IsTypedInit, IsTypedAct}
use Rattle.ckc_blame_sound.specs.JudgedTexts.{globals_in}
use Rattle.ckc_blame_sound.proofs.Frames.{frames_agree}
use Rattle.ckc_blame_control.specs.Ready.{Faces}
use Rattle.ckc_blame_control.proofs.Faced.{faces_put}
use Rattle.ckc_blame_control.proofs.Moved.{stands_ready}
use Rattle.ckc_blame_given.specs.ckc_blame_pointers.specs.Owed.{Comes}
use Rattle.ckc_blame_steps.specs.Granted.{IsGranted, IsCoveredFirst, IsCoveredRight, IsCoveredAlone, IsCoveredInit, IsCoveredAct, HasRoomInit, HasRoomAct}
use Rattle.ckc_blame_steps.specs.Unchecked.{StoresSafely, MovesSoundly}
use Rattle.ckc_blame_steps.proofs.Argument.{IsPut, put_evaluates}
use Rattle.ckc_blame_steps.proofs.ByteAssignments as assignment
use Rattle.ckc_blame_steps.proofs.ByteSteps.{byte_lands}
use Rattle.ckc_blame_steps.proofs.Comes.{stops_soundly, safe_as}
use Rattle.ckc_blame_steps.proofs.Declarations as declaration
use Rattle.ckc_blame_steps.proofs.Landings.{Lands, landed}
use Rattle.ckc_blame_steps.proofs.Origins.{Kind, IsCallAlone, is_bundled, is_ending, kind}
use Rattle.ckc_blame_steps.proofs.Strings.{strings_there, sides_strings}
use Rattle.ckc_blame_steps.proofs.Steps.{covered_there, known, typed_act}
use Rattle.ckc_blame_steps.proofs.Stores.{planning, is_at}
use Rattle.ckc_blame_steps.proofs.SoundMoves.{moves_by}

no_put_bundle : (c : Code) (e : Expr) → IsPut c e → is_bundled c ≡ true → ⊥
no_put_bundle (Put sp t e rest) x h is = absurd (cc)
no_put_bundle c x h is = h

no_put_ending : (c : Code) (e : Expr) → IsPut c e → is_ending c ≡ true → ⊥
no_put_ending (Put sp t e rest) x h is = absurd (cc)
no_put_ending c x h is = h

byte_small : (n : ℕ) → n % 256 < 2 ^ 32
byte_small n = omega arith

put_moves : (m : Mode) (p : Typed) (b : State) (r : Result Place Halt) (q : Result Given Halt) → Lands m p b r → Comes m (λ v. Unit {0}) q
    → MovesSoundly m p (and_moves r (λ to. and_moves q (λ v. puts b to v.number)))
put_moves m p b r (Ok v) lands c = landed m p b _ (v.number % 256) (byte_small v.number) r lands
put_moves m p b (Ok to) (Err (halt.Stopped why at)) lands c = stops_soundly m why at
put_moves m p b (Ok to) (Err halt.Stuck) lands c = λ e. c
put_moves m p b (Err (halt.Stopped why at)) (Err q) lands c = stops_soundly m why at
put_moves m p b (Err halt.Stuck) (Err q) lands c = λ e. lands

module _ (p : Typed) (g : IsGranted p) (st : State) (h : Sound p st) (step : Code → Code) (next : List Work) (f : Faces h.setting (store_in p st.blocks st.frame) st.frame.entry step next)
    (m : Mode) (end : Spot) (mode : (spot_in end (step End)).mode ≡ m) (safe : StoresSafely m (step End)) (e : Expr) (put : IsPut (step End) e) where
  abbrev s : Setting
  s = h.setting

  abbrev function : IsFunction p s st.frame.function
  function = h.stands.function

  abbrev store : Store
  store = store_of (shapes_elaborated p.layout) (planning p g st h step next f)

  abbrev Evaluates : Type 0
  Evaluates = Comes m (λ v. Unit {0}) (evaluated store e)

  any_value : (fresh : ℕ) → AreFresh s.frame fresh → (sp : Spot) (to : Destination) (k : ℕ) (before x : NotedExpr) → IsTyped (globals_in p) s before → (view s.frame before).judged fresh f.here.at ≡ Ok x
      → fresh + length ((view s.frame x).fresh f.here.at) < 2 ^ 32 → ((es : List NotedExpr) → out-Node Name Note x.node ≡ Node-F.Call name.Putchar es → IsCoveredFirst m s store f.here.seen es)
      → AreStrings s k (strings_of_expr x) → assigned s.text s.variables sp to k x End ≡ step End → Evaluates
  any_value fresh are sp to k before x typed judged room covered strings code =
      put_evaluates m (globals_in p) s (frames_agree p s st.frame.function g.judged function) (g.declares s st.frame.function function) store st.frame.entry (planning p g st h step next f).next
      (is_at p g st h step next f).ready f.here f.holds fresh are sp to k e before x typed judged room covered strings (subst (λ (c : Code). IsPut c e) (sym code) put)

  covered : IsCoveredAct m s store f.here.seen (out-Act Name Note f.judged.after.body)
  covered = covered_there p g st h step next f m end mode safe (planning p g st h step next f) (is_at p g st h step next f)

  room : HasRoomAct s.frame f.here.at f.here.next (out-Act Name Note f.judged.after.body)
  room = g.room s st.frame.function f.here f.exits.ends step function f.judged

  of_right : (t : CType) (x : NotedExpr) → IsCoveredRight m s store f.here.seen t x (out-Node Name Note x.node) → (es : List NotedExpr) → out-Node Name Note x.node ≡ Node-F.Call name.Putchar es
      → IsCoveredFirst m s store f.here.seen es
  of_right t x c es out = subst (IsCoveredRight m s store f.here.seen t x) out c

  call_evaluates : IsCallAlone s f.here f.exits.ends step f.judged → Evaluates
  call_evaluates c =
      any_value f.here.next (known p g st h step next f).fresh (spot c.made.pos f.judged.after.note.mode) nowhere f.judged.literals c.call c.made
      (subst (IsTypedAct (globals_in p) s) c.is (typed_act p g st h step next f)) (declaration.value_made s f.here f.judged.counting c.call c.made f.judged.behind c.judged)
      (subst (HasRoomAct s.frame f.here.at f.here.next) c.becomes room).variables
      (λ es out. subst (IsCoveredAlone m s store f.here.seen) out (subst (IsCoveredAct m s store f.here.seen) c.becomes covered))
      (strings_there s f.judged.literals f.judged.after f.judged.strings (Act-F.Call c.made) c.becomes) c.goes

  assign_evaluates : (a x : NotedExpr) → out-Act Name Note f.judged.before.body ≡ Act-F.Assign a x → Evaluates
  assign_evaluates a x is =
      let one = assignment.one p g st h step next f m end mode safe a x is in
      any_value (fresh_behind (view s.frame one.target) f.here.next f.here.at)
      (λ k l low there. (known p g st h step next f).fresh k l (further f.here.next (length ((view s.frame one.target).fresh f.here.at)) k (known p g st h step next f).word low) there)
      (spot f.judged.after.pos f.judged.after.note.mode) (destination_of s.text s.variables f.judged.literals one.place) (f.judged.literals + literals_of one.place) one.right one.value
      (assignment.fit p g st h step next f m end mode safe a x is).1 one.right_judged
      (subst (λ n. n + length ((view s.frame one.value).fresh f.here.at) < 2 ^ 32) (assignment.fresh_is p g st h step next f m end mode safe a x is)
      (assignment.room p g st h step next f m end mode safe a x is).right.variables)
      (of_right one.place.note.ctype one.value (assignment.covered p g st h step next f m end mode safe a x is).1)
      (sides_strings s f.judged.literals f.judged.after f.judged.strings one.place one.value one.becomes).1 (assignment.code_there p g st h step next f m end mode safe a x is)
    where
      further : (m n k : ℕ) → m < 2 ^ 32 → capped m n ≤ k → m ≤ k
      further m n k a b = omega arith

  module _ (d : NotedDecl) (is : out-Act Name Note f.judged.before.body ≡ Act-F.Local d) where
    abbrev made : NotedDecl
    made = declaration.e p g st h step next f d is

    code_for : (i : NotedInit) → made.init ≡ i
        → started s.text s.variables (declaration.spot_there p g st h step next f d is) (declaration.to p g st h step next f d is) (declaration.literals p g st h step next f d is) i End ≡ step End
    code_for i same =
        subst (λ (j : NotedInit). started s.text s.variables (declaration.spot_there p g st h step next f d is) (declaration.to p g st h step next f d is)
        (declaration.literals p g st h step next f d is) j End ≡ step End) same (declaration.code_there p g st h step next f d is)

    declare_evaluates : Evaluates
    declare_evaluates =
        by d.init (declaration.is_made p g st h step next f d is).parts.begins (subst (IsTypedAct (globals_in p) s) is (typed_act p g st h step next f)).0
      where
        by : (i : NotedInit) → declaration.InitJudged s f.here f.judged.counting i made.init → IsTypedInit (globals_in p) s i → Evaluates
        by init.Nothing j typed = absurd (subst (λ (c : Code). IsPut c e) (sym (code_for init.Nothing j)) put)
        by (init.One x) j typed =
            any_value f.here.next (known p g st h step next f).fresh (declaration.spot_there p g st h step next f d is) (declaration.to p g st h step next f d is) (declaration.literals p g st h step next f d is) x
            j.0 typed j.2 (subst (HasRoomInit s.frame f.here.at f.here.next) j.1 (declaration.room p g st h step next f d is)).variables
            (of_right (type_written made.ctype) j.0 (subst (IsCoveredInit m s store f.here.seen (type_written made.ctype)) j.1 (subst (IsCoveredAct m s store f.here.seen) (declaration.is_made p g st h step next f d is).becomes covered)))
            (declaration.strings_from p g st h step next f d is j.0 j.1) (code_for (init.One j.0) j.1)
        by (init.Many xs) j typed = absurd typed

  pub evaluates : Kind s f.here f.exits.ends step f.judged → Evaluates
  evaluates (Kind.Assigns a x layer) = assign_evaluates a x layer
  evaluates (Kind.Declares d layer) = declare_evaluates d layer
  evaluates (Kind.Calls c) = call_evaluates c
  evaluates (Kind.Bundles ss layer other) = absurd (no_put_bundle (step End) e put other)
  evaluates (Kind.Others other) = absurd (no_put_ending (step End) e put other)

pub every_put : (p : Typed) (st : State) (h : Sound p st) (sp : Spot) (target : Target) (e : Expr) (rest : Code) (next : List Work) → IsGranted p
    → settled st.frame.work ≡ Rest (Put sp target e rest) ∷ next → (m : Mode) → (spot_of st).mode ≡ m → StoresSafely m (Put sp target e rest) → MovesSoundly m p (source_step (elaborated p) st)
every_put p st h sp target e rest next g is m mode safe =
    moves_by m p st (Rest (Put sp target e rest) ∷ next) is
    (put_moves m p (at_work st (Rest rest ∷ next)) _ _ (byte_lands p g st h (Put sp target e) (Rest rest ∷ next) f m sp at_mode safe_there target refl)
    (evaluates p g st h (Put sp target e) (Rest rest ∷ next) f m sp at_mode safe_there e refl (kind h.setting f.here f.exits.ends (Put sp target e) f.judged)))
  where
    f : Faces h.setting (store_in p st.blocks st.frame) st.frame.entry (Put sp target e) (Rest rest ∷ next)
    f = faces_put h.setting (store_in p st.blocks st.frame) st.frame.entry st.frame.work next (stands_ready p st h) sp target e rest is

    at_mode : sp.mode ≡ m
    at_mode = subst (λ w. (spot_at st.frame.function.end w).mode ≡ m) is mode

    safe_there : StoresSafely m (Put sp target e End)
    safe_there = safe_as m (Put sp target e rest) (Put sp target e End) refl safe
