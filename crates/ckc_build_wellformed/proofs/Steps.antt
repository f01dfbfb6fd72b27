-- What assignments, calls and declarations of a judged text become is well formed.
use Rattle.std.proofs.Common.{◌≡◌, ◌⊎◌, ◌∙◌, inl, inr, refl, rules, sym, ap, subst, ℕ, suc, ◌+◌, Bool, true, false, List, [], ◌∷◌, length, map}
use Rattle.std.specs.Prelude.{◌||◌, Option, Some, None, slice_get}
use Rattle.ckc_base.specs.declared.arithmetic.Mode.{Mode}
use Rattle.ckc_base.specs.declared.arithmetic.Mode.TheVariants.{Checked}
use Rattle.ckc_base.specs.declared.places.Pos.{Pos}
use Rattle.ckc_types.specs.declared.types.CType.{CType}
use Rattle.ckc_syntax.specs.declared.tree.Name.{Name}
use Rattle.ckc_syntax.specs.declared.tree.Name.TheVariants as name
use Rattle.ckc_syntax.specs.declared.tree.Init.TheVariants as init
use Rattle.ckc_syntax.specs.declared.tree.TreeOp.TheVariants as op
use Rattle.ckc_syntax.specs.Inside.{inside_each, listed}
use Rattle.ckc_syntax.specs.declared.tree.Node.{Node-F, out-Node, roll-Node, the_lemmas}
use Rattle.ckc_syntax.specs.declared.tree.Expr.{every_here-Expr, fold-roll-Expr}
use Rattle.ckc_typed.specs.declared.environment.Globals.{Globals}
use Rattle.ckc_typed.specs.declared.environment.Parameter.{Parameter}
use Rattle.ckc_typed.specs.declared.environment.Signature.{Signature}
use Rattle.ckc_typed.specs.declared.environment.Variable.{Variable}
use Rattle.ckc_typed.specs.declared.typed.Note.{Note}
use Rattle.ckc_typed.specs.declared.typed.Typed.{Typed}
use Rattle.ckc_typed.specs.Environment.{signature_named}
use Rattle.ckc_typed.specs.Expressions.{is_object_form, is_placed, is_placed_form}
use Rattle.ckc_typed.specs.Statements.{is_named, is_variable_form}
use Rattle.ckc_typed.specs.Statics.{Strings, strings_of_expr, strings_of_init, strings_of_value}
use Rattle.ckc_typed.specs.Trees.{NotedDecl, NotedInit, NotedExpr, NotedLayer, NotedLimits, NotedNode}
use Rattle.ckc_typed.specs.Types.{type_written, is_scalar}
use Rattle.ckc_typed_welltyped.specs.Expressions.{AnyLimits, AnyNode, HasType, AreArguments}
use Rattle.ckc_source.specs.declared.stmt.Spot.{Spot}
use Rattle.ckc_source.specs.Code.{Expr, Code, Program}
use Rattle.ckc_build_values.specs.Expressions.{Part, NodePart, LimitsPart, limits_parts, node_parts, expr_parts, expr_elaborated, place_elaborated, literals_of}
use Rattle.ckc_build_values.specs.Kinds.{width_of}
use Rattle.ckc_build_values.specs.Names.{address_of}
use Rattle.ckc_build_elaborate.specs.Names.{number_of, params_of}
use Rattle.ckc_build_elaborate.specs.Steps.{Destination, nowhere, memory, target_form, target_of, kept_form, destination_of, destination_for, right_form, right_of, argument, arguments, first_of, called, assigned_form, assigned, started, returned, condition}
use Rattle.ckc_build_forms.specs.ckc_blame_steps.specs.ckc_bounds_points.specs.Flow.{State}
use Rattle.ckc_build_forms.specs.ckc_blame_steps.specs.ckc_blame_sound.specs.Settings.{AreStrings, Setting}
use Rattle.ckc_build_forms.specs.ckc_blame_steps.specs.ckc_blame_sound.proofs.Every.{EachExpr}
use Rattle.ckc_source_causes.specs.Layouts.{Layout}
use Rattle.ckc_source_causes.specs.WellFormed.{HasParams, IsWellFormedCell, IsWellFormedExpr, LiesInObject, AreWellFormed, IsWellFormedTarget, IsWellFormedRight, IsWellFormedKept, IsWellFormedCode}
use Rattle.ckc_blame_pointers.proofs.Strings.{expr_strings_are, first_strings, later_strings, node_strings_are, strings_in_node, strings_of_node}
use Rattle.ckc_build_wellformed.proofs.Layouts.{layout_of}
use Rattle.ckc_build_wellformed.proofs.Parts.{different, unlike, converted_formed, cell_formed}
use Rattle.ckc_build_wellformed.proofs.Nodes.{is_there, is_there_form, name_in, call_in}
use Rattle.ckc_build_wellformed.proofs.Known.{Knows, IsSingle}
use Rattle.ckc_build_wellformed.proofs.Scalars.{IsValued}
use Rattle.ckc_build_wellformed.proofs.Claims.{IsPart, Made, AllFormed, PartsFormed}

-- ---- nodes by their names

abbrev is_local_form : NotedLayer → Bool
is_local_form (Node-F.Name (name.Local j)) = true
is_local_form x = false

no_local : (x : NotedLayer) (j : ℕ) → is_local_form x ≡ false → name_in x ≡ Some (name.Local j) → ⊥
no_local (Node-F.Name (name.Local i)) j h e = unlike h
no_local x j h e = cc

some_same : {A : Type 0} {x y : A} → ◌≡◌ {A = Option A} (Some x) (Some y) → x ≡ y
some_same e = cc

named_is : (x : NotedLayer) (n : Name) → name_in x ≡ Some n → x ≡ Node-F.Name n
named_is (Node-F.Name m) n e = let same : m ≡ n = cc in ap Node-F.Name same
named_is x n e = absurd cc

node_whole : (n : NotedNode) → roll-Node Name Note (out-Node Name Note n) ≡ n
node_whole n = search (rules, the_lemmas)

-- ---- the callees of a text

-- each function that has a signature has as many parameters in the program
abbrev pub HaveParams : Globals → Setting → Program → Type 0
HaveParams globals s g =
    (k : ℕ) (t : Signature) → signature_named globals (name.Function k) ≡ Some t
    → HasParams (length t.params) (slice_get g.functions (number_of (name.Function k) s.text.tree.items))

module _ (globals : Globals) (s : Setting) (g : Program) (knows : Knows globals s g) (callees : HaveParams globals s g) where
  abbrev p : Typed
  p = s.text

  abbrev vs : List Variable
  vs = s.variables

  abbrev L : Layout
  L = layout_of s.text.layout

  abbrev F : Expr → Type 0
  F = IsWellFormedExpr g L

  -- the static objects from a number on are those of string literals
  abbrev S : ℕ → Strings → Type 0
  S k ss = AreStrings s k ss

  -- the string literals of arguments
  abbrev pub strings_of_all : List NotedExpr → Strings
  strings_of_all es = inside_each listed (λ (x : Strings). x) (map strings_of_expr es)

  abbrev Each : Mode → NotedExpr → Type 0
  Each mode = EachExpr (IsPart globals s g mode knows)

  -- an expression that was judged, with what it was before
  pub record Fine (f : NotedExpr) : Type 0 where
    pub mode : Mode
    pub before : NotedExpr
    pub at : State
    pub part : EachExpr (IsPart globals s g mode knows) before
    pub made : Made globals s g mode knows before at f
    pub valued : IsValued before

  -- one that is assigned to
  pub record Left (f : NotedExpr) : Type 0 where
    pub fine : Fine f
    pub scalar : is_scalar fine.before.note.ctype ≡ true
    pub target : (is_named globals vs fine.before ≡ true) ⊎ (is_placed fine.before ≡ true)

  pub value_formed : (f : NotedExpr) → Fine f → (k : ℕ) → S k (strings_of_expr f) → F (expr_elaborated p vs k f)
  value_formed f h k str = (h.made.value k str).formed h.valued

  -- the string literals of an expression are those of its node
  strings_out : (f : NotedExpr) (k : ℕ) → S k (strings_of_expr f) → S k (strings_in_node (out-Node Name Note f.node))
  strings_out f k str =
      subst (S k)
      (expr_strings_are (record { node = f.node; pos = f.pos; note = f.note }) ∙ ap strings_of_node (sym (node_whole f.node)) ∙ node_strings_are (out-Node Name Note f.node)) str

  row_of : (f : NotedExpr) (h : Fine f) → HasType globals vs h.mode (out-Node Name Note h.before.node) h.before.note.ctype
  row_of f h = (every_here-Expr Name Note AnyLimits AnyNode (IsPart globals s g h.mode knows) h.before h.part).row

  -- ---- targets

  target_there : (f : NotedExpr) (h : Left f) → ((j : ℕ) → name_in (out-Node Name Note h.fine.before.node) ≡ Some (name.Local j) → ⊥) → is_there h.fine.before ≡ true
  target_there f h apart = by (out-Node Name Note h.fine.before.node) apart h.target
    where
      either : (a b : Bool) → (a || b) ≡ true → (a ≡ true) ⊎ (b ≡ true)
      either true b e = inl refl
      either false b e = inr e

      clash : (n : Name) (k : ℕ) → n ≡ name.Static k → is_there_form {A = Note} {L = NotedLimits} {M = NotedNode} {E = NotedExpr} (Node-F.Name n) ≡ true
      clash n k e = ap (λ m. is_there_form {A = Note} {L = NotedLimits} {M = NotedNode} {E = NotedExpr} (Node-F.Name m)) e

      by : (x : NotedLayer) → ((j : ℕ) → name_in x ≡ Some (name.Local j) → ⊥) → ((is_variable_form vs x || is_object_form globals x) ≡ true) ⊎ (is_placed_form x ≡ true) → is_there_form x ≡ true
      by (Node-F.Name n) a (inl e) = elim (knows.targets n e) [
        | inl l ↦ absurd (a l.0 (ap Some l.1))
        | inr l ↦ clash n l.0 l.1
      ]
      by (Node-F.Name n) a (inr e) = different e
      by (Node-F.Un op.Deref e) a t = refl
      by (Node-F.Un o e) a (inl t) = different t
      by (Node-F.Un o e) a (inr t) = different t
      by (Node-F.Index e f) a t = refl
      by (Node-F.Dot e n at) a t = refl
      by (Node-F.Arrow e n at) a t = refl
      by x a (inl t) = different t
      by x a (inr t) = different t

  type_is : (f : NotedExpr) (h : Fine f) → f.note.ctype ≡ h.before.note.ctype
  type_is f h =
      sym (ap (λ (q : Part). q.ctype) (fold-roll-Expr Name Note LimitsPart NodePart Part limits_parts node_parts expr_parts (record { node = f.node; pos = f.pos; note = f.note }))) ∙ h.made.type

  -- a target that is named is no array
  target_single : (f : NotedExpr) (h : Left f) → IsSingle p (out-Node Name Note h.fine.before.node)
  target_single f h = by (out-Node Name Note h.fine.before.node) (row_of f h.fine) h.target
    where
      by : (x : NotedLayer) → HasType globals vs h.fine.mode x h.fine.before.note.ctype → ((is_variable_form vs x || is_object_form globals x) ≡ true) ⊎ (is_placed_form x ≡ true)
          → IsSingle p x
      by (Node-F.Name (name.Static j)) row (inl e) = knows.singles j h.fine.before.note.ctype row e
      by (Node-F.Name (name.Static j)) row (inr e) = different e
      by x row t = tt

  memory_formed : (f : NotedExpr) (h : Left f) → is_local_form (out-Node Name Note f.node) ≡ false → (k : ℕ) → S k (strings_of_expr f) → IsWellFormedTarget g L (memory f.note.ctype (place_elaborated p vs k f))
  memory_formed f h apart k str =
      let q = h.fine.made.place (target_there f h (λ j e. no_local (out-Node Name Note f.node) j apart (h.fine.made.same.0 ∙ e))) (target_single f h) k str in
      let there = place_elaborated p vs k f in
      (subst (λ t. IsWellFormedCell g L (width_of t) there.access there.pointer there.index) (sym (type_is f h.fine)) (cell_formed g p.layout (h.fine.mode ≡ Checked) h.fine.before.note.ctype there q h.scalar), q.pointer, q.index)

  pub target_is : (f : NotedExpr) → Left f → (k : ℕ) → S k (strings_of_expr f) → IsWellFormedTarget g L (target_of p vs k f)
  target_is f h k str = by (out-Node Name Note f.node) refl
    where
      by : (x : NotedLayer) → out-Node Name Note f.node ≡ x → IsWellFormedTarget g L (target_form f.note.ctype (place_elaborated p vs k f) x)
      by (Node-F.Name (name.Local j)) is = tt
      by (Node-F.Name n) is = memory_formed f h (ap is_local_form is) k str
      by x is = memory_formed f h (ap is_local_form is) k str

  pub kept_is : (f : NotedExpr) → Left f → IsWellFormedKept g (kept_form p f.note.ctype (out-Node Name Note f.node))
  kept_is f h = by (out-Node Name Note f.node) refl
    where
      by : (x : NotedLayer) → out-Node Name Note f.node ≡ x → IsWellFormedKept g (kept_form p f.note.ctype x)
      by (Node-F.Name (name.Static j)) is =
          let b = h.fine.before in
          let before : out-Node Name Note b.node ≡ Node-F.Name (name.Static j) = named_is (out-Node Name Note b.node) (name.Static j) (sym h.fine.made.same.0 ∙ ap name_in is) in
          let known = knows.statics j b.note.ctype (subst (λ z. HasType globals vs h.fine.mode z b.note.ctype) before (row_of f h.fine)) in
          let single = subst (IsSingle p) before (target_single f h) in
          subst (λ t. LiesInObject g (width_of t) (address_of p j)) (sym (type_is f h.fine)) (known.room single h.scalar)
      by (Node-F.Name n) is = tt
      by x is = tt

  pub record Arrives (to : Destination) : Type 0 where
    pub target : IsWellFormedTarget g L to.target
    pub kept : IsWellFormedKept g to.kept

  pub nowhere_arrives : Arrives nowhere
  nowhere_arrives = record { target = tt; kept = tt }

  pub place_arrives : (f : NotedExpr) → Left f → (k : ℕ) → S k (strings_of_expr f) → Arrives (destination_of p vs k f)
  place_arrives f h k str = record { target = target_is f h k str; kept = kept_is f h }

  pub local_arrives : (t : CType) (n : Name) → (m : ℕ) × (n ≡ name.Local m) → Arrives (destination_for p t n)
  local_arrives t n h = subst (λ z. Arrives (destination_for p t z)) (sym h.1) (record { target = tt; kept = tt })

  -- ---- right sides

  pub right_is : (terminated : Bool) (f : NotedExpr) → Fine f → (k : ℕ) → S k (strings_of_expr f) → IsWellFormedRight g L (right_of p vs k terminated f)
  right_is terminated f h k str = by (out-Node Name Note f.node) h.made.parts (strings_out f k str)
    where
      by : (x : NotedLayer) → PartsFormed globals s g h.mode knows x → S k (strings_in_node x) → IsWellFormedRight g L (right_form p vs k terminated f x)
      by (Node-F.Calloc w n u) parts inner = (record { element = refl; size = refl; ends = λ e. different e }, parts k inner)
      by x parts inner = value_formed f h k str

  -- ---- calls

  abbrev All : Mode → List NotedExpr → Type 0
  All mode = AllFormed globals s g mode knows

  argument_formed : (d : Option NotedDecl) (e : NotedExpr) (k : ℕ) → F (expr_elaborated p vs k e) → F (argument p vs k d e)
  argument_formed (Some d) e k h = converted_formed g p.layout (type_written d.ctype) (expr_elaborated p vs k e) h
  argument_formed None e k h = h

  arguments_formed : (mode : Mode) (ds : List NotedDecl) (es : List NotedExpr) → All mode es → (k : ℕ) → S k (strings_of_all es) → AreWellFormed g L (arguments p vs k ds es)
  arguments_formed mode ds [] h k str = tt
  arguments_formed mode [] (e ∷ es) h k str = (
    argument_formed None e k (h.0 k (first_strings s e (strings_of_all es) k str)),
    arguments_formed mode [] es h.1 (k + literals_of e) (later_strings s e (strings_of_all es) k str),
  )
  arguments_formed mode (d ∷ ds) (e ∷ es) h k str = (
    argument_formed (Some d) e k (h.0 k (first_strings s e (strings_of_all es) k str)),
    arguments_formed mode ds es h.1 (k + literals_of e) (later_strings s e (strings_of_all es) k str),
  )

  arguments_many : (ds : List NotedDecl) (es : List NotedExpr) (k : ℕ) → length (arguments p vs k ds es) ≡ length es
  arguments_many ds [] k = refl
  arguments_many [] (e ∷ es) k = ap suc (arguments_many [] es (k + literals_of e))
  arguments_many (d ∷ ds) (e ∷ es) k = ap suc (arguments_many ds es (k + literals_of e))

  as_many : (mode : Mode) (ps : List Parameter) (es : List NotedExpr) → AreArguments mode ps es → length ps ≡ length es
  as_many mode [] [] h = refl
  as_many mode [] (e ∷ es) h = absurd h
  as_many mode (q ∷ ps) [] h = absurd h
  as_many mode (q ∷ ps) (e ∷ es) h = ap suc (as_many mode ps es h.1)

  first_formed : (mode : Mode) (es : List NotedExpr) → All mode es → (k : ℕ) → S k (strings_of_all es) → F (first_of p vs k es)
  first_formed mode [] h k str = tt
  first_formed mode (e ∷ es) h k str = h.0 k (first_strings s e (strings_of_all es) k str)

  -- a call has as many arguments as its function has parameters
  abbrev IsCalled : Name → List NotedExpr → Type 0
  IsCalled n es = (sig : Signature) × (signature_named globals n ≡ Some sig) × (length sig.params ≡ length es)

  call_there : (mode : Mode) (x : NotedLayer) (t : CType) (n : Name) (es : List NotedExpr) → HasType globals vs mode x t → call_in x ≡ Some (n, length es) → IsCalled n es
  call_there mode (Node-F.Call m fs) t n es row e =
      let both : ◌≡◌ {A = Name × ℕ} (m, length fs) (n, length es) = some_same e in
      let name_same : m ≡ n = ap (λ (x : Name × ℕ). x.0) both in
      let many : length fs ≡ length es = ap (λ (x : Name × ℕ). x.1) both in
      (row.0, ap (λ z. signature_named globals z) (sym name_same) ∙ row.1, as_many mode row.0.params fs row.2 ∙ many)
  call_there mode x t n es row e = absurd cc

  abbrev pub InitFine : NotedInit → Type 0
  InitFine init.Nothing = Unit {0}
  InitFine (init.One f) = Fine f
  InitFine (init.Many fs) = Unit {0}

  module _ (spot : Spot) (to : Destination) (arrives : Arrives to) (k : ℕ) (rest : Code) (behind : IsWellFormedCode g L rest) where
    called_formed : (mode : Mode) (n : Name) (es : List NotedExpr) (at : Pos) → IsCalled n es → All mode es → S k (strings_of_all es) → IsWellFormedCode g L (called p vs spot to k n es at rest)
    called_formed mode (name.Function f) es at c h str =
        let many = arguments_many (params_of (name.Function f) p.tree.items) es k in (
          arrives.kept,
          subst (λ m. HasParams m (slice_get g.functions (number_of (name.Function f) p.tree.items))) (c.2 ∙ sym many) (callees f c.0 c.1),
          arguments_formed mode (params_of (name.Function f) p.tree.items) es h k str,
          behind,
        )
    called_formed mode name.Getchar es at c h str = (arrives.target, behind)
    called_formed mode name.Putchar es at c h str = (arrives.target, first_formed mode es h k str, behind)
    called_formed mode (name.Local x) es at c h str = (arrives.target, tt, behind)
    called_formed mode (name.Static x) es at c h str = (arrives.target, tt, behind)
    called_formed mode (name.Tag x) es at c h str = (arrives.target, tt, behind)
    called_formed mode (name.Member x) es at c h str = (arrives.target, tt, behind)

    pub assigned_formed : (f : NotedExpr) → Fine f → S k (strings_of_expr f) → IsWellFormedCode g L (assigned p vs spot to k f rest)
    assigned_formed f h str = by (out-Node Name Note f.node) refl h.made.parts (strings_out f k str)
      where
        by : (x : NotedLayer) → out-Node Name Note f.node ≡ x → PartsFormed globals s g h.mode knows x → S k (strings_in_node x) → IsWellFormedCode g L (assigned_form p vs spot to k f x rest)
        by (Node-F.Call n es) is parts inner =
            called_formed h.mode n es f.pos (call_there h.mode (out-Node Name Note h.before.node) h.before.note.ctype n es (row_of f h) (sym h.made.same.1 ∙ ap call_in is)) parts inner
        by x is parts inner = (arrives.target, right_is to.terminated f h k str, behind)

    pub started_formed : (i : NotedInit) → InitFine i → S k (strings_of_init true i) → IsWellFormedCode g L (started p vs spot to k i rest)
    started_formed init.Nothing h str = (arrives.target, tt, behind)
    started_formed (init.One f) h str = assigned_formed f h str
    started_formed (init.Many fs) h str = (arrives.target, tt, behind)

  pub returned_formed : (t : CType) (o : Option NotedExpr) → ((f : NotedExpr) → o ≡ Some f → Fine f) → (k : ℕ) → S k (strings_of_value o) → F (returned p vs t k o)
  returned_formed t None h k str = tt
  returned_formed t (Some f) h k str = converted_formed g p.layout t (expr_elaborated p vs k f) (value_formed f (h f refl) k str)

  pub condition_formed : (o : Option NotedExpr) → ((f : NotedExpr) → o ≡ Some f → Fine f) → (k : ℕ) → S k (strings_of_value o) → F (condition p vs k o)
  condition_formed None h k str = tt
  condition_formed (Some f) h k str = value_formed f (h f refl) k str
