-- What judged assignments become.
use Rattle.std.proofs.Common.{◌≡◌, refl, sym, ap, subst, ◌∙◌, ℕ, ◌+◌, List, [], ◌∷◌}
use Rattle.ckc_base.specs.declared.arithmetic.Mode.{Mode}
use Rattle.ckc_base.specs.declared.places.Pos.{Pos}
use Rattle.ckc_syntax.specs.declared.tree.Name.{Name}
use Rattle.ckc_syntax.specs.declared.tree.Name.TheVariants as name
use Rattle.ckc_syntax.specs.declared.tree.Node.{Node-F, out-Node}
use Rattle.ckc_syntax.specs.declared.tree.Act.{Act-F, out-Act}
use Rattle.ckc_types.specs.declared.types.CType.{CType}
use Rattle.ckc_typed.specs.declared.typed.Note.{Note}
use Rattle.ckc_typed.specs.Statics.{strings_of_stmt}
use Rattle.ckc_typed.specs.Trees.{NotedExpr, NotedLayer, NotedStmt}
use Rattle.ckc_source.specs.declared.stmt.Spot.{Spot}
use Rattle.ckc_source.specs.Code.{Target, Right, End, Assign}
use Rattle.ckc_source.specs.Eval.{Store}
use Rattle.ckc_build_values.specs.Expressions.{literals_of}
use Rattle.ckc_build_elaborate.specs.Steps.{Destination, spot, destination_of, right_of, called, assigned, assigned_form}
use Rattle.ckc_build_elaborate.specs.Statements.{act_code, stmt_elaborated}
use Rattle.ckc_blame_sound.specs.Settings.{Setting, AreStrings}
use Rattle.ckc_blame_sound.proofs.Stepping.{parted, code_is, first_step}
use Rattle.ckc_blame_steps.specs.Granted.{IsCoveredCall, IsCoveredValue, IsCoveredRight}
use Rattle.ckc_blame_steps.specs.Plans.{BecomesSides}
use Rattle.ckc_blame_steps.proofs.Strings.{sides_strings}

module _ (s : Setting) where
  -- an assignment whose right side is no call of what may be called
  pub record IsPlain (sp at : Spot) (to : Destination) (literals : ℕ) (f : NotedExpr) (target : Target) (right : Right) : Type 0 where
    pub target_is : target ≡ to.target
    pub right_is : right ≡ right_of s.text s.variables literals to.terminated f
    pub spot_is : sp ≡ at
    pub covered : (m : Mode) (store : Store) (seen : List ℕ) (t : CType) → IsCoveredRight m s store seen t f (out-Node Name Note f.node) → IsCoveredValue m s store seen t f (out-Node Name Note f.node)

  -- a call of anything else is not covered
  pub call_none : (n : Name) (es : List NotedExpr) (sp at : Spot) (to : Destination) (literals : ℕ) (pos : Pos) (target : Target) (right : Right)
      → called s.text s.variables at to literals n es pos End ≡ Assign sp target right End → (m : Mode) (store : Store) (seen : List ℕ) → IsCoveredCall m s store seen n es → ⊥
  call_none (name.Function k) es sp at to literals pos target right h m store seen c = absurd (cc)
  call_none name.Getchar es sp at to literals pos target right h m store seen c = absurd (cc)
  call_none name.Putchar es sp at to literals pos target right h m store seen c = absurd (cc)
  call_none n es sp at to literals pos target right h m store seen c = c

  module _ (sp at : Spot) (to : Destination) (literals : ℕ) (f : NotedExpr) (target : Target) (right : Right) (m : Mode) (store : Store) (seen : List ℕ) (kept : CType) where
    pub plain : assigned s.text s.variables at to literals f End ≡ Assign sp target right End → IsCoveredRight m s store seen kept f (out-Node Name Note f.node) → IsPlain sp at to literals f target right
    plain h c = by (out-Node Name Note f.node) refl h c
      where
        by : (x : NotedLayer) → out-Node Name Note f.node ≡ x → assigned_form s.text s.variables at to literals f x End ≡ Assign sp target right End → IsCoveredRight m s store seen kept f x
            → IsPlain sp at to literals f target right
        by (Node-F.Call n es) is h c = absurd (call_none n es sp at to literals f.pos target right h m store seen c)
        by x is h c = record {
          target_is = cc;
          right_is = cc;
          spot_is = cc;
          covered = λ n st ns t d. subst (IsCoveredValue n s st ns t f) (sym is) (subst (IsCoveredRight n s st ns t f) is d);
        }

  -- what a judged assignment becomes
  pub record IsPlainStep (sp : Spot) (after : NotedStmt) (target : Target) (right : Right) (e f : NotedExpr) : Type 0 where
    pub sides : BecomesSides s e f (target, right)
    pub covered : (m : Mode) (store : Store) (seen : List ℕ) (t : CType) → IsCoveredRight m s store seen t f (out-Node Name Note f.node) → IsCoveredValue m s store seen t f (out-Node Name Note f.node)

  pub assign_plain : (literals : ℕ) (after : NotedStmt) (sp : Spot) (target : Target) (right : Right) → stmt_elaborated s.text s.variables s.result literals after ≡ Assign sp target right ∷ []
      → AreStrings s literals (strings_of_stmt after) → (e f : NotedExpr) → out-Act Name Note after.body ≡ Act-F.Assign e f → (m : Mode) (store : Store) (seen : List ℕ) (kept : CType) → IsCoveredRight m s store seen kept f (out-Node Name Note f.node) → IsPlainStep sp after target right e f
  assign_plain literals after sp target right becomes strings e f is m store seen kept c =
      let code : act_code (parted (Act-F.Assign e f)) after.pos after.note.mode s.text s.variables s.result literals ≡ Assign sp target right ∷ [] =
      ap (λ x. act_code (parted x) after.pos after.note.mode s.text s.variables s.result literals) (sym is) ∙ sym (code_is s literals after) ∙ becomes in
      let p = plain sp (spot after.pos after.note.mode) (destination_of s.text s.variables literals e) (literals + literals_of e) f target right m store seen kept
      (first_step (assigned s.text s.variables (spot after.pos after.note.mode) (destination_of s.text s.variables literals e) (literals + literals_of e) f) (Assign sp target right) code) c in
      record {
        sides = record {
          first = literals;
          second = literals + literals_of e;
          target = p.target_is;
          right = p.right_is;
          target_strings = (sides_strings s literals after strings e f is).0;
          right_strings = (sides_strings s literals after strings e f is).1;
        };
        covered = p.covered;
      }
