-- A program reads an interface within the bounds that a checked body knows of it.
use Rattle.std.proofs.Common.{◌≡◌, ◌∙◌, sym, ap, subst, refl, inl, inr, arith, ℕ, zero, suc, ◌+◌, ◌<◌, List, [], ◌∷◌, ◌++◌, map, length}
use Rattle.std.specs.Prelude.{◌⊎◌, ◌-◌, ◌^◌, ◌==◌, Bool, true, false, if◌then◌else◌, ℤ, Option, Some, None, find, slice_get, slice_index, Ok, Err, Result, IsOk}
use Rattle.std.specs.List.{Contains}
use Rattle.std.specs.Option.{option_map}
use Rattle.std.proofs.lemmas.Bool.{eq-eqb, eqb-true}
use Rattle.std.proofs.lemmas.List.Elements.{All-contains, Contains-append_left}
use Rattle.std.proofs.lemmas.Option.{slice_get-map, slice_get_within}
use Rattle.ckc_base.specs.declared.arithmetic.Mode.{Mode}
use Rattle.ckc_base.specs.declared.arithmetic.Mode.TheVariants.{Checked, Unchecked}
use Rattle.ckc_base.specs.declared.places.Pos.{Pos}
use Rattle.ckc_base.specs.Outcomes.{Outcome, there_or}
use Rattle.ckc_base.proofs.Gives.{given_from}
use Rattle.ckc_types.specs.declared.types.CType.{CType}
use Rattle.ckc_linear.specs.declared.forms.Base.{Base}
use Rattle.ckc_linear.specs.declared.forms.Base.TheVariants as base
use Rattle.ckc_linear.specs.declared.forms.Form.{Form}
use Rattle.ckc_syntax.specs.declared.tree.Name.{Name}
use Rattle.ckc_syntax.specs.declared.tree.Name.TheVariants as name
use Rattle.ckc_syntax.specs.declared.tree.Item.TheVariants as item
use Rattle.ckc_syntax.specs.declared.tree.Length.{Length}
use Rattle.ckc_syntax.specs.declared.tree.Limits.{Limits-F, out-Limits}
use Rattle.ckc_syntax.specs.declared.tree.Node.{out-Node}
use Rattle.ckc_typed.specs.declared.environment.Amount.{Amount}
use Rattle.ckc_typed.specs.declared.environment.Variable.{Variable}
use Rattle.ckc_typed.specs.declared.typed.Note.{Note}
use Rattle.ckc_typed.specs.declared.typed.Typed.{Typed}
use Rattle.ckc_typed.specs.Amounts.{amount}
use Rattle.ckc_typed.specs.Constants.{size_of}
use Rattle.ckc_typed.specs.Environment.{same_name, variable_declared, variable_named, params_of, variables_of, locals_of}
use Rattle.ckc_typed.specs.Interfaces.{is_interface, seen, seen_params}
use Rattle.ckc_typed.specs.Trees.{NotedDecl, NotedHead, NotedStmt, NotedLimits, NotedNode, NotedExpr}
use Rattle.ckc_typed.specs.Types.{type_written, element_of}
use Rattle.ckc_typed.proofs.Seen.{name_seen, bounds_seen}
use Rattle.ckc_blame_sound.specs.ckc_bounds_points.specs.declared.frame.Bounds.{Bounds}
use Rattle.ckc_blame_sound.specs.ckc_bounds_points.specs.declared.frame.Bounds.TheVariants as bounds
use Rattle.ckc_blame_sound.specs.ckc_bounds_points.specs.declared.frame.Frame.{Frame}
use Rattle.ckc_blame_sound.specs.ckc_bounds_points.specs.declared.frame.Local.{Local}
use Rattle.ckc_blame_sound.specs.ckc_bounds_points.specs.Codes.{bad_limits}
use Rattle.ckc_blame_sound.specs.ckc_bounds_points.specs.Forms.{base_form, sum_of_forms, elements}
use Rattle.ckc_blame_sound.specs.ckc_bounds_points.specs.Frames.{local_at}
use Rattle.ckc_blame_sound.specs.ckc_bounds_points.specs.Shown.{is_within}
use Rattle.ckc_blame_sound.specs.ckc_bounds_ranges.specs.Rows.{range_by, range_of_bounds}
use Rattle.ckc_blame_sound.specs.ckc_bounds_declared.specs.declared.limits.Holder.TheVariants as holder
use Rattle.ckc_blame_sound.specs.ckc_bounds_declared.specs.Written.{amount_with, amount_form, counted, named_base, bound_with, bound, node_pieces, known_between, bounds_written, takes_bounds, place_of_limits, bounds_taken, bounds_declared}
use Rattle.ckc_blame_sound.specs.ckc_bounds_statements.specs.DeclBounds.{decl_bounds}
use Rattle.ckc_blame_sound.specs.ckc_bounds_statements.specs.Paths.{path}
use Rattle.ckc_blame_sound.specs.ckc_bounds.specs.Declarations.{are_unknown_form, few_of, known_or_not, local_made, all_made, params_frame, head_bounds}
use Rattle.ckc_blame_sound.specs.ckc_bounds.specs.Frames.{all_of, types_frame}
use Rattle.ckc_source.specs.Code.{Function}
use Rattle.ckc_source.specs.Eval.{Store, given, amount as counts, base_address, end_address, reads, reads_limited}
use Rattle.ckc_source.specs.Steps.{reads_interfaces}
use Rattle.ckc_source.specs.Words.{elements_behind}
use Rattle.ckc_source.specs.declared.expr.Base.TheVariants as lies
use Rattle.ckc_source.specs.declared.expr.Limits.{Limits}
use Rattle.ckc_source.specs.declared.outcome.Halt.{Halt}
use Rattle.ckc_source.specs.declared.outcome.Value.{Value}
use Rattle.ckc_source.specs.declared.program.Interface.{Interface}
use Rattle.ckc_build_values.specs.Ends.{integer_in_variable, variable_at, base_at, end_at, limits_between, limits_at}
use Rattle.ckc_build_values.specs.Kinds.{pointee_of, size_behind}
use Rattle.ckc_build_results.specs.Results.{result_limits}
use Rattle.ckc_build_elaborate.specs.Functions.{interface_if, interface_of, interfaces_from, interfaces_elaborated}
use Rattle.ckc_blame_sound.specs.Settings.{Setting, IsFunction, frame_of_text, setting_of}
use Rattle.ckc_blame_sound.specs.Points.{IsReadable, IsBounded}
use Rattle.ckc_blame_sound.specs.Passed.{result_base, result_end}
use Rattle.ckc_blame_sound.specs.JudgedTexts.{IsJudged}
use Rattle.ckc_blame_sound.proofs.Bodies.{contains_made}
use Rattle.ckc_blame_sound.proofs.ByNumber.{all_at, declaration_at}
use Rattle.ckc_blame_sound.proofs.Frames.{first_at, locals_made, locals_counted, params_counted}
use Rattle.ckc_blame_sound.proofs.Functions.{params_own, params_numbered, numbered}
use Rattle.ckc_blame_sound.proofs.Locals.{names_declared}
use Rattle.ckc_blame_sound.proofs.Seen.{interface_shared, interface_bounded}
use Rattle.ckc_blame_declared.proofs.Ends.{IsInteger, AreKnown, declared_is}
use Rattle.ckc_blame_declared.proofs.Locals.{contains_at, local_there, name_at, from_zero, same_local, found_variable}
use Rattle.ckc_blame_declared.proofs.Parameters.{IsToldForm, IsParamWell, function_well, judged_at, told_so, made_so, unjudged}
use Rattle.ckc_blame_declared.proofs.Results.{IsTold, declared_told}

-- ---- bounds of a parameter, as those of a result

-- A form of the bounds of a local is that of the bounds of a result, with the local for the result.
record IsMoved (k : ℕ) (f g : Form) : Type 0 where
  pub var : g.var ≡ f.var
  pub add : g.add ≡ f.add
  pub base : (g.base ≡ f.base) ⊎ ((f.base ≡ Some (base.Value 0)) × (g.base ≡ Some (base.Local k)))

abbrev IsAlike : ℕ → Option Bounds → Option Bounds → Type 0
IsAlike k o q = (low high : Form) → o ≡ Some (bounds.Known low high) → (f : Form) × (g : Form) × (q ≡ Some (bounds.Known f g)) × IsMoved k f low × IsMoved k g high

same_moved : (k : ℕ) (f : Form) → IsMoved k f f
same_moved k f = record { var = refl; add = refl; base = inl refl }

same_alike : (k : ℕ) (o q : Option Bounds) → o ≡ q → IsAlike k o q
same_alike k o q same low high e = (low, high, sym same ∙ e, same_moved k low, same_moved k high)

counted_alike : (k : ℕ) (f : Option Form) → IsAlike k (counted (base.Local k) f) (counted (base.Value 0) f)
counted_alike k None low high e = absurd cc
counted_alike k (Some f) low high e =
    let first : base_form (base.Local k) ≡ low = cc in
    let last : record f { base = Some (base.Local k) } ≡ high = cc in (
      base_form (base.Value 0),
      record f { base = Some (base.Value 0) },
      refl,
      subst (IsMoved k (base_form (base.Value 0))) first (record { var = refl; add = refl; base = inr (refl, refl) }),
      subst (IsMoved k (record f { base = Some (base.Value 0) })) last (record { var = refl; add = refl; base = inr (refl, refl) }),
    )

module _ (types : Frame) (k : ℕ) where
  with_same : (n : Option Name) (c : ℤ) → amount_with types (holder.Local k) n c ≡ amount_with types holder.Result n c
  with_same None c = refl
  with_same (Some n) c = refl

  amount_same : (a : Option Amount) → amount_form types (holder.Local k) a ≡ amount_form types holder.Result a
  amount_same None = refl
  amount_same (Some a) = ap (λ o. if is_within (2 ^ 24) a.number then o else None) (with_same a.variable a.number)

  bound_same : (t : CType) (o : _) → bound_with types (holder.Local k) t o ≡ bound_with types holder.Result t o
  bound_same t None = refl
  bound_same t (Some x) = ap (sum_of_forms (named_base types t x.name)) (amount_same x.by)

  written_alike : (t : CType) (l : Limits-F Name Note NotedLimits NotedNode NotedExpr) → IsAlike k (bounds_written types (holder.Local k) t l) (bounds_written types holder.Result t l)
  written_alike t (Limits-F.Count e at) =
      subst (λ o. IsAlike k (counted (base.Local k) o) (counted (base.Value 0) (amount_form types holder.Result (amount types.structs e)))) (sym (amount_same (amount types.structs e)))
      (counted_alike k (amount_form types holder.Result (amount types.structs e)))
  written_alike t (Limits-F.ByteCount e at) =
      let size = size_of types.structs (element_of t) in
      subst (λ o. IsAlike k (counted (base.Local k) (elements size o)) (counted (base.Value 0) (elements size (amount_form types holder.Result (amount types.structs e))))) (sym (amount_same (amount types.structs e)))
      (counted_alike k (elements size (amount_form types holder.Result (amount types.structs e))))
  written_alike t (Limits-F.Between e f at) =
      same_alike k (known_between (bound types (holder.Local k) t e) (bound types (holder.Local k) t f)) (known_between (bound types holder.Result t e) (bound types holder.Result t f))
      (ap (λ o. known_between o (bound types (holder.Local k) t f)) (bound_same t (node_pieces types.structs (out-Node Name Note e.node)))
      ∙ ap (known_between (bound types holder.Result t e)) (bound_same t (node_pieces types.structs (out-Node Name Note f.node))))
  written_alike t (Limits-F.Unknown at) = λ low high e. absurd cc

  taken_alike : (t : CType) (length : Length) (l : NotedLimits) → IsAlike k (bounds_taken types (holder.Local k) t length l) (bounds_taken types holder.Result t length l)
  taken_alike t length l = by (takes_bounds t length)
    where
      by : (b : Bool) → IsAlike k (if b then bounds_written types (holder.Local k) t (out-Limits Name Note l) else None) (if b then bounds_written types holder.Result t (out-Limits Name Note l) else None)
      by true = written_alike t (out-Limits Name Note l)
      by false = λ low high e. absurd cc

-- what there is was there
there_back : (code : ℕ) (at : Pos) (o : Option Bounds) (b : Bounds) → there_or code at o ≡ Ok b → o ≡ Some b
there_back code at None b e = absurd cc
there_back code at (Some c) b e = let same : c ≡ b = cc in ap (λ (x : Bounds). Some x) same

-- Bounds that have a form and are not `bounds(unknown)` are known.
abbrev HaveEnds : Bounds → Type 0
HaveEnds b = (low : Form) × (high : Form) × (b ≡ bounds.Known low high)

module _ (types : Frame) (k : ℕ) where
  counted_ends : (f : Option Form) (b : Bounds) → counted (base.Local k) f ≡ Some b → HaveEnds b
  counted_ends None b e = absurd cc
  counted_ends (Some f) b e = (base_form (base.Local k), record f { base = Some (base.Local k) }, cc)

  between_ends : (f g : Option Form) (b : Bounds) → known_between f g ≡ Some b → HaveEnds b
  between_ends None g b e = absurd cc
  between_ends (Some f) None b e = absurd cc
  between_ends (Some f) (Some g) b e = (f, g, cc)

  written_ends : (t : CType) (l : Limits-F Name Note NotedLimits NotedNode NotedExpr) (b : Bounds) → are_unknown_form l ≡ false → bounds_written types (holder.Local k) t l ≡ Some b → HaveEnds b
  written_ends t (Limits-F.Count e at) b form is = counted_ends (amount_form types (holder.Local k) (amount types.structs e)) b is
  written_ends t (Limits-F.ByteCount e at) b form is = counted_ends (elements (size_of types.structs (element_of t)) (amount_form types (holder.Local k) (amount types.structs e))) b is
  written_ends t (Limits-F.Between e f at) b form is = between_ends (bound types (holder.Local k) t e) (bound types (holder.Local k) t f) b is
  written_ends t (Limits-F.Unknown at) b form is = absurd cc

  declared_ends : (t : CType) (length : Length) (l : NotedLimits) (b : Bounds) → are_unknown_form (out-Limits Name Note l) ≡ false → bounds_declared types (holder.Local k) t length (Some l) ≡ Ok b → HaveEnds b
  declared_ends t length l b form is = by (takes_bounds t length) (there_back bad_limits (place_of_limits l) (bounds_taken types (holder.Local k) t length l) b is)
    where
      by : (c : Bool) → (if c then bounds_written types (holder.Local k) t (out-Limits Name Note l) else None) ≡ Some b → HaveEnds b
      by true e = written_ends t (out-Limits Name Note l) b form e
      by false e = absurd cc

-- ---- the limits that a program reads with

-- a local among parameters is the same among all variables
find_before : {A : Type 0} (p : A → Bool) (xs ys : List A) (x : A) → find p xs ≡ Some x → find p (xs ++ ys) ≡ Some x
find_before p [] ys x e = absurd cc
find_before {A} p (y ∷ xs) ys x e = by (p y) e (find_before p xs ys x)
  where
    by : (b : Bool) → (if b then Some y else find p xs) ≡ Some x → (find p xs ≡ Some x → find p (xs ++ ys) ≡ Some x) → (if b then Some y else find p (xs ++ ys)) ≡ Some x
    by true e later = e
    by false e later = later e

module _ (p : Typed) (j : IsJudged p) (h : NotedHead) (body : NotedStmt) (there : Contains p.tree.items (item.Function h body)) where
  abbrev types : Frame
  types = params_frame (frame_of_text p) h

  abbrev all : List Variable
  all = variables_of body.note.mode h body

  -- the parameters, as what bounds in a head are told by
  abbrev heads : Setting
  heads = record { text = p; frame = types; head = head_bounds (frame_of_text p) h; variables = params_of Checked h; result = type_written h.result }

  named_same : body.note.mode ≡ Checked → (i : ℕ) (a : Local) → local_at types i ≡ Some a → variable_named heads.variables (name.Local i) ≡ variable_named all (name.Local i)
  unfolding few_of
  named_same checked i a at =
      let ds = seen_params Checked h in
      let one = first_at 1023 (all_made (frame_of_text p) false ds) i a at in
      let d = declaration_at (frame_of_text p) false ds i a (params_own p h body j there Checked) one.1 in
      let v = found_variable heads.variables i (variable_declared d.0, contains_made (λ (x : NotedDecl). variable_declared x) ds d.0 d.1, subst (λ n. same_name n (name.Local i) ≡ true) (sym d.2) (same_local i)) in
      let more : variable_named (heads.variables ++ locals_of body) (name.Local i) ≡ Some v.0 =
      find_before (λ (x : Variable). same_name x.name (name.Local i)) heads.variables (locals_of body) v.0 v.1 in
      v.1 ∙ sym more ∙ sym (ap (λ m. variable_named (variables_of m h body) (name.Local i)) checked)

  variable_same : body.note.mode ≡ Checked → (x : ℕ) → IsInteger types x → variable_at heads.variables x ≡ variable_at all x
  variable_same checked zero n = refl
  variable_same checked (suc i) n =
      let back : suc i - 1 ≡ i = omega arith in
      let same : variable_named heads.variables (name.Local (suc i - 1)) ≡ variable_named all (name.Local (suc i - 1)) =
      subst (λ y. variable_named heads.variables (name.Local y) ≡ variable_named all (name.Local y)) (sym back) (named_same checked i n.0 n.1) in
      ap (λ o. if suc i == 0 then None else Some (record { local = suc i - 1; form = integer_in_variable o })) same

  -- the two ends, read at the parameter itself
  module _ (store : Store) (k : ℕ) where
    abbrev n : ℕ
    n = slice_index store.locals k

    own_base : (b : Option Base) → base_address store.locals n (result_base heads b) ≡ base_address store.locals n (base_at p k b)
    own_base None = refl
    own_base (Some (base.Array i)) = refl
    own_base (Some (base.Value i)) = refl
    own_base (Some (base.Local i)) = by (i == k) refl
      where
        by : (b : Bool) → (i == k) ≡ b → slice_index store.locals i ≡ base_address store.locals n (if b then lies.Own else lies.Local i)
        by true e = ap (slice_index store.locals) (eqb-true i k e)
        by false e = refl

    base_same : (b c : Option Base) → (c ≡ b) ⊎ ((b ≡ Some (base.Value 0)) × (c ≡ Some (base.Local k))) → base_address store.locals n (result_base heads b) ≡ base_address store.locals n (base_at p k c)
    base_same b c m = elim m [
      | inl e ↦ own_base b ∙ ap (λ x. base_address store.locals n (base_at p k x)) (sym e)
      | inr w ↦ ap (λ x. base_address store.locals n (result_base heads x)) w.0
          ∙ sym (ap (λ b. base_address store.locals n (if b then lies.Own else lies.Local k)) (eq-eqb k k refl))
          ∙ ap (λ x. base_address store.locals n (base_at p k x)) (sym w.1)
    ]

    end_same : body.note.mode ≡ Checked → (size : ℕ) (f g : Form) → IsMoved k f g → IsInteger types g.var → end_address store.locals size n (result_end heads f) ≡ end_address store.locals size n (end_at p all k g)
    end_same checked size f g m integer =
        let variable : variable_at heads.variables f.var ≡ variable_at all g.var = ap (variable_at heads.variables) (sym m.var) ∙ variable_same checked g.var integer in
        ap (λ b. elements_behind b size (counts store.locals (variable_at heads.variables f.var) f.add)) (base_same f.base g.base m.base)
        ∙ ap (λ x. elements_behind (base_address store.locals n (base_at p k g.base)) size (counts store.locals x f.add)) variable
        ∙ ap (λ c. elements_behind (base_address store.locals n (base_at p k g.base)) size (counts store.locals (variable_at all g.var) c)) (sym m.add)

    limits_same : body.note.mode ≡ Checked → (t : CType) (f g low high : Form) → IsMoved k f low → IsMoved k g high → IsInteger types low.var → IsInteger types high.var
        → reads_limited store (limits_between p.layout t (result_end heads f) (result_end heads g)) n ≡ reads_limited store (limits_at p all t k low high) n
    limits_same checked t f g low high l u first last =
        let size = size_behind p.layout t in
        let to = pointee_of p.layout t in
        ap (λ x. reads store.shapes store.blocks to n x (end_address store.locals size n (result_end heads g))) (end_same checked size f low l first)
        ∙ ap (reads store.shapes store.blocks to n (end_address store.locals size n (end_at p all k low))) (end_same checked size g high u last)

  -- What a program reads an interface with are the bounds that a checked body knows of it.
  record IsRead (k : ℕ) (d : NotedDecl) : Type 0 where
    pub low : Form
    pub high : Form
    pub limits : Limits
    pub local : local_made (types_frame (frame_of_text p) h body) true k (seen Checked d) ≡ record { ctype = type_written (seen Checked d).ctype; bounds = bounds.Known low high }
    pub told : result_limits p (params_of Checked h) (type_written (seen Checked d).ctype) d.bounds ≡ Some limits
    pub same : (store : Store) → reads_limited store limits (slice_index store.locals k) ≡ reads_limited store (limits_at p all (type_written (seen Checked d).ctype) k low high) (slice_index store.locals k)

  -- the bounds that were judged are those that are told
  told_ok : (o : Outcome Bounds) (low high : Form) → known_or_not o ≡ bounds.Known low high → o ≡ Ok (bounds.Known low high)
  told_ok (Ok b) low high e = ap (λ (x : Bounds). Ok x) e
  told_ok (Err r) low high e = absurd cc

  told_form : (d : NotedDecl) (l : NotedLimits) → d.bounds ≡ Some l → IsToldForm d.bounds → are_unknown_form (out-Limits Name Note l) ≡ false
  told_form d l is f = subst IsToldForm is f

  interface_read : body.note.mode ≡ Checked → (k : ℕ) (d : NotedDecl) → Contains h.params d → d.name ≡ name.Local k → is_interface d ≡ true → IsRead k d
  interface_read checked k d c named interface =
      let y = seen Checked d in
      let t = type_written y.ctype in
      let among : Contains (seen_params Checked h) y = contains_made (seen Checked) h.params d c in
      let name_is : y.name ≡ name.Local k = name_seen Checked d ∙ named in
      let l = interface_bounded d interface in
      let bounds_is : y.bounds ≡ Some l.0 = bounds_seen d ∙ l.1 in
      let well = All-contains (IsParamWell (params_frame (frame_of_text j.typed) h)) h.params d (function_well p j h body there).interfaces c in
      let b = judged_at p j h body there k y among name_is in
      let judged : bounds_declared (params_frame (frame_of_text j.typed) h) (holder.Local k) t y.length (Some l.0) ≡ Ok b.0 =
      ap (bounds_declared (params_frame (frame_of_text j.typed) h) (holder.Local k) t y.length) (sym bounds_is) ∙ b.1 in
      let ends = declared_ends (params_frame (frame_of_text j.typed) h) k t y.length l.0 b.0 (told_form d l.0 l.1 (well.told interface)) judged in
      let low = ends.0 in
      let high = ends.1 in
      let here : bounds_declared types (holder.Local k) t y.length y.bounds ≡ Ok (bounds.Known low high) =
      told_ok (decl_bounds types (holder.Local k) y) low high (ap (λ (x : Local). x.bounds) (told_so p j h body there k y among name_is) ∙ ends.2) in
      let written : bounds_declared types (holder.Local k) t y.length (Some l.0) ≡ Ok (bounds.Known low high) = ap (bounds_declared types (holder.Local k) t y.length) (sym bounds_is) ∙ here in
      let taken = there_back bad_limits (place_of_limits l.0) (bounds_taken types (holder.Local k) t y.length l.0) (bounds.Known low high) written in
      let alike = taken_alike types k t y.length l.0 low high taken in
      let result : bounds_declared types holder.Result t y.length (Some l.0) ≡ Ok (bounds.Known alike.0 alike.1) = ap (there_or bad_limits (place_of_limits l.0)) alike.2 in
      let told : result_limits p heads.variables t (Some l.0) ≡ Some (limits_between p.layout t (result_end heads alike.0) (result_end heads alike.1)) =
      given_from (IsTold heads (seen_params Checked h) t (result_limits p heads.variables t (Some l.0))) (bounds_declared types holder.Result t y.length (Some l.0)) (bounds.Known alike.0 alike.1)
      (declared_told heads (seen_params Checked h) t y.length (Some l.0)) result in
      let known : AreKnown types (holder.Local k) t (bounds.Known low high) =
      given_from (AreKnown types (holder.Local k) t) (bounds_declared types (holder.Local k) t y.length y.bounds) (bounds.Known low high) (declared_is types (holder.Local k) t y.length y.bounds refl) here in
      record {
        low = low;
        high = high;
        limits = limits_between p.layout t (result_end heads alike.0) (result_end heads alike.1);
        local = made_so p j h body there k y among name_is ∙ ap (λ (x : Bounds). record { ctype = t; bounds = x }) ends.2;
        told = ap (result_limits p heads.variables t) l.1 ∙ told;
        same = λ store. limits_same store k checked t alike.0 alike.1 low high alike.3 alike.4 known.begins.variable known.ends.variable;
      }

-- ---- all interfaces

-- what is read, and then nothing more
abbrev read_alone : Result Value Halt → Result (Unit {0}) Halt
read_alone r = given r (λ v. Ok tt)

given_ok : (r : Result Value Halt) → IsOk r → read_alone r ≡ Ok tt
given_ok (Ok v) h = refl
given_ok (Err e) h = absurd cc

ok_given : (r : Result Value Halt) → read_alone r ≡ Ok tt → IsOk r
ok_given (Ok v) h = refl
ok_given (Err e) h = absurd cc

module _ (store : Store) where
  reads_both : (xs ys : List Interface) → reads_interfaces store xs ≡ Ok tt → reads_interfaces store ys ≡ Ok tt → reads_interfaces store (xs ++ ys) ≡ Ok tt
  reads_both [] ys e f = f
  reads_both (x ∷ xs) ys e f = by (reads_limited store x.limits (slice_index store.locals x.param)) e (λ g. reads_both xs ys g f)
    where
      by : (r : Result Value Halt) → given r (λ v. reads_interfaces store xs) ≡ Ok tt → (reads_interfaces store xs ≡ Ok tt → reads_interfaces store (xs ++ ys) ≡ Ok tt)
          → given r (λ v. reads_interfaces store (xs ++ ys)) ≡ Ok tt
      by (Ok v) e rest = rest e
      by (Err r) e rest = absurd cc

  reads_each : (xs ys : List Interface) → reads_interfaces store (xs ++ ys) ≡ Ok tt → (reads_interfaces store xs ≡ Ok tt) × (reads_interfaces store ys ≡ Ok tt)
  reads_each [] ys e = (refl, e)
  reads_each (x ∷ xs) ys e = by (reads_limited store x.limits (slice_index store.locals x.param)) e (reads_each xs ys)
    where
      by : (r : Result Value Halt) → given r (λ v. reads_interfaces store (xs ++ ys)) ≡ Ok tt
          → (reads_interfaces store (xs ++ ys) ≡ Ok tt → (reads_interfaces store xs ≡ Ok tt) × (reads_interfaces store ys ≡ Ok tt))
          → (given r (λ v. reads_interfaces store xs) ≡ Ok tt) × (reads_interfaces store ys ≡ Ok tt)
      by (Ok v) e rest = rest e
      by (Err r) e rest = absurd cc

  module _ (p : Typed) (variables : List Variable) where
    -- the limits of a parameter, if it is an interface
    abbrev HasLimits : NotedDecl → Limits → Type 0
    HasLimits d l = (is_interface d ≡ true) × (result_limits p variables (type_written (seen Checked d).ctype) d.bounds ≡ Some l)

    abbrev Reads : ℕ → NotedDecl → Type 0
    Reads k d = (l : Limits) → HasLimits d l → IsOk (reads_limited store l (slice_index store.locals k))

    one_read : (k : ℕ) (d : NotedDecl) → Reads k d → reads_interfaces store (interface_of p variables k d) ≡ Ok tt
    one_read k d h = by (is_interface d) refl (result_limits p variables (type_written (seen Checked d).ctype) d.bounds) refl
      where
        by : (b : Bool) → is_interface d ≡ b → (o : Option Limits) → result_limits p variables (type_written (seen Checked d).ctype) d.bounds ≡ o → reads_interfaces store (if b then interface_if k o else []) ≡ Ok tt
        by false is o e = refl
        by true is None e = refl
        by true is (Some l) e = given_ok (reads_limited store l (slice_index store.locals k)) (h l (is, e))

    one_back : (k : ℕ) (d : NotedDecl) → reads_interfaces store (interface_of p variables k d) ≡ Ok tt → Reads k d
    one_back k d h l w =
        let is : interface_of p variables k d ≡ interface_if k (Some l) =
        ap (λ b. if b then interface_if k (result_limits p variables (type_written (seen Checked d).ctype) d.bounds) else []) w.0 ∙ ap (interface_if k) w.1 in
        ok_given (reads_limited store l (slice_index store.locals k)) (sym (ap (reads_interfaces store) is) ∙ h)

    all_read : (k : ℕ) (ds : List NotedDecl) → ((i : ℕ) (d : NotedDecl) → slice_get ds i ≡ Some d → Reads (k + i) d) → reads_interfaces store (interfaces_from p variables k ds) ≡ Ok tt
    all_read k [] h = refl
    all_read k (d ∷ ds) h =
        reads_both (interface_of p variables k d) (interfaces_from p variables (k + 1) ds) (one_read k d (subst (λ n. Reads n d) (last k) (h 0 d refl)))
        (all_read (k + 1) ds (λ i e is. subst (λ n. Reads n e) (next k i) (h (suc i) e is)))
      where
        last : (k : ℕ) → k + 0 ≡ k
        last k = omega arith

        next : (k i : ℕ) → k + suc i ≡ (k + 1) + i
        next k i = omega arith

    each_read : (k : ℕ) (ds : List NotedDecl) → reads_interfaces store (interfaces_from p variables k ds) ≡ Ok tt → (i : ℕ) (d : NotedDecl) → slice_get ds i ≡ Some d → Reads (k + i) d
    each_read k [] h i d e = absurd cc
    each_read k (x ∷ ds) h zero d e =
        let same : x ≡ d = cc in
        subst (λ n. Reads n d) (last k) (one_back k d (subst (λ y. reads_interfaces store (interface_of p variables k y) ≡ Ok tt) same (reads_each (interface_of p variables k x) (interfaces_from p variables (k + 1) ds) h).0))
      where
        last : (k : ℕ) → k ≡ k + 0
        last k = omega arith
    each_read k (x ∷ ds) h (suc i) d e =
        subst (λ n. Reads n d) (next k i) (each_read (k + 1) ds (reads_each (interface_of p variables k x) (interfaces_from p variables (k + 1) ds) h).1 i d e)
      where
        next : (k i : ℕ) → (k + 1) + i ≡ k + suc i
        next k i = omega arith

-- ---- the locals of a body

module _ (p : Typed) (j : IsJudged p) (h : NotedHead) (body : NotedStmt) (there : Contains p.tree.items (item.Function h body)) (few : length (variables_of body.note.mode h body) < 1024) where
  -- the parameter with the number k is the local k
  param_named : (k : ℕ) (d : NotedDecl) → slice_get h.params k ≡ Some d → d.name ≡ name.Local k
  param_named k d e =
      name_at 0 (names_declared h.params) k d.name (params_numbered p h body j there) (slice_get-map (λ (x : NotedDecl). x.name) h.params k ∙ ap (option_map (λ (x : NotedDecl). x.name)) e) ∙ ap name.Local (from_zero k)

  param_local : (k : ℕ) (d : NotedDecl) → slice_get h.params k ≡ Some d → local_at (setting_of p h body).frame k ≡ Some (local_made (types_frame (frame_of_text p) h body) true k (seen body.note.mode d))
  unfolding setting_of
  param_local k d e =
      let frame = frame_of_text p in
      let mode = body.note.mode in
      let l = local_made (types_frame frame h body) true k (seen mode d) in
      let made : slice_get (locals_made frame h body) k ≡ Some l =
      all_at (types_frame frame h body) true (all_of h body) k (seen mode d) (numbered p h body j there)
      (Contains-append_left (seen_params mode h) (path body).declared (seen mode d) (contains_made (seen mode) h.params d (contains_at h.params k d e))) (name_seen mode d ∙ param_named k d e) in
      let less : k < length (locals_made frame h body) = slice_get_within (locals_made frame h body) k l made in
      let below : k < length (variables_of mode h body) = subst (λ m. k < m) (locals_counted frame h body) less in
      local_there frame h body k l made (omega (arith, below, few))

  -- in a checked body
  checked_local : (k : ℕ) (d : NotedDecl) (r : IsRead p j h body there k d) → body.note.mode ≡ Checked → slice_get h.params k ≡ Some d
      → local_at (setting_of p h body).frame k ≡ Some (record { ctype = type_written (seen Checked d).ctype; bounds = bounds.Known r.low r.high })
  checked_local k d r checked e = param_local k d e ∙ ap (λ m. Some (local_made (types_frame (frame_of_text p) h body) true k (seen m d))) checked ∙ ap (λ (x : Local). Some x) r.local

  -- An interface of a checked body is read as the limits of the program say exactly when it may be read within its bounds.
  read_bounded : (store : Store) (k : ℕ) (d : NotedDecl) (r : IsRead p j h body there k d) → body.note.mode ≡ Checked → slice_get h.params k ≡ Some d
      → IsOk (reads_limited store r.limits (slice_index store.locals k)) → IsBounded (setting_of p h body) store [] k (local_at (setting_of p h body).frame k)
  unfolding setting_of
  read_bounded store k d r checked e ok =
      let s = setting_of p h body in
      let t = type_written (seen Checked d).ctype in
      let at = checked_local k d r checked e in
      subst (IsBounded s store [] k) (sym at) (subst (λ o. IsReadable s store k t (range_by o false)) (sym at) (subst IsOk (r.same store) ok))

  bounded_read : (store : Store) (k : ℕ) (d : NotedDecl) (r : IsRead p j h body there k d) → body.note.mode ≡ Checked → slice_get h.params k ≡ Some d
      → IsBounded (setting_of p h body) store [] k (local_at (setting_of p h body).frame k) → IsOk (reads_limited store r.limits (slice_index store.locals k))
  unfolding setting_of
  bounded_read store k d r checked e bounded =
      let s = setting_of p h body in
      let t = type_written (seen Checked d).ctype in
      let at = checked_local k d r checked e in
      subst IsOk (sym (r.same store)) (subst (λ o. IsReadable s store k t (range_by o false)) at (subst (IsBounded s store [] k) at bounded))

  -- what is not judged may be read
  unknown_bounded : (store : Store) (k : ℕ) (l : Local) → local_at (setting_of p h body).frame k ≡ Some l → l.bounds ≡ bounds.Unknown → IsBounded (setting_of p h body) store [] k (local_at (setting_of p h body).frame k)
  unknown_bounded store k l at none =
      let s = setting_of p h body in
      subst (IsBounded s store [] k) (sym at) (subst (λ o. IsReadable s store k l.ctype (range_by o false)) (sym at) (subst (λ b. IsReadable s store k l.ctype (range_of_bounds b)) (sym none) tt))

  read_of : body.note.mode ≡ Checked → (k : ℕ) (d : NotedDecl) → slice_get h.params k ≡ Some d → is_interface d ≡ true → IsRead p j h body there k d
  read_of checked k d e i = interface_read p j h body there checked k d (contains_at h.params k d e) (param_named k d e) i

  abbrev AllBounded : Store → Type 0
  AllBounded store = (k : ℕ) → k < length h.params → IsBounded (setting_of p h body) store [] k (local_at (setting_of p h body).frame k)

  some_limits : (a b : Limits) → Some a ≡ Some b → a ≡ b
  some_limits a b e = cc

  all_reads : (store : Store) → AllBounded store → reads_interfaces store (interfaces_elaborated p body.note.mode h) ≡ Ok tt
  all_reads store bounded = by body.note.mode refl
    where
      by : (m : Mode) → body.note.mode ≡ m → reads_interfaces store (interfaces_elaborated p m h) ≡ Ok tt
      by Unchecked is = refl
      by Checked is =
          all_read store p (params_of Checked h) 0 h.params (λ k d e l w.
          (let r = read_of is k d e w.0 in
          let same : l ≡ r.limits = some_limits l r.limits (sym w.1 ∙ r.told) in
          let from : 0 + k ≡ k = from_zero k in
          subst (λ n. IsOk (reads_limited store l (slice_index store.locals n))) (sym from)
          (subst (λ x. IsOk (reads_limited store x (slice_index store.locals k))) (sym same) (bounded_read store k d r is e (bounded k (slice_get_within h.params k d e))))))

  interface_at : (k : ℕ) → slice_get (map is_interface h.params) k ≡ Some true → (d : NotedDecl) × (slice_get h.params k ≡ Some d) × (is_interface d ≡ true)
  interface_at k e = by (slice_get h.params k) refl (sym (slice_get-map is_interface h.params k) ∙ e)
    where
      by : (o : Option NotedDecl) → slice_get h.params k ≡ o → option_map is_interface o ≡ Some true → (d : NotedDecl) × (slice_get h.params k ≡ Some d) × (is_interface d ≡ true)
      by (Some d) is f = (d, is, cc)
      by None is f = absurd cc

  each_bounded : (store : Store) (k : ℕ) → reads_interfaces store (interfaces_elaborated p body.note.mode h) ≡ Ok tt → slice_get (map is_interface h.params) k ≡ Some true
      → IsBounded (setting_of p h body) store [] k (local_at (setting_of p h body).frame k)
  each_bounded store k h' i = by body.note.mode refl h'
    where
      d : (x : NotedDecl) × (slice_get h.params k ≡ Some x) × (is_interface x ≡ true)
      d = interface_at k i

      by : (m : Mode) → body.note.mode ≡ m → reads_interfaces store (interfaces_elaborated p m h) ≡ Ok tt → IsBounded (setting_of p h body) store [] k (local_at (setting_of p h body).frame k)
      by Unchecked is f =
          let types = types_frame (frame_of_text p) h body in
          let at : local_at (setting_of p h body).frame k ≡ Some (local_made types true k (seen Unchecked d.0)) = param_local k d.0 d.1 ∙ ap (λ m. Some (local_made types true k (seen m d.0))) is in
          let none = unjudged p j h body there types k (seen Unchecked d.0) (seen Checked d.0) (local_made (params_frame (frame_of_text p) h) true k (seen Checked d.0)) refl (interface_shared d.0 d.2) in
          unknown_bounded store k (local_made types true k (seen Unchecked d.0)) at none.bounds
      by Checked is f =
          let r = read_of is k d.0 d.1 d.2 in
          let ok = each_read store p (params_of Checked h) 0 h.params f k d.0 d.1 r.limits (d.2, r.told) in
          read_bounded store k d.0 r is d.1 (subst (λ n. IsOk (reads_limited store r.limits (slice_index store.locals n))) (from_zero k) ok)

module _ (p : Typed) (j : IsJudged p) (h : NotedHead) (body : NotedStmt) (there : Contains p.tree.items (item.Function h body)) where
  abbrev ReadsAll : Setting → Type 0
  ReadsAll s = (store : Store) → length s.variables < 1024 → ((k : ℕ) → k < length s.head.params → IsBounded s store [] k (local_at s.frame k))
      → reads_interfaces store (interfaces_elaborated p body.note.mode h) ≡ Ok tt

  reads_all : ReadsAll (setting_of p h body)
  unfolding setting_of
  reads_all store few bounded = all_reads p j h body there few store (λ k less. bounded k (subst (λ n. k < n) (params_counted (frame_of_text p) h) less))

  abbrev BoundsAll : Setting → Type 0
  BoundsAll s = (store : Store) (k : ℕ) → length s.variables < 1024 → reads_interfaces store (interfaces_elaborated p body.note.mode h) ≡ Ok tt → slice_get s.head.interfaces k ≡ Some true
      → IsBounded s store [] k (local_at s.frame k)

  bounds_all : BoundsAll (setting_of p h body)
  unfolding setting_of
  bounds_all store k few ok i = each_bounded p j h body there few store k ok i

pub interfaces_read : (p : Typed) (s : Setting) (f : Function) (store : Store) → IsJudged p → IsFunction p s f → length s.variables < 1024
    → ((k : ℕ) → k < length s.head.params → IsBounded s store [] k (local_at s.frame k)) → reads_interfaces store f.interfaces ≡ Ok tt
interfaces_read p s f store j is few bounded =
    ap (λ (g : Function). reads_interfaces store g.interfaces) is.runs
    ∙ subst (ReadsAll p j is.head is.body is.there) (sym is.judged) (reads_all p j is.head is.body is.there) store few bounded

pub interfaces_bounded : (p : Typed) (s : Setting) (f : Function) (store : Store) (k : ℕ) → IsJudged p → IsFunction p s f → length s.variables < 1024
    → reads_interfaces store f.interfaces ≡ Ok tt → slice_get s.head.interfaces k ≡ Some true → IsBounded s store [] k (local_at s.frame k)
interfaces_bounded p s f store k j is few ok i =
    subst (BoundsAll p j is.head is.body is.there) (sym is.judged) (bounds_all p j is.head is.body is.there) store k few (sym (ap (λ (g : Function). reads_interfaces store g.interfaces) is.runs) ∙ ok) i
