-- In a text where no static object has bounds, none is found to have them.
use Rattle.std.proofs.Common.{◌≡◌, Bool, true, false, List, [], ◌∷◌, refl}
use Rattle.std.specs.Prelude.{◌||◌, find, cond, is_some, Option, None, Some}
use Rattle.std.specs.List.{list_any}
use Rattle.ckc_syntax.specs.declared.tree.Name.{Name}
use Rattle.ckc_syntax.specs.declared.tree.Item.TheVariants as item
use Rattle.ckc_typed.specs.declared.typed.Typed.{Typed}
use Rattle.ckc_typed.specs.Trees.{NotedItem, NotedLimits}
use Rattle.ckc_build_values.specs.Names.{declares, limits_in, limits_declared}
use Rattle.ckc_build_values.specs.Bounded.{is_bounded}

neither : (a b : Bool) → (a || b) ≡ false → (a ≡ false) × (b ≡ false)
neither true b e = absurd (cc)
neither false b e = (refl, e)

nothing : (l : Option NotedLimits) → is_some l ≡ false → l ≡ None
nothing None e = refl
nothing (Some l) e = absurd (cc)

unbounded : (i : NotedItem) → is_bounded i ≡ false → limits_in (Some i) ≡ None
unbounded (item.Directive d) e = refl
unbounded (item.Tag n p) e = refl
unbounded (item.Struct n ds p) e = refl
unbounded (item.Static d) e = nothing d.bounds e
unbounded (item.Proto h) e = refl
unbounded (item.Function h s) e = refl

chosen : (b : Bool) (i : NotedItem) (r : Option NotedItem) → limits_in (Some i) ≡ None → limits_in r ≡ None → limits_in (cond b (Some i) r) ≡ None
chosen true i r e f = e
chosen false i r e f = f

walked : (n : Name) (items : List NotedItem) → list_any is_bounded items ≡ false → limits_in (find (declares n) items) ≡ None
walked n [] e = refl
walked n (i ∷ items) e =
    let h = neither (is_bounded i) (list_any is_bounded items) e in
    chosen (declares n i) i (find (declares n) items) (unbounded i h.0) (walked n items h.1)

pub no_limits : (p : Typed) (n : Name) → list_any is_bounded p.tree.items ≡ false → limits_declared p n ≡ None
no_limits p n e = walked n p.tree.items e
