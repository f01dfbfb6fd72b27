-- The bounds phase leaves a text as it is, but for the ranges in its tree.
use Rattle.std.proofs.Common.{◌≡◌, refl, List}
use Rattle.std.specs.Prelude.{Ok, Err}
use Rattle.ckc_base.specs.Outcomes.{Outcome}
use Rattle.ckc_base.proofs.Gives.{Gives, given_from, bound, itself}
use Rattle.ckc_typed.specs.declared.typed.Typed.{Typed}
use Rattle.ckc_typed.specs.Trees.{NotedItem}
use Rattle.ckc_bounds.specs.Frames.{text_frame}
use Rattle.ckc_bounds.specs.Texts.{items_judged, text_judged}

pub record IsBounded (q p : Typed) : Type 0 where
  pub items : items_judged (text_frame q.layout q.statics q.tree.items) q.tree.items ≡ Ok p.tree.items
  pub layout : p.layout ≡ q.layout
  pub statics : p.statics ≡ q.statics
  pub main : p.main ≡ q.main

pub is_bounded : (q p : Typed) → text_judged q ≡ Ok p → IsBounded q p
is_bounded q p e =
    given_from (IsBounded q) (text_judged q) p
    (bound {A = List NotedItem} {B = Typed} (λ js. items_judged (text_frame q.layout q.statics q.tree.items) q.tree.items ≡ Ok js) (IsBounded q) _ _
    (itself (items_judged (text_frame q.layout q.statics q.tree.items) q.tree.items))
    (λ js is. record { items = is; layout = refl; statics = refl; main = refl })) e

pub layout_kept : (q p : Typed) → text_judged q ≡ Ok p → p.layout ≡ q.layout
layout_kept q p e = (is_bounded q p e).layout

-- nothing is said of what is made
pub anything : {A : Type 0} (o : Outcome A) → Gives (λ (a : A). Unit {0}) o
anything (Ok a) = tt
anything (Err r) = tt
