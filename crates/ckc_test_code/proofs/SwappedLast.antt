-- The last function of placed code, replaced by one with the same code.
use Rattle.std.proofs.Common.{◌≡◌, ◌∙◌, ℕ, List, [], ◌∷◌, ◌++◌, map, sym, ap, subst, refl}
use Rattle.std.specs.Prelude.{All}
use Rattle.std.proofs.lemmas.List.Elements.{All-nil, All-cons, All-head, All-tail}
use Rattle.ckc_tac.specs.declared.code.Tac.{Tac}
use Rattle.ckc_tac.specs.declared.code.TacFunc.{TacFunc}
use Rattle.ckc_tac.specs.WellFormed.{IsWellFormed as IsWellFormedTac}
use Rattle.ckc_frame.specs.declared.code.Placed.{Placed}
use Rattle.ckc_frame.specs.declared.code.PlacedFunc.{PlacedFunc}
use Rattle.ckc_frame.specs.WellFormed.{IsPlacedWhole, IsWellFormed, code_of}

abbrev code_in : PlacedFunc → TacFunc
code_in f = f.code

same_codes : (fs : List PlacedFunc) (f g : PlacedFunc) → g.code ≡ f.code → map code_in (fs ++ g ∷ []) ≡ map code_in (fs ++ f ∷ [])
same_codes [] f g e = ap (λ (c : TacFunc). c ∷ []) e
same_codes (h ∷ fs) f g e = ap (λ (cs : List TacFunc). h.code ∷ cs) (same_codes fs f g e)

all_whole : (fs : List PlacedFunc) (f g : PlacedFunc) → All IsPlacedWhole (fs ++ f ∷ []) → IsPlacedWhole g → All IsPlacedWhole (fs ++ g ∷ [])
all_whole [] f g all whole = All-cons IsPlacedWhole g [] whole (All-nil IsPlacedWhole)
all_whole (h ∷ fs) f g all whole =
    All-cons IsPlacedWhole h (fs ++ g ∷ []) (All-head IsPlacedWhole h (fs ++ f ∷ []) all)
    (all_whole fs f g (All-tail IsPlacedWhole h (fs ++ f ∷ []) all) whole)

last_of : (fs : List PlacedFunc) (f : PlacedFunc) → All IsPlacedWhole (fs ++ f ∷ []) → IsPlacedWhole f
last_of [] f all = All-head IsPlacedWhole f [] all
last_of (h ∷ fs) f all = last_of fs f (All-tail IsPlacedWhole h (fs ++ f ∷ []) all)

pub last_whole : (p : Placed) (fs : List PlacedFunc) (f : PlacedFunc) → IsWellFormed p → p.funcs ≡ fs ++ f ∷ [] → IsPlacedWhole f
last_whole p fs f w e = last_of fs f (subst (λ (l : List PlacedFunc). All IsPlacedWhole l) e w.placed)

-- The same program with its last function replaced.
pub swapped_code : (p : Placed) (fs : List PlacedFunc) (f g : PlacedFunc) → p.funcs ≡ fs ++ f ∷ [] → g.code ≡ f.code
    → code_of (record { initial = p.initial; funcs = fs ++ g ∷ []; main = p.main }) ≡ code_of p
swapped_code p fs f g e same =
    ap (λ (l : List TacFunc). record { initial = p.initial; funcs = l; main = p.main })
    (same_codes fs f g same ∙ ap (λ (l : List PlacedFunc). map code_in l) (sym e))

pub swapped_whole : (p : Placed) (fs : List PlacedFunc) (f g : PlacedFunc) → IsWellFormed p → p.funcs ≡ fs ++ f ∷ [] → g.code ≡ f.code → IsPlacedWhole g
    → IsWellFormed (record { initial = p.initial; funcs = fs ++ g ∷ []; main = p.main })
swapped_whole p fs f g w e same whole = record {
  code = subst (λ (t : Tac). IsWellFormedTac t) (sym (swapped_code p fs f g e same)) w.code;
  placed = all_whole fs f g (subst (λ (l : List PlacedFunc). All IsPlacedWhole l) e w.placed) whole;
}
