-- What writes do to locals.
use Rattle.std.proofs.Common.{◌≡◌, refl, sym, ap, ◌∙◌, ℕ, List, [], ◌∷◌, length}
use Rattle.std.specs.Prelude.{slice_set, Option, None, Some, Ok}
use Rattle.std.proofs.lemmas.List.{length-set}
use Rattle.ckc_base.specs.Memory.{kept_part}
use Rattle.ckc_source.specs.declared.outcome.Place.{Place}
use Rattle.ckc_source.specs.declared.outcome.Place.TheVariants as place
use Rattle.ckc_source.specs.Blocks.{Block, stored}
use Rattle.ckc_source.specs.States.{State}
use Rattle.ckc_source.specs.Steps.{Write, with_blocks, writes, all_written}
use Rattle.ckc_blame_sound.proofs.Claims.{given_is}
use Rattle.ckc_blame_given.specs.Written.{IsNoLocal}

-- the locals after a write
abbrev pub put_in : Place → ℕ → List ℕ → List ℕ
put_in (place.Local k width) n locals = slice_set locals k (kept_part width n)
put_in to n locals = locals

-- the locals after some writes
abbrev pub locals_after : List Write → List ℕ → List ℕ
locals_after [] locals = locals
locals_after (w ∷ ws) locals = locals_after ws (put_in w.0 w.1 locals)

one_written : (to : Place) (n : ℕ) (s t : State) → writes to n s ≡ Ok t → t.frame.locals ≡ put_in to n s.frame.locals
one_written place.Nowhere n s t e = let same : s ≡ t = cc in ap (λ (x : State). x.frame.locals) (sym same)
one_written (place.Local k width) n s t e =
    let same : record s { frame = record s.frame { locals = slice_set s.frame.locals k (kept_part width n) } } ≡ t = cc in
    ap (λ (x : State). x.frame.locals) (sym same)
one_written (place.Memory a width zero_alone) n s t e = by (stored width a n s.blocks) e
  where
    by : (o : Option (List Block)) → with_blocks s o ≡ Ok t → t.frame.locals ≡ s.frame.locals
    by None e = absurd (cc)
    by (Some bs) e = let same : record s { blocks = bs } ≡ t = cc in ap (λ (x : State). x.frame.locals) (sym same)

pub written_locals : (ws : List Write) (s t : State) → all_written ws s ≡ Ok t → t.frame.locals ≡ locals_after ws s.frame.locals
written_locals [] s t e = let same : s ≡ t = cc in ap (λ (x : State). x.frame.locals) (sym same)
written_locals (w ∷ ws) s t e =
    let g = given_is (writes w.0 w.1 s) (all_written ws) t e in
    written_locals ws g.0 t g.2 ∙ ap (locals_after ws) (one_written w.0 w.1 s g.0 g.1)

pub none_put : (to : Place) (n : ℕ) (locals : List ℕ) → IsNoLocal to → put_in to n locals ≡ locals
none_put place.Nowhere n locals h = refl
none_put (place.Local k width) n locals h = absurd h
none_put (place.Memory a width zero_alone) n locals h = refl

pub length_put : (to : Place) (n : ℕ) (locals : List ℕ) → length (put_in to n locals) ≡ length locals
length_put place.Nowhere n locals = refl
length_put (place.Local k width) n locals = length-set locals k (kept_part width n)
length_put (place.Memory a width zero_alone) n locals = refl

pub length_after : (ws : List Write) (locals : List ℕ) → length (locals_after ws locals) ≡ length locals
length_after [] locals = refl
length_after (w ∷ ws) locals = length_after ws (put_in w.0 w.1 locals) ∙ length_put w.0 w.1 locals
