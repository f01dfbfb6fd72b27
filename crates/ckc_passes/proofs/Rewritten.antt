-- What a pass makes that puts one operation for each and one end for each.
use Rattle.std.proofs.Common.{List, [], ◌∷◌, map, refl}
use Rattle.std.specs.List.{AllZip}
use Rattle.ckc_tac.specs.declared.code.Tac.{Tac}
use Rattle.ckc_tac.specs.declared.code.TacFunc.{TacFunc}
use Rattle.ckc_tac.specs.declared.code.TacBlock.{TacBlock}
use Rattle.ckc_tac.specs.declared.code.TacOp.{TacOp}
use Rattle.ckc_tac.specs.declared.code.TacEnd.{TacEnd}
use Rattle.ckc_passes.specs.Passes.{Becomes, ended, kept, BlockBecomes, FunctionBecomes, ProgramBecomes}
use Rattle.ckc_passes.specs.Rewrites.{Rewrite, ops_by, all_done, block_by, function_by, program_by, pass_by}

pub zip_map : {A B : Type 0} (R : A → B → Type 0) (f : A → B) → ((x : A) → R x (f x)) → (xs : List A) → AllZip R xs (map f xs)
zip_map R f h [] = tt
zip_map R f h (x ∷ xs) = (h x, zip_map R f h xs)

module _ (w : Rewrite) where
  becomes_by : (blocks : List TacBlock) (done ops : List TacOp) (end : TacEnd) → Becomes (pass_by w) blocks done ops end (ops_by w done ops) (w.end (all_done done ops) end)
  becomes_by blocks done [] end = ended refl
  becomes_by blocks done (op ∷ ops) end = kept refl (becomes_by blocks (op ∷ done) ops end)

  function_made : (f : TacFunc) → FunctionBecomes (pass_by w) f (function_by w f)
  function_made f = record {
    params = refl;
    regs = refl;
    blocks = zip_map (BlockBecomes (pass_by w) f.blocks) (block_by w) (λ b. becomes_by f.blocks [] b.ops b.end) f.blocks;
  }

  pub made_by : (t : Tac) → ProgramBecomes (pass_by w) t (program_by w t)
  made_by t = record {
    initial = refl;
    main = refl;
    funcs = zip_map (FunctionBecomes (pass_by w)) (function_by w) function_made t.funcs;
  }
