use Rattle.std.proofs.Common.{◌≡◌, ◌++◌, subst, sym}
use Rattle.std.specs.Prelude.{OnOk}
use Rattle.std.specs.List.{flat_map}
use Rattle.ckc_typed.specs.Statics.{strings_of_decl, strings_of_item}
use Rattle.ckc_typing_statics.proofs.strings.add_item.Goals as goal

pub returns-in-Struct : goal.returns-in-Struct
returns-in-Struct c =
    subst (λ i. OnOk c.add_decls.result (c.add_decls.new.all ≡ c.args.all.now ++ strings_of_item i)) (sym c.in-Struct.is)
    (subst (λ ds. OnOk c.add_decls.result (c.add_decls.new.all ≡ c.args.all.now ++ flat_map strings_of_decl ds)) c.as_slice.ensures c.add_decls.ensures)
